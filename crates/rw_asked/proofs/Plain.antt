-- The lines of an event without those of puts that weren't written are its lines in the trace.
use Rattle.rw_base.proofs.Common.{◌≡◌, ◌==◌, ℕ, Bool, true, false, ◌||◌, cond, List, [], ◌∷◌, ◌++◌, map, Option, Some, None}
use Rattle.rw_base.proofs.Common.{nat_le, refl, sym, ap, ap₂, subst, ◌∙◌, arith, if◌then◌else◌, cons_option, filter, filter_map}
use Rattle.rw_base.proofs.Common.{int_eq}
use Rattle.rw_base.proofs.Lists.{and_second_fails}
use Rattle.rw_model.specs.declared.content.Content.{Content}
use Rattle.rw_model.specs.declared.put.PutEnd.{PutEnd}
use Rattle.rw_model.specs.declared.put.PutEnd.TheVariants as End
use Rattle.rw_model.specs.Draft.{Draft}
use Rattle.rw_model.specs.Put.{end_of_put}
use Rattle.rw_series.specs.Series.{is_shared}
use Rattle.rw_run.specs.declared.trace.TraceEvent.{TraceEvent}
use Rattle.rw_run.specs.Dispatch.{is_written, puts_written}
use Rattle.rw_run.specs.Log.{Asked, Cells}
use Rattle.rw_run.specs.Next.{is_put_again, last_ones}
use Rattle.rw_run.specs.RunOf.{line_of}
use Rattle.rw_asked.specs.declared.fate.Fate.{Fate}
use Rattle.rw_asked.specs.declared.fate.Fate.TheVariants.{Written, Over, Again, Late}
use Rattle.rw_asked.specs.Asked.{AskedLine, plain_line, by_end, fate_of, fate_over, fates_alone, fates_of, is_in_run, lines_of_asks, plain_of, put_lines}

-- ---- lists

one_joined : {B : Type 0} (y : Option B) (whole front rest : List B) → whole ≡ front ++ rest → cons_option y whole ≡ cons_option y front ++ rest
one_joined None whole front rest e = e
one_joined (Some y) whole front rest e = ap (λ zs. y ∷ zs) e

pub plain_joined : {A B : Type 0} (f : A → Option B) (xs ys : List A) → filter_map f (xs ++ ys) ≡ filter_map f xs ++ filter_map f ys
plain_joined f [] ys = refl
plain_joined f (x ∷ xs) ys = one_joined (f x) (filter_map f (xs ++ ys)) (filter_map f xs) (filter_map f ys) (plain_joined f xs ys)

pub plain_told : (told : List TraceEvent) (rest : List AskedLine) → filter_map plain_of (map plain_line told ++ rest) ≡ told ++ filter_map plain_of
    rest
plain_told [] rest = refl
plain_told (line ∷ told) rest = ap (λ zs. line ∷ zs) (plain_told told rest)

-- ---- a put after the last timestep shares no cell with one before it

differs : (a b n : ℕ) → nat_le a n ≡ true → nat_le b n ≡ false → (b == a) ≡ false
differs a b n x y = grind (arith, x, y)

apart : (basin : Draft) (put later : Asked) → is_in_run basin put ≡ true → is_in_run basin later ≡ false
    → is_shared basin put.cell later.cell ≡ false
apart basin put later x y = and_second_fails _ _ (differs put.cell.step.0 later.cell.step.0 basin.control.stamps.count x y)

pub again_same : (basin : Draft) (put : Asked) (puts : List Asked) → is_in_run basin put ≡ true
    → is_put_again basin put (filter (is_in_run basin) puts) ≡ is_put_again basin put puts
again_same basin put [] x = refl
again_same basin put (later ∷ puts) x = by (again_same basin put puts x) (is_in_run basin later) refl
  where
    by : is_put_again basin put (filter (is_in_run basin) puts) ≡ is_put_again basin put puts → (k : Bool) → is_in_run basin later ≡ k
        → is_put_again basin put (cond k (later ∷ filter (is_in_run basin) puts) (filter (is_in_run basin) puts))
        ≡ (is_shared basin put.cell later.cell || is_put_again basin put puts)
    by same true e = ap (λ z. is_shared basin put.cell later.cell || z) same
    by same false e = same ∙ ap (λ z. z || is_put_again basin put puts) (sym (apart basin put later x e))

-- ---- a put that is written has its line, and no other has

over_plain : (held : Content) (put : Asked) (same : Bool)
    → filter_map plain_of (put_lines put (if same then Written else Over held)) ≡ line_of put ∷ []
over_plain held put true = refl
over_plain held put false = refl

by_end_plain : (held : Content) (put : Asked) (end : PutEnd)
    → filter_map plain_of (put_lines put (by_end held put.content end)) ≡ map line_of (cond (is_written end) (put ∷ []) [])
by_end_plain held put End.Written = over_plain held put (int_eq held.value put.content.value)
by_end_plain held put End.Kept = refl
by_end_plain held put (End.Denied shown) = refl

fate_plain : (found : Option Content) (put : Asked)
    → filter_map plain_of (put_lines put (fate_over found put.content))
    ≡ map line_of (cond (is_written (end_of_put found put.content)) (put ∷ []) [])
fate_plain None put = refl
fate_plain (Some held) put = by_end_plain held put (end_of_put (Some held) put.content)

with_rest : (k : Bool) (put : Asked) (puts : List Asked) → map line_of (cond k (put ∷ []) []) ++ map line_of puts ≡ map line_of
    (cond k (put ∷ puts) puts)
with_rest true put puts = refl
with_rest false put puts = refl

over_told : (found : Option Content) (put : Asked) (rest : List AskedLine) (puts : List Asked) → filter_map plain_of rest ≡ map line_of puts
    → filter_map plain_of (put_lines put (fate_over found put.content) ++ rest)
    ≡ map line_of (cond (is_written (end_of_put found put.content)) (put ∷ puts) puts)
over_told found put rest puts is =
    plain_joined plain_of (put_lines put (fate_over found put.content)) rest
    ∙ ap₂ (λ xs ys. xs ++ ys) (fate_plain found put) is
    ∙ with_rest (is_written (end_of_put found put.content)) put puts

again_told : (cells : Cells) (put : Asked) (again : Bool) (rest : List AskedLine) (puts : List Asked)
    → filter_map plain_of rest ≡ map line_of (puts_written cells puts)
    → filter_map plain_of (put_lines put (if again then Again else fate_over (cells put.cell) put.content) ++ rest)
    ≡ map line_of (puts_written cells (if again then puts else put ∷ puts))
again_told cells put true rest puts is = is
again_told cells put false rest puts is = over_told (cells put.cell) put rest (puts_written cells puts) is

pub fates_plain : (basin : Draft) (cells : Cells) (puts : List Asked)
    → filter_map plain_of (lines_of_asks (fates_of basin cells puts))
    ≡ map line_of (puts_written cells (last_ones basin (filter (is_in_run basin) puts)))
fates_plain basin cells [] = refl
fates_plain basin cells (put ∷ puts) = by (fates_plain basin cells puts) (is_in_run basin put) refl
  where
    told : List AskedLine
    told = lines_of_asks (fates_of basin cells puts)

    those : List Asked
    those = filter (is_in_run basin) puts

    by : filter_map plain_of told ≡ map line_of (puts_written cells (last_ones basin those)) → (k : Bool) → is_in_run basin put ≡ k
        → filter_map plain_of (put_lines put
        (if k then (if is_put_again basin put puts then Again else fate_over (cells put.cell) put.content) else Late) ++ told)
        ≡ map line_of (puts_written cells (last_ones basin (cond k (put ∷ those) those)))
    by rest true e =
        ap (λ a. filter_map plain_of (put_lines put (if a then Again else fate_over (cells put.cell) put.content) ++ told))
        (sym (again_same basin put puts e))
        ∙ again_told cells put (is_put_again basin put those) told (last_ones basin those) rest
    by rest false e = rest

pub alone_plain : (cells : Cells) (puts : List Asked)
    → filter_map plain_of (lines_of_asks (fates_alone cells puts)) ≡ map line_of (puts_written cells puts)
alone_plain cells [] = refl
alone_plain cells (put ∷ puts) =
    over_told (cells put.cell) put (lines_of_asks (fates_alone cells puts)) (puts_written cells puts) (alone_plain cells puts)
