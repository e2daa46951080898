-- What a fate says, and that each put has one line.
use Rattle.rw_base.proofs.Common.{◌≡◌, ℕ, ◌<◌, Bool, true, false, IsTrue, List, [], ◌∷◌, ◌++◌, map, Option, Some, None}
use Rattle.rw_base.proofs.Common.{nat_le, refl, sym, ap, subst, ◌∙◌, arith, if◌then◌else◌, filter_map, cons_option}
use Rattle.rw_base.proofs.Common.{◌≢◌, ap₂, int_eq, Decides-int_eq, IfSome, false≢true}
use Rattle.rw_model.specs.declared.content.Content.{Content}
use Rattle.rw_model.specs.declared.put.PutEnd.{PutEnd}
use Rattle.rw_model.specs.declared.put.PutEnd.TheVariants as End
use Rattle.rw_model.specs.Draft.{Draft}
use Rattle.rw_model.specs.Put.{end_of_put, gives_way, is_value_kept}
use Rattle.rw_run.specs.Log.{Asked, Cells, Event, placed, opened, closed, idle, solved, fired, fault}
use Rattle.rw_run.specs.Next.{Policy, is_put_again}
use Rattle.rw_asked.specs.declared.fate.Fate.{Fate}
use Rattle.rw_asked.specs.declared.fate.Fate.TheVariants.{Written, Over, Kept, Denied, Again, Late}
use Rattle.rw_asked.proofs.Plain.{plain_joined}
use Rattle.rw_asked.specs.Asked.{AskedLine, IsFateOf, asked_lines, by_end, fate_of, fate_over, fates_alone, fates_of, is_in_run, lines_of_asks, put_lines, put_told_by, wanted_by, wanted_in}

-- ---- each put has one line

line_put : (put : Asked) (fate : Fate) → filter_map put_told_by (put_lines put fate) ≡ put ∷ []
line_put put Written = refl
line_put put (Over held) = refl
line_put put (Kept held) = refl
line_put put (Denied held) = refl
line_put put Again = refl
line_put put Late = refl

one_told : (put : Asked) (fate : Fate) (rest : List AskedLine) (puts : List Asked) → filter_map put_told_by rest ≡ puts
    → filter_map put_told_by (put_lines put fate ++ rest) ≡ put ∷ puts
one_told put fate rest puts is =
    plain_joined put_told_by (put_lines put fate) rest ∙ ap₂ (λ xs ys. xs ++ ys) (line_put put fate) is

fates_told : (basin : Draft) (cells : Cells) (puts : List Asked) → filter_map put_told_by (lines_of_asks (fates_of basin cells puts)) ≡ puts
fates_told basin cells [] = refl
fates_told basin cells (put ∷ puts) =
    one_told put (fate_of basin cells put puts) (lines_of_asks (fates_of basin cells puts)) puts (fates_told basin cells puts)

alone_told : (cells : Cells) (puts : List Asked) → filter_map put_told_by (lines_of_asks (fates_alone cells puts)) ≡ puts
alone_told cells [] = refl
alone_told cells (put ∷ puts) =
    one_told put (fate_over (cells put.cell) put.content) (lines_of_asks (fates_alone cells puts)) puts (alone_told cells puts)

pub each_told : (basin : Draft) (policy : Policy) (cells : Cells) (event : Event)
    → filter_map put_told_by (asked_lines basin policy cells event) ≡ wanted_in policy cells event
each_told basin policy cells (placed cell value) = refl
each_told basin policy cells (opened step) = refl
each_told basin policy cells (closed step) = refl
each_told basin policy cells (idle object step looked) = refl
each_told basin policy cells (fault why) = refl
each_told basin policy cells (solved dispatch) = alone_told cells dispatch.asked
each_told basin policy cells (fired firing) = fates_told basin cells (wanted_by policy cells firing)

-- ---- what it says

abbrev SaysOver : Option Content → Content → Fate → Type 0
SaysOver found new Written = IfSome found (λ held. held.value ≡ new.value) × (end_of_put found new ≡ End.Written)
SaysOver found new (Over held) = (found ≡ Some held) × (held.value ≢ new.value) × (end_of_put found new ≡ End.Written)
SaysOver found new (Kept held) = (found ≡ Some held) × (end_of_put found new ≡ End.Kept)
SaysOver found new (Denied held) = (found ≡ Some held) × (end_of_put found new ≡ End.Denied held)
SaysOver found new Again = ⊥
SaysOver found new Late = ⊥

abbrev code_of : PutEnd → ℕ
code_of End.Written = 0
code_of End.Kept = 1
code_of (End.Denied held) = 2

abbrev shown_in : Content → PutEnd → Content
shown_in other (End.Denied held) = held
shown_in other end = other

denied_shows : (kept way : Bool) (held shown : Content)
    → (if kept then End.Kept else (if way then End.Written else End.Denied held)) ≡ End.Denied shown → held ≡ shown
denied_shows true way held shown e = absurd (let no = ap code_of e in omega (arith, no))
denied_shows false true held shown e = absurd (let no = ap code_of e in omega (arith, no))
denied_shows false false held shown e = ap (shown_in held) e

-- what is written names what was there exactly where that is another value
over_held : (held new : Content) (same : Bool) → int_eq held.value new.value ≡ same → end_of_put (Some held) new ≡ End.Written
    → SaysOver (Some held) new (if same then Written else Over held)
over_held held new true is e = ((Decides-int_eq held.value new.value).0 is, e)
over_held held new false is e =
    (refl, λ alike. absurd (false≢true (sym is ∙ (Decides-int_eq held.value new.value).1 alike)), e)

-- a denied put names what is held
shown_held : (held new : Content) (end : PutEnd) → end_of_put (Some held) new ≡ end → SaysOver (Some held) new (by_end held new end)
shown_held held new End.Written e = over_held held new (int_eq held.value new.value) refl e
shown_held held new End.Kept e = (refl, e)
shown_held held new (End.Denied shown) e = (ap Some (denied_shows (is_value_kept held new) (gives_way held new) held shown e), e)

says_over : (found : Option Content) (new : Content) → SaysOver found new (fate_over found new)
says_over None new = (tt, refl)
says_over (Some held) new = shown_held held new (end_of_put (Some held) new) refl

says_more : (basin : Draft) (cells : Cells) (put : Asked) (later : List Asked) (fate : Fate)
    → SaysOver (cells put.cell) put.content fate → IsFateOf basin cells put later fate
says_more basin cells put later Written s = s
says_more basin cells put later (Over held) s = s
says_more basin cells put later (Kept held) s = s
says_more basin cells put later (Denied held) s = s
says_more basin cells put later Again s = absurd s
says_more basin cells put later Late s = absurd s

past_end : (a b : ℕ) → nat_le a b ≡ false → b < a
past_end a b e = grind (arith, e)

is_true_of : (k : Bool) → k ≡ true → IsTrue k
is_true_of k e = e

again_says : (basin : Draft) (cells : Cells) (put : Asked) (later : List Asked) (again : Bool) → is_put_again basin put later ≡ again
    → IsFateOf basin cells put later (if again then Again else fate_over (cells put.cell) put.content)
again_says basin cells put later true e = is_true_of _ e
again_says basin cells put later false e = says_more basin cells put later _ (says_over (cells put.cell) put.content)

late_says : (basin : Draft) (cells : Cells) (put : Asked) (later : List Asked) (inside : Bool) → is_in_run basin put ≡ inside
    → IsFateOf basin cells put later
    (if inside then (if is_put_again basin put later then Again else fate_over (cells put.cell) put.content) else Late)
late_says basin cells put later true e = again_says basin cells put later (is_put_again basin put later) refl
late_says basin cells put later false e = past_end put.cell.step.0 basin.control.stamps.count e

pub fate_says : (basin : Draft) (cells : Cells) (put : Asked) (later : List Asked) → IsFateOf basin cells put later (fate_of basin cells put later)
fate_says basin cells put later = late_says basin cells put later (is_in_run basin put) refl

pub alone_says : (basin : Draft) (cells : Cells) (put : Asked) → IsFateOf basin cells put [] (fate_over (cells put.cell) put.content)
alone_says basin cells put = says_more basin cells put [] _ (says_over (cells put.cell) put.content)
