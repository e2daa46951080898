-- The records that are left of a text.
use Rattle.rw_base.proofs.Common.{◌≡◌, ◌<◌, ◌≤◌, ℕ, zero, suc, Bool, true, false, if◌then◌else◌, List, [], ◌∷◌, ◌++◌, ◌==◌, ◌&&◌, not, length, take}
use Rattle.rw_base.proofs.Common.{drop, Option, Some, None, refl, sym, ap, subst, ◌∙◌, arith, Bor, false≢true, same_Some}
use Rattle.csv.specs.Machine.{Read, ends_at_end, field_after, fields_after, is_end, next_record, step}
use Rattle.csv.specs.Reading.{AreRecords, Reached, ReadRecord, default_config, Ready, has_failed, reader_trim, records_from, records_next, source_of}
use Rattle.csv.specs.Reading.{strip_bom}
use Rattle.csv.specs.declared.parser.Config.{Config}
use Rattle.csv.specs.declared.parser.State.{State}
use Rattle.csv.specs.declared.parser.State.TheVariants as st
use Rattle.csv.specs.declared.reader.Reader.{Reader}
use Rattle.csv.specs.declared.reader.Trim.TheVariants as trim
use Rattle.csv.proofs.ReadFacts.{rows-end, rows-more}
use Rattle.rw_inputs.specs.Records.{Fields, TakesEach, IsPlainOrFailed, records_in, records_left}

-- ---- a record takes a byte at least

ended : (fields : Fields) (r : Read) (end : Bool) → (if end then Some (fields, st.StartRecord, []) else None) ≡ Some r
    → (r.1 ≡ st.StartRecord) × (r.2 ≡ [])
ended fields r true is = let same = same_Some _ _ is in (sym (ap (λ (r : Read). r.1) same), sym (ap (λ (r : Read). r.2) same))
ended fields r false is = absurd (cc)

shorter_by : (n : ℕ) (one r : Read) (later : Option Read) → length one.2 ≤ n → (later ≡ Some r → length r.2 ≤ n)
    → (end : Bool) → (if end then Some one else later) ≡ Some r → length r.2 ≤ n
shorter_by n one r later here more true is = subst (λ (r : Read). length r.2 ≤ n) (same_Some _ _ is) here
shorter_by n one r later here more false is = more is

shorter : (cfg : Config) (rest : List ℕ) (s : State) (fields : Fields) (field : List ℕ) (c : ℕ) (r : Read)
    → next_record cfg s fields field (c ∷ rest) ≡ Some r → length r.2 ≤ length rest
unfolding next_record
shorter cfg [] s fields field c r is =
    let next = step cfg s c in
    let whole = fields_after next.1 fields field in
    shorter_by 0 (whole, next.0, []) r _ (omega arith)
    (λ last. let end = ended _ r (ends_at_end next.0) last in let none = ap length end.1 in omega (arith, none))
    (is_end next.1) is
shorter cfg (d ∷ rest) s fields field c r is =
    let next = step cfg s c in
    let whole = fields_after next.1 fields field in
    shorter_by (suc (length rest)) (whole, next.0, d ∷ rest) r _ (omega arith)
    (λ more. let below = shorter cfg rest next.0 whole (field_after next.1 c field) d r more in omega (arith, below))
    (is_end next.1) is

-- ---- so a count of the bytes is enough for all records

none_behind : (cfg : Config) (n : ℕ) → records_from cfg n st.StartRecord [] ≡ []
unfolding records_from next_record
none_behind cfg zero = refl
none_behind cfg (suc n) = refl

none_after : (cfg : Config) (n : ℕ) (r : Read) → (r.1 ≡ st.StartRecord) × (r.2 ≡ []) → records_from cfg n r.1 r.2 ≡ []
none_after cfg n r end = ap (λ s. records_from cfg n s r.2) end.0 ∙ ap (records_from cfg n st.StartRecord) end.1 ∙ none_behind cfg n

last_record : (cfg : Config) (s : State) (r : Read) → next_record cfg s [] [] [] ≡ Some r → (r.1 ≡ st.StartRecord) × (r.2 ≡ [])
unfolding next_record
last_record cfg s r is = ended _ r (ends_at_end s) is

next_same : (cfg : Config) (n m : ℕ) (o : Option Read) → ((r : Read) → o ≡ Some r → records_from cfg n r.1 r.2 ≡ records_from cfg m r.1 r.2)
    → records_next (records_from cfg n) o ≡ records_next (records_from cfg m) o
next_same cfg n m None same = refl
next_same cfg n m (Some r) same = ap (λ rest. r.0 ∷ rest) (same r refl)

records_same : (cfg : Config) (n m : ℕ) (s : State) (xs : List ℕ) → length xs < n → length xs < m → records_from cfg n s xs ≡ records_from cfg m s xs
unfolding records_from
records_same cfg zero m s xs few also = absurd (omega (arith, few))
records_same cfg (suc n) zero s xs few also = absurd (omega (arith, also))
records_same cfg (suc n) (suc m) s [] few also =
    next_same cfg n m (next_record cfg s [] [] [])
    (λ r is. let end = last_record cfg s r is in none_after cfg n r end ∙ sym (none_after cfg m r end))
records_same cfg (suc n) (suc m) s (c ∷ xs) few also =
    next_same cfg n m (next_record cfg s [] [] (c ∷ xs))
    (λ r is.
    let below = shorter cfg xs s [] [] c r is in
    records_same cfg n m r.1 r.2 (omega (arith, few, below)) (omega (arith, also, below)))

-- ---- the records of a text, one after another

next_are : (cfg : Config) (more : State → List ℕ → List Fields) (s : State) (xs : List ℕ) (o : Option Read) → next_record cfg s [] [] xs ≡ o
    → ((r : Read) → o ≡ Some r → AreRecords cfg r.1 r.2 (more r.1 r.2)) → AreRecords cfg s xs (records_next more o)
unfolding Reached
next_are cfg more s xs None is later = (s, xs, (refl, refl), is)
next_are cfg more s xs (Some r) is later = let rest = later r refl in (rest.0, rest.1, (r, is, refl, rest.2), rest.3)

none_are : (cfg : Config) (s : State) (xs : List ℕ) (rows : List Fields) → s ≡ st.StartRecord → xs ≡ [] → rows ≡ [] → AreRecords cfg s xs rows
unfolding Reached next_record
none_are cfg s xs rows start end none = rw (start, end, none) (st.StartRecord, [], (refl, refl), refl)

are_from : (cfg : Config) (n : ℕ) (s : State) (xs : List ℕ) → length xs < n → AreRecords cfg s xs (records_from cfg n s xs)
unfolding records_from
are_from cfg zero s xs few = absurd (omega (arith, few))
are_from cfg (suc n) s [] few =
    next_are cfg (records_from cfg n) s [] (next_record cfg s [] [] []) refl
    (λ r is. let end = last_record cfg s r is in none_are cfg r.1 r.2 (records_from cfg n r.1 r.2) end.0 end.1 (none_after cfg n r end))
are_from cfg (suc n) s (c ∷ xs) few =
    next_are cfg (records_from cfg n) s (c ∷ xs) (next_record cfg s [] [] (c ∷ xs)) refl
    (λ r is. let below = shorter cfg xs s [] [] c r is in are_from cfg n r.1 r.2 (omega (arith, few, below)))

pub all_left : (s : State) (text : List ℕ) → AreRecords default_config s text (records_in s (Some text))
all_left s text = are_from default_config (suc (length text)) s text (omega arith)

left_more : (s : State) (text : List ℕ) (r : Read) → next_record default_config s [] [] text ≡ Some r
    → records_in s (Some text) ≡ r.0 ∷ records_in r.1 (Some r.2)
unfolding records_from
left_more s [] r is =
    let end = last_record default_config s r is in
    ap (records_next (records_from default_config 0)) is
    ∙ ap (λ rest. r.0 ∷ rest) (none_after default_config 0 r end ∙ sym (none_after default_config (suc (length r.2)) r end))
left_more s (c ∷ text) r is =
    let below = shorter default_config text s [] [] c r is in
    ap (records_next (records_from default_config (suc (length text)))) is
    ∙ ap (λ rest. r.0 ∷ rest) (records_same default_config (suc (length text)) (suc (length r.2)) r.1 r.2 (omega (arith, below)) (omega arith))

left_none : (s : State) (text : List ℕ) → next_record default_config s [] [] text ≡ None → records_in s (Some text) ≡ []
unfolding records_from
left_none s text is = ap (records_next (records_from default_config (length text))) is

-- ---- what a read takes of them

abbrev pub rest_of : Bor (List ℕ) → Option (List ℕ)
rest_of text = Some text.now

known_by : (text held : List ℕ) (fresh : Bool) → (rest : List ℕ) × ((if fresh then Some (strip_bom text) else Some (held ++ text)) ≡ Some rest)
known_by text held true = (strip_bom text, refl)
known_by text held false = (held ++ text, refl)

-- what a reader of a text has left is known, unless it has failed
known : (reader : Reader (Bor (List ℕ))) → has_failed reader ≡ false → (rest : List ℕ) × (source_of rest_of reader ≡ Some rest)
known reader works =
    rw works (known_by reader.rdr.now (drop reader.at (take reader.filled reader.buffer))
    (not reader.bom_checked && (reader.at == 0) && (reader.filled == 0)))

taken_one : (old new : Reader (Bor (List ℕ))) (fields : Fields) (text rest : List ℕ) (row : Read) → source_of rest_of old ≡ Some text
    → source_of rest_of new ≡ Some rest → next_record default_config old.state [] [] text ≡ Some row → fields ≡ row.0 → row.1 ≡ new.state
    → row.2 ≡ rest
    → records_left old ≡ fields ∷ records_left new
taken_one old new fields text rest row before after next is state left =
    ap (records_in old.state) before
    ∙ left_more old.state text row next
    ∙ ap (λ fields. fields ∷ records_in row.1 (Some row.2)) (sym is)
    ∙ ap (λ s. fields ∷ records_in s (Some row.2)) state
    ∙ ap (λ text. fields ∷ records_in new.state (Some text)) left
    ∙ ap (λ text. fields ∷ records_in new.state text) (sym after)

reached_one : (old new : Reader (Bor (List ℕ))) (fields : Fields) (text : List ℕ) → source_of rest_of old ≡ Some text
    → (rest : List ℕ) × (source_of rest_of new ≡ Some rest) × Reached default_config old.state text (fields ∷ []) new.state rest
    → records_left old ≡ fields ∷ records_left new
unfolding Reached
reached_one old new fields text before (rest, after, one) = taken_one old new fields text rest one.0 before after one.1 one.2 one.3.0 one.3.1

read_next : (old new : Reader (Bor (List ℕ))) (fields : Fields) → TakesEach old → ReadRecord rest_of old new true fields
    → (rest : List ℕ) × (source_of rest_of old ≡ Some rest) → records_left old ≡ fields ∷ records_left new
unfolding Reached
read_next old new fields plain read (text, before) =
    reached_one old new fields text before (rows-more rest_of old new fields default_config old.state text text [] plain.config before
    (refl, refl) read)

read_end : (old new : Reader (Bor (List ℕ))) (fields : Fields) → TakesEach old → ReadRecord rest_of old new false fields
    → (rest : List ℕ) × (source_of rest_of old ≡ Some rest) → records_left old ≡ []
read_end old new fields plain read (text, before) =
    ap (records_in old.state) before
    ∙ left_none old.state text (rows-end rest_of old new fields default_config text plain.config before read)

none_left : (old : Reader (Bor (List ℕ))) → has_failed old ≡ true → records_left old ≡ []
none_left old failed = rw failed refl

-- a read takes the first of the records that are left, or finds none
module _ (old new : Reader (Bor (List ℕ))) (fields : Fields) (plain : IsPlainOrFailed old) (found : Bool)
    (stopped : has_failed old ≡ true → found ≡ false)
    (reads : reader_trim old ≡ trim.None → Ready old → ReadRecord rest_of old new found fields) where
  next_of : (failed : Bool) → has_failed old ≡ failed → found ≡ true → records_left old ≡ fields ∷ records_left new
  next_of true failed more = absurd (false≢true (sym (stopped failed) ∙ more))
  next_of false works more =
      let was = plain works in
      read_next old new fields was (subst (λ found. ReadRecord rest_of old new found fields) more (reads was.trim was.ready)) (known old works)

  end_of : (failed : Bool) → has_failed old ≡ failed → found ≡ false → records_left old ≡ []
  end_of true failed none = none_left old failed
  end_of false works none =
      let was = plain works in
      read_end old new fields was (subst (λ found. ReadRecord rest_of old new found fields) none (reads was.trim was.ready)) (known old works)

  pub left-next : found ≡ true → records_left old ≡ fields ∷ records_left new
  left-next = next_of (has_failed old) refl

  pub left-end : found ≡ false → records_left old ≡ []
  left-end = end_of (has_failed old) refl
