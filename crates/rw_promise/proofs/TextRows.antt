-- The records of the sample's inputs: the names of the columns, and a row for each timestep.
use Rattle.rw_base.proofs.Common.{arith, add-zero, and_parts, ap, append-nil, append_assoc, codes}
use Rattle.rw_base.proofs.Common.{decimal, false, length, length-append, List, [], list_all}
use Rattle.rw_base.proofs.Common.{nat_tests, refl, Some, suc, sym, true, zero, ℕ, ◌+◌, ◌-◌, ◌<◌, ◌≤◌, ◌++◌, ◌∷◌, ◌≡◌, ◌==◌, ◌∙◌}
use Rattle.csv.specs.Machine.{next_record}
use Rattle.csv.specs.Reading.{default_config, records_from, records_next, strip_bom}
use Rattle.csv.specs.declared.parser.State.TheVariants as st
use Rattle.rw_base.specs.Byte.{is_digit}
use Rattle.rw_inputs.specs.Records.{Fields, records_of}
use Rattle.rw_base.proofs.Digits.{digit_bounds}
use Rattle.rw_sample.specs.Texts.{inflow_rows, inflow_words, sample_inputs, seeded_inflow, seeded_number}
use Rattle.rw_promise.proofs.Decimals.{spelt}

-- what the seed gives at a timestep, which is below 1000
abbrev pub inflow : (seed step : ℕ) → ℕ
inflow seed step = seeded_inflow (seeded_number seed step)

pub inflow_small : (seed step : ℕ) → inflow seed step < 1000
inflow_small seed step = omega arith

-- ---- one row

-- digits join the field at hand
digits_run : (fields : List (List ℕ)) (field text tail : List ℕ) → list_all is_digit text ≡ true
    → next_record default_config st.InField fields field (text ++ tail) ≡ next_record default_config st.InField fields (field ++ text) tail
unfolding next_record
digits_run fields field [] tail all = rw (append-nil field) refl
digits_run fields field (byte ∷ text) tail all =
    let parts = and_parts (is_digit byte) (list_all is_digit text) all in
    let here = digit_bounds byte parts.0 in
    let comma : (byte == 44) ≡ false = grind (arith, nat_tests, here) in
    let return : (byte == 13) ≡ false = grind (arith, nat_tests, here) in
    let feed : (byte == 10) ≡ false = grind (arith, nat_tests, here) in
    rw (comma, return, feed) (digits_run fields (field ++ byte ∷ []) text tail parts.1
    ∙ ap (λ (f : List ℕ). next_record default_config st.InField fields f tail) (append_assoc field (byte ∷ []) text))

-- digits from the start of a field, and the byte behind them
field_read : (fields : List (List ℕ)) (text : List ℕ) (byte : ℕ) (tail : List ℕ) → (byte == 34) ≡ false → list_all is_digit text ≡ true
    → next_record default_config st.StartField fields [] (text ++ (byte ∷ tail)) ≡ next_record default_config st.InField fields text (byte ∷ tail)
unfolding next_record
field_read fields [] byte tail plain all = rw plain refl
field_read fields (first ∷ text) byte tail plain all =
    let parts = and_parts (is_digit first) (list_all is_digit text) all in
    let here = digit_bounds first parts.0 in
    let quote : (first == 34) ≡ false = grind (arith, nat_tests, here) in
    let comma : (first == 44) ≡ false = grind (arith, nat_tests, here) in
    let return : (first == 13) ≡ false = grind (arith, nat_tests, here) in
    let feed : (first == 10) ≡ false = grind (arith, nat_tests, here) in
    rw (quote, comma, return, feed) (digits_run fields (first ∷ []) text (byte ∷ tail) parts.1)

row_read : (step value tail : List ℕ) → list_all is_digit step ≡ true → list_all is_digit value ≡ true
    → next_record default_config st.StartRecord [] [] ((codes "D1.Inflow," ++ (step ++ (codes "," ++ (value ++ codes "\n")))) ++ tail)
    ≡ Some (codes "D1.Inflow" ∷ step ∷ value ∷ [], st.StartRecord, tail)
unfolding next_record
row_read step value tail step_digits value_digits =
    let rest : (step ++ (codes "," ++ (value ++ codes "\n"))) ++ tail ≡ step ++ (44 ∷ (value ++ (10 ∷ tail))) =
    append_assoc step (codes "," ++ (value ++ codes "\n")) tail ∙ ap (λ text. step ++ (44 ∷ text)) (append_assoc value (codes "\n") tail) in
    ap (λ text. next_record default_config st.StartRecord [] [] (codes "D1.Inflow," ++ text)) rest
    ∙ field_read (codes "D1.Inflow" ∷ []) step 44 (value ++ (10 ∷ tail)) refl step_digits
    ∙ field_read (codes "D1.Inflow" ∷ step ∷ []) value 10 tail refl value_digits

-- ---- all of them

abbrev pub row_fields : (seed step : ℕ) → Fields
row_fields seed step = codes "D1.Inflow" ∷ decimal step ∷ decimal (inflow seed step) ∷ []

-- the rows of the first timesteps, so many of them
unfoldable pub fields_in : (seed count : ℕ) → List Fields
fields_in seed zero = []
fields_in seed (suc before) = fields_in seed before ++ row_fields seed (suc before) ∷ []

rows_read : (seed count more : ℕ) (tail : List ℕ) → count < 1000
    → records_from default_config (more + count) st.StartRecord (inflow_rows seed count ++ tail)
    ≡ fields_in seed count ++ records_from default_config more st.StartRecord tail
unfolding records_from inflow_rows fields_in
rows_read seed zero more tail few = ap (λ m. records_from default_config m st.StartRecord tail) (add-zero more)
rows_read seed (suc before) more tail few =
    let turns : more + suc before ≡ suc more + before = omega arith in
    ap (λ m. records_from default_config m st.StartRecord (inflow_rows seed (suc before) ++ tail)) turns
    ∙ ap (records_from default_config (suc more + before) st.StartRecord)
    (append_assoc (inflow_rows seed before) (inflow_words seed (suc before)) tail)
    ∙ rows_read seed before (suc more) (inflow_words seed (suc before) ++ tail) (omega (arith, few))
    ∙ ap (λ read. fields_in seed before ++ records_next (records_from default_config more) read)
    (row_read (decimal (suc before)) (decimal (inflow seed (suc before))) tail (spelt (suc before) few).digits
    (spelt (inflow seed (suc before)) (inflow_small seed (suc before))).digits)
    ∙ sym (append_assoc (fields_in seed before) (row_fields seed (suc before) ∷ []) (records_from default_config more st.StartRecord tail))

long_enough : (seed count : ℕ) → count ≤ length (inflow_rows seed count)
unfolding inflow_rows
long_enough seed zero = omega arith
long_enough seed (suc before) =
    let all = length-append (inflow_rows seed before) (inflow_words seed (suc before)) in
    omega (arith, all, long_enough seed before)

none_behind : (more : ℕ) → records_from default_config more st.StartRecord [] ≡ []
unfolding records_from next_record
none_behind zero = refl
none_behind (suc more) = refl

abbrev pub names : Fields
names = codes "slot" ∷ codes "step" ∷ codes "value" ∷ []

names_read : (rest : List ℕ) → records_of (codes "slot,step,value\n" ++ rest)
    ≡ names ∷ records_from default_config (length (codes "slot,step,value\n" ++ rest)) st.StartRecord rest
unfolding records_from next_record strip_bom
names_read rest = refl

pub records_read : (seed : ℕ) → records_of (sample_inputs seed) ≡ names ∷ fields_in seed 365
unfolding sample_inputs
records_read seed =
    let rest = inflow_rows seed 365 in
    let whole = length-append (codes "slot,step,value\n") rest in
    let turns : length (codes "slot,step,value\n" ++ rest) ≡ length (codes "slot,step,value\n" ++ rest) - 365 + 365 =
    omega (arith, whole, long_enough seed 365) in
    let more = length (codes "slot,step,value\n" ++ rest) - 365 in
    names_read rest ∙ ap (λ records. names ∷ records) (ap (λ m. records_from default_config m st.StartRecord rest) turns
    ∙ ap (records_from default_config (more + 365) st.StartRecord) (sym (append-nil rest))
    ∙ rows_read seed 365 more [] (omega arith)
    ∙ ap (λ records. fields_in seed 365 ++ records) (none_behind more) ∙ append-nil (fields_in seed 365))
