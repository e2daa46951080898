-- Lines that are kept, and tell of the first timesteps.
use Rattle.rw_base.proofs.Common.{◌≡◌, ◌≤◌, ◌<◌, ◌+◌, ◌∙◌, ℕ, zero, suc, ℤ, Bool, true, false, List, [], ◌∷◌, ◌++◌, All, All-contains, Option, Some}
use Rattle.rw_base.proofs.Common.{ap, ap₂, arith, get_or_from_slice_get, length, length-set, map, nat_lt, nat_tests, none-some, option_map, refl}
use Rattle.rw_base.proofs.Common.{same_Some, set, slice_get, slice_get_within, string_bytes, subst, suc-eq-add-one, sym, take}
use Rattle.rw_base.specs.declared.number.Cell.{Cell}
use Rattle.rw_base.proofs.Lists.{got_set}
use Rattle.rw_model.specs.Draft.{Draft}
use Rattle.rw_model.specs.Objects.{all_slots}
use Rattle.rw_model.specs.declared.content.Content.{Content}
use Rattle.rw_run.specs.Dispatch.{cell_at}
use Rattle.rw_run.specs.Log.{Cells}
use Rattle.rw_report.specs.Kept.{AreInPlace, IsTold, TellFirst, TellsKeptLine, first_texts, text_in}
use Rattle.rw_report.specs.Section.{row, rows, values_in}
use Rattle.rw_report.specs.Sheet.{AreToldBefore, AreToldOf, sheet_line, values_listed, values_of}
use Rattle.rw_report.specs.declared.kept.KeptLine.{KeptLine}
use Rattle.rw_report.proofs.Listing.{row_told}

-- ---- lists

set_before : {A : Type 0} (items : List A) (place at : ℕ) (one item : A) → at < place → slice_get (set items place one) at ≡ Some item
    → slice_get items at ≡ Some item
set_before [] place at one item near there =
    absurd (let within = slice_get_within (set [] place one) at item there in let none = length-set [] place one in omega (arith, within, none))
set_before (first ∷ items) zero at one item near there = absurd (omega (arith, near))
set_before (first ∷ items) (suc place) zero one item near there = there
set_before (first ∷ items) (suc place) (suc at) one item near there = set_before items place at one item (omega (arith, near)) there

pub pushed_before : {A : Type 0} (items : List A) (at : ℕ) (one item : A) → at < length items → slice_get (items ++ one ∷ []) at ≡ Some item
    → slice_get items at ≡ Some item
pushed_before [] at one item near there = absurd (omega (arith, near))
pushed_before (first ∷ items) zero one item near there = there
pushed_before (first ∷ items) (suc at) one item near there = pushed_before items at one item (omega (arith, near)) there

-- ---- lines

-- one line more tells of its timestep
pub tells_more : (basin : Draft) (cells : Cells) (lines : List KeptLine) (place step : ℕ) (one : KeptLine) → step ≡ place + 1 → place < length lines
    → TellsKeptLine basin cells step one → TellFirst basin cells place lines → TellFirst basin cells step (set lines place one)
tells_more basin cells lines place step one next near tells first at line before there = by (nat_lt at place) refl
  where
    by : (less : Bool) → nat_lt at place ≡ less → TellsKeptLine basin cells (at + 1) line
    by true is =
        let less : at < place = grind (arith, nat_tests, is) in first at line less (set_before lines place at one line less there)
    by false is =
        let far : place ≤ at = grind (arith, nat_tests, is) in
        let same : at ≡ place = omega (arith, far, before, next) in
        let step_is : step ≡ at + 1 = omega (arith, same, next) in
        subst (λ n. TellsKeptLine basin cells n line) step_is
        (subst (TellsKeptLine basin cells step)
        (same_Some one line (sym (got_set lines place one near) ∙ ap (slice_get (set lines place one)) (sym same) ∙ there)) tells)

-- and so does one that tells of it already
pub tells_one_more : (basin : Draft) (cells : Cells) (lines : List KeptLine) (count : ℕ) (one : KeptLine) → slice_get lines count ≡ Some one
    → TellsKeptLine basin cells (count + 1) one → TellFirst basin cells count lines → TellFirst basin cells (count + 1) lines
tells_one_more basin cells lines count one here tells first at line before there = by (nat_lt at count) refl
  where
    by : (less : Bool) → nat_lt at count ≡ less → TellsKeptLine basin cells (at + 1) line
    by true is = let less : at < count = grind (arith, nat_tests, is) in first at line less there
    by false is =
        let far : count ≤ at = grind (arith, nat_tests, is) in
        let same : at ≡ count = omega (arith, far, before) in
        subst (λ n. TellsKeptLine basin cells (n + 1) line) (sym same)
        (subst (TellsKeptLine basin cells (count + 1)) (same_Some one line (sym here ∙ ap (slice_get lines) (sym same) ∙ there)) tells)

-- and one that is put behind them changes none of them
pub tells_still : (basin : Draft) (cells : Cells) (lines : List KeptLine) (count : ℕ) (one : KeptLine) → count ≤ length lines
    → TellFirst basin cells count lines → TellFirst basin cells count (lines ++ one ∷ [])
tells_still basin cells lines count one few first at line before there =
    first at line before (pushed_before lines at one line (omega (arith, before, few)) there)

-- a line that tells of a timestep has the text of its row
pub row_of : (basin : Draft) (cells : Cells) (step : ℕ) (line : KeptLine) → 1 ≤ step → IsTold basin line → TellsKeptLine basin cells step line
    → string_bytes line.text ≡ row basin (values_in cells) step
row_of basin cells step line first told tells =
    let same = tells.step_is in
    told (omega (arith, same, first)) ∙ ap₂ (λ n values. sheet_line basin n values) same tells.values_are ∙ row_told basin (values_in cells) step

pub row_there : (basin : Draft) (cells : Cells) (count place : ℕ) (lines : List KeptLine) (line : KeptLine) → place < count
    → slice_get lines place ≡ Some line → All (IsTold basin) lines → TellFirst basin cells count lines
    → string_bytes line.text ≡ row basin (values_in cells) (place + 1)
row_there basin cells count place lines line near there all first =
    row_of basin cells (place + 1) line (omega arith)
    (All-contains (IsTold basin) lines line all (place, slice_get_within lines place line there, get_or_from_slice_get lines place line line there))
    (first place line near there)

pub in_place : (basin : Draft) (cells : Cells) (count : ℕ) (lines : List KeptLine) → TellFirst basin cells count lines → AreInPlace count lines
in_place basin cells count lines first place line near there = (first place line near there).step_is

-- ---- their texts

line_there : (lines : List KeptLine) (place : ℕ) → place < length lines → (line : KeptLine) × (slice_get lines place ≡ Some line)
line_there [] place near = absurd (omega (arith, near))
line_there (line ∷ lines) zero near = (line, refl)
line_there (line ∷ lines) (suc place) near = line_there lines place (omega (arith, near))

-- the first lines are the rows of the cells of which they tell
pub texts_are_rows : (basin : Draft) (cells : Cells) (count : ℕ) (lines : List KeptLine) → All (IsTold basin) lines → count ≤ length lines
    → TellFirst basin cells count lines → first_texts count lines ≡ rows basin (values_in cells) count
texts_are_rows basin cells zero lines all few first = refl
texts_are_rows basin cells (suc before) lines all few first =
    let found = line_there lines before (omega (arith, few)) in
    let front = texts_are_rows basin cells before lines all (omega (arith, few)) (λ place line near there. first place line (omega (arith, near)) there) in
    let last = row_there basin cells (suc before) before lines found.0 (omega arith) found.1 all first in
    ap₂ (λ t u. t ++ u) front
    (ap text_in found.1 ∙ last ∙ ap (row basin (values_in cells)) (sym (suc-eq-add-one before)))

-- the last one is that of the line in its place
pub texts_more : (lines : List KeptLine) (before next : ℕ) (line : KeptLine) → next ≡ before + 1 → slice_get lines before ≡ Some line
    → first_texts next lines ≡ first_texts before lines ++ string_bytes line.text
texts_more lines before next line is there =
    ap (λ n. first_texts n lines) (is ∙ sym (suc-eq-add-one before)) ∙ ap (λ found. first_texts before lines ++ text_in found) there

-- ---- their values

values_there : (lines : List KeptLine) (told place : ℕ) (line : KeptLine) → place < told → slice_get lines place ≡ Some line
    → slice_get (map (λ (one : KeptLine). one.values.items) (take told lines)) place ≡ Some line.values.items
values_there [] told place line near there = absurd (none-some _ there)
values_there (first ∷ lines) zero place line near there = absurd (omega (arith, near))
values_there (first ∷ lines) (suc told) zero line near there =
    ap (λ (one : KeptLine). Some one.values.items) (same_Some first line there)
values_there (first ∷ lines) (suc told) (suc place) line near there = values_there lines told place line (omega (arith, near)) there

-- what was told before a timestep is told of other cells, too
pub tells_before : (basin : Draft) (cells : Cells) (same told first : ℕ) (lines : List KeptLine) → AreInPlace told lines → first ≤ told
    → ((place : ℕ) → place < first → place + 1 < same)
    → AreToldBefore basin cells same (map (λ (one : KeptLine). one.values.items) (take told lines)) → TellFirst basin cells first lines
tells_before basin cells same told first lines in_places few earlier are place line near there =
    let within : place < told = omega (arith, near, few) in record {
      step_is = in_places place line within there;
      values_are = are place line.values.items (earlier place near) (values_there lines told place line within there);
    }

told_values : (basin : Draft) (cells : Cells) (lines : List KeptLine) (told behind : ℕ) (place : ℕ) (values : List (Option ℤ))
    → ((at : ℕ) (line : KeptLine) → at < told → slice_get lines at ≡ Some line → line.values.items ≡ values_of basin cells (behind + at + 1))
    → slice_get (map (λ (one : KeptLine). one.values.items) (take told lines)) place ≡ Some values
    → values ≡ values_of basin cells (behind + place + 1)
told_values basin cells lines zero behind place values each there = absurd (none-some _ there)
told_values basin cells [] (suc told) behind place values each there = absurd (none-some _ there)
told_values basin cells (first ∷ lines) (suc told) behind zero values each there =
    sym (same_Some first.values.items values there) ∙ each zero first (omega arith) refl
told_values basin cells (first ∷ lines) (suc told) behind (suc place) values each there =
    let on : behind + 1 + place + 1 ≡ behind + suc place + 1 = omega arith in
    told_values basin cells lines told (behind + 1) place values
    (λ at line near here.
    let next : behind + suc at + 1 ≡ behind + 1 + at + 1 = omega arith in
    each (suc at) line (omega (arith, near)) here ∙ ap (values_of basin cells) next) there
    ∙ ap (values_of basin cells) on

pub told_by : (basin : Draft) (cells : Cells) (lines : List KeptLine) (told : ℕ) → TellFirst basin cells told lines
    → AreToldOf basin cells (map (λ (one : KeptLine). one.values.items) (take told lines))
told_by basin cells lines told first before values there =
    told_values basin cells lines told 0 before values
    (λ at line near here. (first at line near here).values_are ∙ ap (values_of basin cells) (omega arith)) there
    ∙ ap (values_of basin cells) (omega arith)

-- ---- cells that hold alike

listed_alike : (one other : ℕ → Option ℤ) (count : ℕ) → ((slot : ℕ) → one slot ≡ other slot) → values_listed one count ≡ values_listed other count
listed_alike one other zero same = refl
listed_alike one other (suc before) same = ap₂ (λ t v. t ++ v ∷ []) (listed_alike one other before same) (same (suc before))

pub values_alike : (basin : Draft) (one other : Cells) (step : ℕ) → ((cell : Cell) → cell.step.0 ≡ step → one cell ≡ other cell)
    → values_of basin one step ≡ values_of basin other step
values_alike basin one other step same =
    listed_alike (λ slot. values_in one slot step) (λ slot. values_in other slot step) (length (all_slots basin.objects))
    (λ slot. ap (λ content. option_map (λ (held : Content). held.value) content) (same (cell_at slot step) refl))
