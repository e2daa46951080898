-- The cells of one timestep.
use Rattle.rw_base.proofs.Common.{◌≡◌, ◌∙◌, ◌+◌, ◌-◌, ◌*◌, ◌<◌, ◌≤◌, ◌&&◌, ℕ, Bool, true, false, List, [], Option, None, map, take, drop, nat_le}
use Rattle.rw_base.proofs.Common.{get_or-map, length, length-map, nat_tests, slice_index_or, mul-le-mul_right, mul_comm, refl, ap, sym, arith, take-map}
use Rattle.std.proofs.lemmas.List.{drop-map, get_or-drop, get_or-take}
use Rattle.rw_series.specs.declared.kept.Kept.{Kept as IsKept}
use Rattle.rw_series.specs.Cells.{is_kept, kept_at, position_of}
use Rattle.rw_series.specs.Kept.{content_of}
use Rattle.rw_series.proofs.Places.{Kept-of, kept_at-at}

-- what one timestep and those before it have is no more than all have
pub row-fits : (width steps step all : ℕ) → all ≡ width * steps → step ≤ steps → step * width ≤ all
row-fits width steps step all whole last =
    let rows : step * width ≤ steps * width = mul-le-mul_right width last in omega (arith, rows, whole, mul_comm width steps)

pub row-ends : (width step : ℕ) → 1 ≤ step → (step - 1) * width + width ≡ step * width
row-ends width step first =
    let next : (step - 1) * width + width ≡ ((step - 1) + 1) * width = omega arith in
    let at : (step - 1) + 1 ≡ step = omega (arith, first) in next ∙ ap (λ n. n * width) at

row-at : {A : Type 0} (cells : List (Option A)) (width steps column step : ℕ) → 1 ≤ step → step ≤ steps
    → (test : Bool) → is_kept width steps column step ≡ test
    → kept_at width 1 (take width (drop ((step - 1) * width) cells)) column 1 ≡ kept_at width steps cells column step
row-at cells width steps column step first last true there =
    let kept = Kept-of width steps column step there in
    let here : is_kept width 1 column 1 ≡ true = grind (arith, nat_tests, kept.first_slot, kept.last_slot) in
    let near : column - 1 < width = omega (arith, kept.first_slot, kept.last_slot) in
    let row = take width (drop ((step - 1) * width) cells) in
    let at : position_of width column 1 ≡ column - 1 = omega arith in
    rw (here, there) (ap (λ place. slice_index_or row place None) at ∙ get_or-take width (drop ((step - 1) * width) cells) (column - 1) None near
    ∙ get_or-drop ((step - 1) * width) cells (column - 1) None)
row-at cells width steps column step first last false there =
    let here : is_kept width 1 column 1 ≡ false = grind (arith, nat_tests, there, first, last) in rw (here, there) refl

-- it has its cells
pub row-is : (cells : List IsKept) (width steps column step : ℕ) → 1 ≤ step → step ≤ steps
    → kept_at width 1 (map content_of (take width (drop ((step - 1) * width) cells))) column 1
    ≡ kept_at width steps (map content_of cells) column step
row-is cells width steps column step first last =
    ap (λ row. kept_at width 1 row column 1)
    (sym (take-map content_of width (drop ((step - 1) * width) cells)) ∙ ap (take width) (sym (drop-map content_of ((step - 1) * width) cells)))
    ∙ row-at (map content_of cells) width steps column step first last (is_kept width steps column step) refl

-- there is none
pub no-row : {A : Type 0} (cells : List (Option A)) (width steps any column step : ℕ) → (nat_le 1 step && nat_le step steps) ≡ false
    → kept_at 0 1 [] any 1 ≡ kept_at width steps cells column step
no-row cells width steps any column step none =
    let here : is_kept 0 1 any 1 ≡ false = grind (arith, nat_tests) in
    let there : is_kept width steps column step ≡ false = grind (arith, nat_tests, none) in rw (here, there) refl

-- what one timestep keeps of a slot that has a column
pub known-row : (cells : List IsKept) (width column place : ℕ) (d : IsKept) → length cells ≡ width * 1 → 1 ≤ column → column ≤ width
    → place ≡ column - 1 → content_of (slice_index_or cells place d) ≡ kept_at width 1 (map content_of cells) column 1
known-row cells width column place d whole first last at =
    let near : place < length cells = omega (arith, at, whole, first, last) in
    let inside : place < length (map content_of cells) = omega (arith, near, length-map cells content_of) in
    let there : is_kept width 1 column 1 ≡ true = grind (arith, nat_tests, first, last) in
    let position : place ≡ position_of width column 1 = omega (arith, at) in
    sym (get_or-map content_of cells place d (content_of d) near)
    ∙ kept_at-at width 1 (map content_of cells) column 1 place (content_of d) there position inside
