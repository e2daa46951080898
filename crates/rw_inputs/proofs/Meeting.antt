-- Edits that name one cell.
use Rattle.rw_base.proofs.Common.{◌≡◌, ℕ, ◌≤◌, true, max, nat_tests, arith}
use Rattle.rw_inputs.specs.declared.edit.Edit.{Edit}
use Rattle.rw_inputs.specs.Edits.{names}
use Rattle.rw_inputs.specs.EditRows.{meets}

pub named_by_both : (edit other : Edit) (slot step : ℕ) → names edit slot step ≡ true → names other slot step ≡ true → meets edit other ≡ true
named_by_both edit other slot step one two =
    let at : slot ≡ edit.slot = grind (arith, nat_tests) in
    let also : slot ≡ other.slot = grind (arith, nat_tests) in
    let from : edit.first ≤ step = grind (arith, nat_tests) in
    let to : step ≤ edit.last = grind (arith, nat_tests) in
    let begins : other.first ≤ step = grind (arith, nat_tests) in
    let ends : step ≤ other.last = grind (arith, nat_tests) in
    grind (arith, nat_tests)

names_at : (edit : Edit) (slot step : ℕ) → slot ≡ edit.slot → edit.first ≤ step → step ≤ edit.last → names edit slot step ≡ true
names_at edit slot step at from to = grind (arith, nat_tests)

-- at the later of their first timesteps
pub both_name : (edit other : Edit) → edit.first ≤ edit.last → other.first ≤ other.last → meets edit other ≡ true
    → (step : ℕ) × (names edit edit.slot step ≡ true) × (names other edit.slot step ≡ true)
both_name edit other one two meet =
    let same : edit.slot ≡ other.slot = grind (arith, nat_tests) in
    let before : edit.first ≤ other.last = grind (arith, nat_tests) in
    let behind : other.first ≤ edit.last = grind (arith, nat_tests) in (
      max edit.first other.first,
      names_at edit edit.slot (max edit.first other.first) (grind (arith, nat_tests)) (omega arith) (omega arith),
      names_at other edit.slot (max edit.first other.first) same (omega arith) (omega arith),
    )
