-- The worked rows of a power reservoir whose table is too long to be counted out.
use Rattle.rw_base.proofs.Common.{List, None, Some, [], arith, ints, pos, refl, ℤ, ◌∷◌, ◌≡◌, ◌<ℤ◌, ◌≤ℤ◌}
use Rattle.rw_base.specs.declared.number.ObjectNo.{ObjectNo}
use Rattle.rw_table.specs.Table.{IsTable, Row}
use Rattle.rw_table.specs.Curve.{elev_of}
use Rattle.rw_table.specs.Line.{IsLastOnLine}
use Rattle.rw_table.proofs.Elevation.{line_elevation}
use Rattle.rw_table.proofs.Judgement.{table_iff}
use Rattle.rw_model.specs.declared.kind.Kind.{Kind}
use Rattle.rw_model.specs.declared.kind.Kind.TheVariants.{PowerReservoir}
use Rattle.rw_method.specs.declared.solved.Solved.TheVariants.{Puts, OutOfRange}
use Rattle.rw_method.specs.Puts.{put}
use Rattle.rw_method.specs.Solve.{solve_of}
use Rattle.rw_method.specs.Worked.{input, high_dam, view_with}

abbrev rows : List Row
rows = (pos 0, pos 0) ∷ (pos 100000, pos 1000000) ∷ []

is_table : IsTable rows
is_table = (table_iff rows).0 refl

at : (s e : ℤ) → pos 0 ≤ℤ s → s <ℤ pos 1000000 → IsLastOnLine (pos 0, pos 0) (pos 100000, pos 1000000) s e → elev_of rows s ≡ Some e
at s e low high last = line_elevation rows 1 s e is_table (omega arith) (omega arith) low high last

before : elev_of rows (pos 500000) ≡ Some (pos 50000)
before = at (pos 500000) (pos 50000) (omega (arith, ints)) (omega (arith, ints)) (record {
  from_low = omega (arith, ints);
  to_high = omega (arith, ints);
  at_most = omega (arith, ints);
  last = λ below. omega (arith, ints);
})

let_out : elev_of rows (pos 498895) ≡ Some (pos 49889)
let_out = at (pos 498895) (pos 49889) (omega (arith, ints)) (omega (arith, ints)) (record {
  from_low = omega (arith, ints);
  to_high = omega (arith, ints);
  at_most = omega (arith, ints);
  last = λ below. omega (arith, ints);
})

asked : elev_of rows (pos 499530) ≡ Some (pos 49953)
asked = at (pos 499530) (pos 49953) (omega (arith, ints)) (omega (arith, ints)) (record {
  from_low = omega (arith, ints);
  to_high = omega (arith, ints);
  at_most = omega (arith, ints);
  last = λ below. omega (arith, ints);
})

-- over any rows that give these elevations
abbrev dam_of : List Row → Kind
dam_of table = PowerReservoir (pos 500000) table (pos 1000) (pos 10000) 2500

outflow_of : (table : List Row) (own : ObjectNo) → elev_of table (pos 500000) ≡ Some (pos 50000) → elev_of table (pos 498895) ≡ Some (pos 49889)
    → solve_of (dam_of table) (view_with (dam_of table) own (Some (pos 500000)) (input (pos 100) ∷ input (pos 1205) ∷ []))
    ≡ Puts (put 2 (pos 498895) 0 ∷ put 3 (pos 49889) 0 ∷ put 5 (pos 100) 0 ∷ put 6 (pos 1000) 0 ∷ put 7 (pos 205) 0 ∷ [])
outflow_of table own past now = rw (past, now) refl

pub outflow : (own : ObjectNo)
    → solve_of high_dam (view_with high_dam own (Some (pos 500000)) (input (pos 100) ∷ input (pos 1205) ∷ []))
    ≡ Puts (put 2 (pos 498895) 0 ∷ put 3 (pos 49889) 0 ∷ put 5 (pos 100) 0 ∷ put 6 (pos 1000) 0 ∷ put 7 (pos 205) 0 ∷ [])
outflow own = outflow_of rows own before let_out

request_of : (table : List Row) (own : ObjectNo) → elev_of table (pos 500000) ≡ Some (pos 50000) → elev_of table (pos 499530) ≡ Some (pos 49953)
    → solve_of (dam_of table) (view_with (dam_of table) own (Some (pos 500000)) (input (pos 100) ∷ None ∷ None ∷ None ∷ input (pos 57) ∷ []))
    ≡ Puts (put 1 (pos 570) 0 ∷ put 2 (pos 499530) 0 ∷ put 3 (pos 49953) 0 ∷ put 5 (pos 57) 0 ∷ put 6 (pos 570) 0 ∷ put 7 (pos 0) 0 ∷ [])
request_of table own past now = rw (past, now) refl

pub request : (own : ObjectNo)
    → solve_of high_dam (view_with high_dam own (Some (pos 500000)) (input (pos 100) ∷ None ∷ None ∷ None ∷ input (pos 57) ∷ []))
    ≡ Puts (put 1 (pos 570) 0 ∷ put 2 (pos 499530) 0 ∷ put 3 (pos 49953) 0 ∷ put 5 (pos 57) 0 ∷ put 6 (pos 570) 0 ∷ put 7 (pos 0) 0 ∷ [])
request own = request_of rows own before asked

too_much_of : (table : List Row) (own : ObjectNo) → elev_of table (pos 500000) ≡ Some (pos 50000)
    → solve_of (dam_of table) (view_with (dam_of table) own (Some (pos 500000)) (input (pos 100) ∷ None ∷ None ∷ None ∷ input (pos 101) ∷ []))
    ≡ OutOfRange 4 (pos 101)
too_much_of table own past = rw past refl

pub too_much : (own : ObjectNo)
    → solve_of high_dam (view_with high_dam own (Some (pos 500000)) (input (pos 100) ∷ None ∷ None ∷ None ∷ input (pos 101) ∷ []))
    ≡ OutOfRange 4 (pos 101)
too_much own = too_much_of rows own before
