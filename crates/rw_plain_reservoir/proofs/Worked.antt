-- Worked values, where they don't compute by themselves.
use Rattle.rw_plain_reservoir.proofs.Common.{IsReservoirRun, Some, [], ap, arith, codes, decimal, decimal_digit, heading_line, ints, negsuc, pos}
use Rattle.rw_plain_reservoir.proofs.Common.{refl, ◌++◌, ◌∷◌, ◌≡◌}
use Rattle.rw_model.specs.Kind.{IsAmount}

one_written : decimal 1 ≡ 49 ∷ []
one_written = decimal_digit 1 (omega arith)

pub faulted : heading_line (codes "Dam") 0 (Some (negsuc 0))
    ≡ codes "# batch 0 fault out of range object Dam slot Dam.Storage step 1 value -1\n"
faulted =
    ap (λ d. codes "# batch 0 fault out of range object Dam slot Dam.Storage step " ++ (d ++ (codes " value -" ++ (d ++ codes "\n")))) one_written

pub emptied : IsReservoirRun 1 (pos 1000) (pos 0 ∷ []) (pos 1001 ∷ []) 0 (Some (negsuc 0))
emptied = record {
  inside = λ t lt. absurd (omega (arith, lt));
  ends = (omega arith, refl, λ (h : IsAmount (negsuc 0)). let low = h.low in absurd (omega (arith, ints, low)));
}
