-- A list of a run's moments, as far as it has come.
use Rattle.rw_base.proofs.Common.{ℕ, ◌+◌, ◌<◌, List, [], ◌∷◌, ◌++◌, length, slice_index_or, sym, arith, below_more, length-append, get_or-append}
use Rattle.rw_base.proofs.Common.{get_or-append_seam}
use Rattle.rw_calendar.specs.declared.step_length.StepLength.{StepLength}
use Rattle.rw_calendar.specs.declared.moment.Moment.{Moment}
use Rattle.rw_calendar.specs.Stamps.{IsMomentAfter, HasMoments}

-- one more
pub HasMoments-push : (start : Moment) (step_length : StepLength) (k : ℕ) (moments : List Moment) (next : Moment)
    → HasMoments start step_length k moments → IsMomentAfter start step_length k next → HasMoments start step_length (k + 1) (moments ++ next ∷ [])
HasMoments-push start step_length k moments next h later = record {
  counted = omega (arith, length-append moments (next ∷ []), h.counted);
  each = below_more (λ i. IsMomentAfter start step_length i (slice_index_or (moments ++ next ∷ []) i start)) k
      (λ i below. let inside : i < length moments = omega (arith, h.counted) in
      rw (get_or-append moments (next ∷ []) start i inside) (h.each i below))
      (rw (sym h.counted, get_or-append_seam moments next [] start, h.counted) later);
}
