use Rattle.rw_record.proofs.Common.{Cells, IsSeriesOf, drop, held}
use Rattle.rw_record.specs.Back.{AreCellsOf}
use Rattle.rw_record.specs.Notes.{CanTakeBack}
use Rattle.rw_record.proofs.back.put_back_kept.Given as goal

abbrev pub invariant-loop-place : goal.invariant-loop-place
invariant-loop-place l = record {
  made : IsSeriesOf l.basin l.series;
  back : (before : Cells) → AreCellsOf l.basin before → CanTakeBack before (held l.fn.series) l.items
      → CanTakeBack before (held l.series) (drop l.place l.items);
}
