use Rattle.rw_dispatch.proofs.Common.{held, length, ◌≡◌, ◌≤◌}
use Rattle.rw_run.specs.Dispatch.{bounds_in_place, content_in}
use Rattle.rw_dispatch.proofs.Filling.{filled}
use Rattle.rw_dispatch.proofs.view.see_slots.Given as goal

abbrev pub invariant-loop-place : goal.invariant-loop-place
invariant-loop-place l = record {
  contents : l.now ≡ filled (content_in l.basin (held l.series) l.fn.object.0 l.fn.step.0) l.fn.now l.place;
  bounds : l.bounds ≡ filled (bounds_in_place l.basin l.fn.object.0) l.fn.bounds l.place;
  contents_all : length l.now ≡ 12;
  bounds_all : length l.bounds ≡ 12;
}

abbrev pub invariant-loop-far : goal.invariant-loop-far
invariant-loop-far l = record {
  first : 5 ≤ l.far;
  contents : l.now ≡ filled (content_in l.basin (held l.series) l.fn.object.0 l.fn.step.0) l.fn.now l.far;
  bounds : l.bounds ≡ filled (bounds_in_place l.basin l.fn.object.0) l.fn.bounds l.far;
  contents_all : length l.now ≡ 12;
  bounds_all : length l.bounds ≡ 12;
}
