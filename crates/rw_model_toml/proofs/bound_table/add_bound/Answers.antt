use Rattle.rw_base.proofs.Common.{◌≡◌, to_z, of_z, w64, to_z-of_z}
use Rattle.rw_model.specs.Build.{with_bound}
use Rattle.rw_model_toml.specs.Told.{bound_told}
use Rattle.rw_model_toml.proofs.bound_table.add_bound.Goals as goal

pub returns-in-Err : goal.returns-in-Err
unfolding bound_told
returns-in-Err c =
    let low : to_z w64 (of_z w64 c.args.min) ≡ c.args.min = to_z-of_z w64 c.args.min c.ranges.min in
    let high : to_z w64 (of_z w64 c.args.max) ≡ c.args.max = to_z-of_z w64 c.args.max c.ranges.max in
    c.told.ensures (with_bound c.args.builder.now c.args.slot.0 (c.args.min, c.args.max)) (rw (low, high) at c.in-Err.ensures.answers)
