-- The names that proofs cite, passed on from one place. Declares nothing.
pub use Rattle.rw_base.proofs.Common.{All, Bool, List, None, Option, Some, [], ap, append_assoc, ap₂, arith, below_more, codes, decimal}
pub use Rattle.rw_base.proofs.Common.{decimal_digit, false, find, if◌then◌else◌, inl, inr, int_le, ints, length, map, nat_le, nat_lt, nat_tests}
pub use Rattle.rw_base.proofs.Common.{neg_ℤ, negsuc, none-some, option_map, option_or, pos, refl, replicate, signed_decimal, slice_index_or, subst}
pub use Rattle.rw_base.proofs.Common.{suc, suc-eq-add-one, sym, take, true, zero, ℕ, ℤ, ◌&&◌, ◌++◌, ◌+ℤ◌, ◌+◌, ◌-ℤ◌, ◌-◌, ◌<◌, ◌==◌, ◌↔◌, ◌∙◌, ◌∷◌}
pub use Rattle.rw_base.proofs.Common.{◌≡◌, ◌≢◌, ◌≤◌, ◌⊎◌}
pub use Rattle.rw_base.specs.declared.number.Cell.{Cell}
pub use Rattle.rw_inputs.specs.Placings.{placings, placings_of, placings_to, if_placed}
pub use Rattle.rw_inputs.specs.Inputs.{Inputs, value_at}
pub use Rattle.rw_model.specs.declared.content.Content.{Content}
pub use Rattle.rw_model.specs.declared.kind.Kind.TheVariants.{Reservoir}
pub use Rattle.rw_model.specs.declared.kind.Kind.{Kind}
pub use Rattle.rw_plain_reservoir.specs.FirstForm.{FirstModel, IsFirstFlows, IsFirstForm, plain_reservoir}
pub use Rattle.rw_plain_reservoir.specs.Reservoir.{IsReservoirRun, storage_at, total}
pub use Rattle.rw_plain_reservoir.specs.Table.{IsFirstText, columns_line, heading_line, table_row, table_rows}
pub use Rattle.rw_run.specs.declared.fault.RunFault.TheVariants.{ObjectLimit, ObjectOutOfRange}
pub use Rattle.rw_run.specs.declared.run.RunEnd.TheVariants.{Fault, Settled}
pub use Rattle.rw_run.specs.declared.run.RunEnd.{RunEnd}
pub use Rattle.rw_firing.specs.declared.look.Look.{Look}
