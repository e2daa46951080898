-- What becomes of the puts that are asked for one after the other, where a storage has to be held.
use Rattle.std.specs.Prelude.{◌≡◌, ◌==◌, if◌then◌else◌, Bool, true, ◌&&◌, List, Option, Some, option_map, ◌++◌, Result, OnOk, IfErr}
use Rattle.rw_table.specs.Table.{Row}
use Rattle.rw_method.specs.declared.places.TheConstants.{STORAGE}
use Rattle.rw_method.specs.declared.put.Put.{Put}
use Rattle.rw_method.specs.declared.solved.Solved.{Solved}
use Rattle.rw_method.specs.declared.solved.Solved.TheVariants.{OutOfRange}
use Rattle.rw_method.specs.declared.view.View.{View}
use Rattle.rw_method.specs.Contents.{can_hold}
use Rattle.rw_method.specs.Puts.{is_bounded}
use Rattle.rw_method.specs.Solve.{AllFit, first_misfit}

-- a slot can get the value: a storage can be held, and each value is a quantity within its slot's bounds
abbrev pub can_get : Option (List Row) → View → Put → Bool
can_get table view put = (if put.place == STORAGE then can_hold table put.value else true) && is_bounded view put

-- the answer is the first put that doesn't fit
abbrev pub IsRefused : (Put → Bool) → List Put → Solved → Type 0
IsRefused fit puts answer = option_map (λ (misfit : Put). OutOfRange misfit.place misfit.value) (first_misfit fit puts) ≡ Some answer

-- these puts are asked for behind the old ones: all fit and were added, or the first that doesn't is the answer
pub record Asks {X : Type 0} (fit : Put → Bool) (puts old new : List Put) (result : Result X Solved) : Type 0 where
  pub added : OnOk result (new ≡ old ++ puts)
  pub fits : OnOk result (AllFit fit puts)
  pub refused : IfErr result (IsRefused fit puts)
