use Rattle.std.specs.Prelude.{◌≡◌, ◌≢◌, ℕ, List, Option, Some, None, IsSomeAnd}
use Rattle.rw_io.specs.Outside.{Change, ShelfView}
use Rattle.rw_commands.proofs.Common.{Call, Promise, Rose, ap, arith, subst}
use Rattle.rw_commands.specs.Command.{path_of}
use Rattle.rw_promise.specs.SureCall.{IsSure}
use Rattle.rw_promise.proofs.StatusLemmas as status
use Rattle.rw_promise.proofs.law.sure_calls.Goals as goal

unrisen : (before now : ℕ) → before ≡ 0 → now ≡ 0 → ¬ Rose before now
unrisen before now first last rose = omega (arith, first, last, rose)

nowhere : (shelf : Change ShelfView) (path : Option (List ℕ)) → ((p : List ℕ) → shelf.before.faults p ≡ 0)
    → ((p : List ℕ) → shelf.after.faults p ≡ 0) → ¬ IsSomeAnd path (λ p. Rose (shelf.before.faults p) (shelf.after.faults p))
nowhere shelf None first last rose = rose
nowhere shelf (Some path) first last rose = unrisen (shelf.before.faults path) (shelf.after.faults path) (first path) (last path) rose

module _ (call : Call) (sure : IsSure call) where
  no_read : ¬ Promise call 3
  no_read promise =
      let failed = status.read_fault call promise in
      nowhere call.shelf (path_of failed.0 failed.2.0) (λ p. ap (λ (s : Change ShelfView). s.before.faults p) sure.shelf_is)
      (λ p. ap (λ (s : Change ShelfView). s.after.faults p) sure.shelf_is) failed.2.1.rose

  no_write : ¬ Promise call 4
  no_write promise =
      unrisen call.out.before.faults call.out.after.faults (ap (λ s. s.before.faults) sure.out_is) (ap (λ s. s.after.faults) sure.out_is)
      (status.write call promise).1

pub returns : goal.returns
returns c = λ call answer sure promise.
    ((λ is. no_read call sure (subst (Promise call) is promise)), (λ is. no_write call sure (subst (Promise call) is promise)))
