use Rattle.std.proofs.Common.{rules, [], List, ℕ, sym, subst}
use Rattle.rw_model.specs.Objects.{Object}
use Rattle.rw_model.specs.Draft.{Bound, IsControl}
use Rattle.rw_model.specs.Basin.{IsDraft}
use Rattle.rw_model.proofs.Drafting.{IsDraft-begin}
use Rattle.rw_model.proofs.builder.BasinBuilder.begin.Goals as goal

-- nothing was told yet
pub invariant_of-result : goal.invariant_of-result
invariant_of-result c =
    let within : IsControl c.args.control = search rules in
    subst (λ (os : List Object). IsDraft (record { control = c.args.control; objects = os; links = c.new-2.result; bounds = c.new-3.result }))
    (sym c.new.ensures)
    (subst (λ (ls : List (List ℕ)). IsDraft (record { control = c.args.control; objects = []; links = ls; bounds = c.new-3.result }))
    (sym c.new-2.ensures)
    (subst (λ (bs : List Bound). IsDraft (record { control = c.args.control; objects = []; links = []; bounds = bs })) (sym c.new-3.ensures)
    (IsDraft-begin c.args.control within)))
