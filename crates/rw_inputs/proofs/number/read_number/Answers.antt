use Rattle.rw_base.proofs.Common.{lit≤, subst, sym, ForSome, ◌∙◌, ◌<◌, ◌^◌}
use Rattle.rw_base.proofs.Digits.{read_below, read_in_64_bits}
use Rattle.rw_inputs.proofs.number.read_number.Goals as goal

pub returns-clause-number : goal.returns-clause-number
returns-clause-number c = c.read_digits.ensures ∙ read_in_64_bits 18 c.args.text.now (lit≤ tt)

pub returns-clause-small : goal.returns-clause-small
returns-clause-small c =
    subst (λ read. ForSome read (λ number. number < 10 ^ 18)) (sym (returns-clause-number c)) (read_below 18 c.args.text.now)
