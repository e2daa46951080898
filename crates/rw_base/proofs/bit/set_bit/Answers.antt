use Rattle.rw_base.proofs.Common.{ap, length, rules, set, slice_index_or, ◌*◌, ◌/◌, ◌%◌, ◌<◌, ◌^◌, ◌≡◌, ◌∙◌}
use Rattle.std.specs.Int.RustNames.{bit_or}
use Rattle.rw_base.specs.Bit.{has_bit}
use Rattle.rw_base.proofs.Bits.{added}
use Rattle.rw_base.proofs.bit.set_bit.Goals as goal

pub returns-clause-added : goal.returns-clause-added
returns-clause-added c other =
    let words = c.args.words.now in
    let number = c.args.number in
    let place : c.from-place.result ≡ number / 64 = search rules in
    let near : number / 64 < length words = search rules in
    ap (λ p. has_bit (set words p (bit_or (slice_index_or words p 0) (1 * 2 ^ (number % 64) % 18446744073709551616))) other) place
    ∙ added words number other near
