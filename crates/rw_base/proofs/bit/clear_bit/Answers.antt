use Rattle.rw_base.proofs.Common.{ap, length, rules, set, slice_index_or, w64, ◌*◌, ◌/◌, ◌%◌, ◌<◌, ◌^◌, ◌≡◌, ◌∙◌}
use Rattle.std.specs.Int.{bit_not}
use Rattle.std.specs.Int.Bits.{bit_and}
use Rattle.rw_base.specs.Bit.{has_bit}
use Rattle.rw_base.proofs.Bits.{taken}
use Rattle.rw_base.proofs.bit.clear_bit.Goals as goal

pub returns-clause-taken : goal.returns-clause-taken
returns-clause-taken c other =
    let words = c.args.words.now in
    let number = c.args.number in
    let place : c.from-place.result ≡ number / 64 = search rules in
    let near : number / 64 < length words = search rules in
    ap (λ p. has_bit (set words p (bit_and (slice_index_or words p 0) (bit_not w64 (1 * 2 ^ (number % 64) % 18446744073709551616)))) other) place
    ∙ taken words number other near
