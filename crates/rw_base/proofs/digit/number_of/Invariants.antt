use Rattle.rw_base.proofs.Common.{◌≡◌, ◌≤◌, drop, list_all}
use Rattle.rw_base.specs.Byte.{is_digit}
use Rattle.rw_base.specs.Digit.{number_after}
use Rattle.rw_base.proofs.digit.number_of.Given as goal

abbrev pub invariant-loop-byte : goal.invariant-loop-byte
invariant-loop-byte l = (number_after l.number (drop l.byte-index l.text) ≡ number_after 0 l.text)
    × (list_all is_digit (drop l.byte-index l.text) ≡ list_all is_digit l.text) × (l.number ≤ 18446744073709551615)
