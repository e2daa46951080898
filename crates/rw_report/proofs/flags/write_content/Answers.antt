use Rattle.rw_base.proofs.Common.{◌≡◌, ◌++◌, ◌∷◌, ◌∙◌, ap, append_assoc, arith, codes, drop, signed_decimal, subst, sym, to_z-of_z, w64}
use Rattle.std.specs.Str.{IsAscii}
use Rattle.std.proofs.lemmas.Str.{IsAscii-append}
use Rattle.std.proofs.lemmas.Str.Ascii.{IsAscii-cons}
use Rattle.rw_report.proofs.Adding.{quantity_fits}
use Rattle.rw_report.specs.Flags.{flag_words}
use Rattle.rw_report.proofs.flags.write_content.Goals as goal

pub returns-clause-written : goal.returns-clause-written
returns-clause-written c =
    let flag = flag_words c.args.content in
    let rest = drop c.args.end c.args.buffer.now in
    let same = to_z-of_z w64 c.get-value.result (quantity_fits c.get-value.result c.get-value.ensures.bounds) ∙ c.get-value.ensures.value in
    c.write_number.ensures.written
    ∙ ap (λ n. signed_decimal n ++ drop c.write_byte-between.result c.write_byte-between.new.buffer) same
    ∙ ap (λ t. signed_decimal c.args.content.value ++ t) (c.write_byte-between.ensures.written ∙ ap (λ t. 32 ∷ t) c.write_flag-flag.ensures.written)
    ∙ sym (append_assoc (signed_decimal c.args.content.value) (codes " " ++ flag) rest)

pub returns-clause-ascii : goal.returns-clause-ascii
returns-clause-ascii c =
    let flag = flag_words c.args.content in
    let same = to_z-of_z w64 c.get-value.result (quantity_fits c.get-value.result c.get-value.ensures.bounds) ∙ c.get-value.ensures.value in
    IsAscii-append (signed_decimal c.args.content.value) (codes " " ++ flag)
    (subst (λ n. IsAscii (signed_decimal n)) same c.write_number.ensures.ascii)
    (IsAscii-cons 32 flag (omega arith) c.write_flag-flag.ensures.ascii)
