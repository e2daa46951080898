use Rattle.std.proofs.Common.{◌≡◌, true, false, sym, ◌∙◌}
use Rattle.csv.specs.Reading.{has_failed}
use Rattle.csv.specs.Records.{fields_of}
use Rattle.rw_inputs.proofs.Left.{left-end, left-next}
use Rattle.rw_inputs.proofs.records.Records.read.Goals as goal

pub returns-clause-next : goal.returns-clause-next
returns-clause-next c is =
    let found : c.in-Ok.found ≡ true = cc in
    let stopped : (has_failed c.self.inside.reader ≡ true → c.in-Ok.found ≡ false) = λ failed. let none = c.in-Ok.ensures.failed failed in cc in
    sym c.self.view_is
    ∙ left-next c.self.inside.reader c.read_byte_record.new.self (fields_of c.read_byte_record.new.row) c.self.invariant c.in-Ok.found stopped
    c.in-Ok.ensures.reads found

pub returns-clause-end : goal.returns-clause-end
returns-clause-end c is =
    let none : c.in-Ok.found ≡ false = cc in
    let stopped : (has_failed c.self.inside.reader ≡ true → c.in-Ok.found ≡ false) = λ failed. let none = c.in-Ok.ensures.failed failed in cc in
    sym c.self.view_is
    ∙ left-end c.self.inside.reader c.read_byte_record.new.self (fields_of c.read_byte_record.new.row) c.self.invariant c.in-Ok.found stopped
    c.in-Ok.ensures.reads none
