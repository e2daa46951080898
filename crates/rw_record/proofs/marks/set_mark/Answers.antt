use Rattle.rw_record.proofs.Common.{arith, length, rules, ◌*◌, ◌≡◌}
use Rattle.rw_record.proofs.Marking.{mark_set, near}
use Rattle.rw_record.proofs.marks.set_mark.Goals as goal

pub index_mut-requires : goal.index_mut-requires
index_mut-requires c =
    let many : length c.args.marks.now.items ≡ c.args.slots * c.args.steps = search rules in
    omega (arith, near c.args.slots c.args.steps c.args.marks.now.items c.args.cell many c.requires.there, c.position.ensures, many, c.requires.many)

pub returns-clause-set : goal.returns-clause-set
returns-clause-set c other there =
    let many : length c.args.marks.now.items ≡ c.args.slots * c.args.steps = search rules in
    rw c.position.ensures (mark_set c.args.slots c.args.steps c.args.marks.now.items c.args.cell other c.args.mark many c.requires.there there)
