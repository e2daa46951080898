use Rattle.rw_record.proofs.Common.{[], append-nil, arith, inr, refl, sym, ◌∙◌}
use Rattle.std.proofs.lemmas.Option.{slice_get_past}
use Rattle.rw_record.proofs.held_list.keep.Goals as goal

pub returns-in-None : goal.returns-in-None
returns-in-None c = record {
  more = [];
  added = sym (append-nil c.args.contents.now.items);
  few = omega arith;
  there = slice_get_past c.args.contents.now.items 65535 (let few = c.requires in omega (arith, few)) ∙ sym c.in-None.is;
  known = inr refl;
}
