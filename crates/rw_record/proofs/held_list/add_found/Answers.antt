use Rattle.rw_record.proofs.Common.{[], None, append-nil, ap, arith, length, nat_tests, slice_get, subst, sym, ◌++◌, ◌∙◌, ◌≡◌, ◌≤◌}
use Rattle.std.proofs.lemmas.Option.{slice_get_past}
use Rattle.std.specs.List.{cons_option}
use Rattle.rw_record.specs.HeldList.{AreListed}
use Rattle.rw_record.proofs.held_list.add_found.Goals as goal

pub returns-in-None : goal.returns-in-None
returns-in-None c = λ before listed.
    let past = c.in-None.ensures.lookup.0 in
    let far : length c.args.items.now ≤ c.args.place = let same = c.from.ensures in grind (arith, nat_tests, past, same) in
    let none : slice_get c.args.items.now c.args.place ≡ None = slice_get_past c.args.items.now c.args.place far in
    subst (λ them. AreListed them c.args.cells.now.items c.args.contents.now.items)
    (sym (ap (λ found. before ++ cons_option found []) none ∙ append-nil before)) listed
