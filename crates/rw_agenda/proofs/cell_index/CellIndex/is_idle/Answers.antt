use Rattle.rw_base.proofs.Common.{arith, length, nat_tests, subst, ◌≡◌, false}
use Rattle.rw_agenda.specs.CellIndex.{has_watch}
use Rattle.rw_agenda.proofs.Watches.{idle}
use Rattle.rw_agenda.proofs.cell_index.CellIndex.is_idle.Goals as goal

pub returns : goal.returns
returns c is cell rule =
    let none : length c.self.inside.watches.items ≡ 0 = grind (arith, nat_tests, is, c.is_empty.ensures) in
    subst (λ index. has_watch index cell rule ≡ false) c.self.view_is
    (idle (record {
      slots = c.self.inside.slots;
      newest = c.self.inside.newest.items;
      watches = c.self.inside.watches.items;
      past = c.self.inside.past;
      room = c.self.inside.room;
      is_full = c.self.inside.full;
    }) none cell rule)
