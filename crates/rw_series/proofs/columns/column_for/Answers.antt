use Rattle.std.proofs.Common.{inl, inr, refl, length}
use Rattle.rw_model.specs.Objects.{all_slots}
use Rattle.rw_series.proofs.Setting.{all_alone, together_with, from_first}
use Rattle.rw_series.proofs.columns.column_for.Goals as goal

pub returns-in-Some : goal.returns-in-Some
returns-in-Some c =
    let with = together_with c.args.basin.now c.args.before c.group.result.now c.group.ensures.group c.in-Some.slot c.in-Some.ensures.0 in
    inr (record {
      slot = c.in-Some.slot;
      first = from_first (length (all_slots c.args.basin.now.objects)) c.in-Some.slot with.1;
      last = c.in-Some.ensures.1;
      together = with.0;
      same = c.column_of.ensures;
    })

pub returns-in-None : goal.returns-in-None
returns-in-None c =
    inl (record {
      next = refl;
      alone = all_alone c.args.basin.now c.args.before c.group.result.now c.group.ensures.group c.requires.next.last c.in-None.ensures;
    })
