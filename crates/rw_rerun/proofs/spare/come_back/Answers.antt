use Rattle.rw_base.proofs.Common.{ap, refl, subst, sym, ◌∙◌, ◌≡◌}
use Rattle.rw_model.specs.declared.control.RunControl.{RunControl}
use Rattle.rw_rerun.specs.Spare.{AreKeptFrom, IsSpare}
use Rattle.rw_rerun.proofs.Taken.{becomes_spare, can_give}
use Rattle.rw_rerun.proofs.spare.come_back.Goals as goal

pub bring_back-requires-clause-stands : goal.bring_back-requires-clause-stands
bring_back-requires-clause-stands c =
    let count : c.count.result ≡ c.args.basin.now.control.stamps.count =
    c.count.ensures.value ∙ ap (λ (k : RunControl). k.stamps.count) c.control.ensures in
    subst (λ n. IsSpare c.args.basin.now c.args.kept.now (record { engine = c.args.engine; behind = n })) (sym count) c.requires.stands

pub bring_back-requires-clause-known : goal.bring_back-requires-clause-known
bring_back-requires-clause-known c =
    let count : c.count.result ≡ c.args.basin.now.control.stamps.count =
    c.count.ensures.value ∙ ap (λ (k : RunControl). k.stamps.count) c.control.ensures in
    subst (AreKeptFrom c.args.kept.now c.args.behind) (c.requires.many ∙ sym count) c.requires.others

pub give_all-requires-clause-made : goal.give_all-requires-clause-made
give_all-requires-clause-made c =
    let count : c.count.result ≡ c.args.basin.now.control.stamps.count =
    c.count.ensures.value ∙ ap (λ (k : RunControl). k.stamps.count) c.control.ensures in
    can_give c.args.basin.now c.args.kept.now c.args.behind (record { engine = c.args.engine; behind = c.count.result }) _
    (subst (λ n. IsSpare c.args.basin.now c.args.kept.now (record { engine = c.args.engine; behind = n })) (sym count) c.requires.stands)
    c.bring_back.ensures

pub returns : goal.returns
returns c =
    let basin = c.args.basin.now in
    let count : c.count.result ≡ basin.control.stamps.count = c.count.ensures.value ∙ ap (λ (k : RunControl). k.stamps.count) c.control.ensures in
    becomes_spare basin c.args.inputs.now c.args.cells.now c.args.kept.now c.args.behind c.count.result c.args.engine _ _ count
    (λ policy fits. (c.code_keeps_promises.ensures basin policy.blocks policy.budgets
    (c.answered_code_is_safe.ensures.accepted basin policy.blocks policy fits)).framed)
    c.bring_back.ensures refl c.give_all.ensures
