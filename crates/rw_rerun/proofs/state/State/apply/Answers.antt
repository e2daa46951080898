use Rattle.rw_base.proofs.Common.{List, ap, subst, sym, ◌∙◌, ◌≡◌}
use Rattle.rw_base.specs.declared.number.Cell.{Cell}
use Rattle.rw_inputs.specs.Edits.{after_batch}
use Rattle.rw_inputs.specs.Inputs.{value_at}
use Rattle.rw_rules.specs.Rules.{policy_in}
use Rattle.rw_rerun.specs.Edited.{AreEdited, LeavesFirst}
use Rattle.rw_rerun.specs.Next.{IsNext}
use Rattle.rw_rerun.specs.Session.{Session}
use Rattle.rw_rerun.specs.Touched.{AreRisingIn, CountsUntouched}
use Rattle.rw_rerun.proofs.Following.{applies_next, leaves_first}
use Rattle.rw_rerun.proofs.Sessions.{rising_from}
use Rattle.rw_rerun.proofs.Taken.{first_are_kept}
use Rattle.rw_rerun.proofs.state.State.apply.Goals as goal

pub left-behind-requires-clause-rising : goal.left-behind-requires-clause-rising
left-behind-requires-clause-rising g c =
    let basin = c.args.setup.now.basin.now in
    let lent : c.args.self.now.kept ≡ c.deref.result.now = sym (ap (λ (s : Session). s.kept) c.self.view_is) ∙ sym c.deref.ensures.value in
    subst AreRisingIn lent (rising_from basin (policy_in basin c.args.setup.now.policy.now) c.requires.made.log 1 c.args.self.now.kept
    c.requires.made.kept)

pub pass_next-requires-clause-left : goal.pass_next-requires-clause-left
pass_next-requires-clause-left g c =
    let basin = c.args.setup.now.basin.now in
    let lent : c.args.self.now.kept ≡ c.deref.result.now = sym (ap (λ (s : Session). s.kept) c.self.view_is) ∙ sym c.deref.ensures.value in
    first_are_kept basin c.deref-2.result.now c.args.self.now.kept c.left-behind.result
    (subst (λ kept. CountsUntouched basin c.deref-2.result.now kept c.left-behind.result) (sym lent) c.left-behind.ensures)

pub give_way-requires : goal.give_way-requires
give_way-requires g c =
    let basin = c.args.setup.now.basin.now in
    let policy = c.args.setup.now.policy.now in
    let inputs = c.in_ok-inputs.inputs in
    let behind = c.left-behind.result in
    let lent : c.args.self.now.kept ≡ c.deref.result.now = sym (ap (λ (s : Session). s.kept) c.self.view_is) ∙ sym c.deref.ensures.value in
    let values : value_at inputs ≡ after_batch c.args.batch.now (value_at c.args.self.now.inputs) =
    c.in_ok-inputs.ensures.values ∙ ap (λ (s : Session). after_batch c.args.batch.now (value_at s.inputs)) c.self.view_is in
    let leaves : LeavesFirst basin c.args.batch.now c.deref-3.result.now c.args.self.now.inputs inputs c.args.self.now.kept behind =
    leaves_first basin policy c.args.self.now c.args.batch.now inputs c.in_ok-cells.cells.items c.deref-3.result.now behind c.deref.result.now
    c.requires.made values
    c.in_ok-inputs.ensures.made
    (subst (λ (s : Session). AreEdited basin c.args.batch.now s.inputs c.in_ok-cells.cells.items) c.self.view_is c.in_ok-cells.ensures) (sym c.deref-3.ensures.value) lent
    (subst (λ (cells : List Cell). CountsUntouched basin cells c.deref.result.now behind) (c.deref-2.ensures.value ∙ sym c.deref-3.ensures.value)
    c.left-behind.ensures) in
    subst (λ (cells : List Cell). IsNext basin policy c.pass_next.new.self inputs cells behind c.in_ok-pass.pass)
    (c.deref-3.ensures.value ∙ sym c.deref-4.ensures.value)
    (subst (λ (s : Session). IsNext basin policy s inputs c.deref-3.result.now behind c.in_ok-pass.pass) (sym c.in_ok-pass.ensures.same)
    (c.in_ok-pass.ensures.passes.next c.args.batch.now leaves))

pub returns-clause-applied : goal.returns-clause-applied
returns-clause-applied g c =
    let basin = c.args.setup.now.basin.now in
    let policy = c.args.setup.now.policy.now in
    let inputs = c.in_ok-inputs.inputs in
    let behind = c.left-behind.result in
    let lent : c.args.self.now.kept ≡ c.deref.result.now = sym (ap (λ (s : Session). s.kept) c.self.view_is) ∙ sym c.deref.ensures.value in
    let values : value_at inputs ≡ after_batch c.args.batch.now (value_at c.args.self.now.inputs) =
    c.in_ok-inputs.ensures.values ∙ ap (λ (s : Session). after_batch c.args.batch.now (value_at s.inputs)) c.self.view_is in
    let leaves : LeavesFirst basin c.args.batch.now c.deref-3.result.now c.args.self.now.inputs inputs c.args.self.now.kept behind =
    leaves_first basin policy c.args.self.now c.args.batch.now inputs c.in_ok-cells.cells.items c.deref-3.result.now behind c.deref.result.now
    c.requires.made values
    c.in_ok-inputs.ensures.made
    (subst (λ (s : Session). AreEdited basin c.args.batch.now s.inputs c.in_ok-cells.cells.items) c.self.view_is c.in_ok-cells.ensures) (sym c.deref-3.ensures.value) lent
    (subst (λ (cells : List Cell). CountsUntouched basin cells c.deref.result.now behind) (c.deref-2.ensures.value ∙ sym c.deref-3.ensures.value)
    c.left-behind.ensures) in
    applies_next basin policy c.args.self.now c.pass_next.new.self _ c.args.batch.now inputs c.deref-3.result.now behind c.in_ok-pass.pass _ _
    c.in_ok-pass.ensures.passes leaves c.in_ok-pass.ensures.same c.give_way.ensures.is c.give_way.ensures.same
