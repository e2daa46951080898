use Rattle.rw_base.proofs.Common.{◌≡◌, ◌<◌, ◌+◌, suc, Ok, IfOk, length, map, take, sym, ap, ◌∙◌, arith, length-take-le, subst}
use Rattle.rw_base.specs.declared.limits.TheConstants.{RULES_MAX}
use Rattle.rpl_verify.specs.Places.{spots}
use Rattle.rpl_verify.specs.Fits.{at_place, count_alike}
use Rattle.rpl_verify.specs.Answered.{GivesAt}
use Rattle.rpl_verify.specs.Budget.{within_limits}
use Rattle.rpl_verify.specs.Joined.{IsJoined}
use Rattle.rpl_verify.specs.Notes.{budget_noted, numbers_seen}
use Rattle.rpl_verify.specs.Resolving.{resolved_noted}
use Rattle.rpl_verify.specs.Steps.{scope_in}
use Rattle.rpl_verify.proofs.BlockRuled.{length-noted, ruled, same_noted}
use Rattle.rpl_verify.proofs.Resolving.{resolved_by_notes}
use Rattle.rpl_verify.proofs.block.judged_block.Goals as goal

pub walk_block-requires-clause-slots : goal.walk_block-requires-clause-slots
walk_block-requires-clause-slots c = c.deref-2.ensures.value ∙ c.in_ok-slots.ensures

pub judged_of-requires-clause-slots : goal.judged_of-requires-clause-slots
judged_of-requires-clause-slots c = c.deref-5.ensures.value ∙ c.in_ok-slots.ensures

pub judged_of-requires-clause-noted : goal.judged_of-requires-clause-noted
judged_of-requires-clause-noted c =
    let lines = c.as_slice-lines.result.now in
    let scope = scope_in c.args.basin.now c.args.blocks.now (c.args.place + 1) c.args.block.now.head c.deref.result.now (spots lines) in
    ap length c.deref-4.ensures.value ∙ length-noted scope (map numbers_seen c.args.budgets.now) lines c.in_ok-notes.notes.items c.in_ok-notes.ensures

pub returns-clause-budget : goal.returns-clause-budget
returns-clause-budget c =
    let blocks = c.args.blocks.now in
    let place = c.args.place in
    let block = c.args.block.now in
    let budgets = map numbers_seen c.args.budgets.now in
    let inside = c.requires.earlier in
    let long : length (take place blocks) ≡ place = length-take-le place blocks (omega (arith, inside)) in
    let number : place + 1 ≡ suc (length (take place blocks)) = omega (arith, long) in
    let same =
    same_noted c.args.basin.now blocks (take place blocks) budgets block (place + 1) c.deref.result.now c.as_slice-lines.result.now number
    (c.deref.ensures.value ∙ c.in_ok-locals.ensures) c.as_slice-lines.ensures in
    let few : count_alike block.head (take place blocks) < RULES_MAX = let a = c.if-count_alike-ge-BLOCKS_MAX.false in let b =
    c.count_alike.ensures in omega (arith, a, b) in
    let ruling =
    ruled c.args.basin.now blocks (take place blocks) budgets block few c.in_ok-notes.notes.items (sym same ∙ c.in_ok-notes.ensures)
    ∙ ap (λ is. at_place (length is) (within_limits (budget_noted c.in_ok-notes.notes.items is)) (λ b. Ok b)) (sym c.as_slice-lines.ensures)
    ∙ ap (λ ns. at_place (length c.as_slice-lines.result.now) (within_limits (budget_noted ns c.as_slice-lines.result.now)) (λ b. Ok b))
    (sym c.deref-4.ensures.value) in
    subst (λ given. GivesAt given (λ judged. numbers_seen judged.budget) c.judged_of.result) (sym ruling) c.judged_of.ensures.budget

pub returns-clause-joined : goal.returns-clause-joined
returns-clause-joined c =
    let blocks = c.args.blocks.now in
    let place = c.args.place in
    let block = c.args.block.now in
    let budgets = map numbers_seen c.args.budgets.now in
    let lines = c.as_slice-lines.result.now in
    let resolved =
    ap (λ ns. resolved_noted c.args.basin.now blocks c.deref-3.result.now 0 ns lines) c.deref-4.ensures.value
    ∙ ap (λ ks. resolved_noted c.args.basin.now blocks ks 0 c.in_ok-notes.notes.items lines) (c.deref-3.ensures.value ∙ sym c.deref.ensures.value)
    ∙ resolved_by_notes c.args.basin.now blocks (place + 1) block c.deref.result.now lines budgets c.in_ok-notes.notes.items
    (c.deref.ensures.value ∙ c.in_ok-locals.ensures) c.as_slice-lines.ensures c.in_ok-notes.ensures in
    subst (λ lines. IfOk c.judged_of.result (λ judged. IsJoined judged.joined.items lines)) resolved c.judged_of.ensures.joined
