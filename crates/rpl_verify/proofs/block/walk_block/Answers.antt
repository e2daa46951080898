use Rattle.rw_base.proofs.Common.{◌+◌, [], ◌∷◌, ◌++◌, map, drop, refl, ap, ◌∙◌, arith, drop_all}
use Rattle.rpl_verify.specs.Places.{spots}
use Rattle.rpl_verify.specs.Notes.{numbers_seen, note_of}
use Rattle.rpl_verify.specs.Steps.{scope_in}
use Rattle.rpl_verify.specs.Walked.{declares}
use Rattle.rpl_verify.proofs.WalkFacts.{next_is, spots_at}
use Rattle.rpl_verify.proofs.NameFacts.{length-slots, slot_there}
use Rattle.rpl_verify.proofs.BlockFacts.{left_on, left_ended, noting}
use Rattle.rpl_verify.proofs.block.walk_block.Goals as goal

pub judge-requires-clause-here : goal.judge-requires-clause-here
judge-requires-clause-here c =
    let l = c.loop-place in
    let lines = c.args.lines.now in
    let i = c.index-lines-place.result in
    ap (λ ss. declares ss l.place) l.invariant.placed
    ∙ spots_at lines 0 [] l.place i (drop (l.place + 1) lines) (next_is lines l.place i c.loop-place-test.true c.index-lines-place.is)

pub slot_at-requires : goal.slot_at-requires
slot_at-requires c =
    let t = c.loop-place-test.true in
    let long = length-slots c.args.basin.now c.args.slots.now c.args.lines.now c.requires.slots in
    omega (arith, t, long)

pub judge-requires-clause-slot : goal.judge-requires-clause-slot
judge-requires-clause-slot c =
    slot_there c.args.basin.now c.args.slots.now c.args.lines.now c.loop-place.place c.slot_at.result c.index-lines-place.result
    c.requires.slots c.slot_at.ensures c.loop-place-test.true c.index-lines-place.is

pub loop-place-preserved : goal.loop-place-preserved
loop-place-preserved c =
    let l = c.loop-place in
    let lines = c.args.lines.now in
    let i = c.index-lines-place.result in
    let budgets = map numbers_seen c.args.budgets.now in
    let scope = scope_in c.args.basin.now c.args.blocks.now c.args.number c.args.head.now c.args.locals.now (spots lines) in
    let noted =
    c.in_ok-push.ensures.items ∙ ap (λ n. l.notes.items ++ n ∷ [])
    (c.place_note.ensures c.args.basin.now c.args.number c.args.head.now (spots lines)) in
    left_on scope (noting scope budgets) lines l.place l.walk c.judge.new.walk l.notes.items c.push.new.self.items
    (note_of scope budgets l.walk.before i) i (drop (l.place + 1) lines) (drop l.place lines)
    l.invariant (next_is lines l.place i c.loop-place-test.true c.index-lines-place.is) noted (λ cs. refl) c.in_ok-judge.ensures.0
    c.in_ok-judge.ensures.1

pub returns : goal.returns
returns c =
    let l = c.loop-place in
    let lines = c.args.lines.now in
    let budgets = map numbers_seen c.args.budgets.now in
    let scope = scope_in c.args.basin.now c.args.blocks.now c.args.number c.args.head.now c.args.locals.now (spots lines) in
    let t = c.loop-place-test.false in
    let noted =
    c.in_ok-push-2.ensures.items ∙ ap (λ n. l.notes.items ++ n ∷ []) (c.end_note.ensures scope budgets c.words_of_all-local_words.ensures) in
    left_ended scope (noting scope budgets) lines l.place l.walk l.notes.items c.push-2.new.self.items (drop l.place lines)
    l.invariant (drop_all l.place lines (omega (arith, t))) noted c.in_ok-judge_end.ensures
