use Rattle.std.proofs.Common.{◌+◌, drop, sym, ap, ◌∙◌, subst}
use Rattle.rpl_verify.specs.Kinds.{top_of}
use Rattle.rpl_verify.specs.Places.{start_of}
use Rattle.rpl_verify.specs.Walks.{openers_of}
use Rattle.rpl_verify.specs.declared.walk.Landing.{Landing}
use Rattle.rpl_verify.proofs.WalkFacts.{IsBegun, begun_on, next_is}
use Rattle.rpl_verify.proofs.walk.Walk.of.Goals as goal

pub loop-place-preserved : goal.loop-place-preserved
loop-place-preserved c =
    let l = c.loop-place in
    let lines = c.args.lines.now in
    let i = c.index-lines-place.result in
    let x : Landing = record { innermost = c.start_of-innermost.result; declares = c.in_ok-declares.declares } in
    let g = c.in_ok-declares.ensures in
    subst (λ xs. IsBegun c.declare.new.stacks xs (openers_of c.follow.new.openers.items) (l.place + 1) (drop (l.place + 1) lines) lines)
    (sym c.in_ok-push.ensures.items)
    (begun_on l.stacks c.declare.new.stacks l.landings.items (openers_of l.openers.items) (openers_of c.follow.new.openers.items) l.place i
    (drop (l.place + 1) lines) (drop l.place lines) lines x
    l.invariant (next_is lines l.place i c.loop-place-test.true c.index-lines-place.is) g.grows g.made
    (c.start_of-innermost.ensures ∙ ap (λ xs. start_of (top_of (openers_of xs))) c.deref.ensures.value) c.in_ok-follow.ensures)
