use Rattle.std.proofs.Common.{arith}
use Rattle.rpl_verify.proofs.WalkFacts.{grown_length, pushed, sound_grown}
use Rattle.rpl_verify.proofs.walk.Walk.push.Goals as goal

pub returns : goal.returns
returns c =
    let s = c.self.inside in
    let g = c.in_ok-kinds.ensures in
    pushed s.stacks c.push.new.self s.kinds c.in_ok-kinds.kinds s.opens.items s.landings.items s.loop_words c.args.self.now c.args.kind c.self.view_is
    c.self.invariant g.grows g.made

pub invariant_of-self : goal.invariant_of-self
invariant_of-self c =
    let s = c.self.inside in
    let g = c.in_err-kinds.ensures.grows in
    let lt = c.self.invariant.now_in in
    let wide = grown_length s.stacks c.push.new.self g in
    sound_grown s.stacks c.push.new.self s.kinds s.kinds s.opens.items s.landings.items s.loop_words c.self.invariant g (omega (arith, lt, wide))

pub invariant_of-self-2 : goal.invariant_of-self-2
invariant_of-self-2 c =
    let s = c.self.inside in
    let g = c.in_ok-kinds.ensures in
    sound_grown s.stacks c.push.new.self s.kinds c.in_ok-kinds.kinds s.opens.items s.landings.items s.loop_words c.self.invariant g.grows
    g.made.within
