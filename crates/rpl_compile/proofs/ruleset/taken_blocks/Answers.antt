use Rattle.rpl_compile.proofs.Common.{[], ap, arith, callees_of, length, map, predefined_callees, rules, sym, written_from, ◌++◌, ◌+◌, ◌∙◌, ◌≡◌, ◌∷◌}
use Rattle.std.proofs.Common.{append-nil}
use Rattle.std.specs.Vec.Iter.{into_iter_items}
use Rattle.rpl_tree.specs.Seen.{declared_of}
use Rattle.rpl_compile.specs.Written.{and_callee}
use Rattle.rpl_compile.proofs.TextWritten.{block_more, none_left}
use Rattle.rpl_compile.proofs.ruleset.taken_blocks.Goals as goal

pub loop-declaration-preserved : goal.loop-declaration-preserved
loop-declaration-preserved c =
    let l = c.loop-declaration in
    let d = c.in-Some.declaration in
    let steps : into_iter_items l.declaration-iterator ≡ d ∷ into_iter_items c.next.new.self = c.in-Some.ensures.steps.0 in
    let gone = c.in-Some.ensures.steps.1 in
    let short = ap length steps in
    let was = l.invariant.left in
    let number : c.in_ok-block_number.block_number ≡ length l.blocks.items + 1 = search (rules, arith) in
    let pushed : c.push.new.self.items ≡ l.blocks.items ++ c.in_ok-block.block ∷ [] = search rules in
    record {
      blocks =
          block_more l.blocks.items (callees_of l.known.items) (callees_of c.block_of.new.known.items) c.in_ok-block.block (declared_of d)
          (map declared_of (into_iter_items c.next.new.self)) c.push.new.self.items _
          (ap (λ ds. l.blocks.items ++ written_from (callees_of l.known.items) (length l.blocks.items + 1) (map declared_of ds)) (sym steps)
          ∙ l.invariant.blocks)
          c.in_ok-block.ensures.block
          (c.in_ok-block.ensures.known ∙ ap (λ n. and_callee (callees_of l.known.items) n (declared_of d)) number)
          pushed;
      left = omega (arith, was, gone, short);
    }

pub returns : goal.returns
returns c =
    let l = c.loop-declaration in
    let none = c.in-None.ensures.steps in
    let empty : into_iter_items l.declaration-iterator ≡ [] = none_left _ (sym l.invariant.left ∙ none.0) in
    sym (append-nil l.blocks.items)
    ∙ ap (λ ds. l.blocks.items ++ written_from (callees_of l.known.items) (length l.blocks.items + 1) (map declared_of ds)) (sym empty)
    ∙ l.invariant.blocks
    ∙ ap (λ ds. written_from predefined_callees 1 (map declared_of ds)) c.into_iter-declaration-iterator.ensures.into_iter_gives.0
