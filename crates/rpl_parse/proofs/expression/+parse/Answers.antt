use Rattle.rw_base.proofs.Common.{arith, ap, subst, Some, ◌+◌, ◌-◌, ◌∙◌, sym, ◌∷◌, [], length, map, map-append}
use Rattle.rpl_parse.specs.Reading.{read_tree, got, level, many, climbed, rise, turns_of}
use Rattle.rpl_tree.specs.Seen.{tree_of}
use Rattle.rpl_parse.specs.Tokens.{toks}
use Rattle.rpl_parse.proofs.Faults.{fails_on, many_fault, tree_fault}
use Rattle.rpl_parse.proofs.Climb.{climb_fails, climb_goes, fails_from, from_start}
use Rattle.rpl_parse.specs.Gives.{GivesExpression}
use Rattle.rpl_parse.proofs.Turns.{items_stops, items_fails, items_goes, steps_goes, chain_goes}
use Rattle.rpl_parse.proofs.Stays.{climb_stays, now_reads}
use Rattle.rpl_parse.proofs.expression.+parse.Goals as goal

pub more-returns-in_default : goal.more-returns-in_default
more-returns-in_default t c =
    let e = rw c.in_default.is at c.behind.ensures in (
      sym c.loop-turn.invariant.same ∙ items_stops (read_tree c.args.depth) c.args.depth _
          (many (map tree_of c.loop-turn.items.items) c.loop-turn.most (toks c.args.text.now c.loop-turn.rest.now)) (sym e),
      c.loop-turn.invariant.within,
    )

pub more-loop-turn-preserved : goal.more-loop-turn-preserved
more-loop-turn-preserved t c =
    let e = rw c.in-Some.is at c.behind.ensures in
    let go =
    items_goes (read_tree c.args.depth) c.args.depth (length c.args.tokens.now) c.loop-turn._turn
    (many (map tree_of c.loop-turn.items.items) c.loop-turn.most (toks c.args.text.now c.loop-turn.rest.now))
    (toks c.args.text.now c.in-Some.next.now) (got (tree_of c.in_ok-e.e) c.in_ok-e.deep (toks c.args.text.now c.in_ok-e.after.now))
    c.loop-turn-test.true (sym e) c.in_ok-e.ensures.0 in
    record {
      same = rw (c.in_ok-pushed.ensures.ok, map-append tree_of c.loop-turn.items.items (c.in_ok-e.e ∷ []), c.max_of-most.ensures)
          (sym go ∙ c.loop-turn.invariant.same);
      within = omega (arith, c.max_of-most.ensures, c.in_ok-e.ensures.1, c.loop-turn.invariant.within);
    }

pub more-returns-in_err-e : goal.more-returns-in_err-e
more-returns-in_err-e t c =
    let e = rw c.in-Some.is at c.behind.ensures in
    many_fault c.args.text.now c.args.depth c.from_residual.result _ c.in_err-e.field-0.0 c.from_residual.ensures.1
    (fails_on c.in_err-e.field-0.0 (read_tree c.args.depth 7 (toks c.args.text.now c.in-Some.next.now)) _
    (λ none. sym c.loop-turn.invariant.same ∙ items_fails (read_tree c.args.depth) c.args.depth (length c.args.tokens.now) c.loop-turn._turn
    (many (map tree_of c.loop-turn.items.items) c.loop-turn.most (toks c.args.text.now c.loop-turn.rest.now))
    (toks c.args.text.now c.in-Some.next.now) c.loop-turn-test.true (sym e) none)
    c.in_err-e.ensures)

pub steps-loop-turn-preserved : goal.steps-loop-turn-preserved
steps-loop-turn-preserved t c =
    let e = rw c.in-Some.is at c.behind.ensures in
    let go =
    steps_goes (read_tree c.args.depth) c.args.depth c.args.depth c.loop-turn._turn
    (got (tree_of c.loop-turn.slot) c.loop-turn.deep (toks c.args.text.now c.loop-turn.rest.now)) (toks c.args.text.now c.in-Some.next.now)
    (got (tree_of c.in_ok-step.step) c.in_ok-step.step_deep (toks c.args.text.now c.in_ok-step.after.now)) c.loop-turn-test.true (sym e)
    (omega (arith, c.if-deep-depth.false)) c.in_ok-step.ensures.0 in
    record {
      same = rw (c.in_ok-slot.ensures.ok, c.max_of-deep.ensures) (sym go ∙ c.loop-turn.invariant.same);
      within = omega (arith, c.max_of-deep.ensures, c.in_ok-step.ensures.1, c.if-deep-depth.false);
    }

pub chain-loop-turn-preserved : goal.chain-loop-turn-preserved
chain-loop-turn-preserved t c =
    let e = rw c.in-Some.is at c.turn.ensures in
    let lt = rw c.turns-turn-end.ensures at c.loop-turn-test.true in
    let go =
    chain_goes (read_tree c.args.depth) c.args.depth c.args.k (turns_of c.args.k c.args.depth) c.loop-turn._turn
    (got (tree_of c.loop-turn.left) c.loop-turn.deep (toks c.args.text.now c.loop-turn.rest.now)) _
    (got (tree_of c.in_ok-right.right) c.in_ok-right.right_deep (toks c.args.text.now c.in_ok-right.after.now)) lt (sym e)
    (omega (arith, c.if-deep-depth.false)) c.in_ok-right.ensures.0 in
    record {
      same = rw (c.in_ok-left.ensures.ok, c.max_of-deep.ensures) (sym go ∙ c.loop-turn.invariant.same);
      within = omega (arith, c.max_of-deep.ensures, c.in_ok-right.ensures.1, c.if-deep-depth.false);
    }

pub climb-returns-in_err-whole : goal.climb-returns-in_err-whole
climb-returns-in_err-whole t c =
    let now = got (tree_of c.loop-below.left) c.loop-below.deep (toks c.args.text.now c.loop-below.rest.now) in
    tree_fault c.args.text.now (c.args.depth + 1) c.from_residual.result _ c.in_err-whole.field-0.0 c.from_residual.ensures.1
    (fails_on c.in_err-whole.field-0.0 (rise (read_tree c.args.depth) c.args.depth (c.loop-below.below + 1) now) _
    (λ none. sym c.loop-below.invariant.same
    ∙ climb_fails (read_tree c.args.depth) c.args.depth c.loop-below.below c.args.k now c.loop-below-test.true none)
    c.in_err-whole.ensures)

pub climb-returns-then-not-has_operator : goal.climb-returns-then-not-has_operator
climb-returns-then-not-has_operator t c = (
  climb_stays (read_tree c.args.depth) c.args.depth (c.args.k - c.args.start) c.args.start
      (got (tree_of c.args.first) c.args.first_deep (toks c.args.text.now c.args.tokens.now)) (sym c.has_operator.ensures ∙ c.if-not-has_operator.true),
  c.requires.within,
)

pub date-returns-in-Some : goal.date-returns-in-Some
date-returns-in-Some t c =
    let e = rw c.in-Some.is at c.now_before.ensures in (
      now_reads c.args.depth (toks c.args.text.now c.args.tokens.now) (toks c.args.text.now c.in-Some.rest.now) c.if-depth-gt0.true (sym e),
      c.if-depth-gt0.true,
    )

pub climb-loop-below-preserved : goal.climb-loop-below-preserved
climb-loop-below-preserved t c = record {
  same =
      sym (climb_goes (read_tree c.args.depth) c.args.depth c.loop-below.below c.args.k
      (got (tree_of c.loop-below.left) c.loop-below.deep (toks c.args.text.now c.loop-below.rest.now))
      (got (tree_of c.in_ok-whole.whole) c.in_ok-whole.whole_deep (toks c.args.text.now c.in_ok-whole.after.now))
      c.loop-below-test.true c.in_ok-whole.ensures.0) ∙ c.loop-below.invariant.same;
  within = c.in_ok-whole.ensures.1;
}

pub level-returns-in_err-first : goal.level-returns-in_err-first
level-returns-in_err-first t c =
    let ts = toks c.args.text.now c.args.tokens.now in
    tree_fault c.args.text.now (c.args.depth + 1) c.from_residual.result _ c.in_err-first.field-0.0 c.from_residual.ensures.1
    (fails_on c.in_err-first.field-0.0 (level (read_tree c.args.depth) c.args.depth c.start_of-start.result ts) _
    (λ none. fails_from (read_tree c.args.depth) c.args.depth c.args.k c.start_of-start.result ts c.start_of-start.ensures none)
    c.in_err-first.ensures)

pub level-returns : goal.level-returns
level-returns t c =
    let ts = toks c.args.text.now c.args.tokens.now in
    subst (λ read. GivesExpression c.args.text.now (c.args.depth + 1) c.climb.result read)
    (sym (from_start (read_tree c.args.depth) c.args.depth c.args.k c.start_of-start.result ts c.start_of-start.ensures
    ∙ ap (climbed (read_tree c.args.depth) c.args.depth c.start_of-start.result (c.args.k - c.start_of-start.result)) c.in_ok-first.ensures.0))
    c.climb.ensures
