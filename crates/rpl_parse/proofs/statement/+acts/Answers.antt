use Rattle.rw_base.proofs.Common.{arith, ◌∙◌, sym, ◌∷◌, [], length, map, map-append, length-map}
use Rattle.rpl_tree.specs.Seen.{act_of}
use Rattle.rpl_parse.specs.ReadingActs.{act_at, done, read_step}
use Rattle.rpl_parse.specs.declared.token.TokenAt.{TokenAt}
use Rattle.rpl_parse.specs.Tokens.{toks, token_seen}
use Rattle.rpl_parse.proofs.Faults.{fails_on}
use Rattle.rpl_parse.proofs.TurnsActs.{acts_stop, acts_fail, acts_go, acts_is, acts_fault}
use Rattle.rpl_parse.proofs.statement.+acts.Goals as goal

pub statements-loop-turn-init : goal.statements-loop-turn-init
statements-loop-turn-init t c =
    record {
      same = rw c.new-acts.ensures.items
          (acts_is c.args.limit _ (toks c.args.text.now c.args.tokens.now)
          (let l = length-map c.args.tokens.now (λ (a_token : TokenAt). token_seen c.args.text.now a_token.token) in omega (arith, l)));
      within = omega arith;
    }

pub statements-returns-in_default : goal.statements-returns-in_default
statements-returns-in_default t c = (
  sym c.loop-turn.invariant.same ∙ acts_stop (act_at c.args.limit) _
      (done (map act_of c.loop-turn.acts.items) c.loop-turn.most (toks c.args.text.now c.loop-turn.rest.now))
      (rw c.in_default.is at c.in_ok-act.ensures),
  c.loop-turn.invariant.within,
)

pub statements-returns-in_err-act : goal.statements-returns-in_err-act
statements-returns-in_err-act t c =
    let a = done (map act_of c.loop-turn.acts.items) c.loop-turn.most (toks c.args.text.now c.loop-turn.rest.now) in
    acts_fault c.args.text.now c.args.limit c.from_residual.result _ c.in_err-act.field-0.0 c.from_residual.ensures.1
    (fails_on c.in_err-act.field-0.0 (act_at c.args.limit a.left) _
    (λ none. sym c.loop-turn.invariant.same ∙ acts_fail (act_at c.args.limit) (length c.args.tokens.now) c.loop-turn._turn a
    c.loop-turn-test.true none)
    c.in_err-act.ensures)

pub statements-loop-turn-preserved : goal.statements-loop-turn-preserved
statements-loop-turn-preserved t c =
    let a = done (map act_of c.loop-turn.acts.items) c.loop-turn.most (toks c.args.text.now c.loop-turn.rest.now) in
    let h = rw c.in-Some.is at c.in_ok-act.ensures in
    let go =
    acts_go (act_at c.args.limit) (length c.args.tokens.now) c.loop-turn._turn a
    (read_step (act_of c.in-Some.act) c.in-Some.deep (toks c.args.text.now c.in-Some.after.now)) c.loop-turn-test.true h.0 in
    record {
      same = rw (c.in_ok-pushed.ensures.ok, map-append act_of c.loop-turn.acts.items (c.in-Some.act ∷ []), c.max_of-most.ensures)
          (sym go ∙ c.loop-turn.invariant.same);
      within = let w = h.1 in omega (arith, c.max_of-most.ensures, w, c.loop-turn.invariant.within);
    }
