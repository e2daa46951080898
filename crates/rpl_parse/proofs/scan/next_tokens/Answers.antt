use Rattle.rw_base.proofs.Common.{rules, arith, ◌≡◌, ◌≤◌, ◌<◌, ◌∙◌, sym, subst, map, map-append, length}
use Rattle.rpl_parse.specs.Cut.{scanned_at}
use Rattle.rpl_parse.specs.Tokens.{token_seen, lined_of}
use Rattle.rpl_parse.proofs.ScanFacts.{bad_read, gap_read, none_read, space_read, token_read}
use Rattle.rpl_parse.proofs.CutFacts.{Unended, none_led, none_unended, takes_ended, takes_spent, unended_more}
use Rattle.rpl_parse.proofs.scan.next_tokens.Goals as goal

pub loop-at-init : goal.loop-at-init
loop-at-init c =
    let source = c.args.text.now in
    record {
      same = none_led source c.args.tokens.now.items (scanned_at source c.args.from) c.requires.none;
      unended = none_unended source c.args.tokens.now.items c.requires.none;
      inside = c.requires.inside.inside;
      line = c.requires.inside.line;
      on = search (rules, arith);
    }

pub loop-at-preserved-then-is_space : goal.loop-at-preserved-then-is_space
loop-at-preserved-then-is_space c =
    let l = c.loop-at in
    let source = c.args.text.now in
    record {
      same =
          space_read source (scanned_at source c.args.from) (map (lined_of source) l.tokens.items) l.line l.at l.invariant.same
          (sym c.is_space.ensures ∙ c.if-is_space.true) c.loop-at-test.true;
      unended = l.invariant.unended;
      inside = search (rules, arith);
      line = omega (arith, l.invariant.line);
      on = omega (arith, l.invariant.on);
    }

pub loop-at-preserved-in-Gap : goal.loop-at-preserved-in-Gap
loop-at-preserved-in-Gap c =
    let l = c.loop-at in
    let source = c.args.text.now in
    let go =
    gap_read source (scanned_at source c.args.from) (map (lined_of source) l.tokens.items) l.line l.at l.invariant.same c.in-Gap.n
    c.in-Gap.ensures.0 c.in-Gap.ensures.1 (search (rules, arith)) in
    let pos = c.in-Gap.ensures.1 in
    record {
      same = rw c.line_behind-line.ensures.value go;
      unended = l.invariant.unended;
      inside = c.in-Gap.ensures.2;
      line = omega (arith, pos, c.line_behind-line.ensures.within, l.invariant.line);
      on = omega (arith, l.invariant.on);
    }

pub loop-at-preserved : goal.loop-at-preserved
loop-at-preserved c =
    let l = c.loop-at in
    let source = c.args.text.now in
    let pos = c.in-Token.ensures.1 in
    let go =
    token_read source (scanned_at source c.args.from) (map (lined_of source) l.tokens.items) l.line l.at l.invariant.same
    (token_seen source c.in-Token.token) c.in-Token.n c.in-Token.ensures.0 pos (search (rules, arith)) in
    let ok = c.in_ok-pushed-in-Token.ensures.ok in
    let grown = c.in_ok-pushed-in-Token.ensures.grown in
    record {
      same = rw (ok, map-append (lined_of source) l.tokens.items _) go;
      unended =
          subst (Unended source) (sym ok) (unended_more source l.tokens.items l.invariant.unended _ (sym c.is_end.ensures ∙ c.if-is_end.false));
      inside = c.in-Token.ensures.2;
      line = omega (arith, pos, l.invariant.line);
      on = omega (arith, pos, grown, l.invariant.on);
    }

pub returns-then-is_end-clause-taken : goal.returns-then-is_end-clause-taken
returns-then-is_end-clause-taken c =
    let l = c.loop-at in
    let source = c.args.text.now in
    let pos = c.in-Token.ensures.1 in
    let go =
    token_read source (scanned_at source c.args.from) (map (lined_of source) l.tokens.items) l.line l.at l.invariant.same
    (token_seen source c.in-Token.token) c.in-Token.n c.in-Token.ensures.0 pos (search (rules, arith)) in
    let ok = c.in_ok-pushed-in-Token.ensures.ok in
    takes_ended source l.tokens.items _ _ (scanned_at source c.args.from) _ ok c.in_ok-pushed-in-Token.ensures.grown
    (rw (ok, map-append (lined_of source) l.tokens.items _) go) l.invariant.unended (sym c.is_end.ensures ∙ c.if-is_end.true)

pub returns-in-Bad-clause-taken : goal.returns-in-Bad-clause-taken
returns-in-Bad-clause-taken c =
    let l = c.loop-at in
    let source = c.args.text.now in
    bad_read source (scanned_at source c.args.from) (map (lined_of source) l.tokens.items) l.line l.at l.invariant.same c.in-Bad.ensures
    (search (rules, arith))

pub returns-clause-taken : goal.returns-clause-taken
returns-clause-taken c =
    let l = c.loop-at in
    let source = c.args.text.now in
    takes_spent source l.tokens.items (scanned_at source c.args.from) _ l.invariant.same l.invariant.unended
    (none_read source (scanned_at source c.args.from) (map (lined_of source) l.tokens.items) l.line l.at l.invariant.same (search (rules, arith)))
