use Rattle.rw_base.proofs.Common.{rules, arith, [], ◌∷◌, ◌++◌}
use Rattle.rpl_parse.specs.Cut.{scanned_at}
use Rattle.rpl_parse.specs.Tokens.{lined, token_seen}
use Rattle.rpl_parse.proofs.CutFacts.{led_none}
use Rattle.rpl_parse.proofs.ScanFacts.{all_read, bad_read, gap_read, token_read}
use Rattle.rpl_parse.proofs.scan.bad_line.Goals as goal

pub loop-at-init : goal.loop-at-init
loop-at-init c = record {
  same = ([], led_none (scanned_at c.args.text.now c.args.from));
  inside = c.requires.inside.inside;
  line = c.requires.inside.line;
}

pub loop-at-preserved-in-Gap : goal.loop-at-preserved-in-Gap
loop-at-preserved-in-Gap c =
    let l = c.loop-at in
    let source = c.args.text.now in
    let pos = c.in-Gap.ensures.1 in
    let go =
    gap_read source (scanned_at source c.args.from) l.invariant.same.0 l.line l.at l.invariant.same.1 c.in-Gap.n
    c.in-Gap.ensures.0 pos (search (rules, arith)) in
    record {
      same = (l.invariant.same.0, rw c.line_behind-line.ensures.value go);
      inside = c.in-Gap.ensures.2;
      line = omega (arith, pos, c.line_behind-line.ensures.within, l.invariant.line);
    }

pub loop-at-preserved : goal.loop-at-preserved
loop-at-preserved c =
    let l = c.loop-at in
    let source = c.args.text.now in
    let pos = c.in-Token.ensures.1 in
    let tok = token_seen source c.in-Token.field-0 in
    let go =
    token_read source (scanned_at source c.args.from) l.invariant.same.0 l.line l.at l.invariant.same.1 tok c.in-Token.n
    c.in-Token.ensures.0 pos (search (rules, arith)) in
    record {
      same = (l.invariant.same.0 ++ lined tok l.line ∷ [], go);
      inside = c.in-Token.ensures.2;
      line = omega (arith, pos, l.invariant.line);
    }

pub returns-in-Bad : goal.returns-in-Bad
returns-in-Bad c =
    let l = c.loop-at in
    let source = c.args.text.now in
    bad_read source (scanned_at source c.args.from) l.invariant.same.0 l.line l.at l.invariant.same.1 c.in-Bad.ensures (search (rules, arith))

pub returns : goal.returns
returns c =
    let l = c.loop-at in
    let source = c.args.text.now in
    (l.invariant.same.0, all_read source (scanned_at source c.args.from) l.invariant.same.0 l.line l.at l.invariant.same.1 (search (rules, arith)))
