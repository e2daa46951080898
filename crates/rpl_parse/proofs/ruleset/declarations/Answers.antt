use Rattle.rw_base.proofs.Common.{rules, arith, ◌≡◌, ◌<◌, ◌≤◌, ◌∙◌, sym, ap, subst, false, ◌∷◌, [], length, map, map-append, drop, IfSome, Some, Ok}
use Rattle.std.proofs.lemmas.List.{length-drop}
use Rattle.rpl_tree.specs.Seen.{declared_of}
use Rattle.rpl_parse.specs.Cut.{IsRefusedAs, scanned_at}
use Rattle.rpl_parse.specs.Declarations.{begins_function, begins_rule, is_full, one_more_if}
use Rattle.rpl_parse.specs.Parsing.{grammar_refusal_of}
use Rattle.rpl_parse.specs.ReadingDeclared.{read_declared}
use Rattle.rpl_parse.specs.Tokens.{toks}
use Rattle.rpl_parse.proofs.CutFacts.{due_later, due_spent, refused_told}
use Rattle.rpl_parse.proofs.ScanFacts.{scan_spent}
use Rattle.rpl_parse.proofs.ruleset.declarations.Goals as goal

pub returns-in-Err-judged : goal.returns-in-Err-judged
returns-in-Err-judged c =
    let l = c.loop-turn in
    let source = c.args.text.now in
    let some : 0 < length c.next_tokens.new.tokens.items = search (rules, arith) in
    let refused = subst (λ ts. IfSome (grammar_refusal_of c.in-Err-judged.fault) (IsRefusedAs source l.number l.rules l.functions ts))
    c.deref.ensures.value c.in-Err-judged.ensures in
    refused_told source l.number l.rules l.functions (map declared_of l.found.items) c.next_tokens.new.tokens.items
    (scanned_at source l.from) (scanned_at source c.in-Ok.behind) (grammar_refusal_of c.in-Err-judged.fault)
    (grammar_refusal_of c.unless_bad.result) c.in-Ok.ensures.taken some refused c.unless_bad.ensures l.invariant.due

pub loop-turn-preserved : goal.loop-turn-preserved
loop-turn-preserved c =
    let l = c.loop-turn in
    let source = c.args.text.now in
    let some : 0 < length c.next_tokens.new.tokens.items = search (rules, arith) in
    let on = c.in-Ok.ensures.on in
    record {
      due = λ due h.
          l.invariant.due due (due_later source l.number l.rules l.functions (map declared_of l.found.items) c.next_tokens.new.tokens.items
          (scanned_at source l.from) (scanned_at source c.in-Ok.behind) (declared_of c.in-Ok-judged.one) due _ _ _ c.in-Ok.ensures.taken some
          (subst (λ ts. is_full (toks source ts) l.rules l.functions ≡ false) c.deref.ensures.value c.in-Ok-judged.ensures.0)
          (subst (λ ts. read_declared (toks source ts) ≡ Some (declared_of c.in-Ok-judged.one)) c.deref.ensures.value c.in-Ok-judged.ensures.1)
          (c.one_more_if-rules.ensures.value
          ∙ ap (λ b. one_more_if b l.rules) (c.begins_rule.ensures ∙ ap (λ ts. begins_rule (toks source ts)) c.deref-in-loop-turn.ensures.value))
          (c.one_more_if-functions.ensures.value
          ∙ ap (λ b. one_more_if b l.functions)
          (c.begins_function.ensures ∙ ap (λ ts. begins_function (toks source ts)) c.deref-in-loop-turn-2.ensures.value))
          (ap (map declared_of) c.in_ok-pushed-in-Ok-judged.ensures.ok ∙ map-append declared_of l.found.items (c.in-Ok-judged.one ∷ [])) h);
      inside = c.in-Ok.ensures.inside;
      on = omega (arith, on, some, l.invariant.on);
      number = omega (arith, l.invariant.number);
      rules = omega (arith, c.one_more_if-rules.ensures.within, l.invariant.rules);
      functions = omega (arith, c.one_more_if-functions.ensures.within, l.invariant.functions);
    }

pub returns : goal.returns
returns c =
    let l = c.loop-turn in
    let source = c.args.text.now in
    let dropped = length-drop l.from.at source in
    let none : length source ≤ l.from.at = search (rules, arith) in
    l.invariant.due _ (due_spent l.number l.rules l.functions (map declared_of l.found.items) (scanned_at source l.from)
    (scan_spent l.from.line (drop l.from.at source) (omega (arith, dropped, none))))
