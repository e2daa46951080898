use Rattle.rpl_compile.proofs.Common.{ap, arith, callees_of, drop, map, predefined_callees, written_from, ◌+◌, ◌∙◌, ◌≡◌, ◌∷◌}
use Rattle.rw_base.proofs.Common.{common_steps, string_bytes}
use Rattle.rpl_code.specs.Spelling.{spelt}
use Rattle.rpl_tree.specs.Seen.{declared_of}
use Rattle.rpl_compile.specs.Written.{and_callee}
use Rattle.rpl_compile.proofs.TextWritten.{text_more}
use Rattle.rpl_compile.proofs.ruleset.written_text.Goals as goal

pub loop-place-preserved : goal.loop-place-preserved
loop-place-preserved c =
    let l = c.loop-place in
    let declarations = c.args.declarations.now in
    let declaration = c.index-declarations-place.result in
    let step : drop l.place declarations ≡ declaration ∷ drop (l.place + 1) declarations =
    grind (arith, common_steps, c.index-declarations-place.is) in
    text_more declarations l.place declaration (callees_of l.known.items) (callees_of c.block_of.new.known.items) c.in_ok-block.block
    (string_bytes l.text) (string_bytes c.push_block.new.text)
    (spelt (written_from predefined_callees 1 (map declared_of declarations)))
    step l.invariant c.in_ok-block.ensures.block
    (c.in_ok-block.ensures.known
    ∙ ap (λ n. and_callee (callees_of l.known.items) n (declared_of declaration)) c.in_ok-block_number.ensures)
    c.in_ok-push_block.ensures
