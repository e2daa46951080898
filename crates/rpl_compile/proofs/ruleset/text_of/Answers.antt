use Rattle.rpl_compile.proofs.Common.{ap, map, predefined_callees, rules, rules_of, written_from, ◌≡◌, ◌∙◌}
use Rattle.std.proofs.Common.{string_bytes}
use Rattle.rpl_code.specs.Spelling.{spelt}
use Rattle.rpl_tree.specs.Seen.{declared_of}
use Rattle.rpl_compile.proofs.BlocksWritten.{translated}
use Rattle.rpl_compile.proofs.ruleset.text_of.Goals as goal

pub returns : goal.returns
returns c =
    let bytes : c.into_bytes.result.items ≡ string_bytes c.in_ok-text.text = search rules in
    bytes ∙ c.in_ok-text.ensures
    ∙ ap (λ ds. spelt (written_from predefined_callees 1 (map declared_of ds))) c.deref.ensures.value
    ∙ ap spelt (translated c.args.basin.now c.object_count-objects.ensures.valid (rules_of c.args.rules.now) c.requires.rooms c.requires.kinded)
