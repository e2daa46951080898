use Rattle.std.proofs.Common.{◌≡◌, ◌+◌, ◌<◌, ◌&&◌, ℕ, length, Bool, true, false, sym, ◌∙◌, arith}
use Rattle.rw_model.specs.Objects.{all_slots}
use Rattle.rw_model.proofs.Bounding.{some_crossed, none_crossed_more}
use Rattle.rw_order.specs.Free.{has_other_level, is_level}
use Rattle.rw_order.proofs.free.joins_levels.Goals as goal

pub returns-then-is_joined : goal.returns-then-is_joined
returns-then-is_joined c =
    let test : (ℕ → Bool) = λ slot. is_level c.args.basin.now.objects slot && has_other_level c.args.basin.now slot in
    let joined : test (c.loop-before.before + 1) ≡ true = sym c.is_joined.ensures ∙ c.if-is_joined.true in
    let near : c.loop-before.before < length (all_slots c.args.basin.now.objects) =
    omega (arith, c.loop-before-test.true, c.slot_count-before-end.ensures.count) in
    sym (some_crossed test (length (all_slots c.args.basin.now.objects)) c.loop-before.before near joined)

pub loop-before-preserved : goal.loop-before-preserved
loop-before-preserved c =
    let test : (ℕ → Bool) = λ slot. is_level c.args.basin.now.objects slot && has_other_level c.args.basin.now slot in
    let apart : test (c.loop-before.before + 1) ≡ false = sym c.is_joined.ensures ∙ c.if-is_joined.false in
    none_crossed_more test c.loop-before.before c.loop-before.invariant apart
