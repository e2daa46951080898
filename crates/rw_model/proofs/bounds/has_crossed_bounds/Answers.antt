use Rattle.std.proofs.Common.{◌≡◌, ◌+◌, ◌<◌, ℕ, length, Bool, true, false, ap, sym, ◌∙◌, arith}
use Rattle.rw_model.specs.Objects.{all_slots}
use Rattle.rw_model.specs.Links.{bounds_in}
use Rattle.rw_model.specs.Basin.{is_crossed}
use Rattle.rw_model.proofs.Bounding.{some_crossed, none_crossed_more}
use Rattle.rw_model.proofs.bounds.has_crossed_bounds.Goals as goal

pub returns-then-is_crossed : goal.returns-then-is_crossed
returns-then-is_crossed c =
    let p : (ℕ → Bool) = λ slot. is_crossed (bounds_in c.args.objects.now c.args.links.now c.args.own.now slot) in
    let crossed : p (c.loop-before.before + 1) ≡ true =
    ap is_crossed (sym c.bounds_in-bounds.ensures) ∙ sym c.is_crossed.ensures ∙ c.if-is_crossed.true in
    let near : c.loop-before.before < length (all_slots c.args.objects.now) =
    omega (arith, c.loop-before-test.true, c.slot_count-before-end.ensures.count) in
    sym (some_crossed p (length (all_slots c.args.objects.now)) c.loop-before.before near crossed)

pub loop-before-preserved : goal.loop-before-preserved
loop-before-preserved c =
    let p : (ℕ → Bool) = λ slot. is_crossed (bounds_in c.args.objects.now c.args.links.now c.args.own.now slot) in
    let open' : p (c.loop-before.before + 1) ≡ false =
    ap is_crossed (sym c.bounds_in-bounds.ensures) ∙ sym c.is_crossed.ensures ∙ c.if-is_crossed.false in
    none_crossed_more p c.loop-before.before c.loop-before.invariant open'
