use Rattle.rw_base.proofs.Common.{◌≡◌, ◌<◌, ◌-◌, ◌+◌, ◌∷◌, suc, drop, length, reverse, sym, ap, ◌∙◌, arith, slice_index}
use Rattle.rpl_verify.specs.declared.notes.Part.TheVariants.{Count, Looks, Puts, Words}
use Rattle.rpl_verify.specs.Places.{bracket, ends_before, loop_end, loop_ends}
use Rattle.rpl_verify.proofs.Caps.{filled_on}
use Rattle.rpl_verify.proofs.WalkFacts.{next_is}
use Rattle.rpl_verify.proofs.table.budget_noted.Goals as goal

pub loop-place-preserved : goal.loop-place-preserved
loop-place-preserved c =
    let l = c.loop-place in
    let lines = c.args.lines.now in
    let notes = c.args.notes.now in
    let p = l.place - 1 in
    let i = c.index-lines-place.result in
    let n = c.note_at-note.result in
    let t = c.loop-place-test.true in
    let v = l.invariant in
    let z : l.place ≡ p + 1 = omega (arith, t) in
    let z2 : suc p ≡ l.place = omega (arith, t) in
    let lt : p < length lines = let a = v.0 in omega (arith, t, a) in
    let e : drop p lines ≡ i ∷ drop l.place lines = next_is lines p i lt c.index-lines-place.is ∙ ap (λ j. i ∷ drop j lines) (sym z) in
    let f : drop p notes ≡ n ∷ drop l.place notes = c.note_at-note.ensures ∙ ap (λ j. n ∷ drop j notes) (sym z) in
    let end : loop_end (suc p) (drop l.place lines) ≡ c.loop_end-end.result =
    ap (λ j. loop_end j (drop l.place lines)) z2
    ∙ sym (c.loop_end-end.ensures ∙ ap (λ xs. slice_index (reverse xs) 0) c.deref.ensures.value ∙ ap (λ xs. slice_index xs 0) v.5) in (
      omega (arith, t, lt),
      filled_on Count l.counts.items c.fill_place.new.most.items p l.place n notes i lines lt z f e v.1
          (c.fill_place.ensures (drop l.place lines) end),
      filled_on Looks l.looks.items c.fill_place-in-loop-place.new.most.items p l.place n notes i lines lt z f e v.2
          (c.fill_place-in-loop-place.ensures (drop l.place lines) end),
      filled_on Puts l.puts.items c.fill_place-in-loop-place-2.new.most.items p l.place n notes i lines lt z f e v.3
          (c.fill_place-in-loop-place-2.ensures (drop l.place lines) end),
      filled_on Words l.words.items c.fill_place-in-loop-place-3.new.most.items p l.place n notes i lines lt z f e v.4
          (c.fill_place-in-loop-place-3.ensures (drop l.place lines) end),
      c.in_ok-follow_back.ensures ∙ ap (ends_before (bracket i) p) (v.5 ∙ ap (λ j. loop_ends j (drop l.place lines)) (sym z2))
          ∙ ap (loop_ends p) (sym e),
    )
