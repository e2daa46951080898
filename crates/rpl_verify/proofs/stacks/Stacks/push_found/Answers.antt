use Rattle.rw_base.proofs.Common.{◌≡◌, true, false, ◌∷◌, suc, ◌-◌, take, ◌+◌, ◌<◌, Some, None, sym, ap, ◌∙◌, subst, arith, length, nat_cmp, get}
use Rattle.rw_base.proofs.Common.{Updates}
use Rattle.rpl_tree.specs.Budget.{capped, limits}
use Rattle.rpl_verify.specs.declared.stacks.Node.{Node}
use Rattle.rpl_verify.specs.Kinds.{words_of_all}
use Rattle.rpl_verify.specs.Stacks.{at, lists, key_of, is_next, IsPushed, Grows}
use Rattle.rpl_verify.proofs.StackFacts.{IsNew, kept_push, made_push, grows_push, made_known, made_next, flat_at, kept_cut, kept_same}
use Rattle.rpl_verify.proofs.stacks.Stacks.push_found.Goals as goal

pub returns-then-is_next-clause-made : goal.returns-then-is_next-clause-made
returns-then-is_next-clause-made c =
    let t : is_next c.self.inside.nodes.items c.args.below c.args.kind ≡ true =
    sym (ap (λ ns. is_next ns c.args.below c.args.kind) c.deref.ensures.value) ∙ sym c.is_next.ensures ∙ c.if-is_next.true in
    subst (λ ls. IsPushed ls ls c.args.kind c.args.below (c.args.below + 1)) c.self.view_is
    (made_next c.self.inside.nodes.items c.self.inside.numbers c.args.below c.args.kind c.self.invariant t)

pub returns-in-Some-clause-made : goal.returns-in-Some-clause-made
returns-in-Some-clause-made c =
    let g : get nat_cmp c.self.inside.numbers (key_of c.args.below c.args.kind) ≡ Some c.in-Some.number =
    rw (← c.key-at.ensures.key) (sym (c.in-Some.ensures ∙ c.get.ensures.value)) in
    subst (λ ls. IsPushed ls ls c.args.kind c.args.below c.in-Some.number) c.self.view_is
    (made_known c.self.inside.nodes.items c.self.inside.numbers c.args.below c.in-Some.number c.args.kind c.self.invariant c.key-at.ensures.small g)

pub overflow_add-height : goal.overflow_add-height
overflow_add-height c =
    let r : c.args.below < length (lists c.self.inside.nodes.items) = rw c.self.view_is c.requires in
    let f = flat_at c.self.inside.nodes.items c.self.inside.numbers c.args.below c.self.invariant r in
    let h : c.height-height.result ≡ length (at (lists c.self.inside.nodes.items) c.args.below) = rw c.self.view_is c.height-height.ensures in
    let w = c.self.invariant.wide in
    omega (arith, f, h, r, w)

pub invariant_of-self-in-Ok : goal.invariant_of-self-in-Ok
invariant_of-self-in-Ok c =
    let ns = c.self.inside.nodes.items in
    let m = c.self.inside.numbers in
    let inv = c.self.invariant in
    let n : Node = record { kind = c.args.kind; below = c.args.below; height = c.height-height.result + 1; words = c.words_above-words.result } in
    let r : c.args.below < length (lists ns) = rw c.self.view_is c.requires in
    let f = flat_at ns m c.args.below inv r in
    let h : c.height-height.result ≡ length (at (lists ns) c.args.below) = rw c.self.view_is c.height-height.ensures in
    let w = inv.wide in
    let absent : get nat_cmp m (key_of c.args.below c.args.kind) ≡ None =
    rw (← c.key-at.ensures.key) (sym (c.in-None.ensures ∙ c.get.ensures.value)) in
    let len : c.len-number.result ≡ suc (length ns) = let a = c.len-number.ensures in let b =
    c.in_ok-push-in-None.ensures.len in omega (arith, a, b) in
    let u : Updates nat_cmp m c.insert.new.self (key_of c.args.below c.args.kind) (Some (suc (length ns))) =
    rw (← c.key-at.ensures.key, ← len) (c.in-Ok.ensures.updates) in
    let few : c.words.result ≡ capped limits.words (words_of_all (at (lists ns) c.args.below)) = rw c.self.view_is c.words.ensures in
    let heavy : c.words_above-words.result ≡ capped limits.words (words_of_all (c.args.kind ∷ at (lists ns) c.args.below)) = let a =
    c.words_above-words.ensures in omega (arith, a, few) in
    let next : is_next ns c.args.below c.args.kind ≡ false =
    sym (ap (λ ns. is_next ns c.args.below c.args.kind) c.deref.ensures.value) ∙ sym c.is_next.ensures ∙ c.if-is_next.false in
    let new : IsNew ns n =
    record {
      low = omega (arith, r, w);
      high = omega (arith, h);
      flat = omega (arith, h, f, r, w);
      heavy = heavy;
      small = c.key-at.ensures.small;
    } in
    rw c.in_ok-push-in-None.ensures.items (kept_push ns n m c.insert.new.self inv new (omega (arith, r, w, c.if-below-len.false)) next absent u)

pub invariant_of-self-in-Err : goal.invariant_of-self-in-Err
invariant_of-self-in-Err c =
    let ns = c.self.inside.nodes.items in
    let n : Node = record { kind = c.args.kind; below = c.args.below; height = c.height-height.result + 1; words = c.words_above-words.result } in
    let len : c.len-number.result - 1 ≡ length ns = let a = c.len-number.ensures in let b = c.in_ok-push-in-None.ensures.len in omega (arith, a, b) in
    let e : c.truncate.new.self.items ≡ ns =
    c.truncate.ensures.items ∙ ap (λ xs. take (c.len-number.result - 1) xs) c.in_ok-push-in-None.ensures.items
    ∙ kept_cut ns n (c.len-number.result - 1) len in
    rw e (kept_same ns c.self.inside.numbers c.insert.new.self c.in-Err.ensures.err c.self.invariant)

pub returns-in-Ok-clause-grows : goal.returns-in-Ok-clause-grows
returns-in-Ok-clause-grows c =
    let e = c.in_ok-push-in-None.ensures.items in
    let n : Node = record { kind = c.args.kind; below = c.args.below; height = c.height-height.result + 1; words = c.words_above-words.result } in
    subst (λ ls. Grows ls (lists c.push.new.self.items)) c.self.view_is
    (subst (λ xs. Grows (lists c.self.inside.nodes.items) (lists xs)) (sym e) (grows_push c.self.inside.nodes.items n))

pub returns-in-Ok-clause-made : goal.returns-in-Ok-clause-made
returns-in-Ok-clause-made c =
    let e = c.in_ok-push-in-None.ensures.items in
    let n : Node = record { kind = c.args.kind; below = c.args.below; height = c.height-height.result + 1; words = c.words_above-words.result } in
    let len : c.len-number.result ≡ suc (length c.self.inside.nodes.items) = let a = c.len-number.ensures in let b =
    c.in_ok-push-in-None.ensures.len in omega (arith, a, b) in
    subst (λ ls. IsPushed ls (lists c.push.new.self.items) c.args.kind c.args.below c.len-number.result) c.self.view_is
    (subst (λ xs. IsPushed (lists c.self.inside.nodes.items) (lists xs) c.args.kind c.args.below c.len-number.result) (sym e)
    (made_push c.self.inside.nodes.items n c.len-number.result c.self.invariant.wide len))
