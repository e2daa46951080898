use Rattle.rw_base.proofs.Common.{◌≡◌, ◌∷◌, suc, ◌+◌, sym, subst, arith, length}
use Rattle.rpl_tree.specs.Budget.{capped, limits}
use Rattle.rpl_verify.specs.declared.stacks.Node.{Node}
use Rattle.rpl_verify.specs.Kinds.{words_of_all}
use Rattle.rpl_verify.specs.Stacks.{at, lists, IsPushed, Grows}
use Rattle.rpl_verify.proofs.StackFacts.{IsNew, kept_newest, made_push, grows_push, flat_at}
use Rattle.rpl_verify.proofs.stacks.Stacks.push_newest.Goals as goal

pub overflow_add-height : goal.overflow_add-height
overflow_add-height c =
    let newest : length (lists c.self.inside.nodes.items) ≡ suc c.args.below = rw c.self.view_is c.requires.newest in
    let f = flat_at c.self.inside.nodes.items c.self.inside.numbers c.args.below c.self.invariant (omega (arith, newest)) in
    let h : c.height-height.result ≡ length (at (lists c.self.inside.nodes.items) c.args.below) = rw c.self.view_is c.height-height.ensures in
    omega (arith, f, h, c.requires.few)

pub invariant_of-self-2 : goal.invariant_of-self-2
invariant_of-self-2 c =
    let ns = c.self.inside.nodes.items in
    let m = c.self.inside.numbers in
    let inv = c.self.invariant in
    let n : Node = record { kind = c.args.kind; below = c.args.below; height = c.height-height.result + 1; words = c.words_above-words.result } in
    let newest : length (lists ns) ≡ suc c.args.below = rw c.self.view_is c.requires.newest in
    let f = flat_at ns m c.args.below inv (omega (arith, newest)) in
    let h : c.height-height.result ≡ length (at (lists ns) c.args.below) = rw c.self.view_is c.height-height.ensures in
    let w = inv.wide in
    let few : c.words.result ≡ capped limits.words (words_of_all (at (lists ns) c.args.below)) = rw c.self.view_is c.words.ensures in
    let heavy : c.words_above-words.result ≡ capped limits.words (words_of_all (c.args.kind ∷ at (lists ns) c.args.below)) = let a =
    c.words_above-words.ensures in omega (arith, a, few) in
    let last : c.args.below ≡ length ns = omega (arith, newest, w) in
    let new : IsNew ns n =
    record { low = omega (arith, last); high = omega (arith, h); flat = omega (arith, h, f, last); heavy = heavy; small = c.requires.small } in
    rw c.in_ok-push.ensures.items (kept_newest ns n m inv new last)

pub returns-clause-grows : goal.returns-clause-grows
returns-clause-grows c =
    let n : Node = record { kind = c.args.kind; below = c.args.below; height = c.height-height.result + 1; words = c.words_above-words.result } in
    subst (λ ls. Grows ls (lists c.push.new.self.items)) c.self.view_is
    (subst (λ xs. Grows (lists c.self.inside.nodes.items) (lists xs)) (sym c.in_ok-push.ensures.items) (grows_push c.self.inside.nodes.items n))

pub returns-clause-made : goal.returns-clause-made
returns-clause-made c =
    let ns = c.self.inside.nodes.items in
    let n : Node = record { kind = c.args.kind; below = c.args.below; height = c.height-height.result + 1; words = c.words_above-words.result } in
    let newest : length (lists ns) ≡ suc c.args.below = rw c.self.view_is c.requires.newest in
    let w = c.self.invariant.wide in
    subst (λ ls. IsPushed ls (lists c.push.new.self.items) c.args.kind c.args.below (c.args.below + 1)) c.self.view_is
    (subst (λ xs. IsPushed (lists ns) (lists xs) c.args.kind c.args.below (c.args.below + 1)) (sym c.in_ok-push.ensures.items)
    (made_push ns n (c.args.below + 1) w (omega (arith, newest, w))))
