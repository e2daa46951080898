use Rattle.rw_method.proofs.Common.{List, None, [], ap, arith, common_steps, first_wrong, get_or, length, map, rules, suc, sym, zero, ℕ, ◌+◌, ◌-◌}
use Rattle.rw_method.proofs.Common.{◌<◌, ◌∙◌, ◌∷◌, ◌≡◌, ◌≤◌}
use Rattle.rw_method.proofs.catalogue.Catalogue.method.Goals as goal

-- where the first place is right, so are the others
first_right : (place code : ℕ) (codes : List ℕ) → first_wrong place (code ∷ codes) ≡ None → (code ≡ place) × (first_wrong (place + 1) codes ≡ None)
first_right place code codes h = grind (arith, common_steps, h)

-- in order, each place has its own number
in_order : {X : Type 0} (f : X → ℕ) (xs : List X) (place i : ℕ) (d : X) → first_wrong place (map f xs) ≡ None → i < length xs
    → f (get_or xs i d) ≡ place + i
in_order f [] place i d h lt = absurd (omega (arith, lt))
in_order f (x ∷ xs) place zero d h lt = (first_right place (f x) (map f xs) h).0 ∙ omega arith
in_order f (x ∷ xs) place (suc i) d h lt = in_order f xs (place + 1) i d (first_right place (f x) (map f xs) h).1 (omega (arith, lt)) ∙ omega arith

pub returns : goal.returns
returns g c =
    let some : 1 ≤ c.from-place.result = rw (c.from-place.ensures, c.code.ensures) c.requires.balance in
    let counted : c.from-place.result ≡ 1 + (c.from-place.result - 1) = omega (arith, some) in
    let right = in_order (λ b. (goal.Method-dyn g (b.vtable, b.value)).code b.value) c.args.self.now.methods.items 1 (c.from-place.result - 1)
    c.index.result.now c.requires.order (search rules) in
    sym c.code.ensures ∙ sym c.from-place.ensures ∙ counted ∙ sym right
    ∙ ap (λ b. (goal.Method-dyn g (b.vtable, b.value)).code b.value) (sym c.index.ensures)
