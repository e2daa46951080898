-- A run has one end and one text.
use Rattle.rw_plain_reservoir.proofs.Common.{FirstModel, IsFirstText, IsReservoirRun, List, None, Option, Some, ap, arith, columns_line, heading_line}
use Rattle.rw_plain_reservoir.proofs.Common.{refl, table_rows, subst, sym, ℕ, ℤ, ◌++◌, ◌<◌, ◌∙◌, ◌≡◌, ◌≤◌}
use Rattle.rw_model.specs.Kind.{IsAmount}

-- the steps of a run are its end at most
at_most : (steps : ℕ) (i : ℤ) (ins outs : List ℤ) (closed : ℕ) (fault : Option ℤ) → IsReservoirRun steps i ins outs closed fault → closed ≤ steps
at_most steps i ins outs closed None h = omega (arith, h.ends)
at_most steps i ins outs closed (Some v) h = omega (arith, h.ends.0)

-- of two runs of the same flows neither goes further
no_further : (steps : ℕ) (i : ℤ) (ins outs : List ℤ) (a b : ℕ) (f g : Option ℤ) → IsReservoirRun steps i ins outs a f
    → IsReservoirRun steps i ins outs b g → a < b → ⊥
no_further steps i ins outs a b None g h k lt = let most = at_most steps i ins outs b g k in omega (arith, h.ends, lt, most)
no_further steps i ins outs a b (Some v) g h k lt = h.ends.2 (subst IsAmount (sym h.ends.1) (k.inside a lt))

same_closed : (steps : ℕ) (i : ℤ) (ins outs : List ℤ) (a b : ℕ) (f g : Option ℤ) → IsReservoirRun steps i ins outs a f
    → IsReservoirRun steps i ins outs b g → a ≡ b
same_closed steps i ins outs a b f g h k =
    let up = no_further steps i ins outs a b f g h k in
    let down = no_further steps i ins outs b a g f k h in
    grind (arith, up, down)

same_fault : (steps : ℕ) (i : ℤ) (ins outs : List ℤ) (a : ℕ) (f g : Option ℤ) → IsReservoirRun steps i ins outs a f
    → IsReservoirRun steps i ins outs a g → f ≡ g
same_fault steps i ins outs a None None h k = refl
same_fault steps i ins outs a None (Some w) h k = absurd (omega (arith, h.ends, k.ends.0))
same_fault steps i ins outs a (Some v) None h k = absurd (omega (arith, k.ends, h.ends.0))
same_fault steps i ins outs a (Some v) (Some w) h k = ap Some (h.ends.1 ∙ sym k.ends.1)

pub one_text : (model : FirstModel) (ins outs : List ℤ) (f g : Option ℤ) (x y : List ℕ) → IsFirstText model ins outs f x
    → IsFirstText model ins outs g y → (f ≡ g) × (x ≡ y)
one_text model ins outs f g x y h k =
    let steps = model.run.count in
    let closed : h.closed ≡ k.closed = same_closed steps model.initial ins outs h.closed k.closed f g h.run k.run in
    let P : ℕ → Type 0 = λ n. IsReservoirRun steps model.initial ins outs n g in
    let fault : f ≡ g = same_fault steps model.initial ins outs h.closed f g h.run (subst P (sym closed) k.run) in
    let text : (ℕ → Option ℤ → List ℕ) = λ n e. (heading_line model.name n e ++ columns_line model.name) ++ table_rows model ins outs n in
    (fault, h.text_is ∙ ap (λ n. text n f) closed ∙ ap (λ e. text k.closed e) fault ∙ sym k.text_is)
