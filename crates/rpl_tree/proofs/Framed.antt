-- What two outcomes have in common that differ in the values of cells alone.
use Rattle.rw_base.proofs.Common.{◌≡◌, ℕ, ◌+◌, ℤ, Bool, true, false, List, [], ◌∷◌, ◌++◌, Option, Some, None, refl, ap, subst, if◌then◌else◌, is_some}
use Rattle.rw_base.proofs.Common.{unsigned_abs}
use Rattle.rw_base.specs.declared.number.Cell.{Cell}
use Rattle.rw_model.proofs.Common.{Draft, before_of}
use Rattle.rpl_tree.specs.Value.{Value, a_number, a_truth, a_date, a_slot, numbers, slots}
use Rattle.rpl_tree.specs.Outcome.{Answer, Outcome, Trail, after, ended, gives, goes_on, is_stuck, looking, spent, stuck, value, ◌>>=◌}
use Rattle.rpl_tree.specs.Operators.{chosen}
use Rattle.rpl_tree.specs.World.{World, cell_of, is_step, known_of, known_or_end, read_of}
use Rattle.rpl_tree.specs.Mean.{both, numbers_for, turns, with_elements, with_number}
use Rattle.rpl_tree.specs.Frame.{AgreeAt}

alike_left : {A : Type 0} (one other : Cell → A) (xs ys : List Cell) → AgreeAt one other (xs ++ ys) → AgreeAt one other xs
alike_left one other [] ys all = tt
alike_left one other (x ∷ xs) ys all = (all.0, alike_left one other xs ys all.1)

alike_right : {A : Type 0} (one other : Cell → A) (xs ys : List Cell) → AgreeAt one other (xs ++ ys) → AgreeAt one other ys
alike_right one other [] ys all = all
alike_right one other (x ∷ xs) ys all = alike_right one other xs ys all.1

module _ (one other : Cell → Option ℤ) where
  -- they are the same where the cells are alike at which the first looks
  abbrev pub Same : {A : Type 0} → Outcome A → Outcome A → Type 0
  Same r s = AgreeAt one other r.trail.looked → r ≡ s

  pub same_itself : {A : Type 0} (r : Outcome A) → Same r r
  same_itself r alike = refl

  same_on : {A B : Type 0} (a : Answer A) (t : Trail) (s : Outcome A) (f g : A → Outcome B)
      → Same (record { answer = a; trail = t }) s → ((x : A) → Same (f x) (g x)) → Same (goes_on a t f) (s >>= g)
  same_on (value x) t s f g rs fg alike =
      subst (λ z. goes_on (value x) t f ≡ (z >>= g)) (rs (alike_left one other t.looked (f x).trail.looked alike))
      (ap (after t) (fg x (alike_right one other t.looked (f x).trail.looked alike)))
  same_on (ended e) t s f g rs fg alike = subst (λ z. goes_on (ended e) t f ≡ (z >>= g)) (rs alike) refl
  same_on stuck t s f g rs fg alike = subst (λ z. goes_on stuck t f ≡ (z >>= g)) (rs alike) refl

  pub same_bind : {A B : Type 0} (r s : Outcome A) (f g : A → Outcome B) → Same r s → ((x : A) → Same (f x) (g x)) → Same (r >>= f) (s >>= g)
  same_bind r s f g rs fg = same_on r.answer r.trail s f g rs fg

  pub same_then : {A B : Type 0} (r s : Outcome A) (f : A → Outcome B) → Same r s → Same (r >>= f) (s >>= f)
  same_then r s f rs = same_bind r s f f rs (λ x. same_itself (f x))

  pub same_after : {A : Type 0} (t : Trail) (r s : Outcome A) → Same r s → Same (after t r) (after t s)
  same_after t r s rs alike = ap (after t) (rs (alike_right one other t.looked r.trail.looked alike))

  pub same_both : (l m r s : Outcome Value) (does : Value → Value → Outcome Value) → Same l m → Same r s → Same (both l r does) (both m s does)
  same_both l m r s does lm rs =
      same_bind l m (λ x. r >>= (λ y. does x y)) (λ x. s >>= (λ y. does x y)) lm (λ x. same_then r s (λ y. does x y) rs)

  pub same_chosen : {A : Type 0} (x : Value) (r s p q : Outcome A) → Same r s → Same p q → Same (chosen x r p) (chosen x s q)
  same_chosen (a_truth true) r s p q rs pq =
      same_after (spent 1) (r >>= (λ x. gives x 2)) (s >>= (λ x. gives x 2)) (same_then r s (λ x. gives x 2) rs)
  same_chosen (a_truth false) r s p q rs pq =
      same_after (spent 2) (p >>= (λ x. gives x 1)) (q >>= (λ x. gives x 1)) (same_then p q (λ x. gives x 1) pq)
  same_chosen (a_number z) r s p q rs pq = same_itself is_stuck
  same_chosen (a_date d) r s p q rs pq = same_itself is_stuck
  same_chosen (a_slot n) r s p q rs pq = same_itself is_stuck
  same_chosen (numbers m zs) r s p q rs pq = same_itself is_stuck
  same_chosen (slots m ss) r s p q rs pq = same_itself is_stuck

  pub same_elements : {A : Type 0} (vs : Option (List Value)) (f g : List Value → Outcome A) → ((ws : List Value) → Same (f ws) (g ws))
      → Same (with_elements vs f) (with_elements vs g)
  same_elements None f g fg = same_itself is_stuck
  same_elements (Some ws) f g fg = fg ws

  pub same_turns : (words : ℕ) (f g : Value → Value → Outcome Value) → ((v total : Value) → Same (f v total) (g v total))
      → (total : Value) (vs : List Value) → Same (turns words f total vs) (turns words g total vs)
  same_turns words f g fg total [] = same_itself (gives total 0)
  same_turns words f g fg total (v ∷ vs) =
      same_bind (f v total) (g v total) (λ new. after (spent (words + 1)) (turns words f new vs))
      (λ new. after (spent (words + 1)) (turns words g new vs)) (fg v total)
      (λ new. same_after (spent (words + 1)) (turns words f new vs) (turns words g new vs) (same_turns words f g fg new vs))

  same_number : {A : Type 0} (v : Value) (f g : ℤ → Outcome A) → ((z : ℤ) → Same (f z) (g z)) → Same (with_number v f) (with_number v g)
  same_number (a_number z) f g fg = fg z
  same_number (a_truth b) f g fg = same_itself is_stuck
  same_number (a_date d) f g fg = same_itself is_stuck
  same_number (a_slot n) f g fg = same_itself is_stuck
  same_number (numbers m zs) f g fg = same_itself is_stuck
  same_number (slots m ss) f g fg = same_itself is_stuck

  pub same_numbers : (f g : Value → Outcome Value) → ((v : Value) → Same (f v) (g v)) → (vs : List Value) → Same (numbers_for f vs) (numbers_for g vs)
  same_numbers f g fg [] = same_itself (gives [] 0)
  same_numbers f g fg (v ∷ vs) =
      same_bind (f v) (g v)
      (λ new. with_number new (λ z. after (spent 1) (numbers_for f vs >>= (λ zs. gives (z ∷ zs) 0))))
      (λ new. with_number new (λ z. after (spent 1) (numbers_for g vs >>= (λ zs. gives (z ∷ zs) 0)))) (fg v)
      (λ new. same_number new (λ z. after (spent 1) (numbers_for f vs >>= (λ zs. gives (z ∷ zs) 0)))
      (λ z. after (spent 1) (numbers_for g vs >>= (λ zs. gives (z ∷ zs) 0)))
      (λ z. same_after (spent 1) (numbers_for f vs >>= (λ zs. gives (z ∷ zs) 0)) (numbers_for g vs >>= (λ zs. gives (z ∷ zs) 0))
      (same_then (numbers_for f vs) (numbers_for g vs) (λ zs. gives (z ∷ zs) 0) (same_numbers f g fg vs))))

  -- ---- looks

  module _ (basin : Draft) (step : ℕ) where
    abbrev pub world : (Cell → Option ℤ) → World
    world values = record { basin = basin; values = values; step = step }

    look_at : (b : Bool) (c : Cell) (before : Option ℤ) (make : Option ℤ → Answer Value)
        → Same (record { answer = make (if b then one c else before); trail = looking (if b then c ∷ [] else []) })
        (record { answer = make (if b then other c else before); trail = looking (if b then c ∷ [] else []) })
    look_at true c before make alike = ap (λ (v : Option ℤ). record { answer = make v; trail = looking (c ∷ []) }) alike.0
    look_at false c before make alike = refl

    pub same_read : (x y : Value) → Same (read_of (world one) x y) (read_of (world other) x y)
    same_read (a_slot s) (a_date d) = look_at (is_step basin d) (cell_of s (unsigned_abs d)) (before_of basin.objects s d) known_or_end
    same_read (a_slot s) (a_number z) = same_itself is_stuck
    same_read (a_slot s) (a_truth b) = same_itself is_stuck
    same_read (a_slot s) (a_slot n) = same_itself is_stuck
    same_read (a_slot s) (numbers m zs) = same_itself is_stuck
    same_read (a_slot s) (slots m ss) = same_itself is_stuck
    same_read (a_number z) y = same_itself is_stuck
    same_read (a_truth b) y = same_itself is_stuck
    same_read (a_date d) y = same_itself is_stuck
    same_read (numbers m zs) y = same_itself is_stuck
    same_read (slots m ss) y = same_itself is_stuck

    pub same_known : (x y : Value) → Same (known_of (world one) x y) (known_of (world other) x y)
    same_known (a_slot s) (a_date d) =
        look_at (is_step basin d) (cell_of s (unsigned_abs d)) (before_of basin.objects s d) (λ v. value (a_truth (is_some v)))
    same_known (a_slot s) (a_number z) = same_itself is_stuck
    same_known (a_slot s) (a_truth b) = same_itself is_stuck
    same_known (a_slot s) (a_slot n) = same_itself is_stuck
    same_known (a_slot s) (numbers m zs) = same_itself is_stuck
    same_known (a_slot s) (slots m ss) = same_itself is_stuck
    same_known (a_number z) y = same_itself is_stuck
    same_known (a_truth b) y = same_itself is_stuck
    same_known (a_date d) y = same_itself is_stuck
    same_known (numbers m zs) y = same_itself is_stuck
    same_known (slots m ss) y = same_itself is_stuck
