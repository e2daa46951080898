-- The slots of an object carry no value together.
use Rattle.rw_laws.proofs.Common.{AllByRecursion, Bool, Draft, IsDistinct, IsDistinct-head, IsDistinct-tail, IsLink, List, Some, [], ap, arith, false}
use Rattle.rw_laws.proofs.Common.{get_or_from_slice_get, if◌then◌else◌, inl, inr, is_among, is_same_link, is_together, link_from, link_of}
use Rattle.rw_laws.proofs.Common.{linked_alike, map, nat_tests, owner_of, refl, slice_get, slice_get_within, subst, suc, sym, true, ℕ, ◌+◌, ◌-◌, ◌==◌}
use Rattle.rw_laws.proofs.Common.{◌||◌, ◌∙◌, ◌∷◌, ◌≡◌, ◌≤◌, ◌⊎◌}
use Rattle.rw_model.specs.Basin.{IsBasin}

-- ---- the link in which a slot is found

record IsIn (links : List (List ℕ)) (slot place : ℕ) : Type 0 where
  link : List ℕ
  at : slice_get links place ≡ Some link
  has : is_among slot link ≡ true

found_in : (n k : ℕ) (links : List (List ℕ)) (slot : ℕ) → link_from n links slot ≡ Some k → (n ≤ k) × IsIn links slot (k - n)
found_in n k [] slot found = absurd (cc)
found_in n k (link ∷ links) slot found = by (is_among slot link) refl found (found_in (n + 1) k links slot)
  where
    by : (test : Bool) → is_among slot link ≡ test → (if test then Some n else link_from (n + 1) links slot) ≡ Some k
        → (link_from (n + 1) links slot ≡ Some k → (n + 1 ≤ k) × IsIn links slot (k - (n + 1))) → (n ≤ k) × IsIn (link ∷ links) slot (k - n)
    by true has found later =
        let at : n ≡ k = cc in
        let start : k - n ≡ 0 = omega (arith, at) in
        (omega (arith, at), record { link = link; at = ap (slice_get (link ∷ links)) start; has = has })
    by false has found later =
        let is = later found in
        let start : k - n ≡ suc (k - (n + 1)) = omega (arith, is.0) in
        (omega (arith, is.0), record { link = is.1.link; at = ap (slice_get (link ∷ links)) start ∙ is.1.at; has = is.1.has })

-- ---- two slots of a link with one owner are one slot

either_true : (a b : Bool) → (a || b) ≡ true → (a ≡ true) ⊎ (b ≡ true)
either_true true b e = inl refl
either_true false b e = inr e

no_same : (f : ℕ → ℕ) (x slot : ℕ) (xs : List ℕ) → AllByRecursion (λ owner. (f x == owner) ≡ false) (map f xs) → is_among slot xs ≡ true
    → f x ≡ f slot → ⊥
no_same f x slot [] apart has same = absurd (cc)
no_same f x slot (y ∷ xs) apart has same = elim (either_true (slot == y) (is_among slot xs) has) [
  | inl here ↦
      let at : slot ≡ y = grind (arith, nat_tests, here) in
      let first : (f x == f y) ≡ false = apart.0 in
      let at_y : f x ≡ f y = same ∙ ap f at in absurd (grind (arith, nat_tests, first, at_y))
  | inr later ↦ no_same f x slot xs apart.1 later same
]

one_of_link : (f : ℕ → ℕ) (a b : ℕ) (xs : List ℕ) → IsDistinct (λ (a : ℕ) b. a == b) (map f xs) → is_among a xs ≡ true → is_among b xs ≡ true
    → f a ≡ f b → a ≡ b
one_of_link f a b [] apart has_a has_b same = absurd (cc)
one_of_link f a b (x ∷ xs) apart has_a has_b same =
    let head : AllByRecursion (λ owner. (f x == owner) ≡ false) (map f xs) = IsDistinct-head (λ (a : ℕ) b. a == b) (f x) (map f xs) apart in
    elim (either_true (a == x) (is_among a xs) has_a) [
      | inl here_a ↦
          let at_a : a ≡ x = grind (arith, nat_tests, here_a) in
          elim (either_true (b == x) (is_among b xs) has_b) [
            | inl here_b ↦ let at_b : b ≡ x = grind (arith, nat_tests, here_b) in at_a ∙ sym at_b
            | inr later_b ↦ absurd (no_same f x b xs head later_b (ap f (sym at_a) ∙ same))
          ]
      | inr later_a ↦ elim (either_true (b == x) (is_among b xs) has_b) [
        | inl here_b ↦
            let at_b : b ≡ x = grind (arith, nat_tests, here_b) in
            absurd (no_same f x a xs head later_a (ap f (sym at_b) ∙ sym same))
        | inr later_b ↦ one_of_link f a b xs (IsDistinct-tail (λ (a : ℕ) b. a == b) (f x) (map f xs) apart) later_a later_b same
      ]
    ]

pub one_slot : (basin : Draft) (a b : ℕ) → IsBasin basin → is_together basin.links a b ≡ true
    → owner_of basin.objects a ≡ owner_of basin.objects b → a ≡ b
one_slot basin a b valid together same = elim (either_true (a == b) (is_same_link (link_of basin.links a) (link_of basin.links b)) together) [
  | inl here ↦ grind (arith, nat_tests, here)
  | inr linked ↦
      let place = linked_alike (link_of basin.links a) (link_of basin.links b) linked in
      let in_a = (found_in 0 place.0 basin.links a place.1.0).1 in
      let in_b = (found_in 0 place.0 basin.links b place.1.1).1 in
      let one_link : in_b.link ≡ in_a.link = let at_a = in_a.at in let at_b = in_b.at in cc in
      let link : IsLink basin.objects in_a.link =
      subst (IsLink basin.objects) (get_or_from_slice_get basin.links (place.0 - 0) in_a.link in_a.link in_a.at)
      (valid.whole.links (place.0 - 0) in_a.link (slice_get_within basin.links (place.0 - 0) in_a.link in_a.at)) in
      one_of_link (owner_of basin.objects) a b in_a.link link.apart in_a.has (ap (is_among b) (sym one_link) ∙ in_b.has) same
]
