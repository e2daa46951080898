-- Parts of a line that are written one after another.
use Rattle.rw_commands.proofs.Common.{Bool, GrowsBy, GrowsBy-trans, List, MatchBool, PrefixGrew, PrefixGrew-left, PrefixGrew-right, Rose, SinkView}
use Rattle.rw_commands.proofs.Common.{TellsLine, arith, change, false, inl, inr, length, subst, sym, take_all, true, ℕ, ◌++◌, ◌≤◌}

-- the first part was cut off
pub tells_cut : (a b : SinkView) (xs ys : List ℕ) → PrefixGrew a.contents b.contents xs → Rose a.faults b.faults
    → TellsLine (change a b) (xs ++ ys)
tells_cut a b xs ys h rose = record { front = PrefixGrew-left a.contents b.contents xs ys h; whole = inl rose }

-- the first part was taken, and the rest as told
pub tells_on : (a b c : SinkView) (xs ys : List ℕ) → a.faults ≤ b.faults → GrowsBy a.contents b.contents xs
    → TellsLine (change b c) ys → TellsLine (change a c) (xs ++ ys)
tells_on a b c xs ys le h told = record {
  front = PrefixGrew-right a.contents b.contents c.contents xs ys h told.front;
  whole =
      elim told.whole [ inl rose ↦ inl (omega (arith, le, rose)) | inr grown ↦ inr (GrowsBy-trans a.contents b.contents c.contents xs ys h grown) ];
}

-- the last part
pub tells_last : (a b : SinkView) (xs : List ℕ) (all : Bool)
    → MatchBool all (GrowsBy a.contents b.contents xs) (PrefixGrew a.contents b.contents xs × Rose a.faults b.faults)
    → TellsLine (change a b) xs
tells_last a b xs true h =
    let P : List ℕ → Type 0 = λ t. GrowsBy a.contents b.contents t in
    record { front = (length xs, subst P (sym (take_all (length xs) xs (omega arith))) h); whole = inr h }
tells_last a b xs false h = record { front = h.0; whole = inl h.1 }

-- a second part behind one that was taken whole
pub told_then : (a b c : SinkView) (xs ys : List ℕ) (all : Bool) → a.faults ≤ b.faults → GrowsBy a.contents b.contents xs
    → MatchBool all (GrowsBy b.contents c.contents ys) (PrefixGrew b.contents c.contents ys × Rose b.faults c.faults)
    → MatchBool all (GrowsBy a.contents c.contents (xs ++ ys)) (PrefixGrew a.contents c.contents (xs ++ ys) × Rose a.faults c.faults)
told_then a b c xs ys true le h told = GrowsBy-trans a.contents b.contents c.contents xs ys h told
told_then a b c xs ys false le h told = (PrefixGrew-right a.contents b.contents c.contents xs ys h told.0, omega (arith, le, told.1))
