-- What a call does to bytes, where those are told.
use Rattle.std.specs.Prelude.{◌≡◌, ℕ, ◌+◌, ◌-◌, ◌^◌, min, List, ◌++◌, take, Option, None, Some, Result, Ok, Err, MatchResult, ⊤}

-- what is told afterwards was told before, and has grown by the text: a sink may stop telling, and never begins
abbrev pub GrowsBy : Option (List ℕ) → Option (List ℕ) → List ℕ → Type 0
GrowsBy old None text = ⊤
GrowsBy None (Some now) text = ⊥
GrowsBy (Some before) (Some now) text = now ≡ before ++ text

-- it has grown by a front of the text
abbrev pub PrefixGrew : Option (List ℕ) → Option (List ℕ) → List ℕ → Type 0
PrefixGrew old new text = (n : ℕ) × GrowsBy old new (take n text)

-- a write appended as many bytes of the piece as it answers, and none where it failed
abbrev pub SinkAppends : {E : Type 0} → Option (List ℕ) → Option (List ℕ) → Result ℕ E → List ℕ → Type 0
SinkAppends old new result piece =
    MatchResult result (λ n. GrowsBy old new (take n piece)) (λ _. GrowsBy old new (take 0 piece))

-- how many bytes were taken after a read, up to 2^64 - 1
abbrev pub taken_after : {E : Type 0} → ℕ → Result ℕ E → ℕ
taken_after before (Ok n) = min (before + n) (2 ^ 64 - 1)
taken_after before (Err _) = before
