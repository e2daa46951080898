-- A text on its way to a sink: small pieces are gathered, and handed over in large ones.
use Rattle.std.specs.Prelude.{◌≡◌, ◌≤◌, ℕ, List, ◌++◌, Result, MatchResult}
use Rattle.rw_io.specs.Causes.{Rose}
use Rattle.rw_io.specs.Known.{GrowsBy, PrefixGrew}
use Rattle.rw_io.specs.Outside.{SinkView}

-- of a text all but what is gathered was handed over since a sink was seen so
pub record IsOnItsWay (before now : SinkView) (gathered text : List ℕ) : Type 0 where
  pub sent : List ℕ
  pub whole : text ≡ sent ++ gathered
  pub grew : GrowsBy before.contents now.contents sent
  pub later : before.faults ≤ now.faults

-- a front of a text was handed over, and then a write failed
pub record BrokeOff (before now : SinkView) (text : List ℕ) : Type 0 where
  pub front : PrefixGrew before.contents now.contents text
  pub rose : Rose before.faults now.faults

-- a text that is under way before a call is so afterwards, with these words behind it, or it broke off
abbrev pub PassesOn : {A E : Type 0} → (old new : SinkView) → (had has words : List ℕ) → Result A E → Type 0
PassesOn old new had has words result =
    (before : SinkView) (text : List ℕ) → IsOnItsWay before old had text
    → MatchResult result (λ _. IsOnItsWay before new has (text ++ words)) (λ _. BrokeOff before new (text ++ words))
