-- Pieces of a text that go on their way one after another.
use Rattle.rw_base.proofs.Common.{◌≡◌, ◌≤◌, ℕ, List, [], ◌++◌, sym, subst, arith, append_assoc, append-nil, Result, Ok, Err, Option, None, Some}
use Rattle.rw_io.specs.Causes.{Rose}
use Rattle.rw_io.specs.Known.{GrowsBy, PrefixGrew}
use Rattle.rw_io.specs.Outside.{SinkView}
use Rattle.rw_io.specs.Handed.{IsOnItsWay, BrokeOff, PassesOn}
use Rattle.rw_io.proofs.KnownLemmas.{GrowsBy-trans, PrefixGrew-left, PrefixGrew-right}

-- no text is under way from any sink
pub begins : (sink : SinkView) → IsOnItsWay sink sink [] []
begins sink = record { sent = []; whole = λ i. []; grew = stays sink.contents; later = omega arith }
  where
    stays : (contents : Option (List ℕ)) → GrowsBy contents contents []
    stays None = tt
    stays (Some bytes) = sym (append-nil bytes)

-- what broke off did so with more behind it
pub broke_before : (before now : SinkView) (text more : List ℕ) → BrokeOff before now text → BrokeOff before now (text ++ more)
broke_before before now text more broke =
    record { front = PrefixGrew-left before.contents now.contents text more broke.front; rose = broke.rose }

-- a write of what is gathered, and of what comes behind it, that failed
pub breaks : (before old new : SinkView) (gathered piece text : List ℕ) → IsOnItsWay before old gathered text
    → PrefixGrew old.contents new.contents (gathered ++ piece) → Rose old.faults new.faults → BrokeOff before new (text ++ piece)
breaks before old new gathered piece text way front rose =
    record {
      front =
          let P : List ℕ → Type 0 = λ t. PrefixGrew before.contents new.contents t in
          subst P (rw way.whole (sym (append_assoc way.sent gathered piece)))
          (PrefixGrew-right before.contents old.contents new.contents way.sent (gathered ++ piece) way.grew front);
      rose = omega (arith, way.later, rose);
    }

-- a piece that is handed over where none is gathered
pub passes : (before old new : SinkView) (piece text : List ℕ) → IsOnItsWay before old [] text
    → GrowsBy old.contents new.contents piece → old.faults ≤ new.faults → IsOnItsWay before new [] (text ++ piece)
passes before old new piece text way grew later =
    record {
      sent = way.sent ++ piece;
      whole = rw (way.whole, append-nil way.sent) (sym (append-nil (way.sent ++ piece)));
      grew = GrowsBy-trans before.contents old.contents new.contents way.sent piece way.grew grew;
      later = omega (arith, way.later, later);
    }
