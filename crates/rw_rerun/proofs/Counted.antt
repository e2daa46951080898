-- What a call tells where memory wants, and where it goes on.
use Rattle.rw_base.proofs.Common.{◌≡◌, ◌≤◌, ◌+◌, ℕ, Err, List, Ok, Option, Result}
use Rattle.std.specs.Prelude.{IsErrAnd}
use Rattle.rw_base.specs.declared.memory.NoMemory.{NoMemory}
use Rattle.rw_model.specs.Draft.{Draft}
use Rattle.rw_record.specs.Record.{StepRecord}
use Rattle.rpl_verify.specs.Verified.{Accepted}
use Rattle.rw_base.specs.declared.number.StepNo.{StepNo}
use Rattle.rw_rerun.specs.Session.{CountsRuns}
use Rattle.rw_rerun.specs.UnderWay.{GoesOn, PassesRest}
use Rattle.rw_rerun.specs.declared.pass.Pass.{Pass}

pub wants : (basin : Draft) (policy : Accepted) (step : ℕ) (Fits : Option StepRecord → Type 0) (old new : Pass) (before after : ℕ)
    (result : Result (Unit {0}) NoMemory) (why : NoMemory) → IsErrAnd result (λ fault. fault ≡ why) → before ≤ after → after ≤ before + 1
    → GoesOn basin policy step Fits old new before after result
wants basin policy step Fits old new before after (Ok done) why is rises few = absurd is
wants basin policy step Fits old new before after (Err fault) why is rises few = record {
  made = tt;
  kept = tt;
  goes = λ inputs earlier was last entry framed there fits next_one way. tt;
  grows = tt;
  each = tt;
  rises = rises;
  few = few;
}

pub wants_rest : (basin : Draft) (policy : Accepted) (was : List (Option StepRecord)) (behind : ℕ) (old new : Pass) (before after : ℕ)
    (result : Result (Unit {0}) NoMemory) (why : NoMemory) → IsErrAnd result (λ fault. fault ≡ why) → before ≤ after
    → after ≤ before + basin.control.stamps.count → PassesRest basin policy was behind old new before after result
wants_rest basin policy was behind old new before after (Ok done) why is rises few = absurd is
wants_rest basin policy was behind old new before after (Err fault) why is rises few = record {
  made = tt;
  kept = tt;
  goes = λ inputs earlier kept way. tt;
  grows = tt;
  each = tt;
  rises = rises;
  few = few;
}

-- what goes on where more is known
pub weaker : (basin : Draft) (policy : Accepted) (step : ℕ) (Fits Known : Option StepRecord → Type 0) (old new : Pass) (before after : ℕ)
    (result : Result (Unit {0}) NoMemory) → ((entry : Option StepRecord) → Known entry → Fits entry)
    → GoesOn basin policy step Fits old new before after result → GoesOn basin policy step Known old new before after result
weaker basin policy step Fits Known old new before after result known on = record {
  made = on.made;
  goes = λ inputs earlier was last entry framed there fits next_one way.
      on.goes inputs earlier was last entry framed there (known entry fits) next_one way;
  grows = on.grows;
  kept = on.kept;
  each = on.each;
  rises = on.rises;
  few = on.few;
}
