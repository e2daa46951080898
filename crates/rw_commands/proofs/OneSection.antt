-- A section that is told alone.
use Rattle.rw_commands.proofs.Common.{◌≡◌, ℕ, FilesRead, List, Result, Ok, Err, IfOk, MatchResult, Some, [], ap, inl, refl, status_of_end, subst, sym}
use Rattle.rw_inputs.specs.Inputs.{Inputs}
use Rattle.rw_io.specs.Outside.{Change, SinkView}
use Rattle.rw_report.specs.Handed.{Grew}
use Rattle.rw_run.specs.declared.run.RunEnd.{RunEnd}
use Rattle.rw_commands.specs.RunText.{IsPlainText}
use Rattle.rw_commands.specs.Sections.{AppendsAll, AppendsOne, GivenInputs, StopsAmong, StopsAtOne, StopsText, first_given}
use Rattle.rw_commands.specs.Written.{Appends, Stops}
use Rattle.rw_commands.specs.declared.extras.Extras.{Extras}
use Rattle.rw_words.specs.declared.job.Job.TheVariants.{Simulate}
use Rattle.rw_commands.proofs.SectionLemmas.{last_section, made_front, made_whole, one_run, stops_here}
use Rattle.rw_commands.specs.declared.refusal.Refusal.{Refusal}
use Rattle.rw_commands.specs.declared.refusal.Refusal.TheVariants.{CannotWrite, NoMemory}

-- what came of the text of a section is what came of the section
pub told_one : (IsSection : ℕ → GivenInputs → RunEnd → List ℕ → Type 0) (number : ℕ) (given : GivenInputs) (out : Change SinkView)
    (end : RunEnd) (text : List ℕ) → IsSection number given end text
    → (result : Result RunEnd Refusal) → IfOk result (λ e. e ≡ end)
    → MatchResult result (λ _. Grew out.before out.after text) (StopsText out.before out.after text)
    → MatchResult result (AppendsOne IsSection number given out) (StopsAtOne IsSection number given out)
told_one IsSection number given out end text is (Ok e) same grew = record {
  text = text;
  is = subst (λ x. IsSection number given x text) (sym same) is;
  grew = grew.by_all;
  later = grew.later;
}
told_one IsSection number given out end text is (Err NoMemory) none stops = ap (λ (s : SinkView). s.contents) stops
told_one IsSection number given out end text is (Err CannotWrite) none broke = (end, text, is, broke.front, broke.rose)
told_one IsSection number given out end text is (Err why) none stops = absurd stops

-- the section of a run without rules is the text of its job
pub simulated : (extras : Extras) (files : FilesRead) (inputs : Inputs) (out : Change SinkView) (end : RunEnd) (status : ℕ)
    → files.inputs ≡ Some inputs → status ≡ status_of_end end
    → AppendsOne (IsPlainText files.basin extras) 0 (first_given inputs) out end → Appends Simulate extras files out status
simulated extras files inputs out end status there same one =
    made_whole Simulate extras files out status one.text (one_run extras files inputs end status one.text there same one.is) one.grew

-- and where it isn't written whole, neither is that
pub simulated_not : (extras : Extras) (files : FilesRead) (inputs : Inputs) (out : Change SinkView) (why : Refusal)
    → files.inputs ≡ Some inputs
    → StopsAtOne (IsPlainText files.basin extras) 0 (first_given inputs) out why → Stops Simulate extras files out why
simulated_not extras files inputs out NoMemory there stops = inl stops
simulated_not extras files inputs out CannotWrite there stops = (
  made_front Simulate extras files out (status_of_end stops.0) stops.1
      (one_run extras files inputs stops.0 (status_of_end stops.0) stops.1 there refl stops.2) stops.3,
  stops.4,
)
simulated_not extras files inputs out why there stops = absurd stops

-- where there is one section, what came of it is what came of all
pub is_all : (IsSection : ℕ → GivenInputs → RunEnd → List ℕ → Type 0) (number : ℕ) (given : GivenInputs) (out : Change SinkView)
    (result : Result RunEnd Refusal) → MatchResult result (AppendsOne IsSection number given out) (StopsAtOne IsSection number given out)
    → MatchResult result (AppendsAll IsSection number given [] out) (StopsAmong IsSection number given [] out)
is_all IsSection number given out (Ok end) one = last_section IsSection number given out end one
is_all IsSection number given out (Err why) stops = stops_here IsSection number given [] out why stops
