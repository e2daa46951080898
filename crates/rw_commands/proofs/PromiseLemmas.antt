-- A call that wrote its run, or was refused, keeps the promise.
use Rattle.rw_commands.proofs.Common.{AskForCommand, Call, Cause, Command, Fault, FilesRead, IsTextOf, Job, List, None, Promise, Refusal, RefusedCommand}
use Rattle.rw_commands.proofs.Common.{RefusedWords, RunEnd, Settled, Some, WasRefused, WritesAll, Wrote, arith, inl, inr, status_of, status_of_end, ℕ, ◌∙◌}
use Rattle.rw_commands.proofs.Common.{◌≡◌, ◌≤◌}
use Rattle.rw_words.specs.declared.job.Job.TheVariants.{Simulate, Check, Compile, Run, Why, Sample, Balance, Mrm, Migrate}
use Rattle.rw_commands.specs.declared.refusal.Refusal.TheVariants.{Words, NoMemory}
use Rattle.rw_commands.specs.Promise.{UnreadWords}
use Rattle.rw_commands.specs.Written.{CountsReused, scenarios_in}
use Rattle.rw_commands.proofs.CommandLemmas.{asks_clash, of_command}
use Rattle.rw_commands.proofs.DueLemmas.{cell_due, complete, due, none_due, none_lacks}
use Rattle.rw_commands.specs.declared.extras.Extras.{Extras}
use Rattle.rw_commands.specs.Command.{extras_of}
use Rattle.rw_commands.specs.Many.{AreScenarioRuns, many_texts, status_of_runs}
use Rattle.rw_commands.specs.Policy.{PolicyFile as Rules}
use Rattle.rw_inputs.specs.Inputs.{Inputs}
use Rattle.rw_run.specs.Log.{Log}
use Rattle.rw_run.specs.RunOf.{end_of}
use Rattle.rw_mrm.specs.Tally.{is_settled}
use Rattle.rw_commands.proofs.Common.{IsSomeAnd, Option, [], false, if◌then◌else◌, true, ◌∷◌}
use Rattle.rw_base.proofs.Common.{Bool}

at_most_1 : (end : RunEnd) → status_of_end end ≤ 1
at_most_1 Settled = omega arith
at_most_1 (Fault why) = omega arith

runs_at_most_1 : (logs : List Log) → status_of_runs logs ≤ 1
runs_at_most_1 [] = omega arith
runs_at_most_1 (log ∷ logs) = by (is_settled (end_of log)) (runs_at_most_1 logs)
  where
    by : (settled : Bool) → status_of_runs logs ≤ 1 → (if settled then status_of_runs logs else 1) ≤ 1
    by true most = most
    by false most = omega arith

status_at_most_1 : (job : Job) (extras : Extras) (files : FilesRead) (status : ℕ) (texts : List (List ℕ)) → IsTextOf job extras files status texts
    → status ≤ 1
status_at_most_1 Simulate extras files status texts is = let most = at_most_1 is.0 in omega (arith, most, is.1)
status_at_most_1 Check extras files status texts is = omega (arith, is.0)
status_at_most_1 Compile extras files status texts is = omega (arith, is.0)
status_at_most_1 Why extras files status texts is = let most = at_most_1 is.0 in omega (arith, most, is.1)
status_at_most_1 Run extras files status texts is = let most = at_most_1 is.0 in omega (arith, most, is.1)
status_at_most_1 (Sample seed) extras files status texts is = omega (arith, is.0)
status_at_most_1 Balance extras files status texts is = let most = at_most_1 is.0 in omega (arith, most, is.1)
status_at_most_1 Mrm extras files status texts is = both files.policy files.inputs is
  where
    both : (policy : Option Rules) (inputs : Option Inputs)
        → IsSomeAnd policy (λ p. IsSomeAnd inputs (λ i. (logs : List Log) × AreScenarioRuns files.basin p i (scenarios_in files) logs
        × (status ≡ status_of_runs logs) × (texts ≡ many_texts files.basin logs)))
        → status ≤ 1
    both None inputs is = absurd is
    both (Some policy) None is = absurd is
    both (Some policy) (Some inputs) is = let most = runs_at_most_1 is.0 in omega (arith, most, is.2)
status_at_most_1 Migrate extras files status texts is = omega (arith, is.0)

at_least_2 : (why : Refusal) → 2 ≤ status_of why
at_least_2 Words = omega arith
at_least_2 why = omega arith

was_refused : (call : Call) (why : Refusal) → RefusedCommand call why → WasRefused call why
was_refused call Words was = let tells : None ≡ Some was.cause.0.reason = was.cause.0.tells in absurd cc
was_refused call NoMemory was = inr was
was_refused call why was = was

module _ (call : Call) (held : (path : List ℕ) → call.shelf.after.holds path ≡ call.shelf.before.holds path) where
  pub promised_text : (status : ℕ) (wrote : Wrote call status) → CountsReused wrote.command call.shelf.before.holds call.steps → Promise call status
  promised_text status wrote counted =
      let low = status_at_most_1 wrote.command.job (extras_of wrote.command) wrote.text.0 status wrote.text.2.texts wrote.text.2.is in
      record {
        done = λ below. wrote;
        refused = λ above. absurd (omega (arith, low, above));
        words = λ nothing. absurd (asks_clash call.words wrote.command nothing wrote.asked);
        due = λ command asks reason found honest.
            let wrote_all = of_command call.words wrote.command command wrote.asked asks
            (λ it. WritesAll it call.shelf.before.holds call.out status) wrote.text in
            absurd (none_due command call.shelf wrote_all.0 wrote_all.1 reason found honest);
        cell = λ command asks lacks honest.
            let wrote_all = of_command call.words wrote.command command wrote.asked asks
            (λ it. WritesAll it call.shelf.before.holds call.out status) wrote.text in
            absurd (none_lacks command call.shelf wrote_all.0 wrote_all.1 lacks honest);
        complete = λ command asks accepted there calm. inl low;
        counted = λ below command asks.
            of_command call.words wrote.command command wrote.asked asks (λ it. CountsReused it call.shelf.before.holds call.steps) counted;
        held = held;
      }

  pub promised_words : (status : ℕ) → status ≡ 2 → RefusedWords call → Promise call status
  promised_words status is was = record {
    done = λ below. absurd (omega arith);
    refused = λ above. (Words, is, was);
    words = λ nothing. inl is;
    due = λ command asks reason found honest. absurd (asks_clash call.words command was.nothing asks);
    cell = λ command asks lacks honest. absurd (asks_clash call.words command was.nothing asks);
    complete = λ command asks accepted there calm. absurd (asks_clash call.words command was.nothing asks);
    counted = λ below. absurd (omega arith);
    held = held;
  }

  pub promised_memory : (status : ℕ) → status ≡ 5 → UnreadWords call → Promise call status
  promised_memory status is was = record {
    done = λ below. absurd (omega arith);
    refused = λ above. (NoMemory, is, inl was);
    words = λ nothing. inr is;
    due = λ command asks reason found honest. inr is;
    cell = λ command asks lacks honest. inr is;
    complete = λ command asks accepted there calm. inr is;
    counted = λ below. absurd (omega arith);
    held = held;
  }

  pub promised_refusal : (why : Refusal) (status : ℕ) → status ≡ status_of why → RefusedCommand call why → Promise call status
  promised_refusal why status is was =
      let least = at_least_2 why in
      let cause : (command : Command) → AskForCommand call.words command → Cause command call.shelf call.out why =
      λ command asks. of_command call.words was.command command was.asked asks (λ it. Cause it call.shelf call.out why) was.cause in
      record {
        done = λ below. absurd (omega arith);
        refused = λ above. (why, is, was_refused call why was);
        words = λ nothing. absurd (asks_clash call.words was.command nothing was.asked);
        due = λ command asks reason found honest.
            rw is (due command call.shelf call.out why (cause command asks) reason found honest);
        cell = λ command asks lacks honest. rw is (cell_due command call.shelf call.out why (cause command asks) lacks honest);
        complete = λ command asks accepted there calm.
            inr (is ∙ complete command call.shelf call.out why (cause command asks) accepted there calm.honest calm.stands);
        counted = λ below. absurd (omega arith);
        held = held;
      }
