-- What is so of a run by one policy is so of it by another that does the same.
use Rattle.rw_laws.proofs.Common.{Draft, IsRule, Log, Policy, Run, subst, ℕ, ◌∙◌, ◌≤◌}
use Rattle.rw_run.specs.Policy.{FireAlike}
use Rattle.rw_laws.specs.Laws.{KeepsLaws}
use Rattle.rw_laws.specs.Rules.{AllStandBy}

module _ (basin : Draft) (one other : Policy) (alike : FireAlike one other) where
  stand_alike : (step : ℕ) (log : Log) → AllStandBy basin other step log → AllStandBy basin one step log
  stand_alike step log all rule is =
      let there : IsRule other rule = record { first = is.first; last = subst (λ n. rule ≤ n) alike.rules is.last } in
      let stands = all rule there in
      record {
        firing = stands.firing;
        last = stands.last;
        fire = stands.fire;
        again = alike.same rule step _ is ∙ stands.again;
        is = stands.is;
        puts = stands.puts;
      }

  pub keep_alike : (log : Log) (run : Run) → KeepsLaws basin other log run → KeepsLaws basin one log run
  keep_alike log run laws = record {
    links = laws.links;
    priority = laws.priority;
    steps = λ step first last.
        let here = laws.steps step first last in
        record { before = here.before; is = here.is; rules = stand_alike step here.before here.rules; stays = here.stays; balance = here.balance };
  }
