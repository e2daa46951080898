use Rattle.rw_engine.proofs.Common.{Cell, HasCount, None, Some, [], ap, held, last_put, lines_of_rule, arith, option_or, refl, subst, sym, true}
use Rattle.rw_engine.proofs.Common.{written_by, ◌++◌, ◌∙◌, ◌∷◌, ◌≤◌, List, ℕ}
use Rattle.rw_run.specs.Log.{Firing, fired}
use Rattle.rw_run.specs.Next.{ended}
use Rattle.rw_run.specs.Trace.{told}
use Rattle.rw_run.specs.Waiting.{slots_at, woken}
use Rattle.rw_dispatch.specs.Writes.{AreWrites}
use Rattle.rw_run.specs.Frame.{cells_looked}
use Rattle.rw_run.specs.Step.{cells_reached, reached_by}
use Rattle.std.specs.Prelude.{Contains, unwrap_or}
use Rattle.rw_agenda.specs.Agenda.{looked_by}
use Rattle.rw_firing.specs.declared.look.Look.{Look}
use Rattle.rw_rules.specs.Rules.{Rules, policy_in}
use Rattle.rw_engine.proofs.After.{keeps_noted, keeps_done, keeps_ended, on_the_way_rule, rules_on, wanted, stays_fired}
use Rattle.rw_engine.proofs.Firings.{after_all, fired_on, firing_lines, looks_on, rule_fires}
use Rattle.rw_engine.proofs.Notings.{ended_lines, ended_noted, firing_asks, firing_reached, notes_same, written_reached}
use Rattle.rw_engine.proofs.Traces.{told_none}
use Rattle.rw_engine.proofs.Turns.{counts_ended, counts_firing, few_ended}
use Rattle.rw_engine.proofs.state.State.fire.Goals as goal

-- at what the rule looked when it last fired
abbrev looked_now : Rules → ℕ → List Look
looked_now rules rule = unwrap_or (looked_by rules.agenda rule) []

pub raise-requires-clause-known : goal.raise-requires-clause-known
raise-requires-clause-known g c =
    let made = c.requires.within.made in
    let turn = c.requires.turn in
    record { first = turn.first; last = subst (λ n. c.args.rule.0 ≤ n) (sym (made.firings ∙ made.engine.rules.many)) turn.last }

pub note_firing-requires-clause-known : goal.note_firing-requires-clause-known
note_firing-requires-clause-known g c =
    let turn = c.requires.turn in
    record { first = turn.first; last = subst (λ n. c.args.rule.0 ≤ n) (sym c.fire-fired.ensures.made.many) turn.last }

pub note_firing-requires-clause-can : goal.note_firing-requires-clause-can
note_firing-requires-clause-can g c = c.fire-fired.ensures.told.can_ask

pub returns-in_err-note_firing-clause-does : goal.returns-in_err-note_firing-clause-does
returns-in_err-note_firing-clause-does g c =
    let basin = c.args.setup.now.basin.now in
    let policy = c.args.setup.now.policy.now in
    let old = c.args.self.now in
    wanted basin policy None c.args.step.0 old _ _ c.from_residual.result _ c.from_residual.ensures.1
    (keeps_noted basin policy old _ c.requires.within
    (stays_fired basin policy old _ c.args.rule.0 c.raise.ensures refl c.fire-fired.ensures.made refl refl)
    (c.fire-fired.ensures.keeps.indexed c.requires.within.indexed) refl refl ([], sym (told_none _)) ([], sym (told_none _))
    c.in_err-note_firing.ensures.1)
    (record { closed_steps = refl; end = refl }) c.in_err-note_firing.ensures.0

pub returns-in_err-note_firing_lines-clause-does : goal.returns-in_err-note_firing_lines-clause-does
returns-in_err-note_firing_lines-clause-does g c =
    let basin = c.args.setup.now.basin.now in
    let policy = c.args.setup.now.policy.now in
    let old = c.args.self.now in
    wanted basin policy None c.args.step.0 old _ _ c.from_residual-in_err-note_firing_lines.result _
    c.from_residual-in_err-note_firing_lines.ensures.1
    (keeps_noted basin policy old _ c.requires.within
    (stays_fired basin policy old _ c.args.rule.0 c.raise.ensures refl c.fire-fired.ensures.made refl refl)
    (c.fire-fired.ensures.keeps.indexed c.requires.within.indexed) refl refl ([], sym (told_none _)) c.note_firing_lines.ensures.grows
    (cells_looked (looked_now c.fire-fired.new.self c.args.rule.0) ++ cells_reached basin c.fire-fired.new.self.asked, c.in_ok-note_firing.ensures))
    (record { closed_steps = refl; end = refl }) (sym c.requires.within.made.engine.notes.same ∙ c.in_err-note_firing_lines.ensures.wants)

pub returns-in_err-note_firing_lines-2-clause-does : goal.returns-in_err-note_firing_lines-2-clause-does
returns-in_err-note_firing_lines-2-clause-does g c =
    let basin = c.args.setup.now.basin.now in
    let policy = c.args.setup.now.policy.now in
    let old = c.args.self.now in
    wanted basin policy None c.args.step.0 old _ _ c.from_residual-in_err-note_firing_lines-2.result _ c.from_residual-in_err-note_firing_lines-2.ensures.1
    (keeps_noted basin policy old _ c.requires.within
    (stays_fired basin policy old _ c.args.rule.0 c.raise.ensures refl c.fire-fired.ensures.made refl refl)
    (c.fire-fired.ensures.keeps.indexed c.requires.within.indexed) refl refl c.note_firing_lines-2.ensures.grows c.note_firing_lines.ensures.grows
    (cells_looked (looked_now c.fire-fired.new.self c.args.rule.0) ++ cells_reached basin c.fire-fired.new.self.asked, c.in_ok-note_firing.ensures))
    (record { closed_steps = refl; end = refl }) (c.requires.within.made.engine.notes.traced c.in_err-note_firing_lines-2.ensures.wants)

pub returns-clause-does : goal.returns-clause-does
returns-clause-does g c =
    let basin = c.args.setup.now.basin.now in
    let policy = c.args.setup.now.policy.now in
    let old = c.args.self.now in
    let rule = c.args.rule.0 in
    let step = c.args.step.0 in
    let cells = held old.run.series in
    let within = c.requires.within in
    let turn = c.requires.turn in
    let tells = c.fire-fired.ensures.told in
    let fire = tells.fire in
    let event = ended basin cells rule step fire fire.end in
    let known : HasCount old.firings rule =
    record { first = turn.first; last = subst (λ n. rule ≤ n) (sym (within.made.firings ∙ within.made.engine.rules.many)) turn.last } in
    let asked = c.fire-fired.new.self.asked in
    let looked = looked_now c.fire-fired.new.self rule in
    let reached = cells_looked looked ++ cells_reached basin asked in
    let asks = firing_asks basin cells rule step fire fire.end in
    let reaches = firing_reached basin cells rule step fire fire.end looked asked
    (ap (λ looks. unwrap_or looks []) tells.looked) tells.asked in
    let on = c.write.ensures.keeps in
    let firing : Firing =
    record { rule = rule; step = step; is_done = true; looked = []; asked = []; written = c.fire-fired.new.self.written; count = 0 } in
    let made = c.write.ensures.leaves firing refl refl in
    let said =
    ap (λ writes. lines_of_rule rule step c.fire-fired.result.end c.fire-fired.result.count writes) (c.written-writes.ensures ∙ tells.written)
    ∙ ap (λ count. lines_of_rule rule step c.fire-fired.result.end count (written_by event)) tells.count
    ∙ ap (λ so. lines_of_rule rule step so fire.count (written_by event)) tells.end in
    rw (c.end_by.ensures.state, c.end_by.ensures.end) (record {
      keeps = keeps_ended basin policy old _ c.fault_of_rule-fault.result
          (keeps_done basin policy old _ within
          (stays_fired basin policy old _ rule c.raise.ensures refl
          (rules_on basin policy cells (held c.write.new.series) c.fire-fired.new.self c.write.new.self on c.fire-fired.ensures.made) refl refl)
          (fired firing) reached (on.indexed (c.fire-fired.ensures.keeps.indexed within.indexed))
          c.write.ensures.made made c.note_firing_lines-2.ensures.grows c.note_firing_lines.ensures.grows c.in_ok-note_firing.ensures
          (λ kept. subst (λ puts. (cell : Cell) → Contains (cells_reached basin puts) cell → Contains reached cell) (sym tells.written)
          (written_reached basin event reached reaches asks)));
      on_the_way = on_the_way_rule basin step old _ c.fault_of_rule-fault.result rule known c.requires.below c.raise.ensures refl refl refl;
      goes = λ log given.
          let holds = given.0 in
          let written = tells.written in record {
            event = event;
            follows = after_all basin (policy_in basin policy) cells step log _ (λ i cell. holds.shows.cells cell i) given.1
                ∙ rule_fires basin (policy_in basin policy) cells step log rule (rw (← holds.firings rule turn.first) c.requires.below)
                ∙ tells.event;
            goes =
                fired_on basin policy old _ rule step log fire holds refl c.fire-fired.result.end tells.end c.fault_of_rule-fault.result
                c.fault_of_rule-fault.ensures (record {
                  cells = λ cell. made.cells cell ∙ ap (λ puts. option_or (last_put basin puts cell) (cells cell)) written;
                  trace = c.in_ok-note_firing_lines-2.ensures.told ∙ ap (told old.run.trace) said;
                  closed_steps = refl;
                  counted = known;
                  firings = c.raise.ensures;
                  counts = refl;
                  queue = made.queue ∙ ap (λ puts. old.queue.waiting ++ woken basin None old.queue.waiting (slots_at step puts)) written;
                  looks = λ firing same looked. looks_on policy c.fire-fired.new.self c.write.new.self (fired firing ∷ log) on.rules
                      (c.fire-fired.ensures.keeps.shows log firing same (tells.looked ∙ ap (λ looks. Some looks) (sym looked)) holds.looks);
                });
            notes =
                λ calm. ended_noted c.fault_of_rule-fault.result _
                ∙ notes_same cells reached (reached_by basin event) old.noted _ c.in_ok-note_firing.ensures (λ kept. reaches calm);
            lines_are = ended_lines c.fault_of_rule-fault.result _ ∙ c.in_ok-note_firing_lines.ensures.told
                ∙ ap (told old.lines) (said ∙ firing_lines basin cells rule step fire fire.end);
            asks = asks;
            can = subst (AreWrites basin) written c.fire-fired.ensures.can;
            turned = counts_ended old.turns _ event c.fault_of_rule-fault.result (counts_firing basin cells rule step fire old.turns fire.end);
          };
      few = few_ended basin old _ c.fault_of_rule-fault.result (omega arith);
      wants = tt;
    })
