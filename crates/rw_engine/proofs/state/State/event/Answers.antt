use Rattle.rw_base.proofs.Common.{ap, arith, length, ◌≡◌, ◌∙◌, ◌≤◌, false, None, Some, refl, subst, sym}
use Rattle.rw_dispatch.specs.Pick.{picked_at}
use Rattle.rw_model.specs.Turn.{is_data}
use Rattle.rw_engine.proofs.Chosen.{does_on, none_picked, others_hold, own_holds, picked_is, picks_one}
use Rattle.rw_engine.proofs.state.State.event.Goals as goal

pub ask-requires-clause-within : goal.ask-requires-clause-within
ask-requires-clause-within g c =
    let within = c.requires.within in record {
      made = record {
        engine = record {
          valid = within.made.engine.valid;
          fits = within.made.engine.fits;
          objects = c.next_by.ensures.objects ∙ within.made.engine.objects;
          rules = within.made.engine.rules;
          series = within.made.engine.series;
          closed_steps = within.made.engine.closed_steps;
          notes = within.made.engine.notes;
        };
        keeps = within.made.keeps;
        counts = within.made.counts;
        firings = within.made.firings;
      };
      ready =
          others_hold (λ object. is_data c.args.setup.now.basin.now object ≡ false)
          (g.P.Pick.rule c.args.pick.now c.args.self.now.turns c.args.self.now.queue.waiting) c.in-Some.object.0 c.args.self.now.queue.waiting
          c.next_by.new.self.waiting c.in-Some.ensures.taken within.ready;
      indexed = within.indexed;
    }

pub ask-requires-clause-turn : goal.ask-requires-clause-turn
ask-requires-clause-turn g c =
    let within = c.requires.within in
    let known = c.in-Some.ensures.known in
    let object = c.in-Some.object.0 in record {
      known = record { first = known.0; last = subst (λ n. object ≤ n) within.made.engine.objects known.1 };
      solves =
          own_holds (λ object. is_data c.args.setup.now.basin.now object ≡ false)
          (g.P.Pick.rule c.args.pick.now c.args.self.now.turns c.args.self.now.queue.waiting) object c.args.self.now.queue.waiting
          c.next_by.new.self.waiting c.in-Some.ensures.taken within.ready;
      at = c.requires.step;
    }

pub returns-in-Some-clause-does : goal.returns-in-Some-clause-does
returns-in-Some-clause-does g c =
    let waits = c.args.self.now.queue.waiting in
    does_on c.args.setup.now.basin.now c.args.setup.now.policy.now c.args.step.0 c.args.self.now c.ask.new.self c.next_by.new.self
    (picked_at (g.P.Pick.rule c.args.pick.now) c.args.self.now.turns waits) (Some c.in-Some.object.0) waits waits c.ask.result
    (picked_is (g.P.Pick.rule c.args.pick.now) c.args.self.now.turns c.in-Some.object.0 waits c.next_by.new.self.waiting c.in-Some.ensures.taken) refl
    (c.ask.ensures (g.P.Pick.rule c.args.pick.now c.args.self.now.turns waits) waits c.in-Some.ensures.taken)

pub returns-in-None-clause-does : goal.returns-in-None-clause-does
returns-in-None-clause-does g c =
    let none = c.in-None.ensures.taken in
    let waits = c.args.self.now.queue.waiting in
    does_on c.args.setup.now.basin.now c.args.setup.now.policy.now c.args.step.0 c.args.self.now c.turn_to_rules.new.self c.next_by.new.self
    (picked_at (g.P.Pick.rule c.args.pick.now) c.args.self.now.turns waits) None
    waits c.next_by.new.self.waiting c.turn_to_rules.result
    (none_picked (g.P.Pick.rule c.args.pick.now) c.args.self.now.turns waits none.0) (none.0 ∙ sym none.1) c.turn_to_rules.ensures.does

pub returns-in-Some-clause-picks : goal.returns-in-Some-clause-picks
returns-in-Some-clause-picks g c =
    λ some. picks_one _ c.in-Some.object.0 c.args.self.now.queue.waiting c.next_by.new.self.waiting c.in-Some.ensures.taken

pub returns-in-None-clause-picks : goal.returns-in-None-clause-picks
returns-in-None-clause-picks g c = λ some. absurd (let none = ap length c.in-None.ensures.taken.0 in omega (arith, some, none))
