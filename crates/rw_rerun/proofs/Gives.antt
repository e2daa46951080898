-- What cells hold once inputs are given to them.
use Rattle.rw_base.proofs.Common.{◌≡◌, ◌<◌, ◌+◌, ◌∙◌, ℕ, ℤ, if◌then◌else◌, List, [], ◌∷◌, Option, Some, None, IfSome, drop, get_or, length}
use Rattle.rw_base.proofs.Common.{option_map, subst, sym, ap}
use Rattle.std.specs.Prelude.{is_some}
use Rattle.std.proofs.lemmas.List.{at_drop_more}
use Rattle.rw_base.specs.declared.number.Cell.{Cell}
use Rattle.rw_model.specs.Draft.{Draft}
use Rattle.rw_model.specs.Links.{IsBetween, bounds_in}
use Rattle.rw_model.specs.declared.content.Content.{Content}
use Rattle.rw_inputs.specs.Inputs.{Inputs, IsInputsOf, value_at}
use Rattle.rw_series.specs.Series.{Series, Sets, held, is_shared}
use Rattle.rw_run.specs.Log.{Cells, Log, input_content}
use Rattle.rpl_verify.specs.Verified.{Accepted}
use Rattle.rw_engine.specs.Engine.{Engine}
use Rattle.rw_engine.specs.Records.{HandsOver}
use Rattle.rw_engine.specs.Shows.{IsEngineOf, KeepsOn, Shows}
use Rattle.rw_rerun.specs.Spare.{GivesAll, given_all}

pub within_given : (basin : Draft) (inputs : Inputs) → IsInputsOf basin inputs → (slot step : ℕ) (value : Option ℤ)
    → value ≡ value_at inputs slot step
    → IfSome value (λ value. IsBetween (bounds_in basin.objects basin.links basin.bounds slot) value)
within_given basin inputs made slot step None is = tt
within_given basin inputs made slot step (Some value) is = (made.sound slot step value (sym is)).within

given_same : (basin : Draft) (inputs : Inputs) (cells : List Cell) (one other : Cells) → ((cell : Cell) → one cell ≡ other cell) → (cell : Cell)
    → given_all basin inputs cells one cell ≡ given_all basin inputs cells other cell
given_same basin inputs [] one other same cell = same cell
given_same basin inputs (first ∷ rest) one other same cell =
    given_same basin inputs rest
    (λ at. if is_shared basin first at then option_map input_content (value_at inputs first.slot.0 first.step.0) else one at)
    (λ at. if is_shared basin first at then option_map input_content (value_at inputs first.slot.0 first.step.0) else other at)
    (λ at. ap (λ there. if is_shared basin first at then option_map input_content (value_at inputs first.slot.0 first.step.0) else there)
    (same at)) cell

pub gives_on : (basin : Draft) (inputs : Inputs) (cells : List Cell) (place : ℕ) (blank : Cell) (value : Option ℤ) (old new : Series)
    (was : Option Content) (cell : Cell)
    → place < length cells → value ≡ value_at inputs (get_or cells place blank).slot.0 (get_or cells place blank).step.0
    → Sets basin (get_or cells place blank) (option_map input_content value) old new → given_all basin inputs (drop place cells) (held old) cell ≡ was
    → given_all basin inputs (drop (place + 1) cells) (held new) cell ≡ was
gives_on basin inputs cells place blank value old new was cell near is sets same =
    let first : Cell = get_or cells place blank in
    given_same basin inputs (drop (place + 1) cells) (held new)
    (λ at. if is_shared basin first at then option_map input_content (value_at inputs first.slot.0 first.step.0) else held old at)
    (λ at. sets at ∙ ap (λ (v : Option ℤ). if is_shared basin first at then option_map input_content v else held old at) is) cell
    ∙ sym (at_drop_more (λ (cs : List Cell). given_all basin inputs cs (held old) cell) cells place blank near) ∙ same

-- ---- what an engine keeps

pub keeps_same : (old new : Engine) → new ≡ old → KeepsOn old new
keeps_same old new same =
    record { trace = ap (λ (engine : Engine). is_some engine.trace) same; noted = ap (λ (engine : Engine). is_some engine.noted) same }

-- the lines of its last timestep are no part of what it shows
module _ (basin : Draft) (ran left : Engine) (hands : HandsOver ran left) where
  pub made_left : (policy : Accepted) → IsEngineOf basin policy ran → IsEngineOf basin policy left
  made_left policy made = subst (IsEngineOf basin policy) (sym hands.rest) (record {
    valid = made.valid;
    fits = made.fits;
    objects = made.objects;
    rules = made.rules;
    series = made.series;
    closed_steps = made.closed_steps;
    notes = record { same = hands.lines ∙ made.notes.same; traced = made.notes.traced };
  })

  pub shows_left : (log : Log) → Shows basin ran log → Shows basin left log
  shows_left log shows = subst (λ engine. Shows basin engine log) (sym hands.rest) (record {
    cells = shows.cells;
    trace = shows.trace;
    closed_steps = shows.closed_steps;
    end = shows.end;
  })

  pub closed_left : left.closed ≡ ran.closed
  closed_left = ap (λ (engine : Engine). engine.closed) hands.rest

  pub keeps_left : KeepsOn ran left
  keeps_left = record {
    trace = ap (λ (engine : Engine). is_some engine.trace) hands.rest;
    noted = ap (λ (engine : Engine). is_some engine.noted) hands.rest;
  }

pub keeps_more : (one other last : Engine) → KeepsOn one other → KeepsOn other last → KeepsOn one last
keeps_more one other last first next = record { trace = next.trace ∙ first.trace; noted = next.noted ∙ first.noted }

-- two that come from one
pub keeps_between : (one other last : Engine) → KeepsOn one other → KeepsOn one last → KeepsOn other last
keeps_between one other last first next = record { trace = next.trace ∙ sym first.trace; noted = next.noted ∙ sym first.noted }

pub gives_keep : (basin : Draft) (inputs : Inputs) (cells : List Cell) (old new : Engine) → GivesAll basin inputs cells old new → KeepsOn old new
gives_keep basin inputs cells old new gives = record { trace = ap is_some gives.trace; noted = ap is_some gives.noted }
