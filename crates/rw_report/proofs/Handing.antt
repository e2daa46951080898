-- Parts of a section that are handed on one after another.
use Rattle.rw_base.proofs.Common.{◌≡◌, ◌≤◌, ◌+◌, ◌-◌, ◌∙◌, ℕ, zero, suc, List, [], ◌++◌, ap, arith, append_assoc, append-nil, rules, subst, sym}
use Rattle.rw_base.proofs.Common.{Result, Ok, Err, MatchResult, OnOk, codes, option_map}
use Rattle.rw_io.specs.Outside.{SinkView}
use Rattle.rw_io.specs.Known.{GrowsBy}
use Rattle.rw_io.specs.Handed.{BrokeOff, IsOnItsWay}
use Rattle.rw_io.proofs.Handing.{broke_before}
use Rattle.rw_model.specs.declared.content.Content.{Content}
use Rattle.rw_run.specs.Dispatch.{cell_at}
use Rattle.rw_run.specs.Log.{Cells}
use Rattle.rw_report.specs.Handed.{Grew}
use Rattle.rw_report.specs.Pieces.{words_at}
use Rattle.rw_report.specs.Section.{for_each, value_words, values_in}

-- what is written of some numbers begins with what is written of the first ones
rest_of_each : (words : ℕ → List ℕ) (first more all : ℕ) → all ≡ more + first
    → (rest : List ℕ) × (for_each words all ≡ for_each words first ++ rest)
rest_of_each words first zero all e =
    let same : all ≡ first = omega (arith, e) in
    ([], ap (for_each words) same ∙ sym (append-nil (for_each words first)))
rest_of_each words first (suc more) all e =
    let before = more + first in
    let next : all ≡ suc before = omega (arith, e) in
    let less = rest_of_each words first more before (search rules) in (
      less.0 ++ words (suc before),
      ap (for_each words) next ∙ ap (λ t. t ++ words (suc before)) less.1
          ∙ append_assoc (for_each words first) less.0 (words (suc before)),
    )

-- what broke off within that of the first numbers did so within that of all
pub broke_each : (before now : SinkView) (words : ℕ → List ℕ) (first all : ℕ) (front : List ℕ) → first ≤ all
    → BrokeOff before now (front ++ for_each words first) → BrokeOff before now (front ++ for_each words all)
broke_each before now words first all front near broke =
    let rest = rest_of_each words first (all - first) all (omega (arith, near)) in
    subst (BrokeOff before now) (append_assoc front (for_each words first) rest.0 ∙ ap (λ t. front ++ t) (sym rest.1))
    (broke_before before now (front ++ for_each words first) rest.0 broke)

-- what broke off within a part did so within it and the next one
pub broke_within : (before now : SinkView) (text first second : List ℕ) → BrokeOff before now (text ++ first)
    → BrokeOff before now (text ++ (first ++ second))
broke_within before now text first second broke =
    subst (BrokeOff before now) (append_assoc text first second) (broke_before before now (text ++ first) second broke)

-- the next part behind one that was handed on
pub on_after : {A E : Type 0} → (before new : SinkView) (has text first second : List ℕ) (result : Result A E)
    → MatchResult result (λ _. IsOnItsWay before new has ((text ++ first) ++ second)) (λ _. BrokeOff before new ((text ++ first) ++ second))
    → MatchResult result (λ _. IsOnItsWay before new has (text ++ (first ++ second))) (λ _. BrokeOff before new (text ++ (first ++ second)))
on_after before new has text first second result there =
    subst (λ t. MatchResult result (λ _. IsOnItsWay before new has t) (λ _. BrokeOff before new t)) (append_assoc text first second) there

-- a text of which nothing is gathered any more has arrived
pub arrives : {A E : Type 0} → (before now : SinkView) (has text : List ℕ) (result : Result A E) → OnOk result (has ≡ [])
    → MatchResult result (λ _. IsOnItsWay before now has (text ++ [])) (λ _. BrokeOff before now (text ++ []))
    → MatchResult result (λ _. Grew before now text) (λ _. BrokeOff before now text)
arrives before now has text (Ok done) none way = record {
  by_all =
      let same : way.sent ≡ text =
      sym (append-nil way.sent) ∙ ap (λ t. way.sent ++ t) (sym none) ∙ sym way.whole ∙ append-nil text in
      subst (GrowsBy before.contents now.contents) same way.grew;
  later = way.later;
}
arrives before now has text (Err fault) none broke = subst (BrokeOff before now) (append-nil text) broke

-- the parts of a section
pub together : (top names lines tail : List ℕ) → ((top ++ names) ++ lines) ++ tail ≡ top ++ ((names ++ lines) ++ tail)
together top names lines tail =
    append_assoc (top ++ names) lines tail ∙ append_assoc top names (lines ++ tail) ∙ ap (λ t. top ++ t) (sym (append_assoc names lines tail))

-- the values of one timestep are those at it
pub words_at_step : (now all : Cells) (step : ℕ) → ((slot : ℕ) → now (cell_at slot 1) ≡ all (cell_at slot step))
    → words_at now ≡ (λ slot. codes "," ++ value_words (values_in all slot step))
words_at_step now all step same = λ i slot.
    ap (λ content. codes "," ++ value_words (option_map (λ (content : Content). content.value) content)) (same slot) i
