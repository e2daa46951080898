use Rattle.rw_commands.proofs.Common.{None, Settled, subst, sym, ◌↔◌, ◌∙◌, ◌≡◌}
use Rattle.rw_plain_reservoir.specs.Table.{IsFirstText}
use Rattle.rw_report.specs.Outcome.{outcome_by}
use Rattle.rw_promise.proofs.law.first_form.Goals as goal

pub returns : goal.returns
returns c = λ basin model inputs inflows outflows valid form flows end text written.
    let first = c.first_text.ensures basin model inputs inflows outflows written.log valid form flows written.run in (
      first.0,
      subst (IsFirstText model inflows outflows first.0)
          (sym (written.text_is ∙ c.texts_of_runs.ensures.plain basin 0 (outcome_by basin written.log))) first.1,
      subst (λ e. (first.0 ≡ None) ↔ (e ≡ Settled)) (sym written.end_is) first.2,
    )
