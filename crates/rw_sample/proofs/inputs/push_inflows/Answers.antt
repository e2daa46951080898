use Rattle.rw_base.proofs.Common.{◌≡◌, ◌++◌, ◌+◌, ◌∙◌, ℕ, List, ap, codes, decimal, string_bytes, suc-eq-add-one}
use Rattle.rw_report.proofs.Growing.{next}
use Rattle.rw_sample.specs.Texts.{seeded_inflow, inflow_words, next_number, seeded_number}
use Rattle.rw_sample.proofs.inputs.push_inflows.Goals as goal

-- the number of the next row
later : (seed before last number : ℕ) → last ≡ seeded_number seed before → number ≡ next_number last → number ≡ seeded_number seed (before + 1)
later seed before last number is next = next ∙ ap next_number is ∙ ap (seeded_number seed) (suc-eq-add-one before)

-- and the row
row : (seed step number inflow : ℕ) (text new : List ℕ) → number ≡ seeded_number seed step → inflow ≡ seeded_inflow number
    → new ≡ text ++ (codes "D1.Inflow," ++ (decimal step ++ (codes "," ++ (decimal inflow ++ codes "\n")))) → new ≡ text ++ inflow_words seed step
row seed step number inflow text new is flows added =
    added ∙ ap (λ n. text ++ (codes "D1.Inflow," ++ (decimal step ++ (codes "," ++ (decimal n ++ codes "\n"))))) (flows ∙ ap seeded_inflow is)

pub loop-before-preserved : goal.loop-before-preserved
loop-before-preserved c =
    let seed = c.args.seed in
    let before = c.loop-before.before in
    let text = string_bytes c.loop-before.text in
    let new = string_bytes c.push_inflow.new.text in
    let last = later seed before c.loop-before.number c.next_number-number.result c.loop-before.invariant.last c.next_number-number.ensures in
    record {
      rows = next (inflow_words seed) before (string_bytes c.args.text.now) text new c.loop-before.invariant.rows
          (row seed (before + 1) c.next_number-number.result c.inflow_of.result text new last c.inflow_of.ensures c.in_ok-push_inflow.ensures);
      last = last;
    }
