use Rattle.rw_base.proofs.Common.{◌≡◌, inl, inr, refl, rules, sym, ap, subst, ◌∙◌, slice_set}
use Rattle.rw_model.specs.Draft.{IsSlot}
use Rattle.rw_inputs.specs.Inputs.{Inputs, IsInputsOf, Keeps, kept_slot}
use Rattle.rw_inputs.proofs.Keeping.{Taking, taking}
use Rattle.rw_inputs.proofs.inputs.Inputs.take.Goals as goal

module _ (c : goal.After-self-1) where
  abbrev held : Inputs
  held = record { columns = c.self.inside.columns.items }

  abbrev holding : Inputs
  holding = record { columns = slice_set c.self.inside.columns.items c.from.result c.take.new.self }

  facts : Taking c.args.basin.now c.args.row_value.now held holding c.index_mut.result.now c.take.new.self
  facts =
      let made = subst (IsInputsOf c.args.basin.now) (sym c.self.view_is) c.requires.made in
      let at : c.from.result ≡ kept_slot c.args.basin.now c.args.row_value.now.slot = c.from.ensures ∙ c.kept_slot-slot.ensures.least in
      let known = subst (IsSlot c.args.basin.now.objects) (sym c.from.ensures) c.kept_slot-slot.ensures.known in
      let run : c.count-steps.result ≡ c.args.basin.now.control.stamps.count = search rules in
      taking c.args.basin.now c.args.row_value.now held holding c.from.result c.count-steps.result c.index_mut.result.now c.take.new.self
      made c.requires.row_value at known run c.index_mut.ensures.value refl c.take.ensures.column

pub returns-clause-unchanged : goal.returns-clause-unchanged
returns-clause-unchanged c =
    elim c.take.ensures.unchanged [
      | inl taken ↦ inl taken
      | inr same ↦ inr (ap (λ columns. record { columns = columns }) ((facts c).nothing same) ∙ c.self.view_is)
    ]

pub returns-clause-made : goal.returns-clause-made
returns-clause-made c =
    elim (returns-clause-unchanged c) [
      | inl taken ↦ (facts c).made (c.take.ensures.taken taken).more
      | inr same ↦ subst (IsInputsOf c.args.basin.now) (sym same) c.requires.made
    ]

pub returns-clause-taken : goal.returns-clause-taken
returns-clause-taken c is rows kept =
    (facts c).takes (c.take.ensures.taken is).free (c.take.ensures.taken is).more rows (subst (Keeps c.args.basin.now rows) (sym c.self.view_is) kept)

pub returns-clause-twice : goal.returns-clause-twice
returns-clause-twice c is rows kept = (facts c).twice (c.take.ensures.twice is) rows (subst (Keeps c.args.basin.now rows) (sym c.self.view_is) kept)
