use Rattle.rw_base.proofs.Common.{◌≡◌, refl, rules, sym, ap, subst, ◌∙◌, slice_set}
use Rattle.std.proofs.lemmas.Result.{on_ok_weaker}
use Rattle.rw_inputs.specs.Edits.{after_edit}
use Rattle.rw_inputs.specs.Inputs.{Inputs, IsInputsOf, value_at}
use Rattle.rw_inputs.proofs.Setting.{Setting, either_way, setting}
use Rattle.rw_inputs.proofs.inputs.Inputs.set.Goals as goal

module _ (c : goal.After-self-1) where
  abbrev held : Inputs
  held = record { columns = c.self.inside.columns.items }

  abbrev holding : Inputs
  holding = record { columns = slice_set c.self.inside.columns.items c.from.result c.set.new.self }

  facts : Setting c.args.basin.now c.args.edit.now held holding c.index_mut.result.now c.set.new.self
  facts =
      let made = subst (IsInputsOf c.args.basin.now) (sym c.self.view_is) c.requires.made in
      let run : c.count-steps.result ≡ c.args.basin.now.control.stamps.count = search rules in
      setting c.args.basin.now c.args.edit.now held holding c.from.result c.count-steps.result c.index_mut.result.now c.set.new.self
      made c.requires.edit c.from.ensures run c.index_mut.ensures.value refl c.set.ensures.column

  unchanged : c.set.new.self ≡ c.index_mut.result.now → holding ≡ c.args.self.now
  unchanged same = ap (λ columns. record { columns = columns }) ((facts).nothing same) ∙ c.self.view_is

pub returns-clause-made : goal.returns-clause-made
returns-clause-made c =
    either_way c.set.result c.set.ensures.set c.set.ensures.unchanged (λ is. (facts c).made is)
    (λ same. subst (IsInputsOf c.args.basin.now) (sym (unchanged c same)) c.requires.made)

pub returns-clause-values : goal.returns-clause-values
returns-clause-values c =
    on_ok_weaker c.set.result
    (λ is. (facts c).values is ∙ ap (λ (inputs : Inputs). after_edit c.args.edit.now (value_at inputs)) c.self.view_is)
    c.set.ensures.set
