use Rattle.std.proofs.Common.{◌∙◌, codes}
use Rattle.rw_model_toml.specs.Kinds.{kind_read}
use Rattle.rw_base.proofs.Tests.{unless}
use Rattle.rw_model_toml.proofs.Words.{other-word}
use Rattle.rw_model_toml.proofs.object_kind.read_kind.Goals as goal

pub returns-in_ok-key_path-in_default : goal.returns-in_ok-key_path-in_default
unfolding kind_read
returns-in_ok-key_path-in_default c = (
  λ refusal is.
      unless _ _ _ (other-word (codes "data") c.args.word.now c.in_default.not-data)
      ∙ unless _ _ _ (other-word (codes "gage") c.args.word.now c.in_default.not-gage)
      ∙ unless _ _ _ (other-word (codes "confluence") c.args.word.now c.in_default.not-confluence)
      ∙ unless _ _ _ (other-word (codes "bifurcation") c.args.word.now c.in_default.not-bifurcation)
      ∙ unless _ _ _ (other-word (codes "reach") c.args.word.now c.in_default.not-reach)
      ∙ unless _ _ _ (other-word (codes "reservoir") c.args.word.now c.in_default.not-reservoir)
      ∙ unless _ _ _ (other-word (codes "water_user") c.args.word.now c.in_default.not-water_user)
      ∙ unless _ _ _ (other-word (codes "canal") c.args.word.now c.in_default.not-canal)
      ∙ unless _ _ _ (other-word (codes "power_reservoir") c.args.word.now c.in_default.not-power_reservoir)
      ∙ unless _ _ _ (other-word (codes "routed_reach") c.args.word.now c.in_default.not-routed_reach)
      ∙ cc c.in_ok-key_path-in_default.ensures,
  λ none. absurd cc,
)
