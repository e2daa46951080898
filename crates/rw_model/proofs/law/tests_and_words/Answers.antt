use Rattle.rw_model.specs.Objects.{slot_at}
use Rattle.rw_model.proofs.NameFacts.{Decides-name, Decides-plain}
use Rattle.rw_model.proofs.BuildFacts.{Decides-kind, Decides-sound, Decides-fresh, Decides-allowed}
use Rattle.rw_model.proofs.law.tests_and_words.Goals as goal

pub returns : goal.returns
returns c = record {
  plain = Decides-plain;
  name = Decides-name;
  kind = Decides-kind;
  sound = Decides-sound;
  fresh = Decides-fresh;
  allowed = λ objects slot bounds. Decides-allowed (slot_at objects slot) bounds;
}
