use Rattle.rw_base.proofs.Common.{ap, map, string_bytes, subst, ◌∙◌}
use Rattle.std.proofs.lemmas.Result.{IfOk-weaker}
use Rattle.clap.specs.Words.{App, FailsBy, fault_of, is_simple, subcommand_of}
use Rattle.clap.specs.Faults.{is_simple_and_free}
use Rattle.rw_words.proofs.Simple.{free, simple}
use Rattle.rw_words.proofs.command.parse.Goals as goal

pub returns : goal.returns
returns c =
    let same = c.in_ok-told.ensures in
    let parse = c.try_get_matches_from in
    let words = map (λ word. string_bytes word) c.args.words.now in
    record {
      fails = subst (λ (app : App). FailsBy (fault_of app words) parse.result) same (parse.ensures.kinds (ap is_simple_and_free same ∙ free));
      found = IfOk-weaker parse.result _ _
          (λ m h. (h (ap is_simple same ∙ simple)).1 ∙ ap (λ (app : App). subcommand_of app words) same) parse.ensures.matches;
    }
