-- The program's words as a command of `clap`: a subcommand is wanted, and nothing is there but what is told here.
use Rattle.std.specs.Prelude.{List, [], ◌∷◌, codes, map, true, Some}
use Rattle.clap.specs.Words.{App, Rule, new_app, new_rule, with_rule, with_subcommand}
use Rattle.clap.specs.declared.builder.ArgAction.{ArgAction}
use Rattle.clap.specs.declared.builder.ArgAction.TheVariants.{Set, SetTrue}
use Rattle.rw_words.specs.Job.{Text, flags_of, job_name, job_options, others_of, paths_of}
use Rattle.rw_words.specs.declared.job.Job.{Job}
use Rattle.rw_words.specs.declared.job.Job.TheVariants.{Run, Simulate, Check, Compile, Why, Sample, Balance, Mrm, Migrate}

-- a word that has to be there
abbrev pub required_word : Text → Rule
required_word name = record (new_rule name) { required = true; action = Some Set }

-- an option, with the name by which it is given
abbrev pub option : ArgAction → Text → Rule
option action name = record (new_rule name) { long = Some name; action = Some action }

abbrev pub with_rules : App → List Rule → App
with_rules app [] = app
with_rules app (rule ∷ rest) = with_rules (with_rule app rule) rest

-- what is told of a command
abbrev pub usage_of : Job → App
usage_of job =
    let paths = with_rules (new_app (job_name job)) (map required_word (paths_of job)) in
    let words = with_rules paths (map required_word (others_of job)) in
    let options = with_rules words (map (option Set) (job_options job)) in
    with_rules options (map (option SetTrue) (flags_of job))

-- the program without its commands
abbrev pub bare : App
bare =
    record (new_app (codes "basin")) {
      top = record (new_app (codes "basin")).top {
        no_binary_name = true;
        disable_help_flag = true;
        disable_help_subcommand = true;
        disable_version_flag = true;
        subcommand_required = true;
      };
    }

abbrev pub with_job : App → Job → App
with_job app job = with_subcommand app (usage_of job).top

-- what is told of `sample` is the same for each seed
abbrev pub program : App
program =
    let runs = with_job (with_job (with_job (with_job (with_job (with_job bare Run) Simulate) Check) Compile) Why) (Sample 0) in
    with_job (with_job (with_job runs Balance) Mrm) Migrate
