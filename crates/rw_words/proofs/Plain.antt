-- Words that ask for a command with no option.
use Rattle.rw_base.proofs.Common.{Bool, List, None, Option, Some, [], ap, append-nil, append_assoc, arith, false, find, is_some, if◌then◌else◌}
use Rattle.rw_base.proofs.Common.{length, list_any, ne_eqb, option_and_then, option_map, refl, suc, sym, true, unwrap_or, ℕ, ◌++◌, ◌+◌, ◌==◌, ◌||◌}
use Rattle.rw_base.proofs.Common.{◌∙◌, ◌∷◌, ◌≡◌, ◌≤◌}
use Rattle.std.specs.Prelude.{fold, ⊤}
use Rattle.clap.specs.Faults.{check_fault, defaults_fault, entered_fault, fault_of, level_fault, settle_fault, step_fault, walk_fault}
use Rattle.clap.specs.Kinds.{Kinds, or_else}
use Rattle.clap.specs.Simple.{Shape, built, entered, label_of, names_of, new_shape, subcommand_of}
use Rattle.clap.specs.Walk.{Held, Names, Row, Rule, Walk, answers_to, arg_by_index, finished, idle, nothing_held, settled, to_positional, value, walk}
use Rattle.clap.specs.Walk.{walk_from, walked}
use Rattle.rw_words.specs.Command.{Command, command_in, command_named, asked_command, is_empty, taken_words}
use Rattle.rw_words.specs.Job.{Text, job_name}
use Rattle.rw_words.specs.Plain.{IsPath, PlainWords, of_cell, plain_command}
use Rattle.rw_words.specs.Program.{program}
use Rattle.rw_words.specs.Seed.{seed_of_text}
use Rattle.rw_words.specs.declared.job.Job.{Job}
use Rattle.rw_words.specs.declared.job.Job.TheVariants.{Balance, Check, Compile, Migrate, Mrm, Run, Sample, Simulate, Why}

-- ---- words that are no options

-- each begins with another byte than `-`
abbrev AreNoOptions : List Text → Type 0
AreNoOptions [] = ⊤
AreNoOptions ([] ∷ more) = ⊥
AreNoOptions ((c ∷ rest) ∷ more) = ((c == 45) ≡ false) × AreNoOptions more

path_more : (path : Text) (more : List Text) → IsPath path → AreNoOptions more → AreNoOptions (path ∷ more)
path_more [] more is later = let no : 1 ≤ 0 = is.some in absurd (omega arith)
path_more (c ∷ rest) more is later = (ne_eqb c 45 is.no_option, later)

filled : (words : List Text) → AreNoOptions words → list_any is_empty words ≡ false
filled [] are = refl
filled ([] ∷ more) are = absurd are
filled ((c ∷ rest) ∷ more) are =
    ap (λ (b : Bool). b || list_any is_empty more) (ne_eqb (length (c ∷ rest)) 0 (λ same. let no : suc (length rest) ≡ 0 = same in omega arith))
    ∙ filled more are.1

-- ---- paths in a walk

-- where a walk stands whose next word may be a path
abbrev standing : Held → ℕ → Walk
standing held position = record {
  held = held;
  waiting = idle;
  position = position;
  is_trailing = false;
  stopped = None;
}

-- where it stands when that word went to the path at its place
abbrev placed : List Rule → Held → ℕ → Text → Walk
placed rules held position word = to_positional rules (arg_by_index rules position) word (standing held position) held

path_walked : (rules : List Rule) (held : Held) (position c : ℕ) (rest : Text) → (c == 45) ≡ false
    → walked rules [] (standing held position) (c ∷ rest) ≡ placed rules held position (c ∷ rest)
unfolding walked
path_walked rules held position c rest no_option = rw (no_option, no_option) refl

path_fault : (s : Shape) (held : Held) (position c : ℕ) (rest : Text) (more : List Text) → (c == 45) ≡ false
    → walk_fault s [] (standing held position) ((c ∷ rest) ∷ more)
    ≡ or_else (step_fault s position held value) (walk_fault s [] (placed s.rules held position (c ∷ rest)) more)
unfolding walk_fault
path_fault s held position c rest more no_option =
    rw (no_option, no_option) (ap (λ (w : Walk). or_else (step_fault s position held value) (walk_fault s [] w more))
    (path_walked s.rules held position c rest no_option))

no_more_fault : (s : Shape) (w : Walk) → walk_fault s [] w [] ≡ []
unfolding walk_fault
no_more_fault s w = refl

-- where it stands behind the words
abbrev end : Shape → Held → ℕ → List Text → Walk
end s held position [] = standing held position
end s held position (word ∷ more) = end s (placed s.rules held position word).held (position + 1) more

-- each word has a path at its place
abbrev Fit : Shape → Held → ℕ → List Text → Type 0
Fit s held position [] = ⊤
Fit s held position (word ∷ more) =
    (placed s.rules held position word ≡ standing (placed s.rules held position word).held (position + 1))
    × (step_fault s position held value ≡ []) × Fit s (placed s.rules held position word).held (position + 1) more

all_walked : (s : Shape) (held : Held) (position : ℕ) (words : List Text) → AreNoOptions words → Fit s held position words
    → fold (walked s.rules []) (standing held position) words ≡ end s held position words
all_walked s held position [] are fit = refl
all_walked s held position ([] ∷ more) are fit = absurd are
all_walked s held position ((c ∷ rest) ∷ more) are fit =
    ap (λ (w : Walk). fold (walked s.rules []) w more) (path_walked s.rules held position c rest are.0 ∙ fit.0)
    ∙ all_walked s (placed s.rules held position (c ∷ rest)).held (position + 1) more are.1 fit.2

none_wrong : (s : Shape) (held : Held) (position : ℕ) (words : List Text) → AreNoOptions words → Fit s held position words
    → walk_fault s [] (standing held position) words ≡ []
none_wrong s held position [] are fit = no_more_fault s (standing held position)
none_wrong s held position ([] ∷ more) are fit = absurd are
none_wrong s held position ((c ∷ rest) ∷ more) are fit =
    path_fault s held position c rest more are.0
    ∙ ap (λ (kinds : Kinds). or_else kinds (walk_fault s [] (placed s.rules held position (c ∷ rest)) more)) fit.1
    ∙ ap (λ (w : Walk). walk_fault s [] w more) fit.0
    ∙ none_wrong s (placed s.rules held position (c ∷ rest)).held (position + 1) more are.1 fit.2

-- ---- behind the name of a command

abbrev top : Shape
top = (built program).top

abbrev names : Names
names = names_of (built program)

abbrev pub shape_of_job : Job → Shape
shape_of_job job = unwrap_or (find (λ s. answers_to (job_name job) (label_of s)) (built program).subs) (new_shape [])

-- the walk stopped at the name of a command, with these words behind it
abbrev inside : Text → List Text → Walk
inside name words = record (standing nothing_held 1) { stopped = Some (name, words) }

word_inside : (rules : List Rule) (name : Text) (before : List Text) (word : Text)
    → walked rules names (inside name before) word ≡ inside name (before ++ word ∷ [])
unfolding walked
word_inside rules name before word = refl

words_inside : (rules : List Rule) (name : Text) (before words : List Text)
    → fold (walked rules names) (inside name before) words ≡ inside name (before ++ words)
words_inside rules name before [] = ap (inside name) (sym (append-nil before))
words_inside rules name before (word ∷ more) =
    ap (λ (w : Walk). fold (walked rules names) w more) (word_inside rules name before word)
    ∙ words_inside rules name (before ++ word ∷ []) more ∙ ap (inside name) (append_assoc before (word ∷ []) more)

none_inside : (s : Shape) (name : Text) (before words : List Text) → walk_fault s names (inside name before) words ≡ []
unfolding walk_fault
none_inside s name before [] = refl
none_inside s name before (word ∷ more) =
    ap (λ (w : Walk). walk_fault s names w more) (word_inside s.rules name before word) ∙ none_inside s name (before ++ word ∷ []) more

name_walked : (job : Job) → walked top.rules names (walk_from nothing_held) (job_name job) ≡ inside (job_name job) []
unfolding walked
name_walked Run = refl
name_walked Simulate = refl
name_walked Check = refl
name_walked Compile = refl
name_walked Why = refl
name_walked (Sample seed) = refl
name_walked Balance = refl
name_walked Mrm = refl
name_walked Migrate = refl

name_fault : (job : Job) (words : List Text)
    → walk_fault top names (walk_from nothing_held) (job_name job ∷ words) ≡ walk_fault top names (inside (job_name job) []) words
unfolding walk_fault walked
name_fault Run words = refl
name_fault Simulate words = refl
name_fault Check words = refl
name_fault Compile words = refl
name_fault Why words = refl
name_fault (Sample seed) words = refl
name_fault Balance words = refl
name_fault Mrm words = refl
name_fault Migrate words = refl

-- what can be wrong when the words are walked
abbrev last_fault : Shape → Bool → Walk → Kinds
last_fault s entered end = or_else (settle_fault s.rules s.args_override_self end.held)
    (or_else (defaults_fault (settled s.rules end.held).rows s.rules) (check_fault s (finished s.rules end.held) entered))

top_last : (name : Text) (words : List Text) → last_fault top true (inside name words) ≡ []
unfolding defaults_fault
top_last name words = refl

top_walk : (job : Job) (words : List Text) → walk top.rules names nothing_held (job_name job ∷ words) ≡ inside (job_name job) words
top_walk job words =
    ap (λ (w : Walk). fold (walked top.rules names) w words) (name_walked job) ∙ words_inside top.rules (job_name job) [] words

top_fault : (job : Job) (words : List Text) (below : Kinds)
    → level_fault top names nothing_held (job_name job ∷ words) true below ≡ or_else below []
top_fault job words below =
    ap (λ (kinds : Kinds). or_else kinds (or_else below (last_fault top true (walk top.rules names nothing_held (job_name job ∷ words)))))
    (name_fault job words ∙ none_inside top (job_name job) [] words)
    ∙ ap (λ (w : Walk). or_else below (last_fault top true w)) (top_walk job words) ∙ ap (or_else below) (top_last (job_name job) words)

abbrev own_fault : Job → List Text → Kinds
own_fault job words = level_fault (shape_of_job job) [] nothing_held words false []

own : (job : Job) (words : List Text) → level_fault top names nothing_held (job_name job ∷ words)
    (is_some (entered (built program) (Some (job_name job, words)))) (entered_fault (built program) (Some (job_name job, words)))
    ≡ or_else (own_fault job words) []
own Run words = top_fault Run words (own_fault Run words)
own Simulate words = top_fault Simulate words (own_fault Simulate words)
own Check words = top_fault Check words (own_fault Check words)
own Compile words = top_fault Compile words (own_fault Compile words)
own Why words = top_fault Why words (own_fault Why words)
own (Sample seed) words = top_fault (Sample seed) words (own_fault (Sample seed) words)
own Balance words = top_fault Balance words (own_fault Balance words)
own Mrm words = top_fault Mrm words (own_fault Mrm words)
own Migrate words = top_fault Migrate words (own_fault Migrate words)

-- what `clap` finds where the words of a job are walked
abbrev Found : Type 0
Found = Option (Text × List Row)

abbrev found_by : Job → Walk → Found
found_by job w = Some ((shape_of_job job).name, finished (shape_of_job job).rules w.held)

entered_is : (job : Job) (words : List Text) → entered (built program) (Some (job_name job, words))
    ≡ found_by job (walk (shape_of_job job).rules [] nothing_held words)
entered_is Run words = refl
entered_is Simulate words = refl
entered_is Check words = refl
entered_is Compile words = refl
entered_is Why words = refl
entered_is (Sample seed) words = refl
entered_is Balance words = refl
entered_is Mrm words = refl
entered_is Migrate words = refl

-- ---- the words of each

asks : (job : Job) (paths : List Text) (command : Command) → list_any is_empty (job_name job ∷ paths) ≡ list_any is_empty paths → AreNoOptions paths
    → Fit (shape_of_job job) nothing_held 1 paths
    → last_fault (shape_of_job job) false (end (shape_of_job job) nothing_held 1 paths) ≡ []
    → option_and_then command_named (found_by job (end (shape_of_job job) nothing_held 1 paths)) ≡ Some command
    → asked_command (job_name job ∷ paths) ≡ Some command
asks job paths command same are fit last named =
    let s = shape_of_job job in
    let words = job_name job ∷ paths in
    let ends = all_walked s nothing_held 1 paths are fit in
    let below : own_fault job paths ≡ [] =
    ap (λ (kinds : Kinds). or_else kinds (last_fault s false (walk s.rules [] nothing_held paths))) (none_wrong s nothing_held 1 paths are fit)
    ∙ ap (last_fault s false) ends ∙ last in
    let fault : fault_of program words ≡ [] =
    ap (λ (w : Walk). level_fault top names nothing_held words (is_some (entered (built program) w.stopped))
    (entered_fault (built program) w.stopped)) (top_walk job paths)
    ∙ own job paths ∙ ap (λ (kinds : Kinds). or_else kinds []) below in
    let found : subcommand_of program words ≡ found_by job (end s nothing_held 1 paths) =
    ap (λ (w : Walk). entered (built program) w.stopped) (top_walk job paths) ∙ entered_is job paths ∙ ap (found_by job) ends in
    let takes = ap (λ (kinds : Kinds). if length kinds == 0 then subcommand_of program words else None) fault ∙ found in
    ap (λ (empty : Bool). if empty then None else option_and_then command_named (taken_words words)) (same ∙ filled paths are)
    ∙ ap (option_and_then command_named) takes ∙ named

run_last : (p q r : Text) → last_fault (shape_of_job Run) false (end (shape_of_job Run) nothing_held 1 (p ∷ q ∷ r ∷ [])) ≡ []
unfolding defaults_fault
run_last p q r = refl

simulate_last : (p q : Text) → last_fault (shape_of_job Simulate) false (end (shape_of_job Simulate) nothing_held 1 (p ∷ q ∷ [])) ≡ []
unfolding defaults_fault
simulate_last p q = refl

check_last : (p q : Text) → last_fault (shape_of_job Check) false (end (shape_of_job Check) nothing_held 1 (p ∷ q ∷ [])) ≡ []
unfolding defaults_fault
check_last p q = refl

compile_last : (p q : Text) → last_fault (shape_of_job Compile) false (end (shape_of_job Compile) nothing_held 1 (p ∷ q ∷ [])) ≡ []
unfolding defaults_fault
compile_last p q = refl

why_last : (p q r s t : Text) → last_fault (shape_of_job Why) false (end (shape_of_job Why) nothing_held 1 (p ∷ q ∷ r ∷ s ∷ t ∷ [])) ≡ []
unfolding defaults_fault
why_last p q r s t = refl

sample_last : (seed : ℕ) (p : Text) → last_fault (shape_of_job (Sample seed)) false (end (shape_of_job (Sample seed)) nothing_held 1 (p ∷ [])) ≡ []
unfolding defaults_fault
sample_last seed p = refl

balance_last : (p q r : Text) → last_fault (shape_of_job Balance) false (end (shape_of_job Balance) nothing_held 1 (p ∷ q ∷ r ∷ [])) ≡ []
unfolding defaults_fault
balance_last p q r = refl

mrm_last : (p q r s : Text) → last_fault (shape_of_job Mrm) false (end (shape_of_job Mrm) nothing_held 1 (p ∷ q ∷ r ∷ s ∷ [])) ≡ []
unfolding defaults_fault
mrm_last p q r s = refl

migrate_last : (p : Text) → last_fault (shape_of_job Migrate) false (end (shape_of_job Migrate) nothing_held 1 (p ∷ [])) ≡ []
unfolding defaults_fault
migrate_last p = refl

-- what is found of a word that spells the seed
sample_found : (seed : ℕ) (p : Text) → seed_of_text p ≡ Some seed
    → option_and_then command_named (found_by (Sample seed) (end (shape_of_job (Sample seed)) nothing_held 1 (p ∷ [])))
    ≡ Some (plain_command (Sample seed) [])
sample_found seed p is =
    let rows = finished (shape_of_job (Sample seed)).rules (end (shape_of_job (Sample seed)) nothing_held 1 (p ∷ [])).held in
    ap (λ (found : Option ℕ). option_and_then (command_in rows) (option_map (λ number. Sample number) found)) is

abbrev two : (p q : Text) → IsPath p → IsPath q → AreNoOptions (p ∷ q ∷ [])
two p q first second = path_more p (q ∷ []) first (path_more q [] second tt)

pub plain_words : PlainWords
plain_words = record {
  run =
      λ p q r first second third. asks Run (p ∷ q ∷ r ∷ []) (plain_command Run (p ∷ q ∷ r ∷ [])) refl
      (path_more p (q ∷ r ∷ []) first (two q r second third))
      (refl, refl, (refl, refl, (refl, refl, tt))) (run_last p q r) refl;
  simulate =
      λ p q first second. asks Simulate (p ∷ q ∷ []) (plain_command Simulate (p ∷ q ∷ [])) refl (two p q first second) (refl, refl, (refl, refl, tt))
      (simulate_last p q) refl;
  check =
      λ p q first second. asks Check (p ∷ q ∷ []) (plain_command Check (p ∷ q ∷ [])) refl (two p q first second) (refl, refl, (refl, refl, tt))
      (check_last p q) refl;
  compile =
      λ p q first second. asks Compile (p ∷ q ∷ []) (plain_command Compile (p ∷ q ∷ [])) refl (two p q first second) (refl, refl, (refl, refl, tt))
      (compile_last p q) refl;
  why = λ p q r s t first second third fourth fifth. asks Why (p ∷ q ∷ r ∷ s ∷ t ∷ []) (of_cell s t (plain_command Why (p ∷ q ∷ r ∷ []))) refl
      (path_more p (q ∷ r ∷ s ∷ t ∷ []) first (path_more q (r ∷ s ∷ t ∷ []) second (path_more r (s ∷ t ∷ []) third (two s t fourth fifth))))
      (refl, refl, (refl, refl, (refl, refl, (refl, refl, (refl, refl, tt))))) (why_last p q r s t) refl;
  sample =
      λ p seed first is. asks (Sample seed) (p ∷ []) (plain_command (Sample seed) []) refl (path_more p [] first tt) (refl, refl, tt)
      (sample_last seed p) (sample_found seed p is);
  balance =
      λ p q r first second third. asks Balance (p ∷ q ∷ r ∷ []) (plain_command Balance (p ∷ q ∷ r ∷ [])) refl
      (path_more p (q ∷ r ∷ []) first (two q r second third))
      (refl, refl, (refl, refl, (refl, refl, tt))) (balance_last p q r) refl;
  mrm =
      λ p q r s first second third fourth. asks Mrm (p ∷ q ∷ r ∷ s ∷ []) (plain_command Mrm (p ∷ q ∷ r ∷ s ∷ [])) refl
      (path_more p (q ∷ r ∷ s ∷ []) first (path_more q (r ∷ s ∷ []) second (two r s third fourth)))
      (refl, refl, (refl, refl, (refl, refl, (refl, refl, tt)))) (mrm_last p q r s) refl;
  migrate =
      λ p first. asks Migrate (p ∷ []) (plain_command Migrate (p ∷ [])) refl (path_more p [] first tt) (refl, refl, tt) (migrate_last p) refl;
}
