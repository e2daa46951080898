-- Words that ask for the sample ask for nothing more: it has no option, so that `clap` finds the seed alone, whatever the words are.
use Rattle.rw_base.proofs.Common.{Bool, List, None, Option, Some, [], ap, codes, false, false≢true, find, if◌then◌else◌, length, list_any}
use Rattle.rw_base.proofs.Common.{none-some, option_and_then, option_map, ◌||◌, refl, same_Some, subst, suc, sym, true, zero, ℕ, ◌++◌, ◌==◌, ◌∙◌, ◌&&◌, ◌∷◌, ◌≡◌}
use Rattle.std.specs.Prelude.{drop, encode_utf8, fold, slice_get, ⊤}
use Rattle.std.specs.Str.{bytes_eq, chars}
use Rattle.clap.specs.Lexer.{long_of, short_of}
use Rattle.clap.specs.Faults.{fault_of}
use Rattle.clap.specs.Simple.{Shape, built, entered, filled, label_of, names_of, rows_at, subcommand_of, with_index}
use Rattle.clap.specs.Walk.{Held, Outcome, Row, Rule, Step, Waiting, Walk, after_flag, after_step, answers_to, arg_by_id, arg_by_index, at_row}
use Rattle.clap.specs.Walk.{bundle, bundle_met, bundle_step, default_rows, done, finished, first_of, has_row, idle, is_pending, long_or_other, more_values, next}
use Rattle.clap.specs.Walk.{nothing_held, option, option_word, plain, plain_word, positional, reading_by, refused, rows_after, settled, settled_rows, stop_after}
use Rattle.clap.specs.Walk.{short_or_plain, subcommand, subcommand_met, subcommand_or_other, takes_several, to_positional, trailing, used, used_by_id}
use Rattle.clap.specs.Walk.{value, values_or_missing, waits, walk, walk_from, walked, walked_from, with_values, without, word_met}
use Rattle.clap.specs.declared.builder.value_parser.Reading.{Reading}
use Rattle.clap.specs.declared.parser.matches.ValueSource.{ValueSource}
use Rattle.clap.specs.declared.parser.matches.ValueSource.TheVariants.{CommandLine}
use Rattle.rw_words.specs.Command.{Command, asked_command, asks_in_vain, command_in, command_named, command_with, is_empty, is_pathless, paths_in}
use Rattle.rw_words.specs.Command.{seed_in}
use Rattle.rw_words.specs.Job.{Text, job_named, paths_of}
use Rattle.rw_words.specs.Order.{order_or_oldest}
use Rattle.rw_words.specs.Plain.{plain_command}
use Rattle.rw_words.specs.Program.{program, required_word}
use Rattle.rw_words.specs.declared.job.Job.{Job}
use Rattle.rw_words.specs.declared.job.Job.TheVariants.{Balance, Check, Compile, Migrate, Mrm, Run, Sample, Simulate, Why}
use Rattle.rw_words.specs.declared.order.Order.{Order}
use Rattle.rw_words.proofs.Plain.{shape_of_job}

-- ---- the seed alone is found

-- the word that `sample` wants
abbrev seed_rule : Rule
seed_rule = with_index 1 (filled (required_word (codes "SEED")))

abbrev rules : List Rule
rules = seed_rule ∷ []

-- each row is of the seed
abbrev AreSeeds : List Row → Type 0
AreSeeds [] = ⊤
AreSeeds (row ∷ rows) = (row.id ≡ codes "SEED") × AreSeeds rows

joined : (rows more : List Row) → AreSeeds rows → AreSeeds more → AreSeeds (rows ++ more)
joined [] more are later = later
joined (row ∷ rows) more are later = (are.0, joined rows more are.1 later)

changed : (change : Row → List Row) (missing rows : List Row) → ((row : Row) → row.id ≡ codes "SEED" → AreSeeds (change row)) → AreSeeds missing
    → AreSeeds rows → AreSeeds (at_row (codes "SEED") change missing rows)
changed change missing [] each last are = last
changed change missing (row ∷ rows) each last are =
    by (bytes_eq row.id (codes "SEED")) (changed change missing rows each last are.1)
  where
    by : (t : Bool) → AreSeeds (at_row (codes "SEED") change missing rows)
        → AreSeeds (if t then change row ++ rows else row ∷ at_row (codes "SEED") change missing rows)
    by true later = joined (change row) rows (each row are.0) are.1
    by false later = (are.0, later)

valued : (how : Reading) (from : ValueSource) (values : List Text) (rows : List Row) → AreSeeds rows
    → AreSeeds (with_values (codes "SEED") how from values rows)
valued how from values rows are =
    let missing : List Row =
    record { id = codes "SEED"; values = values; count = None; source = Some from; reading = how } ∷ [] in
    changed (more_values from values) missing rows (λ row is. (is, tt)) (refl, tt) are

given : (values : List Text) (rows : List Row) → AreSeeds rows → AreSeeds (used seed_rule values rows)
given values rows are =
    valued (reading_by seed_rule) CommandLine (values_or_missing seed_rule values) (without (codes "SEED") rows)
    (changed (λ row. []) [] rows (λ row is. tt) tt are)

-- what waits for its values is the seed, if there is such a word
abbrev IsSeed : Option Rule → Type 0
IsSeed None = ⊤
IsSeed (Some rule) = rule ≡ seed_rule

by_id : (id : Text) → IsSeed (arg_by_id rules id)
by_id id = by (bytes_eq (codes "SEED") id)
  where
    by : (t : Bool) → IsSeed (if t then Some seed_rule else None)
    by true = refl
    by false = tt

settling : (pending : Option (Text × List Text)) (rows : List Row) → AreSeeds rows → AreSeeds (settled_rows rules pending rows)
settling None rows are = are
settling (Some waiting) rows are = by (arg_by_id rules waiting.0) (by_id waiting.0)
  where
    by : (found : Option Rule) → IsSeed found → AreSeeds (used_by_id found waiting.1 rows)
    by None is = are
    by (Some rule) is = subst (λ r. AreSeeds (used r waiting.1 rows)) (sym is) (given waiting.1 rows are)

placing : (found : Option Rule) (word : Text) (w : Walk) (h : Held) → AreSeeds h.rows → AreSeeds (to_positional rules found word w h).held.rows
placing None word w h are = are
placing (Some rule) word w h are = by (is_pending rule h.pending && takes_several rule)
  where
    by : (t : Bool) → AreSeeds (if t then h else settled rules h).rows
    by true = are
    by false = settling h.pending h.rows are

-- ---- no word is an option

bundled : (k : ℕ) (flags : Text) (skip : ℕ) (so_far : Outcome) (h : Held) → (bundle_met rules k flags skip so_far h).0.rows ≡ h.rows
unfolding bundle_met
bundled zero flags skip so_far h = refl
bundled (suc k) flags skip so_far h = by (slice_get (chars flags) 0) skip (λ rest skip. bundled k rest skip so_far h)
  where
    by : (c : Option ℕ) (skip : ℕ) → ((rest : Text) (skip : ℕ) → (bundle_met rules k rest skip so_far h).0.rows ≡ h.rows)
        → (bundle_step rules c flags skip so_far h (bundle_met rules k)).0.rows ≡ h.rows
    by None skip later = refl
    by (Some c) zero later = refl
    by (Some c) (suc skip) later = later (drop (length (encode_utf8 c)) flags) skip

plainly : (waiting : Waiting) (word : Text) (h : Held) → (plain_word rules waiting word h).0.rows ≡ h.rows
plainly idle word h = refl
plainly positional word h = refl
plainly (option id) word h = by (arg_by_id rules id)
  where
    by : (found : Option Rule) → (option_word found id word h).0.rows ≡ h.rows
    by None = refl
    by (Some rule) = refl

flagged : (waiting : Waiting) (word : Text) (h : Held) (outcome : Outcome) → (after_flag rules waiting word h outcome).0.rows ≡ h.rows
flagged waiting word h done = refl
flagged waiting word h (waits id) = refl
flagged waiting word h plain = plainly waiting word h
flagged waiting word h refused = plainly waiting word h

shortly : (waiting : Waiting) (word : Text) (flags : Option Text) (h : Held) → (short_or_plain rules waiting word flags h).0.rows ≡ h.rows
shortly waiting word None h = plainly waiting word h
shortly waiting word (Some flags) h =
    flagged waiting word (bundle rules flags h).0 (bundle rules flags h).1
    ∙ bundled (length flags) flags h.skip plain (record h { skip = 0 })

longly : (waiting : Waiting) (word : Text) (named : Option (Text × Option Text)) (h : Held)
    → (long_or_other rules waiting word named h).0.rows ≡ h.rows
longly waiting word None h = shortly waiting word (short_of word) h
longly waiting word (Some named) h = plainly waiting word h

unnamed : (waiting : Waiting) (word : Text) → subcommand_met [] waiting word ≡ None
unnamed idle word = refl
unnamed positional word = refl
unnamed (option id) word = refl

met : (is_trailing : Bool) (waiting : Waiting) (position : ℕ) (word : Text) (h : Held)
    → (word_met rules [] is_trailing waiting position word h).0.rows ≡ h.rows
met true waiting position word h = refl
met false waiting position word h =
    ap (λ (name : Option Text). (subcommand_or_other rules name waiting position word h).0.rows) (unnamed waiting word)
    ∙ by (bytes_eq word (45 ∷ 45 ∷ []))
  where
    by : (t : Bool) → (if t then (h, trailing position) else long_or_other rules waiting word (long_of word) h).0.rows ≡ h.rows
    by true = refl
    by false = longly waiting word (long_of word) h

-- ---- all words

stepped : (word : Text) (w : Walk) (h : Held) (step : Step) → AreSeeds h.rows → AreSeeds (after_step rules word w h step).held.rows
stepped word w h (next waiting) are = are
stepped word w h (trailing position) are = are
stepped word w h (subcommand name) are = are
stepped word w h value are = placing (arg_by_index rules w.position) word w h are

walking : (w : Walk) (word : Text) → AreSeeds w.held.rows → AreSeeds (walked rules [] w word).held.rows
unfolding walked
walking w word are = by w.stopped
  where
    by : (stopped : Option (Text × List Text)) → AreSeeds (walked_from rules [] stopped w word).held.rows
    by (Some stop) = are
    by None =
        let here = word_met rules [] w.is_trailing w.waiting w.position word w.held in
        stepped word w here.0 here.1 (subst AreSeeds (sym (met w.is_trailing w.waiting w.position word w.held)) are)

all_walking : (words : List Text) (w : Walk) → AreSeeds w.held.rows → AreSeeds (fold (walked rules []) w words).held.rows
all_walking [] w are = are
all_walking (word ∷ more) w are = all_walking more (walked rules [] w word) (walking w word are)

finishing : (h : Held) → AreSeeds h.rows → AreSeeds (finished rules h)
finishing h are = by (has_row (codes "SEED") (settled_rows rules h.pending h.rows))
  where
    by : (t : Bool) → AreSeeds (if t then settled_rows rules h.pending h.rows else settled_rows rules h.pending h.rows)
    by true = settling h.pending h.rows are
    by false = settling h.pending h.rows are

seeds : (words : List Text) → AreSeeds (rows_after rules [] words)
seeds words = finishing (walk rules [] nothing_held words).held (all_walking words (walk_from nothing_held) tt)

-- ---- and so nothing else is asked for

no_row : (name : Text) (rows : List Row) → bytes_eq (codes "SEED") name ≡ false → AreSeeds rows → find (λ (row : Row). bytes_eq row.id name) rows ≡ None
no_row name [] other are = refl
no_row name (row ∷ rows) other are =
    ap (λ (t : Bool). if t then Some row else find (λ (row : Row). bytes_eq row.id name) rows)
    (ap (λ (id : Text). bytes_eq id name) are.0 ∙ other) ∙ no_row name rows other are.1

not_found : (name : Text) (rows : List Row) → bytes_eq (codes "SEED") name ≡ false → AreSeeds rows → first_of name rows ≡ None
not_found name rows other are = ap (option_and_then (λ (row : Row). slice_get row.values 0)) (no_row name rows other are)

of_seeds : (rows : List Row) (seed : ℕ) → AreSeeds rows → command_in rows (Sample seed) ≡ Some (plain_command (Sample seed) [])
of_seeds rows seed are =
    let edits = not_found (codes "edits") rows refl are in
    let order = not_found (codes "order") rows refl are in
    let slot = not_found (codes "SLOT") rows refl are in
    let flags = not_found (codes "flags") rows refl are in
    let trace = not_found (codes "trace") rows refl are in
    let reuse = not_found (codes "reuse") rows refl are in
    let asked = not_found (codes "asked") rows refl are in
    rw (edits, order, slot, flags, trace, reuse, asked) refl

-- ---- whatever is named

-- a command is of the job that is named
of_job : (rows : List Row) (job : Job) (command : Command) → command_in rows job ≡ Some command → command.job ≡ job
of_job rows job command some =
    go (is_pathless rows || asks_in_vain rows) (order_or_oldest (first_of (codes "order") rows)) (paths_in rows (paths_of job)) some
  where
    go : (refused : Bool) (order : Option Order) (paths : Option (List Text))
        → (if refused then None else option_and_then (λ first. option_map (command_with rows job first) paths) order) ≡ Some command
        → command.job ≡ job
    go true order paths is = absurd (none-some command is)
    go false None paths is = absurd (none-some command is)
    go false (Some order) None is = absurd (none-some command is)
    go false (Some order) (Some found) is =
        ap (λ (c : Command). c.job) (sym (same_Some (command_with rows job order found) command is))

abbrev is_sample : Job → Bool
is_sample (Sample seed) = true
is_sample job = false

-- what is found in a command's words asks for the sample alone, if it asks for the sample
abbrev AsksAlone : Shape → Type 0
AsksAlone s =
    (words : List Text) (command : Command) (seed : ℕ) → command_named (rows_at s words) ≡ Some command → command.job ≡ Sample seed
    → command ≡ plain_command (Sample seed) []

another : (s : Shape) (job : Job) → is_sample job ≡ false → ((seed : Option ℕ) → job_named s.name seed ≡ Some job) → AsksAlone s
another s job other named words command seed is same =
    let rows = (rows_at s words).1 in
    let made : command_in rows job ≡ Some command = sym (ap (option_and_then (command_in rows)) (named (seed_in rows))) ∙ is in
    let sample : job ≡ Sample seed = sym (of_job rows job command made) ∙ same in
    absurd (false≢true (sym other ∙ ap is_sample sample))

itself : AsksAlone (shape_of_job (Sample 0))
itself words command seed is same = by (seed_in (rows_after rules [] words)) is
  where
    by : (found : Option ℕ) → option_and_then (command_in (rows_after rules [] words)) (option_map (λ number. Sample number) found) ≡ Some command
        → command ≡ plain_command (Sample seed) []
    by None none = absurd (none-some command none)
    by (Some number) some =
        let made : plain_command (Sample number) [] ≡ command =
        same_Some (plain_command (Sample number) []) command (sym (of_seeds (rows_after rules [] words) number (seeds words)) ∙ some) in
        sym made ∙ ap (λ (job : Job). plain_command job []) (ap (λ (c : Command). c.job) made ∙ same)

abbrev AskAlone : List Shape → Type 0
AskAlone [] = ⊤
AskAlone (s ∷ more) = AsksAlone s × AskAlone more

each : AskAlone (built program).subs
each = (
  another (shape_of_job Run) Run refl (λ seed. refl),
  (
    another (shape_of_job Simulate) Simulate refl (λ seed. refl),
    (
      another (shape_of_job Check) Check refl (λ seed. refl),
      (
        another (shape_of_job Compile) Compile refl (λ seed. refl),
        (
          another (shape_of_job Why) Why refl (λ seed. refl),
          (
            itself,
            (
              another (shape_of_job Balance) Balance refl (λ seed. refl),
              (
                another (shape_of_job Mrm) Mrm refl (λ seed. refl),
                (
                  another (shape_of_job Migrate) Migrate refl (λ seed. refl),
                  tt,
                ),
              ),
            ),
          ),
        ),
      ),
    ),
  ),
)

one_of_them : (shapes : List Shape) (test : Shape → Bool) (words : List Text) (command : Command) (seed : ℕ) → AskAlone shapes
    → option_and_then command_named (option_map (λ s. rows_at s words) (find test shapes)) ≡ Some command → command.job ≡ Sample seed
    → command ≡ plain_command (Sample seed) []
one_of_them [] test words command seed all is same = absurd (none-some command is)
one_of_them (s ∷ more) test words command seed all is same =
    by (test s) is (λ later. one_of_them more test words command seed all.1 later same)
  where
    by : (t : Bool) → option_and_then command_named (option_map (λ s. rows_at s words) (if t then Some s else find test more)) ≡ Some command
        → (option_and_then command_named (option_map (λ s. rows_at s words) (find test more)) ≡ Some command
        → command ≡ plain_command (Sample seed) [])
        → command ≡ plain_command (Sample seed) []
    by true own later = all.0 words command seed own same
    by false behind later = later behind

pub sample_words : (words : List Text) (command : Command) (seed : ℕ) → asked_command words ≡ Some command → command.job ≡ Sample seed
    → command ≡ plain_command (Sample seed) []
sample_words words command seed some same = go (list_any is_empty words) (length (fault_of program words) == 0) some
  where
    stopped : (stop : Option (Text × List Text)) → option_and_then command_named (entered (built program) stop) ≡ Some command
        → command ≡ plain_command (Sample seed) []
    stopped None is = absurd (none-some command is)
    stopped (Some stop) is = one_of_them (built program).subs (λ s. answers_to stop.0 (label_of s)) stop.1 command seed each is same

    go : (empty good : Bool)
        → (if empty then None else option_and_then command_named (if good then subcommand_of program words else None)) ≡ Some command
        → command ≡ plain_command (Sample seed) []
    go true good is = absurd (none-some command is)
    go false false is = absurd (none-some command is)
    go false true is = stopped (stop_after (built program).top.rules (names_of (built program)) words) is
