-- The paths of a command, one for each name.
use Rattle.rw_base.proofs.Common.{Bool, List, None, Option, Some, [], ap, append_assoc, codes, false, if◌then◌else◌, length, option_and_then}
use Rattle.rw_base.proofs.Common.{option_map, list_any, ◌||◌, refl, same_Some, subst, suc, sym, true, ◌++◌, ◌∙◌, ◌∷◌, ◌≡◌}
use Rattle.clap.specs.Words.{Row, first_of}
use Rattle.rw_words.specs.Command.{Command, command_in, command_named, asked_command, command_with, asks_in_vain, is_empty, is_pathless, paths_in, seed_in, taken_words}
use Rattle.rw_words.specs.Job.{Text, job_named, paths_of}
use Rattle.rw_words.specs.Order.{order_or_oldest}
use Rattle.rw_words.specs.declared.job.Job.{Job}
use Rattle.rw_words.specs.declared.order.Order.{Order}

-- a path more, before those that are left
pub path_more : (so_far : List Text) (path : Text) (later : Option (List Text))
    → option_map (λ rest. (so_far ++ path ∷ []) ++ rest) later
    ≡ option_map (λ rest. so_far ++ rest) (option_map (λ rest. path ∷ rest) later)
path_more so_far path None = refl
path_more so_far path (Some rest) = ap Some (append_assoc so_far (path ∷ []) rest)

-- each name has a path
pub each_path : (rows : List Row) (names paths : List Text) → paths_in rows names ≡ Some paths → length paths ≡ length names
each_path rows [] paths some = ap length (sym (same_Some [] paths some))
each_path rows (name ∷ rest) paths some = go (first_of name rows) (paths_in rows rest) (each_path rows rest) some
  where
    go : (path : Option Text) (later : Option (List Text))
        → ((found : List Text) → later ≡ Some found → length found ≡ length rest)
        → option_and_then (λ first. option_map (λ more. first ∷ more) later) path ≡ Some paths → length paths ≡ length (name ∷ rest)
    go None later each is = cc
    go (Some path) None each is = cc
    go (Some path) (Some found) each is =
        ap length (sym (same_Some (path ∷ found) paths is)) ∙ ap suc (each found refl)

-- a command has a path for each that its job wants
pub job_paths : (rows : List Row) (job : Job) (command : Command) → command_in rows job ≡ Some command
    → length command.paths ≡ length (paths_of command.job)
job_paths rows job command some =
    go (is_pathless rows || asks_in_vain rows) (order_or_oldest (first_of (codes "order") rows))
    (paths_in rows (paths_of job)) (each_path rows (paths_of job)) some
  where
    go : (refused : Bool) (order : Option Order) (paths : Option (List Text))
        → ((found : List Text) → paths ≡ Some found → length found ≡ length (paths_of job))
        → (if refused then None else option_and_then (λ first. option_map (command_with rows job first) paths) order) ≡ Some command
        → length command.paths ≡ length (paths_of command.job)
    go true order paths each is = cc
    go false None paths each is = cc
    go false (Some order) None each is = cc
    go false (Some order) (Some found) each is =
        let same = same_Some (command_with rows job order found) command is in
        subst (λ (c : Command). length c.paths ≡ length (paths_of c.job)) same (each found refl)

-- and so has what all words ask for
pub words_paths : (words : List Text) (command : Command) → asked_command words ≡ Some command
    → length command.paths ≡ length (paths_of command.job)
words_paths words command some = go (list_any is_empty words) (taken_words words) some
  where
    named : (rows : List Row) (job : Option Job) → option_and_then (command_in rows) job ≡ Some command
        → length command.paths ≡ length (paths_of command.job)
    named rows None is = cc
    named rows (Some job) is = job_paths rows job command is

    go : (empty : Bool) (found : Option (Text × List Row))
        → (if empty then None else option_and_then command_named found) ≡ Some command → length command.paths ≡ length (paths_of command.job)
    go true found is = cc
    go false None is = cc
    go false (Some found) is = named found.1 (job_named found.0 (seed_in found.1)) is
