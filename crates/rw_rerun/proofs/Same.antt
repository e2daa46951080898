-- Cells at timesteps before all that a batch reaches hold what they held in the run before.
use Rattle.rw_base.proofs.Common.{◌≡◌, ◌≤◌, ◌<◌, ◌+◌, ◌∙◌, ℕ, zero, suc, Bool, true, false, List, [], ◌∷◌, Any-from_list_any, Contains, Option, Some}
use Rattle.rw_base.proofs.Common.{None, drop, length, map, none-some, refl, sym, ap, subst, arith, slice_get-get_or}
use Rattle.rw_base.specs.declared.number.Cell.{Cell}
use Rattle.rw_model.specs.Draft.{Draft}
use Rattle.rw_inputs.specs.Placings.{placings}
use Rattle.rw_inputs.specs.Inputs.{Inputs}
use Rattle.rw_series.specs.Series.{held, is_shared}
use Rattle.rw_series.proofs.Sharing.{Shared-of}
use Rattle.rw_run.specs.Frame.{IsFramed}
use Rattle.rw_run.specs.Log.{Log, cells_of}
use Rattle.rw_run.specs.Next.{Policy}
use Rattle.rw_run.specs.Runs.{with_inputs}
use Rattle.rw_run.specs.declared.held.Held.{Held}
use Rattle.rw_record.specs.Noted.{is_noted}
use Rattle.rw_record.specs.Record.{StepRecord}
use Rattle.rw_record.proofs.Noting.{noted_from}
use Rattle.rpl_verify.specs.Verified.{Accepted}
use Rattle.rw_rules.specs.Rules.{policy_in}
use Rattle.rw_rerun.specs.Begun.{AreWithout}
use Rattle.rw_rerun.specs.Edited.{TakesFirst, is_edited}
use Rattle.rw_rerun.specs.Kept.{AreStepLinks, changed}
use Rattle.rw_rerun.specs.Next.{IsNext}
use Rattle.rw_rerun.specs.Session.{Session}
use Rattle.rw_rerun.specs.Touched.{AreFrom, AreKeptOf, HoldFrom, ReachFrom}
use Rattle.rw_rerun.specs.declared.pass.Pass.{Pass}
use Rattle.rw_rerun.proofs.Keeping.{known_records, length_changed, split_at}
use Rattle.rw_rerun.proofs.Standing.{unmoved_in}
use Rattle.rw_rerun.proofs.Taken.{first_are_kept, same_end, takes_first}

-- ---- what isn't reached

module _ (cell : Cell) (step : ℕ) (before : cell.step.0 < step) where
  pub not_edited : (basin : Draft) (cells : List Cell) → AreFrom step cells → is_edited basin cells cell ≡ false
  not_edited basin cells from = by (is_edited basin cells cell) refl
    where
      by : (shared : Bool) → is_edited basin cells cell ≡ shared → shared ≡ false
      by false is = refl
      by true is =
          let found = Any-from_list_any (λ one. is_shared basin one cell) cells is in
          let has : Contains cells found.1 = (found.0, found.2, found.3) in
          let at : cell.step.0 ≡ found.1.step.0 = (Shared-of basin found.1 cell found.4).step in
          let far : step ≤ found.1.step.0 = from has.0 found.1 (slice_get-get_or cells has.0 found.1 has.1 ∙ ap Some has.2) in
          absurd (omega (arith, before, at, far))

  not_held : (looked : List Held) → HoldFrom step looked → is_noted looked cell ≡ false
  not_held looked from = by (is_noted looked cell) refl
    where
      by : (noted : Bool) → is_noted looked cell ≡ noted → noted ≡ false
      by false is = refl
      by true is =
          let found = noted_from looked cell is in
          let far : step ≤ found.at.cell.step.0 =
          from found.has.0 found.at (slice_get-get_or looked found.has.0 found.at found.has.1 ∙ ap Some found.has.2) in
          let at : found.at.cell.step.0 ≡ cell.step.0 = ap (λ (c : Cell). c.step.0) found.is in
          absurd (omega (arith, before, at, far))

  -- the timesteps that are kept so have records, and none of these holds the cell
  rest_without : (rest : List (Option StepRecord)) → AreKeptOf step 0 rest
      → (records : List StepRecord) × (rest ≡ map (λ kept. Some kept) records) × AreWithout cell records
  rest_without [] are = ([], refl, tt)
  rest_without (None ∷ rest) are = absurd (let none : step ≡ 0 = are 0 None (omega arith) refl in omega (arith, before, none))
  rest_without (Some kept ∷ rest) are =
      let more = rest_without rest (λ place entry after there. are (suc place) entry (omega arith) there) in
      (kept ∷ more.0, ap (λ ks. Some kept ∷ ks) more.1, (not_held kept.looked (are 0 (Some kept) (omega arith) refl), more.2))

from_place : (step behind : ℕ) (was : List (Option StepRecord)) → AreKeptOf step behind was → AreKeptOf step 0 (drop behind was)
from_place step zero was are = are
from_place step (suc behind) [] are = λ place entry after there. absurd (none-some _ there)
from_place step (suc behind) (one ∷ was) are =
    from_place step behind was (λ place entry after there. are (suc place) entry (omega (arith, after)) there)

-- a cell holds behind such timesteps what it held before them
rest_unmoved : (basin : Draft) (policy : Policy) (cell : Cell) (step behind next : ℕ) (was : List (Option StepRecord)) (log end : Log)
    → cell.step.0 < step → AreKeptOf step behind was → AreStepLinks basin policy next log (drop behind was) end
    → cells_of basin end cell ≡ cells_of basin log cell
rest_unmoved basin policy cell step behind next was log end before from linked =
    let rest = rest_without cell step before (drop behind was) (from_place step behind was from) in
    unmoved_in basin policy rest.0 next log end cell (subst (λ ks. AreStepLinks basin policy next log ks end) rest.1 linked) rest.2

-- ---- in the run behind a batch

module _ (basin : Draft) (policy : Accepted) (session : Session) (inputs : Inputs) (cells : List Cell) (behind : ℕ) (pass : Pass)
    (next : IsNext basin policy session inputs cells behind pass) (framed : IsFramed (policy_in basin policy)) where
  abbrev in_run : Policy
  in_run = policy_in basin policy

  abbrev now_kept : List (Option StepRecord)
  now_kept = changed session.kept pass.changes.items

  pub same_in : (cell : Cell) (step : ℕ) → cell.step.0 < step → ReachFrom cells session.kept behind step → ReachFrom cells now_kept behind step
      → held pass.engine.series cell ≡ held session.engine.series cell
  same_in cell step before was_from now_from =
      let leaves = next.leaves in
      let one : Log = with_inputs [] (placings basin session.inputs) in
      let start : Log = with_inputs [] (placings basin inputs) in
      let some = leaves.untouched.few in
      let few : behind ≤ length now_kept =
      let many = leaves.many in let all = next.way.many in
      let same = length_changed session.kept pass.changes.items (omega (arith, many, all)) in omega (arith, many, all, same, some) in
      let old = split_at basin in_run 1 one next.is.log session.kept behind (behind + 1) (omega arith) some next.is.linked in
      let new = split_at basin in_run 1 start next.way.log now_kept behind (behind + 1) (omega arith) few next.way.linked in
      let first : TakesFirst basin in_run inputs cells next.is.log old.0 session.kept behind =
      takes_first basin in_run session.inputs inputs next.batch cells next.is.log old.0 session.kept behind framed leaves.old_made leaves.new_made
      leaves.values leaves.edited leaves.many leaves.untouched next.is.kept old.1 in
      let left = known_records session.kept behind some (first_are_kept basin cells session.kept behind leaves.untouched) in
      let met : new.0 ≡ first.log =
      same_end basin in_run left.0 1 start new.0 first.log
      (subst (λ kept. AreStepLinks basin in_run 1 start kept new.0) (next.stay ∙ left.1) new.1)
      (subst (λ kept. AreStepLinks basin in_run 1 start kept first.log) left.1 first.taken.linked) in
      next.way.shows.cells cell
      ∙ rest_unmoved basin in_run cell step behind (behind + 1) now_kept new.0 next.way.log before now_from.kept new.2
      ∙ ap (λ log. cells_of basin log cell) met
      ∙ sym (first.alike cell (not_edited cell step before basin cells was_from.named))
      ∙ sym (rest_unmoved basin in_run cell step behind (behind + 1) session.kept old.0 next.is.log before was_from.kept old.2)
      ∙ sym (next.is.shows.cells cell)
