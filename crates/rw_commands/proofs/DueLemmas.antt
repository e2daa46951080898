-- A refusal that is due is given, and none is given that isn't.
use Rattle.rw_commands.proofs.Common.{AcceptsAll, AreRead, Cause, Change, Command, EndsWith, FailsToRead, File, FilesRead, IfSome, IsFoundReason, IsHonest}
use Rattle.rw_commands.proofs.Common.{IsHonestFor, IsHonestOfAll, IsHonestUpTo, IsSome, IsSomeAnd, List, LongFile, None, Option, Reason, Refusal, Rose}
use Rattle.rw_commands.proofs.Common.{ShelfView, SinkView, Some, WasFound, cases_lt, file_of, inl, inr, order, path_of, refl, status_by, status_of, ℕ, ◌∙◌}
use Rattle.rw_commands.proofs.Common.{◌≡◌}
use Rattle.rw_commands.specs.Reading.{LacksCell}
use Rattle.rw_commands.specs.declared.refusal.File.TheVariants.{Model}
use Rattle.rw_commands.specs.declared.refusal.Refusal.TheVariants.{CannotRead, CannotWrite, NoMemory, NoCell}
use Rattle.rw_commands.proofs.CauseLemmas.{told_status}
use Rattle.rw_commands.proofs.Findings.{IsToldUpTo, accepts_read, cell_clash, names, not_found, one_reason}

-- a path of which the shelf is honest is told, and had no fault
told_at : (shelf : Change ShelfView) (o : Option (List ℕ)) → IfSome o (IsHonest shelf) → IfSome o (λ path. IsSome (shelf.before.holds path))
told_at shelf None honest = tt
told_at shelf (Some path) honest = honest.told

stands_at : (shelf : Change ShelfView) (o : Option (List ℕ)) → IfSome o (IsHonest shelf)
    → IsSomeAnd o (λ path. Rose (shelf.before.faults path) (shelf.after.faults path)) → ⊥
stands_at shelf None honest rose = absurd rose
stands_at shelf (Some path) honest rose = honest.stands rose

module _ (command : Command) (shelf : Change ShelfView) where
  told_by : (file : File) → IsHonestUpTo command shelf file → IsToldUpTo command shelf.before.holds file
  told_by file honest = λ it least. told_at shelf (path_of command it) (honest it least)

  is_found : (reason : Reason) → WasFound command shelf reason → IsFoundReason command shelf.before.holds reason
  is_found (LongFile file) found = found.holds_too_long
  is_found reason found = found

  -- no fault of a file comes before a reason that is found of an honest shelf
  no_fault : (file : File) → FailsToRead command shelf file → (reason : Reason)
      → IsFoundReason command shelf.before.holds reason → IsHonestFor command shelf reason → ⊥
  no_fault file fails reason found honest =
      elim (cases_lt (order (file_of reason)) (order file)) [
        | inl before ↦ not_found command shelf.before.holds reason (told_by (file_of reason) honest)
            (fails.reached (file_of reason) (names command shelf.before.holds reason found) before) found
        | inr least ↦ stands_at shelf (path_of command file) (honest file least) fails.rose
      ]

  -- where the text was written, nothing had to be refused
  pub none_due : (files : FilesRead) → AreRead command shelf.before.holds files
      → (reason : Reason) → IsFoundReason command shelf.before.holds reason
      → IsHonestFor command shelf reason → ⊥
  none_due files read reason found honest =
      not_found command shelf.before.holds reason (told_by (file_of reason) honest)
      (accepts_read command shelf.before.holds files read (file_of reason) (names command shelf.before.holds reason found)) found

  -- and the cell was there
  pub none_lacks : (files : FilesRead) → AreRead command shelf.before.holds files → LacksCell command shelf.before.holds
      → IsHonestOfAll command shelf → ⊥
  none_lacks files read lacks honest = cell_clash command shelf.before.holds files (told_at shelf (path_of command Model) (honest Model)) read lacks

  module _ (out : Change SinkView) where
    -- what has to be refused is
    pub due : (why : Refusal) → Cause command shelf out why → (reason : Reason) → IsFoundReason command shelf.before.holds reason
        → IsHonestFor command shelf reason → EndsWith (status_by reason) (status_of why)
    due (CannotRead file) cause reason found honest = absurd (no_fault file cause.0 reason found honest)
    due CannotWrite cause reason found honest = absurd (none_due cause.0.0 cause.0.1 reason found honest)
    due NoMemory cause reason found honest = inr refl
    due NoCell cause reason found honest =
        absurd (not_found command shelf.before.holds reason (told_by (file_of reason) honest)
        (cause.0.accepted (file_of reason) (names command shelf.before.holds reason found)) found)
    due why cause reason found honest =
        let other = is_found cause.0.reason cause.0.found in
        inl (told_status why cause.0.reason cause.0.tells
        ∙ one_reason command shelf.before.holds reason cause.0.reason (told_by (file_of reason) honest) found other)

    -- and so is a cell that isn't there
    pub cell_due : (why : Refusal) → Cause command shelf out why → LacksCell command shelf.before.holds → IsHonestOfAll command shelf
        → EndsWith 8 (status_of why)
    cell_due (CannotRead file) cause lacks honest = absurd (stands_at shelf (path_of command file) (honest file) cause.0.rose)
    cell_due CannotWrite cause lacks honest = absurd (none_lacks cause.0.0 cause.0.1 lacks honest)
    cell_due NoMemory cause lacks honest = inr refl
    cell_due NoCell cause lacks honest = inl refl
    cell_due why cause lacks honest =
        let reason = cause.0.reason in
        let found = is_found reason cause.0.found in
        absurd (not_found command shelf.before.holds reason (λ it least. told_at shelf (path_of command it) (honest it))
        (lacks.accepted (file_of reason) (names command shelf.before.holds reason found)) found)

    -- where every file is accepted, the cell is there and the output stands, only memory can be wanting
    pub complete : (why : Refusal) → Cause command shelf out why → AcceptsAll command shelf.before.holds
        → ¬ LacksCell command shelf.before.holds → IsHonestOfAll command shelf → ¬ Rose out.before.faults out.after.faults → status_of why ≡ 5
    complete (CannotRead file) cause accepted there honest stands = absurd (stands_at shelf (path_of command file) (honest file) cause.0.rose)
    complete CannotWrite cause accepted there honest stands = absurd (stands cause.1)
    complete NoMemory cause accepted there honest stands = refl
    complete NoCell cause accepted there honest stands = absurd (there cause.0)
    complete why cause accepted there honest stands =
        let reason = cause.0.reason in
        let found = is_found reason cause.0.found in
        absurd (not_found command shelf.before.holds reason (λ it least. told_at shelf (path_of command it) (honest it))
        (accepted (file_of reason) (names command shelf.before.holds reason found)) found)
