-- What is left of a block is the whole block.
use Rattle.std.proofs.Common.{◌≡◌, ℕ, suc, ◌+◌, List, [], ◌∷◌, ◌++◌, Result, Ok, Err, refl, sym, ap, ap₂, ◌∙◌, subst, arith, append_assoc}
use Rattle.rpl_code.specs.declared.instruction.Instruction.{Instruction}
use Rattle.rpl_tree.specs.Budget.{Budget}
use Rattle.rpl_verify.specs.declared.notes.Note.{Note}
use Rattle.rpl_verify.specs.Places.{Spot}
use Rattle.rpl_verify.specs.Names.{Scope}
use Rattle.rpl_verify.specs.Fits.{Before, Misplaced, at_place, before, befores, ended_block, judged_at, then_do}
use Rattle.rpl_verify.specs.Notes.{notes_of}
use Rattle.rpl_verify.specs.Walked.{Walked}

-- the scope of a walk
abbrev pub at_spots : Scope → List Spot → Scope
at_spots scope spots = record {
  basin = scope.basin;
  heads = scope.heads;
  number = scope.number;
  head = scope.head;
  locals = scope.locals;
  spots = spots;
}

-- what the walk makes
abbrev pub noting : Scope → List Budget → ℕ → List Before → List Instruction → List Note
noting scope budgets place befores_there lines = notes_of scope budgets befores_there lines

-- what is made of a block of this scope, place by place, by what is before each
module _ {A : Type 0} (scope : Scope) (made : ℕ → List Before → List Instruction → List A) (all : List Instruction) where
  -- what is made already, and what of the lines that are left
  abbrev pub left_of : ℕ → Before → List A → List Instruction → Result (List A) Misplaced
  left_of place here done lines = then_do (befores scope place here lines) (λ bs. Ok (done ++ made place bs lines))

  pub record IsLeft (place : ℕ) (walked : Walked) (done : List A) (lines : List Instruction) : Type 0 where
    pub placed : walked.spots ≡ scope.spots
    pub left : then_do (befores scope 0 (before [] []) all) (λ bs. Ok (made 0 bs all)) ≡ left_of place walked.before done lines

  -- one thing is made of a place
  abbrev pub Makes : ℕ → Before → Instruction → List Instruction → A → Type 0
  Makes place here instruction lines thing =
      (befores_there : List Before) → made place (here ∷ befores_there) (instruction ∷ lines) ≡ thing ∷ made (suc place) befores_there lines

  joins : (place : ℕ) (here : Before) (instruction : Instruction) (lines : List Instruction) (thing : A) (done : List A)
      (result : Result (List Before) Misplaced)
      → Makes place here instruction lines thing
      → then_do (then_do result (λ cs. Ok (here ∷ cs))) (λ bs. Ok (done ++ made place bs (instruction ∷ lines)))
      ≡ then_do result (λ bs. Ok ((done ++ thing ∷ []) ++ made (suc place) bs lines))
  joins place here instruction lines thing done (Ok befores_there) makes =
      ap (λ l. Ok (done ++ l)) (makes befores_there) ∙ ap Ok (sym (append_assoc done (thing ∷ []) (made (suc place) befores_there lines)))
  joins place here instruction lines thing done (Err wrong) makes = refl

  pub left_on : (place : ℕ) (walked next_walked : Walked) (done done2 : List A) (thing : A) (instruction : Instruction)
      (lines left : List Instruction) → IsLeft place walked done left
      → left ≡ instruction ∷ lines → done2 ≡ done ++ thing ∷ [] → Makes place walked.before instruction lines thing
      → judged_at (at_spots scope walked.spots) place walked.before instruction ≡ Ok next_walked.before → next_walked.spots ≡ walked.spots
      → IsLeft (place + 1) next_walked done2 lines
  left_on place walked next_walked done done2 thing instruction lines left left_so left_is done2_is makes judged_at_is spots_is =
      let judged_at_is_so : judged_at scope place walked.before instruction ≡ Ok next_walked.before =
      subst (λ ss. judged_at (at_spots scope ss) place walked.before instruction ≡ Ok next_walked.before) left_so.placed judged_at_is in
      let same : suc place ≡ place + 1 = omega arith in
      record {
        placed = spots_is ∙ left_so.placed;
        left = left_so.left ∙ ap (left_of place walked.before done) left_is
            ∙ ap (λ v. then_do (at_place place v (λ c. then_do (befores scope (suc place) c lines) (λ bs. Ok (walked.before ∷ bs))))
            (λ bs. Ok (done ++ made place bs (instruction ∷ lines)))) judged_at_is_so
            ∙ joins place walked.before instruction lines thing done (befores scope (suc place) next_walked.before lines) makes
            ∙ ap₂ (λ n ds. left_of n next_walked.before ds lines) same (sym done2_is);
      }

  pub left_ended : (place : ℕ) (walked : Walked) (done done2 : List A) (left : List Instruction) → IsLeft place walked done left → left ≡ []
      → done2 ≡ done ++ made place (walked.before ∷ []) [] → ended_block scope.head walked.before walked.before.loops ≡ Ok walked.before
      → then_do (befores scope 0 (before [] []) all) (λ bs. Ok (made 0 bs all)) ≡ Ok done2
  left_ended place walked done done2 left left_so left_is done2_is ended_block_is =
      left_so.left ∙ ap (left_of place walked.before done) left_is
      ∙ ap (λ v. then_do (at_place place v (λ c. Ok (c ∷ []))) (λ bs. Ok (done ++ made place bs []))) ended_block_is
      ∙ ap Ok (sym done2_is)
