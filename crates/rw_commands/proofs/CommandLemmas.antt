-- Words ask for one command.
use Rattle.rw_commands.proofs.Common.{AskNothing, AskForCommand, Command, IsSome, IsSomeAnd, List, None, Option, Some, refl, subst, sym, ℕ, ◌∙◌, ◌≡◌}

pub one_command : (words : List (List ℕ)) (a b : Command) → AskForCommand words a → AskForCommand words b → a ≡ b
one_command words a b h k = let both : Some a ≡ Some b = sym h ∙ k in cc

-- words that ask for nothing ask for no command
pub asks_clash : (words : List (List ℕ)) (command : Command) → AskNothing words → AskForCommand words command → ⊥
asks_clash words command nothing asks = let both : None ≡ Some command = sym nothing ∙ asks in cc

-- what holds of a command that the words ask for holds of each
pub of_command : (words : List (List ℕ)) (a b : Command) → AskForCommand words a → AskForCommand words b
    → (P : Command → Type 0) → P a → P b
of_command words a b h k P holds = subst P (one_command words a b h k) holds

-- what has a property is there
pub is_there : {A : Type 0} (o : Option A) (P : A → Type 0) → IsSomeAnd o P → IsSome o
is_there None P has = absurd has
is_there (Some x) P has = refl
