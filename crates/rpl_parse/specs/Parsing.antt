-- What `parse` answers.
use Rattle.std.specs.Prelude.{ℕ, List, Option, Some, None, IfSome, Result, Ok, Err}
use Rattle.rw_base.specs.Answers.{Answers}
use Rattle.rpl_tree.specs.Tree.{Declared}
use Rattle.rpl_tree.specs.Seen.{rules_of}
use Rattle.rpl_tree.specs.declared.rules.ParsedRules.{ParsedRules}
use Rattle.rpl_parse.specs.declared.fault.ParseFault.{ParseFault}
use Rattle.rpl_parse.specs.declared.fault.ParseFault.TheVariants.{BadToken, BadDeclaration, TooMany, NoMemory}
use Rattle.rpl_parse.specs.Declarations.{GrammarRefusal, bad_token, bad_declaration, too_many, Due, IsReading}

-- why a text is no ruleset. Want of memory tells nothing of it
abbrev pub grammar_refusal_of : ParseFault → Option GrammarRefusal
grammar_refusal_of (BadToken line) = Some (bad_token line)
grammar_refusal_of (BadDeclaration k line) = Some (bad_declaration k line)
grammar_refusal_of (TooMany k) = Some (too_many k)
grammar_refusal_of NoMemory = None

-- the call answers what the text is read as, unless memory was wanting
pub record AnswersReading (source : List ℕ) (result : Result ParsedRules ParseFault) : Type 0 where
  pub due : Due
  pub is_reading : IsReading source due
  pub answers : Answers NoMemory grammar_refusal_of rules_of result due

-- what is answered is due. Of want of memory nothing is said
abbrev pub TellsDue : {X : Type 0} → (Due → Type 0) → (X → List Declared) → Result X ParseFault → Type 0
TellsDue IsDue seen (Ok x) = IsDue (Ok (seen x))
TellsDue IsDue seen (Err fault) = IfSome (grammar_refusal_of fault) (λ refusal. IsDue (Err refusal))
