-- What is answered for a text, from what is due.
use Rattle.rw_base.proofs.Common.{◌≡◌, ℕ, List, Some, Result, Ok, Err, ap, none-some, refl, same_Some, subst, sym, ◌∙◌}
use Rattle.rpl_tree.specs.Seen.{rules_of}
use Rattle.rpl_tree.specs.declared.rules.ParsedRules.{ParsedRules}
use Rattle.rpl_parse.specs.declared.fault.ParseFault.{ParseFault}
use Rattle.rpl_parse.specs.declared.fault.ParseFault.TheVariants.{BadToken, BadDeclaration, TooMany, NoMemory}
use Rattle.rpl_parse.specs.Declarations.{GrammarRefusal, bad_token, bad_declaration, too_many, IsReading}
use Rattle.rpl_parse.specs.Parsing.{AnswersReading, TellsDue, grammar_refusal_of}
use Rattle.rpl_parse.proofs.CutFacts.{some_reading_holds}

tells : (source : List ℕ) (fault : ParseFault) (refusal : GrammarRefusal) → grammar_refusal_of fault ≡ Some refusal → IsReading source (Err refusal)
    → AnswersReading source (Err fault)
tells source fault refusal told is_reading = record {
  due = Err refusal;
  is_reading = is_reading;
  answers = (λ other found. ap Err (same_Some refusal other (sym told ∙ found)), λ none. absurd (none-some refusal (sym none ∙ told)));
}

-- where memory is wanting something is due, too
pub answers_reading : (source : List ℕ) (result : Result ParsedRules ParseFault) → TellsDue (IsReading source) rules_of result
    → AnswersReading source result
answers_reading source (Ok rules) tells_due = record { due = Ok (rules_of rules); is_reading = tells_due; answers = refl }
answers_reading source (Err (BadToken line)) tells_due = tells source (BadToken line) (bad_token line) refl tells_due
answers_reading source (Err (BadDeclaration number line)) tells_due =
    tells source (BadDeclaration number line) (bad_declaration number line) refl tells_due
answers_reading source (Err (TooMany number)) tells_due = tells source (TooMany number) (too_many number) refl tells_due
answers_reading source (Err NoMemory) tells_due =
    let read = some_reading_holds source in
    record { due = read.0; is_reading = read.1; answers = (λ refusal told. absurd (none-some refusal told), λ none. refl) }

-- what is answered is due
pub tells_due : (source : List ℕ) (result : Result ParsedRules ParseFault) → AnswersReading source result
    → TellsDue (IsReading source) rules_of result
tells_due source (Ok rules) answers = subst (IsReading source) answers.answers answers.is_reading
tells_due source (Err (BadToken line)) answers = subst (IsReading source) (answers.answers.0 (bad_token line) refl) answers.is_reading
tells_due source (Err (BadDeclaration number line)) answers =
    subst (IsReading source) (answers.answers.0 (bad_declaration number line) refl) answers.is_reading
tells_due source (Err (TooMany number)) answers = subst (IsReading source) (answers.answers.0 (too_many number) refl) answers.is_reading
tells_due source (Err NoMemory) answers = tt
