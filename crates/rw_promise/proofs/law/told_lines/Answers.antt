use Rattle.rw_commands.proofs.Common.{AskOne, Call, WasRefused, inl, inr, ◌⊎◌}
use Rattle.rw_commands.specs.declared.refusal.Refusal.{Refusal}
use Rattle.rw_commands.specs.Lines.{memory_line, refusal_line, words_line}
use Rattle.rw_commands.specs.Written.{TellsLine}
use Rattle.rw_commands.specs.declared.refusal.Refusal.TheVariants.{Words, NoMemory}
use Rattle.rw_promise.proofs.law.told_lines.Goals as goal

-- the line of words that ask for nothing, that of want of memory, or that of the command's refusal
told_line : (call : Call) (why : Refusal) → WasRefused call why
    → TellsLine call.err words_line ⊎ TellsLine call.err memory_line
    ⊎ AskOne call.words (λ command. TellsLine call.err (refusal_line command why))
told_line call Words was = inl was.told
told_line call NoMemory was =
    elim was [ inl unread ↦ inr (inl unread.told) | inr refused ↦ inr (inr (refused.command, refused.asked, refused.told)) ]
told_line call why was = inr (inr (was.command, was.asked, was.told))

pub returns-clause-silent : goal.returns-clause-silent
returns-clause-silent c = λ call status promise below. (promise.done below).silent

pub returns-clause-told : goal.returns-clause-told
returns-clause-told c = λ call status promise above.
    let refused = promise.refused above in (refused.0, refused.1, told_line call refused.0 refused.2)

pub returns-clause-front : goal.returns-clause-front
returns-clause-front c = λ err line tells. tells.front

pub returns-clause-whole : goal.returns-clause-whole
returns-clause-whole c = λ err line tells stands. elim tells.whole [ inl rose ↦ absurd (stands rose) | inr grew ↦ grew ]
