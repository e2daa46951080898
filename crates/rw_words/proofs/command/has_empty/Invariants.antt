use Rattle.rw_base.proofs.Common.{◌≡◌, drop, list_any}
use Rattle.rw_words.specs.Command.{is_empty, texts_of}
use Rattle.rw_words.proofs.command.has_empty.Given as goal

abbrev pub invariant-loop-word : goal.invariant-loop-word
invariant-loop-word l = list_any is_empty (texts_of (drop l.word-index l.words)) ≡ list_any is_empty (texts_of l.words)
