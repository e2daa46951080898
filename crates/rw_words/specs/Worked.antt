-- What some words ask for, worked out by hand from the sentences of docs/FORMATS.md. A row is a line of words.
use Rattle.std.specs.Prelude.{◌≡◌, ◌==◌, List, ℕ, [], ◌∷◌, codes, true, None, Some, if◌then◌else◌}
use Rattle.rw_words.specs.Command.{Command, asked_command}
use Rattle.rw_words.specs.Job.{Text}
use Rattle.rw_words.specs.Plain.{of_cell, plain_command}
use Rattle.rw_words.specs.declared.job.Job.TheVariants.{Run, Simulate, Check, Compile, Why, Sample, Balance, Mrm, Migrate}
use Rattle.rw_words.specs.declared.order.Order.TheVariants.{Newest}

-- ---- a line of words

abbrev pub before_words : ℕ → List Text → List Text
before_words c [] = (c ∷ []) ∷ []
before_words c (word ∷ rest) = (c ∷ word) ∷ rest

-- the words of a line, with a space between them
abbrev pub words_in_line : Text → List Text
words_in_line [] = [] ∷ []
words_in_line (c ∷ rest) = if c == 32 then [] ∷ words_in_line rest else before_words c (words_in_line rest)

-- ---- commands

-- `run m p i`
abbrev pub runs : Command
runs = plain_command Run (codes "m" ∷ codes "p" ∷ codes "i" ∷ [])

-- `simulate m i`
abbrev pub simulate_line : Command
simulate_line = plain_command Simulate (codes "m" ∷ codes "i" ∷ [])

-- `why m p i s` of a timestep
abbrev pub whys : Text → Command
whys step = of_cell (codes "s") step (plain_command Why (codes "m" ∷ codes "p" ∷ codes "i" ∷ []))

-- `sample` of a seed
abbrev pub samples : ℕ → Command
samples seed = plain_command (Sample seed) []

-- with a file of edits
abbrev pub edited : Text → Command → Command
edited path command = record command { edits = Some path }

abbrev pub flagged : Command → Command
flagged command = record command { flags = true }

abbrev pub with_trace : Command → Command
with_trace command = record command { trace = true }

abbrev pub with_asked : Command → Command
with_asked command = record command { asked = true }

abbrev pub reusing : Command → Command
reusing command = record command { reuse = true }

-- the newest first
abbrev pub by_newest : Command → Command
by_newest command = record command { order = Newest }

abbrev pub LineAsksFor : Text → Command → Type 0
LineAsksFor line command = asked_command (words_in_line line) ≡ Some command

abbrev pub Nothing : Text → Type 0
Nothing line = asked_command (words_in_line line) ≡ None

-- ---- rows

pub record AskWithOptions : Type 0 where
  pub run : LineAsksFor (codes "run m p i") runs
  pub simulate : LineAsksFor (codes "simulate m i") simulate_line
  pub check : LineAsksFor (codes "check m p") (plain_command Check (codes "m" ∷ codes "p" ∷ []))
  pub compile : LineAsksFor (codes "compile m r") (plain_command Compile (codes "m" ∷ codes "r" ∷ []))
  pub why : LineAsksFor (codes "why m p i s 1") (whys (codes "1"))
  pub why_ended : LineAsksFor (codes "why -- m p i s -1") (whys (codes "-1"))
  pub sample : LineAsksFor (codes "sample 0") (samples 0)
  pub sample_zeros : LineAsksFor (codes "sample 00000000000000000007") (samples 7)
  pub sample_greatest : LineAsksFor (codes "sample 18446744073709551615") (samples 18446744073709551615)
  pub sample_ended : LineAsksFor (codes "sample -- 12") (samples 12)
  pub balance : LineAsksFor (codes "balance m p i") (plain_command Balance (codes "m" ∷ codes "p" ∷ codes "i" ∷ []))
  pub mrm : LineAsksFor (codes "mrm m p i t") (plain_command Mrm (codes "m" ∷ codes "p" ∷ codes "i" ∷ codes "t" ∷ []))
  pub mrm_ended : LineAsksFor (codes "mrm m -- p i -t") (plain_command Mrm (codes "m" ∷ codes "p" ∷ codes "i" ∷ codes "-t" ∷ []))
  pub migrate : LineAsksFor (codes "migrate m") (plain_command Migrate (codes "m" ∷ []))
  -- options stand anywhere behind the command's name
  pub behind : LineAsksFor (codes "run m p i --edits e --flags --trace") (with_trace (flagged (edited (codes "e") runs)))
  pub before : LineAsksFor (codes "run --trace --edits e m p i") (with_trace (edited (codes "e") runs))
  pub between : LineAsksFor (codes "run m --flags p --edits e i") (flagged (edited (codes "e") runs))
  pub reuse : LineAsksFor (codes "run m p i --reuse") (reusing runs)
  pub reuse_before : LineAsksFor (codes "run --reuse m p i --edits e --flags") (reusing (flagged (edited (codes "e") runs)))
  pub asked : LineAsksFor (codes "run m p i --trace --asked") (with_asked (with_trace runs))
  pub asked_before : LineAsksFor (codes "run --asked m p i --flags --edits e --trace")
      (with_asked (with_trace (flagged (edited (codes "e") runs))))
  pub asked_in_simulate : LineAsksFor (codes "simulate m --asked i --trace") (with_asked (with_trace simulate_line))
  pub asked_by_newest : LineAsksFor (codes "simulate m i --order newest --trace --asked")
      (with_asked (with_trace (by_newest simulate_line)))
  pub in_simulate : LineAsksFor (codes "simulate --flags m --trace i") (with_trace (flagged simulate_line))
  pub newest : LineAsksFor (codes "simulate m i --order newest") (by_newest simulate_line)
  pub newest_before : LineAsksFor (codes "simulate --order=newest m --trace i") (with_trace (by_newest simulate_line))
  pub oldest : LineAsksFor (codes "simulate m --order oldest i") simulate_line
  -- the value of an option stands behind it or behind `=`
  pub attached : LineAsksFor (codes "run m p i --edits=e") (edited (codes "e") runs)
  pub attached_option : LineAsksFor (codes "run m p i --edits=--x") (edited (codes "--x") runs)
  pub attached_equals : LineAsksFor (codes "run m p i --edits==") (edited (codes "=") runs)
  pub hyphen_of_edits : LineAsksFor (codes "run m p i --edits -") (edited (codes "-") runs)
  -- `-` alone is a path
  pub hyphen : LineAsksFor (codes "simulate - i") (plain_command Simulate (codes "-" ∷ codes "i" ∷ []))
  -- behind `--` no word is an option
  pub ended : LineAsksFor (codes "simulate -- --flags -x") (plain_command Simulate (codes "--flags" ∷ codes "-x" ∷ []))
  pub ended_between : LineAsksFor (codes "simulate --flags m -- --trace")
      (flagged (plain_command Simulate (codes "m" ∷ codes "--trace" ∷ [])))
  pub ended_last : LineAsksFor (codes "simulate m i --") simulate_line
  pub ended_twice : LineAsksFor (codes "simulate -- -- i") (plain_command Simulate (codes "--" ∷ codes "i" ∷ []))
  -- the name of a command is a path behind another
  pub command_again : LineAsksFor (codes "simulate run check") (plain_command Simulate (codes "run" ∷ codes "check" ∷ []))
  -- a path holds what it holds
  pub equals : LineAsksFor (codes "simulate a=b i") (plain_command Simulate (codes "a=b" ∷ codes "i" ∷ []))

pub record AskForNothing : Type 0 where
  pub none : asked_command [] ≡ None
  pub lone : Nothing (codes "run")
  pub too_few : Nothing (codes "run m p")
  pub too_many : Nothing (codes "run m p i e")
  pub too_many_in_simulate : Nothing (codes "simulate m i --flags x")
  pub too_many_behind : Nothing (codes "simulate m i -- x")
  -- no command is spelt so
  pub unknown : Nothing (codes "m p i")
  pub begun : Nothing (codes "sim m i")
  pub capital : Nothing (codes "Simulate m i")
  pub help : Nothing (codes "help")
  pub help_of_run : Nothing (codes "help run")
  pub help_flag : Nothing (codes "--help")
  pub short_help : Nothing (codes "-h")
  pub version : Nothing (codes "--version")
  pub short_help_of_run : Nothing (codes "run m p i -h")
  pub help_flag_of_run : Nothing (codes "run m p i --help")
  -- nothing stands before the command
  pub option_first : Nothing (codes "--flags run m p i")
  pub ended_first : Nothing (codes "-- run m p i")
  -- no option is spelt so, or not of this command
  pub option_begun : Nothing (codes "run m p i --flag")
  pub option_capital : Nothing (codes "run m p i --Flags")
  pub single_hyphen : Nothing (codes "run m p i -flags")
  pub negative : Nothing (codes "simulate -5 i")
  pub edits_of_simulate : Nothing (codes "simulate m i --edits e")
  pub reuse_of_simulate : Nothing (codes "simulate m i --reuse")
  pub reuse_of_why : Nothing (codes "why m p i s 1 --reuse")
  pub reuse_begun : Nothing (codes "run m p i --reus")
  pub order_of_run : Nothing (codes "run m p i --order newest")
  pub order_of_check : Nothing (codes "check m p --order=oldest")
  pub flags_of_check : Nothing (codes "check m p --flags")
  pub trace_of_check : Nothing (codes "check m p --trace")
  pub reuse_of_check : Nothing (codes "check m p --reuse")
  pub edits_of_check : Nothing (codes "check m p --edits e")
  pub flags_of_compile : Nothing (codes "compile m r --flags")
  pub trace_of_compile : Nothing (codes "compile m r --trace")
  pub reuse_of_compile : Nothing (codes "compile m r --reuse")
  pub edits_of_compile : Nothing (codes "compile m r --edits e")
  pub order_of_compile : Nothing (codes "compile m r --order newest")
  pub flags_of_why : Nothing (codes "why m p i s 1 --flags")
  pub trace_of_why : Nothing (codes "why m p i s 1 --trace")
  pub edits_of_why : Nothing (codes "why m p i s 1 --edits e")
  pub order_of_why : Nothing (codes "why m p i s 1 --order newest")
  -- what was asked for stands in a trace, and not beside timesteps that are taken over
  pub asked_untraced : Nothing (codes "run m p i --asked")
  pub asked_with_flags : Nothing (codes "simulate m i --asked --flags")
  pub asked_reusing : Nothing (codes "run m p i --trace --asked --reuse")
  pub asked_of_why : Nothing (codes "why m p i s 1 --asked")
  pub asked_of_balance : Nothing (codes "balance m p i --trace --asked")
  pub asked_begun : Nothing (codes "run m p i --trace --ask")
  pub too_few_of_balance : Nothing (codes "balance m p")
  pub too_many_of_balance : Nothing (codes "balance m p i e")
  pub edits_of_balance : Nothing (codes "balance m p i --edits e")
  pub flags_of_balance : Nothing (codes "balance m p i --flags")
  pub too_few_of_mrm : Nothing (codes "mrm m p i")
  pub too_many_of_mrm : Nothing (codes "mrm m p i t t")
  pub edits_of_mrm : Nothing (codes "mrm m p i t --edits e")
  pub reuse_of_mrm : Nothing (codes "mrm m p i t --reuse")
  pub trace_of_mrm : Nothing (codes "mrm m p i t --trace")
  pub flags_of_mrm : Nothing (codes "mrm m p i t --flags")
  pub order_of_mrm : Nothing (codes "mrm m p i t --order newest")
  pub too_few_of_migrate : Nothing (codes "migrate")
  pub too_many_of_migrate : Nothing (codes "migrate m n")
  pub trace_of_migrate : Nothing (codes "migrate m --trace")
  pub reuse_of_migrate : Nothing (codes "migrate m --reuse")
  pub order_of_migrate : Nothing (codes "migrate m --order newest")
  pub step_below : Nothing (codes "why m p i s -1")
  pub too_few_of_why : Nothing (codes "why m p i s")
  pub too_many_of_why : Nothing (codes "why m p i s 1 2")
  -- a seed is 1 to 20 digits, and of 64 bits
  pub seedless : Nothing (codes "sample")
  pub seed_above : Nothing (codes "sample 18446744073709551616")
  pub seed_long : Nothing (codes "sample 000000000000000000007")
  pub seed_of_letters : Nothing (codes "sample x")
  pub seed_with_letter : Nothing (codes "sample 1a")
  pub seed_below : Nothing (codes "sample -1")
  pub seed_below_ended : Nothing (codes "sample -- -1")
  pub seed_with_sign : Nothing (codes "sample +1")
  pub two_seeds : Nothing (codes "sample 1 2")
  pub flags_of_sample : Nothing (codes "sample 1 --flags")
  -- an option stands once
  pub flags_twice : Nothing (codes "run m p i --flags --flags")
  pub trace_twice : Nothing (codes "simulate --trace m --trace i")
  pub asked_twice : Nothing (codes "run m p i --trace --asked --asked")
  pub reuse_twice : Nothing (codes "run --reuse m p i --reuse")
  pub edits_twice : Nothing (codes "run m p i --edits=a --edits=b")
  pub edits_again : Nothing (codes "run --edits a m p i --edits a")
  pub order_twice : Nothing (codes "simulate m i --order newest --order newest")
  -- an order is one of two words
  pub order_random : Nothing (codes "simulate m i --order random")
  pub order_begun : Nothing (codes "simulate m i --order new")
  pub order_capital : Nothing (codes "simulate m i --order Newest")
  pub order_empty : Nothing (codes "simulate m i --order=")
  pub order_without_value : Nothing (codes "simulate m i --order")
  pub order_before_flag : Nothing (codes "simulate m i --order --trace")
  -- a flag has no value, and `--edits` has one, which is no option
  pub flag_with_value : Nothing (codes "run m p i --flags=true")
  pub flag_with_empty_value : Nothing (codes "run m p i --trace=")
  pub asked_with_value : Nothing (codes "run m p i --trace --asked=true")
  pub reuse_with_value : Nothing (codes "run m p i --reuse=e")
  pub edits_without_value : Nothing (codes "run m p i --edits")
  pub edits_before_flag : Nothing (codes "run m p i --edits --flags")
  pub edits_before_reuse : Nothing (codes "run m p i --edits --reuse")
  pub edits_negative : Nothing (codes "run m p i --edits -5")
  pub edits_ended : Nothing (codes "run m p i --edits --")
  pub edits_ended_before : Nothing (codes "run m p i --edits -- e")
  pub edits_empty : Nothing (codes "run m p i --edits=")
  -- an empty word, between two spaces or at an end
  pub empty : Nothing []
  pub empty_first : Nothing (codes " run m p i")
  pub empty_path : Nothing (codes "run  p i")
  pub empty_edits : Nothing (codes "run m p i --edits ")
  pub empty_ended : Nothing (codes "simulate m -- ")
