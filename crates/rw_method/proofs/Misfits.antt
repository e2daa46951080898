-- The first misfit of puts that are asked for one after the other.
use Rattle.rw_base.proofs.Common.{◌≡◌, refl, ap, ◌∙◌, Bool, true, false, List, [], ◌∷◌, ◌++◌, append_assoc, Option, Some, None, if◌then◌else◌}
use Rattle.rw_base.proofs.Common.{option_map, Result, Ok, Err}
use Rattle.rw_method.specs.declared.put.Put.{Put}
use Rattle.rw_method.specs.declared.solved.Solved.{Solved}
use Rattle.rw_method.specs.declared.solved.Solved.TheVariants.{Puts, OutOfRange}
use Rattle.rw_method.specs.Solve.{AllFit, first_misfit, all_or_misfit, answer_of_puts}
use Rattle.rw_method.specs.Asking.{Asks, IsRefused}

first_fits : (b : Bool) (rest : Option Put) (put : Put) → (if b then rest else Some put) ≡ None → (b ≡ true) × (rest ≡ None)
first_fits true rest put is = (refl, is)
first_fits false rest put is = cc

-- after puts that fit the first misfit is that of the others
pub after_fits : (fit : Put → Bool) (puts more : List Put) → AllFit fit puts → first_misfit fit (puts ++ more) ≡ first_misfit fit more
after_fits fit [] more all = refl
after_fits fit (put ∷ puts) more all =
    let first = first_fits (fit put) (first_misfit fit puts) put all in
    rw first.0 (after_fits fit puts more first.1)

pub all_fit : (fit : Put → Bool) (puts more : List Put) → AllFit fit puts → AllFit fit more → AllFit fit (puts ++ more)
all_fit fit puts more all others = after_fits fit puts more all ∙ others

pub refused_later : (fit : Put → Bool) (puts more : List Put) (answer : Solved) → AllFit fit puts → IsRefused fit more answer
    → IsRefused fit (puts ++ more) answer
refused_later fit puts more answer all refused =
    ap (option_map (λ (misfit : Put). OutOfRange misfit.place misfit.value)) (after_fits fit puts more all) ∙ refused

kept : (end : Put → Solved) (b : Bool) (rest more : Option Put) (put : Put) (answer : Solved)
    → option_map end (if b then rest else Some put) ≡ Some answer → (option_map end rest ≡ Some answer → option_map end more ≡ Some answer)
    → option_map end (if b then more else Some put) ≡ Some answer
kept end true rest more put answer is step = step is
kept end false rest more put answer is step = is

-- what follows the first misfit doesn't count
pub refused_at_once : (fit : Put → Bool) (puts more : List Put) (answer : Solved) → IsRefused fit puts answer → IsRefused fit (puts ++ more) answer
refused_at_once fit [] more answer refused = cc
refused_at_once fit (put ∷ puts) more answer refused =
    kept (λ (misfit : Put). OutOfRange misfit.place misfit.value) (fit put) (first_misfit fit puts) (first_misfit fit (puts ++ more)) put answer
    refused (refused_at_once fit puts more answer)

-- puts are asked for behind others that all fit
pub asks_then : {X : Type 0} (fit : Put → Bool) (puts more old mid new : List Put) (result : Result X Solved) → mid ≡ old ++ puts → AllFit fit puts
    → Asks fit more mid new result → Asks fit (puts ++ more) old new result
asks_then fit puts more old mid new (Ok done) added fits asks = record {
  added = asks.added ∙ ap (λ xs. xs ++ more) added ∙ append_assoc old puts more;
  fits = all_fit fit puts more fits asks.fits;
  refused = tt;
}
asks_then fit puts more old mid new (Err answer) added fits asks = record {
  added = tt;
  fits = tt;
  refused = refused_later fit puts more answer fits asks.refused;
}

-- what follows puts of which one is refused isn't asked for
pub asks_at_once : {X : Type 0} (fit : Put → Bool) (puts more old new : List Put) (answer : Solved) → IsRefused fit puts answer
    → Asks {X = X} fit (puts ++ more) old new (Err answer)
asks_at_once fit puts more old new answer refused =
    record { added = tt; fits = tt; refused = refused_at_once fit puts more answer refused }

-- what is answered of all puts
pub judged_all : (fit : Put → Bool) (puts : List Put) → AllFit fit puts → answer_of_puts fit puts ≡ Puts puts
judged_all fit puts all = ap (all_or_misfit puts) all

refused_by : (puts : List Put) (found : Option Put) (answer : Solved)
    → option_map (λ (misfit : Put). OutOfRange misfit.place misfit.value) found ≡ Some answer → all_or_misfit puts found ≡ answer
refused_by puts None answer refused = cc
refused_by puts (Some misfit) answer refused = cc

pub judged_refused : (fit : Put → Bool) (puts : List Put) (answer : Solved) → IsRefused fit puts answer → answer_of_puts fit puts ≡ answer
judged_refused fit puts answer refused = refused_by puts (first_misfit fit puts) answer refused

-- puts in four parts, of which the first two are asked for together, and then the last two
pub refused_in_front : (fit : Put → Bool) (a b c d : List Put) (answer : Solved) → IsRefused fit (a ++ b) answer
    → answer_of_puts fit (a ++ b ++ c ++ d) ≡ answer
refused_in_front fit a b c d answer refused =
    rw append_assoc (judged_refused fit ((a ++ b) ++ (c ++ d)) answer (refused_at_once fit (a ++ b) (c ++ d) answer refused))

pub refused_behind : (fit : Put → Bool) (a b c d : List Put) (answer : Solved) → AllFit fit (a ++ b) → IsRefused fit (c ++ d) answer
    → answer_of_puts fit (a ++ b ++ c ++ d) ≡ answer
refused_behind fit a b c d answer all refused =
    rw append_assoc (judged_refused fit ((a ++ b) ++ (c ++ d)) answer (refused_later fit (a ++ b) (c ++ d) answer all refused))

pub four_fit : (fit : Put → Bool) (a b c d puts : List Put) → AllFit fit (a ++ b) → AllFit fit (c ++ d) → puts ≡ (a ++ b) ++ (c ++ d)
    → answer_of_puts fit (a ++ b ++ c ++ d) ≡ Puts puts
four_fit fit a b c d puts all others is =
    rw (append_assoc, is) (judged_all fit ((a ++ b) ++ (c ++ d)) (all_fit fit (a ++ b) (c ++ d) all others))
