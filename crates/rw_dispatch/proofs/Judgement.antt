-- Puts are judged one after another, all by what the cells hold before the first of them.
use Rattle.rw_dispatch.proofs.Common.{All-push, ArePuts, Bool, CanPut, Content, IsPassed, List, Option, Put, [], ap, append-nil, append_assoc, ap₂}
use Rattle.rw_dispatch.proofs.Common.{arith, cond, false, filter, filter-append, length, map, refl, slice_index_or, sym, take, true}
use Rattle.rw_dispatch.proofs.Common.{SlotNo, ℕ, ℤ, ◌++◌, ◌+◌, ◌<◌, ◌∙◌, ◌∷◌, ◌≡◌, ◌≤◌}
use Rattle.std.proofs.lemmas.List.Elements.{filter_more}
use Rattle.rw_base.proofs.Common.{All-filter, All-nil}
use Rattle.std.proofs.lemmas.List.{length-append}
use Rattle.std.proofs.lemmas.List.Sums.{length-filter, count_by-le-length}
use Rattle.rw_model.specs.Draft.{Draft}
use Rattle.rw_model.specs.Put.{end_of_put}
use Rattle.rw_firing.specs.declared.look.Look.{Look}
use Rattle.rw_run.proofs.Common.{Asked, Cells, Event, asked_by, asked_for, denied_by, end_in, is_written, judged, or_fault, puts_written}
use Rattle.rw_run.specs.Dispatch.{dispatch_of, put_by}
use Rattle.rw_run.specs.Log.{solved}
use Rattle.rw_dispatch.specs.Answer.{HasEnded, answer_of, written_in}
use Rattle.rw_dispatch.specs.Putting.{ArePassed, conflict, puts_made}
use Rattle.rw_dispatch.specs.Writes.{AreWrites, CanWrite}
use Rattle.rw_dispatch.specs.declared.dispatch_end.DispatchEnd.{DispatchEnd}
use Rattle.rw_dispatch.specs.declared.dispatch_end.DispatchEnd.TheVariants.{Conflict as EndsInConflict, Solved as EndsSolved}

-- what is left gives, with what is noted, what all give
pub record IsJudging (basin : Draft) (cells : Cells) (object step : ℕ) (all left : List Put) (noted : List Asked) : Type 0 where
  pub writes : noted ++ puts_written cells (asked_for basin object step left) ≡ puts_written cells (asked_for basin object step all)
  pub passes : (rest : Event) → judged cells object (asked_for basin object step left) rest
      ≡ judged cells object (asked_for basin object step all) rest

-- what is noted: no more than so many writes, which can be made
pub record IsNoted (basin : Draft) (count : ℕ) (writes : List Asked) : Type 0 where
  pub few : length writes ≤ count
  pub can : AreWrites basin writes

pub few_more : {X : Type 0} (xs new : List X) (x : X) (count : ℕ) (is : Bool) → new ≡ xs ++ cond is (x ∷ []) [] → length xs ≤ count
    → length new ≤ count + 1
few_more xs new x count true is few = let long = ap length is ∙ length-append xs (x ∷ []) in omega (arith, few, long)
few_more xs new x count false is few = let long = ap length is ∙ length-append xs [] in omega (arith, few, long)

can_more : (basin : Draft) (writes new : List Asked) (own : Asked) (is : Bool) → new ≡ writes ++ cond is (own ∷ []) [] → CanWrite basin own
    → AreWrites basin writes
    → AreWrites basin new
can_more basin writes new own true is can all_can = rw is (All-push (CanWrite basin) writes own all_can can)
can_more basin writes new own false is can all_can = rw (is, append-nil writes) all_can

-- one write more is noted, if it is made
pub noted-more : (basin : Draft) (count : ℕ) (writes new : List Asked) (own : Asked) (is : Bool) → IsNoted basin count writes → CanWrite basin own
    → new ≡ writes ++ cond is (own ∷ []) []
    → IsNoted basin (count + 1) new
noted-more basin count writes new own is was can more = record {
  few = few_more writes new own count is more was.few;
  can = can_more basin writes new own is more can was.can;
}

module _ (basin : Draft) (cells : Cells) (object step : ℕ) (all left rest : List Put) (noted : List Asked) (put : Put) (held : Option Content)
    (first : left ≡ put ∷ rest) (was : IsJudging basin cells object step all left noted)
    (same : cells (asked_by basin object step put).cell ≡ held) where
  abbrev own : Asked
  own = asked_by basin object step put

  -- one put more is judged
  pub judging-more : (new : List Asked) (is : Bool) → IsPassed held own is → new ≡ noted ++ cond is (own ∷ []) []
      → IsJudging basin cells object step all rest new
  judging-more new is passed added =
      let writes : puts_written cells (own ∷ []) ≡ cond is (own ∷ []) [] =
      ap (λ (test : Bool). cond test (own ∷ []) []) (ap (λ h. is_written (end_of_put h own.content)) same ∙ passed.writes) in
      let others = puts_written cells (asked_for basin object step rest) in
      record {
        writes = ap (λ these. these ++ others) added
            ∙ append_assoc noted (cond is (own ∷ []) []) others
            ∙ ap (λ these. noted ++ (these ++ others)) (sym writes)
            ∙ ap (λ these. noted ++ these)
            (sym (filter-append (λ (asked : Asked). is_written (end_in cells asked)) (own ∷ []) (asked_for basin object step rest)))
            ∙ ap (λ puts. noted ++ puts_written cells (asked_for basin object step puts)) (sym first)
            ∙ was.writes;
        passes = λ event.
            ap (λ values. or_fault values object own (judged cells object (asked_for basin object step rest) event))
            (sym (ap (λ h. denied_by (end_of_put h own.content) own) same ∙ passed.passes))
            ∙ ap (λ puts. judged cells object (asked_for basin object step puts) event) (sym first)
            ∙ was.passes event;
      }

  -- the first put that is denied is the event
  pub judged-denied : (end : Event) → ((event : Event) → or_fault (denied_by (end_of_put held own.content) own) object own event ≡ end)
      → (event : Event) → judged cells object (asked_for basin object step all) event ≡ end
  judged-denied end denied event =
      sym (was.passes event)
      ∙ ap (λ puts. judged cells object (asked_for basin object step puts) event) first
      ∙ ap (λ h. or_fault (denied_by (end_of_put h own.content) own) object own (judged cells object (asked_for basin object step rest) event)) same
      ∙ denied (judged cells object (asked_for basin object step rest) event)

-- ---- the puts that are written

-- one item more is tried
pub filtered-more : {X : Type 0} (p : X → Bool) (items all : List X) (count : ℕ) (x : X) (now new : List X) (is : Bool) → items ≡ all
    → count < length items → x ≡ slice_index_or items count x → now ≡ filter p (take count all) → new ≡ now ++ cond is (x ∷ []) [] → is ≡ p x
    → new ≡ filter p (take (count + 1) all)
filtered-more p items all count x now new is same near at was added test =
    let long = ap length same in
    added
    ∙ ap₂ (λ xs t. xs ++ cond t (x ∷ []) []) was test
    ∙ ap (λ y. filter p (take count all) ++ cond (p y) (y ∷ []) []) (at ∙ ap (λ xs. slice_index_or xs count x) same)
    ∙ sym (filter_more p all count x (omega (arith, near, long)))

one_made : (put : Put) (puts : List Put) (its : Asked) (asked : List Asked) (ask : Put → Asked) (is : Bool) → ask put ≡ its → map ask puts ≡ asked
    → map ask (cond is (put ∷ puts) puts) ≡ cond is (its ∷ asked) asked
one_made put puts its asked ask true one all = ap₂ (λ x xs. x ∷ xs) one all
one_made put puts its asked ask false one all = all

module _ (basin : Draft) (cells : Cells) (object step : ℕ) where
  -- they ask for what is written of what all of them ask for
  pub asked_made : (puts : List Put)
      → asked_for basin object step (puts_made basin cells object step puts) ≡ puts_written cells (asked_for basin object step puts)
  asked_made [] = refl
  asked_made (put ∷ puts) =
      one_made put (puts_made basin cells object step puts) (asked_by basin object step put) (puts_written cells (asked_for basin object step puts))
      (asked_by basin object step) (is_written (end_in cells (asked_by basin object step put))) refl (asked_made puts)

  few_made : (puts : List Put) → length (puts_made basin cells object step puts) ≤ length puts
  few_made puts =
      let test = λ (put : Put). is_written (end_in cells (asked_by basin object step put)) in
      let many = length-filter test puts in
      let most = count_by-le-length test puts in omega (arith, many, most)

  -- and the object can make them
  pub puts_of_made : (puts : List Put) → ArePuts basin object puts → ArePuts basin object (puts_made basin cells object step puts)
  puts_of_made puts can = record {
    few = let most = few_made puts in let few = can.few in omega (arith, most, few);
    can = All-filter (λ (put : Put). is_written (end_in cells (asked_by basin object step put))) (CanPut basin object) puts can.can;
  }

  -- those of one dispatch that ended so too
  pub puts_told : (end : DispatchEnd) (asked : List Put) → ArePuts basin object asked
      → ArePuts basin object (written_in (answer_of end asked (puts_made basin cells object step asked)))
  puts_told EndsSolved asked can = puts_of_made asked can
  puts_told end asked can = record { few = omega arith; can = All-nil (CanPut basin object) }

-- ---- how a dispatch of puts ends

module _ (basin : Draft) (cells : Cells) (looked : List Look) (object step : ℕ) (asked : List Put) where
  pub ended_passed : (written : List Asked) → ArePassed basin cells object step asked written
      → HasEnded basin cells looked object step (put_by basin cells looked object step asked) asked EndsSolved written
  ended_passed written passed =
      let made = asked_made basin cells object step asked in record {
        is = passed.passes (dispatch_of cells looked object step (asked_for basin object step asked))
            ∙ ap (λ puts. solved (record { object = object; step = step; looked = looked; asked = asked_for basin object step asked; written = puts }))
            (sym made);
        writes = passed.writes ∙ sym made;
      }

  pub ended_clash : (slot : SlotNo) (held solves : ℤ)
      → ((rest : Event) → judged cells object (asked_for basin object step asked) rest ≡ conflict object step slot held solves)
      → HasEnded basin cells looked object step (put_by basin cells looked object step asked) asked (EndsInConflict slot held solves) []
  ended_clash slot held solves clash = record {
    is = clash (dispatch_of cells looked object step (asked_for basin object step asked));
    writes = refl;
  }
