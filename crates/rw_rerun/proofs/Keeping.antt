-- What is kept of timesteps stays so behind a longer log, and what a run changes of it.
use Rattle.rw_base.proofs.Common.{◌≡◌, ◌≢◌, ◌≤◌, ◌<◌, ◌+◌, ◌∙◌, ℕ, zero, suc, List, [], ◌∷◌, ◌++◌, map, replicate, Option, Some, None, IsSome}
use Rattle.rw_base.proofs.Common.{unwrap_or, length, refl, sym, ap, subst, arith, false≢true, same_Some, none-some, slice_get, drop, take}
use Rattle.std.specs.List.{flat_map}
use Rattle.rw_model.specs.Draft.{Draft}
use Rattle.rw_run.specs.Behind.{IsBehind}
use Rattle.rw_run.specs.Log.{Log}
use Rattle.rw_run.specs.Next.{Policy}
use Rattle.rw_run.specs.Reuse.{most_kept}
use Rattle.rw_run.specs.RunOf.{lines}
use Rattle.rw_run.specs.Step.{before_closing, before_opening, cell_count, events_of, reached_by}
use Rattle.rw_record.specs.Record.{StepRecord}
use Rattle.rw_rerun.specs.Kept.{AreKept, AreStepLinks, IsKeptOrNot, IsKeepable, IsStepLink, changed}
use Rattle.rw_rerun.specs.Spare.{AreKeptFrom}

-- by what it closed and its events
pub keepable_same : (basin : Draft) (step : ℕ) (log other : Log) → before_closing step other ≡ before_closing step log
    → events_of step other ≡ events_of step log
    → IsKeepable basin log step → IsKeepable basin other step
keepable_same basin step log other closings events is = record {
  closing = subst IsSome (sym closings) is.closing;
  few_cells = subst (λ es. cell_count (flat_map (reached_by basin) es) ≤ most_kept) (sym events) is.few_cells;
  few_lines = subst (λ es. length (flat_map lines es) ≤ most_kept) (sym events) is.few_lines;
}

kept_same : (basin : Draft) (policy : Policy) (step : ℕ) (log other : Log) (entry : Option StepRecord)
    → before_opening step other ≡ before_opening step log
    → before_closing step other ≡ before_closing step log → events_of step other ≡ events_of step log → IsKeptOrNot basin policy log step entry
    → IsKeptOrNot basin policy other step entry
kept_same basin policy step log other None openings closings events is =
    λ keepable. is (keepable_same basin step other log (sym closings) (sym events) keepable)
kept_same basin policy step log other (Some kept) openings closings events is = record {
  keepable = keepable_same basin step log other closings events is.keepable;
  old = is.old;
  first = is.first;
  events = is.events;
  opening = openings ∙ is.opening;
  own = events ∙ is.own;
  timestep = is.timestep;
  these = is.these;
}

-- each timestep before the one that was passed
pub still_kept : (basin : Draft) (policy : Policy) (step first : ℕ) (log other : Log) (kept : List (Option StepRecord)) → IsBehind step log other
    → first + length kept ≤ step → AreKept basin policy log first kept → AreKept basin policy other first kept
still_kept basin policy step first log other [] behind near are = tt
still_kept basin policy step first log other (entry ∷ kept) behind near are =
    let differ : step ≢ first = λ same. absurd (omega (arith, near, same)) in (
      kept_same basin policy first log other entry (behind.openings first differ) (behind.closings first differ) (behind.events first differ) are.0,
      still_kept basin policy step (first + 1) log other kept behind (omega (arith, near)) are.1,
    )

pub kept_more : (basin : Draft) (policy : Policy) (step first : ℕ) (log : Log) (kept : List (Option StepRecord)) (entry : Option StepRecord)
    → step ≡ first + length kept → AreKept basin policy log first kept → IsKeptOrNot basin policy log step entry
    → AreKept basin policy log first (kept ++ entry ∷ [])
kept_more basin policy step first log [] entry at are is =
    let here : step ≡ first = omega (arith, at) in (subst (λ k. IsKeptOrNot basin policy log k entry) here is, tt)
kept_more basin policy step first log (one ∷ kept) entry at are is =
    (are.0, kept_more basin policy step (first + 1) log kept entry (omega (arith, at)) are.1 is)

pub linked_more : (basin : Draft) (policy : Policy) (step first : ℕ) (log end next : Log) (kept : List (Option StepRecord))
    (entry : Option StepRecord)
    → step ≡ first + length kept → AreStepLinks basin policy first log kept end → IsStepLink basin policy step end entry next
    → AreStepLinks basin policy first log (kept ++ entry ∷ []) next
linked_more basin policy step first log end next [] entry at are is =
    let here : step ≡ first = omega (arith, at) in
    (next, subst (λ k. IsStepLink basin policy k log entry next) here (subst (λ l. IsStepLink basin policy step l entry next) are is), refl)
linked_more basin policy step first log end next (one ∷ kept) entry at are is =
    (are.0, are.1, linked_more basin policy step (first + 1) are.0 end next kept entry (omega (arith, at)) are.2 is)

-- up to one of them, which leads to the others
pub record SplitsAt (basin : Draft) (policy : Policy) (first here : ℕ) (start log end : Log) (was : List (Option StepRecord)) (count : ℕ)
    (entry : Option StepRecord) : Type 0 where
  pub mid : Log
  pub before : AreStepLinks basin policy first start (take count was) mid
  pub link : IsStepLink basin policy here mid entry log
  pub rest : AreStepLinks basin policy here mid (drop count was) end

pub split_back : (basin : Draft) (policy : Policy) (first here : ℕ) (start log end : Log) (was : List (Option StepRecord)) (count : ℕ)
    (entry : Option StepRecord)
    → here ≡ first + count → slice_get was count ≡ Some entry → AreStepLinks basin policy first start (take (suc count) was) log
    → AreStepLinks basin policy (here + 1) log (drop (suc count) was) end → SplitsAt basin policy first here start log end was count entry
split_back basin policy first here start log end [] count entry at there before rest = absurd (none-some _ there)
split_back basin policy first here start log end (one ∷ was) zero entry at there before rest =
    let same : first ≡ here = omega (arith, at) in
    let link : IsStepLink basin policy here start one log =
    subst (λ s. IsStepLink basin policy s start one log) same
    (subst (λ l. IsStepLink basin policy first start one l) (sym before.2) before.1) in record {
      mid = start;
      before = refl;
      link = subst (λ e. IsStepLink basin policy here start e log) (same_Some one entry there) link;
      rest = (log, link, rest);
    }
split_back basin policy first here start log end (one ∷ was) (suc count) entry at there before rest =
    let more = split_back basin policy (first + 1) here before.0 log end was count entry (omega (arith, at)) there before.2 rest in record {
      mid = more.mid;
      before = (before.0, before.1, more.before);
      link = more.link;
      rest = more.rest;
    }

-- they split at each place
pub split_at : (basin : Draft) (policy : Policy) (first : ℕ) (start end : Log) (was : List (Option StepRecord)) (count next : ℕ)
    → next ≡ first + count
    → count ≤ length was → AreStepLinks basin policy first start was end
    → (mid : Log) × AreStepLinks basin policy first start (take count was) mid × AreStepLinks basin policy next mid (drop count was) end
split_at basin policy first start end was zero next at few linked =
    let here : first ≡ next = omega (arith, at) in (start, refl, subst (λ s. AreStepLinks basin policy s start was end) here linked)
split_at basin policy first start end [] (suc count) next at few linked = absurd (omega (arith, few))
split_at basin policy first start end (one ∷ was) (suc count) next at few linked =
    let more = split_at basin policy (first + 1) linked.0 end was count next (omega (arith, at)) (omega (arith, few)) linked.2 in
    (more.0, (linked.0, linked.1, more.1), more.2)

-- ---- changes

pub changed_more : (was : List (Option StepRecord)) (changes : List (Option (Option StepRecord))) (entry : Option StepRecord)
    (change : Option (Option StepRecord))
    → slice_get was (length changes) ≡ Some entry → changed was (changes ++ change ∷ []) ≡ changed was changes ++ unwrap_or change entry ∷ []
changed_more [] changes entry change there = absurd (none-some _ there)
changed_more (one ∷ was) [] entry change there = ap (λ (e : Option StepRecord). unwrap_or change e ∷ []) (same_Some one entry there)
changed_more (one ∷ was) (first ∷ changes) entry change there = ap (λ rest. unwrap_or first one ∷ rest) (changed_more was changes entry change there)

pub length_changed : (was : List (Option StepRecord)) (changes : List (Option (Option StepRecord))) → length changes ≤ length was
    → length (changed was changes) ≡ length changes
length_changed was [] few = refl
length_changed [] (change ∷ changes) few = absurd (omega (arith, few))
length_changed (one ∷ was) (change ∷ changes) few = ap suc (length_changed was changes (omega (arith, few)))

-- of one timestep
pub kept_there : (basin : Draft) (policy : Policy) (log : Log) (first place : ℕ) (was : List (Option StepRecord)) (entry : Option StepRecord)
    → AreKept basin policy log first was → slice_get was place ≡ Some entry → IsKeptOrNot basin policy log (first + place) entry
kept_there basin policy log first place [] entry are there = absurd (none-some _ there)
kept_there basin policy log first zero (one ∷ was) entry are there =
    let here : first ≡ first + zero = omega arith in
    subst (λ step. IsKeptOrNot basin policy log step entry) here (subst (IsKeptOrNot basin policy log first) (same_Some one entry there) are.0)
kept_there basin policy log first (suc place) (one ∷ was) entry are there =
    let here : (first + 1) + place ≡ first + suc place = omega arith in
    subst (λ step. IsKeptOrNot basin policy log step entry) here (kept_there basin policy log (first + 1) place was entry are.1 there)

-- first timesteps of which nothing is changed stay
pub stay_first : (was : List (Option StepRecord)) (behind : ℕ) (more : List (Option (Option StepRecord))) → behind ≤ length was
    → take behind (changed was (replicate behind None ++ more)) ≡ take behind was
stay_first was zero more few = refl
stay_first [] (suc behind) more few = absurd (omega (arith, few))
stay_first (one ∷ was) (suc behind) more few = ap (λ rest. one ∷ rest) (stay_first was behind more (omega (arith, few)))

-- first timesteps of which each is kept
pub all_known : (was : List (Option StepRecord)) (records : List StepRecord) (behind : ℕ) → take behind was ≡ map (λ kept. Some kept) records
    → (place : ℕ) (entry : Option StepRecord) → place < behind → slice_get was place ≡ Some entry → IsSome entry
all_known was records zero are place entry last there = absurd (omega (arith, last))
all_known [] records (suc behind) are place entry last there = absurd (none-some _ there)
all_known (one ∷ was) [] (suc behind) are place entry last there = absurd (let many = ap length are in omega (arith, many))
all_known (one ∷ was) (kept ∷ records) (suc behind) are zero entry last there =
    subst IsSome (sym (same_Some one (Some kept) (ap (λ ks. slice_get ks zero) are)) ∙ same_Some one entry there) refl
all_known (one ∷ was) (kept ∷ records) (suc behind) are (suc place) entry last there =
    all_known was records behind (ap (drop 1) are) place entry (omega (arith, last)) there

-- and there are their records
pub known_records : (was : List (Option StepRecord)) (behind : ℕ) → behind ≤ length was → AreKeptFrom was 0 behind
    → (records : List StepRecord) × (take behind was ≡ map (λ kept. Some kept) records)
known_records was zero few known = ([], refl)
known_records [] (suc behind) few known = absurd (omega (arith, few))
known_records (None ∷ was) (suc behind) few known = absurd (false≢true (known zero None (omega arith) (omega arith) refl))
known_records (Some kept ∷ was) (suc behind) few known =
    let more =
    known_records was behind (omega (arith, few))
    (λ place entry first last there. known (suc place) entry (omega arith) (omega (arith, last)) there) in
    (kept ∷ more.0, ap (λ rest. Some kept ∷ rest) more.1)
