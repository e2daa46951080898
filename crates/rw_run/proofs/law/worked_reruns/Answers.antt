use Rattle.rw_base.proofs.Common.{All-cons, All-nil, ◌<◌, ◌≡◌, ◌↔◌, ℕ, zero, suc, ◌==◌, Bool, true, false, false≢true, inl, inr, ◌⊎◌, [], ◌∷◌}
use Rattle.rw_base.proofs.Common.{Contains, Option, None, Some, IsSome, refl, sym, ap, subst, ◌∙◌, arith, if◌then◌else◌, nat_tests, none-some}
use Rattle.rw_base.proofs.Common.{same_Some}
use Rattle.rw_model.specs.Draft.{Draft}
use Rattle.rw_model.specs.declared.content.Content.{Content}
use Rattle.rw_model.specs.declared.control.AgendaOrder.TheVariants.{HighFirst}
use Rattle.rw_run.specs.Frame.{AreAlike, log_after}
use Rattle.rw_run.specs.Log.{Log, cells_of}
use Rattle.rw_run.specs.Reuse.{IsReused}
use Rattle.rw_run.specs.Runs.{with_inputs}
use Rattle.rw_run.specs.Step.{before_opening, looked_at}
use Rattle.rw_run.specs.Worked.{data_object_basin, both_days_run, faulty_run, five, given_once, given_seven_run, needy_run, raised_twice, seven}
use Rattle.rw_run.proofs.law.worked_reruns.Goals as goal

pub returns-clause-earlier : goal.returns-clause-earlier
returns-clause-earlier c =
    record {
      events = raised_twice;
      leads = (refl, (refl, (refl, (refl, (refl, (refl, (refl, (refl, (refl, (refl, (refl, (refl, refl))))))))))));
      end = omega arith;
    }

pub returns-clause-later : goal.returns-clause-later
returns-clause-later c =
    record { events = given_once; leads = (refl, (refl, (refl, (refl, (refl, (refl, (refl, (refl, (refl, (refl, refl)))))))))); end = omega arith }

pub returns-clause-put : goal.returns-clause-put
returns-clause-put c = record { events = both_days_run; leads = (refl, (refl, (refl, (refl, (refl, (refl, refl)))))); end = omega arith }

pub returns-clause-given : goal.returns-clause-given
returns-clause-given c = record { events = given_seven_run; leads = (refl, (refl, (refl, (refl, (refl, (refl, refl)))))); end = omega arith }

-- a run of two days has opened these two
abbrev opens_two : Log → Log → ℕ → Option Log
opens_two first second step = if 2 == step then Some second else if 1 == step then Some first else None

one_or_two : (first second : Log) (step : ℕ) → IsSome (opens_two first second step) → (step ≡ 1) ⊎ (step ≡ 2)
one_or_two first second step some = by (2 == step) (1 == step) refl refl some
  where
    by : (two one : Bool) → (2 == step) ≡ two → (1 == step) ≡ one → IsSome (if two then Some second else if one then Some first else None)
        → (step ≡ 1) ⊎ (step ≡ 2)
    by true one is_two is_one some = inr (grind (arith, nat_tests, is_two))
    by false true is_two is_one some = inl (grind (arith, nat_tests, is_one))
    by false false is_two is_one some = absurd (false≢true some)

-- what a timestep looked at is alike before it, if it is reused
alike_before : (basin : Draft) (earlier later one other : Log) (step : ℕ) → IsReused basin earlier later step → before_opening step earlier ≡ Some one
    → before_opening step later ≡ Some other → AreAlike (cells_of basin one) (cells_of basin other) (looked_at basin step earlier)
alike_before basin earlier later one other step reused one_is other_is =
    let same_one : reused.one ≡ one = same_Some _ _ (sym reused.one_is ∙ one_is) in
    let same_other : reused.other ≡ other = same_Some _ _ (sym reused.other_is ∙ other_is) in
    subst (λ log. AreAlike (cells_of basin log) (cells_of basin other) (looked_at basin step earlier)) same_one
    (subst (λ log. AreAlike (cells_of basin reused.one) (cells_of basin log) (looked_at basin step earlier)) same_other reused.alike)

abbrev number_in : Option Content → ℕ
number_in None = 9
number_in (Some content) = content.number

abbrev days : Draft
days = data_object_basin HighFirst 2

-- ---- the first day is run again, and the second is reused

abbrev raised_earlier : Log
raised_earlier = log_after raised_twice []

abbrev raised_later : Log
raised_later = log_after given_once (with_inputs [] five)

raised_first : ¬ IsReused days raised_earlier raised_later 1
raised_first reused = absurd (none-some _ ((alike_before days raised_earlier raised_later [] (with_inputs [] five) 1 reused refl refl).0))

raised_second : IsReused days raised_earlier raised_later 2
raised_second = record {
  closed = refl;
  few_cells = omega arith;
  few_lines = omega arith;
  one = _;
  one_is = refl;
  other = _;
  other_is = refl;
  alike = (refl, (refl, (refl, (refl, (refl, (refl, (refl, (refl, (refl, tt)))))))));
}

first_alone : (step : ℕ) → Contains (1 ∷ []) step ↔ (IsSome (before_opening step raised_later) × ¬ IsReused days raised_earlier raised_later step)
first_alone step = (
  λ has. subst (λ k. IsSome (before_opening k raised_later) × ¬ IsReused days raised_earlier raised_later k) (only step has) (refl, raised_first),
  λ is. elim (one_or_two _ _ step is.0) [
    | inl one ↦ subst (Contains (1 ∷ [])) (sym one) (0, omega arith, refl)
    | inr two ↦ absurd (is.1 (subst (IsReused days raised_earlier raised_later) (sym two) raised_second))
  ],
)
  where
    only : (step : ℕ) → Contains (1 ∷ []) step → 1 ≡ step
    only step (zero, less, same) = same
    only step (suc k, less, same) = absurd (omega (arith, less))

pub returns-clause-first : goal.returns-clause-first
returns-clause-first c = record { rising = (All-nil _, tt); those = first_alone }

-- ---- both days are run again

abbrev put_earlier : Log
put_earlier = log_after both_days_run []

abbrev put_later : Log
put_later = log_after given_seven_run (with_inputs [] seven)

put_first : ¬ IsReused days put_earlier put_later 1
put_first reused = absurd (none-some _ ((alike_before days put_earlier put_later [] (with_inputs [] seven) 1 reused refl refl).1.1.0))

put_second : ¬ IsReused days put_earlier put_later 2
put_second reused =
    let same : 1 ≡ 0 = ap number_in ((alike_before days put_earlier put_later _ _ 2 reused refl refl).0) in absurd (omega (arith, same))

both_days_again : (step : ℕ) → Contains (1 ∷ 2 ∷ []) step ↔ (IsSome (before_opening step put_later) × ¬ IsReused days put_earlier put_later step)
both_days_again step = (
  λ has. there step has,
  λ is. elim (one_or_two _ _ step is.0) [
    | inl one ↦ subst (Contains (1 ∷ 2 ∷ [])) (sym one) (0, omega arith, refl)
    | inr two ↦ subst (Contains (1 ∷ 2 ∷ [])) (sym two) (1, omega arith, refl)
  ],
)
  where
    there : (step : ℕ) → Contains (1 ∷ 2 ∷ []) step → IsSome (before_opening step put_later) × ¬ IsReused days put_earlier put_later step
    there step (zero, less, same) =
        subst (λ k. IsSome (before_opening k put_later) × ¬ IsReused days put_earlier put_later k) same (refl, put_first)
    there step (suc zero, less, same) =
        subst (λ k. IsSome (before_opening k put_later) × ¬ IsReused days put_earlier put_later k) same (refl, put_second)
    there step (suc (suc k), less, same) = absurd (omega (arith, less))

pub returns-clause-both : goal.returns-clause-both
returns-clause-both c =
    record { rising = (All-cons (λ later. 1 < later) 2 [] (omega arith) (All-nil (λ later. 1 < later)), (All-nil _, tt)); those = both_days_again }

-- ---- the first day wasn't closed, and the second not opened

pub returns-clause-faulty : goal.returns-clause-faulty
returns-clause-faulty c = record { events = faulty_run; leads = (refl, (refl, refl)); end = tt }

pub returns-clause-longer : goal.returns-clause-longer
returns-clause-longer c = record { events = needy_run; leads = (refl, (refl, (refl, (refl, (refl, refl))))); end = tt }

abbrev needy_earlier : Log
needy_earlier = log_after faulty_run []

abbrev needy_later : Log
needy_later = log_after needy_run (with_inputs [] five)

needy_first : ¬ IsReused days needy_earlier needy_later 1
needy_first reused = absurd (false≢true reused.closed)

needy_second : ¬ IsReused days needy_earlier needy_later 2
needy_second reused = absurd (none-some _ reused.one_is)

needy_again : (step : ℕ) → Contains (1 ∷ 2 ∷ []) step ↔ (IsSome (before_opening step needy_later) × ¬ IsReused days needy_earlier needy_later step)
needy_again step = (
  λ has. there step has,
  λ is. elim (one_or_two _ _ step is.0) [
    | inl one ↦ subst (Contains (1 ∷ 2 ∷ [])) (sym one) (0, omega arith, refl)
    | inr two ↦ subst (Contains (1 ∷ 2 ∷ [])) (sym two) (1, omega arith, refl)
  ],
)
  where
    there : (step : ℕ) → Contains (1 ∷ 2 ∷ []) step → IsSome (before_opening step needy_later) × ¬ IsReused days needy_earlier needy_later step
    there step (zero, less, same) =
        subst (λ k. IsSome (before_opening k needy_later) × ¬ IsReused days needy_earlier needy_later k) same (refl, needy_first)
    there step (suc zero, less, same) =
        subst (λ k. IsSome (before_opening k needy_later) × ¬ IsReused days needy_earlier needy_later k) same (refl, needy_second)
    there step (suc (suc k), less, same) = absurd (omega (arith, less))

pub returns-clause-opened : goal.returns-clause-opened
returns-clause-opened c =
    record { rising = (All-cons (λ later. 1 < later) 2 [] (omega arith) (All-nil (λ later. 1 < later)), (All-nil _, tt)); those = needy_again }

pub returns-clause-rising : goal.returns-clause-rising
returns-clause-rising c = λ first later rising. rising.0 0 later (omega arith)
