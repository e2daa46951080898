-- What is known where a dispatch answers puts.
use Rattle.rw_method.proofs.Common.{AllFit, Balanced, Holds, Kind, List, None, Option, Put, Puts, Solves, Some, View, ap, ap₂, arith, balance_of}
use Rattle.rw_method.proofs.Common.{balanced_of, fault_of_contents, first_fault, fits, inl, inr, map, puts_of, refl, solved_balance, solve_of, sym, ℤ}
use Rattle.rw_method.proofs.Common.{◌≡◌}
use Rattle.rw_method.proofs.Common.{◌⊎◌}
use Rattle.rw_method.proofs.Leaving.{Solving}
use Rattle.rw_method.proofs.SolvedPuts.{contents_faulty, faultless, first_faulty, judged}
use Rattle.rw_method.proofs.BalanceFacts.{balanced_code}
use Rattle.rw_method.proofs.Terms.{shape_of, term_in, terms_are}

-- nothing was wrong before all else, the puts are those that were judged, all of them fit, nothing is wrong with the contents, and a term
-- was solved or the balance is true
pub record Answered (kind : Kind) (view : View) (puts : List Put) : Type 0 where
  pub same : puts_of kind view (balanced_of kind view) ≡ puts
  pub clean : first_fault kind view ≡ None
  pub fine : fault_of_contents kind view ≡ None
  pub fit : AllFit (fits kind view) puts
  pub ends : (balanced_of kind view ≡ Holds) ⊎ Solving kind view
  pub steady : ℤ
  pub is_steady : (balance_of kind view).steady ≡ Some steady
  pub comes_to : solved_balance (Some steady) (map (term_in view) (shape_of kind)) ≡ balanced_of kind view

ends_by : (kind : Kind) (view : View) (balanced : Balanced) → balanced_of kind view ≡ balanced
    → (balanced_code balanced ≡ 1) ⊎ (balanced_code balanced ≡ 2)
    → (balanced_of kind view ≡ Holds) ⊎ Solving kind view
ends_by kind view Holds is code = inl is
ends_by kind view (Solves place value number) is code = inr (record { place = place; value = value; number = number; is = is })
ends_by kind view balanced is code = absurd (elim code [ inl one ↦ omega (arith, one) | inr two ↦ omega (arith, two) ])

steady_by : (kind : Kind) (view : View) (found : Option ℤ) → (balance_of kind view).steady ≡ found
    → (balanced_code (balanced_of kind view) ≡ 1) ⊎ (balanced_code (balanced_of kind view) ≡ 2)
    → (steady : ℤ) × ((balance_of kind view).steady ≡ Some steady)
steady_by kind view (Some steady) is code = (steady, is)
steady_by kind view None is code =
    let idle : balanced_code (balanced_of kind view) ≡ 0 = ap (λ s. balanced_code (solved_balance s (balance_of kind view).terms)) is in
    absurd (elim code [ inl one ↦ omega (arith, one, idle) | inr two ↦ omega (arith, two, idle) ])

pub answered : (kind : Kind) (view : View) (puts : List Put) → solve_of kind view ≡ Puts puts → Answered kind view puts
answered kind view puts e =
    let clean = faultless (first_fault kind view) _ puts (first_faulty kind view) e in
    let is =
    judged (fits kind view) (puts_of kind view (balanced_of kind view)) puts (balanced_of kind view) (fault_of_contents kind view)
    (contents_faulty kind view) clean.1 in
    let steady = steady_by kind view (balance_of kind view).steady refl is.code in
    record {
      same = is.same;
      clean = clean.0;
      fine = is.fine;
      fit = is.fit_all;
      ends = ends_by kind view (balanced_of kind view) refl is.code;
      steady = steady.0;
      is_steady = steady.1;
      comes_to = ap₂ (λ s ts. solved_balance s ts) (sym steady.1) (sym (terms_are kind view));
    }
