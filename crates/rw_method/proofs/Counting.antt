-- A request for energy that counts, and the outflow that it gives.
use Rattle.rw_method.proofs.Common.{Bool, Content, Given, None, Option, Plant, Some, View, ap, arith, false, given, if◌then◌else◌, inl, inr, is_some}
use Rattle.rw_method.proofs.Common.{known, nat_tests, none-some, option_and_then, option_map, outflow_of, outflow_or, refl, request_beside}
use Rattle.rw_method.proofs.Common.{request_of, requested, same_Some, sym, true, ℕ, ℤ, ◌≡◌, ◌<◌, ◌⊎◌}
use Rattle.std.specs.Prelude.{nat_lt}
use Rattle.rw_method.specs.Left.{IsGivenUpTo, IsUpTo}

-- an outflow that isn't given isn't asked for
pub none_asked : (asking held : Option Given) → outflow_or asking held ≡ None → held ≡ None
none_asked None held none = none
none_asked (Some asking) held none = absurd (none-some asking (sym none))

abbrev counting : Option ℤ → Option Given → Option Content → Option Content
counting past outflow request = if is_some past then option_and_then (request_beside outflow) request else None

-- a request that counts is known, as the past value is, and an outflow that is given has a lower priority
pub record IsCounting (past : Option ℤ) (outflow : Option Given) (request : Option Content) (asking : Content) : Type 0 where
  pub past_is : is_some past ≡ true
  pub is : request ≡ Some asking
  pub above : (held : Given) → outflow ≡ Some held → asking.number < held.number

counts_by : (past : Option ℤ) (outflow : Option Given) (request : Option Content) (asking : Content) → counting past outflow request ≡ Some asking
    → IsCounting past outflow request asking
counts_by None outflow request asking is = absurd (none-some asking is)
counts_by (Some past) outflow None asking is = absurd (none-some asking is)
counts_by (Some past) None (Some content) asking is = record { past_is = refl; is = is; above = λ held none. absurd (none-some held none) }
counts_by (Some past) (Some outflow) (Some content) asking is = by (nat_lt content.number outflow.number) refl is
  where
    by : (test : Bool) → nat_lt content.number outflow.number ≡ test → (if test then Some content else None) ≡ Some asking
        → IsCounting (Some past) (Some outflow) (Some content) asking
    by false less is = absurd (none-some asking is)
    by true less is = record {
      past_is = refl;
      is = is;
      above = λ held same.
          let n : content.number ≡ asking.number = ap (λ (c : Content). c.number) (same_Some _ _ is) in
          let m : outflow.number ≡ held.number = ap (λ (g : Given). g.number) (same_Some _ _ same) in grind (arith, nat_tests, less, n, m);
    }

pub counts : (view : View) (asking : Content) → request_of view ≡ Some asking → IsCounting view.past (given view 1) (known view 4) asking
counts view asking is = counts_by view.past (given view 1) (known view 4) asking is

-- ---- up to which number the outflow is given

-- the request is known with a number up to this, and the past value is known
abbrev pub AsksUpTo : ℕ → View → Type 0
AsksUpTo number view = (is_some view.past ≡ true) × IsUpTo number (known view 4)

from_by : (past : Option ℤ) (outflow : Option Given) (request asking : Option Content) (f : Content → Given) (number : ℕ)
    → ((c : Content) → (f c).number ≡ c.number)
    → counting past outflow request ≡ asking → IsGivenUpTo number (outflow_or (option_map f asking) outflow)
    → ((is_some past ≡ true) × IsUpTo number request) ⊎ IsGivenUpTo number outflow
from_by past outflow request None f number same is up = inr up
from_by past outflow request (Some asking) f number same is up =
    let counting_one = counts_by past outflow request asking is in
    let n : (f asking).number ≡ up.held.number = ap (λ (g : Given). g.number) (same_Some _ _ up.is) in
    let m = same asking in let most = up.most in
    inl (counting_one.past_is, record { content = asking; is = counting_one.is; most = omega (arith, n, m, most) })

pub from_asked : (plant : Plant) (view : View) (number : ℕ) → IsGivenUpTo number (outflow_of plant view)
    → AsksUpTo number view ⊎ IsGivenUpTo number (given view 1)
from_asked plant view number up = from_by view.past (given view 1) (known view 4) (request_of view) (requested plant view) number (λ c. refl) refl up

to_by : (past : Option ℤ) (outflow : Option Given) (request : Option Content) (f : Content → Given) (number : ℕ)
    → ((c : Content) → (f c).number ≡ c.number)
    → ((is_some past ≡ true) × IsUpTo number request) ⊎ IsGivenUpTo number outflow
    → IsGivenUpTo number (outflow_or (option_map f (counting past outflow request)) outflow)
to_by None outflow request f number same (inl asks) = absurd (let no : false ≡ true = asks.0 in cc)
to_by None outflow request f number same (inr up) = up
to_by (Some past) outflow None f number same (inl asks) = absurd (none-some asks.1.content asks.1.is)
to_by (Some past) outflow None f number same (inr up) = up
to_by (Some past) None (Some content) f number same (inl asks) =
    let n : content.number ≡ asks.1.content.number = ap (λ (c : Content). c.number) (same_Some _ _ asks.1.is) in
    let m = same content in let most = asks.1.most in
    record { held = f content; is = refl; most = omega (arith, n, m, most) }
to_by (Some past) None (Some content) f number same (inr up) = absurd (none-some up.held up.is)
to_by (Some past) (Some outflow) (Some content) f number same is = by (nat_lt content.number outflow.number) refl is
  where
    by : (test : Bool) → nat_lt content.number outflow.number ≡ test
        → (((true ≡ true) × IsUpTo number (Some content)) ⊎ IsGivenUpTo number (Some outflow))
        → IsGivenUpTo number (outflow_or (option_map f (if test then Some content else None)) (Some outflow))
    by true less (inl asks) =
        let n : content.number ≡ asks.1.content.number = ap (λ (c : Content). c.number) (same_Some _ _ asks.1.is) in
        let m = same content in let most = asks.1.most in
        record { held = f content; is = refl; most = omega (arith, n, m, most) }
    by true less (inr up) =
        let n : outflow.number ≡ up.held.number = ap (λ (g : Given). g.number) (same_Some _ _ up.is) in
        let m = same content in let most = up.most in
        record { held = f content; is = refl; most = grind (arith, nat_tests, less, n, m, most) }
    by false more (inl asks) =
        let n : content.number ≡ asks.1.content.number = ap (λ (c : Content). c.number) (same_Some _ _ asks.1.is) in
        let most = asks.1.most in
        record { held = outflow; is = refl; most = grind (arith, nat_tests, more, n, most) }
    by false more (inr up) = up

pub to_asked : (plant : Plant) (view : View) (number : ℕ) → AsksUpTo number view ⊎ IsGivenUpTo number (given view 1)
    → IsGivenUpTo number (outflow_of plant view)
to_asked plant view number is = to_by view.past (given view 1) (known view 4) (requested plant view) number (λ c. refl) is
