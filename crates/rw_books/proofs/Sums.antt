-- How large the sums of a book are, and that what is unknown once stays unknown.
use Rattle.rw_base.proofs.Common.{Bool, None, Option, arith, ap, false, ints, nat_le, nat_tests, refl, suc, suc-eq-add-one, sym, true, zero, ℕ, ℤ}
use Rattle.rw_base.proofs.Common.{◌+ℤ◌, ◌+◌, ◌∙◌, ◌≡◌, ◌≤◌}
use Rattle.std.specs.Prelude.{◌*◌}
use Rattle.rw_model.specs.declared.kind.Kind.{Kind}
use Rattle.rw_model.specs.Draft.{Draft}
use Rattle.rw_run.specs.Log.{Cells}
use Rattle.rw_books.specs.declared.book.Book.{Book}
use Rattle.rw_books.specs.declared.turnover.Turnover.{Turnover}
use Rattle.rw_books.specs.Book.{book_behind, book_over, opening_book, with_turnover}
use Rattle.rw_books.specs.Turnover.{IsNoLarger, IsOfThreeFlows, turnover_of, values_at}

-- what each timestep brings to the book of an object
abbrev pub turns_of : Draft → Cells → (object : ℕ) → Kind → ℕ → Option Turnover
turns_of basin cells object kind step = turnover_of kind (values_at basin cells object step)

-- the sums of a book over so many timesteps
pub record IsOver (before : ℕ) (book : Book) : Type 0 where
  pub inflow : IsNoLarger (300000000000000000 * before) book.inflow
  pub outflow : IsNoLarger (300000000000000000 * before) book.outflow

pub begins : (initial : ℤ) → IsOver 0 (opening_book initial)
begins initial = record {
  inflow = record { low = omega (arith, ints); high = omega (arith, ints) };
  outflow = record { low = omega (arith, ints); high = omega (arith, ints) };
}

more : (before : ℕ) (sum flow : ℤ) → IsNoLarger (300000000000000000 * before) sum → IsNoLarger 300000000000000000 flow
    → IsNoLarger (300000000000000000 * (before + 1)) (sum +ℤ flow)
more before sum flow so_far turn =
    let a = so_far.low in let b = so_far.high in let c = turn.low in let d = turn.high in
    record { low = omega (arith, ints, a, b, c, d); high = omega (arith, ints, a, b, c, d) }

pub one_more : (before : ℕ) (book : Book) (turn : Turnover) → IsOver before book → IsOfThreeFlows turn → IsOver (before + 1) (with_turnover book turn)
one_more before book turn so_far small = record {
  inflow = more before book.inflow turn.inflow so_far.inflow small.inflow;
  outflow = more before book.outflow turn.outflow so_far.outflow small.outflow;
}

-- within what the code adds up
pub small_enough : (before : ℕ) (sum : ℤ) → before ≤ 65535 → IsNoLarger (300000000000000000 * before) sum → IsNoLarger 20000000000000000000000 sum
small_enough before sum few so_far =
    let a = so_far.low in let b = so_far.high in
    record { low = omega (arith, ints, a, b, few); high = omega (arith, ints, a, b, few) }

-- the next timestep
pub next_book : (initial : ℤ) (turns : ℕ → Option Turnover) (before : ℕ)
    → book_over initial turns (before + 1) ≡ book_behind (book_over initial turns before) (turns (before + 1))
next_book initial turns before = let e = suc-eq-add-one before in
    ap (book_over initial turns) (sym e) ∙ ap (λ n. book_behind (book_over initial turns before) (turns n)) e

-- what is unknown stays unknown
one_later : (initial : ℤ) (turns : ℕ → Option Turnover) (first last : ℕ) → (first ≤ last → book_over initial turns last ≡ None)
    → first ≤ suc last → book_over initial turns first ≡ None → book_over initial turns (suc last) ≡ None
one_later initial turns first last before reaches unknown = by (nat_le first last) refl
  where
    by : (within : Bool) → nat_le first last ≡ within → book_over initial turns (suc last) ≡ None
    by true within = rw (before (grind (arith, nat_tests, within))) refl
    by false within =
        let behind : last + 1 ≤ first = grind (arith, nat_tests, within) in
        let e : first ≡ suc last = omega (arith, behind, reaches) in
        ap (book_over initial turns) (sym e) ∙ unknown

pub stays_unknown : (initial : ℤ) (turns : ℕ → Option Turnover) (first last : ℕ) → first ≤ last → book_over initial turns first ≡ None
    → book_over initial turns last ≡ None
stays_unknown initial turns first zero reaches unknown =
    let e : first ≡ 0 = omega (arith, reaches) in ap (book_over initial turns) (sym e) ∙ unknown
stays_unknown initial turns first (suc last) reaches unknown =
    one_later initial turns first last (λ within. stays_unknown initial turns first last within unknown) reaches unknown
