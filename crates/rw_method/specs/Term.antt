-- How a term counts in its object's balance, and what it is solved as.
use Rattle.std.specs.Prelude.{ℕ, ◌≤◌, ◌-◌, ◌*◌, ℤ, pos, neg_ℤ, ◌+ℤ◌, ◌-ℤ◌, ◌*ℤ◌, ◌≤ℤ◌, if◌then◌else◌, Option, None, Some}
use Rattle.std.specs.Ordering.{int_eq}
use Rattle.rw_model.specs.declared.limits.TheConstants.{PARTS, SEEPAGE_MAX}
use Rattle.rw_base.specs.Quotient.{floor_div}
use Rattle.rw_method.specs.declared.given.Given.{Given}
use Rattle.rw_method.specs.declared.share.Share.{Share}
use Rattle.rw_method.specs.declared.share.Share.TheVariants.{Brings, Takes, Conveys, Routes}

-- so many of a thousand parts, rounded down
abbrev pub per_mille : ℤ → ℕ → ℤ
per_mille value share = floor_div (value *ℤ pos share) (pos 1000)

-- the least inflow of a canal that gives the outflow; an outflow of 0 comes from none
abbrev pub least_inflow : ℕ → ℤ → ℤ
least_inflow seepage outflow =
    if int_eq outflow (pos 0) then pos 0
    else floor_div (pos 1000 *ℤ (outflow -ℤ pos 1)) (pos (1000 - seepage)) +ℤ pos 1

-- the least inflow with which a reach that holds so much lets the outflow go: the least content that does, less what it holds
abbrev pub least_routed : ℤ → ℕ → ℤ → ℤ
least_routed content release outflow = neg_ℤ (floor_div (neg_ℤ (outflow *ℤ pos 1000)) (pos release)) -ℤ content

-- at most 999 of a thousand parts seep away, and 1 to 1000 are let go
abbrev pub IsShare : Share → Type 0
IsShare Brings = Unit {0}
IsShare Takes = Unit {0}
IsShare (Conveys seepage) = seepage ≤ SEEPAGE_MAX
IsShare (Routes content release) = (1 ≤ release) × (release ≤ PARTS)

-- how much a value brings to the balance
abbrev pub brought : Share → ℤ → ℤ
brought Brings value = value
brought Takes value = neg_ℤ value
brought (Conveys seepage) value = value -ℤ per_mille value seepage
brought (Routes content release) value = per_mille (content +ℤ value) release

-- the value that brings so much to the balance; the least one for what is conveyed or routed
abbrev pub bringing : Share → ℤ → ℤ
bringing Brings amount = amount
bringing Takes amount = neg_ℤ amount
bringing (Conveys seepage) amount = least_inflow seepage amount
bringing (Routes content release) amount = least_routed content release amount

-- how much is brought by what is given, which is 0 where nothing is
abbrev pub brought_by : Share → Option Given → ℤ
brought_by share None = pos 0
brought_by share (Some held) = brought share held.value

-- at most so many times 10^23 up or down: within once are the products of a 64 bit number and one of 16 bits
pub record IsWithin (times : ℕ) (amount : ℤ) : Type 0 where
  pub low : neg_ℤ (pos (times * 100000000000000000000000)) ≤ℤ amount
  pub high : amount ≤ℤ pos (times * 100000000000000000000000)
