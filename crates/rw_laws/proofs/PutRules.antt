-- What the put rules say of a put that is written, kept or denied.
use Rattle.rw_laws.proofs.Common.{Bool, Content, Decides-int_eq, Denied, Kept, None, Option, PutEnd, Some, Written, and_parts, ap, arith, end_of_put}
use Rattle.rw_laws.proofs.Common.{false, if◌then◌else◌, inl, inr, is_same_object, is_value_kept, is_written, nat_le, nat_tests, refl, subst, true, ℕ}
use Rattle.rw_laws.proofs.Common.{◌<◌, ◌==◌, ◌≡◌, ◌≤◌, ◌⊎◌}
use Rattle.rw_model.specs.Put.{gives_way}

abbrev pub end_code : PutEnd → ℕ
end_code Written = 0
end_code Kept = 1
end_code (Denied held) = 2

abbrev pub WasWritten : Content → Content → Type 0
WasWritten held new = ((1 ≤ held.number) × (new.number ≤ held.number)) ⊎ ((held.number ≡ 0) × (is_same_object held.writer new.writer ≡ true))

-- one that is kept has the value that is there, under a number that is no less
abbrev pub WasKept : Content → Content → Type 0
WasKept held new = (held.value ≡ new.value) × (held.number ≤ new.number)

-- one that is denied has a lower priority than what is there, or what is there has priority 0
abbrev pub WasDenied : Content → Content → Type 0
WasDenied held new = (held.number ≡ 0) ⊎ (held.number < new.number)

abbrev IsEnd : Content → Content → PutEnd → Type 0
IsEnd held new Written = WasWritten held new
IsEnd held new Kept = WasKept held new
IsEnd held new (Denied shown) = WasDenied held new

way_is : (held new : Content) (none way : Bool) → (held.number == 0) ≡ none
    → (if none then is_same_object held.writer new.writer else nat_le new.number held.number) ≡ way
    → IsEnd held new (if way then Written else Denied held)
way_is held new true true none is = inr (grind (arith, nat_tests, none), is)
way_is held new false true none is = inl (grind (arith, nat_tests, none), grind (arith, nat_tests, is))
way_is held new true false none is = inl (grind (arith, nat_tests, none))
way_is held new false false none is = inr (grind (arith, nat_tests, is))

end_is : (held new : Content) → IsEnd held new (end_of_put (Some held) new)
end_is held new = by (is_value_kept held new) refl
  where
    by : (same : Bool) → is_value_kept held new ≡ same → IsEnd held new (if same then Kept else (if gives_way held new then Written else Denied held))
    by true same = let parts = and_parts _ _ same in ((Decides-int_eq held.value new.value).0 parts.0, grind (arith, nat_tests, parts.1))
    by false same = way_is held new (held.number == 0) (gives_way held new) refl refl

pub was_written : (held new : Content) → end_of_put (Some held) new ≡ Written → WasWritten held new
was_written held new end = subst (IsEnd held new) end (end_is held new)

pub kept_known : (held : Option Content) (new : Content) → end_of_put held new ≡ Kept
    → (content : Content) × ((held ≡ Some content) × WasKept content new)
kept_known None new end = absurd (let no = ap end_code end in omega (arith, no))
kept_known (Some content) new end = (content, (refl, subst (IsEnd content new) end (end_is content new)))

pub denied_known : (held : Option Content) (new shown : Content) → end_of_put held new ≡ Denied shown
    → (content : Content) × ((held ≡ Some content) × WasDenied content new)
denied_known None new shown end = absurd (let no = ap end_code end in omega (arith, no))
denied_known (Some content) new shown end = (content, (refl, subst (IsEnd content new) end (end_is content new)))

pub is_written_fact : (end : PutEnd) → is_written end ≡ true → end ≡ Written
is_written_fact Written is = refl
is_written_fact Kept is = absurd (grind (arith, is))
is_written_fact (Denied held) is = absurd (grind (arith, is))
