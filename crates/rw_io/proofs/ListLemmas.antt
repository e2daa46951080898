-- Parts of lists that are copied and appended.
use Rattle.rw_base.proofs.Common.{◌≡◌, ℕ, ◌+◌, ◌-◌, ◌≤◌, List, ◌++◌, length, take, drop, sym, arith, take_all, drop-drop, take-append-drop}
use Rattle.rw_base.proofs.Common.{take-append_seam}
use Rattle.std.proofs.lemmas.List.{length-drop}

-- what was copied to the front, and what is left
pub copied : (at n m : ℕ) (bytes new tail : List ℕ) → new ≡ take n (take m (drop at bytes))
    → length bytes - at ≤ m → length new ≡ n → drop at bytes ≡ take n (new ++ tail) ++ drop (at + n) bytes
copied at n m bytes new tail is whole len =
    let short : length (drop at bytes) ≤ m = omega (arith, length-drop at bytes) in
    let all : take m (drop at bytes) ≡ drop at bytes = take_all m (drop at bytes) short in
    let front : take n (new ++ tail) ≡ new = (rw (← len) (take-append_seam new tail)) in
    rw (front, is, all, ← drop-drop n at bytes) (sym (take-append-drop n (drop at bytes)))
