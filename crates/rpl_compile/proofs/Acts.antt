-- Statements with others inside, written one after the other.
use Rattle.rpl_compile.proofs.Common.{Acts, Callee, List, Tree, Written, branch, compiled, compiled_act, compiled_acts, length, refl, with_branch}
use Rattle.rpl_compile.proofs.Common.{with_end, with_second, ℕ, ◌≡◌}

pub branch_written : (callees : List Callee) (so_far first_version second_version third_version last_version : Written) (condition : Tree)
    (first second : Acts) (place jump : ℕ)
    → first_version ≡ with_branch (compiled callees so_far condition).on → place ≡ length (compiled callees so_far condition).on.lines
    → second_version ≡ compiled_acts callees first_version first
    → third_version ≡ with_second place second_version → jump ≡ length second_version.lines
    → last_version ≡ compiled_acts callees third_version second
    → with_end jump last_version.below last_version ≡ compiled_act callees so_far (branch condition first second)
branch_written callees so_far first_version second_version third_version last_version condition first second place jump on_a on_place on_b on_c
    on_jump on_d =
    rw (on_d, on_c, on_jump, on_b, on_a, on_place) refl
