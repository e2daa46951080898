-- What is written at a site: `At` says that locals and lines so far are those of the site, and each step of writing leads on to the next site.
use Rattle.rpl_compile.proofs.Common.{Bool, BoundName, Instruction, Kind, List, N, Site, ValueKind, Written, [], ap, append-nil, append_assoc, arith}
use Rattle.rpl_compile.proofs.Common.{at_line, bound, code_kind, code_kinds, false, if◌then◌else◌, is_same_kind, keeping, knowing, length}
use Rattle.rpl_compile.proofs.Common.{length-append, on, outer, over, refl, reverse, reverse-append, room_of, set-append_seam, subst, sym, take}
use Rattle.rpl_compile.proofs.Common.{take-append_seam, target, true, widening, widening_size, with_end, with_kind, with_line, with_local}
use Rattle.rpl_compile.proofs.Common.{with_operand, with_second, with_value_end, without_name, without_operands, written_step, written_with_room, ℕ}
use Rattle.rpl_compile.proofs.Common.{◌++◌, ◌+◌, ◌-◌, ◌∙◌, ◌∷◌, ◌≡◌}
use Rattle.rpl_code.specs.declared.instruction.Instruction.TheVariants as I
use Rattle.rpl_compile.specs.Written.{with_name}

-- with these locals and these lines so far
pub record At (so_far : Written) (site : Site) (kept : List ValueKind) (above : List Instruction) : Type 0 where
  pub scope : so_far.scope ≡ site.scope
  pub below : so_far.below ≡ reverse (code_kinds site.below)
  pub locals : so_far.locals ≡ kept
  pub lines : so_far.lines ≡ above
  pub free : length kept ≡ site.free
  pub place : length above ≡ site.place

-- ---- lists

pub longer : {A : Type 0} (xs ys : List A) {n : ℕ} → length xs ≡ n → length (xs ++ ys) ≡ n + length ys
longer xs ys xs_counted = length-append xs ys ∙ ap (λ n. n + length ys) xs_counted

-- one element is another
pub as_long : {A : Type 0} (xs ys : List A) (x y : A) → length (xs ++ x ∷ ys) ≡ length (xs ++ y ∷ ys)
as_long xs ys x y = length-append xs (x ∷ ys) ∙ sym (length-append xs (y ∷ ys))

-- without the last of them
pub taken : {A : Type 0} (xs ys : List A) (n : ℕ) → length ys ≡ n → take (length (xs ++ ys) - n) (xs ++ ys) ≡ xs
taken xs ys n ys_counted =
    let rest : length (xs ++ ys) - n ≡ length xs = omega (arith, length-append xs ys, ys_counted) in
    ap (λ m. take m (xs ++ ys)) rest ∙ take-append_seam xs ys

pub on_top : (kind : Kind) (kinds : List Kind) → reverse (code_kinds kinds) ++ code_kind kind ∷ [] ≡ reverse (code_kinds (kind ∷ kinds))
on_top kind kinds = sym (reverse-append (code_kind kind ∷ []) (code_kinds kinds))

-- ---- the same, said otherwise

pub locals_as : {so_far : Written} {site : Site} {kept : List ValueKind} {above : List Instruction} (also_kept : List ValueKind) → kept ≡ also_kept
    → At so_far site kept above → At so_far site also_kept above
locals_as {so_far} {site} {kept} {above} also_kept kept_is stands = subst (λ xs. At so_far site xs above) kept_is stands

pub lines_as : {so_far : Written} {site : Site} {kept : List ValueKind} {above : List Instruction} (lines : List Instruction) → above ≡ lines
    → At so_far site kept above → At so_far site kept lines
lines_as {so_far} {site} {kept} {above} lines above_is stands = subst (λ xs. At so_far site kept xs) above_is stands

-- two steps on
pub twice_on : {so_far : Written} {kept : List ValueKind} {above : List Instruction} (site : Site) → At so_far (on 1 (on 1 site)) kept above
    → At so_far (on 2 site) kept above
twice_on site stands = record {
  scope = stands.scope;
  below = stands.below;
  locals = stands.locals;
  lines = stands.lines;
  free = stands.free;
  place = let e = stands.place in omega (arith, e);
}

-- ---- steps

pub line_at : {so_far : Written} {site : Site} {kept : List ValueKind} {above : List Instruction} (line other_line : Instruction) → line ≡ other_line
    → At so_far site kept above → At (with_line line so_far) (on 1 site) kept (above ++ other_line ∷ [])
line_at {so_far} {site} {kept} {above} line other_line line_is stands = record {
  scope = stands.scope;
  below = stands.below;
  locals = stands.locals;
  lines = λ k. stands.lines k ++ line_is k ∷ [];
  free = stands.free;
  place = longer above (other_line ∷ []) stands.place;
}

-- the line at a place is another
pub other_line_at : {so_far : Written} {site : Site} {kept : List ValueKind} (before behind : List Instruction) (old new said : Instruction)
    (place : ℕ)
    → place ≡ length before → new ≡ said → At so_far site kept (before ++ old ∷ behind)
    → At (at_line place new so_far) site kept (before ++ said ∷ behind)
other_line_at {so_far} {site} {kept} before behind old new said place n_is same stands = record {
  scope = stands.scope;
  below = stands.below;
  locals = stands.locals;
  lines = ap (λ (version : Written). version.lines) (λ x. at_line (n_is x) (same x) (record {
    scope = so_far.scope;
    locals = so_far.locals;
    below = so_far.below;
    lines =
        stands.lines x;
  }))
      ∙ set-append_seam before old behind said;
  free = stands.free;
  place = as_long before behind said old ∙ stands.place;
}

pub operand_at : {so_far : Written} {site : Site} {kept : List ValueKind} {above : List Instruction} (kind other_kind : Kind) → kind ≡ other_kind
    → At so_far site kept above → At (with_operand kind so_far) (over other_kind site) kept above
operand_at {so_far} {site} {kept} {above} kind other_kind kind_is stands = record {
  scope = stands.scope;
  below = (λ x. stands.below x ++ code_kind (kind_is x) ∷ []) ∙ on_top other_kind site.below;
  locals = stands.locals;
  lines = stands.lines;
  free = stands.free;
  place = stands.place;
}

-- the operand on top is taken
pub taken_at : {so_far : Written} {kept : List ValueKind} {above : List Instruction} (kind : Kind) (site : Site)
    → At so_far (over kind site) kept above → At (without_operands 1 so_far) site kept above
taken_at {so_far} {kept} {above} kind site stands = record {
  scope = stands.scope;
  below = ap (λ (below : List ValueKind). take (length below - 1) below) (stands.below ∙ sym (on_top kind site.below))
      ∙ taken (reverse (code_kinds site.below)) (code_kind kind ∷ []) 1 refl;
  locals = stands.locals;
  lines = stands.lines;
  free = stands.free;
  place = stands.place;
}

pub local_at : {so_far : Written} {site : Site} {kept : List ValueKind} {above : List Instruction} → At so_far site kept above
    → At (with_local so_far) (keeping 1 site) (kept
    ++ N ∷ []) above
local_at {so_far} {site} {kept} {above} stands = record {
  scope = stands.scope;
  below = stands.below;
  locals = λ x. stands.locals x ++ N ∷ [];
  lines = stands.lines;
  free = longer kept (N ∷ []) stands.free;
  place = stands.place;
}

pub two_locals_at : {so_far : Written} {site : Site} {kept : List ValueKind} {above : List Instruction} → At so_far site kept above
    → At (with_local (with_local so_far)) (keeping 2 site) (kept ++ N ∷ N ∷ []) above
two_locals_at {so_far} {site} {kept} {above} stands = record {
  scope = stands.scope;
  below = stands.below;
  locals = (λ x. (stands.locals x ++ N ∷ []) ++ N ∷ []) ∙ append_assoc kept (N ∷ []) (N ∷ []);
  lines = stands.lines;
  free = longer kept (N ∷ N ∷ []) stands.free;
  place = stands.place;
}

-- the kind of a local
pub kind_at : {so_far : Written} {site : Site} {above : List Instruction} (before behind : List ValueKind) (old : ValueKind) (kind other_kind : Kind)
    (number : ℕ)
    → number ≡ length before → kind ≡ other_kind → At so_far site (before ++ old ∷ behind) above
    → At (with_kind number kind so_far) site (before ++ code_kind other_kind ∷ behind) above
kind_at {so_far} {site} {above} before behind old kind other_kind number n_is same stands = record {
  scope = stands.scope;
  below = stands.below;
  locals = ap (λ (version : Written). version.locals) (λ x. with_kind (n_is x) (same x) (record {
    scope = so_far.scope;
    locals = stands.locals x;
    below = so_far.below;
    lines =
        so_far.lines;
  }))
      ∙ set-append_seam before old behind (code_kind other_kind);
  lines = stands.lines;
  free = as_long before behind (code_kind other_kind) old ∙ stands.free;
  place = stands.place;
}

pub name_at : {so_far : Written} {site : Site} {kept : List ValueKind} {above : List Instruction} (new_name : List ℕ) (kind other_kind : Kind)
    (number other_number : ℕ) → kind ≡ other_kind → number ≡ other_number
    → At so_far site kept above
    → At (with_name (bound new_name kind number) so_far) (knowing (bound new_name other_kind other_number) site) kept above
name_at {so_far} {site} {kept} {above} new_name kind other_kind number other_number kind_is m_is stands = record {
  scope = λ i. bound new_name (kind_is i) (m_is i) ∷ stands.scope i;
  below = stands.below;
  locals = stands.locals;
  lines = stands.lines;
  free = stands.free;
  place = stands.place;
}

-- the name is taken away
pub unnamed_at : {so_far : Written} {kept : List ValueKind} {above : List Instruction} (bound_name : BoundName) (site : Site)
    → At so_far (knowing bound_name site) kept above → At
    (without_name so_far) site kept above
unnamed_at {so_far} {kept} {above} bound_name site stands = record {
  scope = ap outer stands.scope;
  below = stands.below;
  locals = stands.locals;
  lines = stands.lines;
  free = stands.free;
  place = stands.place;
}

-- ---- room

unchanged_at : {so_far : Written} {site : Site} {kept : List ValueKind} {above : List Instruction} → At so_far site kept above
    → At so_far (on 0 site) kept above
unchanged_at {so_far} {site} {kept} {above} stands = record {
  scope = stands.scope;
  below = stands.below;
  locals = stands.locals;
  lines = stands.lines;
  free = stands.free;
  place = let e = stands.place in omega (arith, e);
}

room_by : {so_far : Written} {site : Site} {kept : List ValueKind} {above : List Instruction} (same : Bool) (line : Instruction)
    → At so_far site kept above
    → At (if same then so_far else with_line line so_far) (on (if same then 0 else 1) site) kept (above ++ (if same then [] else line ∷ []))
room_by {so_far} {site} {kept} {above} true line stands = lines_as (above ++ []) (sym (append-nil above)) (unchanged_at stands)
room_by {so_far} {site} {kept} {above} false line stands = line_at line line refl stands

pub room_at : {so_far : Written} {site : Site} {kept : List ValueKind} {above : List Instruction} (place kind place_said kind_said : Kind)
    → place ≡ place_said → kind ≡ kind_said
    → At so_far site kept above
    → At (written_with_room place (written_step kind so_far)) (on (widening_size place_said kind_said) site) kept
    (above ++ widening place_said kind_said)
room_at {so_far} {site} {kept} {above} place kind place_said kind_said kind_is other_kind_is stands =
    subst (λ (any : Kind).
    At (written_with_room place (written_step kind so_far)) (on (widening_size place_said any) site) kept (above ++ widening place_said any))
    other_kind_is
    (subst (λ (any : Kind).
    At (written_with_room place (written_step kind so_far)) (on (widening_size any kind) site) kept (above ++ widening any kind)) kind_is
    (room_by (is_same_kind place kind) (I.Widen (room_of place)) stands))

-- ---- branches

-- behind the first part of a branch
pub second_at : {so_far : Written} {site : Site} {kept : List ValueKind} (before first : List Instruction) (branch_place : ℕ)
    → branch_place ≡ length before
    → At so_far site kept (before ++ I.Branch 0 ∷ first)
    → At (with_second branch_place so_far) (on 2 site) kept ((before ++ I.Branch (site.place + 1) ∷ first) ++ I.Jump 0 ∷ target site.below ∷ [])
second_at {so_far} {site} {kept} before first branch_place n_is stands =
    let place : length so_far.lines + 1 ≡ site.place + 1 = ap (λ (lines : List Instruction). length lines + 1) stands.lines
    ∙ ap (λ m. m + 1) stands.place in
    let branched = before ++ I.Branch (site.place + 1) ∷ first in
    let jump = line_at (I.Jump 0) (I.Jump 0) refl (other_line_at before first (I.Branch 0) (I.Branch (length so_far.lines + 1)) _ branch_place n_is
    (ap I.Branch place) stands) in
    let there = line_at (I.Target so_far.below) (target site.below) (ap I.Target stands.below) jump in
    twice_on site (lines_as (branched ++ I.Jump 0 ∷ target site.below ∷ []) (append_assoc branched (I.Jump 0 ∷ []) (target site.below ∷ [])) there)

-- behind the second part
pub end_at : {so_far : Written} {site : Site} {kept : List ValueKind} (before second : List Instruction) (kinds : List ValueKind)
    (there : Instruction) (jump_place : ℕ)
    → jump_place ≡ length before → I.Target kinds ≡ there → At so_far site kept (before ++ I.Jump 0 ∷ second)
    → At (with_end jump_place kinds so_far) (on 1 site) kept ((before ++ I.Jump site.place ∷ second) ++ there ∷ [])
end_at {so_far} {site} {kept} before second kinds there jump_place n_is same stands =
    let place : length so_far.lines ≡ site.place = ap (λ (lines : List Instruction). length lines) stands.lines ∙ stands.place in
    line_at (I.Target kinds) there same
    (other_line_at before second (I.Jump 0) (I.Jump (length so_far.lines)) _ jump_place n_is (ap I.Jump place) stands)

-- the same where there is a value
pub value_end_at : {so_far : Written} {site : Site} {kept : List ValueKind} (before second : List Instruction) (kind other_kind : Kind)
    (jump_place : ℕ)
    → jump_place ≡ length before → kind ≡ other_kind → At so_far site kept (before ++ I.Jump 0 ∷ second)
    → At (with_value_end jump_place kind so_far) (on 1 site) kept ((before ++ I.Jump site.place ∷ second) ++ target (other_kind ∷ site.below) ∷ [])
value_end_at {so_far} {site} {kept} before second kind other_kind jump_place n_is same stands =
    end_at before second (so_far.below ++ code_kind kind ∷ []) (target (other_kind ∷ site.below)) jump_place n_is
    (ap I.Target ((λ x. stands.below x ++ code_kind (same x) ∷ []) ∙ on_top other_kind site.below)) stands
