-- Lists by number.
use Rattle.rw_base.proofs.Lists.{got_last}
use Rattle.rw_base.proofs.Common.{◌≡◌, ◌≢◌, ℕ, zero, suc, ◌≤◌, ◌<◌, ◌+◌, ◌==◌, ◌&&◌, Bool, true, false, cond, List, [], ◌∷◌, ◌++◌, length, Option}
use Rattle.rw_base.proofs.Common.{Some, None, nat_tests, refl, sym, ap, ap₂, ◌∙◌, subst, arith, length-append, ◌⊎◌, slice_get, lookup, take, inl, inr}
use Rattle.rw_base.proofs.Common.{◌-◌, get_or, Equal-is, nat_cmp, BTreeMap, get, Updates, is_at, exact_unsigned, slice_get_within, slice_get_read}
use Rattle.rpl_code.specs.declared.kind.ValueKind.{ValueKind}
use Rattle.rpl_code.specs.declared.kind.ValueKind.TheVariants as K
use Rattle.rpl_verify.specs.declared.stacks.Node.{Node}
use Rattle.rpl_tree.specs.Budget.{capped, limits}
use Rattle.rpl_verify.specs.Kinds.{are_same_kinds, is_same_value_kind, words_of_all}
use Rattle.rpl_verify.specs.Stacks.{at, lists_after, lists, kind_code, key_of, IsNode, IsKept, IsKnown, Grows, IsPushed, is_next, stands_on}
use Rattle.rpl_verify.proofs.KindFacts.{and_true, same_kind_refl, same_kind_true, same_kinds_true}

pub at-append : (lists other_lists : List (List ValueKind)) (n : ℕ) → n < length lists → at (lists ++ other_lists) n ≡ at lists n
at-append [] other_lists n below = absurd (omega (arith, below))
at-append (kinds ∷ lists) other_lists zero below = refl
at-append (kinds ∷ lists) other_lists (suc n) below = at-append lists other_lists n (omega (arith, below))

at-seam : (lists : List (List ValueKind)) (kinds : List ValueKind) (n : ℕ) → n ≡ length lists → at (lists ++ kinds ∷ []) n ≡ kinds
at-seam [] kinds zero n_is = refl
at-seam [] kinds (suc n) n_is = absurd (omega (arith, n_is))
at-seam (kinds ∷ lists) other_kinds zero n_is = absurd (omega (arith, n_is))
at-seam (kinds ∷ lists) other_kinds (suc n) n_is = at-seam lists other_kinds n (omega (arith, n_is))

lists_after-push : (lists : List (List ValueKind)) (nodes : List Node) (node : Node)
    → lists_after lists (nodes ++ node ∷ []) ≡ lists_after lists nodes ++ (node.kind ∷ at (lists_after lists nodes) node.below) ∷ []
lists_after-push lists [] node = refl
lists_after-push lists (node ∷ nodes) other_node = lists_after-push (lists ++ (node.kind ∷ at lists node.below) ∷ []) nodes other_node

pub lists-push : (nodes : List Node) (node : Node) → lists (nodes ++ node ∷ []) ≡ lists nodes ++ (node.kind ∷ at (lists nodes) node.below) ∷ []
lists-push nodes node = lists_after-push ([] ∷ []) nodes node

got_push : {A : Type 0} (things : List A) (thing other_thing : A) (index : ℕ) → slice_get (things ++ thing ∷ []) index ≡ Some other_thing
    → ((index < length things) × (slice_get things index ≡ Some other_thing)) ⊎ ((index ≡ length things) × (thing ≡ other_thing))
got_push [] thing other_thing zero found = inr (refl, cc found)
got_push [] thing other_thing (suc index) found = absurd (cc found)
got_push (thing ∷ things) other_thing third_thing zero found = inl (omega arith, found)
got_push (thing ∷ things) other_thing third_thing (suc index) found =
    elim (got_push things other_thing third_thing index found) [ inl p ↦ inl (omega (arith, p.0), p.1) | inr p ↦ inr (omega (arith, p.0), p.1) ]

got_old : {A : Type 0} (things : List A) (thing other_thing : A) (index : ℕ) → slice_get things index ≡ Some other_thing
    → slice_get (things ++ thing ∷ []) index ≡ Some other_thing
got_old [] thing other_thing index found = absurd (cc found)
got_old (thing ∷ things) other_thing third_thing zero found = found
got_old (thing ∷ things) other_thing third_thing (suc index) found = got_old things other_thing third_thing index found

-- lookups after an insertion
finds_old : (kept other_map : BTreeMap ℕ ℕ) (key number sought its_number : ℕ) → get nat_cmp kept key ≡ None
    → Updates nat_cmp kept other_map key (Some number) → get nat_cmp kept sought ≡ Some its_number
    → get nat_cmp other_map sought ≡ Some its_number
finds_old kept other_map key number sought its_number absent updates get_is = by (is_at (nat_cmp key) sought) refl
  where
    by : (truth : Bool) → is_at (nat_cmp key) sought ≡ truth → get nat_cmp other_map sought ≡ Some its_number
    by true is_at_is =
        let same : key ≡ sought = exact_unsigned key sought ((Equal-is (nat_cmp key sought)).0 is_at_is) in
        absurd (let got = ap (get nat_cmp kept) same in cc (got, absent, get_is))
    by false is_at_is = updates.0 sought ∙ ap (λ b. cond b (Some number) (get nat_cmp kept sought)) is_at_is ∙ get_is

found_in : (kept other_map : BTreeMap ℕ ℕ) (key number sought its_number : ℕ) → Updates nat_cmp kept other_map key (Some number)
    → get nat_cmp other_map sought ≡ Some its_number
    → ((key ≡ sought) × (number ≡ its_number)) ⊎ (get nat_cmp kept sought ≡ Some its_number)
found_in kept other_map key number sought its_number updates get_is = by (is_at (nat_cmp key) sought) refl
  where
    by : (truth : Bool) → is_at (nat_cmp key) sought ≡ truth → ((key ≡ sought) × (number ≡ its_number)) ⊎ (get nat_cmp kept sought ≡ Some its_number)
    by true is_at_is =
        inl (
          exact_unsigned key sought ((Equal-is (nat_cmp key sought)).0 is_at_is),
          let got = sym (updates.0 sought ∙ ap (λ b. cond b (Some number) (get nat_cmp kept sought)) is_at_is) in cc (got, get_is),
        )
    by false is_at_is = inr (sym (updates.0 sought ∙ ap (λ b. cond b (Some number) (get nat_cmp kept sought)) is_at_is) ∙ get_is)

node_kept : (nodes : List Node) (node other_node : Node) (index : ℕ) → length (lists nodes) ≡ suc (length nodes) → index < length nodes
    → IsNode nodes index other_node → IsNode (nodes ++ node ∷ []) index other_node
node_kept nodes node other_node index length_is below node_so =
    let lists_push_so = lists-push nodes node in
    let new = (node.kind ∷ at (lists nodes) node.below) ∷ [] in
    let at_is : at (lists (nodes ++ node ∷ [])) (suc index) ≡ at (lists nodes) (suc index) =
    ap (λ l. at l (suc index)) lists_push_so ∙ at-append (lists nodes) new (suc index) (omega (arith, length_is, below)) in
    let at_is_so : at (lists (nodes ++ node ∷ [])) other_node.below ≡ at (lists nodes) other_node.below =
    ap (λ l. at l other_node.below) lists_push_so ∙ at-append (lists nodes) new other_node.below (omega (arith, length_is, below, node_so.low)) in
    record {
      low = node_so.low;
      made = at_is ∙ node_so.made ∙ ap (λ l. other_node.kind ∷ l) (sym at_is_so);
      high = node_so.high ∙ ap (λ l. suc (length l)) (sym at_is_so);
      flat = node_so.flat;
      heavy = node_so.heavy ∙ ap (λ l. capped limits.words (words_of_all (other_node.kind ∷ l))) (sym at_is_so);
      small = node_so.small;
    }

node_new : (nodes : List Node) (node : Node) → length (lists nodes) ≡ suc (length nodes) → node.below ≤ length nodes
    → node.height ≡ suc (length (at (lists nodes) node.below))
    → node.height ≤ suc (length nodes) → node.words ≡ capped limits.words (words_of_all (node.kind ∷ at (lists nodes) node.below))
    → kind_code node.kind < 262144
    → IsNode (nodes ++ node ∷ []) (length nodes) node
node_new nodes node length_is at_most high flat heavy small =
    let lists_push_so = lists-push nodes node in
    let new = node.kind ∷ at (lists nodes) node.below in
    let at_is : at (lists (nodes ++ node ∷ [])) (suc (length nodes)) ≡ new =
    ap (λ l. at l (suc (length nodes))) lists_push_so ∙ at-seam (lists nodes) new (suc (length nodes)) (sym length_is) in
    let at_is_so : at (lists (nodes ++ node ∷ [])) node.below ≡ at (lists nodes) node.below =
    ap (λ l. at l node.below) lists_push_so ∙ at-append (lists nodes) (new ∷ []) node.below (omega (arith, length_is, at_most)) in
    record {
      low = at_most;
      made = at_is ∙ ap (λ l. node.kind ∷ l) (sym at_is_so);
      high = high ∙ ap (λ l. suc (length l)) (sym at_is_so);
      flat = flat;
      heavy = heavy ∙ ap (λ l. capped limits.words (words_of_all (node.kind ∷ l))) (sym at_is_so);
      small = small;
    }

got_same : {A : Type 0} (things : List A) (thing : A) (index : ℕ) → index < length things
    → slice_get (things ++ thing ∷ []) index ≡ slice_get things index
got_same [] thing index below = absurd (omega (arith, below))
got_same (thing ∷ things) other_thing zero below = refl
got_same (thing ∷ things) other_thing (suc index) below = got_same things other_thing index (omega (arith, below))

next_kept : (nodes : List Node) (node : Node) (list_below : ℕ) (kind : ValueKind) → list_below < length nodes
    → is_next (nodes ++ node ∷ []) list_below kind ≡ is_next nodes list_below kind
next_kept nodes node list_below kind below = ap (stands_on list_below kind) (got_same nodes node list_below below)

wide_push : (nodes : List Node) (node : Node) → length (lists nodes) ≡ suc (length nodes)
    → length (lists (nodes ++ node ∷ [])) ≡ suc (length (nodes ++ node ∷ []))
wide_push nodes node length_is =
    ap length (lists-push nodes node) ∙ length-append (lists nodes) _
    ∙ (let lengths = length-append nodes (node ∷ []) in omega (arith, length_is, lengths))

empty_push : (nodes : List Node) (node : Node) → length (lists nodes) ≡ suc (length nodes) → at (lists nodes) 0 ≡ []
    → at (lists (nodes ++ node ∷ [])) 0 ≡ []
empty_push nodes node length_is at_is = ap (λ l. at l 0) (lists-push nodes node) ∙ at-append (lists nodes) _ 0 (omega (arith, length_is)) ∙ at_is

-- a node that may be added
pub record IsNew (nodes : List Node) (node : Node) : Type 0 where
  pub low : node.below ≤ length nodes
  pub high : node.height ≡ suc (length (at (lists nodes) node.below))
  pub flat : node.height ≤ suc (length nodes)
  pub heavy : node.words ≡ capped limits.words (words_of_all (node.kind ∷ at (lists nodes) node.below))
  pub small : kind_code node.kind < 262144

nodes_push : (nodes : List Node) (node : Node) (kept : BTreeMap ℕ ℕ) → IsKept nodes kept → IsNew nodes node → (index : ℕ) (other_node : Node)
    → slice_get (nodes ++ node ∷ []) index ≡ Some other_node
    → IsNode (nodes ++ node ∷ []) index other_node
nodes_push nodes node kept kept_so new index other_node found = elim (got_push nodes node other_node index found) [
  | inl p ↦ node_kept nodes node other_node index kept_so.wide p.0 (kept_so.nodes index other_node p.1)
  | inr p ↦ subst (λ y. IsNode (nodes ++ node ∷ []) index y) p.1
      (subst (λ j. IsNode (nodes ++ node ∷ []) j node) (sym p.0) (node_new nodes node kept_so.wide new.low new.high new.flat new.heavy new.small))
]

apart_push : (nodes : List Node) (node : Node) (kept : BTreeMap ℕ ℕ) → IsKept nodes kept
    → (node.below ≢ length nodes → is_next (nodes ++ node ∷ []) node.below node.kind ≡ false)
    → (index : ℕ) (other_node : Node) → slice_get (nodes ++ node ∷ []) index ≡ Some other_node → other_node.below ≢ index
    → is_next (nodes ++ node ∷ []) other_node.below other_node.kind ≡ false
apart_push nodes node kept kept_so new index other_node found older = elim (got_push nodes node other_node index found) [
  | inl p ↦ next_kept nodes node other_node.below other_node.kind
      (let its_node = kept_so.nodes index other_node p.1 in omega (arith, its_node.low, p.0)) ∙ kept_so.apart index other_node p.1 older
  | inr p ↦ subst (λ y. is_next (nodes ++ node ∷ []) y.below y.kind ≡ false) p.1
      (new (λ e. older (ap (λ (y : Node). y.below) (sym p.1) ∙ e ∙ sym p.0)))
]

known_push : (nodes : List Node) (node : Node) (place number : ℕ) → IsKnown nodes place number → IsKnown (nodes ++ node ∷ []) place number
known_push nodes node place number known =
    record {
      place = known.place;
      node = known.node;
      is = known.is;
      here = got_old nodes node known.node known.place known.here;
      key_is = known.key_is;
    }

pub kept_push : (nodes : List Node) (node : Node) (kept other_map : BTreeMap ℕ ℕ) → IsKept nodes kept → IsNew nodes node → node.below < length nodes
    → is_next nodes node.below node.kind ≡ false
    → get nat_cmp kept (key_of node.below node.kind) ≡ None → Updates nat_cmp kept other_map (key_of node.below node.kind) (Some (suc (length nodes)))
    → IsKept (nodes ++ node ∷ []) other_map
kept_push nodes node kept other_map kept_so new below next absent updates =
    let key = key_of node.below node.kind in
    record {
      wide = wide_push nodes node kept_so.wide;
      empty = empty_push nodes node kept_so.wide kept_so.empty;
      nodes = nodes_push nodes node kept kept_so new;
      told = λ k x g older. elim (got_push nodes node x k g) [
        | inl p ↦ finds_old kept other_map key (suc (length nodes)) (key_of x.below x.kind) (suc k) absent updates (kept_so.told k x p.1 older)
        | inr p ↦ subst (λ y. get nat_cmp other_map (key_of y.below y.kind) ≡ Some (suc k)) p.1 (updates.1 ∙ ap (λ j. Some (suc j)) (sym p.0))
      ];
      apart = apart_push nodes node kept kept_so (λ _. next_kept nodes node node.below node.kind below ∙ next);
      known = λ q v g. elim (found_in kept other_map key (suc (length nodes)) q v updates g) [
        | inl p ↦ record { place = length nodes; node = node; is = sym p.1; here = got_last nodes node; key_is = p.0 }
        | inr p ↦ known_push nodes node q v (kept_so.known q v p)
      ];
    }

pub kept_newest : (nodes : List Node) (node : Node) (kept : BTreeMap ℕ ℕ) → IsKept nodes kept → IsNew nodes node → node.below ≡ length nodes
    → IsKept (nodes ++ node ∷ []) kept
kept_newest nodes node kept kept_so new newest =
    record {
      wide = wide_push nodes node kept_so.wide;
      empty = empty_push nodes node kept_so.wide kept_so.empty;
      nodes = nodes_push nodes node kept kept_so new;
      told = λ k x g older. elim (got_push nodes node x k g) [
        | inl p ↦ kept_so.told k x p.1 older
        | inr p ↦ absurd (older (ap (λ (y : Node). y.below) (sym p.1) ∙ newest ∙ sym p.0))
      ];
      apart = apart_push nodes node kept kept_so (λ not. absurd (not newest));
      known = λ q v g. known_push nodes node q v (kept_so.known q v g);
    }

pub made_push : (nodes : List Node) (node : Node) (number : ℕ) → length (lists nodes) ≡ suc (length nodes) → number ≡ suc (length nodes)
    → IsPushed (lists nodes) (lists (nodes ++ node ∷ [])) node.kind node.below number
made_push nodes node number length_is number_is =
    let lists_push_so = lists-push nodes node in
    record {
      within =
          subst (λ ls. number < length ls) (sym lists_push_so)
          (let lengths = length-append (lists nodes) ((node.kind ∷ at (lists nodes) node.below) ∷ []) in omega
          (arith, lengths, length_is, number_is));
      made = ap (λ ls. at ls number) lists_push_so ∙ at-seam (lists nodes) _ number (omega (arith, length_is, number_is));
    }

pub grows_push : (nodes : List Node) (node : Node) → Grows (lists nodes) (lists (nodes ++ node ∷ []))
grows_push nodes node = record { more = (node.kind ∷ at (lists nodes) node.below) ∷ []; is = lists-push nodes node }

same_key : (first second : ℕ) (kind other_kind : ValueKind) → key_of first kind ≡ key_of second other_kind → kind_code kind < 262144
    → kind_code other_kind < 262144 → (first ≡ second) × (kind_code kind ≡ kind_code other_kind)
same_key first second kind other_kind key_of_is below below_so =
    (omega (arith, key_of_is, below, below_so), omega (arith, key_of_is, below, below_so))

code_is : (kind other_kind : ValueKind) → kind_code kind ≡ kind_code other_kind → kind ≡ other_kind
code_is K.N K.N kind_code_is = refl
code_is K.B K.B kind_code_is = refl
code_is K.D K.D kind_code_is = refl
code_is K.S K.S kind_code_is = refl
code_is (K.NList m) (K.NList n) kind_code_is = ap K.NList (omega (arith, kind_code_is))
code_is (K.SList m) (K.SList n) kind_code_is = ap K.SList (omega (arith, kind_code_is))
code_is _ _ kind_code_is = absurd (omega (arith, kind_code_is))

-- a list that was looked up
pub made_known : (nodes : List Node) (kept : BTreeMap ℕ ℕ) (list_below number : ℕ) (kind : ValueKind) → IsKept nodes kept → kind_code kind < 262144
    → get nat_cmp kept (key_of list_below kind) ≡ Some number → IsPushed (lists nodes) (lists nodes) kind list_below number
made_known nodes kept list_below number kind kept_so small get_is =
    let known = kept_so.known (key_of list_below kind) number get_is in
    let node_is = kept_so.nodes known.place known.node known.here in
    let same_key_so = same_key known.node.below list_below known.node.kind kind known.key_is node_is.small small in
    let kind_is : known.node.kind ≡ kind = code_is known.node.kind kind same_key_so.1 in
    let inside = slice_get_within nodes known.place known.node known.here in
    record {
      within = let wide_so = kept_so.wide in let is_so = known.is in omega (arith, wide_so, is_so, inside);
      made = ap (at (lists nodes)) known.is ∙ node_is.made ∙ ap₂ (λ x y. x ∷ at (lists nodes) y) kind_is same_key_so.0;
    }

-- a list that has the next number
pub made_next : (nodes : List Node) (kept : BTreeMap ℕ ℕ) (list_below : ℕ) (kind : ValueKind) → IsKept nodes kept
    → is_next nodes list_below kind ≡ true
    → IsPushed (lists nodes) (lists nodes) kind list_below (list_below + 1)
made_next nodes kept list_below kind kept_so is_next_is = by (slice_get nodes list_below) refl is_next_is
  where
    by : (found : Option Node) → slice_get nodes list_below ≡ found → stands_on list_below kind found ≡ true
        → IsPushed (lists nodes) (lists nodes) kind list_below (list_below + 1)
    by None got stands_on_is = absurd (cc stands_on_is)
    by (Some node) got stands_on_is =
        let two = and_true (node.below == list_below) (is_same_value_kind node.kind kind) stands_on_is in
        let first = two.0 in
        let low : node.below ≡ list_below = grind (arith, nat_tests) in
        let kind_is : node.kind ≡ kind = same_kind_true node.kind kind two.1 in
        let its_node = kept_so.nodes list_below node got in
        let same : list_below + 1 ≡ suc list_below = omega arith in
        record {
          within = let wide_so = kept_so.wide in let inside = slice_get_within nodes list_below node got in omega (arith, wide_so, inside);
          made = ap (at (lists nodes)) same ∙ its_node.made ∙ ap₂ (λ x y. x ∷ at (lists nodes) y) kind_is low;
        }

nodes_at : (nodes : List Node) (index : ℕ) → index < length nodes → (node : Node) × (slice_get nodes index ≡ Some node)
nodes_at [] index below = absurd (omega (arith, below))
nodes_at (node ∷ nodes) zero below = (node, refl)
nodes_at (node ∷ nodes) (suc index) below = nodes_at nodes index (omega (arith, below))

next_is : (nodes : List Node) (index : ℕ) (node : Node) → slice_get nodes index ≡ Some node → node.below ≡ index
    → is_next nodes index node.kind ≡ true
next_is nodes index node found below_is =
    let below_is_so : (node.below == index) ≡ true = grind (arith, nat_tests) in
    ap (stands_on index node.kind) found ∙ ap₂ (λ a b. a && b) below_is_so (same_kind_refl node.kind)

-- two nodes of one list stand at one place
same_place : (nodes : List Node) (kept : BTreeMap ℕ ℕ) (first second : ℕ) (node other_node : Node) → IsKept nodes kept
    → slice_get nodes first ≡ Some node → slice_get nodes second ≡ Some other_node
    → node.below ≡ other_node.below → node.kind ≡ other_node.kind → first ≡ second
same_place nodes kept first second node other_node kept_so found found_so low kind = by (node.below == first) (other_node.below == second) refl refl
  where
    clash : (third_node fourth_node : Node) (other_index index : ℕ) → slice_get nodes other_index ≡ Some third_node
        → slice_get nodes index ≡ Some fourth_node → third_node.below ≡ other_index → fourth_node.below ≢ index → third_node.below ≡ fourth_node.below
        → third_node.kind ≡ fourth_node.kind → ⊥
    clash third_node fourth_node other_index index found_too found_here here there low kind =
        let is_next_is : is_next nodes fourth_node.below fourth_node.kind ≡ true =
        ap₂ (λ b k. is_next nodes b k) (sym low ∙ here) (sym kind) ∙ next_is nodes other_index third_node found_too here in
        let not_next = kept_so.apart index fourth_node found_here there in
        absurd (cc (is_next_is, not_next))

    by : (truth test : Bool) → (node.below == first) ≡ truth → (other_node.below == second) ≡ test → first ≡ second
    by true true below_is below_is_so =
        let first_apart : node.below ≡ first = grind (arith, nat_tests) in
        let second_apart : other_node.below ≡ second = grind (arith, nat_tests) in
        sym first_apart ∙ low ∙ second_apart
    by true false below_is below_is_so =
        let first_apart : node.below ≡ first = grind (arith, nat_tests) in
        let second_apart : other_node.below ≢ second = grind (arith, nat_tests) in
        absurd (clash node other_node first second found found_so first_apart second_apart low kind)
    by false true below_is below_is_so =
        let first_apart : node.below ≢ first = grind (arith, nat_tests) in
        let second_apart : other_node.below ≡ second = grind (arith, nat_tests) in
        absurd (clash other_node node second first found_so found second_apart first_apart (sym low) (sym kind))
    by false false below_is below_is_so =
        let first_apart : node.below ≢ first = grind (arith, nat_tests) in
        let second_apart : other_node.below ≢ second = grind (arith, nat_tests) in
        let get_is : get nat_cmp kept (key_of node.below node.kind) ≡ get nat_cmp kept (key_of other_node.below other_node.kind) =
        ap₂ (λ u v. get nat_cmp kept (key_of u v)) low kind in
        let first_told = kept_so.told first node found first_apart in
        let second_told = kept_so.told second other_node found_so second_apart in
        let some_is : Some (suc first) ≡ Some (suc second) = sym first_told ∙ get_is ∙ second_told in
        cc some_is

same_number : (nodes : List Node) (kept : BTreeMap ℕ ℕ) → IsKept nodes kept → (kinds : List ValueKind) (first second : ℕ) → first < suc (length nodes)
    → second < suc (length nodes)
    → at (lists nodes) first ≡ kinds → at (lists nodes) second ≡ kinds → first ≡ second
same_number nodes kept kept_so kinds zero zero first_within second_within first_is second_is = refl
same_number nodes kept kept_so [] zero (suc second) first_within second_within first_is second_is =
    let second_node = nodes_at nodes second (omega (arith, second_within)) in
    absurd (let made = (kept_so.nodes second second_node.0 second_node.1).made in cc (made, second_is))
same_number nodes kept kept_so [] (suc first) second first_within second_within first_is second_is =
    let second_node = nodes_at nodes first (omega (arith, first_within)) in
    absurd (let made = (kept_so.nodes first second_node.0 second_node.1).made in cc (made, first_is))
same_number nodes kept kept_so (kind ∷ kinds) zero (suc second) first_within second_within first_is second_is =
    absurd (let made = kept_so.empty in cc (made, first_is))
same_number nodes kept kept_so (kind ∷ kinds) (suc first) zero first_within second_within first_is second_is =
    absurd (let made = kept_so.empty in cc (made, second_is))
same_number nodes kept kept_so (kind ∷ kinds) (suc first) (suc second) first_within second_within first_is second_is =
    let first_node = nodes_at nodes first (omega (arith, first_within)) in
    let second_node = nodes_at nodes second (omega (arith, second_within)) in
    let first_is_node = kept_so.nodes first first_node.0 first_node.1 in
    let second_is_node = kept_so.nodes second second_node.0 second_node.1 in
    let first_made = first_is_node.made in
    let second_made = second_is_node.made in
    let first_kind : first_node.0.kind ≡ kind = cc (first_made, first_is) in
    let second_kind : second_node.0.kind ≡ kind = cc (second_made, second_is) in
    let first_below : at (lists nodes) first_node.0.below ≡ kinds = cc (first_made, first_is) in
    let second_below : at (lists nodes) second_node.0.below ≡ kinds = cc (second_made, second_is) in
    let low : first_node.0.below ≡ second_node.0.below =
    same_number nodes kept kept_so kinds first_node.0.below second_node.0.below (let made = first_is_node.low in omega (arith, made, first_within))
    (let made = second_is_node.low in omega (arith, made, second_within)) first_below second_below in
    ap suc (same_place nodes kept first second first_node.0 second_node.0 kept_so first_node.1 second_node.1 low (first_kind ∙ sym second_kind))

pub same_is : (nodes : List Node) (kept : BTreeMap ℕ ℕ) (first second : ℕ) → IsKept nodes kept → first < length (lists nodes)
    → second < length (lists nodes)
    → are_same_kinds (at (lists nodes) first) (at (lists nodes) second) ≡ true → first ≡ second
same_is nodes kept first second kept_so below below_so are_same_kinds_is = let wide_so =
    kept_so.wide in same_number nodes kept kept_so (at (lists nodes) first) first second (omega (arith, wide_so, below))
    (omega (arith, wide_so, below_so))
    refl (sym (same_kinds_true _ _ are_same_kinds_is))

pub differ : (nodes : List Node) (kept : BTreeMap ℕ ℕ) (first second : ℕ) → IsKept nodes kept → first < length (lists nodes)
    → second < length (lists nodes) → first ≢ second
    → are_same_kinds (at (lists nodes) first) (at (lists nodes) second) ≡ false
differ nodes kept first second kept_so below below_so apart = by (are_same_kinds (at (lists nodes) first) (at (lists nodes) second)) refl
  where
    by : (truth : Bool) → are_same_kinds (at (lists nodes) first) (at (lists nodes) second) ≡ truth → truth ≡ false
    by true are_same_kinds_is = absurd (apart (same_is nodes kept first second kept_so below below_so are_same_kinds_is))
    by false are_same_kinds_is = refl

-- what stands at a number that isn't 0
pub record IsAt (lists : List (List ValueKind)) (n : ℕ) (node : Node) : Type 0 where
  pub made : at lists n ≡ node.kind ∷ at lists node.below
  pub low : node.below < length lists
  pub high : node.height ≡ length (at lists n)
  pub flat : node.height ≤ n
  pub heavy : node.words ≡ capped limits.words (words_of_all (at lists n))

pub node_of : (nodes : List Node) (kept : BTreeMap ℕ ℕ) (other_lists : List (List ValueKind)) (n : ℕ) (node : Node) → lists nodes ≡ other_lists
    → IsKept nodes kept → n ≢ 0
    → n < length other_lists → node ≡ get_or nodes (n - 1) node → IsAt other_lists n node
node_of nodes kept other_lists zero node lists_is kept_so some below node_is = absurd (some refl)
node_of nodes kept other_lists (suc index) node lists_is kept_so some below node_is =
    let wide_so = kept_so.wide in
    let length_so = ap length lists_is in
    let same : suc index - 1 ≡ index = omega arith in
    let node_is_so : node ≡ get_or nodes index node = subst (λ j. node ≡ get_or nodes j node) same node_is in
    let slice_get_read_so = slice_get_read nodes (length nodes) index node refl (omega (arith, wide_so, length_so, below)) node_is_so in
    let its_node = kept_so.nodes index node slice_get_read_so in
    let low = its_node.low in
    subst (λ ls. IsAt ls (suc index) node) lists_is (record {
      made = its_node.made;
      low = omega (arith, wide_so, length_so, below, low);
      high = its_node.high ∙ sym (ap length its_node.made);
      flat = its_node.flat;
      heavy = its_node.heavy ∙ sym (ap (λ l. capped limits.words (words_of_all l)) its_node.made);
    })

pub flat_at : (nodes : List Node) (kept : BTreeMap ℕ ℕ) (n : ℕ) → IsKept nodes kept → n < length (lists nodes) → length (at (lists nodes) n) ≤ n
flat_at nodes kept zero kept_so below = let length_so = ap length kept_so.empty in omega (arith, length_so)
flat_at nodes kept (suc index) kept_so below =
    let wide_so = kept_so.wide in
    let nodes_at_so = nodes_at nodes index (omega (arith, wide_so, below)) in
    let its_node = kept_so.nodes index nodes_at_so.0 nodes_at_so.1 in
    let flat_so = its_node.flat in
    let high_so = its_node.high in let length_so = ap length its_node.made in omega (arith, flat_so, high_so, length_so)

pub kept_cut : (nodes : List Node) (node : Node) (index : ℕ) → index ≡ length nodes → take index (nodes ++ node ∷ []) ≡ nodes
kept_cut [] node zero index_is = refl
kept_cut [] node (suc index) index_is = absurd (omega (arith, index_is))
kept_cut (node ∷ nodes) other_node zero index_is = absurd (omega (arith, index_is))
kept_cut (node ∷ nodes) other_node (suc index) index_is = ap (λ l. node ∷ l) (kept_cut nodes other_node index (omega (arith, index_is)))

pub kept_same : (nodes : List Node) (kept other_map : BTreeMap ℕ ℕ) → other_map.entries ≡ kept.entries → IsKept nodes kept → IsKept nodes other_map
kept_same nodes kept other_map entries_is kept_so =
    let same : (place : ℕ) → get nat_cmp other_map place ≡ get nat_cmp kept place = λ q. ap (λ es. lookup (is_at (nat_cmp q)) es) entries_is in
    record {
      wide = kept_so.wide;
      empty = kept_so.empty;
      nodes = kept_so.nodes;
      told = λ k n g older. same (key_of n.below n.kind) ∙ kept_so.told k n g older;
      apart = kept_so.apart;
      known = λ q v g. kept_so.known q v (sym (same q) ∙ g);
    }
