-- The names that proofs cite, passed on from one place. Declares nothing.
pub use Rattle.std.proofs.Common.{All, Bool, Bor, Contains, Err, FitsSigned, Global, IfOk, IfSome, IsSome, IsSomeAnd, IsTrue, List, MatchOption}
pub use Rattle.std.proofs.Common.{MatchResult, None, Ok, Option, Result, Some, String, Vec, [], add-one, add-zero, ap, append-nil, append_assoc, ap₂}
pub use Rattle.std.proofs.Common.{arith, below_more, bytes_eq, codes, cond, drop, drop-cons, false, find, get_or, if◌then◌else◌, inl, inr, int_le}
pub use Rattle.std.proofs.Common.{int_lt, is_some, length, length-append, length-drop, length-set, lit≤, map, max, min, mul-le-mul_right, nat_eq}
pub use Rattle.std.proofs.Common.{nat_le, nat_lt, neg_ℤ, negsuc, not, of_calls, of_z, option_and_then, option_map, pos, refl, replicate, reverse}
pub use Rattle.std.proofs.Common.{rules, set, slice_index, slice_index_or, string_bytes, subst, suc, sym, take, to_z, true, unsigned_abs, unwrap_or}
pub use Rattle.std.proofs.Common.{vec_len, w64, zero, ℕ, ℤ, ◌%◌, ◌&&◌, ◌*ℤ◌, ◌*◌, ◌++◌, ◌+ℤ◌, ◌+◌, ◌-ℤ◌, ◌-◌, ◌/◌, ◌<ℤ◌, ◌<◌, ◌==◌, ◌^◌, ◌||◌, ◌↔◌}
pub use Rattle.std.proofs.Common.{◌∙◌, ◌∷◌, ◌≡◌, ◌≢◌, ◌≤ℤ◌, ◌≤◌, ◌⊎◌}
pub use Rattle.std.proofs.Math.Dec.{ltb}
pub use Rattle.std.proofs.Math.IntN.{*ℤ-negsuc, *ℤ-zero, *ℤ_comm, +ℤ_one, suc_ℤ-*ℤ}
pub use Rattle.std.proofs.Math.ListN.{get_or-append, get_or-eq_default}
pub use Rattle.std.proofs.Math.Nat.{div-le_self, div-mul-le_self, mod-le, mod-lt, mul_comm, pow-le-pow_right, suc-mul, zero-lt-suc}
pub use Rattle.std.proofs.Math.Numerals.{suc-eq-add-one}
pub use Rattle.std.proofs.Math.Seq.{drop-append-add, drop-append_seam, drop_at, get_or-append_seam, set-append_seam, set_at, take-add}
pub use Rattle.std.proofs.Math.Seq.{take-append-add, take-append_seam, take-nil, take_at}
pub use Rattle.std.proofs.lemmas.Bool.{and_parts, both_ways, cases_Bool, cases_eq, cases_lt, cond_both, eq-eqb, eqb-true, false_from_ne_true}
pub use Rattle.std.proofs.lemmas.Bool.{false≢true, le-leb, leb-true, lt-ltb, ltb-false, ltb-true, ne_eqb}
pub use Rattle.std.proofs.lemmas.Bool.Decides.{Decides-and, Decides-by_and, Decides-eqb, Decides-int_eq, Decides-like, Decides-ltb, Decides-not}
pub use Rattle.std.proofs.lemmas.Bool.Decides.{Decides-or, nat_tests, same_from_decides}
pub use Rattle.std.proofs.lemmas.Cmp.{nat_eq_equiv, nat_list_eq_equiv}
pub use Rattle.std.proofs.lemmas.Fmt.{IsAscii-decimal, decimal_by_steps, decimal_digit, decimal_injective, decimal_is_IsNumeral, decimal_step}
pub use Rattle.std.proofs.lemmas.Fmt.{parse-decimal}
pub use Rattle.std.proofs.lemmas.Fn.{always_returns_same}
pub use Rattle.std.proofs.lemmas.Grind.{common_steps, elements}
pub use Rattle.std.proofs.lemmas.Int.{by_lt_z, clamps, fold-int_max_bounds, fold-int_min_bounds, int_max_is, int_min_is, ints, quot-rem, to_z-of_z}
pub use Rattle.std.proofs.lemmas.Int.{unsigned_abs-mul}
pub use Rattle.std.proofs.lemmas.Iterator.Adapters.{position_from-zero}
pub use Rattle.std.proofs.lemmas.List.{drop-drop, drop-set, drop_all, drop_min, drop_more, get_or-drop, get_or-map, get_or-replicate, get_or-reverse}
pub use Rattle.std.proofs.lemmas.List.{get_or-set_other, get_or-set_same, get_or-take, get_or_append_left, get_or_default, get_or_past, get_or_read}
pub use Rattle.std.proofs.lemmas.List.{length-map, length-replicate, length-reverse, length-take, length-take-le, length_push, map-append, map-set}
pub use Rattle.std.proofs.lemmas.List.{replicate-append-replicate, replicate_more, reverse-append, reverse-reverse, set-get_or, set_split}
pub use Rattle.std.proofs.lemmas.List.{take-append-drop, take-append-le, take-map, take_all, take_min, take_more}
pub use Rattle.std.proofs.lemmas.List.Elements.{All-append, All-cons, All-contains, All-filter, All-get_or, All-head, All-map, All-nil, All-push}
pub use Rattle.std.proofs.lemmas.List.Elements.{All-rest, All-tail, All-weaker, filter-append, filter_agree, filter_map-append, filter_passes}
pub use Rattle.std.proofs.lemmas.List.Elements.{recursion_from_All}
pub use Rattle.std.proofs.lemmas.List.Folds.{Any-from_list_any, list_any-append, list_any_at, list_any_more}
pub use Rattle.std.proofs.lemmas.List.FromFn.{get_or-map-range_with_len, get_or-range_with_len, length-map-range_with_len, length-range_with_len}
pub use Rattle.std.proofs.lemmas.List.FromFn.{map-range_with_len_more}
pub use Rattle.std.proofs.lemmas.Map.Keys.{IsDistinct-push}
pub use Rattle.std.proofs.lemmas.Map.Lookups.{exact_unsigned}
pub use Rattle.std.proofs.lemmas.Map.Text.{btree_map_updates_str}
pub use Rattle.std.proofs.lemmas.Map.Views.{Contains-from_any, any-filter_same, list_any-from_Contains}
pub use Rattle.std.proofs.lemmas.Nat.{div-add-mod', div-mul-add, div_below, le-div, mod-mul-add}
pub use Rattle.std.proofs.lemmas.Option.{get_or_from_slice_get, none-some, same_Some, slice_get-get_or, slice_get-map, slice_get_read}
pub use Rattle.std.proofs.lemmas.Option.{slice_get_within}
pub use Rattle.std.proofs.lemmas.Slice.Eq.{bytes_eq-Decides}
pub use Rattle.std.proofs.lemmas.Str.{IsUtf8-from_ascii, IsUtf8-from_is_utf8, is_utf8-from_IsUtf8}
pub use Rattle.std.proofs.lemmas.Str.Ascii.{IsAscii-cons, IsAscii-nil}
pub use Rattle.std.specs.BTreeMap.{BTreeMap, Updates, get, is_at}
pub use Rattle.std.specs.Bool.{Decides}
pub use Rattle.std.specs.Cmp.{Equal-is, signed_Decides}
pub use Rattle.std.specs.Cmp.Lexicographic.{slice_cmp}
pub use Rattle.std.specs.Fmt.{decimal, format_spec, signed_decimal, styled_decimal}
pub use Rattle.std.specs.Int.{int_div_euclid, int_max, int_min, w128}
pub use Rattle.std.specs.Io.KnownBytes.{Consumes, IsAtEnd}
pub use Rattle.std.specs.List.{AllByRecursion, cons_option, filter, filter_map, list_all, list_any, position, position_from, range_with_len}
pub use Rattle.std.specs.List.Sorted.{IsPartitionPoint, IsPartitionedBy}
pub use Rattle.std.specs.Map.{keys_of, lookup}
pub use Rattle.std.specs.Option.{ForSome, option_copied, option_or}
pub use Rattle.std.specs.Ordering.{int_eq, nat_cmp}
pub use Rattle.std.specs.Prelude.{IsFalse, IsOk, MatchBool, OnErr, OnOk, SomeIff, flat_map, int_div, int_rem, is_ok, slice_get, slice_set}
pub use Rattle.std.specs.Prelude.{vec_capacity}
pub use Rattle.std.specs.Result.{IsErrAnd, result_ok}
pub use Rattle.std.specs.Str.{IsAscii, IsUtf8, is_utf8}
pub use Rattle.std.specs.Str.Parse.{ParsesUnsigned, digits_value}
pub use Rattle.std.specs.Vec.{with_items}
pub use borrow.Author.Differences.{down, up}
pub use mathlib.Core.Former.{Count}
pub use mathlib.Core.List.{reverse_aux}
pub use mathlib.Core.Logic.{⊎_elim}
pub use native.Mathlib.Decide.{dec_lt}
