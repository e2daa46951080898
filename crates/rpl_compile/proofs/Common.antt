-- The names that proofs cite, passed on from one place. Declares nothing.
pub use Rattle.rw_base.proofs.Common.{AllByRecursion, Bool, Err, IsAscii, IsAscii-cons, IsAscii-nil, IsOk, IsSome, IsSomeAnd, IsTrue, IsUtf8}
pub use Rattle.rw_base.proofs.Common.{IsUtf8-from_ascii, IsUtf8-from_is_utf8, List, None, Ok, Option, Result, Some, [], and_parts, ap, append-nil}
pub use Rattle.rw_base.proofs.Common.{append_assoc, ap₂, arith, bytes_eq, bytes_eq-Decides, cases_Bool, cond_both, drop, drop-append_seam, drop-drop}
pub use Rattle.rw_base.proofs.Common.{drop_all, eq-eqb, false, false≢true, get_or-append_seam, if◌then◌else◌, inl, inr, int_le, ints, is_ok, is_some}
pub use Rattle.rw_base.proofs.Common.{is_utf8, is_utf8-from_IsUtf8, length, length-append, length-map, length-replicate, length-reverse, list_all}
pub use Rattle.rw_base.proofs.Common.{list_any, lt-ltb, ltb-true, map, map-append, max, min, nat_le, nat_lt, nat_tests, negsuc, not, option_and_then}
pub use Rattle.rw_base.proofs.Common.{option_map, pos, recursion_from_All, refl, replicate, reverse, reverse-append, reverse-reverse, reverse_aux}
pub use Rattle.rw_base.proofs.Common.{rules, set, set-append_seam, slice_get, slice_get-map, slice_get_within, slice_index, subst, suc, sym, take}
pub use Rattle.rw_base.proofs.Common.{take-append_seam, true, unsigned_abs, unwrap_or, zero, ℕ, ℤ, ◌&&◌, ◌*ℤ◌, ◌*◌, ◌++◌, ◌+◌, ◌-◌, ◌<◌, ◌==◌, ◌||◌}
pub use Rattle.rw_base.proofs.Common.{◌∙◌, ◌∷◌, ◌≡◌, ◌≢◌, ◌≤ℤ◌, ◌≤◌, ◌⊎◌}
pub use Rattle.rw_base.proofs.Tests.{Decides-from_to, Decides-int_le, Decides-le, spared, unless, where-true}
pub use Rattle.rw_base.specs.Dimension.{Dimension, per_of, times_of, times_per_of}
pub use Rattle.rw_base.specs.Unit.{unit_in, units}
pub use Rattle.rw_base.specs.declared.number.Cell.{Cell}
pub use Rattle.rw_model.proofs.Common.{Draft, IsBasin, IsDigit, IsKind, IsLetter, IsName, IsSound, Object, Placed, all_quantities, all_slots}
pub use Rattle.rw_model.proofs.Common.{first_from, is_named, numbered, object_at, object_from, object_named, of_range, placed_from, slot_named}
pub use Rattle.rw_model.proofs.Common.{slots_from, slots_of, where_chosen}
pub use Rattle.rpl_code.specs.Bounds.{AreKinds, IsBlock, IsCode, IsCodeKind, IsInstruction, IsLength, IsNumber}
pub use Rattle.rpl_code.specs.Weight.{words_of}
pub use Rattle.rpl_code.specs.declared.block.Block.{Block}
pub use Rattle.rpl_code.specs.declared.block.BlockHead.{BlockHead}
pub use Rattle.rpl_code.specs.declared.block.BlockHead.TheVariants.{Rule}
pub use Rattle.rpl_code.specs.declared.instruction.Instruction.{Instruction}
pub use Rattle.rpl_code.specs.declared.kind.ValueKind.{ValueKind}
pub use Rattle.rpl_code.specs.declared.kind.ValueKind.TheVariants.{B, N}
pub use Rattle.rpl_tree.proofs.Common.{Act, Acts, Answer, Budget, Costed, Declared, Function, Function as Predefined, Head, Kind, Names, Outcome}
pub use Rattle.rpl_tree.proofs.Common.{Parameter, Price, Trail, Tree, Trees, TypeName, Value, World, a_number, a_slot, a_truth, act, act_local_kinds}
pub use Rattle.rpl_tree.proofs.Common.{act_nodes, acts_in, acts_local_kinds, acts_nodes, after, all_local_kinds, append_of, assign, at, at_most_of}
pub use Rattle.rpl_tree.proofs.Common.{bind, bounds_at, brackets, branch, budget, budget_of, call, can_set, capped, choice, convert, costed_heads}
pub use Rattle.rpl_tree.proofs.Common.{costs, costs_from, count_of, difference_of, each, element_of, elements_of, ended, equal_of, fire_of}
pub use Rattle.rpl_tree.proofs.Common.{first_kind, function, gives, goes_on, height, height_of_act, height_of_acts, height_of_all}
pub use Rattle.rpl_tree.proofs.Common.{height_of_arguments, is_quantity, is_same_kind, is_stuck, is_within, item_of, joined, kind_named, kind_of_type}
pub use Rattle.rpl_tree.proofs.Common.{known_of, less_of, limits, list, list_of, literal, local_kinds, mapped, most, most_arguments, most_named}
pub use Rattle.rpl_tree.proofs.Common.{most_of, most_of_act, most_of_acts, most_of_body, name, no_acts, no_trees, node_count, node_counts, nodes_of}
pub use Rattle.rpl_tree.proofs.Common.{not_of, now, number_kind, numbers, numbers_kind, one, param_kinds, param_names, parameter_of}
pub use Rattle.rpl_tree.proofs.Common.{predefined_functions, price_of_looks, price_of_puts, price_of_steps, product_of, put_of, quotient_of, read_of}
pub use Rattle.rpl_tree.proofs.Common.{result_named, room_of, rule, rules_of, slot, slots, spent, stuck, sum_of, table_in, table_named, takes_named}
pub use Rattle.rpl_tree.proofs.Common.{to_widen, tree, tree_kind, tree_of, tree_of_call, trees_in, truth, two, two_kind, value, weight, weights}
pub use Rattle.rpl_tree.proofs.Common.{with_elements, with_name, within_or_end, words_from, words_of_rules, ◌>>=◌}
pub use Rattle.rpl_tree.proofs.PutsAhead.{at_most_30, is_near, never_behind}
pub use Rattle.rpl_tree.specs.Cost.{predefined_costs, two_cost}
pub use Rattle.rpl_tree.specs.Count.{act_locals, acts_locals, local_count, local_counts}
pub use Rattle.rpl_tree.specs.Kinds.{difference_kind, join, one_kind}
pub use Rattle.rpl_tree.specs.Mean.{Env, act_done, acts_done, arguments_of, both, called, function_heads, function_of, kind_in, known_in, mean, named}
pub use Rattle.rpl_tree.specs.Mean.{names_of_env, numbers_for, quantity_or_stuck, rule_done, turns, value_of, values_of, with_arguments, with_number}
pub use Rattle.rpl_tree.specs.Operators.{chosen, roomier, widened}
pub use Rattle.rpl_tree.specs.Tree.{boolean, datetime, numeric, numeric_list, slot_list, slot_type}
pub use Rattle.rpl_tree.specs.Value.{date_kind, kind_of_value, list_kind, slot_kind, slots_kind, truth_kind}
pub use Rattle.rpl_tree.specs.declared.rpl_type.RplType.{RplType}
pub use Rattle.rpl_tree.specs.declared.rpl_type.RplType.TheVariants.{Boolean, Datetime, Numeric, NumericList, Slot, SlotList}
pub use Rattle.rpl_tree.specs.declared.words.ConvertWord.{ConvertWord}
pub use Rattle.rpl_tree.specs.declared.words.ConvertWord.TheVariants.{ElevationToStorage, StorageToElevation}
pub use Rattle.rpl_tree.specs.declared.words.OneWord.{OneWord}
pub use Rattle.rpl_tree.specs.declared.words.OneWord.TheVariants.{Day, Known, Length, Minus, Month, Not, Year}
pub use Rattle.rpl_tree.specs.declared.words.TwoWord.{TwoWord}
pub use Rattle.rpl_tree.specs.declared.words.TwoWord.TheVariants.{And, Append, Divide, Equal, Greater, GreaterEqual, Item, Less, LessEqual}
pub use Rattle.rpl_tree.specs.declared.words.TwoWord.TheVariants.{Minus as Less_by, Or, Plus, Times, Unequal}
pub use Rattle.rpl_tree.specs.Bounds.{AreLimited, AreWithin, function_count, rule_count}
pub use Rattle.rpl_types.specs.Fits.{Typed, arguments_misfit, joined_type, length_misfit, longest, misfit, misfit_among, misfit_in_places}
pub use Rattle.rpl_types.specs.Fits.{refusal_order, sooner, unit_misfit}
pub use Rattle.rpl_types.specs.Forms.{TypeScope, a_dimension, answers, append_type, asks, compared_type, convert_type, difference_type, element_type}
pub use Rattle.rpl_types.specs.Forms.{found_slot_type, found_target_misfit, is_boolean, is_datetime, is_look, item_type, length_type, list_type}
pub use Rattle.rpl_types.specs.Forms.{literal_in_unit, look_type, mapped_type, measured_in, name_type, negative_type, one_type, only_if, product_type}
pub use Rattle.rpl_types.specs.Forms.{sum_type, two_type}
pub use Rattle.rpl_types.specs.Functions.{Callable, Signature, call_type, called_type, count_named, declared_type, head_misfit, is_duplicate, made_by}
pub use Rattle.rpl_types.specs.Functions.{measured_by, numbers_type, param_scope, predefined_count, product_over_type, refusal_in, repeats_name}
pub use Rattle.rpl_types.specs.Functions.{signature, signature_named, type_here, type_or_plain, unknown_type, with_room, with_unit, written_type}
pub use Rattle.rpl_types.specs.HasType.{AllStand, AreDeclared, HasType, HaveTypes, IsTyped, Stands}
pub use Rattle.rpl_types.specs.Judged.{and_function, cost_refusal, function_names, head_refusal, is_affordable, rules_judged}
pub use Rattle.rpl_types.specs.declared.type_kind.TypeKind.{TypeKind}
pub use Rattle.rpl_types.specs.declared.type_kind.TypeKind.TheVariants.{DuplicateName, ListTooLong, LiteralRange, NotEarlier, TooCostly, UnknownName}
pub use Rattle.rpl_types.specs.declared.type_kind.TypeKind.TheVariants.{WrongCount}
pub use Rattle.rpl_verify.proofs.Common.{Accepted, Before, Frame, IsOperation, IsRoomy, Loop, Open, Running, Scope, State, and_true, answered}
pub use Rattle.rpl_verify.proofs.Common.{appended, are_same_kinds, before, before_at, befores, begin, behind_loop, blank, call_misfit, call_row}
pub use Rattle.rpl_verify.proofs.Common.{carried, costs_ahead, element_kind as code_element_of, element_picked, end_kinds, end_of_list, entered, first_frame}
pub use Rattle.rpl_verify.proofs.Common.{found, function_named, goes_by, handed_back, heads_of, heads_of as block_heads, invoke_row, invoked}
pub use Rattle.rpl_verify.proofs.Common.{is_alike, is_same_loop, is_same_value_kind, is_that_kind, jumped, kind_of as code_kind_of, kinds_append}
pub use Rattle.rpl_verify.proofs.Common.{kinds_length, kinds_of, list_room as code_room_of, list_value_kind as code_list_kind, load_row, loaded}
pub use Rattle.rpl_verify.proofs.Common.{locals_of, looks_of, loop_end, mapping, most_steps, name_misfit, number_is as number_of, numbered_by}
pub use Rattle.rpl_verify.proofs.Common.{numbered_is, of_function, of_list, operand_count, operand_row, operands_behind, operated, operation}
pub use Rattle.rpl_verify.proofs.Common.{or_wrong, put_misfit, puts_of, refusal, misfit_refusal_of, rest_of, returned, room_on_top, row_in, rule_from}
pub use Rattle.rpl_verify.proofs.Common.{run}
pub use Rattle.rpl_verify.proofs.Common.{scope_of, step, step_at, step_by, step_in, store_row, taken, takes, then_do, truth_is as truth_of, turned}
pub use Rattle.rpl_verify.proofs.Common.{unless_there, verified, visiting, with_made, words_ahead, words_of_all, words_of_kind}
pub use Rattle.rpl_verify.proofs.KindFacts.{is_kind_refl, same_kind_refl, same_kinds_refl}
pub use Rattle.rpl_verify.specs.Budget.{IsWithinLimits, at_a_time, block_ruling, budget_by, entering, going_of, onward, part_of, ruling, summed}
pub use Rattle.rpl_verify.specs.Budget.{turning, within_limits, words_at, words_of_parameters}
pub use Rattle.rpl_verify.specs.Fits.{AreFit, Misplaced, Refusal, at_place, block_befores, count_alike, declared_at, each_block, element_on_top}
pub use Rattle.rpl_verify.specs.Fits.{if_fits, in_block, innermost, is_same_place, judged_at, landing, opened, refusal_in_result, restarted, shut}
pub use Rattle.rpl_verify.specs.Fits.{unless_misfit}
pub use Rattle.rpl_verify.specs.Machine.{are_declared, with_left}
pub use Rattle.rpl_verify.specs.Notes.{words_kept}
pub use Rattle.rpl_verify.specs.Places.{Bracket, Opener, Spot, bracket, closed, closing, declared_by, ends_before, level, loop_ends, openers_behind}
pub use Rattle.rpl_verify.specs.Places.{opening, spots, spots_from, start_of}
pub use Rattle.rpl_verify.specs.Table.{OperandRow, left_of, listed, on_top_of, widened_list}
pub use Rattle.rpl_verify.specs.Verified.{with_budgets}
pub use Rattle.rpl_verify.specs.declared.verify_kind.VerifyKind.{VerifyKind}
pub use Rattle.rpl_verify.specs.declared.verify_kind.VerifyKind.TheVariants.{BackwardJump, JumpOutside, LaterCall, MissingOperand, NotSettable}
pub use Rattle.rpl_verify.specs.declared.verify_kind.VerifyKind.TheVariants.{TargetStep, TooCostly as Costly, TooDeep, TooMany, TooManyPuts}
pub use Rattle.rpl_verify.specs.declared.verify_kind.VerifyKind.TheVariants.{TooManyReads, WrongOperand}
pub use Rattle.rpl_compile.specs.Budgets.{accepted_code, budgets_from, code_budgets_of}
pub use Rattle.rpl_compile.specs.Kinded.{AreArguments, AreBoth, AreComparable, AreKinded, AreKindedActs, AreKindedFrom, AreOfKind, CanAddKinds}
pub use Rattle.rpl_compile.specs.Kinded.{CanAppend, FitsIn, HasHead, HasName, IsAnyList, IsAsked, IsElement, IsKinded, IsKindedAct, IsKindedBody}
pub use Rattle.rpl_compile.specs.Kinded.{IsList, IsLiteral, IsTarget, IsWider, OneTakes, TwoTakes}
pub use Rattle.rpl_compile.specs.Operations.{choice_size, code_kind, code_kinds, convert_line, difference_line, factor_of, number_line, one_line}
pub use Rattle.rpl_compile.specs.Operations.{one_size, sum_line, target, test_line, two_lines, two_size, widening, widening_size}
pub use Rattle.rpl_compile.specs.Rooms.{AreRoomy, HasListRoom, HaveRoom}
pub use Rattle.rpl_compile.specs.Seen.{callee_or_none, callee_seen, callees_of, kind_seen, kinds_seen, scope_seen, written_of}
pub use Rattle.rpl_compile.specs.Site.{BoundName, Site, behind, behind_act, behind_acts, bound, keeping, kind_at, knowing, local_named, names_in, on}
pub use Rattle.rpl_compile.specs.Site.{over, parameters_from, start}
pub use Rattle.rpl_compile.specs.Size.{size, size_of_act, size_of_acts, sizes, sizes_of_arguments}
pub use Rattle.rpl_compile.specs.Translate.{Callee, act_code, acts_code, after_act, after_acts, after_room, after_tree, all_code, arguments_code}
pub use Rattle.rpl_compile.specs.Translate.{asked_code, blocks_from, call_by, call_line, callee_heads, choice_lines, code_of, function_block}
pub use Rattle.rpl_compile.specs.Translate.{kind_of_tree, one_lines, predefined_callees, room_lines, rule_block, translate}
pub use Rattle.rpl_compile.specs.Written.{Written, WrittenStep, at_line, begun, begun_function, byte, call_instruction, callee_named, compiled}
pub use Rattle.rpl_compile.specs.Written.{compiled_act, compiled_acts, compiled_all, compiled_arguments, first_ahead, kind_ahead, kind_of_two}
pub use Rattle.rpl_compile.specs.Written.{no_callee, number_in_units, outer, short, spelt_name, with_branch, with_end, with_kind, with_line}
pub use Rattle.rpl_compile.specs.Written.{with_local, with_operand, with_second, with_value_end, within, without_name, without_operands, written}
pub use Rattle.rpl_compile.specs.Written.{written_from, written_function, written_kind, written_parameters, written_rule, written_step, written_takes}
pub use Rattle.rpl_compile.specs.Written.{written_with_room, written_with_two}
