-- The names that proofs cite, passed on from one place. Declares nothing.
pub use Rattle.rpl_tree.proofs.Viewed.{tree_of_call}
pub use Rattle.rpl_tree.specs.Budget.{Budget, budget, budget_of, capped, limits}
pub use Rattle.rpl_tree.specs.Cost.{Costed, Price, costed_heads, costs, costs_from, most, most_arguments, most_named, most_of, most_of_act}
pub use Rattle.rpl_tree.specs.Cost.{most_of_acts, most_of_body, param_names, price_of_looks, price_of_puts, price_of_steps, to_widen}
pub use Rattle.rpl_tree.specs.Count.{act_nodes, acts_nodes, node_count, node_counts, nodes_of}
pub use Rattle.rpl_tree.specs.Kinds.{Head, Names, count_of, first_kind, kind_named, kind_of_type, result_named, takes_named, tree_kind, two_kind}
pub use Rattle.rpl_tree.specs.Locals.{act_local_kinds, acts_local_kinds, all_local_kinds, local_kinds}
pub use Rattle.rpl_tree.specs.Mean.{Function, fire_of, param_kinds, predefined, predefined_answer, predefined_functions, with_elements}
pub use Rattle.rpl_tree.specs.Operators.{all_numbers, all_slot_values, append_of, at_most_of, compared, difference_of, elements_of, equal_of, exactly}
pub use Rattle.rpl_tree.specs.Operators.{in_place, is_quantity, item_of, item_or_end, length_of, less_of, list_of, negative_of, not_of, product_of}
pub use Rattle.rpl_tree.specs.Operators.{quotient_of, sum_of}
pub use Rattle.rpl_tree.specs.Outcome.{Answer, Outcome, Trail, after, ended, ends, gives, goes_on, is_stuck, joined, looking, spent, stuck, value}
pub use Rattle.rpl_tree.specs.Outcome.{◌>>=◌}
pub use Rattle.rpl_tree.specs.Seen.{act_of, acts_in, acts_of, parameter_of, rules_of, tree_of, trees_in}
pub use Rattle.rpl_tree.specs.Tree.{Act, Acts, Declared, Parameter, Tree, Trees, TypeName, act, assign, at, bind, brackets, branch, call, choice}
pub use Rattle.rpl_tree.specs.Tree.{convert, each, function, list, literal, mapped, name, no_acts, no_trees, now, one, rule, slot, tree, truth, two}
pub use Rattle.rpl_tree.specs.Tree.{with_name}
pub use Rattle.rpl_tree.specs.Value.{Kind, Value, a_date, a_number, a_slot, a_truth, element_of, is_same_kind, number_kind, numbers, numbers_kind}
pub use Rattle.rpl_tree.specs.Value.{room_of, slots, weight, weights}
pub use Rattle.rpl_tree.specs.Words.{height, height_of_act, height_of_acts, height_of_all, height_of_arguments, words_of_rules, words_from}
pub use Rattle.rpl_tree.specs.World.{World, bounds_at, can_set, cell_of, cells_at, convert_of, converted, date_part, is_step, is_within, known_of}
pub use Rattle.rpl_tree.specs.World.{known_or_end, put_of, read_of, said_or_end, slot_or_stuck, table_in, table_named, value_found, within_or_end}
