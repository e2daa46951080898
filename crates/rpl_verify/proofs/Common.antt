-- The names that proofs cite, passed on from one place. Declares nothing.
pub use Rattle.rpl_verify.proofs.Accepted.{accepted_befores, covered, earlier, exact, fits, numbered_by, numbered_is, rule_there, ruled}
pub use Rattle.rpl_verify.proofs.Acting.{fits_behind, good_branch, good_enter, good_jump, good_next, good_put, good_target, good_yield, names_there}
pub use Rattle.rpl_verify.proofs.Acting.{on_top, row_takes}
pub use Rattle.rpl_verify.proofs.Costs.{costs_ahead, words_ahead}
pub use Rattle.rpl_verify.proofs.Frames.{Acted, ActedOn, AreRunning, FrameFits, IsRunning, elements_are}
pub use Rattle.rpl_verify.proofs.Judged.{Opens, closes_by, opens_by, same_loop_true, taken_is, taken_ok}
pub use Rattle.rpl_verify.proofs.KindFacts.{AreRoomy, IsRoomy, and_true, date_is, is_kind_true, kinds_append, kinds_blank, kinds_get, kinds_length}
pub use Rattle.rpl_verify.proofs.KindFacts.{kinds_take, number_is, roomy_blank, roomy_get, roomy_take, same_kind_true, slot_is, then_do_ok, truth_is}
pub use Rattle.rpl_verify.proofs.Loops.{Opened, opened, shut_at}
pub use Rattle.rpl_verify.proofs.Operated.{AreAll, IsOperation}
pub use Rattle.rpl_verify.proofs.Running.{count_left, looks_left, puts_left, words_reached, state_words}
pub use Rattle.rpl_verify.proofs.States.{GoodOn, StateFits, Waiting, acts, begun, block_at, block_or, frame_fits, good_step}
pub use Rattle.rpl_verify.proofs.Stepping.{IsCall, end_of_list}
pub use Rattle.rpl_verify.proofs.VerifiedFacts.{answered, answered_resolved, few, rules_and_functions}
pub use Rattle.rpl_verify.specs.Budget.{AreAccepted, count_of, first_before, looks_of, puts_of, words_of_kind, words_of_loop}
pub use Rattle.rpl_verify.specs.Fits.{Before, Open, before, before_at, befores, behind_instruction, carried, end_kinds, found, heads_of, is_alike}
pub use Rattle.rpl_verify.specs.Fits.{locals_of, parameters_of, refusal, room_on_top, scope_of, taken, then_do}
pub use Rattle.rpl_verify.specs.Kinds.{are_same_kinds, element_kind, is_that_kind, is_same_value_kind, list_value_kind, list_room, words_of_all}
pub use Rattle.rpl_verify.specs.Machine.{Frame, Running, State, act, at_place, begin, behind_loop, branched, entered, fire_of_code, fired}
pub use Rattle.rpl_verify.specs.Machine.{first_frame, handed_back, in_loop, invoked, jumped, loaded, met, most_steps, onward, operated, put_by_frame}
pub use Rattle.rpl_verify.specs.Machine.{returned, row_in, rule_from, run, step, step_at, step_by, step_in, stored, turned, with_made, words_in}
pub use Rattle.rpl_verify.specs.Machine.{words_of_running, yielded}
pub use Rattle.rpl_verify.specs.Names.{Scope, call_misfit, name_misfit, put_misfit, unless_there}
pub use Rattle.rpl_verify.specs.Operations.{blank, kind_of, kinds_of, of_function, of_one, of_two, operation, widen_of}
pub use Rattle.rpl_verify.specs.Places.{Loop, is_same_loop, loop_end, mapping, rest_of, visiting}
pub use Rattle.rpl_verify.specs.Resolved.{call_of, counted, if_fit, invoke_of, object_or_none, offset, resolve, resolved, resolved_at, resolved_block}
pub use Rattle.rpl_verify.specs.Resolved.{resolved_code, resolved_from, resolved_in, slot_or_first, slot_word, truth_word}
pub use Rattle.rpl_verify.specs.Safety.{next_instruction}
pub use Rattle.rpl_verify.specs.Table.{appended, call_row, function_named, goes_by, invoke_row, lacks, load_row, of_list, operand_count}
pub use Rattle.rpl_verify.specs.Table.{operands_behind, or_wrong, element_picked, operand_row, store_row, takes}
pub use Rattle.rpl_verify.specs.Verified.{Accepted, function_head, misfit_refusal_of, verified}
