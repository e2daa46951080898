-- Traces that are kept or aren't, and the lines that are told to them.
use Rattle.rw_engine.proofs.Common.{Bool, Event, TraceGrows, List, None, Option, Some, [], ap, append-nil, append_assoc, false, if◌then◌else◌, length}
use Rattle.rw_engine.proofs.Common.{lines, none-some, refl, subst, sym, take, true, ℕ, ◌++◌, ◌∙◌, ◌∷◌, ◌≡◌}
use Rattle.std.specs.Prelude.{Err, IfErr, IfOk, IfSome, IsErrAnd, IsSome, Ok, Result, is_some, option_map}
use Rattle.std.proofs.lemmas.Grind.{flat_map-append}
use Rattle.std.proofs.Math.Seq.{take-append_seam}
use Rattle.rw_base.specs.declared.memory.NoMemory.{NoMemory}
use Rattle.rw_run.specs.declared.held.Held.{Held}
use Rattle.rw_run.specs.declared.trace.TraceEvent.{TraceEvent}
use Rattle.rw_run.specs.Log.{opened}
use Rattle.rw_run.specs.Trace.{lines_in, told}
use Rattle.rw_engine.specs.Lines.{TellsBoth}
use Rattle.rw_engine.specs.Records.{lines_of_step}
use Rattle.rw_engine.specs.Shows.{NotesAlike}

pub told_more : (trace : Option (List TraceEvent)) (one other : List TraceEvent) → told (told trace one) other ≡ told trace (one ++ other)
told_more None one other = refl
told_more (Some lines) one other = ap Some (append_assoc lines one other)

pub told_none : (trace : Option (List TraceEvent)) → told trace [] ≡ trace
told_none None = refl
told_none (Some lines) = ap Some (append-nil lines)

-- what a trace shows, with more lines
pub shown_more : (old new : Option (List TraceEvent)) (shown more : List TraceEvent) → new ≡ told old more
    → IfSome old (λ lines. lines ≡ shown) → IfSome new (λ lines. lines ≡ shown ++ more)
shown_more old new shown more is shows = subst (λ t. IfSome t (λ lines. lines ≡ shown ++ more)) (sym is) (by old shows)
  where
    by : (t : Option (List TraceEvent)) → IfSome t (λ lines. lines ≡ shown) → IfSome (told t more) (λ lines. lines ≡ shown ++ more)
    by None is = tt
    by (Some lines) is = ap (λ xs. xs ++ more) is

-- a new trace shows nothing
pub shows_nothing : (trace : Option (List TraceEvent)) (shown : List TraceEvent) → shown ≡ [] → IfSome trace (λ lines. lines ≡ [])
    → IfSome trace (λ lines. lines ≡ shown)
shows_nothing trace shown none fresh = subst (λ s. IfSome trace (λ lines. lines ≡ s)) (sym none) fresh

-- the lines that were there before
pub shortened : (old new : Option (List TraceEvent)) → TraceGrows old new → option_map (take (length (lines_in old))) new ≡ old
shortened old new grows = ap (option_map (take (length (lines_in old)))) grows.1 ∙ by old grows.0
  where
    by : (t : Option (List TraceEvent)) (more : List TraceEvent) → option_map (take (length (lines_in t))) (told t more) ≡ t
    by None more = refl
    by (Some lines) more = ap Some (take-append_seam lines more)

-- a trace is kept, or isn't, whatever is told
pub grows_some : (old new : Option (List TraceEvent)) → TraceGrows old new → is_some new ≡ is_some old
grows_some old new grows = ap is_some grows.1 ∙ by old
  where
    by : (trace : Option (List TraceEvent)) → is_some (told trace grows.0) ≡ is_some trace
    by None = refl
    by (Some lines) = refl

-- a line more, or lines more
pub told_on : (first old new : Option (List TraceEvent)) (one more all : List TraceEvent) → new ≡ told old more → old ≡ told first one
    → one ++ more ≡ all
    → new ≡ told first all
told_on first old new one more all is was same = is ∙ ap (λ t. told t more) was ∙ told_more first one more ∙ ap (told first) same

pub grows_on : (first old new : Option (List TraceEvent)) (more : List TraceEvent) → new ≡ told old more → TraceGrows first old → TraceGrows first new
grows_on first old new more is grows = (grows.0 ++ more, is ∙ ap (λ t. told t more) grows.1 ∙ told_more first grows.0 more)

pub none_kept : (trace : Option (List TraceEvent)) → trace ≡ None → IsSome trace → ⊥
none_kept None is kept = absurd (cc)
none_kept (Some lines) is kept = absurd (none-some _ (sym is))

-- a trace that is kept where it is asked for
pub kept_where : (trace : Option (List TraceEvent)) (kept : Bool) → trace ≡ (if kept then Some [] else None) → is_some trace ≡ kept
kept_where trace true is = ap is_some is
kept_where trace false is = ap is_some is

pub fresh_where : (trace : Option (List TraceEvent)) (kept : Bool) → trace ≡ (if kept then Some [] else None) → IfSome trace (λ lines. lines ≡ [])
fresh_where trace true is = rw is refl
fresh_where trace false is = rw is tt

-- of lines that were added, or weren't for want of memory
pub kept_told : {A E : Type 0} (result : Result A E) (old new : Option (List TraceEvent)) (more : List TraceEvent)
    → IfOk result (λ done. new ≡ told old more)
    → IfErr result (λ want. new ≡ old) → is_some new ≡ is_some old
kept_told (Ok done) old new more is same = grows_some old new (more, is)
kept_told (Err want) old new more is same = ap is_some same

pub grows_told : {A E : Type 0} (result : Result A E) (old new : Option (List TraceEvent)) (more : List TraceEvent)
    → IfOk result (λ done. new ≡ told old more)
    → IfErr result (λ want. new ≡ old) → TraceGrows old new
grows_told (Ok done) old new more is same = (more, is)
grows_told (Err want) old new more is same = ([], same ∙ sym (told_none old))

-- ---- lines told to both

-- to the lines of the timestep, and then to the trace
pub told_both : (more : List TraceEvent) (trace lines new_trace new_lines : Option (List TraceEvent)) (result : Result (Unit {0}) NoMemory)
    → IfOk result (λ done. new_trace ≡ told trace more) → new_lines ≡ told lines more → TraceGrows trace new_trace → (IsSome trace → IsSome lines)
    → IfErr result (λ fault. IsSome trace) → TellsBoth more trace lines new_trace new_lines result
told_both more trace lines new_trace new_lines (Ok done) is noted grows both wants =
    record { said = is; noted = noted; grows = grows; adds = (more, noted); wants = tt }
told_both more trace lines new_trace new_lines (Err want) is noted grows both wants =
    record { said = tt; noted = tt; grows = grows; adds = (more, noted); wants = both wants }

-- memory wants for it
pub tells_wanted : (more : List TraceEvent) (trace lines new_trace new_lines : Option (List TraceEvent)) (result : Result (Unit {0}) NoMemory)
    (why : NoMemory)
    → IsErrAnd result (λ fault. fault ≡ why) → TraceGrows trace new_trace → TraceGrows lines new_lines → IsSome lines
    → TellsBoth more trace lines new_trace new_lines result
tells_wanted more trace lines new_trace new_lines (Ok done) why is grows adds kept = absurd is
tells_wanted more trace lines new_trace new_lines (Err want) why is grows adds kept =
    record { said = tt; noted = tt; grows = grows; adds = adds; wants = kept }

-- ---- the lines of a timestep

pub short_some : (trace : Option (List TraceEvent)) (count : ℕ) → is_some (option_map (take count) trace) ≡ is_some trace
short_some None count = refl
short_some (Some lines) count = refl

pub emptied : (trace : Option (List TraceEvent)) → IfSome (option_map (take 0) trace) (λ (lines : List TraceEvent). lines ≡ [])
emptied None = tt
emptied (Some lines) = refl

-- what is kept is kept still
pub alike_on : (noted more : Option (List Held)) (old new trace next : Option (List TraceEvent)) → is_some more ≡ is_some noted
    → is_some new ≡ is_some old
    → is_some next ≡ is_some trace → NotesAlike noted old trace → NotesAlike more new next
alike_on noted more old new trace next notes adds tells alike = record {
  same = adds ∙ alike.same ∙ sym notes;
  traced = λ kept. notes ∙ alike.traced (sym tells ∙ kept);
}

pub alike_told : (noted : Option (List Held)) (old new trace next : Option (List TraceEvent)) → TraceGrows old new → TraceGrows trace next
    → NotesAlike noted old trace
    → NotesAlike noted new next
alike_told noted old new trace next adds grows alike =
    alike_on noted noted old new trace next refl (grows_some old new adds) (grows_some trace next grows) alike

-- an event more
pub lines_more : (step : ℕ) (events : List Event) (event : Event) (old new : Option (List TraceEvent)) → new ≡ told old (lines event)
    → IfSome old (λ these. these ≡ lines_of_step step events) → IfSome new (λ these. these ≡ lines_of_step step (events ++ event ∷ []))
lines_more step events event old new is shows =
    subst (λ all. IfSome new (λ these. these ≡ all))
    (sym (flat_map-append lines (opened step ∷ events) (event ∷ []) ∙ ap (λ last. lines_of_step step events ++ last) (append-nil (lines event))))
    (shown_more old new (lines_of_step step events) (lines event) is shows)
