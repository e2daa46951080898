-- Lines of a trace, texts that are kept for them, and values that are told in them.
use Rattle.rw_base.proofs.Common.{◌≡◌, ◌≤◌, ◌<◌, ◌+◌, ◌∙◌, ◌++◌, ◌∷◌, ℕ, zero, suc, Bool, true, false, List, [], Option, None, Some, String, ℤ}
use Rattle.rw_base.proofs.Common.{ap, append_assoc, arith, codes, drop, FitsSigned, length, length-append, nat_lt, nat_tests, none-some}
use Rattle.std.proofs.Common.{option_and_then, Result, Ok, Err, OnOk}
use Rattle.rw_base.proofs.Common.{refl, rules, same_Some, slice_get, slice_get_within, string_bytes, sym, w64}
use Rattle.std.specs.declared.alloc.Global.{Global}
use Rattle.rw_base.specs.declared.number.ObjectNo.{ObjectNo}
use Rattle.rw_base.specs.Quantity.{IsQuantity}
use Rattle.rw_base.proofs.Lists.{got_last}
use Rattle.rw_model.specs.Draft.{Draft}
use Rattle.rw_run.specs.declared.trace.TraceEvent.{TraceEvent}
use Rattle.rw_run.specs.declared.trace.TraceEvent.TheVariants.{Opened, Idle, Solve, Fire, Written, Closed, Fault}
use Rattle.rw_run.specs.declared.write.Write.{Write}
use Rattle.rw_run.specs.Trace.{dispatch_told, write_of}
use Rattle.rw_report.specs.Lines.{line_words, lines_words}
use Rattle.rw_report.specs.Pieces.{AreTexts, dispatch_line}
use Rattle.rw_report.proofs.Growing.{here}
use Rattle.rw_report.proofs.Keeping.{pushed_before}

-- one text more
pub texts_more : (words : ℕ → List ℕ) (texts : List (String Global)) (text : String Global) (before : ℕ)
    → length texts ≡ before → string_bytes text ≡ words (before + 1) → AreTexts words texts → AreTexts words (texts ++ text ∷ [])
texts_more words texts text before long is all place one there = by (nat_lt place before) refl
  where
    by : (less : Bool) → nat_lt place before ≡ less → string_bytes one ≡ words (place + 1)
    by true near =
        let less : place < before = grind (arith, nat_tests, near) in
        all place one (pushed_before texts place text one (omega (arith, less, long)) there)
    by false far =
        let most : before ≤ place = grind (arith, nat_tests, far) in
        let within = slice_get_within (texts ++ text ∷ []) place one there in
        let same : place ≡ length texts = omega (arith, most, long, within, length-append texts (text ∷ [])) in
        let last : text ≡ one = same_Some text one (sym (got_last texts text) ∙ ap (slice_get (texts ++ text ∷ [])) (sym same) ∙ there) in
        ap string_bytes (sym last) ∙ is ∙ ap (λ n. words (n + 1)) (sym long ∙ sym same)

-- a line that says to be written this is that of a put
pub put_at : (line : Option TraceEvent) (write : Write) → option_and_then write_of line ≡ Some write
    → line ≡ Some (Written write.cell.slot write.cell.step write.content)
put_at None write is = absurd (none-some write is)
put_at (Some (Written slot step content)) write is =
    ap (λ (told : Write). Some (Written told.cell.slot told.cell.step told.content)) (same_Some _ write is)
put_at (Some (Opened step)) write is = absurd (none-some write is)
put_at (Some (Idle object)) write is = absurd (none-some write is)
put_at (Some (Solve object)) write is = absurd (none-some write is)
put_at (Some (Fire rule done count)) write is = absurd (none-some write is)
put_at (Some (Closed step)) write is = absurd (none-some write is)
put_at (Some (Fault fault)) write is = absurd (none-some write is)

-- a line that tells of this dispatch is its line
pub dispatch_at : (line : Option TraceEvent) (object : ObjectNo) (put : Bool) → option_and_then dispatch_told line ≡ Some (object, put)
    → line ≡ Some (dispatch_line object put)
dispatch_at None object put is = absurd (none-some (object, put) is)
dispatch_at (Some (Idle told)) object put is =
    ap (λ (pair : ObjectNo × Bool). Some (dispatch_line pair.0 pair.1)) (same_Some (told, false) (object, put) is)
dispatch_at (Some (Solve told)) object put is =
    ap (λ (pair : ObjectNo × Bool). Some (dispatch_line pair.0 pair.1)) (same_Some (told, true) (object, put) is)
dispatch_at (Some (Opened step)) object put is = absurd (none-some (object, put) is)
dispatch_at (Some (Fire rule done count)) object put is = absurd (none-some (object, put) is)
dispatch_at (Some (Written slot step content)) object put is = absurd (none-some (object, put) is)
dispatch_at (Some (Closed step)) object put is = absurd (none-some (object, put) is)
dispatch_at (Some (Fault fault)) object put is = absurd (none-some (object, put) is)

-- what follows where a call came to its end
pub where_done : {A E P Q : Type 0} (result : Result A E) → (P → Q) → OnOk result P → OnOk result Q
where_done (Ok a) leads is = leads is
where_done (Err why) leads is = tt

-- a line that is told, in front of those that are left
pub line_told : (basin : Draft) (lines : List TraceEvent) (place : ℕ) (line : TraceEvent) (text new : List ℕ) → slice_get lines place ≡ Some line
    → new ≡ text ++ (line_words basin line ++ codes "\n")
    → new ++ lines_words basin (drop (place + 1) lines) ≡ text ++ lines_words basin (drop place lines)
line_told basin lines place line text new is told =
    let rest = lines_words basin (drop (place + 1) lines) in
    ap (λ t. t ++ rest) told ∙ append_assoc text (line_words basin line ++ codes "\n") rest
    ∙ ap (λ these. text ++ lines_words basin these) (sym (here lines place line is))

-- the line of a put, of its front and what follows
pub put_line : (text between indent name gap step value end new : List ℕ) → between ≡ text ++ (indent ++ (name ++ gap))
    → new ≡ between ++ (step ++ (gap ++ (value ++ end))) → new ≡ text ++ (((indent ++ (name ++ (gap ++ step))) ++ (gap ++ value)) ++ end)
put_line text between indent name gap step value end new front is =
    is ∙ ap (λ t. t ++ (step ++ (gap ++ (value ++ end)))) front ∙ joined text indent name gap step value end
  where
    joined : (text indent name gap step value end : List ℕ)
        → (text ++ (indent ++ (name ++ gap))) ++ (step ++ (gap ++ (value ++ end)))
        ≡ text ++ (((indent ++ (name ++ (gap ++ step))) ++ (gap ++ value)) ++ end)
    joined text indent name gap step value end = simp append_assoc refl

-- a quantity is a number of 64 bits
pub quantity_fits : (z : ℤ) → IsQuantity z → FitsSigned w64 z
quantity_fits z q = search (rules, q.low, q.high)
