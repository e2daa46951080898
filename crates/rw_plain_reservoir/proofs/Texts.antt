-- The text of the run of a plain reservoir.
use Rattle.rw_plain_reservoir.proofs.Common.{List, None, Option, Some, [], ap, append_assoc, ap₂, arith, codes, columns_line, decimal, decimal_digit}
use Rattle.rw_plain_reservoir.proofs.Common.{heading_line, refl, table_row, table_rows, signed_decimal, suc, suc-eq-add-one, sym, zero, ℕ, ℤ, ◌++◌}
use Rattle.rw_plain_reservoir.proofs.Common.{◌+◌, ◌<◌, ◌∙◌, ◌∷◌, ◌≡◌, ◌≤◌}
use Rattle.rw_calendar.specs.Stamps.{end_of_step, stamp_text}
use Rattle.rw_run.specs.Log.{Cells}
use Rattle.rw_report.specs.Section.{heading as heading_of, columns as columns_of, row as row_of, rows as rows_of, value_words, section_of, values_in}
use Rattle.rw_plain_reservoir.proofs.Alone.{Case, HasValues, basin_of, inflow_at, model_of, outflow_at, storage_of}
use Rattle.rw_plain_reservoir.proofs.Steps.{run_end}

list_fault : (hash nought space fault out object name slot storage step number value quantity end : List ℕ)
    → hash ++ (nought ++ (space ++ ((fault ++ ((out ++ (object ++ (name ++ (slot ++ ((name ++ storage) ++ (step ++ number))))))
    ++ (value ++ quantity))) ++ end)))
    ≡ hash ++ (nought ++ (space ++ (fault ++ (out
    ++ (object ++ (name ++ (slot ++ (name ++ (storage ++ (step ++ (number ++ (value ++ (quantity ++ end)))))))))))))
list_fault hash nought space fault out object name slot storage step number value quantity end = simp append_assoc refl

list_columns : (head comma name inflow outflow storage end : List ℕ)
    → head ++ ((((comma ++ (name ++ inflow)) ++ (comma ++ (name ++ outflow))) ++ (comma ++ (name ++ storage))) ++ end)
    ≡ head ++ (comma ++ (name ++ (inflow ++ (comma ++ (name ++ (outflow ++ (comma ++ (name ++ (storage ++ end)))))))))
list_columns head comma name inflow outflow storage end = simp append_assoc refl

list_row : (step comma stamp inflow outflow storage end : List ℕ)
    → (step ++ (comma ++ stamp)) ++ ((((comma ++ inflow) ++ (comma ++ outflow)) ++ (comma ++ storage)) ++ end)
    ≡ step ++ (comma ++ (stamp ++ (comma ++ (inflow ++ (comma ++ (outflow ++ (comma ++ (storage ++ end))))))))
list_row step comma stamp inflow outflow storage end = simp append_assoc refl

zero_written : decimal 0 ≡ 48 ∷ []
zero_written = decimal_digit 0 (omega arith)

same_heading : (s : Case) (closed : ℕ) (fault : Option ℤ) → heading_of (basin_of s) 0 (run_end closed fault) ≡ heading_line s.name closed fault
same_heading s closed None = ap (λ d. codes "# batch " ++ (d ++ codes " settled\n")) zero_written
same_heading s closed (Some value) =
    list_fault (codes "# batch ") (decimal 0) (codes " ") (codes "fault ") (codes "out of range") (codes " object ") s.name (codes " slot ")
    (codes ".Storage") (codes " step ")
    (decimal (closed + 1)) (codes " value ") (signed_decimal value) (codes "\n")
    ∙ ap (λ d. codes "# batch " ++ (d ++ (codes " fault out of range object " ++ (s.name ++ (codes " slot " ++ (s.name ++ (codes ".Storage step "
    ++ (decimal (closed + 1) ++ (codes " value " ++ (signed_decimal value ++ codes "\n")))))))))) zero_written

same_columns : (s : Case) → columns_of (basin_of s) ≡ columns_line s.name
same_columns s = list_columns (codes "step,stamp") (codes ",") s.name (codes ".Inflow") (codes ".Outflow") (codes ".Storage") (codes "\n")

abbrev line : ℕ → List ℕ → Option ℤ → Option ℤ → Option ℤ → List ℕ
line step stamp inflow outflow storage =
    decimal step ++ (codes "," ++ (stamp ++ (codes ","
    ++ (value_words inflow ++ (codes "," ++ (value_words outflow ++ (codes "," ++ (value_words storage ++ codes "\n"))))))))

same_row : (s : Case) (values : ℕ → ℕ → Option ℤ) (step : ℕ) (inflow outflow storage : ℤ)
    → values 1 step ≡ Some inflow → values 2 step ≡ Some outflow → values 3 step ≡ Some storage
    → row_of (basin_of s) values step ≡ table_row step (stamp_text (end_of_step s.control.stamps step)) inflow outflow storage
same_row s values step inflow outflow storage is_inflow is_outflow is_storage =
    let stamp = stamp_text (end_of_step s.control.stamps step) in
    list_row (decimal step) (codes ",") stamp (value_words (values 1 step)) (value_words (values 2 step)) (value_words (values 3 step)) (codes "\n")
    ∙ ap (λ v. line step stamp v (values 2 step) (values 3 step)) is_inflow
    ∙ ap (λ v. line step stamp (Some inflow) v (values 3 step)) is_outflow
    ∙ ap (line step stamp (Some inflow) (Some outflow)) is_storage

same_rows : (s : Case) (cells : Cells) (closed all : ℕ) → HasValues s cells all → closed ≤ all
    → rows_of (basin_of s) (values_in cells) closed ≡ table_rows (model_of s) s.inflows s.outflows closed
same_rows s cells zero all h le = refl
same_rows s cells (suc t) all h le =
    let more : suc t ≡ t + 1 = suc-eq-add-one t in
    let lt : t < all = omega (arith, le) in
    let values = values_in cells in
    ap₂ (λ a b. a ++ b) (same_rows s cells t all h (omega (arith, le)))
    (same_row s values (suc t) (inflow_at s t) (outflow_at s t) (storage_of s (suc t)) (ap (values 1) more ∙ h.inflow t lt)
    (ap (values 2) more ∙ h.outflow t lt) (ap (values 3) more ∙ h.storage t lt ∙ ap (λ n. Some (storage_of s n)) (sym more)))

-- the whole section
pub same-text : (s : Case) (cells : Cells) (steps : ℕ) (fault : Option ℤ) → HasValues s cells steps
    → section_of (basin_of s) 0 (run_end steps fault) steps (values_in cells)
    ≡ (heading_line s.name steps fault ++ columns_line s.name) ++ table_rows (model_of s) s.inflows s.outflows steps
same-text s cells steps fault h =
    ap (λ x. x ++ (columns_of (basin_of s) ++ rows_of (basin_of s) (values_in cells) steps)) (same_heading s steps fault)
    ∙ ap (λ x. heading_line s.name steps fault ++ (x ++ rows_of (basin_of s) (values_in cells) steps)) (same_columns s)
    ∙ ap (λ x. heading_line s.name steps fault ++ (columns_line s.name ++ x)) (same_rows s cells steps steps h (omega arith))
    ∙ sym (append_assoc (heading_line s.name steps fault) (columns_line s.name) (table_rows (model_of s) s.inflows s.outflows steps))
