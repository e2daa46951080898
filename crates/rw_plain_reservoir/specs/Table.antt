-- The text of a run: a heading, the columns, and a row for each closed timestep.
use Rattle.std.specs.Prelude.{◌≡◌, ℕ, zero, suc, ◌+◌, ℤ, pos, List, [], ◌++◌, Option, None, Some, codes}
use Rattle.std.specs.List.{slice_index_or}
use Rattle.std.specs.Fmt.{decimal, signed_decimal}
use Rattle.rw_calendar.specs.Stamps.{end_of_step, stamp_text}
use Rattle.rw_plain_reservoir.specs.FirstForm.{FirstModel}
use Rattle.rw_plain_reservoir.specs.Reservoir.{IsReservoirRun, storage_at}

-- the first line: how the run ended
abbrev pub heading_line : List ℕ → ℕ → Option ℤ → List ℕ
heading_line name closed None = codes "# batch 0 settled\n"
heading_line name closed (Some value) =
    codes "# batch 0 fault out of range object " ++ (name ++ (codes " slot " ++ (name ++ (codes ".Storage step "
    ++ (decimal (closed + 1) ++ (codes " value " ++ (signed_decimal value ++ codes "\n")))))))

-- the second line
abbrev pub columns_line : List ℕ → List ℕ
columns_line name =
    codes "step,stamp," ++ (name ++ (codes ".Inflow," ++ (name ++ (codes ".Outflow," ++ (name ++ codes ".Storage\n")))))

-- the line of a timestep
abbrev pub table_row : ℕ → List ℕ → ℤ → ℤ → ℤ → List ℕ
table_row step stamp inflow outflow storage =
    decimal step ++ (codes "," ++ (stamp ++ (codes "," ++ (signed_decimal inflow ++ (codes ","
    ++ (signed_decimal outflow ++ (codes "," ++ (signed_decimal storage ++ codes "\n"))))))))

-- the lines of the first timesteps
abbrev pub table_rows : FirstModel → List ℤ → List ℤ → ℕ → List ℕ
table_rows model inflows outflows zero = []
table_rows model inflows outflows (suc t) =
    table_rows model inflows outflows t
    ++ table_row (suc t) (stamp_text (end_of_step model.run (suc t))) (slice_index_or inflows t (pos 0)) (slice_index_or outflows t (pos 0))
    (storage_at model.initial inflows outflows (suc t))

-- the text of the run of this model with these flows, which ends in this fault or settles
pub record IsFirstText (model : FirstModel) (inflows outflows : List ℤ) (fault : Option ℤ) (text : List ℕ) : Type 0 where
  pub closed : ℕ
  pub run : IsReservoirRun model.run.count model.initial inflows outflows closed fault
  pub text_is : text ≡ (heading_line model.name closed fault ++ columns_line model.name) ++ table_rows model inflows outflows closed
