-- What a firing sees and tells.
use Rattle.std.specs.Prelude.{ℤ, List, map, Option, option_map}
use Rattle.rw_base.specs.declared.number.Cell.{Cell}
use Rattle.rw_firing.specs.Fire.{Fire}
use Rattle.rw_firing.specs.declared.look.Look.{Look}
use Rattle.rw_model.specs.declared.content.Content.{Content}
use Rattle.rw_series.specs.Series.{Series, held}
use Rattle.rpl_fires.specs.declared.fired.Fired.{Fired}

-- ---- what it sees

abbrev pub value_in_series : Series → Cell → Option ℤ
value_in_series series cell = option_map (λ (c : Content). c.value) (held series cell)

-- the looks at cells, with what these hold
abbrev pub look_at : (Cell → Option ℤ) → Cell → Look
look_at values cell = record { cell = cell; seen = values cell }

abbrev pub looks_by_values : (Cell → Option ℤ) → List Cell → List Look
looks_by_values values cells = map (look_at values) cells

-- ---- what it tells

-- where it was looked
abbrev pub look_cells : List Look → List Cell
look_cells looks = map (λ (look : Look). look.cell) looks

-- the firing that is told
abbrev pub fire_seen : Fired → Fire
fire_seen fired =
    record { end = fired.end; looked = look_cells fired.looked.now; puts = fired.puts.now; count = fired.count }
