-- Agendas of two rules that were worked out by hand.
use Rattle.std.specs.Prelude.{ℤ, pos, List, [], ◌∷◌, Option, Some, None}
use Rattle.rw_model.specs.declared.control.AgendaOrder.{AgendaOrder}
use Rattle.rw_run.specs.Log.{Cells, input_content}
use Rattle.rw_agenda.specs.Agenda.{Agenda, Entry, unfired}

-- nothing is known, and every cell holds this value
abbrev pub none_known : Cells
none_known cell = None

abbrev pub all_hold : ℤ → Cells
all_hold value cell = Some (input_content value)

-- this was seen in one cell, with room for two looks
abbrev pub saw_one_cell : Option ℤ → Entry
saw_one_cell seen = record {
  room = 2;
  looked = Some (record { cell = record { slot = record { 0 = 1 }; step = record { 0 = 1 } }; seen = seen } ∷ []);
}

abbrev pub agenda_with : AgendaOrder → List Entry → Agenda
agenda_with order rules = record { order = order; rules = rules; marks = [] }

abbrev pub none_fired : AgendaOrder → Agenda
none_fired order = agenda_with order (unfired 2 ∷ unfired 2 ∷ [])

-- the second fired, and looked at a cell that was unknown
abbrev pub after_two : AgendaOrder → Agenda
after_two order = agenda_with order (unfired 2 ∷ saw_one_cell None ∷ [])

-- both fired, and saw 5
abbrev pub both_saw_five : AgendaOrder → Agenda
both_saw_five order = agenda_with order (saw_one_cell (Some (pos 5)) ∷ saw_one_cell (Some (pos 5)) ∷ [])
