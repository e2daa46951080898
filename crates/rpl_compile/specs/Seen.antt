-- Within the crate: what the crate's own types hold, as the definitions see it.
use Rattle.std.specs.Prelude.{ℕ, List, map, Option, None, Some, reverse}
use Rattle.rpl_code.specs.declared.kind.ValueKind.{ValueKind}
use Rattle.rpl_code.specs.declared.kind.ValueKind.TheVariants as K
use Rattle.rpl_tree.specs.Value.{Kind, number_kind, truth_kind, date_kind, slot_kind, numbers_kind, slots_kind}
use Rattle.rpl_compile.specs.declared.known.Known.{Known}
use Rattle.rpl_compile.specs.declared.writing.Local.{Local}
use Rattle.rpl_compile.specs.declared.writing.Writing.{Writing}
use Rattle.rpl_compile.specs.Site.{BoundName, bound}
use Rattle.rpl_compile.specs.Translate.{Callee}
use Rattle.rpl_compile.specs.Written.{Written, no_callee, written}

abbrev pub kind_seen : ValueKind → Kind
kind_seen K.N = number_kind
kind_seen K.B = truth_kind
kind_seen K.D = date_kind
kind_seen K.S = slot_kind
kind_seen (K.NList m) = numbers_kind m
kind_seen (K.SList m) = slots_kind m

abbrev pub kinds_seen : List ValueKind → List Kind
kinds_seen kinds = map kind_seen kinds

abbrev pub bound_seen : List ℕ × Local → BoundName
bound_seen entry = bound entry.0 (kind_seen entry.1.kind) entry.1.number

abbrev pub scope_seen : List (List ℕ × Local) → List BoundName
scope_seen names = map bound_seen names

abbrev pub written_of : Writing → Written
written_of w = written (scope_seen w.names) w.locals.items w.below.items w.lines.items

abbrev pub callee_seen : Known → Callee
callee_seen f = record {
  head = record { name = f.name.items; takes = kinds_seen f.takes.items; result = kind_seen f.result };
  block = f.block;
}

abbrev pub callee_or_none : Option Known → Callee
callee_or_none None = no_callee
callee_or_none (Some f) = callee_seen f

-- the function that was declared last stands last
abbrev pub callees_of : List Known → List Callee
callees_of known = reverse (map callee_seen known)
