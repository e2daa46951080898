-- Within the crate: what a call of the judge answers on its way over a tree.
use Rattle.std.specs.Prelude.{ℕ, Option, [], Result}
use Rattle.std.specs.declared.vec.Vec.{Vec}
use Rattle.std.specs.declared.alloc.Global.{Global}
use Rattle.rw_base.specs.Answers.{Answers}
use Rattle.rpl_tree.specs.Tree.{Tree, Trees, Act, Acts}
use Rattle.rpl_tree.specs.declared.rpl_type.RplType.{RplType}
use Rattle.rpl_types.specs.declared.type_kind.TypeKind.{TypeKind}
use Rattle.rpl_types.specs.declared.known.Known.{Known}
use Rattle.rpl_types.specs.declared.progress.Progress as Held
use Rattle.rpl_types.specs.declared.stop.Stop.{Stop}
use Rattle.rpl_types.specs.declared.stop.Stop.TheVariants.{NoMemory}
use Rattle.rpl_types.specs.Functions.{Callable}
use Rattle.rpl_types.specs.Nodes.{Judged}
use Rattle.rpl_types.specs.Seen.{callable_of}
use Rattle.rpl_types.specs.Stopped.{progress_of, stop_refusal}
use Rattle.rpl_types.specs.Visited.{Progress, RowVisit, Visit, row_visit, stands, visit, visited, visited_act, visited_acts, visited_all}

-- a call that answers a type and leaves that progress answers what the definition gives, unless memory ran out
abbrev pub GivesVisit : Held.Progress → Result RplType Stop → Judged Visit → Type 0
GivesVisit left result given = Answers NoMemory stop_refusal (λ own. visit own (progress_of left)) result given

abbrev pub GivesRow : Held.Progress → Result (Vec RplType Global) Stop → Judged RowVisit → Type 0
GivesRow left result given = Answers NoMemory stop_refusal (λ types. row_visit types.items (progress_of left)) result given

abbrev pub callable_in : Known → Callable
callable_in known = callable_of known.earlier.now known.later.now

-- the same of the way over a tree that begins with that progress
abbrev pub Visits : Known → Held.Progress → Held.Progress → Result RplType Stop → Tree → Type 0
Visits known begun left result t = GivesVisit left result (visited known.basin.now (callable_in known) (progress_of begun) t)

abbrev pub VisitsAll : Known → Held.Progress → Held.Progress → Result (Vec RplType Global) Stop → Trees → Type 0
VisitsAll known begun left result ts =
    GivesRow left result (visited_all known.basin.now (callable_in known) [] (progress_of begun) ts)

-- a call that only leaves that progress
abbrev pub LeavesProgress : Held.Progress → Result (Unit {0}) Stop → Judged Progress → Type 0
LeavesProgress left result given = Answers NoMemory stop_refusal (λ _. progress_of left) result given

abbrev pub VisitsAct : Known → Held.Progress → Held.Progress → Result (Unit {0}) Stop → Act → Type 0
VisitsAct known begun left result a = LeavesProgress left result (visited_act known.basin.now (callable_in known) (progress_of begun) a)

abbrev pub VisitsActs : Known → Held.Progress → Held.Progress → Result (Unit {0}) Stop → Acts → Type 0
VisitsActs known begun left result ss = LeavesProgress left result (visited_acts known.basin.now (callable_in known) (progress_of begun) ss)

-- whether the statement stands, whatever is known then
abbrev pub Stands : ℕ → Result (Unit {0}) Stop → Option TypeKind → Type 0
Stands node result found = (p : Progress) → Answers NoMemory stop_refusal (λ _. p) result (stands node p found)
