-- Within the crate: what the code's refusals tell, and what is known on the way over a declaration.
use Rattle.std.specs.Prelude.{Option, Some, None}
use Rattle.rpl_types.specs.declared.stop.Stop.{Stop}
use Rattle.rpl_types.specs.declared.stop.Stop.TheVariants.{Refused, NoMemory}
use Rattle.rpl_types.specs.declared.progress.Progress as Held
use Rattle.rpl_types.specs.Nodes.{NodeRefusal}
use Rattle.rpl_types.specs.Visited.{Progress}

abbrev pub stop_refusal : Stop → Option NodeRefusal
stop_refusal (Refused kind node) = Some (record { kind = kind; node = node })
stop_refusal NoMemory = None

abbrev pub progress_of : Held.Progress → Progress
progress_of p = record { scope = p.scope; types = p.types.items }
