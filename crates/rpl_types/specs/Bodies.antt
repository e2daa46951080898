-- Within the crate: what is answered for a body: its own type beside those of all its nodes.
use Rattle.std.specs.Prelude.{Ok, Err}
use Rattle.rpl_tree.specs.declared.rpl_type.RplType.{RplType}
use Rattle.rpl_types.specs.Nodes.{Expression, Judged, Types, nodes}

abbrev pub own_and_nodes : Judged Expression → Judged (RplType × Types)
own_and_nodes (Ok e) = Ok (e.own, nodes e)
own_and_nodes (Err refused) = Err refused
