use Rattle.rpl_verify.proofs.NameFacts.{IsLeft}
use Rattle.rpl_verify.proofs.names.find_object.Given as goal

abbrev pub invariant-loop-place : goal.invariant-loop-place
invariant-loop-place l = IsLeft l.basin.objects l.name l.place
