use Rattle.std.proofs.Common.{◌≡◌, [], ◌∷◌, codes, rules}
use Rattle.rpl_tree.specs.Worked.{n_name}
use Rattle.rpl_tree.proofs.Viewed.{call_of_one}
use Rattle.rpl_tree.proofs.worked.ahead_call.Goals as goal

pub returns : goal.returns
returns c =
    let holds : c.push.new.self.items ≡ c.in_ok-variable.field-0 ∷ [] = search rules in
    call_of_one c.in_ok-name.name c.push.new.self c.in_ok-variable.field-0 (codes "Ahead") n_name c.in_ok-name.ensures holds c.in_ok-variable.ensures
