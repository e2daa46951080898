use Rattle.std.proofs.Common.{rules, arith, map}
use Rattle.rpl_tree.specs.Seen.{tree_of, type_of, parameter_of}
use Rattle.rpl_parse.specs.Tokens.{toks, bytes_in}
use Rattle.rpl_parse.specs.ReadingDeclared.{typed}
use Rattle.rpl_parse.proofs.Both.{function_over}
use Rattle.rpl_parse.proofs.declaration.function_body.Goals as goal

pub returns-in_default-rest : goal.returns-in_default-rest
returns-in_default-rest c =
    let source = c.args.text.now in
    function_over source (bytes_in source c.args.named) (map parameter_of c.args.params.items) (toks source c.args.tokens.now)
    (toks source c.in-Some.rest.now) (toks source c.in-Some-behind.rest.now)
    (typed (type_of c.in_ok-result.result) (toks source c.in_ok-result.rest.now)) (tree_of c.in_ok-body.body) c.in_ok-body._deep c.in_ok-body.rest.now
    (rw c.in-Some.is at c.behind.ensures) c.in_ok-result.ensures (rw c.in-Some-behind.is at c.behind-2.ensures) c.in_ok-body.ensures.0
    (search (rules, arith))
