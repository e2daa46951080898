use Rattle.std.proofs.lemmas.List.{map_more}
use Rattle.rw_engine.proofs.Common.{ap, line_of, map, sym, take, ◌∙◌, [], ◌+◌, ◌++◌, ◌∷◌, ◌≡◌}
use Rattle.rw_engine.proofs.Traces.{grows_on, told_on}
use Rattle.rw_engine.proofs.trace_lines.tell_writes.Goals as goal

pub loop-write-preserved : goal.loop-write-preserved
loop-write-preserved c =
    let writes = c.args.writes.now in
    let more : map line_of (take c.loop-write.write-index writes) ++ line_of c.write-item.result ∷ []
    ≡ map line_of (take (c.loop-write.write-index + 1) writes) =
    ap (λ write. map line_of (take c.loop-write.write-index writes) ++ line_of write ∷ []) c.write-item.is
    ∙ sym (map_more line_of writes c.loop-write.write-index c.write-item.result c.loop-write-test.true) in
    record {
      told =
          told_on c.args.trace.now c.loop-write.trace c.push_write.new.self _ _ _ c.in_ok-push_write.ensures.pushed c.loop-write.invariant.told more;
      grows = grows_on c.args.trace.now c.loop-write.trace c.push_write.new.self _ c.in_ok-push_write.ensures.pushed c.loop-write.invariant.grows;
    }
