use Rattle.rw_engine.proofs.Common.{[], add-one, ap, arith, held, last_put, length, option_or, subst, sym, take, ◌∙◌, ◌≡◌}
use Rattle.std.specs.List.{cons_option}
use Rattle.std.specs.Prelude.{slice_get}
use Rattle.std.proofs.lemmas.Grind.{flat_map-append}
use Rattle.rw_base.proofs.Common.{take_all}
use Rattle.rw_dispatch.specs.Writes.{AreWrites}
use Rattle.rw_run.specs.Trace.{lines_in}
use Rattle.rw_engine.specs.Records.{CanWriteLine, puts_in, puts_of_line}
use Rattle.rw_engine.proofs.Records.{all_get, can_line, puts_of_write, puts_on, take_one}
use Rattle.rw_engine.proofs.replaying.write_again.Goals as goal

pub write_put-requires-clause-can : goal.write_put-requires-clause-can
write_put-requires-clause-can c =
    let told_lines = lines_in c.args.lines.now in
    let put = ap (λ put. cons_option put []) c.written.ensures ∙ puts_of_write (slice_get told_lines c.loop-place.place) in
    subst (AreWrites c.args.basin.now) (sym put)
    (can_line c.args.basin.now (slice_get told_lines c.loop-place.place)
    (all_get (CanWriteLine c.args.basin.now) told_lines c.loop-place.place c.requires.can))

pub loop-place-preserved : goal.loop-place-preserved
loop-place-preserved c =
    let basin = c.args.basin.now in
    let told_lines = lines_in c.args.lines.now in
    let place = c.loop-place.place in
    let one = cons_option (slice_get told_lines place) [] in
    let put = ap (λ put. cons_option put []) c.written.ensures ∙ puts_of_write (slice_get told_lines place) in record {
      made = c.write_put.ensures.made;
      cells = λ cell. c.write_put.ensures.cells cell
          ∙ ap (λ puts. option_or (last_put basin puts cell) (held c.loop-place.series cell)) put
          ∙ ap (option_or (last_put basin (puts_in one) cell)) (c.loop-place.invariant.cells cell)
          ∙ puts_on basin (puts_in (take place told_lines)) (puts_in one) cell (held c.args.series.now)
          ∙ ap (λ puts. option_or (last_put basin puts cell) (held c.args.series.now cell))
          (sym (flat_map-append puts_of_line (take place told_lines) one)
          ∙ ap puts_in (take_one told_lines place ∙ ap (λ n. take n told_lines) (sym (add-one place))));
    }

pub returns-clause-cells : goal.returns-clause-cells
returns-clause-cells c cell =
    let told_lines = lines_in c.args.lines.now in
    let all : c.loop-place.place ≡ length told_lines = let end =
    c.len-place-end.ensures in omega (arith, c.loop-place-test.false, c.loop-place.auto.place-end, end) in
    c.loop-place.invariant.cells cell
    ∙ ap (λ told. option_or (last_put c.args.basin.now (puts_in told) cell) (held c.args.series.now cell))
    (ap (λ n. take n told_lines) all ∙ take_all (length told_lines) told_lines (omega arith))
