use Rattle.std.proofs.lemmas.List.{map_more}
use Rattle.rw_base.proofs.Common.{get_or_from_slice_get, slice_get_within}
use Rattle.rw_engine.proofs.Common.{[], ap, held, sym, take, ◌++◌, ◌∙◌, ◌∷◌}
use Rattle.rw_run.specs.declared.held.Held.{Held}
use Rattle.rw_record.specs.Noted.{cells_noted, with_noted}
use Rattle.std.specs.Prelude.{Err, Ok}
use Rattle.rw_engine.proofs.Notings.{adds_all, notes_on, notes_stop, with_none}
use Rattle.rw_engine.proofs.replaying.note_again.Goals as goal

pub loop-place-init : goal.loop-place-init
loop-place-init c = sym (with_none (held c.args.series.now) c.args.noted.now)

pub loop-place-preserved : goal.loop-place-preserved
loop-place-preserved c =
    let cells = held c.args.series.now in
    let looked = c.args.looked.now in
    let cell = c.get.result.cell in
    notes_on cells (cells_noted (take c.loop-place.place looked)) (cell ∷ []) c.args.noted.now c.loop-place.noted c.note.new.self (Ok tt)
    c.loop-place.invariant c.in_ok-note.ensures.noted
    ∙ ap (λ more. with_noted cells more c.args.noted.now)
    (ap (λ (one : Held). cells_noted (take c.loop-place.place looked) ++ one.cell ∷ [])
    (sym (get_or_from_slice_get looked c.loop-place.place c.get.result c.get.result c.get.ensures))
    ∙ sym (map_more (λ (one : Held). one.cell) looked c.loop-place.place c.get.result
    (slice_get_within looked c.loop-place.place c.get.result c.get.ensures)))

pub returns-in_err-note : goal.returns-in_err-note
returns-in_err-note c =
    let cells = held c.args.series.now in
    let looked = c.args.looked.now in
    let one = c.get.result.cell ∷ [] in
    let want = c.in_err-note.field-0.0 in
    notes_stop cells (cells_noted (take c.loop-place.place looked)) one (cells_noted looked) c.args.noted.now c.loop-place.noted
    c.note.new.self want _
    c.from_residual.result c.from_residual.ensures.1 c.loop-place.invariant
    (adds_all cells one c.loop-place.noted c.note.new.self (Err want) c.in_err-note.ensures.noted)
