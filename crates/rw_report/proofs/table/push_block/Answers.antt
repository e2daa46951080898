use Rattle.std.proofs.Common.{drop, string_bytes}
use Rattle.rw_series.specs.Series.{held}
use Rattle.rw_report.specs.Pieces.{words_at}
use Rattle.rw_report.proofs.Growing.{piece}
use Rattle.rw_report.proofs.table.push_block.Goals as goal

pub returns : goal.returns
returns c = λ front is.
    let w = c.write_block-at in
    piece (words_at (held c.args.cells.now)) c.args.first c.args.last front (string_bytes c.args.text.now) (drop w.result w.new.buffer)
    (string_bytes c.push_piece.new.text) w.ensures.written is c.in_ok-push_piece.ensures
