use Rattle.std.proofs.Common.{drop, string_bytes}
use Rattle.rw_series.specs.Series.{held}
use Rattle.rw_report.specs.Pieces.{flag_at}
use Rattle.rw_report.proofs.Growing.{piece}
use Rattle.rw_report.proofs.flags.push_block.Goals as goal

pub returns : goal.returns
returns c = λ front is.
    let w = c.write_block-at in
    piece (flag_at (held c.args.cells.now)) c.args.first c.args.last front (string_bytes c.args.text.now) (drop w.result w.new.buffer)
    (string_bytes c.push_piece.new.text) w.ensures.written is c.in_ok-push_piece.ensures
