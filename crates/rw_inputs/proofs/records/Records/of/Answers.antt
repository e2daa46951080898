use Rattle.std.proofs.Common.{ap, ◌∙◌}
use Rattle.csv.specs.Reading.{source_of}
use Rattle.csv.specs.declared.parser.State.TheVariants as st
use Rattle.rw_inputs.specs.Records.{records_in}
use Rattle.rw_inputs.proofs.Left.{rest_of}
use Rattle.rw_inputs.proofs.records.Records.of.Goals as goal

pub returns : goal.returns
returns c =
    let reader = c.from_reader.ensures in
    ap (λ state. records_in state (source_of rest_of c.from_reader.result)) reader.state ∙ ap (records_in st.StartRecord) reader.source
