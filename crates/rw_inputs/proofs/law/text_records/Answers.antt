use Rattle.csv.specs.Reading.{default_config, strip_bom}
use Rattle.csv.specs.declared.parser.State.TheVariants as st
use Rattle.rw_inputs.specs.Records.{records_of}
use Rattle.rw_inputs.proofs.Left.{all_left}
use Rattle.rw_inputs.proofs.Same.{one_list}
use Rattle.rw_inputs.proofs.law.text_records.Goals as goal

pub returns-clause-stated : goal.returns-clause-stated
returns-clause-stated c text = all_left st.StartRecord (strip_bom text)

pub returns-clause-alone : goal.returns-clause-alone
returns-clause-alone c text records are =
    one_list default_config st.StartRecord (strip_bom text) records (records_of text) are (all_left st.StartRecord (strip_bom text))
