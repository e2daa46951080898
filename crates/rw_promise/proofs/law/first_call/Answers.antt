use Rattle.rw_promise.proofs.FirstCall.{first_call}
use Rattle.rw_promise.proofs.law.first_call.Goals as goal

pub returns-clause-is : goal.returns-clause-is
returns-clause-is c = λ call model inflows outflows m i basin inputs asked model_told inputs_told read form flows. record {
  model_path = m;
  inputs_path = i;
  asked = asked;
  told_model = model_told;
  told_inputs = inputs_told;
  basin = basin;
  inputs = inputs;
  read = read;
  form = form;
  flows = flows;
}

pub returns-clause-table : goal.returns-clause-table
returns-clause-table c = first_call c.first_form.ensures c.files_are_basins.ensures
