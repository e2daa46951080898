-- What a fault that is handed on tells.
use Rattle.rw_base.proofs.Common.{◌≡◌, ℕ, ◌+◌, List, [], ◌∷◌, ◌++◌, Option, Result, Ok, Err, sym, ap, subst, ◌∙◌}
use Rattle.std.specs.Prelude.{IfErr, IsErrAnd}
use Rattle.rw_base.specs.Answers.{Answers, IsWhy}
use Rattle.rw_model.specs.Draft.{Draft}
use Rattle.rw_inputs.specs.declared.fault.InputFault.{InputFault}
use Rattle.rw_inputs.specs.declared.fault.InputFault.TheVariants.{NoMemory}
use Rattle.rw_inputs.specs.declared.row_value.RowValue.{RowValue}
use Rattle.rw_inputs.specs.Records.{Fields}
use Rattle.rw_inputs.specs.Refusal.{InputRefusal, input_refusal_of, TellsInput}
use Rattle.rw_inputs.specs.Inputs.{Inputs, Keeps}
use Rattle.rw_inputs.specs.Reading.{row_values, first_refusal, values_read}
use Rattle.rw_inputs.specs.Taking.{RefusesRow}

pub tells-fault : {X : Type 0} (result : Result X InputFault) (fault : InputFault) (due : Option InputRefusal)
    → IsErrAnd result (λ e. e ≡ fault) → TellsInput fault due → IfErr result (λ e. TellsInput e due)
tells-fault (Ok x) fault due same tells = absurd same
tells-fault (Err e) fault due same tells = subst (λ e. TellsInput e due) (sym same) tells

-- the refusal of a row is that of all that are left
pub row_refused : (basin : Draft) (number : ℕ) (before old rows : List Fields) (row : Fields) (inputs : Inputs) (fault : InputFault)
    (due : Option InputRefusal)
    → old ≡ row ∷ rows → first_refusal basin number before old ≡ due → Keeps basin (row_values basin before) inputs
    → RefusesRow basin number row inputs fault → TellsInput fault due
row_refused basin number before old rows row inputs fault due next is kept refuses =
    subst (TellsInput fault) (sym (ap (first_refusal basin number before) next) ∙ is)
    (refuses before kept (first_refusal basin (number + 1) (before ++ row ∷ []) rows))

-- a call that hands on a fault answers what it tells
pub answers-fault : {X A : Type 0} (seen : X → A) (result : Result X InputFault) (fault : InputFault) (reading : Result A InputRefusal)
    → IsErrAnd result (λ e. e ≡ fault) → IsWhy NoMemory input_refusal_of reading fault → Answers NoMemory input_refusal_of seen result reading
answers-fault seen (Ok x) fault reading same why = absurd same
answers-fault seen (Err e) fault reading same why = subst (IsWhy NoMemory input_refusal_of reading) (sym same) why

-- what refuses the records refuses what they give
pub values-fault : (basin : Draft) (fault : InputFault) (reading : Result (List RowValue) InputRefusal)
    → IsWhy NoMemory input_refusal_of reading fault → IsWhy NoMemory input_refusal_of (values_read basin reading) fault
values-fault basin fault reading why = ((λ refusal is. ap (values_read basin) (why.0 refusal is)), why.1)
