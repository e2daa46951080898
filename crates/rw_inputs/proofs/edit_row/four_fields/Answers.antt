use Rattle.rw_base.proofs.Common.{◌≡◌, List, Option, Some, None, refl, sym, ℕ}
use Rattle.csv.specs.Records.{fields_of, field_at}
use Rattle.rw_inputs.specs.EditRows.{four_fields}
use Rattle.rw_inputs.specs.Records.{Fields}
use Rattle.rw_inputs.proofs.Rows.{four_from, four-by_place}
use Rattle.rw_inputs.proofs.edit_row.four_fields.Goals as goal

-- what the first fields show
shown : (fields : Fields) (a b c d e : Option (List ℕ)) → a ≡ field_at fields 0 → b ≡ field_at fields 1 → c ≡ field_at fields 2
    → d ≡ field_at fields 3
    → e ≡ field_at fields 4 → four_from a b c d e ≡ four_fields fields
shown fields a b c d e p q r s t = rw (p, q, r, s, t) (sym (four-by_place fields))

pub returns-in_default : goal.returns-in_default
returns-in_default c =
    let fields = fields_of c.args.row.now in
    shown fields None (field_at fields 1) (field_at fields 2) (field_at fields 3) (field_at fields 4) c.in_default.ensures.value refl refl refl refl

pub returns-in_default-get : goal.returns-in_default-get
returns-in_default-get c =
    let fields = fields_of c.args.row.now in
    shown fields (Some c.in-Some.first.now) None (field_at fields 2) (field_at fields 3) (field_at fields 4)
    c.in-Some.ensures.value c.in_default-get.ensures.value refl refl refl

pub returns-in_default-get-2 : goal.returns-in_default-get-2
returns-in_default-get-2 c =
    let fields = fields_of c.args.row.now in
    shown fields (Some c.in-Some.first.now) (Some c.in-Some-get.second.now) None (field_at fields 3) (field_at fields 4)
    c.in-Some.ensures.value c.in-Some-get.ensures.value c.in_default-get-2.ensures.value refl refl

pub returns-in_default-get-3 : goal.returns-in_default-get-3
returns-in_default-get-3 c =
    let fields = fields_of c.args.row.now in
    shown fields (Some c.in-Some.first.now) (Some c.in-Some-get.second.now) (Some c.in-Some-get-2.third.now) None (field_at fields 4)
    c.in-Some.ensures.value c.in-Some-get.ensures.value c.in-Some-get-2.ensures.value c.in_default-get-3.ensures.value refl

pub returns-in-None : goal.returns-in-None
returns-in-None c =
    shown (fields_of c.args.row.now) (Some c.in-Some.first.now) (Some c.in-Some-get.second.now) (Some c.in-Some-get-2.third.now)
    (Some c.in-Some-get-3.fourth.now) None
    c.in-Some.ensures.value c.in-Some-get.ensures.value c.in-Some-get-2.ensures.value c.in-Some-get-3.ensures.value c.in-None.ensures.value

pub returns-in-Some-get-4 : goal.returns-in-Some-get-4
returns-in-Some-get-4 c =
    shown (fields_of c.args.row.now) (Some c.in-Some.first.now) (Some c.in-Some-get.second.now) (Some c.in-Some-get-2.third.now)
    (Some c.in-Some-get-3.fourth.now) (Some c.in-Some-get-4.field-0.now)
    c.in-Some.ensures.value c.in-Some-get.ensures.value c.in-Some-get-2.ensures.value c.in-Some-get-3.ensures.value c.in-Some-get-4.ensures.value
