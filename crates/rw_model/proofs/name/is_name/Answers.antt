use Rattle.rw_base.proofs.Common.{◌≡◌, ◌↔◌, ◌∙◌, ℕ, List, Bool, Contains, Decides-not, IsTrue, not, rules, same_from_decides, sym, true}
use Rattle.rw_model.specs.Name.{IsName, IsPlain, is_name, is_plain, reserved_words}
use Rattle.rw_model.proofs.NameFacts.{Decides-name, Decides-plain}
use Rattle.rw_model.proofs.name.is_name.Goals as goal

by_test : (answer : Bool) (text : List ℕ) → answer ≡ is_name text → IsTrue answer ↔ IsName text
by_test answer text same = (λ holds. (Decides-name text).0 (sym same ∙ holds), λ name. same ∙ (Decides-name text).1 name)

of_plain : (text : List ℕ) (reserved : Bool) → IsPlain text → IsTrue reserved ↔ Contains reserved_words text
    → IsTrue (not reserved) ↔ IsName text
of_plain text reserved plain words =
    (λ free. record { plain = plain; free = (Decides-not _ words).0 free }, λ name. (Decides-not _ words).1 name.free)

pub returns-then-is_plain-clause-name : goal.returns-then-is_plain-clause-name
returns-then-is_plain-clause-name c =
    let plain : is_plain c.args.text.now ≡ true = search rules in
    of_plain c.args.text.now c.is_reserved.result ((Decides-plain c.args.text.now).0 plain) c.is_reserved.ensures

pub returns-then-is_plain-clause-test : goal.returns-then-is_plain-clause-test
returns-then-is_plain-clause-test c =
    same_from_decides _ (is_name c.args.text.now) (returns-then-is_plain-clause-name c) (Decides-name c.args.text.now)

pub returns-else-is_plain-clause-test : goal.returns-else-is_plain-clause-test
returns-else-is_plain-clause-test c = search rules

pub returns-else-is_plain-clause-name : goal.returns-else-is_plain-clause-name
returns-else-is_plain-clause-name c = by_test _ c.args.text.now (returns-else-is_plain-clause-test c)
