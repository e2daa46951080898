-- What a ruleset that was accepted gives the call that compiles it.
use Rattle.rpl_compile.proofs.Common.{AreLimited, Block, Draft, Err, IsOk, IsTyped, List, Ok, Refusal, Result, accepted_code, ap, refl, rules_judged}
use Rattle.rpl_compile.proofs.Common.{rules_of, subst, sym, translate, verified, ◌∙◌, ◌≡◌}
use Rattle.rpl_tree.specs.declared.rules.ParsedRules.{ParsedRules}
use Rattle.rpl_types.proofs.Accepted.{accepted}
use Rattle.rpl_compile.proofs.CompiledBudgets.{compiled_code_is_accepted}

is_answer : {A E : Type 0} (judged : Result A E) → IsOk judged → (x : A) × (judged ≡ Ok x)
is_answer (Ok x) is_ok = (x, refl)
is_answer (Err e) is_ok = absurd (cc is_ok)

pub typed_rules : (basin : Draft) (rules same : ParsedRules) → same ≡ rules → IsOk (rules_judged basin (rules_of rules))
    → IsTyped basin (rules_of same)
typed_rules basin rules same same_is is_ok =
    let all = is_answer (rules_judged basin (rules_of rules)) is_ok in
    subst (λ (r : ParsedRules). IsTyped basin (rules_of r)) (sym same_is) (accepted basin (rules_of rules) all.0 all.1)

-- its code isn't refused
pub never_refused : (basin : Draft) (rules same : ParsedRules) (code : List Block) (why : Refusal) → same ≡ rules → AreLimited (rules_of same)
    → IsOk (rules_judged basin (rules_of rules)) → code ≡ translate (rules_of rules) → verified basin code ≡ Err why → ⊥
never_refused basin rules same code why same_is bounded is_ok code_is refused =
    let here = subst (λ (r : ParsedRules). AreLimited (rules_of r)) same_is bounded in
    let accepted = compiled_code_is_accepted basin (rules_of rules) (typed_rules basin rules rules refl is_ok) here.rules here.functions in
    let both : Ok (accepted_code basin (rules_of rules)) ≡ Err why = sym accepted ∙ ap (verified basin) (sym code_is) ∙ refused in
    cc
