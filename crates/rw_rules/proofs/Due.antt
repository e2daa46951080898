-- The first rule that is due by the agenda is the one that is due by the log.
use Rattle.rw_base.proofs.Common.{◌≡◌, ◌∙◌, ℕ, zero, suc, ◌≤◌, All, All-cons, All-head, All-nil, All-push, All-tail, Bool, true, false, List, [], ◌∷◌}
use Rattle.rw_base.proofs.Common.{IfSome, None, Option, Some, ap, ap₂, arith, find, if◌then◌else◌, length, none-some, option_map, refl, reverse}
use Rattle.rw_base.proofs.Common.{reverse-append, same_Some, subst, sym}
use Rattle.rw_base.specs.declared.number.RuleNo.{RuleNo}
use Rattle.rw_model.proofs.Common.{Draft}
use Rattle.rw_model.specs.declared.control.AgendaOrder.{AgendaOrder}
use Rattle.rw_model.specs.declared.control.AgendaOrder.TheVariants.{HighFirst, LowFirst}
use Rattle.rw_run.proofs.Common.{Cells, Log, agenda_of, numbers}
use Rattle.rw_run.specs.Next.{first_due, is_changed, is_due}
use Rattle.rw_agenda.specs.Agenda.{Agenda, IsListed, first_due_in as due_in, is_due_in}
use Rattle.rpl_verify.specs.Verified.{Accepted}
use Rattle.rw_rules.specs.Rules.{IsRulesOf, Rules, ShowsLooks, policy_in}

module _ (agenda : Agenda) where
  -- ---- an agenda's numbers are its rules

  rising : (n : ℕ) → n ≤ length agenda.rules → All (IsListed agenda) (numbers n)
  rising zero le = All-nil (IsListed agenda)
  rising (suc n) le = All-push (IsListed agenda) (numbers n) (suc n) (rising n (omega (arith, le))) (record { first = omega arith; last = le })

  falling : (n : ℕ) → n ≤ length agenda.rules → All (IsListed agenda) (reverse (numbers n))
  falling zero le = All-nil (IsListed agenda)
  falling (suc n) le =
      subst (All (IsListed agenda)) (sym (reverse-append (numbers n) (suc n ∷ [])))
      (All-cons (IsListed agenda) (suc n) (reverse (numbers n)) (record { first = omega arith; last = le }) (falling n (omega (arith, le))))

  listed : (order : AgendaOrder) → All (IsListed agenda) (agenda_of order (length agenda.rules))
  listed HighFirst = rising (length agenda.rules) (omega arith)
  listed LowFirst = falling (length agenda.rules) (omega arith)

  -- ---- the first of them

  -- tests that say the same of each find the same
  same_first : (one other : ℕ → Bool) (rules : List ℕ) → ((rule : ℕ) → IsListed agenda rule → one rule ≡ other rule) → All (IsListed agenda) rules
      → find one rules ≡ find other rules
  same_first one other [] same all = refl
  same_first one other (rule ∷ rules) same all =
      ap₂ (λ (t : Bool) later. if t then Some rule else later) (same rule (All-head (IsListed agenda) rule rules all))
      (same_first one other rules same (All-tail (IsListed agenda) rule rules all))

  first_listed : (test : ℕ → Bool) (rule : ℕ) (rules : List ℕ) → All (IsListed agenda) rules → find test rules ≡ Some rule → IsListed agenda rule
  first_listed test rule [] all is = absurd (none-some rule is)
  first_listed test rule (first ∷ rules) all is =
      by (test first) is (first_listed test rule rules (All-tail (IsListed agenda) first rules all))
    where
      by : (t : Bool) → (if t then Some first else find test rules) ≡ Some rule → (find test rules ≡ Some rule → IsListed agenda rule)
          → IsListed agenda rule
      by true own later = subst (IsListed agenda) (same_Some first rule own) (All-head (IsListed agenda) first rules all)
      by false behind later = later behind

  pub due_listed : (cells : Cells) (due : Option RuleNo) → option_map (λ (rule : RuleNo). rule.0) due ≡ due_in agenda cells
      → IfSome due (λ (rule : RuleNo). IsListed agenda rule.0)
  due_listed cells None is = tt
  due_listed cells (Some rule) is =
      first_listed (is_due_in agenda cells) rule.0 (agenda_of agenda.order (length agenda.rules)) (listed agenda.order) (sym is)

pub same_due : (basin : Draft) (policy : Accepted) (rules : Rules) (cells : Cells) (log : Log) → IsRulesOf basin policy rules
    → ShowsLooks policy rules log
    → due_in rules.agenda cells ≡ first_due basin (policy_in basin policy) cells log
same_due basin policy rules cells log made shows =
    let agenda = rules.agenda in
    same_first agenda (is_due_in agenda cells) (is_due cells log) (agenda_of agenda.order (length agenda.rules))
    (λ rule known. ap (is_changed cells) (shows rule known.first (omega (arith, known.last, made.many)))) (listed agenda agenda.order)
    ∙ ap₂ (λ order n. find (is_due cells log) (agenda_of order n)) made.order made.many
