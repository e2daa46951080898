use Rattle.rw_base.proofs.Common.{◌≡◌, ◌∷◌, reverse, length, sym, subst, ap, ◌∙◌, arith, length-reverse}
use Rattle.rpl_scope.specs.declared.scope.Entry.{Entry}
use Rattle.rpl_scope.specs.Scope.{IsKept, entries_of}
use Rattle.rpl_scope.proofs.Kept.{kept_push, last_first}
use Rattle.rpl_scope.proofs.scope.Scope.push.Goals as goal

pub invariant_of-self-in-Ok : goal.invariant_of-self-in-Ok
invariant_of-self-in-Ok g c =
    let old = c.self.inside.entries.items in
    let e : Entry g.row.T.Denot = record { name = c.args.name; means = c.args.means; outer = c.copied-outer.result } in
    let last : c.len-place.result ≡ length (reverse old) = omega (arith, c.len-place.ensures, c.self.inside.entries.ok.0, length-reverse old) in
    subst (λ es. IsKept es c.insert.new.self) (sym (last_first c.push.new.self.items old e c.in_ok-push.ensures.items))
    (kept_push (reverse old) c.self.inside.innermost c.insert.new.self e c.len-place.result c.self.invariant
    (c.copied-outer.ensures ∙ c.get.ensures.value) last c.in-Ok.ensures.updates)

pub returns-in-Ok-clause-ok : goal.returns-in-Ok-clause-ok
returns-in-Ok-clause-ok g c =
    let old = c.self.inside.entries.items in
    let e : Entry g.row.T.Denot = record { name = c.args.name; means = c.args.means; outer = c.copied-outer.result } in
    ap entries_of (last_first c.push.new.self.items old e c.in_ok-push.ensures.items)
    ∙ ap (λ xs. (c.args.name.now, c.args.means) ∷ xs) c.self.view_is
