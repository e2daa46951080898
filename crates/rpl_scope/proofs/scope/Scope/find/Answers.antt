use Rattle.rw_base.proofs.Common.{reverse, sym, ap, ◌∙◌, arith, Some, get_or, length-reverse, reverse-reverse}
use Rattle.rpl_scope.specs.declared.scope.Entry.{Entry}
use Rattle.rpl_scope.specs.Scope.{first_named}
use Rattle.rpl_scope.proofs.Kept.{none_found, some_found}
use Rattle.rpl_scope.proofs.scope.Scope.find.Goals as goal

pub index-requires : goal.index-requires
index-requires g c =
    let items = c.self.inside.entries.items in
    let place = sym (c.self.invariant.found c.args.name.now) ∙ sym (c.copied.ensures ∙ c.get.ensures.value) ∙ c.in-Some.is in
    let found = some_found (reverse items) c.args.name.now c.in-Some.place place in
    omega (arith, found.within, length-reverse items, c.self.inside.entries.ok.0)

pub returns-in-None : goal.returns-in-None
returns-in-None g c =
    let place = sym (c.self.invariant.found c.args.name.now) ∙ sym (c.copied.ensures ∙ c.get.ensures.value) ∙ c.in-None.is in
    sym (none_found (reverse c.self.inside.entries.items) c.args.name.now place)
    ∙ ap (λ entries. first_named entries c.args.name.now) c.self.view_is

pub returns-in-Some : goal.returns-in-Some
returns-in-Some g c =
    let items = c.self.inside.entries.items in
    let place = sym (c.self.invariant.found c.args.name.now) ∙ sym (c.copied.ensures ∙ c.get.ensures.value) ∙ c.in-Some.is in
    let found = some_found (reverse items) c.args.name.now c.in-Some.place place in
    let here = c.index.ensures ∙ ap (λ xs. get_or xs c.in-Some.place c.index.result.now) (sym (reverse-reverse items)) in
    ap (λ (e : Entry g.row.T.Denot). Some e.means) here ∙ sym (found.means c.index.result.now)
    ∙ ap (λ entries. first_named entries c.args.name.now) c.self.view_is
