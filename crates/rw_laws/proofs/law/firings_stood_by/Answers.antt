use Rattle.rw_laws.proofs.Common.{All-cons, All-nil, Fire, Firing, [], ap, arith, asked_of_rule, cells_looked, cells_of, false, inl, length, pos}
use Rattle.rw_laws.proofs.Common.{refl, same_Some, subst, sym, true, ◌≡◌}
use Rattle.rw_laws.specs.Rules.{EndsAs, IsHeldOr}
use Rattle.rw_laws.specs.Worked.{day_of_firing, by_rule, dam_alone, fifty_out}
use Rattle.rw_laws.proofs.law.firings_stood_by.Goals as goal

pub returns-clause-stands : goal.returns-clause-stands
returns-clause-stands c = record {
  firing = _;
  last = refl;
  fire = _;
  again = refl;
  is = record { end = refl; looked = refl; asked = refl; count = refl };
  puts = All-cons (IsHeldOr (cells_of dam_alone (day_of_firing fifty_out)) 2) (by_rule 2 2 (pos 50)) []
      (record { content = _; held = refl; number = omega arith; so = inl refl })
      (All-nil (IsHeldOr (cells_of dam_alone (day_of_firing fifty_out)) 2));
}

pub returns-clause-asked : goal.returns-clause-asked
returns-clause-asked c = λ stands.
    let none : 0 ≡ length stands.firing.asked = ap (λ (firing : Firing). length firing.asked) (same_Some _ _ stands.last) in
    let one : 1 ≡ length (asked_of_rule dam_alone 2 1 stands.fire.puts) =
    ap (λ (fire : Fire). length (asked_of_rule dam_alone 2 1 fire.puts)) (same_Some _ _ stands.again) in
    omega (arith, none, one, ap length stands.is.asked)

pub returns-clause-end : goal.returns-clause-end
returns-clause-end c = λ stands.
    let fire = sym (same_Some _ _ stands.again) in
    let firing = sym (same_Some _ _ stands.last) in
    let ends : EndsAs false stands.fire.end = subst (λ (firing : Firing). EndsAs firing.is_done stands.fire.end) firing stands.is.end in
    let differ : false ≡ true = subst (λ (fire : Fire). EndsAs false fire.end) fire ends in
    absurd (grind (arith, differ))

pub returns-clause-looked : goal.returns-clause-looked
returns-clause-looked c = λ stands.
    let one : 1 ≡ length (cells_looked stands.firing.looked) =
    ap (λ (firing : Firing). length (cells_looked firing.looked)) (same_Some _ _ stands.last) in
    let none : 0 ≡ length stands.fire.looked = ap (λ (fire : Fire). length fire.looked) (same_Some _ _ stands.again) in
    omega (arith, none, one, ap length stands.is.looked)

pub returns-clause-count : goal.returns-clause-count
returns-clause-count c = λ stands.
    let three : 3 ≡ stands.firing.count = ap (λ (firing : Firing). firing.count) (same_Some _ _ stands.last) in
    let two : 2 ≡ stands.fire.count = ap (λ (fire : Fire). fire.count) (same_Some _ _ stands.again) in
    omega (arith, three, two, stands.is.count)
