use Rattle.std.proofs.Common.{◌≡◌, ◌≤◌, pos, ap, arith, refl, sym, unsigned_abs}
use Rattle.rw_model.specs.declared.kind.Kind.TheVariants.{Gage}
use Rattle.rw_base.proofs.Common.{none-some, same_Some}
use Rattle.rw_model.specs.declared.content.Content.{Content}
use Rattle.rw_run.specs.Dispatch.{cell_at}
use Rattle.rw_run.specs.Log.{input_content}
use Rattle.rw_laws.specs.Worked.{by_rule}
use Rattle.rw_laws.proofs.law.no_runs.Goals as goal

pub returns-clause-balance : goal.returns-clause-balance
returns-clause-balance c = λ all.
    let out : pos 2 ≡ pos 1 = all 1 Gage refl (pos 1) (pos 2) refl refl in
    let differ : 2 ≡ 1 = ap unsigned_abs out in omega (arith, differ)

pub returns-clause-priority : goal.returns-clause-priority
returns-clause-priority c = λ all. let more : 2 ≤ 1 =
    all.0.puts 0 (by_rule 2 1 (pos 6)) (omega arith) (by_rule 1 1 (pos 5)).content refl in omega (arith, more)

pub returns-clause-links : goal.returns-clause-links
returns-clause-links c = λ all.
    none-some (by_rule 1 1 (pos 5)).content (sym
    (all (cell_at 1 1) (cell_at 2 1) (record {
      slot = record { first = omega arith; last = omega arith };
      first = omega arith;
      last = omega arith;
    }) refl))

pub returns-clause-rules : goal.returns-clause-rules
returns-clause-rules c = λ all. let fired = all 1 (record { first = omega arith; last = omega arith }) in none-some fired.firing fired.last

pub returns-clause-closed : goal.returns-clause-closed
returns-clause-closed c = λ all.
    let same = ap (λ (content : Content). unsigned_abs content.value) (same_Some _ _ (all (cell_at 2 1) (omega arith))) in
    let differ : 3 ≡ 2 = same in omega (arith, differ)

pub returns-clause-input : goal.returns-clause-input
returns-clause-input c = λ all.
    let same =
    ap (λ (content : Content). unsigned_abs content.value) (same_Some _ _ (all.0.inputs (cell_at 1 1) (input_content (pos 5)) refl refl)) in
    let differ : 7 ≡ 5 = same in omega (arith, differ)
