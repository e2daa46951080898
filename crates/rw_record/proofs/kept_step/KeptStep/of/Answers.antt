use Rattle.rw_record.proofs.Common.{Contains, ap, length, noted_in, refl, rules, subst, sym, ◌≤◌, ◌↔◌}
use Rattle.rw_run.specs.Trace.{lines_in}
use Rattle.rw_record.proofs.Lines.{few as few_of}
use Rattle.rw_record.proofs.kept_step.KeptStep.of.Goals as goal

pub risen-requires-clause-few : goal.risen-requires-clause-few
risen-requires-clause-few c =
    let few : length (noted_in c.args.noted.now) ≤ 6000 =
    (few_of (noted_in c.args.noted.now) (lines_in c.args.lines.now) (search rules)).0 in
    subst (λ noted. length noted ≤ 6000) (sym c.as_slice-2.ensures.noted) few

pub returns-clause-kept : goal.returns-clause-kept
returns-clause-kept c =
    let noted = noted_in c.args.noted.now in
    let lines = lines_in c.args.lines.now in
    let small = few_of noted lines (search rules) in
    record {
      step_is = refl;
      few_cells = small.0;
      few_lines = small.1;
      members =
          λ one. subst (λ all. Contains c.in_ok-looked.looked one ↔ Contains all one) c.as_slice-2.ensures.noted
          (c.in_ok-looked.ensures.members one);
      rising = c.in_ok-looked.ensures.rising;
      lines_are = ap lines_in c.in_ok-taken.ensures.taken;
    }
