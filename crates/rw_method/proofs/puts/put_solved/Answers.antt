use Rattle.rw_method.proofs.Common.{[], append-nil, is_bounded, refl, solved_put}
use Rattle.rw_method.proofs.puts.put_solved.Goals as goal

pub returns-in-Err : goal.returns-in-Err
returns-in-Err c = rw (← append-nil (solved_put c.args.balanced)) (c.in-Err.ensures.err (is_bounded c.args.view.now) [] (λ k d lt. refl))
