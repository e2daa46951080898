use Rattle.rw_base.proofs.Common.{◌≡◌, ◌++◌, sym, Bool, List, Result, Ok, Err, option_map}
use Rattle.rw_method.specs.declared.places.TheConstants.{OUTFLOW, POOL_ELEVATION, STORAGE}
use Rattle.rw_method.specs.declared.put.Put.{Put}
use Rattle.rw_method.specs.declared.solved.Solved.{Solved}
use Rattle.rw_method.specs.View.{given}
use Rattle.rw_method.specs.Puts.{solved_put, level_puts, evaporation_put, release_puts, known_after, puts_or_answer}
use Rattle.rw_method.specs.Solve.{AllFit, answer_of_puts}
use Rattle.rw_method.specs.Asking.{Asks, can_get}
use Rattle.rw_method.proofs.Misfits.{refused_in_front, refused_behind, four_fit}
use Rattle.rw_reservoir.proofs.puts.ask_all.Goals as goal

-- what is answered of all puts, of which the first two parts fit and the others were asked for behind them
behind : {X : Type 0} (fit : Put → Bool) (a b c d mid new : List Put) (result : Result X Solved) → AllFit fit (a ++ b) → mid ≡ a ++ b
    → Asks fit (c ++ d) mid new result → puts_or_answer new result ≡ answer_of_puts fit (a ++ b ++ c ++ d)
behind fit a b c d mid new (Ok done) fits is asks = sym (four_fit fit a b c d new fits asks.fits (rw is at asks.added))
behind fit a b c d mid new (Err answer) fits is asks = sym (refused_behind fit a b c d answer fits asks.refused)

pub returns-in-Ok : goal.returns-in-Ok
returns-in-Ok c =
    let table = option_map (λ rating. rating.now) c.args.table in
    let view = c.args.view.now in
    let balanced = c.args.balanced in
    let derived = rw c.known_after.ensures at c.ask_derived.ensures.asks in
    behind (can_get table view) (solved_put balanced) (level_puts table (given view STORAGE) (given view POOL_ELEVATION) balanced)
    (evaporation_put c.args.evaporation c.args.evaporated) (release_puts c.args.max_release (known_after view balanced OUTFLOW)) _ _ _
    c.in-Ok.ensures.asks.fits (rw c.requires at c.in-Ok.ensures.asks.added) derived

pub returns-in-Err : goal.returns-in-Err
returns-in-Err c =
    let table = option_map (λ rating. rating.now) c.args.table in
    let view = c.args.view.now in
    let balanced = c.args.balanced in
    sym (refused_in_front (can_get table view) (solved_put balanced) (level_puts table (given view STORAGE) (given view POOL_ELEVATION) balanced)
    (evaporation_put c.args.evaporation c.args.evaporated) (release_puts c.args.max_release (known_after view balanced OUTFLOW))
    c.in-Err.answer c.in-Err.ensures.asks.refused)
