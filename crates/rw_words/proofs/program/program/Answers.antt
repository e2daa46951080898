use Rattle.rw_base.proofs.Common.{ap, ap₂, ◌∙◌}
use Rattle.clap.specs.Words.{App, with_subcommand}
use Rattle.rw_words.proofs.program.program.Goals as goal

pub returns : goal.returns
returns c =
    let one =
    c.in_ok-one.ensures.shape c.in_ok-run.ensures.1
    ∙ ap₂ with_subcommand c.bare-bare.ensures.app (ap (λ (a : App). a.top) c.in_ok-run.ensures.0) in
    let two = c.in_ok-two.ensures.shape c.in_ok-simulate.ensures.1 ∙ ap₂ with_subcommand one (ap (λ (a : App). a.top) c.in_ok-simulate.ensures.0) in
    let three = c.in_ok-three.ensures.shape c.in_ok-check.ensures.1 ∙ ap₂ with_subcommand two (ap (λ (a : App). a.top) c.in_ok-check.ensures.0) in
    let four = c.in_ok-four.ensures.shape c.in_ok-compile.ensures.1 ∙ ap₂ with_subcommand three (ap (λ (a : App). a.top) c.in_ok-compile.ensures.0) in
    let five = c.in_ok-five.ensures.shape c.in_ok-why.ensures.1 ∙ ap₂ with_subcommand four (ap (λ (a : App). a.top) c.in_ok-why.ensures.0) in
    let six = c.in_ok-six.ensures.shape c.in_ok-sample.ensures.1 ∙ ap₂ with_subcommand five (ap (λ (a : App). a.top) c.in_ok-sample.ensures.0) in
    let seven = c.in_ok-seven.ensures.shape c.in_ok-balance.ensures.1 ∙ ap₂ with_subcommand six (ap (λ (a : App). a.top) c.in_ok-balance.ensures.0) in
    let eight = c.in_ok-eight.ensures.shape c.in_ok-mrm.ensures.1 ∙ ap₂ with_subcommand seven (ap (λ (a : App). a.top) c.in_ok-mrm.ensures.0) in
    c.in_ok-nine.ensures.shape c.in_ok-migrate.ensures.1 ∙ ap₂ with_subcommand eight (ap (λ (a : App). a.top) c.in_ok-migrate.ensures.0)
