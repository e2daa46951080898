use Rattle.rw_commands.proofs.Common.{◌∙◌}
use Rattle.rw_commands.proofs.many.write_scenario.Goals as goal

pub returns-in-Ok-write_all : goal.returns-in-Ok-write_all
returns-in-Ok-write_all g c = λ policy means. record {
  after = c.in-Ok.ensures.run policy means;
  grew = rw (c.deref.ensures.value ∙ c.in-Ok-trace_section.ensures.text) at c.in-Ok-write_all.ensures.whole;
  later = c.in-Ok-write_all.ensures.later;
}

pub returns-in-Err-write_all : goal.returns-in-Err-write_all
returns-in-Err-write_all g c = λ policy means. (
  c.in-Ok.run',
  c.in-Ok.ensures.run policy means,
  rw (c.deref.ensures.value ∙ c.in-Ok-trace_section.ensures.text) at c.in-Err-write_all.ensures.prefix,
  c.in-Err-write_all.ensures.cause,
)
