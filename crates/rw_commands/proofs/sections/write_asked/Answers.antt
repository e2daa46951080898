use Rattle.rw_commands.proofs.Common.{rules, ◌≡◌}
use Rattle.rw_commands.proofs.sections.write_asked.Goals as goal

pub returns-in-Ok-write_all : goal.returns-in-Ok-write_all
returns-in-Ok-write_all g c = λ policy before means. record {
  text = c.in-Ok.told.0.items;
  is = c.in-Ok.ensures policy before means;
  grew = (let same : c.deref.result.now ≡ c.in-Ok.told.0.items = search rules in rw same at c.in-Ok-write_all.ensures.whole);
  later = c.in-Ok-write_all.ensures.later;
}

pub returns : goal.returns
returns g c = λ policy before means. (
  c.in-Ok.told.1,
  c.in-Ok.told.0.items,
  c.in-Ok.ensures policy before means,
  (let same : c.deref.result.now ≡ c.in-Ok.told.0.items = search rules in rw same at c.in-Err-write_all.ensures.prefix),
  c.in-Err-write_all.ensures.cause,
)
