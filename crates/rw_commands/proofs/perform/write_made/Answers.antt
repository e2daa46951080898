use Rattle.rw_commands.proofs.SectionLemmas.{made_front, made_whole}
use Rattle.rw_commands.proofs.perform.write_made.Goals as goal

pub returns-in-Ok-write_all : goal.returns-in-Ok-write_all
returns-in-Ok-write_all g c = λ job extras files one.
    made_whole job extras files _ c.in-Ok.pair.1 c.in-Ok.pair.0.items (rw c.in-Ok.is at one)
    (rw c.deref.ensures.value at c.in-Ok-write_all.ensures.whole)

pub returns : goal.returns
returns g c = λ job extras files one. (
  made_front job extras files _ c.in-Ok.pair.1 c.in-Ok.pair.0.items (rw c.in-Ok.is at one)
      (rw c.deref.ensures.value at c.in-Err-write_all.ensures.prefix),
  c.in-Err-write_all.ensures.cause,
)
