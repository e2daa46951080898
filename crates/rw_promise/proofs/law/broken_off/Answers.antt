use Rattle.rw_promise.proofs.law.broken_off.Goals as goal

pub returns-clause-rose : goal.returns-clause-rose
returns-clause-rose c = λ command shelf file fails. fails.rose

pub returns-clause-part : goal.returns-clause-part
returns-clause-part c = λ job extras files out part. (part.done, part.text, part.is, part.grew)

pub returns-clause-fewer : goal.returns-clause-fewer
returns-clause-fewer c = λ job extras files out first. (first.texts, first.are, first.fewer, first.grew)

pub returns-clause-long : goal.returns-clause-long
returns-clause-long c = λ command shelf file finds. finds.more
