use Rattle.rw_promise.proofs.law.appended_alike.Goals as goal

pub returns : goal.returns
returns c = λ before now others more one later other last alike. (alike.0, alike.1, alike.2)
