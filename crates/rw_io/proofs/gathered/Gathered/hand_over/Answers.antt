use Rattle.rw_base.proofs.Common.{◌≡◌, ℕ, List, [], subst, rules}
use Rattle.rw_io.specs.Known.{PrefixGrew}
use Rattle.rw_io.proofs.KnownLemmas.{PrefixGrew-left}
use Rattle.rw_io.proofs.Handing.{breaks}
use Rattle.rw_io.proofs.gathered.Gathered.hand_over.Goals as goal

pub returns-in-Err-clause-hands : goal.returns-in-Err-clause-hands
returns-in-Err-clause-hands g c = λ before text way.
    let P : List ℕ → Type 0 = λ bytes. PrefixGrew (g.K.Sink.seen c.args.out.now).contents (g.K.Sink.seen c.write_all.new.sink).contents bytes in
    let same : c.deref.result.now ≡ c.args.self.now = search rules in
    breaks before _ _ c.args.self.now [] text way (PrefixGrew-left _ _ c.args.self.now [] (subst P same c.in-Err.ensures.prefix)) c.in-Err.ensures.cause
