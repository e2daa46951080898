use Rattle.std.proofs.Common.{◌≡◌, ◌++◌, ◌∙◌, [], List, ℕ, MatchResult, ap, rules, string_bytes, subst, sym}
use Rattle.rw_io.specs.Handed.{BrokeOff, IsOnItsWay}
use Rattle.rw_io.proofs.Handing.{begins, broke_before}
use Rattle.rw_series.specs.Series.{held}
use Rattle.rw_report.specs.Handed.{Grew, IsPrepared}
use Rattle.rw_report.specs.Section.{columns, rows, values_in}
use Rattle.rw_report.proofs.Handing.{arrives, together}
use Rattle.rw_report.proofs.handed.hand_section.Goals as goal

pub returns-in-Err : goal.returns-in-Err
returns-in-Err g c = λ top tail made.
    let out = g.K.Sink.seen c.args.out.now in
    let names = columns c.args.basin.now in
    let lines = rows c.args.basin.now (values_in (held c.args.series.now)) c.args.closed in
    let head : c.as_bytes.result.now ≡ top ++ names = c.as_bytes.ensures.value ∙ made.head_is in
    let start : IsOnItsWay out out c.args.prepared.now.gathered [] = subst (λ (g : List ℕ). IsOnItsWay out out g []) (sym made.none) (begins out) in
    subst (BrokeOff out (g.K.Sink.seen c.put.new.out)) (together top names lines tail)
    (broke_before out _ ((top ++ names) ++ lines) tail (broke_before out _ (top ++ names) lines
    (subst (BrokeOff out (g.K.Sink.seen c.put.new.out)) head (c.in-Err.ensures out [] start))))

pub returns-in-Err-hand_rows : goal.returns-in-Err-hand_rows
returns-in-Err-hand_rows g c = λ top tail made.
    let out = g.K.Sink.seen c.args.out.now in
    let names = columns c.args.basin.now in
    let lines = rows c.args.basin.now (values_in (held c.args.series.now)) c.args.closed in
    let head : c.as_bytes.result.now ≡ top ++ names = c.as_bytes.ensures.value ∙ made.head_is in
    let start : IsOnItsWay out out c.args.prepared.now.gathered [] = subst (λ (g : List ℕ). IsOnItsWay out out g []) (sym made.none) (begins out) in
    let first = subst (IsOnItsWay out (g.K.Sink.seen c.put.new.out) c.put.new.self) head (c.in-Ok.ensures out [] start) in
    subst (BrokeOff out (g.K.Sink.seen c.hand_rows.new.out)) (together top names lines tail)
    (broke_before out _ ((top ++ names) ++ lines) tail (c.in-Err-hand_rows.ensures out (top ++ names) first))

pub returns-in-Err-put : goal.returns-in-Err-put
returns-in-Err-put g c = λ top tail made.
    let out = g.K.Sink.seen c.args.out.now in
    let names = columns c.args.basin.now in
    let lines = rows c.args.basin.now (values_in (held c.args.series.now)) c.args.closed in
    let head : c.as_bytes.result.now ≡ top ++ names = c.as_bytes.ensures.value ∙ made.head_is in
    let start : IsOnItsWay out out c.args.prepared.now.gathered [] = subst (λ (g : List ℕ). IsOnItsWay out out g []) (sym made.none) (begins out) in
    let first = subst (IsOnItsWay out (g.K.Sink.seen c.put.new.out) c.put.new.self) head (c.in-Ok.ensures out [] start) in
    let last : c.as_bytes-2.result.now ≡ tail = c.as_bytes-2.ensures.value ∙ made.tail_is in
    subst (BrokeOff out (g.K.Sink.seen c.put-2.new.out)) (ap (λ t. ((top ++ names) ++ lines) ++ t) last ∙ together top names lines tail)
    (c.in-Err-put.ensures out ((top ++ names) ++ lines) (c.in-Ok-hand_rows.ensures out (top ++ names) first))

pub returns-in-Ok-put : goal.returns-in-Ok-put
returns-in-Ok-put g c = λ top tail made.
    let out = g.K.Sink.seen c.args.out.now in
    let names = columns c.args.basin.now in
    let lines = rows c.args.basin.now (values_in (held c.args.series.now)) c.args.closed in
    let whole = ((top ++ names) ++ lines) ++ tail in
    let head : c.as_bytes.result.now ≡ top ++ names = c.as_bytes.ensures.value ∙ made.head_is in
    let start : IsOnItsWay out out c.args.prepared.now.gathered [] = subst (λ (g : List ℕ). IsOnItsWay out out g []) (sym made.none) (begins out) in
    let first = subst (IsOnItsWay out (g.K.Sink.seen c.put.new.out) c.put.new.self) head (c.in-Ok.ensures out [] start) in
    let last : c.as_bytes-2.result.now ≡ tail = c.as_bytes-2.ensures.value ∙ made.tail_is in
    let third = subst (IsOnItsWay out (g.K.Sink.seen c.put-2.new.out) c.put-2.new.self) (ap (λ t. ((top ++ names) ++ lines) ++ t) last)
    (c.in-Ok-put.ensures out ((top ++ names) ++ lines) (c.in-Ok-hand_rows.ensures out (top ++ names) first)) in
    subst (λ (t : List ℕ). MatchResult c.hand_over.result (λ _. Grew out (g.K.Sink.seen c.hand_over.new.out) t) (λ _. BrokeOff out (g.K.Sink.seen c.hand_over.new.out) t))
    (together top names lines tail)
    (arrives out _ c.hand_over.new.self whole c.hand_over.result c.hand_over.ensures.none (c.hand_over.ensures.hands out whole third))
