-- What a sink in memory means.
use Rattle.std.specs.Prelude.{ℕ, List, Some}
use Rattle.rw_io.specs.Outside.{SinkView}
use Rattle.rw_io.specs.declared.mem_sink.MemSink.{MemSink}

-- what it is seen as
abbrev pub seen_of : MemSink → SinkView
seen_of sink = record { contents = Some sink.bytes.items; faults = sink.faults }

-- the numbers of the calls that are to fail, and how many calls there were
abbrev pub failing_of : MemSink → List ℕ
failing_of sink = sink.plan.failing.items

abbrev pub calls_of : MemSink → ℕ
calls_of sink = sink.plan.calls
