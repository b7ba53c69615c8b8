-- What the sinks in memory are to their callers.
use Rattle.std.specs.Prelude.{Some}
use Rattle.eco_outside.specs.declared.mem_sink.MemSink.{MemSink}
use Rattle.eco_outside.specs.declared.sure_sink.SureSink.{SureSink}
use Rattle.eco_outside.specs.Sink.{SinkView}
use Rattle.eco_outside.specs.Kept.{Plan}

abbrev pub mem_sink_view : MemSink → SinkView
mem_sink_view sink = record { written = Some sink.written.items; faults = sink.faults }

-- which of its puts are to fail
abbrev pub put_plan_of : MemSink → Plan
put_plan_of sink = record { next = sink.next_call; failing = sink.failing.items; keep = sink.keep }

-- its count of faults is 0 for good
abbrev pub sure_sink_view : SureSink → SinkView
sure_sink_view sink = record { written = Some sink.written.items; faults = 0 }
