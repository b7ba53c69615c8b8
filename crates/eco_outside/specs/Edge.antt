-- What the store over the system's files and the sink over standard output are to their callers: they tell no bytes.
use Rattle.std.specs.Prelude.{None}
use Rattle.eco_outside.specs.declared.file_store.FileStore.{FileStore}
use Rattle.eco_outside.specs.declared.out_sink.OutSink.{OutSink}
use Rattle.eco_outside.specs.Store.{StoreView}
use Rattle.eco_outside.specs.Sink.{SinkView}
use Rattle.eco_outside.specs.Kept.{store_view}

module _ {R : Type 0} where
  abbrev pub file_view : FileStore R → StoreView
  file_view store = store_view None store.faults

  abbrev pub out_view : OutSink R → SinkView
  out_view sink = record { written = None; faults = sink.faults }
