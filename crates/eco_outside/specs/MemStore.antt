-- What a store in memory is to its callers.
use Rattle.std.specs.Prelude.{Some}
use Rattle.eco_outside.specs.declared.mem_store.MemStore.{MemStore}
use Rattle.eco_outside.specs.Store.{StoreView}
use Rattle.eco_outside.specs.Kept.{Plan, files_of, store_view}

abbrev pub mem_view : MemStore → StoreView
mem_view store = store_view (Some (files_of store.files.items)) store.faults

-- which of its calls are to fail
abbrev pub plan_of : MemStore → Plan
plan_of store = record { next = store.next_call; failing = store.failing.items; keep = store.keep }
