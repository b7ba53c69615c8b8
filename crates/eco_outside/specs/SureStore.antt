-- What a store in memory that never fails is to its callers.
use Rattle.std.specs.Prelude.{Some, option_map}
use Rattle.std.specs.String.{string_bytes}
use Rattle.eco_outside.specs.declared.blame.Blame.TheVariants.{ReadTooLong}
use Rattle.eco_outside.specs.declared.sure_store.SureStore.{SureStore}
use Rattle.eco_outside.specs.Store.{StoreView}
use Rattle.eco_outside.specs.Kept.{files_of}

-- its counts of faults are 0 for good
abbrev pub sure_view : SureStore → StoreView
sure_view store = record {
  files = Some (files_of store.files.items);
  read_faults = 0;
  write_faults = 0;
  blamed = option_map (λ name. (ReadTooLong, string_bytes name)) store.too_long;
  taken = store.taken;
}
