-- What a store of files is to its callers, and what each call of it leaves.
use Rattle.std.specs.Prelude.{◌≡◌, ℕ, ◌+◌, ◌-◌, ◌^◌, ◌<◌, ◌≤◌, ◌⊎◌, List, [], length, take, min, Option, Some, None, option_map, unwrap_or}
use Rattle.std.specs.Ordering.{nat_cmp}
use Rattle.std.specs.Cmp.Lexicographic.{slice_cmp}
use Rattle.std.specs.FinMap as finite
use Rattle.std.specs.FinMap.{FinMap}
use Rattle.eco_outside.specs.declared.blame.Blame.{Blame}
use Rattle.eco_outside.specs.declared.blame.Blame.TheVariants.{ReadFailed, ReadTooLong, WriteFailed}

-- files, from names to bytes
abbrev pub Files : Type 0
Files = FinMap (slice_cmp nat_cmp) (List ℕ)

-- what callers know of a store: its files, where it tells them, how often a read and a write have failed,
-- which call was the last that answered Failed or TooLong, and how many bytes the last TooLong read took
pub record StoreView : Type 0 where
  pub files : Option Files
  pub read_faults : ℕ
  pub write_faults : ℕ
  pub blamed : Option (Blame × List ℕ)
  pub taken : ℕ

-- a store of these files that no call has failed on
abbrev pub fresh_store : Option Files → StoreView
fresh_store told = record { files = told; read_faults = 0; write_faults = 0; blamed = None; taken = 0 }

-- a fact about the files of a store that tells them
abbrev pub WhereKnown : Option Files → (Files → Type 0) → Type 0
WhereKnown told P = (files : Files) → told ≡ Some files → P files

-- the bytes of a file, none where there is no file of that name
abbrev pub content : Files → List ℕ → List ℕ
content files name = unwrap_or (finite.get files name) []

-- the files with these bytes under that name, all others as they were
abbrev pub put_file : Option Files → List ℕ → List ℕ → Option Files
put_file told name bytes = option_map (λ files. finite.insert files name bytes) told

-- a count of faults is greater than before the call, or stands at the end of its type
abbrev pub Rose : ℕ → ℕ → Type 0
Rose before now = min (before + 1) (2 ^ 64 - 1) ≤ now

-- what no read changes, whatever it answers
pub record ReadKeeps (before after : StoreView) : Type 0 where
  pub files : after.files ≡ before.files
  pub write_faults : after.write_faults ≡ before.write_faults
  pub read_faults : before.read_faults ≤ after.read_faults

-- a read that gave these bytes; where the files are told, no fault came
pub record ReadGives (before after : StoreView) (name : List ℕ) (most : ℕ) (bytes : List ℕ) : Type 0 where
  pub bounded : length bytes ≤ most
  pub told : WhereKnown before.files (λ files. bytes ≡ content files name)
  pub no_fault : WhereKnown before.files (λ _. after.read_faults ≡ before.read_faults)
  pub blamed : after.blamed ≡ before.blamed
  pub taken : after.taken ≡ before.taken

-- a read that failed
pub record ReadFails (before after : StoreView) (name : List ℕ) : Type 0 where
  pub rose : Rose before.read_faults after.read_faults
  pub blamed : after.blamed ≡ Some (ReadFailed, name)
  pub taken : after.taken ≡ before.taken

-- a read that took more bytes than it was allowed; where the files are told, no fault came
pub record ReadExceeds (before after : StoreView) (name : List ℕ) (most : ℕ) : Type 0 where
  pub taken : most < after.taken
  pub blamed : after.blamed ≡ Some (ReadTooLong, name)
  pub told : WhereKnown before.files (λ files. most < length (content files name))
  pub no_fault : WhereKnown before.files (λ _. after.read_faults ≡ before.read_faults)

-- a read that found no memory
pub record ReadLacksMemory (before after : StoreView) : Type 0 where
  pub blamed : after.blamed ≡ before.blamed
  pub taken : after.taken ≡ before.taken

-- what no write changes, whatever it answers
pub record WriteKeeps (before after : StoreView) : Type 0 where
  pub read_faults : after.read_faults ≡ before.read_faults
  pub taken : after.taken ≡ before.taken
  pub write_faults : before.write_faults ≤ after.write_faults

-- a write that is done
pub record WritePuts (before after : StoreView) (name bytes : List ℕ) : Type 0 where
  pub files : after.files ≡ put_file before.files name bytes
  pub blamed : after.blamed ≡ before.blamed

-- a write that failed: the file holds what it held, or a front part of the bytes
pub record WriteFails (before after : StoreView) (name bytes : List ℕ) : Type 0 where
  pub rose : Rose before.write_faults after.write_faults
  pub blamed : after.blamed ≡ Some (WriteFailed, name)
  pub files : (after.files ≡ before.files) ⊎ ((count : ℕ) × (after.files ≡ put_file before.files name (take count bytes)))

-- a write that found no memory
pub record WriteLacksMemory (before after : StoreView) : Type 0 where
  pub files : after.files ≡ before.files
  pub blamed : after.blamed ≡ before.blamed
