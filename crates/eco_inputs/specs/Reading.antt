-- What is read from a file, and why a command stops there.
use Rattle.std.specs.Prelude.{◌≡◌, ℕ, ◌<◌, ◌≤◌, List, length, Option, Some, None, Result, Ok, Err, MatchResult}
use Rattle.eco_outside.specs.declared.blame.Blame.TheVariants.{ReadFailed, ReadTooLong}
use Rattle.eco_outside.specs.Store.{Files, StoreView, Rose, WhereKnown, content}
use Rattle.eco_inputs.specs.declared.halt.Halt.{Halt}
use Rattle.eco_inputs.specs.declared.halt.Halt.TheVariants as halt
use Rattle.eco_inputs.specs.declared.halt.FileError.{FileError}
use Rattle.eco_inputs.specs.declared.halt.FileError.TheVariants.{TooLong, Within}
use Rattle.eco_inputs.specs.declared.reading.Lack.{Lack}
use Rattle.eco_inputs.specs.declared.reading.Lack.TheVariants as lack
use Rattle.eco_inputs.specs.Rows.{Row}

-- what the bytes of a kind of file say: which value they give, and which error they have
pub record Kind (Error Value : Type 0) : Type 1 where
  pub gives : List ℕ → Value → Type 0
  pub lacks : List ℕ → Error → Type 0

-- ---- the file

-- bytes that are not too many say this; where the store tells its files, they are the file's
pub record IsRead {Said : Type 0} (says : List ℕ → Said → Type 0) (told : Option Files) (path : List ℕ) (most : ℕ) (said : Said) : Type 0 where
  pub bytes : List ℕ
  pub short : length bytes ≤ most
  pub of_file : WhereKnown told (λ files. bytes ≡ content files path)
  pub holds : says bytes said

-- the file is too long, where the store tells its files; or its bytes have the error
abbrev pub HasFileError : {Error Value : Type 0} → Kind Error Value → List ℕ → ℕ → Option Files → FileError Error → Type 0
HasFileError kind path most told TooLong = WhereKnown told (λ files. most < length (content files path))
HasFileError kind path most told (Within error) = IsRead kind.lacks told path most error

-- the row of one file, of which at most so many bytes are taken
abbrev pub file_row : {Error Value : Type 0} → Kind Error Value → List ℕ → ℕ → Row (Option Files) (FileError Error) Value
file_row kind path most = record {
  stands = HasFileError kind path most;
  reads = λ told name. name ≡ path;
  passes = λ told value. IsRead kind.gives told path most value;
}

-- what makes the reading one: a value and an error don't stand together, and there is one of each, but for what is left open
pub record IsKind {Error Value : Type 0} (determine : Error → Error) (kind : Kind Error Value) : Type 0 where
  pub once : (bytes : List ℕ) (a b : Error) → kind.lacks bytes a → kind.lacks bytes b → determine a ≡ determine b
  pub apart : (bytes : List ℕ) (a : Error) (v : Value) → kind.lacks bytes a → kind.gives bytes v → ⊥
  pub same : (bytes : List ℕ) (v w : Value) → kind.gives bytes v → kind.gives bytes w → v ≡ w

-- the error with what is left open taken out
abbrev pub determined_file : {Error : Type 0} → (Error → Error) → FileError Error → FileError Error
determined_file determine TooLong = TooLong
determined_file determine (Within error) = Within (determine error)

-- ---- what the store tells

-- a file that is too long, and how many bytes are taken of it
pub record Oversize : Type 0 where
  pub path : List ℕ
  pub most : ℕ

-- the file, where the error is that it is too long
abbrev pub oversize_of : {Error : Type 0} → List ℕ → ℕ → FileError Error → Option Oversize
oversize_of path most TooLong = Some (record { path = path; most = most })
oversize_of path most (Within error) = None

-- the store tells of a file that is too long: it took too many bytes of it, and where it tells its files no fault came
pub record IsReportedLong (oversize : Oversize) (before after : StoreView) : Type 0 where
  pub taken : oversize.most < after.taken
  pub blamed : after.blamed ≡ Some (ReadTooLong, oversize.path)
  pub no_fault : WhereKnown before.files (λ _. after.read_faults ≡ before.read_faults)

-- what the store tells of a cause, which may be that a file is too long
abbrev pub IsReported : Option Oversize → StoreView → StoreView → Type 0
IsReported None before after = Unit {0}
IsReported (Some oversize) before after = IsReportedLong oversize before after

-- what it tells of a read that failed
pub record IsReportedFailure (path : List ℕ) (before after : StoreView) : Type 0 where
  pub rose : Rose before.read_faults after.read_faults
  pub blamed : after.blamed ≡ Some (ReadFailed, path)

-- ---- both

-- the rows stop so: for a cause that stands; or because a file that they come to read can't be read; or, which says
-- nothing, for want of memory
abbrev pub Halts : {Cause Value : Type 0} → (Cause → Option Oversize) → Row (Option Files) Cause Value → StoreView → StoreView → Halt Cause → Type 0
Halts too_long row before after (halt.For cause) = row.stands before.files cause × IsReported (too_long cause) before after
Halts too_long row before after (halt.Unread path) = row.reads before.files path.now × IsReportedFailure path.now before after
Halts too_long row before after halt.OutOfMemory = Unit {0}

-- the rows are passed with this value, and where the store tells its files no fault came
pub record IsPassed {Cause Value : Type 0} (row : Row (Option Files) Cause Value) (before after : StoreView) (value : Value) : Type 0 where
  pub passed : row.passes before.files value
  pub no_fault : WhereKnown before.files (λ _. after.read_faults ≡ before.read_faults)

-- the rows are passed with a value of which this holds
abbrev pub Succeeds : {Cause Value : Type 0} → Row (Option Files) Cause Value → Option Files → (Value → Type 0) → Type 0
Succeeds row told P = (value : _) × row.passes told value × P value

-- the rows come to what is made from their value, of which this holds; or they stop
abbrev pub Ends : {Made Cause Value : Type 0} → (Cause → Option Oversize) → Row (Option Files) Cause Value → (Made → Value → Type 0) → StoreView → StoreView → Result Made (Halt Cause) → Type 0
Ends too_long row P before after result =
    MatchResult result (λ made. Succeeds row before.files (P made)) (Halts too_long row before after)

-- the cause of a halt as a command's
abbrev pub halt_as : {Own Cause : Type 0} → (Own → Cause) → Halt Own → Halt Cause
halt_as make (halt.For own) = halt.For (make own)
halt_as make (halt.Unread path) = halt.Unread path
halt_as make halt.OutOfMemory = halt.OutOfMemory

-- ---- bytes that were read

-- the bytes give nothing, for this
abbrev pub IsLack : {Error Value : Type 0} → Kind Error Value → List ℕ → Lack Error → Type 0
IsLack kind bytes (lack.Error error) = kind.lacks bytes error
IsLack kind bytes lack.OutOfMemory = Unit {0}

-- the same, as a file's halt
abbrev pub IsHaltAt : {Error Value : Type 0} → Kind Error Value → List ℕ → Halt (FileError Error) → Type 0
IsHaltAt kind bytes (halt.For TooLong) = ⊥
IsHaltAt kind bytes (halt.For (Within error)) = kind.lacks bytes error
IsHaltAt kind bytes (halt.Unread path) = ⊥
IsHaltAt kind bytes halt.OutOfMemory = Unit {0}

-- ---- what was read of several files

-- what was read so far and what was read last
abbrev pub joined : {Front Last Error : Type 0} → Front → Result Last Error → Result (Front × Last) Error
joined front (Ok last) = Ok (front, last)
joined front (Err error) = Err error
