-- What a command comes to, and what of it is written and printed.
use Rattle.std.specs.Prelude.{◌≡◌, ◌⊎◌, ℕ, List, [], ◌∷◌, ◌++◌, map, take, codes, Option, Some}
use Rattle.eco_pose.specs.declared.unfinished.Stuck.{Stuck}
use Rattle.eco_outside.specs.declared.blame.Blame.TheVariants.{WriteFailed}
use Rattle.eco_outside.specs.Store.{Files, StoreView, Rose, put_file}
use Rattle.eco_outside.specs.Sink.{SinkView, PutFails, append_piece}
use Rattle.eco_cli.specs.declared.answer.Answer.{Answer}
use Rattle.eco_cli.specs.declared.answer.Written.{Written}
use Rattle.eco_cli.specs.declared.answer.Status.{Status}
use Rattle.eco_cli.specs.declared.answer.Status.TheVariants.{Done, No, Usage, Refused, Spent, ReadFault, WriteFault, OutOfMemory}

-- the exit status
abbrev pub code_of : Status → ℕ
code_of Done = 0
code_of No = 1
code_of Usage = 2
code_of Refused = 3
code_of Spent = 4
code_of ReadFault = 5
code_of WriteFault = 6
code_of OutOfMemory = 7

-- a file to write, and all its bytes
pub record Write : Type 0 where
  pub path : List ℕ
  pub bytes : List ℕ

abbrev pub write_of : Written → Write
write_of written = record { path = written.path.now; bytes = written.bytes.items }

-- the files that an answer writes, in order
abbrev pub writes_of : Answer → List Write
writes_of answer = map write_of answer.writes.items

-- it writes no file, and ends with this status and text
abbrev pub IsTextAnswer : ℕ → List ℕ → Answer → Type 0
IsTextAnswer status text answer =
    (code_of answer.status ≡ status) × (writes_of answer ≡ []) × (answer.text.items ≡ text)

-- it writes no file, and keeps this question that was given up, with this text
abbrev pub IsSpentAnswer : List ℕ → Stuck → Answer → Type 0
IsSpentAnswer text stuck answer =
    (code_of answer.status ≡ 4) × (writes_of answer ≡ []) × (answer.stuck ≡ Some stuck) × (answer.text.items ≡ text)

-- what is printed of a file that can't be read
abbrev pub failed_text : List ℕ → List ℕ
failed_text path = codes "failed " ++ path ++ codes "\n"

-- the files with these writes done one after another, all others as they were
abbrev pub put_all : Option Files → List Write → Option Files
put_all told [] = told
put_all told (write ∷ writes) = put_all (put_file told write.path write.bytes) writes

-- the text was put on the sink, which answers the status, or that the put failed, or that memory could not be had
abbrev pub IsPut : SinkView → SinkView → List ℕ → ℕ → ℕ → Type 0
IsPut before after text status answer =
    ((answer ≡ status) × (after.written ≡ append_piece before.written text))
    ⊎ ((answer ≡ 6) × PutFails before after text)
    ⊎ ((answer ≡ 7) × (after.written ≡ before.written))

-- what is left of a file whose write failed: what it held, or a front part of the bytes
abbrev pub IsLeftInPart : Option Files → Option Files → Write → Type 0
IsLeftInPart before after write =
    (after ≡ before) ⊎ ((count : ℕ) × (after ≡ put_file before write.path (take count write.bytes)))

-- all the writes are done, one after another, and the store tells of no call that went wrong since
pub record AreWritten (before after : StoreView) (writes : List Write) : Type 0 where
  pub files : after.files ≡ put_all before.files writes
  pub read_faults : after.read_faults ≡ before.read_faults
  pub blamed : after.blamed ≡ before.blamed
  pub taken : after.taken ≡ before.taken

-- A write failed: a front of the writes stands whole, the next one in part, and the later ones are untouched. The store's
-- count of failed writes rose, and it blames the file of that write.
pub record IsWriteStopped (before after : StoreView) (writes : List Write) : Type 0 where
  pub front : List Write
  pub failed : Write
  pub rest : List Write
  pub cut : writes ≡ front ++ failed ∷ rest
  pub rose : Rose before.write_faults after.write_faults
  pub blamed : after.blamed ≡ Some (WriteFailed, failed.path)
  pub left : IsLeftInPart (put_all before.files front) after.files failed

-- a front of the writes stands whole, and the later ones are untouched
pub record IsFrontWritten (before after : StoreView) (writes : List Write) : Type 0 where
  pub front : List Write
  pub rest : List Write
  pub cut : writes ≡ front ++ rest
  pub files : after.files ≡ put_all before.files front

-- How an answer came out: all is written and the text put on the sink; or a write failed; or memory could not be had.
-- Nothing is printed before all is written.
abbrev pub IsDelivered : List Write → List ℕ → ℕ → StoreView → StoreView → SinkView → SinkView → ℕ → Type 0
IsDelivered writes text status store_before store_after sink_before sink_after answer =
    (AreWritten store_before store_after writes × IsPut sink_before sink_after text status answer)
    ⊎ ((answer ≡ 6) × IsWriteStopped store_before store_after writes × (sink_after ≡ sink_before))
    ⊎ ((answer ≡ 7) × IsFrontWritten store_before store_after writes × (sink_after ≡ sink_before))
