-- Writes in order, one after another.
use Rattle.std.proofs.Common.{◌≡◌, ℕ, suc, ◌+◌, ◌≤◌, ◌<◌, ◌++◌, ◌∷◌, [], List, length, map, take, drop, get_or, Option, sym, ◌∙◌, ap, subst, refl, arith, add-one}
use Rattle.std.proofs.Math.Seq.{drop-cons, take-suc}
use Rattle.std.proofs.lemmas.List.{map-append, take-append-drop}
use Rattle.eco_outside.specs.Store.{Files, StoreView, WriteFails, WriteKeeps, WriteLacksMemory, WritePuts, put_file}
use Rattle.eco_cli.specs.Answers.{AreWritten, IsFrontWritten, IsLeftInPart, IsWriteStopped, Write, put_all, write_of}
use Rattle.eco_cli.specs.declared.answer.Written.{Written}
use Rattle.eco_inputs.proofs.ReadingLaws.{rose_later}

-- these writes are done so far, and no count of failed writes fell
pub record IsWriting (before now : StoreView) (done : List Write) : Type 0 where
  pub written : AreWritten before now done
  pub counted : before.write_faults ≤ now.write_faults

put_more : (told : Option Files) (done : List Write) (write : Write) → put_all told (done ++ write ∷ []) ≡ put_file (put_all told done) write.path write.bytes
put_more told [] write = refl
put_more told (first ∷ done) write = put_more (put_file told first.path first.bytes) done write

-- one write more is done
pub one_more : (before now after : StoreView) (done : List Write) (write : Write) → IsWriting before now done → WriteKeeps now after → WritePuts now after write.path write.bytes → IsWriting before after (done ++ write ∷ [])
one_more before now after done write so_far keeps puts = record {
  written = record {
    files = puts.files ∙ ap (λ told. put_file told write.path write.bytes) so_far.written.files ∙ sym (put_more before.files done write);
    read_faults = keeps.read_faults ∙ so_far.written.read_faults;
    blamed = puts.blamed ∙ so_far.written.blamed;
    taken = keeps.taken ∙ so_far.written.taken;
  };
  counted = omega (arith, so_far.counted, keeps.write_faults);
}

-- the next write failed
pub next_failed : (before now after : StoreView) (writes done : List Write) (write : Write) (rest : List Write) → writes ≡ done ++ write ∷ rest → IsWriting before now done → WriteFails now after write.path write.bytes → IsWriteStopped before after writes
next_failed before now after writes done write rest cut so_far fails = record {
  front = done;
  failed = write;
  rest = rest;
  cut = cut;
  rose = rose_later before.write_faults now.write_faults after.write_faults so_far.counted fails.rose;
  blamed = fails.blamed;
  left = subst (λ (told : Option Files). IsLeftInPart told after.files write) so_far.written.files fails.files;
}

-- it found no memory
pub next_lacks_memory : (before now after : StoreView) (writes done : List Write) (rest : List Write) → writes ≡ done ++ rest → IsWriting before now done → WriteLacksMemory now after → IsFrontWritten before after writes
next_lacks_memory before now after writes done rest cut so_far lacks = record {
  front = done;
  rest = rest;
  cut = cut;
  files = lacks.files ∙ so_far.written.files;
}

-- ---- the writes by their places

-- those up to this one
pub writes_more : (files : List Written) (i : ℕ) (file : Written) → i < length files → file ≡ get_or files i file → map write_of (take (i + 1) files) ≡ map write_of (take i files) ++ write_of file ∷ []
writes_more files i file inside is =
    ap (λ n. map write_of (take n files)) (add-one i)
    ∙ ap (map write_of) (take-suc files i file inside)
    ∙ map-append write_of (take i files) (get_or files i file ∷ [])
    ∙ ap (λ v. map write_of (take i files) ++ write_of v ∷ []) (sym is)

-- those before it, itself, and the rest
pub writes_cut : (files : List Written) (i : ℕ) (file : Written) → i < length files → file ≡ get_or files i file → map write_of files ≡ map write_of (take i files) ++ write_of file ∷ map write_of (drop (suc i) files)
writes_cut files i file inside is =
    ap (map write_of) (sym (take-append-drop i files))
    ∙ map-append write_of (take i files) (drop i files)
    ∙ ap (λ rest. map write_of (take i files) ++ map write_of rest) (drop-cons files i file inside)
    ∙ ap (λ v. map write_of (take i files) ++ write_of v ∷ map write_of (drop (suc i) files)) (sym is)
