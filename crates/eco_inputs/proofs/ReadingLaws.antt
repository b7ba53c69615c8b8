-- What a file gives, and the rows behind it.
use Rattle.std.proofs.Common.{◌≡◌, inl, inr, ℕ, ◌≤◌, ◌<◌, List, length, Option, Some, None, Result, Ok, Err, IfOk, IfErr, IsErrAnd, MatchResult, sym, ◌∙◌, ap, subst, refl, arith}
use Rattle.eco_outside.specs.Store.{Files, StoreView, Rose, ReadGives, ReadKeeps, WhereKnown, content}
use Rattle.eco_inputs.specs.declared.halt.Halt.{Halt}
use Rattle.eco_inputs.specs.declared.halt.Halt.TheVariants as halt
use Rattle.eco_inputs.specs.declared.halt.FileError.{FileError}
use Rattle.eco_inputs.specs.declared.halt.FileError.TheVariants.{TooLong, Within}
use Rattle.eco_inputs.specs.Reading.{Oversize, Halts, IsKind, IsPassed, IsRead, IsReported, Kind, Succeeds, file_row, halt_as, joined, determined_file}
use Rattle.eco_inputs.specs.Rows.{IsRow, Row, both_rows, four_rows, named_row, then_row, three_rows, value_row}

-- ---- one file

-- bytes that were read say something: so does the file
read_from : {Said : Type 0} (says : List ℕ → Said → Type 0) (before after : StoreView) (path bytes : List ℕ) (most : ℕ) → ReadGives before after path most bytes → (said : Said) → says bytes said → IsRead says before.files path most said
read_from says before after path bytes most gives said h = record { bytes = bytes; short = gives.bounded; of_file = gives.told; holds = h }

-- ---- the rows behind

-- a row that is passed is passed as a command's
pub passed_as : {Own Cause Value : Type 0} (make : Own → Cause) (row : Row (Option Files) Own Value) (before after : StoreView) (value : Value) → IsPassed row before after value → IsPassed (named_row make row) before after value
passed_as make row before after value h = record { passed = h.passed; no_fault = h.no_fault }

-- nothing was read
pub kept_reads : (store : StoreView) → ReadKeeps store store
kept_reads store = record { files = refl; write_faults = refl; read_faults = omega arith }

-- a count that rose later rose since
pub rose_later : (before mid after : ℕ) → before ≤ mid → Rose mid after → Rose before after
rose_later before mid after kept rose = omega arith

told_later : (oversize : Option Oversize) (before mid after : StoreView) → ReadKeeps before mid → WhereKnown before.files (λ _. mid.read_faults ≡ before.read_faults) → IsReported oversize mid after → IsReported oversize before after
told_later None before mid after keeps quiet h = tt
told_later (Some oversize) before mid after keeps quiet h = record {
  taken = h.taken;
  blamed = h.blamed;
  no_fault = λ files is. h.no_fault files (keeps.files ∙ is) ∙ quiet files is;
}

module _ {Cause : Type 0} (too_long : Cause → Option Oversize) where
  -- the rows in front stop
  pub front_halts : {Value Next : Type 0} (row : Row (Option Files) Cause Value) (next : Value → Row (Option Files) Cause Next) (before after : StoreView) (why : Halt Cause) → Halts too_long row before after why → Halts too_long (then_row row next) before after why
  front_halts row next before after (halt.For cause) h = (inl h.0, h.1)
  front_halts row next before after (halt.Unread path) h = (inl h.0, h.1)
  front_halts row next before after halt.OutOfMemory h = tt

  -- a row stops whose causes are a command's
  pub named_halts : {Own Value : Type 0} (own_long : Own → Option Oversize) (make : Own → Cause) (row : Row (Option Files) Own Value) (before after : StoreView) → ((own : Own) → too_long (make own) ≡ own_long own) → (why : Halt Own) → Halts own_long row before after why → (shown : Halt Cause) → shown ≡ halt_as make why → Halts too_long (named_row make row) before after shown
  named_halts own_long make row before after same (halt.For own) h shown is =
      subst (Halts too_long (named_row make row) before after) (sym is) ((own, refl, h.0), subst (λ e. IsReported e before after) (sym (same own)) h.1)
  named_halts own_long make row before after same (halt.Unread path) h shown is =
      subst (Halts too_long (named_row make row) before after) (sym is) (h.0, h.1)
  named_halts own_long make row before after same halt.OutOfMemory h shown is = subst (Halts too_long (named_row make row) before after) (sym is) tt

  -- the rows stop at the first one
  pub first_halts : {Own Value Next : Type 0} (own_long : Own → Option Oversize) (make : Own → Cause) (row : Row (Option Files) Own Value) (next : Value → Row (Option Files) Cause Next) (before after : StoreView) → ((own : Own) → too_long (make own) ≡ own_long own) → (why : Halt Own) → Halts own_long row before after why → (shown : Halt Cause) → shown ≡ halt_as make why → Halts too_long (then_row (named_row make row) next) before after shown
  first_halts own_long make row next before after same why h shown is =
      front_halts (named_row make row) next before after shown (named_halts own_long make row before after same why h shown is)

  -- the first one is passed, and they stop behind it
  pub later_halts : {Value Next : Type 0} (row : Row (Option Files) Cause Value) (next : Value → Row (Option Files) Cause Next) (before mid after : StoreView) (m : Value) → ReadKeeps before mid → IsPassed row before mid m → (why : Halt Cause) → Halts too_long (next m) mid after why → Halts too_long (then_row row next) before after why
  later_halts row next before mid after m keeps passed (halt.For cause) h = (
    inr (m, passed.passed, subst (λ told. (next m).stands told cause) keeps.files h.0),
    told_later (too_long cause) before mid after keeps passed.no_fault h.1,
  )
  later_halts row next before mid after m keeps passed (halt.Unread path) h = (
    inr (m, passed.passed, subst (λ told. (next m).reads told path.now) keeps.files h.0),
    record { rose = rose_later before.read_faults mid.read_faults after.read_faults keeps.read_faults h.1.rose; blamed = h.1.blamed },
  )
  later_halts row next before mid after m keeps passed halt.OutOfMemory h = tt

  -- the first one is passed, and this is what the rows behind it come to
  pub later_ends : {Value Next Made : Type 0} (row : Row (Option Files) Cause Value) (next : Value → Row (Option Files) Cause Next) (P : Made → Next → Type 0) (before mid after : StoreView) (m : Value) → ReadKeeps before mid → IsPassed row before mid m → (r : Result Made (Halt Cause)) → MatchResult r (λ made. Succeeds (next m) mid.files (P made)) (Halts too_long (next m) mid after) → MatchResult r (λ made. Succeeds (then_row row next) before.files (P made)) (Halts too_long (then_row row next) before after)
  later_ends row next P before mid after m keeps passed (Ok made) h =
      (h.0, (m, passed.passed, subst (λ told. (next m).passes told h.0) keeps.files h.1), h.2)
  later_ends row next P before mid after m keeps passed (Err why) h = later_halts row next before mid after m keeps passed why h

  -- the first one is passed, and so are the rows behind it
  pub later_passed : {Value Next : Type 0} (row : Row (Option Files) Cause Value) (next : Value → Row (Option Files) Cause Next) (before mid after : StoreView) (m : Value) → ReadKeeps before mid → IsPassed row before mid m → (r : Result Next (Halt Cause)) → IfOk r (IsPassed (next m) mid after) → IfOk r (IsPassed (then_row row next) before after)
  later_passed row next before mid after m keeps passed (Ok value) h = record {
    passed = (m, passed.passed, subst (λ told. (next m).passes told value) keeps.files h.passed);
    no_fault = λ files is. h.no_fault files (keeps.files ∙ is) ∙ passed.no_fault files is;
  }
  later_passed row next before mid after m keeps passed (Err why) h = tt

  -- the first one is passed, and the rows behind it stop
  pub later_stops : {Value Next : Type 0} (row : Row (Option Files) Cause Value) (next : Value → Row (Option Files) Cause Next) (before mid after : StoreView) (m : Value) → ReadKeeps before mid → IsPassed row before mid m → (r : Result Next (Halt Cause)) → IfErr r (Halts too_long (next m) mid after) → IfErr r (Halts too_long (then_row row next) before after)
  later_stops row next before mid after m keeps passed (Ok value) h = tt
  later_stops row next before mid after m keeps passed (Err why) h = later_halts row next before mid after m keeps passed why h

-- ---- two rows, of which the second doesn't turn on what the first gives

-- one read after another
pub keeps_on : (before mid after : StoreView) → ReadKeeps before mid → ReadKeeps mid after → ReadKeeps before after
keeps_on before mid after first second = record {
  files = second.files ∙ first.files;
  write_faults = second.write_faults ∙ first.write_faults;
  read_faults = let one = first.read_faults in let other = second.read_faults in omega arith;
}

-- the first one is passed, and so is the second
pub both_passed : {Cause First Second : Type 0} (first : Row (Option Files) Cause First) (second : Row (Option Files) Cause Second) (before mid after : StoreView) (a : First) → ReadKeeps before mid → IsPassed first before mid a → (last : Result Second (Halt Cause)) → IfOk last (IsPassed second mid after) → (both : First × Second) → joined a last ≡ Ok both → IsPassed (both_rows first second) before after both
both_passed first second before mid after a keeps passed (Err own) h both is = absurd cc
both_passed {Cause} {First} {Second} first second before mid after a keeps passed (Ok b) h both is =
    let same : (a, b) ≡ both = cc in
    subst (λ (read : First × Second). IsPassed (both_rows first second) before after read) same (record {
      passed = (a, passed.passed, (b, subst (λ told. second.passes told b) keeps.files h.passed, (tt, refl)));
      no_fault = λ files told. h.no_fault files (keeps.files ∙ told) ∙ passed.no_fault files told;
    })

-- the first one is passed, and the second stops
both_stop : {Cause First Second : Type 0} (too_long : Cause → Option Oversize) (first : Row (Option Files) Cause First) (second : Row (Option Files) Cause Second) (before mid after : StoreView) (a : First) → ReadKeeps before mid → IsPassed first before mid a → (last : Result Second (Halt Cause)) → IfErr last (Halts too_long second mid after) → (why : Halt Cause) → joined a last ≡ Err why → Halts too_long (both_rows first second) before after why
both_stop too_long first second before mid after a keeps passed (Ok b) h why is = absurd cc
both_stop {Cause} {First} {Second} too_long first second before mid after a keeps passed (Err own) h why is =
    let same : own ≡ why = cc in
    later_halts too_long {Next = First × Second} first (λ front. then_row second (λ last. value_row (front, last))) before mid after a keeps passed why
    (front_halts too_long {Next = First × Second} second (λ last. value_row (a, last)) mid after why (subst (Halts too_long second mid after) same h))

-- the first one stops
both_front : {Cause First Second : Type 0} (too_long : Cause → Option Oversize) (first : Row (Option Files) Cause First) (second : Row (Option Files) Cause Second) (before after : StoreView) (why : Halt Cause) → Halts too_long first before after why → Halts too_long (both_rows first second) before after why
both_front {Cause} {First} {Second} too_long first second before after why h =
    front_halts too_long {Next = First × Second} first (λ front. then_row second (λ last. value_row (front, last))) before after why h

-- of three such rows one behind the first stops
module _ {Cause A B C Value : Type 0} (too_long : Cause → Option Oversize) (make : (A × B) × C → Value) (a : Row (Option Files) Cause A) (b : Row (Option Files) Cause B) (c : Row (Option Files) Cause C) (before mid after : StoreView) where
  third_halts : (why : Halt Cause) → Halts too_long (both_rows (both_rows a b) c) before after why → Halts too_long (three_rows make a b c) before after why
  third_halts why h = front_halts too_long (both_rows (both_rows a b) c) (λ read. value_row (make read)) before after why h

  pub second_of_three : (x : A) → ReadKeeps before mid → IsPassed a before mid x → (last : Result B (Halt Cause)) → IfErr last (Halts too_long b mid after) → (why : Halt Cause) → joined x last ≡ Err why → Halts too_long (three_rows make a b c) before after why
  second_of_three x keeps passed last h why is =
      third_halts why (both_front too_long (both_rows a b) c before after why (both_stop too_long a b before mid after x keeps passed last h why is))

  pub third_of_three : (xs : A × B) → ReadKeeps before mid → IsPassed (both_rows a b) before mid xs → (last : Result C (Halt Cause)) → IfErr last (Halts too_long c mid after) → (why : Halt Cause) → joined xs last ≡ Err why → Halts too_long (three_rows make a b c) before after why
  third_of_three xs keeps passed last h why is = third_halts why (both_stop too_long (both_rows a b) c before mid after xs keeps passed last h why is)

-- of four such rows one behind the first stops
module _ {Cause A B C D Value : Type 0} (too_long : Cause → Option Oversize) (make : ((A × B) × C) × D → Value) (a : Row (Option Files) Cause A) (b : Row (Option Files) Cause B) (c : Row (Option Files) Cause C) (d : Row (Option Files) Cause D) (before mid after : StoreView) where
  abbrev three : Row (Option Files) Cause ((A × B) × C)
  three = both_rows (both_rows a b) c

  fourth_halts : (why : Halt Cause) → Halts too_long (both_rows three d) before after why → Halts too_long (four_rows make a b c d) before after why
  fourth_halts why h = front_halts too_long (both_rows three d) (λ read. value_row (make read)) before after why h

  pub second_stops : (x : A) → ReadKeeps before mid → IsPassed a before mid x → (last : Result B (Halt Cause)) → IfErr last (Halts too_long b mid after) → (why : Halt Cause) → joined x last ≡ Err why → Halts too_long (four_rows make a b c d) before after why
  second_stops x keeps passed last h why is =
      fourth_halts why (both_front too_long three d before after why (both_front too_long (both_rows a b) c before after why
      (both_stop too_long a b before mid after x keeps passed last h why is)))

  pub third_stops : (xs : A × B) → ReadKeeps before mid → IsPassed (both_rows a b) before mid xs → (last : Result C (Halt Cause)) → IfErr last (Halts too_long c mid after) → (why : Halt Cause) → joined xs last ≡ Err why → Halts too_long (four_rows make a b c d) before after why
  third_stops xs keeps passed last h why is =
      fourth_halts why (both_front too_long three d before after why (both_stop too_long (both_rows a b) c before mid after xs keeps passed last h why is))

  pub fourth_stops : (xs : (A × B) × C) → ReadKeeps before mid → IsPassed three before mid xs → (last : Result D (Halt Cause)) → IfErr last (Halts too_long d mid after) → (why : Halt Cause) → joined xs last ≡ Err why → Halts too_long (four_rows make a b c d) before after why
  fourth_stops xs keeps passed last h why is = fourth_halts why (both_stop too_long three d before mid after xs keeps passed last h why is)

-- what was read before is the front of both, and what holds of what was read last holds of their last
pub joined_front : {Front Last Error : Type 0} (front : Front) (last : Result Last Error) (both : Front × Last) → joined front last ≡ Ok both → both.0 ≡ front
joined_front front (Err why) both is = absurd cc
joined_front {Front} {Last} front (Ok value) both is =
    let same : (front, value) ≡ both = cc in
    sym (ap (λ (read : Front × Last). read.0) same)

pub joined_last : {Front Last Error : Type 0} (P : Last → Type 0) (front : Front) (last : Result Last Error) → IfOk last P → (both : Front × Last) → joined front last ≡ Ok both → P both.1
joined_last P front (Err why) h both is = absurd cc
joined_last {Front} {Last} P front (Ok value) h both is =
    let same : (front, value) ≡ both = cc in
    subst (λ (read : Front × Last). P read.1) same h

-- an error that is passed on
pub passed_on : {Value Error : Type 0} (P : Error → Type 0) (why : Error) → P why → (result : Result Value Error) → IsErrAnd result (λ e. e ≡ why) → IfErr result P
passed_on P why h (Ok value) is = absurd is
passed_on P why h (Err error) is = subst P (sym is) h

-- ---- a file's row is one

not_long : (path : List ℕ) (most : ℕ) (files : Files) (bytes : List ℕ) → most < length (content files path) → length bytes ≤ most → bytes ≡ content files path → ⊥
not_long path most files bytes long short is =
    let much : most < length bytes = subst (λ b. most < length b) (sym is) long in
    omega arith

file_once : {Error Value : Type 0} (determine : Error → Error) (kind : Kind Error Value) → IsKind determine kind → (path : List ℕ) (most : ℕ) (files : Files) → (a b : FileError Error) → (file_row kind path most).stands (Some files) a → (file_row kind path most).stands (Some files) b → determined_file determine a ≡ determined_file determine b
file_once determine kind law path most files TooLong TooLong x y = refl
file_once determine kind law path most files TooLong (Within b) x y = absurd (not_long path most files y.bytes (x files refl) y.short (y.of_file files refl))
file_once determine kind law path most files (Within a) TooLong x y = absurd (not_long path most files x.bytes (y files refl) x.short (x.of_file files refl))
file_once determine kind law path most files (Within a) (Within b) x y =
    ap Within (law.once x.bytes a b x.holds (subst (λ bytes. kind.lacks bytes b) (y.of_file files refl ∙ sym (x.of_file files refl)) y.holds))

file_apart : {Error Value : Type 0} (determine : Error → Error) (kind : Kind Error Value) → IsKind determine kind → (path : List ℕ) (most : ℕ) (files : Files) → (a : FileError Error) (v : Value) → (file_row kind path most).stands (Some files) a → (file_row kind path most).passes (Some files) v → ⊥
file_apart determine kind law path most files TooLong v x y = not_long path most files y.bytes (x files refl) y.short (y.of_file files refl)
file_apart determine kind law path most files (Within a) v x y =
    law.apart x.bytes a v x.holds (subst (λ bytes. kind.gives bytes v) (y.of_file files refl ∙ sym (x.of_file files refl)) y.holds)

-- where the store tells its files, at most one error of a file stands, none where it gives a value, and it gives one at most
pub file_law : {Error Value : Type 0} (determine : Error → Error) (kind : Kind Error Value) → IsKind determine kind → (path : List ℕ) (most : ℕ) (files : Files) → IsRow (determined_file determine) (file_row kind path most) (Some files)
file_law determine kind law path most files = record {
  once = file_once determine kind law path most files;
  apart = file_apart determine kind law path most files;
  same = λ v w x y. law.same x.bytes v w x.holds (subst (λ bytes. kind.gives bytes w) (y.of_file files refl ∙ sym (x.of_file files refl)) y.holds);
}
