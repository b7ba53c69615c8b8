-- What the reader answers is so.
use Rattle.std.proofs.Common.{◌≡◌, ◌≢◌, ◌⊎◌, ℕ, suc, ◌+◌, ◌≤◌, eqb, List, [], ◌∷◌, ◌++◌, Option, Some, None, Result, Ok, Err, MatchResult, IfOk, IfErr, length, refl, ap, sym, subst, ◌∙◌, inl, inr, arith}
use Rattle.std.specs.List.{AllByRecursion}
use Rattle.std.proofs.lemmas.Bool.{cases_Bool, eqb-true, eqb-false}
use Rattle.std.proofs.lemmas.List.{append_assoc, length-append, append-nil}
use Rattle.std.proofs.lemmas.List.Concat.{flat_map-append}
use Rattle.eco_meaning.specs.Bound.{Bound}
use Rattle.eco_meaning.specs.Report.{Least, PatchReport}
use Rattle.eco_report.specs.Files.{file_text, IsReport, IsReportText, with_feeds, IsFree, AreLines, and_left, CanBegin, IsWrongLine, EndsEarly, IsFirstBadLine, IsRefused}
use Rattle.eco_report.specs.Reading.{IsCut, Next, Runs, IsReading}
use Rattle.eco_report.specs.Lines.{file_lines, lines_before, IsSound}
use Rattle.eco_report.specs.declared.error.ReportError.{ReportError}
use Rattle.eco_report.specs.declared.error.ReportError.TheVariants.{Line, OutOfMemory}
use Rattle.eco_report.specs.declared.file.ReportFile.{ReportFile}
use Rattle.eco_report.specs.declared.file.ReportFile.TheVariants.{Patched, Unrectifiable, Budget}
use Rattle.eco_report.specs.declared.state.State.{State}
use Rattle.eco_report.specs.declared.state.State.TheVariants.{First, Input, Cost, Gates, Target, Base, Force1, Force0, Parts, PartForce1, PartForce0, Ending, Over}
use Rattle.eco_report.proofs.Once.{runs_once, runs_append, runs_split}
use Rattle.eco_report.proofs.States.{all_append, bare_lines, runs_lines}
use Rattle.eco_report.proofs.Whole.{Completes, state_completes, end_of_patch, end_of, run_file}
use Rattle.eco_report.proofs.Texts.{file_feeds, file_free, first_line, prefix_lines, lines_once}

feeds_append : (a b : List (List ℕ)) → with_feeds (a ++ b) ≡ with_feeds a ++ with_feeds b
feeds_append a b = flat_map-append (λ line. line ++ 10 ∷ []) a b

-- lines that some report's lines begin with can begin a report
can_begin : (lines : List (List ℕ)) → Completes lines → CanBegin lines
can_begin lines c =
    record {
      file = c.file;
      more = with_feeds c.more;
      report = c.report;
      text = sym (file_feeds c.file) ∙ ap with_feeds c.joined ∙ feeds_append lines c.more;
    }

begin_fewer : (lines more : List (List ℕ)) → CanBegin (lines ++ more) → CanBegin lines
begin_fewer lines more c =
    record {
      file = c.file;
      more = with_feeds more ++ c.more;
      report = c.report;
      text = c.text ∙ ap (λ l. l ++ c.more) (feeds_append lines more) ∙ append_assoc (with_feeds lines) (with_feeds more) c.more;
    }

-- what was read stands in the lines
run_sound : (lines : List (List ℕ)) (state : State) → Runs First lines state → IsSound state × (lines_before state ≡ lines)
run_sound lines state run = runs_lines lines First state tt run

run_begins : (lines : List (List ℕ)) (state : State) → Runs First lines state → CanBegin lines
run_begins lines state run =
    let sound = run_sound lines state run in
    can_begin lines (subst Completes sound.1 (state_completes state sound.0))

-- a report's text has its lines
text_lines : (file : ReportFile) (ended : List (List ℕ)) (left : List ℕ) → IsReport file → AllByRecursion (IsFree 10) ended → IsFree 10 left → file_text file ≡ with_feeds ended ++ left → (file_lines file ≡ ended) × ([] ≡ left)
text_lines file ended left report whole last e =
    lines_once (file_lines file) [] ended left (file_free file report) whole tt last
    (append-nil (with_feeds (file_lines file)) ∙ file_feeds file ∙ e)

-- a line that can't stand behind lines doesn't
cant : (lines : List (List ℕ)) (state : State) (line : List ℕ) → Runs First lines state → AllByRecursion (IsFree 10) lines → IsFree 10 line → ((next : State) → Next state line next → ⊥) → CanBegin (lines ++ line ∷ []) → ⊥
cant lines state line run whole free none c =
    let p = prefix_lines (file_lines c.file) (lines ++ line ∷ []) c.more (file_free c.file c.report) (all_append (IsFree 10) lines (line ∷ []) whole (free, tt)) (file_feeds c.file ∙ c.text) in
    let all : Runs First ((lines ++ line ∷ []) ++ p.0) (end_of c.file) = subst (λ ls. Runs First ls (end_of c.file)) p.1 (run_file c.file c.report) in
    let front = runs_split (lines ++ line ∷ []) p.0 First (end_of c.file) all in
    let parts = runs_split lines (line ∷ []) First front.0 front.1 in
    let same = runs_once lines First parts.0 state parts.1 run in
    none parts.2.0 (subst (λ s. Next s line parts.2.0) same parts.2.1)

-- no report's text ends in another state than a report's end
early : (lines : List (List ℕ)) (state : State) (file : ReportFile) → Runs First lines state → IsReport file → file_lines file ≡ lines → state ≡ end_of file
early lines state file run report e =
    runs_once lines First state (end_of file) run (subst (λ ls. Runs First ls (end_of file)) e (run_file file report))

-- the end of the text
pub finish_is : (bytes : List ℕ) (number : ℕ) (state : State) (file : ReportFile) → (IsSound state → IsReport file × (lines_before state ≡ file_lines file)) → IsReading bytes [] number state → IsReportText bytes file
finish_is bytes number state file whole r =
    let sound = run_sound r.lines state r.run in
    let is = whole sound.0 in
    record {
      report = is.0;
      text = r.cut ∙ append-nil (with_feeds r.lines) ∙ ap with_feeds (sym sound.1 ∙ is.1) ∙ file_feeds file;
    }

-- what is read of a patch up to its targets is its report
pub target_ends : (r : PatchReport) → IsSound (Target r) → IsReport (Patched r) × (lines_before (Target r) ≡ file_lines (Patched r))
target_ends r g = (g.0, sym (bare_lines r g.1))

pub finish_early : (bytes : List ℕ) (number : ℕ) (state : State) → ((file : ReportFile) → state ≡ end_of file → ⊥) → IsReading bytes [] number state → IsFirstBadLine bytes number
finish_early bytes number state none r =
    record {
      ended = r.lines;
      left = [];
      lines = record { cut = r.cut; whole = r.whole; last = tt };
      fault = inr (record {
        number = r.counted;
        begins = run_begins r.lines state r.run;
        none = λ file is.
            let same = text_lines file r.lines [] is.report r.whole tt (sym is.text ∙ r.cut) in
            none file (early r.lines state file r.run is.report same.0);
      });
    }

-- a last line that can't stand there
pub last_wrong : (bytes left : List ℕ) (number : ℕ) (state : State) → 1 ≤ length left → ((next : State) → Next state left next → ⊥) → IsReading bytes left number state → IsFree 10 left → IsFirstBadLine bytes number
last_wrong bytes [] number state some none r free = absurd (omega arith)
last_wrong bytes (b ∷ left) number state some none r free =
    record {
      ended = r.lines;
      left = b ∷ left;
      lines = record { cut = r.cut; whole = r.whole; last = free };
      fault = inl (record {
        before = r.lines;
        line = b ∷ left;
        after = [];
        cut = refl;
        number = r.counted;
        begins = run_begins r.lines state r.run;
        fault = cant r.lines state (b ∷ left) r.run r.whole free none;
      });
    }

-- a last line without its line feed
pub last_early : (bytes left : List ℕ) (number : ℕ) (state next : State) → 1 ≤ length left → Next state left next → IsReading bytes left number state → IsFree 10 left → IsFirstBadLine bytes (number + 1)
last_early bytes [] number state next some n r free = absurd (omega arith)
last_early bytes (b ∷ left) number state next some n r free =
    let counted = r.counted in
    record {
      ended = r.lines;
      left = b ∷ left;
      lines = record { cut = r.cut; whole = r.whole; last = free };
      fault = inr (record {
        number = omega (arith, length-append r.lines ((b ∷ left) ∷ []));
        begins = run_begins (r.lines ++ (b ∷ left) ∷ []) next (runs_append r.lines ((b ∷ left) ∷ []) First state next r.run (next, n, refl));
        none = λ file is.
            let same = text_lines file r.lines (b ∷ left) is.report r.whole free (sym is.text ∙ r.cut) in
            cc (same.1);
      });
    }

-- the bytes have lines
add_byte : (b : ℕ) (more : List ℕ) (ended : List (List ℕ)) (left : List ℕ) → (b ≡ 10) ⊎ (b ≢ 10) → AreLines more ended left → (e : List (List ℕ)) × (l : List ℕ) × AreLines (b ∷ more) e l
add_byte b more ended left (inl is) a =
    ([] ∷ ended, left, record { cut = ap (λ x. x ∷ more) is ∙ ap (λ xs. 10 ∷ xs) a.cut; whole = (tt, a.whole); last = a.last })
add_byte b more [] left (inr is) a = ([], b ∷ left, record { cut = ap (λ xs. b ∷ xs) a.cut; whole = tt; last = (is, a.last) })
add_byte b more (l ∷ ended) left (inr is) a =
    ((b ∷ l) ∷ ended, left, record { cut = ap (λ xs. b ∷ xs) a.cut; whole = ((is, a.whole.0), a.whole.1); last = a.last })

is_feed : (b : ℕ) → (b ≡ 10) ⊎ (b ≢ 10)
is_feed b = elim (cases_Bool (eqb b 10)) [ inl e ↦ inl (eqb-true b 10 e) | inr e ↦ inr (eqb-false b 10 e) ]

have_lines : (bytes : List ℕ) → (e : List (List ℕ)) × (l : List ℕ) × AreLines bytes e l
have_lines [] = ([], [], record { cut = refl; whole = tt; last = tt })
have_lines (b ∷ more) =
    let a = have_lines more in
    add_byte b more a.0 a.1 (is_feed b) a.2

-- the lines in front stay in front
left_behind : (a b : List (List ℕ)) (left : List ℕ) → and_left (a ++ b) left ≡ a ++ and_left b left
left_behind a b [] = refl
left_behind a b (x ∷ left) = append_assoc a b ((x ∷ left) ∷ [])

cut_more : (lines : List (List ℕ)) (line rest : List ℕ) → with_feeds lines ++ (line ++ 10 ∷ rest) ≡ with_feeds (lines ++ line ∷ []) ++ rest
cut_more lines line rest =
    sym (ap (λ l. l ++ rest) (feeds_append lines (line ∷ [])) ∙ append_assoc (with_feeds lines) (with_feeds (line ∷ [])) rest ∙ ap (λ l. with_feeds lines ++ l) (first_line line [] rest))

-- a line that can't stand there
pub line_wrong : (bytes rest line more : List ℕ) (number : ℕ) (state : State) → IsCut 10 rest line more → ((next : State) → Next state line next → ⊥) → IsReading bytes rest number state → IsFirstBadLine bytes number
line_wrong bytes rest line more number state row none r =
    let a = have_lines more in
    let whole : bytes ≡ with_feeds (r.lines ++ line ∷ []) ++ (with_feeds a.0 ++ a.1) = r.cut ∙ ap (λ l. with_feeds r.lines ++ l) row.row ∙ cut_more r.lines line more ∙ ap (λ l. with_feeds (r.lines ++ line ∷ []) ++ l) a.2.cut in
    let joined : with_feeds (r.lines ++ line ∷ []) ++ (with_feeds a.0 ++ a.1) ≡ with_feeds ((r.lines ++ line ∷ []) ++ a.0) ++ a.1 =
    sym (append_assoc (with_feeds (r.lines ++ line ∷ [])) (with_feeds a.0) a.1) ∙ ap (λ l. l ++ a.1) (sym (feeds_append (r.lines ++ line ∷ []) a.0)) in
    record {
      ended = (r.lines ++ line ∷ []) ++ a.0;
      left = a.1;
      lines = record {
        cut = whole ∙ joined;
        whole = all_append (IsFree 10) (r.lines ++ line ∷ []) a.0 (all_append (IsFree 10) r.lines (line ∷ []) r.whole (row.free, tt)) a.2.whole;
        last = a.2.last;
      };
      fault = inl (record {
        before = r.lines;
        line = line;
        after = and_left a.0 a.1;
        cut = left_behind (r.lines ++ line ∷ []) a.0 a.1 ∙ append_assoc r.lines (line ∷ []) (and_left a.0 a.1);
        number = r.counted;
        begins = run_begins r.lines state r.run;
        fault = cant r.lines state line r.run r.whole row.free none;
      });
    }

-- a line more
pub line_read : (bytes rest line more : List ℕ) (number : ℕ) (state next : State) → IsCut 10 rest line more → Next state line next → IsReading bytes rest number state → IsReading bytes more (number + 1) next
line_read bytes rest line more number state next row n r =
    let counted = r.counted in
    record {
      lines = r.lines ++ line ∷ [];
      cut = r.cut ∙ ap (λ l. with_feeds r.lines ++ l) row.row ∙ cut_more r.lines line more;
      whole = all_append (IsFree 10) r.lines (line ∷ []) r.whole (row.free, tt);
      counted = omega (arith, length-append r.lines (line ∷ []));
      run = runs_append r.lines (line ∷ []) First state next r.run (next, n, refl);
    }

pub cut_length : (mark : ℕ) (bytes front back : List ℕ) → IsCut mark bytes front back → length back + 1 ≤ length bytes
cut_length mark bytes front back c = omega (arith, ap length c.row, length-append front (mark ∷ back))

-- a text is that of one report
file_of : State → ReportFile
file_of (Target r) = Patched r
file_of (Ending r) = Patched r
file_of (Over file) = file
file_of First = Unrectifiable []
file_of Input = Unrectifiable []
file_of Cost = Unrectifiable []
file_of (Gates n) = Unrectifiable []
file_of (Base o) = Unrectifiable []
file_of (Force1 o n w) = Unrectifiable []
file_of (Force0 o n w f) = Unrectifiable []
file_of (Parts o) = Unrectifiable []
file_of (PartForce1 o n) = Unrectifiable []
file_of (PartForce0 o n f) = Unrectifiable []

file_of_patch : (r : PatchReport) (bound : Option Bound) (least : List Least) → file_of (end_of_patch r bound least) ≡ Patched r
unfolding file_of
file_of_patch r None [] = refl
file_of_patch r None (l ∷ ls) = refl
file_of_patch r (Some b) ls = refl

file_of_end : (file : ReportFile) → file_of (end_of file) ≡ file
unfolding file_of
file_of_end (Patched r) = file_of_patch r r.bound r.least
file_of_end (Unrectifiable input) = refl
file_of_end (Budget word limit) = refl

pub report_once : (one other : ReportFile) → IsReport one → IsReport other → file_text one ≡ file_text other → one ≡ other
report_once one other g h e =
    let same = text_lines one (file_lines other) [] g (file_free other h) tt (e ∙ sym (file_feeds other) ∙ sym (append-nil (with_feeds (file_lines other)))) in
    let ends = early (file_lines other) (end_of one) other (subst (λ ls. Runs First ls (end_of one)) same.0 (run_file one g)) h refl in
    sym (file_of_end one) ∙ ap file_of ends ∙ file_of_end other

-- a report's text has no line at fault
no_fault : (bytes : List ℕ) (file : ReportFile) (n : ℕ) → IsReportText bytes file → IsFirstBadLine bytes n → ⊥
no_fault bytes file n is f =
    elim f.fault [
      | inl wrong ↦
          let same = text_lines file f.ended f.left is.report f.lines.whole f.lines.last (sym is.text ∙ f.lines.cut) in
          let joined : file_lines file ≡ (wrong.before ++ wrong.line ∷ []) ++ wrong.after =
          same.0 ∙ ap (and_left f.ended) same.1 ∙ wrong.cut ∙ sym (append_assoc wrong.before (wrong.line ∷ []) wrong.after) in
          wrong.fault (can_begin (wrong.before ++ wrong.line ∷ []) (record { file = file; more = wrong.after; report = is.report; joined = joined }))
      | inr ends ↦ ends.none file is
    ]

-- two places in a list are one, or one is behind the other
places : (a : List (List ℕ)) (x : List ℕ) (b c : List (List ℕ)) (y : List ℕ) (d : List (List ℕ)) → a ++ x ∷ b ≡ c ++ y ∷ d → (length a ≡ length c) ⊎ (((k : List (List ℕ)) × (c ≡ (a ++ x ∷ []) ++ k)) ⊎ ((k : List (List ℕ)) × (a ≡ (c ++ y ∷ []) ++ k)))
places [] x b [] y d e = inl refl
places [] x b (z ∷ c) y d e = let same : z ≡ x = cc in inr (inl (c, ap (λ v. v ∷ c) same))
places (z ∷ a) x b [] y d e = let same : z ≡ y = cc in inr (inr (a, ap (λ v. v ∷ a) same))
places (z ∷ a) x b (w ∷ c) y d e =
    let first : z ≡ w = cc in
    let rest : a ++ x ∷ b ≡ c ++ y ∷ d = cc in
    elim (places a x b c y d rest) [
      | inl same ↦ inl (ap (λ n. suc n) same)
      | inr (inl p) ↦ inr (inl (p.0, ap (λ v. v ∷ c) (sym first) ∙ ap (λ l. z ∷ l) p.1))
      | inr (inr p) ↦ inr (inr (p.0, ap (λ v. v ∷ a) first ∙ ap (λ l. w ∷ l) p.1))
    ]

wrong_once : (l k : List (List ℕ)) (n m : ℕ) → l ≡ k → IsWrongLine l n → IsWrongLine k m → n ≡ m
wrong_once l k n m e f g =
    elim (places f.before f.line f.after g.before g.line g.after (sym f.cut ∙ e ∙ g.cut)) [
      | inl same ↦ f.number ∙ ap (λ c. c + 1) same ∙ sym g.number
      | inr (inl p) ↦ absurd (f.fault (begin_fewer (f.before ++ f.line ∷ []) p.0 (subst CanBegin p.1 g.begins)))
      | inr (inr p) ↦ absurd (g.fault (begin_fewer (g.before ++ g.line ∷ []) p.0 (subst CanBegin p.1 f.begins)))
    ]

wrong_not_early : (bytes : List ℕ) (l k : List (List ℕ)) (n m : ℕ) → l ≡ k → IsWrongLine l n → EndsEarly bytes k m → ⊥
wrong_not_early bytes l k n m e f g =
    f.fault (begin_fewer (f.before ++ f.line ∷ []) f.after (subst CanBegin (sym e ∙ f.cut ∙ sym (append_assoc f.before (f.line ∷ []) f.after)) g.begins))

fault_once : (bytes : List ℕ) (n m : ℕ) → IsFirstBadLine bytes n → IsFirstBadLine bytes m → n ≡ m
fault_once bytes n m f g =
    let same = lines_once f.ended f.left g.ended g.left f.lines.whole g.lines.whole f.lines.last g.lines.last (sym f.lines.cut ∙ g.lines.cut) in
    let lines : and_left f.ended f.left ≡ and_left g.ended g.left = ap (λ e. and_left e f.left) same.0 ∙ ap (and_left g.ended) same.1 in
    elim (f.fault) [
      | inl a ↦ elim (g.fault) [ inl b ↦ wrong_once _ _ n m lines a b | inr b ↦ absurd (wrong_not_early bytes _ _ n m lines a b) ]
      | inr a ↦ elim (g.fault) [
        | inl b ↦ absurd (wrong_not_early bytes _ _ m n (sym lines) b a)
        | inr b ↦ a.number ∙ ap (λ l. length l + 1) lines ∙ sym b.number
      ]
    ]

-- where memory is had, each answer comes wherever it stands
pub ok_there : (bytes : List ℕ) (r : Result ReportFile ReportError) → IfOk r (IsReportText bytes) → IfErr r (IsRefused bytes) → (file : ReportFile) → IsReportText bytes file → MatchResult r (λ found. found ≡ file) (λ e. e ≡ OutOfMemory)
ok_there bytes (Ok found) good bad file is = report_once found file good.report is.report (sym good.text ∙ is.text)
ok_there bytes (Err (Line n)) good bad file is = absurd (no_fault bytes file n is bad)
ok_there bytes (Err OutOfMemory) good bad file is = refl

pub line_there : (bytes : List ℕ) (r : Result ReportFile ReportError) → IfOk r (IsReportText bytes) → IfErr r (IsRefused bytes) → (n : ℕ) → IsFirstBadLine bytes n → MatchResult r (λ found. ⊥) (λ e. (e ≡ Line n) ⊎ (e ≡ OutOfMemory))
line_there bytes (Ok found) good bad n is = no_fault bytes found n good is
line_there bytes (Err (Line m)) good bad n is = inl (ap (λ k. Line k) (fault_once bytes m n bad is))
line_there bytes (Err OutOfMemory) good bad n is = inr refl

-- a state that is none of the three is no report's end
not_patch_end : (state : State) → ((r : PatchReport) → state ≡ Target r → ⊥) → ((r : PatchReport) → state ≡ Ending r → ⊥) → (r : PatchReport) (bound : Option Bound) (least : List Least) → state ≡ end_of_patch r bound least → ⊥
not_patch_end state target ending r None [] e = target r e
not_patch_end state target ending r None (l ∷ ls) e = ending r e
not_patch_end state target ending r (Some b) ls e = ending r e

pub not_end : (state : State) → ((r : PatchReport) → state ≡ Target r → ⊥) → ((r : PatchReport) → state ≡ Ending r → ⊥) → ((file : ReportFile) → state ≡ Over file → ⊥) → (file : ReportFile) → state ≡ end_of file → ⊥
not_end state target ending over (Patched r) e = not_patch_end state target ending r r.bound r.least e
not_end state target ending over (Unrectifiable input) e = over (Unrectifiable input) e
not_end state target ending over (Budget word limit) e = over (Budget word limit) e

-- nothing is left
pub nothing_left_ok : (left : List ℕ) (number : ℕ) (state : State) (r : Result ReportFile ReportError) → length left ≡ 0 → IfOk r (λ file. (bytes : List ℕ) → IsReading bytes [] number state → IsReportText bytes file) → IfOk r (λ file. (bytes : List ℕ) → IsReading bytes left number state → IsFree 10 left → IsReportText bytes file)
nothing_left_ok [] number state (Ok file) none h = λ bytes r free. h bytes r
nothing_left_ok [] number state (Err e) none h = tt
nothing_left_ok (b ∷ left) number state r none h = absurd (omega arith)

pub nothing_left_err : (left : List ℕ) (number : ℕ) (state : State) (r : Result ReportFile ReportError) → length left ≡ 0 → IfErr r (λ e. (bytes : List ℕ) → IsReading bytes [] number state → IsRefused bytes e) → IfErr r (λ e. (bytes : List ℕ) → IsReading bytes left number state → IsFree 10 left → IsRefused bytes e)
nothing_left_err [] number state (Ok file) none h = tt
nothing_left_err [] number state (Err e) none h = λ bytes r free. h bytes r
nothing_left_err (b ∷ left) number state r none h = absurd (omega arith)

-- all lines were read
pub all_read : (bytes rest : List ℕ) (number : ℕ) (state : State) (r : Result ReportFile ReportError) → IsReading bytes rest number state → IsFree 10 rest → IfOk r (λ file. (all : List ℕ) → IsReading all rest number state → IsFree 10 rest → IsReportText all file) → IfOk r (IsReportText bytes)
all_read bytes rest number state (Ok file) reading free h = h bytes reading free
all_read bytes rest number state (Err e) reading free h = tt
