-- The text of a report and its lines.
use Rattle.std.proofs.Common.{◌≡◌, ℕ, ◌<◌, ◌^◌, true, List, [], ◌∷◌, ◌++◌, Option, Some, None, IfSome, length, map, codes, decimal, refl, ap, sym, subst, ◌∙◌, arith}
use Rattle.std.specs.List.{flat_map, AllByRecursion}
use Rattle.std.specs.Prelude.{not, ◌==◌}
use Rattle.std.specs.List.{list_all}
use Rattle.std.proofs.lemmas.Bool.{eqb-false, and_parts, not-true}
use Rattle.std.proofs.lemmas.List.{append_assoc, append-nil}
use Rattle.std.proofs.lemmas.List.Concat.{flat_map-append}
use Rattle.eco_meaning.specs.Bound.{Part, Bound}
use Rattle.eco_meaning.specs.Report.{BaseSignal, TargetGroup, Least, PatchReport}
use Rattle.eco_report.specs.Texts.{bit_digit, base_text, group_text, part_text, bound_text, least_text}
use Rattle.eco_report.specs.Files.{word_text, file_text, IsBaseSignal, IsTargetGroup, IsBoundPart, IsReportBound, IsLeast, IsReport, with_feeds, IsFree}
use Rattle.eco_report.specs.Lines.{named_line, base_lines, group_lines, part_lines, bound_lines, least_lines, file_lines}
use Rattle.eco_report.specs.declared.file.Word.{Word}
use Rattle.eco_report.specs.declared.file.Word.TheVariants.{Rect, Sep, Fix, Eq}
use Rattle.eco_report.specs.declared.file.ReportFile.{ReportFile}
use Rattle.eco_report.specs.declared.file.ReportFile.TheVariants.{Patched, Unrectifiable, Budget}
use Rattle.eco_report.proofs.Fields.{cut_once, not_free, free_append, name_free, number_free, bits_free}
use Rattle.eco_report.proofs.States.{all_append}

-- the lines' texts are the texts
base_row : (w name blank d feed first ones last zeros : List ℕ) → ((w ++ (name ++ (blank ++ d))) ++ feed) ++ ((((first ++ blank) ++ ones) ++ feed) ++ ((((last ++ blank) ++ zeros) ++ feed) ++ [])) ≡ w ++ name ++ blank ++ d ++ feed ++ (first ++ blank ++ ones ++ feed) ++ (last ++ blank ++ zeros ++ feed)
base_row w name blank d feed first ones last zeros = simp (append_assoc, append-nil)

base_feeds : (b : BaseSignal) → with_feeds (base_lines b) ≡ base_text b
base_feeds b =
    base_row (codes "base ") b.signal (codes " ") (decimal b.weight) (codes "\n") (codes "force1") (map bit_digit b.force1) (codes "force0") (map bit_digit b.force0)

bases_feeds : (bs : List BaseSignal) → with_feeds (flat_map base_lines bs) ≡ flat_map base_text bs
bases_feeds [] = refl
bases_feeds (b ∷ bs) =
    flat_map-append (λ line. line ++ codes "\n") (base_lines b) (flat_map base_lines bs) ∙ ap (λ l. l ++ with_feeds (flat_map base_lines bs)) (base_feeds b) ∙ ap (λ l. base_text b ++ l) (bases_feeds bs)

group_row : (w name blank d feed rest : List ℕ) → ((w ++ (name ++ (blank ++ d))) ++ feed) ++ rest ≡ w ++ name ++ blank ++ d ++ feed ++ rest
group_row w name blank d feed rest = simp append_assoc

group_feeds : (g : TargetGroup) → with_feeds (group_lines g) ≡ group_text g
group_feeds g =
    group_row (codes "target ") g.target (codes " ") (decimal (length g.base)) (codes "\n") (with_feeds (flat_map base_lines g.base))
    ∙ ap (λ l. codes "target " ++ g.target ++ codes " " ++ decimal (length g.base) ++ codes "\n" ++ l) (bases_feeds g.base)

groups_feeds : (gs : List TargetGroup) → with_feeds (flat_map group_lines gs) ≡ flat_map group_text gs
groups_feeds [] = refl
groups_feeds (g ∷ gs) =
    flat_map-append (λ line. line ++ codes "\n") (group_lines g) (flat_map group_lines gs) ∙ ap (λ l. l ++ with_feeds (flat_map group_lines gs)) (group_feeds g) ∙ ap (λ l. group_text g ++ l) (groups_feeds gs)

part_row : (a k feed first blank ones last zeros : List ℕ) → ((a ++ k) ++ feed) ++ ((((first ++ blank) ++ ones) ++ feed) ++ ((((last ++ blank) ++ zeros) ++ feed) ++ [])) ≡ a ++ k ++ feed ++ (first ++ blank ++ ones ++ feed) ++ (last ++ blank ++ zeros ++ feed)
part_row a k feed first blank ones last zeros = simp (append_assoc, append-nil)

part_feeds : (p : Part) → with_feeds (part_lines p) ≡ part_text p
part_feeds p =
    part_row (codes "amount ") (decimal p.amount) (codes "\n") (codes "force1") (codes " ") (map bit_digit p.force1) (codes "force0") (map bit_digit p.force0)

parts_feeds : (ps : List Part) → with_feeds (flat_map part_lines ps) ≡ flat_map part_text ps
parts_feeds [] = refl
parts_feeds (p ∷ ps) =
    flat_map-append (λ line. line ++ codes "\n") (part_lines p) (flat_map part_lines ps) ∙ ap (λ l. l ++ with_feeds (flat_map part_lines ps)) (part_feeds p) ∙ ap (λ l. part_text p ++ l) (parts_feeds ps)

bound_feeds : (bound : Option Bound) → with_feeds (bound_lines bound) ≡ bound_text bound
bound_feeds None = refl
bound_feeds (Some b) =
    group_row (codes "bound ") (decimal b.total) (codes " ") (decimal (length b.parts)) (codes "\n") (with_feeds (flat_map part_lines b.parts))
    ∙ ap (λ l. codes "bound " ++ decimal b.total ++ codes " " ++ decimal (length b.parts) ++ codes "\n" ++ l) (parts_feeds b.parts)

least_row : (w name blank d feed rest : List ℕ) → ((w ++ (name ++ (blank ++ d))) ++ feed) ++ rest ≡ (w ++ name ++ blank ++ d ++ feed) ++ rest
least_row w name blank d feed rest = simp append_assoc

least_feeds : (ls : List Least) → with_feeds (flat_map least_lines ls) ≡ flat_map least_text ls
least_feeds [] = refl
least_feeds (l ∷ ls) =
    least_row (codes "least ") l.target (codes " ") (decimal l.cost) (codes "\n") (with_feeds (flat_map least_lines ls)) ∙ ap (λ r. least_text l ++ r) (least_feeds ls)

-- two lists of lines whose texts are known
both_feeds : (a b : List (List ℕ)) (v w : List ℕ) → with_feeds a ≡ v → with_feeds b ≡ w → with_feeds (a ++ b) ≡ v ++ w
both_feeds a b v w e f = flat_map-append (λ line. line ++ codes "\n") a b ∙ ap (λ l. l ++ with_feeds b) e ∙ ap (λ l. v ++ l) f

-- the lines of the targets, of the bound and of what each target costs at least
ending_feeds : (r : PatchReport) → with_feeds (flat_map group_lines r.groups ++ (bound_lines r.bound ++ flat_map least_lines r.least)) ≡ flat_map group_text r.groups ++ (bound_text r.bound ++ flat_map least_text r.least)
ending_feeds r =
    both_feeds (flat_map group_lines r.groups) (bound_lines r.bound ++ flat_map least_lines r.least) (flat_map group_text r.groups) (bound_text r.bound ++ flat_map least_text r.least) (groups_feeds r.groups)
    (both_feeds (bound_lines r.bound) (flat_map least_lines r.least) (bound_text r.bound) (flat_map least_text r.least) (bound_feeds r.bound) (least_feeds r.least))

patch_row : (p feed c cost g gates rest : List ℕ) → (p ++ feed) ++ (((c ++ cost) ++ feed) ++ (((g ++ gates) ++ feed) ++ rest)) ≡ (p ++ feed ++ c) ++ cost ++ (feed ++ g) ++ gates ++ feed ++ rest
patch_row p feed c cost g gates rest = simp append_assoc

input_row : (u feed i blank bits : List ℕ) → (u ++ feed) ++ ((((i ++ blank) ++ bits) ++ feed) ++ []) ≡ (u ++ feed) ++ (i ++ blank ++ bits ++ feed)
input_row u feed i blank bits = simp (append_assoc, append-nil)

budget_row : (b w blank d feed : List ℕ) → ((b ++ (w ++ (blank ++ d))) ++ feed) ++ [] ≡ b ++ w ++ blank ++ d ++ feed
budget_row b w blank d feed = simp (append_assoc, append-nil)

pub file_feeds : (file : ReportFile) → with_feeds (file_lines file) ≡ file_text file
file_feeds (Patched r) =
    patch_row (codes "patched") (codes "\n") (codes "cost ") (decimal r.cost) (codes "gates ") (decimal r.gates) (with_feeds (flat_map group_lines r.groups ++ (bound_lines r.bound ++ flat_map least_lines r.least)))
    ∙ ap (λ l. codes "patched\ncost " ++ decimal r.cost ++ codes "\ngates " ++ decimal r.gates ++ codes "\n" ++ l) (ending_feeds r)
    ∙ sym (append_assoc (codes "patched\ncost " ++ decimal r.cost ++ codes "\ngates " ++ decimal r.gates ++ codes "\n") (flat_map group_text r.groups) (bound_text r.bound ++ flat_map least_text r.least))
    ∙ sym (append_assoc (codes "patched\ncost " ++ decimal r.cost ++ codes "\ngates " ++ decimal r.gates ++ codes "\n" ++ flat_map group_text r.groups) (bound_text r.bound) (flat_map least_text r.least))
file_feeds (Unrectifiable input) = input_row (codes "unrectifiable") (codes "\n") (codes "input") (codes " ") (map bit_digit input)
file_feeds (Budget word limit) = budget_row (codes "budget ") (word_text word) (codes " ") (decimal limit) (codes "\n")

-- no line has a line feed
named_free : (word name : List ℕ) (n : ℕ) → IsFree 10 word → IsFree 10 name → n < 2 ^ 64 → IsFree 10 (named_line word name n)
named_free word name n a b small =
    free_append 10 word (name ++ 32 ∷ decimal n) a (free_append 10 name (32 ∷ decimal n) b (eqb-false 32 10 refl, number_free 10 n (omega arith) small))

-- bytes that pass the test have no line feed
free_by : (bytes : List ℕ) → list_all (λ b. not (b == 10)) bytes ≡ true → IsFree 10 bytes
free_by [] h = tt
free_by (b ∷ more) h =
    let parts = and_parts (not (b == 10)) (list_all (λ c. not (c == 10)) more) h in
    (eqb-false b 10 (not-true (b == 10) parts.0), free_by more parts.1)

base_free : (b : BaseSignal) → IsBaseSignal b → AllByRecursion (IsFree 10) (base_lines b)
base_free b g =
    let weight = g.weight in (
      named_free (codes "base ") b.signal b.weight (free_by (codes "base ") refl) (name_free 10 b.signal (omega arith) g.name) (omega arith),
      (
        free_append 10 (codes "force1 ") (map bit_digit b.force1) (free_by (codes "force1 ") refl) (bits_free 10 b.force1 (omega arith)),
        (free_append 10 (codes "force0 ") (map bit_digit b.force0) (free_by (codes "force0 ") refl) (bits_free 10 b.force0 (omega arith)), tt),
      ),
    )

bases_free : (bs : List BaseSignal) → AllByRecursion IsBaseSignal bs → AllByRecursion (IsFree 10) (flat_map base_lines bs)
bases_free [] g = tt
bases_free (b ∷ bs) g = all_append (IsFree 10) (base_lines b) (flat_map base_lines bs) (base_free b g.0) (bases_free bs g.1)

groups_free : (gs : List TargetGroup) → AllByRecursion IsTargetGroup gs → AllByRecursion (IsFree 10) (flat_map group_lines gs)
groups_free [] g = tt
groups_free (x ∷ gs) g =
    let count = g.0.count in
    all_append (IsFree 10) (group_lines x) (flat_map group_lines gs) (
      named_free (codes "target ") x.target (length x.base) (free_by (codes "target ") refl) (name_free 10 x.target (omega arith) g.0.name) count,
      bases_free x.base g.0.base,
    )
    (groups_free gs g.1)

part_free : (p : Part) → IsBoundPart p → AllByRecursion (IsFree 10) (part_lines p)
part_free p g =
    let most = g.most in (
      free_append 10 (codes "amount ") (decimal p.amount) (free_by (codes "amount ") refl) (number_free 10 p.amount (omega arith) (omega arith)),
      (
        free_append 10 (codes "force1 ") (map bit_digit p.force1) (free_by (codes "force1 ") refl) (bits_free 10 p.force1 (omega arith)),
        (free_append 10 (codes "force0 ") (map bit_digit p.force0) (free_by (codes "force0 ") refl) (bits_free 10 p.force0 (omega arith)), tt),
      ),
    )

parts_free : (ps : List Part) → AllByRecursion IsBoundPart ps → AllByRecursion (IsFree 10) (flat_map part_lines ps)
parts_free [] g = tt
parts_free (p ∷ ps) g = all_append (IsFree 10) (part_lines p) (flat_map part_lines ps) (part_free p g.0) (parts_free ps g.1)

bound_free : (bound : Option Bound) → IfSome bound IsReportBound → AllByRecursion (IsFree 10) (bound_lines bound)
bound_free None g = tt
bound_free (Some b) g = (
  named_free (codes "bound ") (decimal b.total) (length b.parts) (free_by (codes "bound ") refl) (number_free 10 b.total (omega arith) g.total) g.count,
  parts_free b.parts g.parts,
)

least_free : (ls : List Least) → AllByRecursion IsLeast ls → AllByRecursion (IsFree 10) (flat_map least_lines ls)
least_free [] g = tt
least_free (l ∷ ls) g = (named_free (codes "least ") l.target l.cost (free_by (codes "least ") refl) (name_free 10 l.target (omega arith) g.0.name) g.0.cost, least_free ls g.1)

word_line_free : (w : Word) → IsFree 10 (word_text w)
word_line_free Rect = free_by (codes "rect") refl
word_line_free Sep = free_by (codes "sep") refl
word_line_free Fix = free_by (codes "fix") refl
word_line_free Eq = free_by (codes "eq") refl

pub file_free : (file : ReportFile) → IsReport file → AllByRecursion (IsFree 10) (file_lines file)
file_free (Patched r) g = (
  free_by (codes "patched") refl,
  (
    free_append 10 (codes "cost ") (decimal r.cost) (free_by (codes "cost ") refl) (number_free 10 r.cost (omega arith) g.cost),
    (
      free_append 10 (codes "gates ") (decimal r.gates) (free_by (codes "gates ") refl) (number_free 10 r.gates (omega arith) g.gates),
      all_append (IsFree 10) (flat_map group_lines r.groups) (bound_lines r.bound ++ flat_map least_lines r.least) (groups_free r.groups g.groups)
          (all_append (IsFree 10) (bound_lines r.bound) (flat_map least_lines r.least) (bound_free r.bound g.bound) (least_free r.least g.least)),
    ),
  ),
)
file_free (Unrectifiable input) g = (
  free_by (codes "unrectifiable") refl,
  (free_append 10 (codes "input ") (map bit_digit input) (free_by (codes "input ") refl) (bits_free 10 input (omega arith)), tt),
)
file_free (Budget word limit) g =
    let most = g.1 in
    (named_free (codes "budget ") (word_text word) limit (free_by (codes "budget ") refl) (word_line_free word) (omega arith), tt)

-- a line, its line feed and what is behind it
pub first_line : (line : List ℕ) (lines : List (List ℕ)) (rest : List ℕ) → with_feeds (line ∷ lines) ++ rest ≡ line ++ 10 ∷ (with_feeds lines ++ rest)
first_line line lines rest = simp append_assoc

no_line : (line rest : List ℕ) → [] ≡ line ++ 10 ∷ rest → ⊥
no_line [] rest e = cc
no_line (b ∷ line) rest e = cc

-- lines that a text begins with are its first lines
pub prefix_lines : (ls ms : List (List ℕ)) (rest : List ℕ) → AllByRecursion (IsFree 10) ls → AllByRecursion (IsFree 10) ms → with_feeds ls ≡ with_feeds ms ++ rest → (after : List (List ℕ)) × (ls ≡ ms ++ after) × (with_feeds after ≡ rest)
prefix_lines ls [] rest f g e = (ls, refl, e)
prefix_lines [] (m ∷ ms) rest f g e = absurd (no_line m (with_feeds ms ++ rest) (e ∙ first_line m ms rest))
prefix_lines (l ∷ ls) (m ∷ ms) rest f g e =
    let row : l ++ 10 ∷ with_feeds ls ≡ m ++ 10 ∷ (with_feeds ms ++ rest) = sym (append_assoc l (10 ∷ []) (with_feeds ls)) ∙ e ∙ first_line m ms rest in
    let same = cut_once 10 l (with_feeds ls) m (with_feeds ms ++ rest) row f.0 g.0 in
    let more = prefix_lines ls ms rest f.1 g.1 same.1 in
    (more.0, ap (λ x. x ∷ ls) same.0 ∙ ap (λ x. m ∷ x) more.1, more.2)

-- bytes have their lines in one way
pub lines_once : (e : List (List ℕ)) (l : List ℕ) (d : List (List ℕ)) (k : List ℕ) → AllByRecursion (IsFree 10) e → AllByRecursion (IsFree 10) d → IsFree 10 l → IsFree 10 k → with_feeds e ++ l ≡ with_feeds d ++ k → (e ≡ d) × (l ≡ k)
lines_once [] l [] k f g h i row = (refl, row)
lines_once [] l (m ∷ d) k f g h i row =
    absurd (not_free 10 m (with_feeds d ++ k) (subst (IsFree 10) (row ∙ first_line m d k) h))
lines_once (m ∷ e) l [] k f g h i row =
    absurd (not_free 10 m (with_feeds e ++ l) (subst (IsFree 10) (sym row ∙ first_line m e l) i))
lines_once (m ∷ e) l (n ∷ d) k f g h i row =
    let same = cut_once 10 m (with_feeds e ++ l) n (with_feeds d ++ k) (sym (first_line m e l) ∙ row ∙ first_line n d k) f.0 g.0 in
    let more = lines_once e l d k f.1 g.1 h i same.1 in
    (ap (λ x. x ∷ e) same.0 ∙ ap (λ x. n ∷ x) more.0, more.1)
