-- What was read can be gone on with, and stands in the lines.
use Rattle.std.proofs.Common.{◌≡◌, ℕ, ◌+◌, ◌-◌, ◌≤◌, cond, eqb, List, [], ◌∷◌, ◌++◌, Some, length, codes, decimal, refl, ap, sym, subst, ◌∙◌, inl, inr, arith}
use Rattle.std.specs.List.{flat_map, AllByRecursion}
use Rattle.std.proofs.lemmas.Bool.{cases_Bool, eqb-true, eqb-false, ne_eqb}
use Rattle.std.proofs.lemmas.List.{append_assoc, length-append, append-nil}
use Rattle.std.proofs.lemmas.List.Concat.{flat_map-append}
use Rattle.eco_meaning.specs.Bound.{Part, Bound}
use Rattle.eco_meaning.specs.Report.{BaseSignal, TargetGroup, Least, PatchReport}
use Rattle.eco_report.specs.Files.{IsBaseSignal, IsTargetGroup, IsBoundPart, IsReportBound, IsLeast, IsPatchReport}
use Rattle.eco_report.specs.Reading.{bits_line, with_group, with_base, next_state, with_bound, with_least, with_part, next_part, Next, Runs}
use Rattle.eco_report.specs.Lines.{named_line, base_lines, group_lines, front_lines, part_lines, bound_lines, least_lines, patch_lines, open_lines, open_bound_lines, lines_before, IsBare, IsOpen, IsOpenBound, IsSound}
use Rattle.eco_report.specs.declared.state.Open.{Open}
use Rattle.eco_report.specs.declared.state.OpenBound.{OpenBound}
use Rattle.eco_report.specs.declared.state.State.{State}
use Rattle.eco_report.specs.declared.state.State.TheVariants.{First, Input, Cost, Gates, Target, Base, Force1, Force0, Parts, PartForce1, PartForce0, Ending, Over}

pub all_append : {X : Type 0} (P : X → Type 0) (xs ys : List X) → AllByRecursion P xs → AllByRecursion P ys → AllByRecursion P (xs ++ ys)
all_append P [] ys a b = b
all_append P (x ∷ xs) ys a b = (a.0, all_append P xs ys a.1 b)

-- what holds of a target's part holds of it where it is whole
pub next_state_zero : (o : Open) → o.left ≡ 0 → next_state o ≡ Target (with_group o.report o.group)
next_state_zero o e = ap (λ n. cond (eqb n 0) (Target (with_group o.report o.group)) (Base o)) e

pub next_state_more : (o : Open) → 1 ≤ o.left → next_state o ≡ Base o
next_state_more o h = ap (λ b. cond b (Target (with_group o.report o.group)) (Base o)) (ne_eqb o.left 0 (λ e. omega arith))

next_cases : (P : State → Type 0) (o : Open) → (o.left ≡ 0 → P (Target (with_group o.report o.group))) → (1 ≤ o.left → P (Base o)) → P (next_state o)
next_cases P o none some =
    elim (cases_Bool (eqb o.left 0)) [
      | inl e ↦ let z = eqb-true o.left 0 e in subst P (sym (next_state_zero o z)) (none z)
      | inr e ↦
          let n = eqb-false o.left 0 e in
          let h : 1 ≤ o.left = omega (arith, n) in
          subst P (sym (next_state_more o h)) (some h)
    ]

-- and what holds of a bound's part
pub next_part_zero : (o : OpenBound) → o.left ≡ 0 → next_part o ≡ Ending (with_bound o.report o.bound)
next_part_zero o e = ap (λ n. cond (eqb n 0) (Ending (with_bound o.report o.bound)) (Parts o)) e

pub next_part_more : (o : OpenBound) → 1 ≤ o.left → next_part o ≡ Parts o
next_part_more o h = ap (λ b. cond b (Ending (with_bound o.report o.bound)) (Parts o)) (ne_eqb o.left 0 (λ e. omega arith))

part_cases : (P : State → Type 0) (o : OpenBound) → (o.left ≡ 0 → P (Ending (with_bound o.report o.bound))) → (1 ≤ o.left → P (Parts o)) → P (next_part o)
part_cases P o none some =
    elim (cases_Bool (eqb o.left 0)) [
      | inl e ↦ let z = eqb-true o.left 0 e in subst P (sym (next_part_zero o z)) (none z)
      | inr e ↦
          let n = eqb-false o.left 0 e in
          let h : 1 ≤ o.left = omega (arith, n) in
          subst P (sym (next_part_more o h)) (some h)
    ]

-- a report without what may stand behind the targets has the lines up to the last target's
pub bare_lines : (r : PatchReport) → IsBare r → patch_lines r ≡ front_lines r
bare_lines r bare =
    ap (λ b. front_lines r ++ (bound_lines b ++ flat_map least_lines r.least)) bare.bound ∙ ap (λ ls. front_lines r ++ flat_map least_lines ls) bare.least ∙ append-nil (front_lines r)

-- what one more target costs at least
pub least_more : (r : PatchReport) (l : Least) → patch_lines (with_least r l) ≡ patch_lines r ++ least_lines l
least_more r l =
    ap (λ ls. front_lines r ++ (bound_lines r.bound ++ ls)) (flat_map-append least_lines r.least (l ∷ []))
    ∙ ap (λ ls. front_lines r ++ ls) (sym (append_assoc (bound_lines r.bound) (flat_map least_lines r.least) (least_lines l)))
    ∙ sym (append_assoc (front_lines r) (bound_lines r.bound ++ flat_map least_lines r.least) (least_lines l))

pub least_sound : (r : PatchReport) (l : Least) → IsPatchReport r → IsLeast l → IsPatchReport (with_least r l)
least_sound r l g h =
    record { cost = g.cost; gates = g.gates; groups = g.groups; bound = g.bound; least = all_append IsLeast r.least (l ∷ []) g.least (h, tt) }

-- a target more
pub patch_more : (r : PatchReport) (g : TargetGroup) → front_lines (with_group r g) ≡ front_lines r ++ group_lines g
patch_more r g =
    let more = flat_map-append group_lines r.groups (g ∷ []) ∙ ap (λ l. flat_map group_lines r.groups ++ l) (append-nil (group_lines g)) in
    ap (λ l. codes "patched" ∷ (codes "cost " ++ decimal r.cost) ∷ (codes "gates " ++ decimal r.gates) ∷ l) more

-- a base signal more
pub open_more : (o : Open) (b : BaseSignal) → 1 ≤ o.left → open_lines (with_base o b) ≡ open_lines o ++ base_lines b
open_more o b h =
    let count : length (o.group.base ++ b ∷ []) + (o.left - 1) ≡ length o.group.base + o.left = omega (arith, length-append o.group.base (b ∷ [])) in
    let more = flat_map-append base_lines o.group.base (b ∷ []) ∙ ap (λ l. flat_map base_lines o.group.base ++ l) (append-nil (base_lines b)) in
    ap (λ n. front_lines o.report ++ named_line (codes "target ") o.group.target n ∷ flat_map base_lines (o.group.base ++ b ∷ [])) count
    ∙ ap (λ l. front_lines o.report ++ named_line (codes "target ") o.group.target (length o.group.base + o.left) ∷ l) more
    ∙ sym (append_assoc (front_lines o.report) (named_line (codes "target ") o.group.target (length o.group.base + o.left) ∷ flat_map base_lines o.group.base) (base_lines b))

-- a part more
pub part_more : (o : OpenBound) (p : Part) → 1 ≤ o.left → open_bound_lines (with_part o p) ≡ open_bound_lines o ++ part_lines p
part_more o p h =
    let total = decimal o.bound.total in
    let count : length (o.bound.parts ++ p ∷ []) + (o.left - 1) ≡ length o.bound.parts + o.left = omega (arith, length-append o.bound.parts (p ∷ [])) in
    let more = flat_map-append part_lines o.bound.parts (p ∷ []) ∙ ap (λ l. flat_map part_lines o.bound.parts ++ l) (append-nil (part_lines p)) in
    ap (λ n. front_lines o.report ++ named_line (codes "bound ") total n ∷ flat_map part_lines (o.bound.parts ++ p ∷ [])) count
    ∙ ap (λ l. front_lines o.report ++ named_line (codes "bound ") total (length o.bound.parts + o.left) ∷ l) more
    ∙ sym (append_assoc (front_lines o.report) (named_line (codes "bound ") total (length o.bound.parts + o.left) ∷ flat_map part_lines o.bound.parts) (part_lines p))

next_part_lines : (o : OpenBound) → IsBare o.report → lines_before (next_part o) ≡ open_bound_lines o
next_part_lines o bare =
    part_cases (λ s. lines_before s ≡ open_bound_lines o) o
    (λ z.
    let count : length o.bound.parts ≡ length o.bound.parts + o.left = omega (arith, z) in
    ap (λ ls. front_lines o.report ++ (bound_lines (Some o.bound) ++ flat_map least_lines ls)) bare.least
    ∙ ap (λ ls. front_lines o.report ++ ls) (append-nil (bound_lines (Some o.bound)))
    ∙ ap (λ n. front_lines o.report ++ named_line (codes "bound ") (decimal o.bound.total) n ∷ flat_map part_lines o.bound.parts) count)
    (λ h. refl)

next_state_lines : (o : Open) → lines_before (next_state o) ≡ open_lines o
next_state_lines o =
    next_cases (λ s. lines_before s ≡ open_lines o) o
    (λ z.
    let count : length o.group.base ≡ length o.group.base + o.left = omega (arith, z) in
    patch_more o.report o.group ∙ ap (λ n. front_lines o.report ++ named_line (codes "target ") o.group.target n ∷ flat_map base_lines o.group.base) count)
    (λ h. refl)

-- a line more
pub next_lines : (s : State) (line : List ℕ) (t : State) → IsSound s → Next s line t → lines_before t ≡ lines_before s ++ line ∷ []
next_lines First line t g (inl a) = ap lines_before a.1 ∙ ap (λ l. l ∷ []) (sym a.0)
next_lines First line t g (inr (inl a)) = ap lines_before a.1 ∙ ap (λ l. l ∷ []) (sym a.0)
next_lines First line t g (inr (inr a)) = ap lines_before a.3 ∙ ap (λ l. l ∷ []) (sym a.2.text)
next_lines Input line t g a = ap lines_before a.2 ∙ ap (λ l. codes "unrectifiable" ∷ l ∷ []) (sym a.1)
next_lines Cost line t g a = ap lines_before a.2 ∙ ap (λ l. codes "patched" ∷ l ∷ []) (sym a.1.text)
next_lines (Gates cost) line t g a =
    ap lines_before a.2 ∙ ap (λ l. codes "patched" ∷ (codes "cost " ++ decimal cost) ∷ l ∷ []) (sym a.1.text)
next_lines (Target report) line t g (inl a) =
    let o : Open = record { report = report; group = record { target = a.0; base = [] }; left = a.1 } in
    let count : 0 + a.1 ≡ a.1 = omega arith in
    ap lines_before a.3 ∙ next_state_lines o ∙ ap (λ n. front_lines report ++ named_line (codes "target ") a.0 n ∷ []) count ∙ ap (λ l. front_lines report ++ l ∷ []) (sym a.2.text)
next_lines (Target report) line t g (inr (inr a)) =
    let l : Least = record { target = a.0; cost = a.1 } in
    ap lines_before a.3 ∙ least_more report l ∙ ap (λ ls. ls ++ least_lines l) (bare_lines report g.1) ∙ ap (λ l. front_lines report ++ l ∷ []) (sym a.2.text)
next_lines (Target report) line t g (inr (inl a)) =
    let o : OpenBound = record { report = report; bound = record { total = a.0; parts = [] }; left = a.1 } in
    let count : 0 + a.1 ≡ a.1 = omega arith in
    ap lines_before a.3 ∙ next_part_lines o g.1 ∙ ap (λ n. front_lines report ++ named_line (codes "bound ") (decimal a.0) n ∷ []) count ∙ ap (λ l. front_lines report ++ l ∷ []) (sym a.2.text)
next_lines (Base o) line t g a = ap lines_before a.3 ∙ ap (λ l. open_lines o ++ l ∷ []) (sym a.2.named.text)
next_lines (Force1 o name weight) line t g a =
    ap lines_before a.2 ∙ ap (λ l. open_lines o ++ named_line (codes "base ") name weight ∷ l ∷ []) (sym a.1)
    ∙ sym (append_assoc (open_lines o) (named_line (codes "base ") name weight ∷ []) (line ∷ []))
next_lines (Force0 o name weight force1) line t g a =
    let b : BaseSignal = record { signal = name; weight = weight; force1 = force1; force0 = a.0 } in
    ap lines_before a.2 ∙ next_state_lines (with_base o b) ∙ open_more o b g.some
    ∙ ap (λ l. open_lines o ++ named_line (codes "base ") name weight ∷ bits_line (codes "force1 ") force1 ∷ l ∷ []) (sym a.1)
    ∙ sym (append_assoc (open_lines o) (named_line (codes "base ") name weight ∷ bits_line (codes "force1 ") force1 ∷ []) (line ∷ []))
next_lines (Parts o) line t g a = ap lines_before a.2 ∙ ap (λ l. open_bound_lines o ++ l ∷ []) (sym a.1.text)
next_lines (PartForce1 o amount) line t g a =
    ap lines_before a.2 ∙ ap (λ l. open_bound_lines o ++ (codes "amount " ++ decimal amount) ∷ l ∷ []) (sym a.1)
    ∙ sym (append_assoc (open_bound_lines o) ((codes "amount " ++ decimal amount) ∷ []) (line ∷ []))
next_lines (PartForce0 o amount force1) line t g a =
    let p : Part = record { amount = amount; force1 = force1; force0 = a.0 } in
    ap lines_before a.2 ∙ next_part_lines (with_part o p) g.part.bare ∙ part_more o p g.some
    ∙ ap (λ l. open_bound_lines o ++ (codes "amount " ++ decimal amount) ∷ bits_line (codes "force1 ") force1 ∷ l ∷ []) (sym a.1)
    ∙ sym (append_assoc (open_bound_lines o) ((codes "amount " ++ decimal amount) ∷ bits_line (codes "force1 ") force1 ∷ []) (line ∷ []))
next_lines (Ending report) line t g a =
    ap lines_before a.3 ∙ least_more report (record { target = a.0; cost = a.1 }) ∙ ap (λ l. patch_lines report ++ l ∷ []) (sym a.2.text)
next_lines (Over file) line t g a = absurd a

-- a target's part with a base signal more
pub open_next : (o : Open) (b : BaseSignal) → 1 ≤ o.left → IsOpen o → IsBaseSignal b → IsOpen (with_base o b)
open_next o b h g sound =
    let count = g.count in
    record {
      before = g.before;
      bare = g.bare;
      name = g.name;
      count = omega (arith, length-append o.group.base (b ∷ []));
      base = all_append IsBaseSignal o.group.base (b ∷ []) g.base (sound, tt);
    }

next_state_sound : (o : Open) → IsOpen o → IsSound (next_state o)
next_state_sound o g =
    next_cases IsSound o
    (λ z.
    let count = g.count in (
      record {
        cost = g.before.cost;
        gates = g.before.gates;
        groups = all_append IsTargetGroup o.report.groups (o.group ∷ []) g.before.groups ((record { name = g.name; count = omega (arith, z); base = g.base }), tt);
        bound = g.before.bound;
        least = g.before.least;
      },
      record { bound = g.bare.bound; least = g.bare.least },
    ))
    (λ h. (g, h))

-- a bound's part with a part more
pub open_bound_next : (o : OpenBound) (p : Part) → 1 ≤ o.left → IsOpenBound o → IsBoundPart p → IsOpenBound (with_part o p)
open_bound_next o p h g sound =
    let count = g.count in
    record {
      before = g.before;
      bare = g.bare;
      total = g.total;
      count = omega (arith, length-append o.bound.parts (p ∷ []));
      parts = all_append IsBoundPart o.bound.parts (p ∷ []) g.parts (sound, tt);
    }

-- a report with a bound that is whole
pub bound_sound : (r : PatchReport) (b : Bound) → IsPatchReport r → IsReportBound b → IsPatchReport (with_bound r b)
bound_sound r b g h = record { cost = g.cost; gates = g.gates; groups = g.groups; bound = h; least = g.least }

next_part_sound : (o : OpenBound) → IsOpenBound o → IsSound (next_part o)
next_part_sound o g =
    part_cases IsSound o
    (λ z.
    let count = g.count in
    bound_sound o.report o.bound g.before (record { total = g.total; count = omega (arith, z); parts = g.parts }))
    (λ h. (g, h))

pub next_sound : (s : State) (line : List ℕ) (t : State) → IsSound s → Next s line t → IsSound t
next_sound First line t g (inl a) = subst IsSound (sym a.1) tt
next_sound First line t g (inr (inl a)) = subst IsSound (sym a.1) tt
next_sound First line t g (inr (inr a)) = subst IsSound (sym a.3) (a.2.least, a.2.most)
next_sound Input line t g a = subst IsSound (sym a.2) tt
next_sound Cost line t g a = subst IsSound (sym a.2) a.1.limit
next_sound (Gates cost) line t g a = subst IsSound (sym a.2) ((record { cost = g; gates = a.1.limit; groups = tt; bound = tt; least = tt }), record { bound = refl; least = refl })
next_sound (Target report) line t g (inl a) =
    let o : Open = record { report = report; group = record { target = a.0; base = [] }; left = a.1 } in
    let small = a.2.limit in
    subst IsSound (sym a.3) (next_state_sound o (record { before = g.0; bare = g.1; name = a.2.printing; count = omega arith; base = tt }))
next_sound (Target report) line t g (inr (inr a)) =
    subst IsSound (sym a.3) (least_sound report (record { target = a.0; cost = a.1 }) g.0 (record { name = a.2.printing; cost = a.2.limit }))
next_sound (Target report) line t g (inr (inl a)) =
    let o : OpenBound = record { report = report; bound = record { total = a.0; parts = [] }; left = a.1 } in
    let small = a.2.second in
    subst IsSound (sym a.3) (next_part_sound o (record { before = g.0; bare = g.1; total = a.2.first; count = omega arith; parts = tt }))
next_sound (Base o) line t g a =
    subst IsSound (sym a.3) (record { part = g.0; some = g.1; name = a.2.named.printing; limit = a.2.limit })
next_sound (Force1 o name weight) line t g a = subst IsSound (sym a.2) (record { part = g.part; some = g.some; name = g.name; limit = g.limit })
next_sound (Force0 o name weight force1) line t g a =
    let b : BaseSignal = record { signal = name; weight = weight; force1 = force1; force0 = a.0 } in
    subst IsSound (sym a.2) (next_state_sound (with_base o b) (open_next o b g.some g.part (record { name = g.name; weight = g.limit })))
next_sound (Parts o) line t g a =
    subst IsSound (sym a.2) (record { part = g.0; some = g.1; least = a.1.least; most = a.1.most })
next_sound (PartForce1 o amount) line t g a = subst IsSound (sym a.2) (record { part = g.part; some = g.some; least = g.least; most = g.most })
next_sound (PartForce0 o amount force1) line t g a =
    let p : Part = record { amount = amount; force1 = force1; force0 = a.0 } in
    subst IsSound (sym a.2) (next_part_sound (with_part o p) (open_bound_next o p g.some g.part (record { least = g.least; most = g.most })))
next_sound (Ending report) line t g a =
    subst IsSound (sym a.3) (least_sound report (record { target = a.0; cost = a.1 }) g (record { name = a.2.printing; cost = a.2.limit }))
next_sound (Over file) line t g a = absurd a

-- lines more
pub runs_lines : (ls : List (List ℕ)) (s t : State) → IsSound s → Runs s ls t → IsSound t × (lines_before t ≡ lines_before s ++ ls)
runs_lines [] s t g a = (subst IsSound a g, ap lines_before (sym a) ∙ sym (append-nil (lines_before s)))
runs_lines (l ∷ ls) s t g a =
    let more = runs_lines ls a.0 t (next_sound s l a.0 g a.1) a.2 in
    (more.0, more.1 ∙ ap (λ x. x ++ ls) (next_lines s l a.0 g a.1) ∙ append_assoc (lines_before s) (l ∷ []) ls)
