-- What was read can become a report, and a report's lines lead to it.
use Rattle.std.proofs.Common.{◌≡◌, ℕ, zero, suc, ◌+◌, ◌-◌, List, [], ◌∷◌, ◌++◌, Option, Some, None, IfSome, length, codes, decimal, refl, ap, sym, subst, ◌∙◌, inl, inr, arith}
use Rattle.std.specs.List.{flat_map, AllByRecursion}
use Rattle.std.proofs.lemmas.List.{append_assoc, length-append, append-nil}
use Rattle.std.proofs.lemmas.List.Concat.{flat_map-append}
use Rattle.eco_meaning.specs.Bound.{Part, Bound}
use Rattle.eco_meaning.specs.Report.{BaseSignal, TargetGroup, Least, PatchReport}
use Rattle.eco_report.specs.Files.{IsBaseSignal, IsTargetGroup, IsBoundPart, IsReportBound, IsLeast, IsPatchReport, IsReport}
use Rattle.eco_report.specs.Reading.{bits_line, with_group, with_base, next_state, with_bound, with_least, with_part, next_part, Runs}
use Rattle.eco_report.specs.Lines.{named_line, base_lines, group_lines, front_lines, part_lines, bound_lines, least_lines, patch_lines, file_lines, open_lines, open_bound_lines, lines_before, IsOpen, IsOpenBound, IsHalf, IsHalfPart, IsSound}
use Rattle.eco_report.specs.declared.file.ReportFile.{ReportFile}
use Rattle.eco_report.specs.declared.file.ReportFile.TheVariants.{Patched, Unrectifiable, Budget}
use Rattle.eco_report.specs.declared.state.Open.{Open}
use Rattle.eco_report.specs.declared.state.OpenBound.{OpenBound}
use Rattle.eco_report.specs.declared.state.State.{State}
use Rattle.eco_report.specs.declared.state.State.TheVariants.{First, Input, Cost, Gates, Target, Base, Force1, Force0, Parts, PartForce1, PartForce0, Ending, Over}
use Rattle.eco_report.proofs.Once.{runs_append}
use Rattle.eco_report.proofs.States.{all_append, next_state_zero, next_state_more, next_part_zero, next_part_more, bare_lines, patch_more, open_more, open_next, part_more, open_bound_next, bound_sound}

-- some report's lines begin so
pub record Completes (lines : List (List ℕ)) : Type 0 where
  pub file : ReportFile
  pub more : List (List ℕ)
  pub report : IsReport file
  pub joined : file_lines file ≡ lines ++ more

-- so many base signals
some_base : BaseSignal
some_base = record { signal = 120 ∷ []; weight = 0; force1 = []; force0 = [] }

bases : ℕ → List BaseSignal
bases zero = []
bases (suc n) = some_base ∷ bases n

length-bases : (n : ℕ) → length (bases n) ≡ n
unfolding bases
length-bases zero = refl
length-bases (suc n) = ap (λ k. suc k) (length-bases n)

bases_sound : (n : ℕ) → AllByRecursion IsBaseSignal (bases n)
unfolding bases some_base
bases_sound zero = tt
bases_sound (suc n) = (record { name = refl; weight = omega arith }, bases_sound n)

patched_sound : (r : PatchReport) (g : TargetGroup) → IsPatchReport r → IsTargetGroup g → IsPatchReport (with_group r g)
patched_sound r g a b =
    record { cost = a.cost; gates = a.gates; groups = all_append IsTargetGroup r.groups (g ∷ []) a.groups (b, tt); bound = a.bound; least = a.least }

open_completes : (o : Open) → IsOpen o → Completes (open_lines o)
open_completes o g =
    let all : List BaseSignal = o.group.base ++ bases o.left in
    let group : TargetGroup = record { target = o.group.target; base = all } in
    let count : length all ≡ length o.group.base + o.left = length-append o.group.base (bases o.left) ∙ ap (λ n. length o.group.base + n) (length-bases o.left) in
    let limit = g.count in
    record {
      file = Patched (with_group o.report group);
      more = flat_map base_lines (bases o.left);
      report = patched_sound o.report group g.before (record { name = g.name; count = omega arith; base = all_append IsBaseSignal o.group.base (bases o.left) g.base (bases_sound o.left) });
      joined =
          bare_lines (with_group o.report group) (record { bound = g.bare.bound; least = g.bare.least })
          ∙ patch_more o.report group
          ∙ ap (λ n. front_lines o.report ++ named_line (codes "target ") o.group.target n ∷ flat_map base_lines all) count
          ∙ ap (λ l. front_lines o.report ++ named_line (codes "target ") o.group.target (length o.group.base + o.left) ∷ l) (flat_map-append base_lines o.group.base (bases o.left))
          ∙ sym (append_assoc (front_lines o.report) (named_line (codes "target ") o.group.target (length o.group.base + o.left) ∷ flat_map base_lines o.group.base) (flat_map base_lines (bases o.left)));
    }

-- fewer lines begin it too
pub fewer : (lines more : List (List ℕ)) → Completes (lines ++ more) → Completes lines
fewer lines more c =
    record { file = c.file; more = more ++ c.more; report = c.report; joined = c.joined ∙ append_assoc lines more c.more }

half_completes : (o : Open) (b : BaseSignal) → IsHalf o b.signal b.weight → Completes (open_lines o ++ base_lines b)
half_completes o b h =
    subst Completes (open_more o b h.some)
    (open_completes (with_base o b) (open_next o b h.some h.part (record { name = h.name; weight = h.limit })))

-- so many parts
some_part : Part
some_part = record { amount = 1; force1 = []; force0 = [] }

parts : ℕ → List Part
parts zero = []
parts (suc n) = some_part ∷ parts n

length-parts : (n : ℕ) → length (parts n) ≡ n
unfolding parts
length-parts zero = refl
length-parts (suc n) = ap (λ k. suc k) (length-parts n)

parts_sound : (n : ℕ) → AllByRecursion IsBoundPart (parts n)
unfolding parts some_part
parts_sound zero = tt
parts_sound (suc n) = (record { least = omega arith; most = omega arith }, parts_sound n)

bound_completes : (o : OpenBound) → IsOpenBound o → Completes (open_bound_lines o)
bound_completes o g =
    let all : List Part = o.bound.parts ++ parts o.left in
    let total = decimal o.bound.total in
    let bound : Bound = record { total = o.bound.total; parts = all } in
    let count : length all ≡ length o.bound.parts + o.left = length-append o.bound.parts (parts o.left) ∙ ap (λ n. length o.bound.parts + n) (length-parts o.left) in
    let limit = g.count in
    record {
      file = Patched (with_bound o.report bound);
      more = flat_map part_lines (parts o.left);
      report = bound_sound o.report bound g.before (record { total = g.total; count = omega arith; parts = all_append IsBoundPart o.bound.parts (parts o.left) g.parts (parts_sound o.left) });
      joined =
          ap (λ ls. front_lines o.report ++ (bound_lines (Some bound) ++ flat_map least_lines ls)) g.bare.least
          ∙ ap (λ ls. front_lines o.report ++ ls) (append-nil (bound_lines (Some bound)))
          ∙ ap (λ n. front_lines o.report ++ named_line (codes "bound ") total n ∷ flat_map part_lines all) count
          ∙ ap (λ l. front_lines o.report ++ named_line (codes "bound ") total (length o.bound.parts + o.left) ∷ l) (flat_map-append part_lines o.bound.parts (parts o.left))
          ∙ sym (append_assoc (front_lines o.report) (named_line (codes "bound ") total (length o.bound.parts + o.left) ∷ flat_map part_lines o.bound.parts) (flat_map part_lines (parts o.left)));
    }

half_part_completes : (o : OpenBound) (p : Part) → IsHalfPart o p.amount → Completes (open_bound_lines o ++ part_lines p)
half_part_completes o p h =
    subst Completes (part_more o p h.some)
    (bound_completes (with_part o p) (open_bound_next o p h.some h.part (record { least = h.least; most = h.most })))

pub state_completes : (s : State) → IsSound s → Completes (lines_before s)
state_completes First g = record { file = Unrectifiable []; more = file_lines (Unrectifiable []); report = tt; joined = refl }
state_completes Input g = record { file = Unrectifiable []; more = bits_line (codes "input ") [] ∷ []; report = tt; joined = refl }
state_completes Cost g =
    record {
      file = Patched (record { cost = 0; gates = 0; groups = []; bound = None; least = [] });
      more = (codes "cost " ++ decimal 0) ∷ (codes "gates " ++ decimal 0) ∷ [];
      report = record { cost = omega arith; gates = omega arith; groups = tt; bound = tt; least = tt };
      joined = refl;
    }
state_completes (Gates cost) g =
    record {
      file = Patched (record { cost = cost; gates = 0; groups = []; bound = None; least = [] });
      more = (codes "gates " ++ decimal 0) ∷ [];
      report = record { cost = g; gates = omega arith; groups = tt; bound = tt; least = tt };
      joined = refl;
    }
state_completes (Target r) g = record { file = Patched r; more = []; report = g.0; joined = bare_lines r g.1 ∙ sym (append-nil (front_lines r)) }
state_completes (Base o) g = open_completes o g.0
state_completes (Force1 o name weight) g =
    let b : BaseSignal = record { signal = name; weight = weight; force1 = []; force0 = [] } in
    fewer (open_lines o ++ named_line (codes "base ") name weight ∷ []) (bits_line (codes "force1 ") [] ∷ bits_line (codes "force0 ") [] ∷ [])
    (subst Completes (sym (append_assoc (open_lines o) (named_line (codes "base ") name weight ∷ []) (bits_line (codes "force1 ") [] ∷ bits_line (codes "force0 ") [] ∷ [])))
    (half_completes o b (record { part = g.part; some = g.some; name = g.name; limit = g.limit })))
state_completes (Force0 o name weight force1) g =
    let b : BaseSignal = record { signal = name; weight = weight; force1 = force1; force0 = [] } in
    fewer (open_lines o ++ named_line (codes "base ") name weight ∷ bits_line (codes "force1 ") force1 ∷ []) (bits_line (codes "force0 ") [] ∷ [])
    (subst Completes (sym (append_assoc (open_lines o) (named_line (codes "base ") name weight ∷ bits_line (codes "force1 ") force1 ∷ []) (bits_line (codes "force0 ") [] ∷ [])))
    (half_completes o b (record { part = g.part; some = g.some; name = g.name; limit = g.limit })))
state_completes (Parts o) g = bound_completes o g.0
state_completes (PartForce1 o amount) g =
    let p : Part = record { amount = amount; force1 = []; force0 = [] } in
    fewer (open_bound_lines o ++ (codes "amount " ++ decimal amount) ∷ []) (bits_line (codes "force1 ") [] ∷ bits_line (codes "force0 ") [] ∷ [])
    (subst Completes (sym (append_assoc (open_bound_lines o) ((codes "amount " ++ decimal amount) ∷ []) (bits_line (codes "force1 ") [] ∷ bits_line (codes "force0 ") [] ∷ [])))
    (half_part_completes o p (record { part = g.part; some = g.some; least = g.least; most = g.most })))
state_completes (PartForce0 o amount force1) g =
    let p : Part = record { amount = amount; force1 = force1; force0 = [] } in
    fewer (open_bound_lines o ++ (codes "amount " ++ decimal amount) ∷ bits_line (codes "force1 ") force1 ∷ []) (bits_line (codes "force0 ") [] ∷ [])
    (subst Completes (sym (append_assoc (open_bound_lines o) ((codes "amount " ++ decimal amount) ∷ bits_line (codes "force1 ") force1 ∷ []) (bits_line (codes "force0 ") [] ∷ [])))
    (half_part_completes o p (record { part = g.part; some = g.some; least = g.least; most = g.most })))
state_completes (Ending r) g = record { file = Patched r; more = []; report = g; joined = sym (append-nil (patch_lines r)) }
state_completes (Over file) g = record { file = file; more = []; report = g; joined = sym (append-nil (file_lines file)) }

-- the state behind a patch's report with these at its end
abbrev pub end_of_patch : PatchReport → Option Bound → List Least → State
end_of_patch r None [] = Target r
end_of_patch r None (l ∷ ls) = Ending r
end_of_patch r (Some b) ls = Ending r

-- the state behind a report
abbrev pub end_of : ReportFile → State
end_of (Patched r) = end_of_patch r r.bound r.least
end_of (Unrectifiable input) = Over (Unrectifiable input)
end_of (Budget word limit) = Over (Budget word limit)

-- a target's part with base signals more
abbrev with_bases : PatchReport → List ℕ → List BaseSignal → ℕ → Open
with_bases r target base left = record { report = r; group = record { target = target; base = base }; left = left }

run_base : (o : Open) (b : BaseSignal) → IsBaseSignal b → Runs (Base o) (base_lines b) (next_state (with_base o b))
run_base o b g =
    let weight = g.weight in (
      Force1 o b.signal b.weight,
      (b.signal, b.weight, record { named = record { text = refl; printing = g.name; limit = omega arith }; limit = g.weight }, refl),
      (
        Force0 o b.signal b.weight b.force1,
        (b.force1, refl, refl),
        (
          next_state (with_base o b),
          (b.force0, refl, refl),
          refl,
        ),
      ),
    )

run_bases : (r : PatchReport) (target : List ℕ) (base bs : List BaseSignal) → AllByRecursion IsBaseSignal bs → Runs (next_state (with_bases r target base (length bs))) (flat_map base_lines bs) (Target (with_group r (record { target = target; base = base ++ bs })))
run_bases r target base [] g =
    next_state_zero (with_bases r target base 0) refl ∙ ap (λ l. Target (with_group r (record { target = target; base = l }))) (sym (append-nil base))
run_bases r target base (b ∷ bs) g =
    let o : Open = with_bases r target base (length (b ∷ bs)) in
    let start : next_state o ≡ Base o = next_state_more o (omega arith) in
    let left : length (b ∷ bs) - 1 ≡ length bs = omega arith in
    let next : next_state (with_base o b) ≡ next_state (with_bases r target (base ++ b ∷ []) (length bs)) = ap (λ n. next_state (with_bases r target (base ++ b ∷ []) n)) left in
    let rest = run_bases r target (base ++ b ∷ []) bs g.1 in
    let whole : Runs (next_state (with_base o b)) (flat_map base_lines bs) (Target (with_group r (record { target = target; base = base ++ b ∷ bs }))) =
    subst (λ l. Runs (next_state (with_base o b)) (flat_map base_lines bs) (Target (with_group r (record { target = target; base = l })))) (append_assoc base (b ∷ []) bs)
    (subst (λ s. Runs s (flat_map base_lines bs) (Target (with_group r (record { target = target; base = (base ++ b ∷ []) ++ bs })))) (sym next) rest) in
    subst (λ s. Runs s (base_lines b ++ flat_map base_lines bs) (Target (with_group r (record { target = target; base = base ++ b ∷ bs })))) (sym start)
    (runs_append (base_lines b) (flat_map base_lines bs) (Base o) (next_state (with_base o b)) _ (run_base o b g.0) whole)

run_group : (r : PatchReport) (g : TargetGroup) → IsTargetGroup g → Runs (Target r) (group_lines g) (Target (with_group r g))
run_group r g h = (
  next_state (with_bases r g.target [] (length g.base)),
  inl (g.target, length g.base, record { text = refl; printing = h.name; limit = h.count }, refl),
  run_bases r g.target [] g.base h.base,
)

run_groups : (cost gates : ℕ) (before gs : List TargetGroup) → AllByRecursion IsTargetGroup gs → Runs (Target (record { cost = cost; gates = gates; groups = before; bound = None; least = [] })) (flat_map group_lines gs) (Target (record { cost = cost; gates = gates; groups = before ++ gs; bound = None; least = [] }))
run_groups cost gates before [] h = ap (λ l. Target (record { cost = cost; gates = gates; groups = l; bound = None; least = [] })) (sym (append-nil before))
run_groups cost gates before (g ∷ gs) h =
    let r : PatchReport = record { cost = cost; gates = gates; groups = before; bound = None; least = [] } in
    let rest = run_groups cost gates (before ++ g ∷ []) gs h.1 in
    subst (λ l. Runs (Target r) (group_lines g ++ flat_map group_lines gs) (Target (record { cost = cost; gates = gates; groups = l; bound = None; least = [] }))) (append_assoc before (g ∷ []) gs)
    (runs_append (group_lines g) (flat_map group_lines gs) (Target r) (Target (with_group r g)) _ (run_group r g h.0) rest)

-- a bound with parts more
abbrev with_parts : PatchReport → ℕ → List Part → ℕ → OpenBound
with_parts r total front left = record { report = r; bound = record { total = total; parts = front }; left = left }

run_part : (o : OpenBound) (p : Part) → IsBoundPart p → Runs (Parts o) (part_lines p) (next_part (with_part o p))
run_part o p g = (
  PartForce1 o p.amount,
  (p.amount, record { text = refl; least = g.least; most = g.most }, refl),
  (
    PartForce0 o p.amount p.force1,
    (p.force1, refl, refl),
    (
      next_part (with_part o p),
      (p.force0, refl, refl),
      refl,
    ),
  ),
)

run_parts : (r : PatchReport) (total : ℕ) (front ps : List Part) → AllByRecursion IsBoundPart ps → Runs (next_part (with_parts r total front (length ps))) (flat_map part_lines ps) (Ending (with_bound r (record { total = total; parts = front ++ ps })))
run_parts r total front [] g =
    next_part_zero (with_parts r total front 0) refl ∙ ap (λ l. Ending (with_bound r (record { total = total; parts = l }))) (sym (append-nil front))
run_parts r total front (p ∷ ps) g =
    let o : OpenBound = with_parts r total front (length (p ∷ ps)) in
    let start : next_part o ≡ Parts o = next_part_more o (omega arith) in
    let left : length (p ∷ ps) - 1 ≡ length ps = omega arith in
    let next : next_part (with_part o p) ≡ next_part (with_parts r total (front ++ p ∷ []) (length ps)) = ap (λ n. next_part (with_parts r total (front ++ p ∷ []) n)) left in
    let rest = run_parts r total (front ++ p ∷ []) ps g.1 in
    let whole : Runs (next_part (with_part o p)) (flat_map part_lines ps) (Ending (with_bound r (record { total = total; parts = front ++ p ∷ ps }))) =
    subst (λ l. Runs (next_part (with_part o p)) (flat_map part_lines ps) (Ending (with_bound r (record { total = total; parts = l })))) (append_assoc front (p ∷ []) ps)
    (subst (λ s. Runs s (flat_map part_lines ps) (Ending (with_bound r (record { total = total; parts = (front ++ p ∷ []) ++ ps })))) (sym next) rest) in
    subst (λ s. Runs s (part_lines p ++ flat_map part_lines ps) (Ending (with_bound r (record { total = total; parts = front ++ p ∷ ps })))) (sym start)
    (runs_append (part_lines p) (flat_map part_lines ps) (Parts o) (next_part (with_part o p)) _ (run_part o p g.0) whole)

-- a report with these lines of what targets cost at least
abbrev with_leasts : PatchReport → List Least → PatchReport
with_leasts r ls = record { cost = r.cost; gates = r.gates; groups = r.groups; bound = r.bound; least = ls }

run_leasts : (r : PatchReport) (before ls : List Least) → AllByRecursion IsLeast ls → Runs (Ending (with_leasts r before)) (flat_map least_lines ls) (Ending (with_leasts r (before ++ ls)))
run_leasts r before [] g = ap (λ l. Ending (with_leasts r l)) (sym (append-nil before))
run_leasts r before (l ∷ ls) g = (
  Ending (with_leasts r (before ++ l ∷ [])),
  (l.target, l.cost, record { text = refl; printing = g.0.name; limit = g.0.cost }, refl),
  subst (λ all. Runs (Ending (with_leasts r (before ++ l ∷ []))) (flat_map least_lines ls) (Ending (with_leasts r all))) (append_assoc before (l ∷ []) ls) (run_leasts r (before ++ l ∷ []) ls g.1),
)

-- the lines behind the targets lead from the report without them to the end
run_ending : (r : PatchReport) (bound : Option Bound) (least : List Least) → IfSome bound IsReportBound → AllByRecursion IsLeast least → Runs (Target (record { cost = r.cost; gates = r.gates; groups = r.groups; bound = None; least = [] })) (bound_lines bound ++ flat_map least_lines least) (end_of_patch (record { cost = r.cost; gates = r.gates; groups = r.groups; bound = bound; least = least }) bound least)
run_ending r None [] h g = refl
run_ending r None (l ∷ ls) h g =
    let bare : PatchReport = record { cost = r.cost; gates = r.gates; groups = r.groups; bound = None; least = [] } in (
      Ending (with_least bare l),
      inr (inr (l.target, l.cost, record { text = refl; printing = g.0.name; limit = g.0.cost }, refl)),
      run_leasts bare (l ∷ []) ls g.1,
    )
run_ending r (Some b) ls h g =
    let bare : PatchReport = record { cost = r.cost; gates = r.gates; groups = r.groups; bound = None; least = [] } in
    let bounded : Runs (Target bare) (bound_lines (Some b)) (Ending (with_bound bare b)) = (
      next_part (with_parts bare b.total [] (length b.parts)),
      inr (inl (b.total, length b.parts, record { text = refl; first = h.total; second = h.count }, refl)),
      run_parts bare b.total [] b.parts h.parts,
    ) in
    runs_append (bound_lines (Some b)) (flat_map least_lines ls) (Target bare) (Ending (with_bound bare b)) _ bounded (run_leasts (with_bound bare b) [] ls g)

-- a report's lines lead to its end
pub run_file : (file : ReportFile) → IsReport file → Runs First (file_lines file) (end_of file)
run_file (Patched r) g = (
  Cost,
  inl (refl, refl),
  (
    Gates r.cost,
    (r.cost, record { text = refl; limit = g.cost }, refl),
    (
      Target (record { cost = r.cost; gates = r.gates; groups = []; bound = None; least = [] }),
      (r.gates, record { text = refl; limit = g.gates }, refl),
      runs_append (flat_map group_lines r.groups) (bound_lines r.bound ++ flat_map least_lines r.least) _ _ _ (run_groups r.cost r.gates [] r.groups g.groups)
          (run_ending r r.bound r.least g.bound g.least),
    ),
  ),
)
run_file (Unrectifiable input) g = (Input, inr (inl (refl, refl)), (Over (Unrectifiable input), (input, refl, refl), refl))
run_file (Budget word limit) g = (Over (Budget word limit), inr (inr (word, limit, record { text = refl; least = g.0; most = g.1 }, refl)), refl)
