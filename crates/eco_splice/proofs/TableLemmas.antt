-- The tables of first places, and the marks of targets and of operands.
use Rattle.std.proofs.Common.{◌≡◌, ◌≢◌, ℕ, zero, suc, ◌+◌, ◌<◌, ◌≤◌, ◌⊎◌, inl, inr, Bool, true, false, List, [], ◌∷◌, ◌++◌, Option, None, Some, length, get_or, map, set, take, drop, replicate, refl, sym, ◌∙◌, ap, subst, arith}
use Rattle.std.specs.List.{All, Contains, slice_get, list_all}
use Rattle.std.proofs.lemmas.Bool.{false≢true, cases_eq, and_from}
use Rattle.std.proofs.lemmas.Option.{none-some, same_Some, slice_get_within, slice_get-get_or}
use Rattle.std.proofs.lemmas.List.{length-set, take_more, take_all}
use Rattle.std.proofs.lemmas.List.Elements.{All-append, All-map, Contains-append_left, Contains-append_right, Contains-append_cases}
use Rattle.eco_lists.proofs.Members.{Contains_first, Contains_none, Contains-map, only_one}
use Rattle.eco_lists.proofs.Tests.{both}
use Rattle.eco_lists.proofs.Places.{Contains_at, All_at, All_from_places, take_at_more, push_cases, slice_get-set_same, slice_get-set_other, set_cases}
use Rattle.eco_aig.specs.declared.edge.Edge.{Edge}
use Rattle.eco_aig.specs.declared.node.Node.{Node}
use Rattle.eco_aig.specs.declared.node.Node.TheVariants.{Input}
use Rattle.eco_aig.specs.Edges.{plain}
use Rattle.eco_aig.specs.Graph.{IsGraph, inputs_of}
use Rattle.eco_aig.proofs.Inputs.{listed_input}
use Rattle.eco_splice.specs.GraphPatch.{same_edge}
use Rattle.eco_splice.proofs.GraphNets.{same_edge_is, same_edge_itself}
use Rattle.eco_splice.specs.declared.line.Line.{Line}
use Rattle.eco_splice.specs.LineGates.{edges_in, first_place, StandsBefore, DriveTargets}
use Rattle.eco_splice.specs.Tables.{ArePlaced, MarksTarget, AreMarked, AreMarkedFor, AreReadMarks}
use Rattle.eco_splice.specs.declared.places.Places.{Places}
use Rattle.eco_splice.proofs.FirstPlaces.{place_own, place_other, place_member}

-- the rest of a list from a place on
drop_here : {X : Type 0} (xs : List X) (k : ℕ) (x : X) → slice_get xs k ≡ Some x → drop k xs ≡ x ∷ drop (suc k) xs
drop_here [] k x at = absurd (none-some x at)
drop_here {X} (y ∷ xs) zero x at = ap (λ (z : X). z ∷ xs) (same_Some y x at)
drop_here (y ∷ xs) (suc k) x at = drop_here xs k x at

-- one more edge, from the last one on
pub place_step : (edges : List Edge) (n k : ℕ) (x e : Edge) (old new : ℕ) → n ≡ suc k → slice_get edges k ≡ Some x → (e ≡ x → new ≡ k) → (e ≢ x → new ≡ old) → old ≡ n + first_place (drop n edges) e → new ≡ k + first_place (drop k edges) e
place_step edges n k x e old new step at own other before =
    let is : old ≡ suc k + first_place (drop (suc k) edges) e = subst (λ (m : ℕ). old ≡ m + first_place (drop m edges) e) step before in
    let rest = drop_here edges k x at in
    elim (same_edge e x) as (λ b. same_edge e x ≡ b → new ≡ k + first_place (drop k edges) e) [
      | true ↦ λ same.
          let one = same_edge_is e x same in
          let here : first_place (drop k edges) e ≡ 0 = ap (λ l. first_place l e) rest ∙ ap (λ (y : Edge). first_place (y ∷ drop (suc k) edges) e) (sym one) ∙ place_own (drop (suc k) edges) e in
          let place = own one in
          omega (arith, here, place)
      | false ↦ λ apart.
          let two : e ≢ x = λ one. false≢true (sym apart ∙ subst (λ (y : Edge). same_edge e y ≡ true) one (same_edge_itself e)) in
          let later : first_place (drop k edges) e ≡ suc (first_place (drop (suc k) edges) e) = ap (λ l. first_place l e) rest ∙ place_other x (drop (suc k) edges) e two in
          let place = other two in
          omega (arith, later, place, is)
    ] refl

-- the marks before the first line
no_marks : (n i : ℕ) → slice_get (replicate n false) i ≡ Some true → ⊥
no_marks zero i at = none-some true at
no_marks (suc n) zero at = false≢true (same_Some false true at)
no_marks (suc n) (suc i) at = no_marks n i at

pub marked_none : (roots : List Edge) (lines : List Line) (marks : List Bool) → length marks ≡ length roots → ((i : ℕ) → slice_get marks i ≡ Some true → ⊥) → AreMarked roots lines 0 marks
marked_none roots lines marks len none = record {
  len = len;
  own = λ k line i lt at is. absurd (omega arith);
  marked = λ k line i lt at is. absurd (omega arith);
  once = λ k j line other i lt below at_k at_j is_k is_j. absurd (omega arith);
  found = λ i at. absurd (none i at);
}

pub marked_start : (roots : List Edge) (lines : List Line) → (n : ℕ) → n ≡ length roots → length (replicate n false) ≡ n → AreMarked roots lines 0 (replicate n false)
marked_start roots lines n count len = marked_none roots lines (replicate n false) (len ∙ count) (no_marks n)

-- one more line
same_target : (lines : List Line) (k : ℕ) (line x : Line) (t : Option ℕ) (i : ℕ) → slice_get lines k ≡ Some line → slice_get lines k ≡ Some x → line.target ≡ t → x.target ≡ Some i → t ≡ Some i
same_target lines k line x t i at_line at_x is own = sym is ∙ ap (λ (l : Line). l.target) (same_Some line x (sym at_line ∙ at_x)) ∙ own

more_none : (roots : List Edge) (lines : List Line) (k : ℕ) (line : Line) (marks : List Bool) → slice_get lines k ≡ Some line → line.target ≡ None → AreMarked roots lines k marks → AreMarked roots lines (k + 1) marks
more_none roots lines k line marks at is are =
    let before : (j : ℕ) (x : Line) (i : ℕ) → j < k + 1 → slice_get lines j ≡ Some x → x.target ≡ Some i → j < k = λ j x i lt at_x own.
    elim (cases_eq j k) [
      | inl same ↦ absurd (none-some i (same_target lines k line x None i at (subst (λ (n : ℕ). slice_get lines n ≡ Some x) same at_x) is own))
      | inr apart ↦ omega (arith, lt, apart)
    ] in
    record {
      len = are.len;
      own = λ j x i lt at_x own. are.own j x i (before j x i lt at_x own) at_x own;
      marked = λ j x i lt at_x own. are.marked j x i (before j x i lt at_x own) at_x own;
      once = λ j h x y i lt below at_x at_y own_x own_y. are.once j h x y i (before j x i lt at_x own_x) (before h y i below at_y own_y) at_x at_y own_x own_y;
      found = λ i mark. let before = are.found i mark in let lt = before.2 in (before.0, before.1, omega (arith, lt), before.3, before.4);
    }

-- a line is the one that is new, or stands before it and has another target
new_or_before : (roots : List Edge) (lines : List Line) (k : ℕ) (line : Line) (t : ℕ) (marks : List Bool) → slice_get lines k ≡ Some line → line.target ≡ Some t → slice_get marks t ≡ Some false → AreMarked roots lines k marks → (j : ℕ) (x : Line) (i : ℕ) → j < k + 1 → slice_get lines j ≡ Some x → x.target ≡ Some i → ((j ≡ k) × (i ≡ t)) ⊎ ((j < k) × (i ≢ t))
new_or_before roots lines k line t marks at is unmarked are j x i lt at_x own =
    elim (cases_eq j k) [
      | inl same ↦
          let target = same_target lines k line x (Some t) i at (subst (λ (n : ℕ). slice_get lines n ≡ Some x) same at_x) is own in
          inl (same, sym (same_Some t i target))
      | inr apart ↦
          let low : j < k = omega (arith, lt, apart) in
          inr (
            low,
            λ e.
                let mark = are.marked j x i low at_x own in
                false≢true (same_Some false true (sym unmarked ∙ subst (λ (n : ℕ). slice_get marks n ≡ Some true) e mark)),
          )
    ]

more_some : (roots : List Edge) (lines : List Line) (k : ℕ) (line : Line) (t : ℕ) (marks : List Bool) → slice_get lines k ≡ Some line → line.target ≡ Some t → slice_get roots t ≡ Some line.edge → slice_get marks t ≡ Some false → AreMarked roots lines k marks → AreMarked roots lines (k + 1) (set marks t true)
more_some roots lines k line t marks at is root unmarked are =
    let cases = new_or_before roots lines k line t marks at is unmarked are in
    let within = slice_get_within marks t false unmarked in
    record {
      len = length-set marks t true ∙ are.len;
      own = λ j x i lt at_x own. elim (cases j x i lt at_x own) [
        | inl new ↦
            let one : line ≡ x = same_Some line x (sym at ∙ subst (λ (n : ℕ). slice_get lines n ≡ Some x) new.0 at_x) in
            subst (λ (n : ℕ). slice_get roots n ≡ Some x.edge) (sym new.1) (root ∙ ap (λ (l : Line). Some l.edge) one)
        | inr old ↦ are.own j x i old.0 at_x own
      ];
      marked = λ j x i lt at_x own. elim (cases j x i lt at_x own) [
        | inl new ↦ subst (λ (n : ℕ). slice_get (set marks t true) n ≡ Some true) (sym new.1) (slice_get-set_same marks t true within)
        | inr old ↦ slice_get-set_other marks t i true old.1 ∙ are.marked j x i old.0 at_x own
      ];
      once = λ j h x y i lt below at_x at_y own_x own_y. elim (cases j x i lt at_x own_x) [
        | inl new ↦ elim (cases h y i below at_y own_y) [
          | inl also ↦ new.0 ∙ sym also.0
          | inr old ↦ absurd (old.1 new.1)
        ]
        | inr old ↦ elim (cases h y i below at_y own_y) [
          | inl new ↦ absurd (old.1 new.1)
          | inr also ↦ are.once j h x y i old.0 also.0 at_x at_y own_x own_y
        ]
      ];
      found = λ i mark. elim (set_cases marks t true i true mark) [
        | inl new ↦ (k, line, omega arith, at, is ∙ ap Some (sym new.0))
        | inr old ↦ let before = are.found i old.1 in let lt = before.2 in (before.0, before.1, omega (arith, lt), before.3, before.4)
      ];
    }

pub marked_more : (roots : List Edge) (lines : List Line) (k : ℕ) (line : Line) (old new : List Bool) → slice_get lines k ≡ Some line → AreMarked roots lines k old → MarksTarget roots line.edge old new line.target → AreMarked roots lines (k + 1) new
marked_more roots lines k line old new at are marks = by_target line.target refl marks
  where
    by_target : (t : Option ℕ) → line.target ≡ t → MarksTarget roots line.edge old new t → AreMarked roots lines (k + 1) new
    by_target None is same = subst (λ (l : List Bool). AreMarked roots lines (k + 1) l) (sym same) (more_none roots lines k line old at is are)
    by_target (Some t) is marks = subst (λ (l : List Bool). AreMarked roots lines (k + 1) l) (sym marks.2) (more_some roots lines k line t old at is marks.0 marks.1 are)

-- where all marks stand, each target is driven
pub all_driven : (roots : List Edge) (lines : List Line) (marks : List Bool) → AreMarked roots lines (length lines) marks → ((i : ℕ) → i < length marks → slice_get marks i ≡ Some true) → DriveTargets roots lines
all_driven roots lines marks are all = record {
  own = λ k line i at is. are.own k line i (slice_get_within lines k line at) at is;
  once = λ k j line other i at_k at_j is_k is_j. are.once k j line other i (slice_get_within lines k line at_k) (slice_get_within lines j other at_j) at_k at_j is_k is_j;
  all = λ i lt. let line = are.found i (all i (let len = are.len in omega (arith, len, lt))) in (line.0, line.1, line.3, line.4);
}

every_mark : (marks : List Bool) → list_all (λ mark. mark) marks ≡ true → (i : ℕ) → i < length marks → slice_get marks i ≡ Some true
every_mark [] all i lt = absurd (omega arith)
every_mark (mark ∷ marks) all zero lt = ap Some (both mark (list_all (λ mark. mark) marks) all).0
every_mark (mark ∷ marks) all (suc i) lt = every_mark marks (both mark (list_all (λ mark. mark) marks) all).1 i (omega arith)

pub drive_from : (roots : List Edge) (lines : List Line) (marks : List Bool) → AreMarked roots lines (length lines) marks → list_all (λ mark. mark) marks ≡ true → DriveTargets roots lines
drive_from roots lines marks are all = all_driven roots lines marks are (every_mark marks all)

-- what holds of all elements before a place, and at the place; and before the end
pub all_more : {X : Type 0} (P : X → Type 0) (xs : List X) (i : ℕ) (d : X) → i < length xs → All P (take i xs) → P (get_or xs i d) → All P (take (i + 1) xs)
all_more {X} P xs i d lt all here =
    subst (λ (l : List X). All P l) (sym (take_more xs i d lt))
    (All_from_places P (take i xs ++ get_or xs i d ∷ []) (λ k x at. elim (push_cases (take i xs) (get_or xs i d) k x at) [
      | inl old ↦ All_at P (take i xs) k x all old
      | inr new ↦ subst P (sym new.1) here
    ]))

pub all_end : {X : Type 0} (P : X → Type 0) (xs : List X) (i : ℕ) → length xs ≤ i → All P (take i xs) → All P xs
all_end {X} P xs i le all = subst (λ (l : List X). All P l) (take_all i xs le) all

-- and back: where each target is driven, all marks stand
every_place : (marks : List Bool) → ((i : ℕ) → i < length marks → slice_get marks i ≡ Some true) → list_all (λ mark. mark) marks ≡ true
every_place [] all = refl
every_place (mark ∷ marks) all =
    and_from mark (list_all (λ mark. mark) marks) (same_Some mark true (all 0 (omega arith))) (every_place marks (λ i lt. all (suc i) (omega (arith, lt))))

pub driven_marks : (roots : List Edge) (lines : List Line) (marks : List Bool) → AreMarked roots lines (length lines) marks → DriveTargets roots lines → list_all (λ mark. mark) marks ≡ true
driven_marks roots lines marks are drive = every_place marks (λ i lt.
    let line = drive.all i (let len = are.len in omega (arith, len, lt)) in
    are.marked line.0 line.1 i (slice_get_within lines line.0 line.1 line.2) line.2 line.3)

-- a line that can't mark its target drives one that it may not
pub unmarked_line : (roots : List Edge) (lines : List Line) (k : ℕ) (line : Line) (marks : List Bool) → slice_get lines k ≡ Some line → AreMarked roots lines k marks → ((new : List Bool) → MarksTarget roots line.edge marks new line.target → ⊥) → DriveTargets roots lines → ⊥
unmarked_line roots lines k line marks at are never drive = by_target line.target refl never
  where
    by_mark : (i : ℕ) (b : Bool) → line.target ≡ Some i → slice_get marks i ≡ Some b → ((new : List Bool) → MarksTarget roots line.edge marks new (Some i) → ⊥) → ⊥
    by_mark i true is mark never =
        let other = are.found i mark in
        let same = drive.once other.0 k other.1 line i other.3 at other.4 is in
        let lt = other.2 in
        absurd (omega (arith, same, lt))
    by_mark i false is mark never = never (set marks i true) (drive.own k line i at is, mark, refl)

    by_target : (t : Option ℕ) → line.target ≡ t → ((new : List Bool) → MarksTarget roots line.edge marks new t → ⊥) → ⊥
    by_target None is never = never marks refl
    by_target (Some i) is never =
        let root = slice_get_within roots i line.edge (drive.own k line i at is) in
        let len = are.len in
        by_mark i (get_or marks i false) is (slice_get-get_or marks i false (omega (arith, root, len))) never

-- the marks of one more edge, and of one more line
pub marked_for_none : (old : List Bool) → AreMarkedFor [] old old
marked_for_none old = record {
  len = refl;
  only = λ node mark. inl mark;
  kept = λ node mark. mark;
  all = λ node lt c. absurd (Contains_none (plain node) c);
}

pub marked_for_more : (edges : List Edge) (i : ℕ) (d : Edge) (old before new : List Bool) → i < length edges → AreMarkedFor (take i edges) old before → AreMarkedFor (get_or edges i d ∷ []) before new → AreMarkedFor (take (i + 1) edges) old new
marked_for_more edges i d old before new lt first next = subst (λ (l : List Edge). AreMarkedFor l old new) (sym (take_more edges i d lt)) (record {
  len = next.len ∙ first.len;
  only = λ node mark. elim (next.only node mark) [
    | inl known ↦ elim (first.only node known) [
      | inl own ↦ inl own
      | inr c ↦ inr (Contains-append_left (take i edges) (get_or edges i d ∷ []) (plain node) c)
    ]
    | inr c ↦ inr (Contains-append_right (take i edges) (get_or edges i d ∷ []) (plain node) c)
  ];
  kept = λ node mark. next.kept node (first.kept node mark);
  all = λ node within c. elim (Contains-append_cases (take i edges) (get_or edges i d ∷ []) (plain node) c) [
    | inl earlier ↦ next.kept node (first.all node within earlier)
    | inr last ↦ next.all node (let len = first.len in omega (arith, within, len)) last
  ];
})

pub marked_for_all : (edges : List Edge) (i : ℕ) (old new : List Bool) → length edges ≤ i → AreMarkedFor (take i edges) old new → AreMarkedFor edges old new
marked_for_all edges i old new le marks = subst (λ (l : List Edge). AreMarkedFor l old new) (take_all i edges le) marks

pub read_none : (n : ℕ) → AreReadMarks (length (replicate n false)) [] (replicate n false)
read_none n = record {
  len = refl;
  only = λ node mark. absurd (false≢true (sym (get_or-replicate n node) ∙ mark));
  all = λ node lt read. absurd (Contains_none read.0 read.1);
}
  where
    get_or-replicate : (n node : ℕ) → get_or (replicate n false) node false ≡ false
    get_or-replicate zero node = refl
    get_or-replicate (suc n) zero = refl
    get_or-replicate (suc n) (suc node) = get_or-replicate n node

pub read_more : (nodes : ℕ) (lines : List Line) (i : ℕ) (line : Line) (operands : List Edge) (before new : List Bool) → slice_get lines i ≡ Some line → operands ≡ line.operands.items → AreReadMarks nodes (take i lines) before → AreMarkedFor operands before new → AreReadMarks nodes (take (i + 1) lines) new
read_more nodes lines i line operands before new at same first next = subst (λ (l : List Line). AreReadMarks nodes l new) (sym more) (record {
  len = next.len ∙ first.len;
  only = λ node mark. elim (next.only node mark) [
    | inl known ↦
        let found = first.only node known in
        (found.0, Contains-append_left (take i lines) (line ∷ []) found.0 found.1, found.2)
    | inr c ↦ (
      line,
      Contains-append_right (take i lines) (line ∷ []) line (Contains_first line []),
      subst (λ (l : List Edge). Contains l (plain node)) same c,
    )
  ];
  all = λ node lt read. elim (Contains-append_cases (take i lines) (line ∷ []) read.0 read.1) [
    | inl earlier ↦ next.kept node (first.all node lt (read.0, earlier, read.2))
    | inr last ↦
        let one = only_one line read.0 last in
        next.all node (let len = first.len in omega (arith, lt, len)) (subst (λ (l : List Edge). Contains l (plain node)) (sym same) (subst (λ (l : Line). Contains l.operands.items (plain node)) (sym one) read.2))
  ];
})
  where
    more : take (i + 1) lines ≡ take i lines ++ line ∷ []
    more =
        let step : i + 1 ≡ suc i = omega arith in
        ap (λ (n : ℕ). take n lines) step ∙ take_at_more lines i line at

pub read_all : (nodes : ℕ) (lines : List Line) (i : ℕ) (marks : List Bool) → length lines ≤ i → AreReadMarks nodes (take i lines) marks → AreReadMarks nodes lines marks
read_all nodes lines i marks le are = subst (λ (l : List Line). AreReadMarks nodes l marks) (take_all i lines le) are

-- an edge that isn't constant and stands before a place goes to a node that has places
pub earlier_within : (nodes : ℕ) (places : Places) (place : ℕ) (e : Edge) → ArePlaced nodes places → place ≤ length places.edges.items → StandsBefore places.edges.items place e → e.node ≢ 0 → e.node < nodes
earlier_within nodes places place e are most (inl none) other = absurd (other none)
earlier_within nodes places place e are most (inr low) other = are.within e (place_member places.edges.items e (omega (arith, low, most)))

-- the edges that have nets are of the graph just where those of the lines are
pub edges_within : (nodes : List Node) (lines : List Line) → IsGraph nodes → All (λ (line : Line). line.edge.node < length nodes) lines → All (λ (e : Edge). e.node < length nodes) (edges_in nodes lines)
edges_within nodes lines graph all =
    All-append (λ (e : Edge). e.node < length nodes) (map plain (inputs_of nodes)) (map (λ (line : Line). line.edge) lines)
    (All-map (λ (e : Edge). e.node < length nodes) plain (inputs_of nodes) (All_from_places (λ (node : ℕ). node < length nodes) (inputs_of nodes) (λ k node at. slice_get_within nodes node (Input node) (listed_input nodes node graph (Contains_at (inputs_of nodes) k node at)))))
    (All-map (λ (e : Edge). e.node < length nodes) (λ (line : Line). line.edge) lines all)

pub lines_within : (nodes : List Node) (lines : List Line) (edges : List Edge) (n : ℕ) → edges ≡ edges_in nodes lines → ((e : Edge) → Contains edges e → e.node < n) → All (λ (line : Line). line.edge.node < n) lines
lines_within nodes lines edges n same within =
    All_from_places (λ (line : Line). line.edge.node < n) lines (λ k line at.
    within line.edge (subst (λ (l : List Edge). Contains l line.edge) (sym same)
    (Contains-append_right (map plain (inputs_of nodes)) (map (λ (line : Line). line.edge) lines) line.edge (Contains-map (λ (line : Line). line.edge) lines line (Contains_at lines k line at)))))
