-- The functions with one more: the inputs that are added, the new root, and the merging of all roots.
use Rattle.std.proofs.Common.{◌≡◌, ℕ, ◌+◌, ◌<◌, ◌≤◌, ◌⊎◌, inl, inr, Bool, List, [], ◌∷◌, ◌++◌, Some, length, take, get_or, map, sym, ◌∙◌, ap, subst, arith, length-append}
use Rattle.std.specs.List.{slice_get, All, AllPairs, AllZip}
use Rattle.std.proofs.lemmas.Bool.{cases_eq}
use Rattle.std.proofs.lemmas.List.{length-map, map-append}
use Rattle.std.proofs.Math.Seq.{take-append_seam}
use Rattle.std.proofs.lemmas.List.Elements.{AllZip-get_or, length_all_zip}
use Rattle.std.proofs.lemmas.Option.{same_Some, slice_get_within, get_or_from_slice_get}
use Rattle.eco_lists.proofs.Members.{Contains_first}
use Rattle.eco_lists.proofs.Places.{place_of, Contains_at, item_at, All_at, All_from_places, place_in_front, slice_get-front, slice_get-append_left, slice_get-push_last, push_cases, pair_at, pairs_push}
use Rattle.eco_gates.specs.declared.gate.NetId.{NetId}
use Rattle.eco_trace.specs.declared.clause.Var.{Var}
use Rattle.eco_trace.specs.Split.{Split}
use Rattle.eco_aig.specs.declared.edge.Edge.{Edge}
use Rattle.eco_aig.specs.declared.node.Node.{Node}
use Rattle.eco_aig.specs.Edges.{value_of}
use Rattle.eco_aig.specs.Graph.{IsGraph, IsEdge, IsValuation, HasValue, Grows, AgreeAt, inputs_of}
use Rattle.eco_aig.proofs.Inputs.{listed_input}
use Rattle.eco_aig.proofs.Filling.{bit_agree, one_valuation}
use Rattle.eco_aig.proofs.Growing.{valuation_of_older}
use Rattle.eco_merge.specs.Counting.{ReachNoMoreInputs}
use Rattle.eco_aig.specs.Reached.{Reaches, IsReached}
use Rattle.eco_functions.specs.Functions.{FunctionsValue, AreFunctions, HasOneMore, KeepsValues, IsInterpolant, LastIsInterpolant}
use Rattle.eco_functions.specs.Inputs.{HasMoreInputs}
use Rattle.eco_functions.proofs.Reaching.{older_reach, grown_inputs, older_input}
use Rattle.eco_functions.proofs.Adding.{inputs_grown, older_valuation}
use Rattle.eco_functions.proofs.Pairing.{map_at}

-- the graph gets inputs, then a root, and then all roots are merged
pub record AreSteps (old : FunctionsValue) (more : List NetId) (begun mid : List Node) (most : ℕ) (root : Edge) (roots : List Edge) (new : FunctionsValue) : Type 0 where
  pub functions : AreFunctions old
  pub inputs : HasMoreInputs old.nodes (length more) begun
  pub made : Grows begun mid most
  pub listed : roots ≡ old.roots ++ root ∷ []
  pub merged : Grows mid new.nodes (length mid)
  pub values : AllZip (λ e r. HasValue new.nodes r (λ w. value_of w e)) roots new.roots
  pub reach : ReachNoMoreInputs mid roots new.nodes new.roots
  pub graph : IsGraph new.nodes
  pub base : new.base ≡ old.base ++ more
  pub counts : new.counts ≡ old.counts ++ length new.base ∷ []

-- all roots are edges of the graph before the merging
pub roots_within : (old : FunctionsValue) (count : ℕ) (begun mid : List Node) (most : ℕ) (root : Edge) (roots : List Edge) → AreFunctions old → HasMoreInputs old.nodes count begun → Grows begun mid most → IsEdge mid root → roots ≡ old.roots ++ root ∷ [] → All (IsEdge mid) roots
roots_within old count begun mid most root roots are inputs made edge listed =
    let grown = inputs_grown old.nodes begun mid count most inputs made in
    let longer : length mid ≡ length old.nodes + length grown.added = ap (λ (list : List Node). length list) grown.behind ∙ length-append old.nodes grown.added in
    subst (λ (list : List Edge). All (IsEdge mid) list) (sym listed)
    (All_from_places (IsEdge mid) (old.roots ++ root ∷ []) (λ k e at. elim (push_cases old.roots root k e at) [
      | inl older ↦ (let before : e.node < length old.nodes = All_at (IsEdge old.nodes) old.roots k e are.edges older in omega (arith, before, longer))
      | inr here ↦ subst (IsEdge mid) (sym here.1) edge
    ]))

module _ (old : FunctionsValue) (more : List NetId) (begun mid : List Node) (most : ℕ) (root : Edge) (roots : List Edge) (new : FunctionsValue) where
  -- the older functions' graph, before and after the merging
  before_merging : AreSteps old more begun mid most root roots new → HasMoreInputs old.nodes (length more) mid
  before_merging is = inputs_grown old.nodes begun mid (length more) most is.inputs is.made

  after_merging : AreSteps old more begun mid most root roots new → HasMoreInputs old.nodes (length more) new.nodes
  after_merging is = inputs_grown old.nodes mid new.nodes (length more) (length mid) (before_merging is) is.merged

  -- an older root among all roots
  older_root : AreSteps old more begun mid most root roots new → (k : ℕ) (e : Edge) → slice_get old.roots k ≡ Some e → slice_get roots k ≡ Some e
  older_root is k e at =
      ap (λ (list : List Edge). slice_get list k) is.listed ∙ slice_get-append_left old.roots (root ∷ []) k e at

  root_older : AreSteps old more begun mid most root roots new → (k : ℕ) (e : Edge) → k < length old.roots → slice_get roots k ≡ Some e → slice_get old.roots k ≡ Some e
  root_older is k e lt at =
      sym (slice_get-front old.roots (root ∷ []) k lt) ∙ ap (λ (list : List Edge). slice_get list k) (sym is.listed) ∙ at

  -- each merged root has the value of the root at its place
  merged_value : AreSteps old more begun mid most root roots new → (k : ℕ) (e now : Edge) → slice_get roots k ≡ Some e → slice_get new.roots k ≡ Some now → HasValue new.nodes now (λ w. value_of w e)
  merged_value is k e now at_old at_new =
      let has : Edge → Edge → Type 0 = λ x y. HasValue new.nodes y (λ w. value_of w x) in
      subst (λ x. has x now) (get_or_from_slice_get roots k e e at_old)
      (subst (λ y. has (get_or roots k e) y) (get_or_from_slice_get new.roots k now now at_new)
      (AllZip-get_or has roots new.roots k e now is.values (slice_get_within roots k e at_old)))

  roots_count : AreSteps old more begun mid most root roots new → length new.roots ≡ length old.roots + 1
  roots_count is =
      sym (length_all_zip (λ x y. HasValue new.nodes y (λ w. value_of w x)) roots new.roots is.values) ∙ ap (λ (list : List Edge). length list) is.listed ∙ length-append old.roots (root ∷ [])

  base_count : AreSteps old more begun mid most root roots new → length new.base ≡ length old.base + length more
  base_count is = ap (λ (list : List NetId). length list) is.base ∙ length-append old.base more

  inputs_count : AreSteps old more begun mid most root roots new → length (inputs_of new.nodes) ≡ length new.base
  inputs_count is = omega (arith, (after_merging is).inputs, is.functions.inputs, base_count is)

  -- earlier counts are no larger
  rising_at : (i j a b : ℕ) → AllPairs (λ x y. x ≤ y) old.counts → i < j + 1 → slice_get old.counts i ≡ Some a → slice_get old.counts j ≡ Some b → a ≤ b
  rising_at i j a b rising lt at_i at_j =
      elim (cases_eq i j) [
        | inl same ↦
            let equal : a ≡ b = same_Some a b (sym at_i ∙ ap (slice_get old.counts) same ∙ at_j) in
            omega (arith, equal)
        | inr other ↦ pair_at (λ x y. x ≤ y) old.counts i j a b rising (omega (arith, lt, other)) at_i at_j
      ]

  -- a merged older root reaches only inputs that its target may read
  older_counted : AreSteps old more begun mid most root roots new → (k count : ℕ) (now : Edge) (place node : ℕ) → slice_get new.roots k ≡ Some now → slice_get old.counts k ≡ Some count → slice_get (inputs_of new.nodes) place ≡ Some node → Reaches new.nodes now.node node → place < count
  older_counted is k count now place node at_root_k at_count at_place reaches =
      let functions = is.functions in
      let input = listed_input new.nodes node is.graph (Contains_at (inputs_of new.nodes) place node at_place) in
      let reached : IsReached new.nodes (now ∷ []) node = (now, Contains_first now [], reaches) in
      let older = is.reach k now at_root_k node (record { input = input; reached = reached }) in
      let by = older.reached in
      let at = place_of (take (k + 1) roots) by.0 by.1 in
      let front = place_in_front (k + 1) roots at.0 by.0 at.1 in
      let few : at.0 < length old.roots = (let lt = slice_get_within old.counts k count at_count in omega (arith, lt, functions.count, front.0)) in
      let from : slice_get old.roots at.0 ≡ Some by.0 = root_older is at.0 by.0 few front.1 in
      let edge : by.0.node < length old.nodes = All_at (IsEdge old.nodes) old.roots at.0 by.0 functions.edges from in
      let grown = before_merging is in
      let was = older_reach old.nodes grown.added by.0.node node functions.graph edge (subst (λ (list : List Node). Reaches list by.0.node node) grown.behind by.2) in
      let whole = after_merging is in
      let at_old = older_input old.nodes whole.added new.nodes place node is.graph whole.behind was.1 at_place in
      let counted = item_at old.counts at.0 (omega (arith, few, functions.count)) in
      let low : place < counted.0 = functions.reach at.0 counted.0 by.0 place node from counted.1 at_old was.0 in
      let rises : counted.0 ≤ count = rising_at at.0 k counted.0 count functions.rising front.0 counted.1 at_count in
      omega (arith, low, rises)

  -- a count stands at its place
  count_cases : AreSteps old more begun mid most root roots new → (k count : ℕ) → slice_get new.counts k ≡ Some count → (slice_get old.counts k ≡ Some count) ⊎ ((k ≡ length old.counts) × (count ≡ length new.base))
  count_cases is k count at =
      push_cases old.counts (length new.base) k count (ap (λ (list : List ℕ). slice_get list k) (sym is.counts) ∙ at)

  few_older : AreSteps old more begun mid most root roots new → (k count : ℕ) → slice_get old.counts k ≡ Some count → count ≤ length new.base
  few_older is k count at =
      let few : count ≤ length old.base = All_at (λ (n : ℕ). n ≤ length old.base) old.counts k count is.functions.within at in
      omega (arith, few, base_count is)

  -- the functions with one more are functions
  pub steps_functions : AreSteps old more begun mid most root roots new → AreFunctions new
  steps_functions is = record {
    graph = is.graph;
    inputs = inputs_count is;
    edges = All_from_places (IsEdge new.nodes) new.roots (λ k now at.
        let lt : k < length roots = (let here = slice_get_within new.roots k now at in omega (arith, here, length_all_zip (λ x y. HasValue new.nodes y (λ w. value_of w x)) roots new.roots is.values)) in
        let from = item_at roots k lt in
        (merged_value is k from.0 now from.1 at).within);
    count =
        ap (λ (list : List ℕ). length list) is.counts ∙ length-append old.counts (length new.base ∷ [])
        ∙ ap (λ (n : ℕ). n + 1) is.functions.count ∙ sym (roots_count is);
    rising = subst (λ (list : List ℕ). AllPairs (λ x y. x ≤ y) list) (sym is.counts)
        (pairs_push (λ x y. x ≤ y) old.counts (length new.base) is.functions.rising (λ k count at. few_older is k count at));
    within = All_from_places (λ (n : ℕ). n ≤ length new.base) new.counts (λ k count at.
        elim (count_cases is k count at) [ inl older ↦ few_older is k count older | inr here ↦ (let last = here.1 in omega (arith, last)) ]);
    reach = λ k count now place node at_now at_count at_place reaches.
        elim (count_cases is k count at_count) [
          | inl older ↦ older_counted is k count now place node at_now older at_place reaches
          | inr here ↦
              let last = here.1 in
              let lt = slice_get_within (inputs_of new.nodes) place node at_place in
              omega (arith, lt, last, inputs_count is)
        ];
  }

  -- the bits at the older inputs
  older_bits : AreSteps old more begun mid most root roots new → (u : ℕ → Bool) → take (length old.base) (map u (inputs_of new.nodes)) ≡ map u (inputs_of old.nodes)
  older_bits is u =
      let whole = after_merging is in
      let front = map u (inputs_of old.nodes) in
      let back = map u (inputs_of whole.added) in
      let all : map u (inputs_of new.nodes) ≡ front ++ back = ap (map u) (grown_inputs old.nodes whole.added new.nodes whole.behind) ∙ map-append u (inputs_of old.nodes) (inputs_of whole.added) in
      let count : length old.base ≡ length front = sym is.functions.inputs ∙ sym (length-map (inputs_of old.nodes) u) in
      ap (take (length old.base)) all ∙ ap (λ (n : ℕ). take n (front ++ back)) count ∙ take-append_seam front back

  -- and each older root keeps its value
  values_kept : AreSteps old more begun mid most root roots new → KeepsValues old new
  values_kept is = λ w u val_w val_u same k e now at_old at_new.
      let functions = is.functions in
      let bits : map w (inputs_of old.nodes) ≡ map u (inputs_of old.nodes) = same ∙ older_bits is u in
      let agree : AgreeAt (inputs_of old.nodes) w u = λ node c.
      let at = place_of (inputs_of old.nodes) node c in
      same_Some (w node) (u node) (sym (map_at w (inputs_of old.nodes) at.0 node at.1) ∙ ap (λ (list : List Bool). slice_get list at.0) bits ∙ map_at u (inputs_of old.nodes) at.0 node at.1) in
      let val_old : IsValuation old.nodes u = older_valuation old.nodes new.nodes (length more) u (after_merging is) val_u in
      let within : e.node < length old.nodes = All_at (IsEdge old.nodes) old.roots k e functions.edges at_old in
      let bit : w e.node ≡ u e.node = one_valuation old.nodes w u functions.graph val_w val_old agree e.node within in
      bit_agree w u e bit ∙ sym ((merged_value is k e now (older_root is k e at_old) at_new).value u val_u)

  -- one more target has a function
  pub steps_more : AreSteps old more begun mid most root roots new → HasOneMore old more new
  steps_more is = record { base = is.base; roots = roots_count is; counts = is.counts; values = values_kept is }

  -- where the new root stands between two parts, the last one does
  pub steps_between : (split : Split) (shared : List Var) → AreSteps old more begun mid most root roots new → IsInterpolant split shared mid root → LastIsInterpolant split shared new
  steps_between split shared is stands = λ k now last at.
      let place : k ≡ length old.roots = omega (arith, last, roots_count is) in
      let here : slice_get roots k ≡ Some root = ap (λ (list : List Edge). slice_get list k) is.listed ∙ ap (slice_get (old.roots ++ root ∷ [])) place ∙ slice_get-push_last old.roots root in
      λ part u v valuation model reads.
      (merged_value is k root now here at).value u valuation
      ∙ stands part u v (valuation_of_older mid new.nodes (length mid) u is.merged valuation) model (reads ∙ ap (map u) is.merged.inputs)
