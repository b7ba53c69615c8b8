-- Merging adds no gate: the edges that have a wire in a patch are the items of its roots, each once.
use Rattle.std.proofs.Common.{◌≡◌, ◌≢◌, ℕ, ◌+◌, ◌<◌, ◌≤◌, inl, inr, Bool, true, false, List, [], ◌∷◌, ◌++◌, Some, length, get_or, map, refl, sym, ◌∙◌, ap, subst, arith, length-append}
use Rattle.std.specs.List.{All, AllPairs, Contains, slice_get}
use Rattle.std.specs.Option.{is_some}
use Rattle.std.proofs.lemmas.Bool.{and_from}
use Rattle.eco_lists.proofs.Tests.{both}
use Rattle.eco_lists.proofs.Places.{All_at, Contains_at, All_from_places, slice_get-back, pairs_from_places, place_of}
use Rattle.eco_lists.proofs.Members.{AllPairs-head, AllPairs-tail, Contains_cases, Contains_first, Contains_later, Contains_none}
use Rattle.eco_meaning.specs.Circuit.{Circuit, names}
use Rattle.eco_netlist.specs.Netlists.{names_at}
use Rattle.eco_aig.specs.declared.edge.Edge.{Edge}
use Rattle.eco_aig.specs.declared.node.Node.{Node}
use Rattle.eco_aig.specs.Edges.{plain}
use Rattle.eco_aig.specs.Graph.{IsGraph, pair_at, inputs_of}
use Rattle.eco_merge.specs.Counting.{AreNoMore, IsItem, gate, first, second}
use Rattle.eco_aig.specs.Reached.{both_of, IsReached, AreReached}
use Rattle.eco_splice.specs.Wired.{is_gate, wired}
use Rattle.eco_aig.proofs.MarkLemmas.{mark_within}
use Rattle.eco_aig.proofs.Reaching.{operand_cases}
use Rattle.eco_splice.proofs.WiredLemmas.{wired_cases, node_wired, complement_wired}
use Rattle.eco_splice.proofs.OrderedEdges.{netted_laid_out, pair_found}
use Rattle.eco_splice.proofs.GraphPatches.{patch_count}
use Rattle.eco_functions.specs.Smaller.{MergingAddsNoGate}

-- a list without one of its members
without : {X : Type 0} (x : X) (ys : List X) → Contains ys x → (rest : List X) × (length ys ≡ length rest + 1) × ((y : X) → x ≢ y → Contains ys y → Contains rest y)
without x [] c = absurd (Contains_none x c)
without {X} x (z ∷ zs) c =
    elim (Contains_cases z x zs c) [
      | inl same ↦ (
        zs,
        omega arith,
        λ y apart d. elim (Contains_cases z y zs d) [ inl one ↦ absurd (apart (sym same ∙ one)) | inr later ↦ later ],
      )
      | inr later ↦
          let rest = without x zs later in (
            z ∷ rest.0,
            (let count = rest.1 in omega (arith, count)),
            λ y apart d. elim (Contains_cases z y zs d) [
              | inl one ↦ subst (Contains (z ∷ rest.0)) one (Contains_first z rest.0)
              | inr behind ↦ Contains_later z y rest.0 (rest.2 y apart behind)
            ],
          )
    ]

-- different members of a list are no more than its elements
pub no_longer : {X : Type 0} (xs ys : List X) → AllPairs (λ a b. a ≢ b) xs → ((x : X) → Contains xs x → Contains ys x) → length xs ≤ length ys
no_longer [] ys apart within = omega arith
no_longer {X} (x ∷ xs) ys apart within =
    let rest = without x ys (within x (Contains_first x xs)) in
    let fewer = no_longer xs rest.0 (AllPairs-tail (λ a b. a ≢ b) x xs apart) (λ y c. rest.2 y (AllPairs-head (λ a b. a ≢ b) x xs apart y c) (within y (Contains_later x y xs c))) in
    let count = rest.1 in
    omega (arith, fewer, count)

module _ (nodes : List Node) (roots : List Edge) (marks : List Bool) (are : AreReached nodes roots marks) where
  -- a marked and-node is reached, and a reached one is marked
  gate_reached : (k : ℕ) → is_gate nodes marks k ≡ true → IsReached nodes roots k × (a : Edge) × (b : Edge) × (pair_at nodes k ≡ Some (a, b))
  gate_reached k is =
      let parts = both (get_or marks k false) (is_some (pair_at nodes k)) is in
      let from = are.sound k parts.0 in
      let pair = pair_found (pair_at nodes k) parts.1 in
      (from, pair.0, pair.1, pair.2)

  reached_gate : (k : ℕ) (a b : Edge) → pair_at nodes k ≡ Some (a, b) → IsReached nodes roots k → (is_gate nodes marks k ≡ true) × (k < length nodes)
  reached_gate k a b at reached =
      let marked = are.complete k reached in
      let within = mark_within marks k marked in
      let count = are.len in (
        and_from (get_or marks k false) (is_some (pair_at nodes k)) marked (ap is_some at),
        omega (arith, within, count),
      )

  -- what has a wire is an item
  pub wired_item : (e : Edge) → Contains (wired nodes marks) e → IsItem nodes roots e
  wired_item e c =
      let found = wired_cases nodes marks (length nodes) e c in
      let k = found.0 in
      let reached = gate_reached k found.2 in
      elim found.3 [
        | inl node ↦ subst (IsItem nodes roots) node (gate k (record { conjunction = record { first = reached.1; second = reached.2; operands = reached.3 }; reached = reached.0 }))
        | inr complement ↦
            let operand = operand_cases nodes k e complement.1 in
            elim operand.3 [
              | inl same ↦ subst (IsItem nodes roots) same (first k operand.0 operand.1 operand.2 reached.0 (ap (λ (x : Edge). x.complemented) same ∙ complement.0))
              | inr same ↦ subst (IsItem nodes roots) same (second k operand.0 operand.1 operand.2 reached.0 (ap (λ (x : Edge). x.complemented) same ∙ complement.0))
            ]
      ]

  -- and each item has one
  pub item_wired : (e : Edge) → IsItem nodes roots e → Contains (wired nodes marks) e
  item_wired _ (gate k g) =
      let is = reached_gate k g.conjunction.first g.conjunction.second g.conjunction.operands g.reached in
      node_wired nodes marks (length nodes) k is.1 is.0
  item_wired _ (first k a b at reached sign) =
      let is = reached_gate k a b at reached in
      complement_wired nodes marks (length nodes) k a is.1 is.0 (subst (λ (list : List Edge). Contains list a) (sym (ap both_of at)) (Contains_first a (b ∷ []))) sign
  item_wired _ (second k a b at reached sign) =
      let is = reached_gate k a b at reached in
      complement_wired nodes marks (length nodes) k b is.1 is.0 (subst (λ (list : List Edge). Contains list b) (sym (ap both_of at)) (Contains_later a b (b ∷ []) (Contains_first b []))) sign

  -- an edge has one wire
  pub wired_once : IsGraph nodes → AllPairs (λ a b. a ≢ b) (wired nodes marks)
  wired_once graph =
      let inputs = map plain (inputs_of nodes) in
      let edges = wired nodes marks in
      let laid_out = netted_laid_out nodes roots marks graph are in
      pairs_from_places (λ a b. a ≢ b) edges (λ i j x y lt at_i at_j same.
      let front : slice_get (inputs ++ edges) (length inputs + i) ≡ Some x = slice_get-back inputs edges (length inputs + i) i refl ∙ at_i in
      let back : slice_get (inputs ++ edges) (length inputs + j) ≡ Some x = slice_get-back inputs edges (length inputs + j) j refl ∙ at_j ∙ ap Some (sym same) in
      let place = laid_out.once (length inputs + i) (length inputs + j) x front back in
      omega (arith, lt, place))

-- where the items are no more, the wires are no more
wires_no_more : (before after : List Node) (roots merged : List Edge) (old new : List Bool) → IsGraph after → AreReached before roots old → AreReached after merged new → AreNoMore (IsItem after merged) (IsItem before roots) → length (wired after new) ≤ length (wired before old)
wires_no_more before after roots merged old new graph are_old are_new no_more =
    let edges = wired after new in
    let items : All (IsItem after merged) edges = All_from_places (IsItem after merged) edges (λ k e at. wired_item after merged new are_new e (Contains_at edges k e at)) in
    let found = no_more edges (wired_once after merged new are_new graph) items in
    let few = no_longer found.0 (wired before old) found.1 (λ e c. let at = place_of found.0 e c in item_wired before roots old are_old e (All_at (IsItem before roots) found.0 at.0 e found.2 at.1)) in
    let count = found.3 in
    omega (arith, few, count)

pub merging_adds_no_gate : MergingAddsNoGate
merging_adds_no_gate old more split shared most new functions one_more merging f p q written is =
    let roots = old.roots ++ merging.root ∷ [] in
    let base = names_at (names f) new.base in
    let form = is.written.form in
    let before = patch_count f merging.nodes roots base p written written.marks written.reached in
    let after = patch_count f new.nodes new.roots base is.written.fixed form form.marks form.reached in
    let wires = wires_no_more merging.nodes new.nodes roots new.roots written.marks form.marks functions.graph written.reached form.reached merging.items in
    let targets = length-append old.roots (merging.root ∷ []) in
    let count = one_more.roots in
    let fixed : length is.written.fixed.gates ≤ length p.gates = omega (arith, before, after, wires, targets, count) in
    elim is.written.fewer [
      | inl same ↦ (let gates = ap (λ (c : Circuit). length c.gates) same in omega (arith, gates, fixed))
      | inr less ↦ omega (arith, less, fixed)
    ]
