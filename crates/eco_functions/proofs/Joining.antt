-- One more function, of which the last was then replaced: what holds of the whole.
use Rattle.std.proofs.Common.{◌≡◌, ℕ, ◌-◌, ◌+◌, ◌⊎◌, inl, inr, List, [], ◌∷◌, ◌++◌, Some, length, map, take, sym, ◌∙◌, ap, subst, arith, length-append}
use Rattle.std.specs.List.{slice_get, AllZip}
use Rattle.std.proofs.lemmas.List.{append-nil, length-map, length-take, take_all}
use Rattle.std.proofs.Math.Seq.{take-append_seam}
use Rattle.std.proofs.lemmas.Option.{slice_get_within}
use Rattle.eco_lists.proofs.Places.{item_at, slice_get-take}
use Rattle.eco_gates.specs.declared.gate.NetId.{NetId}
use Rattle.eco_trace.specs.declared.clause.Var.{Var}
use Rattle.eco_trace.specs.Split.{Split}
use Rattle.eco_aig.specs.declared.edge.Edge.{Edge}
use Rattle.eco_aig.specs.declared.node.Node.{Node}
use Rattle.eco_aig.specs.Edges.{value_of}
use Rattle.eco_aig.specs.Graph.{IsGraph, IsValuation, HasValue, Grows, inputs_of}
use Rattle.eco_aig.proofs.Growing.{valuation_of_older, grows_join}
use Rattle.eco_merge.specs.Counting.{AreNoMore, IsGate, IsItem, ReachNoMoreInputs}
use Rattle.eco_functions.specs.Functions.{FunctionsValue, AreFunctions, HasOneMore, IsInterpolant}
use Rattle.eco_functions.specs.Merged.{ReachNoMore}
use Rattle.eco_functions.specs.Grafts.{IsGraft}
use Rattle.eco_functions.specs.Improving.{AreChosen, IsImproved, IsReplaced, LastReadsAll, ReachNoMoreThan, StandsAsBoth, first_of, without_last}
use Rattle.eco_functions.proofs.Adding.{no_inputs}
use Rattle.eco_functions.proofs.Accepting.{graft_stands}
use Rattle.eco_functions.proofs.Extending.{AreSteps, steps_functions, steps_more, steps_between}
use Rattle.eco_functions.proofs.Replacing.{reach_join, reach_older, chosen_apart, first_functions, interpolant_stays}

-- the graph of functions grows by another function, the roots are chosen, and all are merged
pub record AreReplacing (old : FunctionsValue) (mid : List Node) (most : ℕ) (from : List Node) (root edge : Edge) (chosen : List Edge) (new : FunctionsValue) : Type 0 where
  pub functions : AreFunctions old
  pub last : LastReadsAll old
  pub source : IsGraph from
  pub inputs : length (inputs_of from) ≡ length old.base
  pub made : Grows old.nodes mid most
  pub graft : IsGraft mid from root edge
  pub chosen_roots : AreChosen mid old.roots edge chosen
  pub merged : Grows mid new.nodes (length mid)
  pub values : AllZip (λ e r. HasValue new.nodes r (λ w. value_of w e)) chosen new.roots
  pub reach : ReachNoMoreInputs mid chosen new.nodes new.roots
  pub gates : AreNoMore (IsGate new.nodes new.roots) (IsGate mid chosen)
  pub items : AreNoMore (IsItem new.nodes new.roots) (IsItem mid chosen)
  pub graph : IsGraph new.nodes
  pub base : new.base ≡ old.base
  pub counts : new.counts ≡ old.counts

module _ (old : FunctionsValue) (mid : List Node) (most : ℕ) (from : List Node) (root edge : Edge) (chosen : List Edge) (new : FunctionsValue) (is : AreReplacing old mid most from root edge chosen new) where
  -- the chosen roots are those without the last, and one more
  split_of : (e : Edge) × (chosen ≡ without_last old.roots ++ e ∷ []) × ((e ≡ edge) ⊎ (slice_get old.roots (length old.roots - 1) ≡ Some e))
  split_of = chosen_apart mid old.roots edge chosen is.last.some is.chosen_roots

  -- so all comes by the steps that add a function to those without the last
  steps : AreSteps (first_of old) [] old.nodes mid most split_of.0 chosen new
  steps = record {
    functions = first_functions old is.functions;
    inputs = no_inputs old.nodes;
    made = is.made;
    listed = split_of.1;
    merged = is.merged;
    values = is.values;
    reach = is.reach;
    graph = is.graph;
    base = is.base ∙ sym (append-nil old.base);
    counts = is.counts ∙ is.last.counts ∙ ap (λ (list : List NetId). without_last old.counts ++ length list ∷ []) (sym is.base);
  }

  pub replaced_functions : AreFunctions new
  replaced_functions = steps_functions (first_of old) [] old.nodes mid most split_of.0 chosen new steps

  pub replaced_is : IsReplaced old new
  replaced_is =
      let merged : ReachNoMoreThan new.nodes new.roots mid chosen = record { gates = is.gates; items = is.items } in
      let older = reach_older old.nodes mid most old.roots is.functions.graph is.functions.edges is.made in
      record {
        most = most + length mid;
        grows = grows_join old.nodes mid new.nodes most (length mid) is.made is.merged;
        more = steps_more (first_of old) [] old.nodes mid most split_of.0 chosen new steps;
        no_more = reach_join new.nodes mid old.nodes new.roots chosen old.roots merged (reach_join mid mid old.nodes chosen old.roots old.roots is.chosen_roots.no_more older);
      }

  pub replaced_stands : StandsAsBoth old from root new
  replaced_stands = λ split shared last other.
      let same : length (inputs_of from) ≡ length (inputs_of mid) = is.inputs ∙ sym is.functions.inputs ∙ ap (λ (list : List ℕ). length list) (sym is.made.inputs) in
      let here : IsInterpolant split shared mid split_of.0 =
      elim split_of.2 [
        | inl replaced ↦ subst (IsInterpolant split shared mid) (sym replaced) (graft_stands split shared mid from root edge is.source same is.graft other)
        | inr kept ↦ interpolant_stays split shared old.nodes mid most split_of.0 is.made (last (length old.roots - 1) split_of.0 (let some = is.last.some in omega (arith, some)) kept)
      ] in
      steps_between (first_of old) [] old.nodes mid most split_of.0 chosen new split shared steps here

-- the function that was added last reads all signals
pub last_reads_all : (old mid : FunctionsValue) (more : List NetId) → AreFunctions old → HasOneMore old more mid → LastReadsAll mid
last_reads_all old mid more functions one = record {
  some = (let count = one.roots in omega (arith, count));
  counts =
      let len : length mid.counts - 1 ≡ length old.counts = (let all = ap (λ (list : List ℕ). length list) one.counts in omega (arith, all, length-append old.counts (length mid.base ∷ []))) in
      let front : without_last mid.counts ≡ old.counts = ap (λ (n : ℕ). take n mid.counts) len ∙ ap (take (length old.counts)) one.counts ∙ take-append_seam old.counts (length mid.base ∷ []) in
      one.counts ∙ ap (λ (list : List ℕ). list ++ length mid.base ∷ []) (sym front);
}

-- after a replacement there is still one function more
replaced_more : (old mid new : FunctionsValue) (more : List NetId) → AreFunctions old → AreFunctions mid → HasOneMore old more mid → IsReplaced mid new → HasOneMore old more new
replaced_more old mid new more functions are one is =
    let base : new.base ≡ mid.base = is.more.base ∙ append-nil mid.base in
    let all = last_reads_all old mid more functions one in
    let count = one.roots in
    let few : length (without_last mid.roots) ≡ length old.roots = omega (arith, count, length-take (length mid.roots - 1) mid.roots) in
    let later = is.more.roots in
    record {
      base = base ∙ one.base;
      roots = omega (arith, few, later);
      counts =
          is.more.counts
          ∙ ap (λ (list : List NetId). without_last mid.counts ++ length list ∷ []) base
          ∙ sym all.counts ∙ one.counts
          ∙ ap (λ (list : List NetId). old.counts ++ length list ∷ []) (sym base);
      values = λ w u val_w val_u same k root now at_old at_new.
          let lt = slice_get_within old.roots k root at_old in
          let val_mid : IsValuation mid.nodes u = valuation_of_older mid.nodes new.nodes is.most u is.grows val_u in
          let inputs : map u (inputs_of new.nodes) ≡ map u (inputs_of mid.nodes) = ap (map u) is.grows.inputs in
          let between = item_at mid.roots k (omega (arith, lt, count)) in
          let first = one.values w u val_w val_mid (same ∙ ap (take (length old.base)) inputs) k root between.0 at_old between.1 in
          let kept : slice_get (without_last mid.roots) k ≡ Some between.0 = slice_get-take (length mid.roots - 1) mid.roots k between.0 (omega (arith, lt, count)) between.1 in
          let whole : take (length mid.base) (map u (inputs_of new.nodes)) ≡ map u (inputs_of mid.nodes) =
          ap (take (length mid.base)) inputs ∙ take_all (length mid.base) (map u (inputs_of mid.nodes)) (omega (arith, are.inputs, length-map (inputs_of mid.nodes) u)) in
          first ∙ is.more.values u u val_mid val_u (sym whole) k between.0 now kept at_new;
    }

-- what holds of the functions with one more, where the last may have been replaced
pub improved_more : (old mid new : FunctionsValue) (more : List NetId) → AreFunctions old → AreFunctions mid → HasOneMore old more mid → IsImproved mid new → HasOneMore old more new
improved_more old mid new more functions are one is =
    elim is [
      | inl same ↦ subst (HasOneMore old more) (sym same) one
      | inr replaced ↦ replaced_more old mid new more functions are one replaced
    ]

pub improved_reach : (old mid new : FunctionsValue) (more : List NetId) (split : Split) (shared : List Var) (most : ℕ) → ReachNoMore old more split shared most mid → IsImproved mid new → ReachNoMore old more split shared most new
improved_reach old mid new more split shared most reach is =
    elim is [
      | inl same ↦ subst (ReachNoMore old more split shared most) (sym same) reach
      | inr replaced ↦
          let before = old.roots ++ reach.root ∷ [] in
          let merged : ReachNoMoreThan mid.nodes mid.roots reach.nodes before = record { gates = reach.gates; items = reach.items } in
          let all = reach_join new.nodes mid.nodes reach.nodes new.roots mid.roots before replaced.no_more merged in
          record { nodes = reach.nodes; root = reach.root; before = reach.before; gates = all.gates; items = all.items }
    ]
