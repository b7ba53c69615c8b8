-- What the answer to a question says of the function.
use Rattle.std.proofs.Common.{◌≡◌, ◌≢◌, ℕ, suc, ◌+◌, ◌<◌, ◌≤◌, ◌⊎◌, inl, inr, Bool, false, List, [], ◌∷◌, Some, Result, length, get_or, map, refl, sym, ◌∙◌, ap, subst, arith}
use Rattle.std.specs.List.{slice_get, Contains, AllPairs}
use Rattle.std.specs.Option.{option_map}
use Rattle.std.specs.Result.{IfOk}
use Rattle.std.proofs.lemmas.List.{length-map}
use Rattle.std.proofs.lemmas.List.Kept.{AllPairs-cons}
use Rattle.std.proofs.lemmas.Option.{slice_get-map, slice_get-get_or, slice_get_within}
use Rattle.std.proofs.lemmas.Result.{IfOk-weaker}
use Rattle.eco_lists.proofs.Tests.{cases_bits, opposite}
use Rattle.eco_lists.proofs.Places.{Contains_at, All_at, item_at, same_by_places, same_at}
use Rattle.eco_lists.proofs.Places as places
use Rattle.eco_aig.specs.declared.edge.Edge.{Edge}
use Rattle.eco_aig.specs.declared.node.Node.{Node}
use Rattle.eco_aig.specs.declared.node.Node.TheVariants.{Zero, Input, And}
use Rattle.eco_aig.specs.Edges.{value_of}
use Rattle.eco_aig.specs.Graph.{IsGraph, IsValuation, inputs_of}
use Rattle.eco_aig.proofs.Filling.{bit_agree}
use Rattle.eco_aig.proofs.Inputs.{input_listed, listed_input, listed_at}
use Rattle.eco_aig.proofs.Valuations.{valuation_with}
use Rattle.eco_trace.specs.declared.clause.Var.{Var}
use Rattle.eco_trace.specs.Adding.{behind}
use Rattle.eco_trace.specs.Clauses.{Clauses, Valuation, Satisfies}
use Rattle.eco_trace.proofs.HoldingLaws.{agree_satisfied}
use Rattle.eco_tseitin.specs.Encoding.{variable_of}
use Rattle.eco_tseitin.proofs.Places.{place_of, place_stands, place_at}
use Rattle.eco_tseitin.proofs.Modelled.{values_of, values_are}
use Rattle.eco_tseitin.specs.Reading.{read_vars}
use Rattle.eco_accept.specs.declared.judge.Judgement.{Judgement}
use Rattle.eco_accept.specs.declared.judge.Judgement.TheVariants.{Accepted, Refused, Unknown}
use Rattle.eco_accept.specs.Judging.{JudgeValue, IsJudge, LacksMark, IsJudged}
use Rattle.eco_accept.specs.Posing.{Counters, IsPosed, IsFound, bits_behind}
use Rattle.eco_accept.proofs.Behind.{glued, glued_front, glued_behind}

-- the numbers of the input nodes are distinct: those behind a node are larger
inputs_apart : (nodes : List Node) (from : ℕ) → ((k number : ℕ) → slice_get nodes k ≡ Some (Input number) → number ≡ from + k) → AllPairs (λ a b. a ≢ b) (inputs_of nodes)
inputs_apart [] from each = λ i j d lt within. absurd (omega (arith, within))
inputs_apart (Zero ∷ nodes) from each = inputs_apart nodes (from + 1) (λ k number at. let e = each (suc k) number at in omega (arith, e))
inputs_apart (And a b ∷ nodes) from each = inputs_apart nodes (from + 1) (λ k number at. let e = each (suc k) number at in omega (arith, e))
inputs_apart (Input n ∷ nodes) from each =
    AllPairs-cons (λ a b. a ≢ b) n (inputs_of nodes) (λ k d lt e.
    let at = listed_at nodes k (get_or (inputs_of nodes) k d) (slice_get-get_or (inputs_of nodes) k d lt) in
    let later = each (suc at.0) (get_or (inputs_of nodes) k d) at.1 in
    let here = each 0 n refl in
    omega (arith, e, later, here))
    (inputs_apart nodes (from + 1) (λ k number at. let e = each (suc k) number at in omega (arith, e)))

-- a valuation in which the inputs have the bits of the list, and such a list
with_bits : (nodes : List Node) (bits : List Bool) → IsGraph nodes → length (inputs_of nodes) ≡ length bits → (u : ℕ → Bool) × IsValuation nodes u × (map u (inputs_of nodes) ≡ bits)
with_bits nodes bits graph count =
    let inputs = inputs_of nodes in
    let with_inputs = valuation_with nodes (λ k. get_or bits (place_of (inputs_of nodes) k) false) graph in
    let u = with_inputs.0 in (
      u,
      with_inputs.1,
      same_by_places (map u inputs) bits (length-map inputs u ∙ count) (λ i lt.
          let within : i < length inputs = omega (arith, lt, length-map inputs u) in
          let k = get_or inputs i 0 in
          let at_k : slice_get inputs i ≡ Some k = slice_get-get_or inputs i 0 within in
          let node = listed_input nodes k graph (Contains_at inputs i k at_k) in
          let place : place_of inputs k ≡ i = place_at inputs i (inputs_apart nodes 0 (λ j number at. let e = graph.inputs j number at in omega (arith, e))) within in
          slice_get-map u inputs i ∙ ap (option_map u) at_k ∙ ap Some (with_inputs.2 k k node ∙ ap (λ j. get_or bits j false) place) ∙ sym (slice_get-get_or bits i false (omega (arith, within, count)))),
    )

module _ (judge : JudgeValue) (nodes : List Node) (root : Edge) (c : Clauses) (is_judge : IsJudge judge) (graph : IsGraph nodes) (count : length (inputs_of nodes) ≡ length judge.shared) (posed : IsPosed judge nodes root c) where
  -- a lack of the mark gives a model of the clauses
  pub counter : (bits : List Bool) → LacksMark judge nodes root bits → (w : Valuation) × Satisfies w c.clauses
  counter bits lacks =
      let n = judge.clauses.vars in
      let named = posed.named in
      let w = glued n named lacks.v lacks.u in
      let front : (x : ℕ) → x ≤ n → w x ≡ lacks.v x = glued_front n named lacks.v lacks.u in
      let back = glued_behind n named lacks.v lacks.u in
      let is : Counters judge nodes root named w = record {
        model = agree_satisfied n lacks.v w judge.clauses.clauses is_judge.formed.within (λ x first last. sym (front x last)) lacks.model;
        bits = record { bits = lacks.u; valuation = lacks.valuation; same = back };
        inputs = λ place k x at_k at_x has.
            front x.0 (All_at (λ (y : Var). y.0 ≤ n) judge.shared place x is_judge.last at_x) ∙ same_at (λ (y : Var). lacks.v y.0) lacks.u judge.shared (inputs_of nodes) place x k (lacks.shared ∙ sym lacks.inputs) at_x at_k ∙ sym (back k has);
        value = bit_agree (bits_behind n named w) lacks.u root (back root.node posed.reaches) ∙ lacks.value;
      } in
      (w, (posed.models w).1 is)

  -- a model of the clauses shows a lack of the mark
  pub lacking : (v : Valuation) → Satisfies v c.clauses → LacksMark judge nodes root (read_vars v judge.shared)
  lacking v holds =
      let n = judge.clauses.vars in
      let named = posed.named in
      let is = (posed.models v).0 holds in
      let bits = read_vars v judge.shared in
      let with_inputs = with_bits nodes bits graph (count ∙ sym (length-map judge.shared (λ x. v x.0))) in
      let u = with_inputs.0 in
      let x = (variable_of named root.node).0 in
      let within = slice_get_within named (place_of named root.node) root.node (place_stands named root.node posed.reaches) in
      let one = posed.modelled.one (behind n v) (values_of named u) ((posed.modelled.models (behind n v)).1 is.bits) ((posed.modelled.models (values_of named u)).1 (record { bits = u; valuation = with_inputs.1; same = values_are named u })) (λ k number at has.
      let listed = input_listed nodes k number at in
      let listed_k = subst (Contains (inputs_of nodes)) (graph.inputs k number at) listed in
      let place = places.place_of (inputs_of nodes) k listed_k in
      let lt = slice_get_within (inputs_of nodes) place.0 k place.1 in
      let item = item_at judge.shared place.0 (omega (arith, lt, count)) in
      sym (is.inputs place.0 k item.0 place.1 item.1 has) ∙ sym (same_at u (λ (y : Var). v y.0) (inputs_of nodes) judge.shared place.0 k item.0 with_inputs.2 place.1 item.1) ∙ sym (values_are named u k has)) in
      let at_root : u root.node ≡ bits_behind n named v root.node = sym (one x (omega arith) (omega (arith, within)) ∙ values_are named u root.node posed.reaches) in
      record {
        u = u;
        v = v;
        valuation = with_inputs.1;
        model = is.model;
        shared = refl;
        inputs = with_inputs.2;
        value = bit_agree u (bits_behind n named v) root at_root ∙ is.value;
      }

  -- what is found of the clauses says whether the edge has the mark
  pub judged_by : (limit : ℕ) (found : Judgement) → IsFound c judge.shared limit found → IsJudged judge nodes root limit found
  judged_by limit Accepted none = λ u v valuation holds same. by u v valuation holds same (cases_bits (value_of u root) judge.part)
    where
      by : (u : ℕ → Bool) (v : Valuation) → IsValuation nodes u → Satisfies v judge.clauses.clauses → read_vars v judge.shared ≡ map u (inputs_of nodes) → (value_of u root ≡ judge.part) ⊎ (value_of u root ≢ judge.part) → value_of u root ≡ judge.part
      by u v valuation holds same (inl e) = e
      by u v valuation holds same (inr ne) =
          let model = counter (read_vars v judge.shared) (record { u = u; v = v; valuation = valuation; model = holds; shared = refl; inputs = sym same; value = opposite (value_of u root) judge.part ne }) in
          absurd (none model.0 model.1)
  judged_by limit (Refused bits) model = subst (LacksMark judge nodes root) model.2 (lacking model.0 model.1)
  judged_by limit Unknown spent = record {
    asked = c;
    proof = spent.0;
    lacks = λ v holds. (read_vars v judge.shared, lacking v holds);
    shows = counter;
    spent = spent.1;
  }

-- the same of the judge that asked, whose shared variables were read
pub judged_found : {E : Type 0} (judge base : JudgeValue) (nodes : List Node) (root : Edge) (c : Clauses) (limit : ℕ) (shared : List Var) (r : Result Judgement E) → base ≡ judge → shared ≡ base.shared → IsJudge base → IsGraph nodes → length (inputs_of nodes) ≡ length judge.shared → IsPosed (record { clauses = base.clauses; shared = shared; part = base.part }) nodes root c → IfOk r (IsFound c shared limit) → IfOk r (IsJudged judge nodes root limit)
judged_found judge base nodes root c limit shared r same shared_is is graph count posed found =
    let base_count = count ∙ ap (λ (j : JudgeValue). length j.shared) (sym same) in
    let base_posed : IsPosed base nodes root c = subst (λ list. IsPosed (record { clauses = base.clauses; shared = list; part = base.part }) nodes root c) shared_is posed in
    subst (λ (j : JudgeValue). IfOk r (IsJudged j nodes root limit)) same (IfOk-weaker r (IsFound c shared limit) (IsJudged base nodes root limit) (λ x here. judged_by base nodes root c is graph base_count base_posed limit x (subst (λ list. IsFound c list limit x) shared_is here)) found)
