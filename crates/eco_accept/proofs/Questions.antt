-- The question that a function's clauses are, behind those of a part.
use Rattle.std.proofs.Common.{◌≡◌, ℕ, ◌+◌, ◌^◌, ◌<◌, ◌≤◌, inl, inr, Bool, List, [], ◌∷◌, ◌++◌, Some, length, get_or, take, refl, sym, ◌∙◌, ap, subst, arith}
use Rattle.std.specs.List.{slice_get, Contains, All}
use Rattle.std.proofs.lemmas.Bool.{cases_eq}
use Rattle.std.proofs.lemmas.Option.{same_Some, slice_get_within, slice_get-get_or}
use Rattle.std.proofs.lemmas.List.Elements.{All-nil, All-weaker, All-contains, Contains-append_left, Contains-append_right, Contains-append_cases}
use Rattle.eco_lists.proofs.Members.{Contains_first, only_one}
use Rattle.eco_lists.proofs.Places.{Contains_at, All_at, All_from_places, any_default}
use Rattle.eco_aig.specs.declared.edge.Edge.{Edge}
use Rattle.eco_aig.specs.declared.node.Node.{Node}
use Rattle.eco_aig.specs.Edges.{value_of}
use Rattle.eco_aig.specs.Graph.{inputs_of}
use Rattle.eco_trace.specs.declared.clause.Lit.{Lit}
use Rattle.eco_trace.specs.declared.clause.Var.{Var}
use Rattle.eco_trace.specs.Clauses.{Clauses, Valuation, IsTrueIn, HoldsIn, Satisfies, IsVarWithin, AreFormed, truth}
use Rattle.eco_tseitin.specs.Encoding.{Encoding, IsEncoding, IsLiteralOf, variable_of, literal_of}
use Rattle.eco_tseitin.proofs.Places.{place_of, place_stands}
use Rattle.eco_trace.proofs.HoldingLaws.{one_true, head_true}
use Rattle.eco_tseitin.proofs.Modelled.{encoding_modelled, modelled_with}
use Rattle.eco_trace.specs.Adding.{shifted, behind}
use Rattle.eco_tseitin.proofs.ReadLaws.{sign_of}
use Rattle.eco_accept.specs.declared.posing.Function.{Function}
use Rattle.eco_accept.specs.declared.posing.Pair.{Pair}
use Rattle.eco_accept.specs.Judging.{JudgeValue}
use Rattle.eco_accept.specs.Posing.{IsVarUpTo, HaveAlso, AreEqual, IsPairWithin, IsPairBefore, ArePairsBefore, IsFunction, FitsBehind, IsBehind, IsPosed, against, bits_behind}
use Rattle.eco_accept.proofs.Adding.{all_more, also_more, against_true, true_against}

-- the root's literal is read as the root's value
pub root_value : (first : ℕ) (named : List ℕ) (root : Edge) (l : Lit) (v : Valuation) → l ≡ literal_of named root → truth (behind first v) l ≡ value_of (bits_behind first named v) root
root_value first named root l v is =
    ap (truth (behind first v)) is ∙ sign_of root.complemented (bits_behind first named v root.node)

-- a function's variables fit behind those of a part
pub function_fits : (nodes : List Node) (root : Edge) (shared : List Var) (function : Function) (first : ℕ) → first < 2 ^ 60 → All (IsVarUpTo first) shared → IsFunction nodes root shared function → FitsBehind first function
function_fits nodes root shared function first room within is = record {
  few = is.few;
  root = subst (λ n. IsVarWithin n function.root) (sym is.vars) is.root_within;
  pairs = All_from_places (IsPairWithin first (function.cnf.vars + first)) function.inputs.items (λ k p at.
      let before = (is.pairs p).0 (Contains_at function.inputs.items k p at) in
      let number : p.own.0 ≡ place_of is.named before.input + 1 = ap (λ (x : Var). x.0) before.own_is in
      let lt = slice_get_within is.named (place_of is.named before.input) before.input (place_stands is.named before.input before.has) in
      record {
        shared = All_at (IsVarUpTo first) shared before.place p.shared within before.shared_at;
        own = omega (arith, number);
        within = omega (arith, number, lt, is.vars);
        fits = omega (arith, number, lt, is.vars, is.few, room);
      });
}

-- and then the clauses' models are the counterexamples
pub function_posed : (base c : Clauses) (shared : List Var) (part : Bool) (nodes : List Node) (root : Edge) (function : Function) → IsFunction nodes root shared function → HaveAlso base c (IsBehind base.vars function part) → IsPosed (record { clauses = base; shared = shared; part = part }) nodes root c
function_posed base c shared part nodes root function is also =
    let judge : JudgeValue = record { clauses = base; shared = shared; part = part } in
    let n = base.vars in
    record {
      named = is.named;
      own = is.own;
      modelled = is.modelled;
      reaches = is.reaches;
      models = λ v. (
        λ h.
            let both = (also v).0 h in
            record {
              model = both.0;
              bits = (is.models (behind n v)).0 (both.1.own);
              inputs = λ place k x at_k at_x has.
                  let p : Pair = record { shared = x; own = variable_of is.named k } in
                  All-contains (λ (q : Pair). v q.shared.0 ≡ behind n v q.own.0) function.inputs.items p both.1.equal
                  ((is.pairs p).1 (record { place = place; before = slice_get_within (inputs_of nodes) place k at_k; input = k; input_at = at_k; shared_at = at_x; has = has; own_is = refl }));
              value = sym (root_value n is.named root function.root v is.root_is) ∙ both.1.value;
            },
        λ h. (also v).1 (
          h.model,
          record {
            own = (is.models (behind n v)).1 h.bits;
            equal = All_from_places (λ (q : Pair). v q.shared.0 ≡ behind n v q.own.0) function.inputs.items (λ k p at.
                let before = (is.pairs p).0 (Contains_at function.inputs.items k p at) in
                h.inputs before.place before.input p.shared before.input_at before.shared_at before.has ∙ ap (λ (y : Var). behind n v y.0) (sym before.own_is));
            value = root_value n is.named root function.root v is.root_is ∙ h.value;
          },
        ),
      );
    }

-- no pair at first, one more, and none where the input has no variable
pub no_pairs : (inputs : List ℕ) (shared : List Var) (named : List ℕ) (pairs : List Pair) → pairs ≡ [] → ArePairsBefore inputs shared named 0 pairs
no_pairs inputs shared named pairs none p = (
  λ c. absurd (let d = subst (λ list. Contains list p) none c in let lt = d.1 in omega (arith, lt)),
  λ is. absurd (omega (arith, is.before)),
)

pair_later : (inputs : List ℕ) (shared : List Var) (named : List ℕ) (n : ℕ) (q : Pair) → IsPairBefore inputs shared named n q → IsPairBefore inputs shared named (n + 1) q
pair_later inputs shared named n q is =
    record { place = is.place; before = omega (arith, is.before); input = is.input; input_at = is.input_at; shared_at = is.shared_at; has = is.has; own_is = is.own_is }

pair_earlier : (inputs : List ℕ) (shared : List Var) (named : List ℕ) (n : ℕ) (q : Pair) → (is : IsPairBefore inputs shared named (n + 1) q) → (is.place ≡ n → ⊥) → IsPairBefore inputs shared named n q
pair_earlier inputs shared named n q is ne =
    record { place = is.place; before = omega (arith, is.before, ne); input = is.input; input_at = is.input_at; shared_at = is.shared_at; has = is.has; own_is = is.own_is }

same_pair : (p q : Pair) → p.shared ≡ q.shared → p.own ≡ q.own → p ≡ q
same_pair p q shared own = ap (λ (x : Var). record { shared = x; own = p.own }) shared ∙ ap (λ (x : Var). record { shared = q.shared; own = x }) own

pub pairs_more : (inputs : List ℕ) (shared : List Var) (named : List ℕ) (old new : List Pair) (n input : ℕ) (p : Pair) → slice_get inputs n ≡ Some input → slice_get shared n ≡ Some p.shared → Contains named input → p.own ≡ variable_of named input → new ≡ old ++ p ∷ [] → ArePairsBefore inputs shared named n old → ArePairsBefore inputs shared named (n + 1) new
pairs_more inputs shared named old new n input p at_input at_shared has own_is added are q = (
  λ c. elim (Contains-append_cases old (p ∷ []) q (subst (λ list. Contains list q) added c)) [
    | inl older ↦ pair_later inputs shared named n q ((are q).0 older)
    | inr last ↦ (let here : p ≡ q = only_one p q last in record {
      place = n;
      before = omega arith;
      input = input;
      input_at = at_input;
      shared_at = at_shared ∙ ap (λ (r : Pair). Some r.shared) here;
      has = has;
      own_is = sym (ap (λ (r : Pair). r.own) here) ∙ own_is;
    })
  ],
  λ is. subst (λ list. Contains list q) (sym added) (elim (cases_eq is.place n) [
    | inl here ↦
        let same_shared : p.shared ≡ q.shared = same_Some p.shared q.shared (sym at_shared ∙ ap (slice_get shared) (sym here) ∙ is.shared_at) in
        let same_input : input ≡ is.input = same_Some input is.input (sym at_input ∙ ap (slice_get inputs) (sym here) ∙ is.input_at) in
        let same_own : p.own ≡ q.own = own_is ∙ ap (variable_of named) same_input ∙ sym is.own_is in
        Contains-append_right old (p ∷ []) q (subst (Contains (p ∷ [])) (same_pair p q same_shared same_own) (Contains_first p []))
    | inr ne ↦ Contains-append_left old (p ∷ []) q ((are q).1 (pair_earlier inputs shared named n q is ne))
  ]),
)

-- an input without a variable gives no pair
pub pairs_same : (inputs : List ℕ) (shared : List Var) (named : List ℕ) (pairs : List Pair) (n input : ℕ) → slice_get inputs n ≡ Some input → (Contains named input → ⊥) → ArePairsBefore inputs shared named n pairs → ArePairsBefore inputs shared named (n + 1) pairs
pairs_same inputs shared named pairs n input at_input none are q = (
  λ c. pair_later inputs shared named n q ((are q).0 c),
  λ is. (are q).1 (pair_earlier inputs shared named n q is (λ here.
      let same_input : is.input ≡ input = same_Some is.input input (sym is.input_at ∙ ap (slice_get inputs) here ∙ at_input) in
      none (subst (Contains named) same_input is.has))),
)

-- all inputs
pub pairs_all : (inputs : List ℕ) (shared : List Var) (named : List ℕ) (pairs : List Pair) (n : ℕ) → length inputs ≤ n → ArePairsBefore inputs shared named n pairs → ArePairsBefore inputs shared named (length inputs) pairs
pairs_all inputs shared named pairs n le are q = (
  λ c. let is = (are q).0 c in record { place = is.place; before = slice_get_within inputs is.place is.input is.input_at; input = is.input; input_at = is.input_at; shared_at = is.shared_at; has = is.has; own_is = is.own_is },
  λ is. (are q).1 (record { place = is.place; before = omega (arith, is.before, le); input = is.input; input_at = is.input_at; shared_at = is.shared_at; has = is.has; own_is = is.own_is }),
)

-- one more input, which has a variable or none
pub input_paired : (inputs listed : List ℕ) (shared : List Var) (named : List ℕ) (old new : List Pair) (n : ℕ) (e own : Var) → listed ≡ inputs → n < length listed → length inputs ≡ length shared → Contains named (get_or listed n 0) × (own ≡ variable_of named (get_or listed n 0)) → new ≡ old ++ record { shared = get_or shared n e; own = own } ∷ [] → ArePairsBefore inputs shared named n old → ArePairsBefore inputs shared named (n + 1) new
input_paired inputs listed shared named old new n e own same lt count is added are =
    pairs_more inputs shared named old new n (get_or listed n 0) (record { shared = get_or shared n e; own = own }) (ap (λ list. slice_get list n) (sym same) ∙ slice_get-get_or listed n 0 lt) (slice_get-get_or shared n e (omega (arith, lt, count, ap length same))) is.0 is.1 added are

pub input_alone : (inputs listed : List ℕ) (shared : List Var) (named : List ℕ) (pairs : List Pair) (n : ℕ) → listed ≡ inputs → n < length listed → (Contains named (get_or listed n 0) → ⊥) → ArePairsBefore inputs shared named n pairs → ArePairsBefore inputs shared named (n + 1) pairs
input_alone inputs listed shared named pairs n same lt none are =
    pairs_same inputs shared named pairs n (get_or listed n 0) (ap (λ list. slice_get list n) (sym same) ∙ slice_get-get_or listed n 0 lt) none are

-- one more pair of equal variables
pub equal_more : (by : ℕ) (old mid new : Clauses) (pairs : List Pair) (k : ℕ) (d : Pair) → k < length pairs → HaveAlso old mid (AreEqual by (take k pairs)) → HaveAlso mid new (λ v. v (get_or pairs k d).shared.0 ≡ v ((get_or pairs k d).own.0 + by)) → HaveAlso old new (AreEqual by (take (k + 1) pairs))
equal_more by old mid new pairs k d lt one two =
    let p = get_or pairs k d in
    also_more (λ v (q : Pair). v q.shared.0 ≡ behind by v q.own.0) (λ v. v p.shared.0 ≡ v (p.own.0 + by)) old mid new pairs k p lt (any_default pairs k d p lt) (λ v. (λ h. h, λ h. h)) one two

-- one more variable that may stand in clauses
pub var_more : (old new : ℕ) (vars : List Var) (k : ℕ) (d : Var) → k < length vars → old ≤ new → ((get_or vars k d).0 ≡ 0 → ⊥) → (get_or vars k d).0 ≤ new → All (IsVarUpTo old) (take k vars) → All (IsVarUpTo new) (take (k + 1) vars)
var_more old new vars k d lt more some within all =
    let x = get_or vars k d in
    (all_more (IsVarUpTo new) vars k x lt (any_default vars k d x lt)).1 (
      All-weaker (IsVarUpTo old) (IsVarUpTo new) (λ y is. record { first = is.first; within = omega (arith, is.within, more) }) (take k vars) all,
      record { first = omega (arith, some); within = within },
    )

-- an edge's clauses and inputs are a function
pub function_is : (nodes : List Node) (root : Edge) (shared : List Var) (function : Function) (encoding : Encoding) → IsEncoding nodes (root ∷ []) [] encoding → IsLiteralOf encoding.nodes root function.root → function.cnf ≡ record { vars = length encoding.nodes; clauses = encoding.clauses } → length encoding.nodes < 2 ^ 60 → AreFormed function.cnf → ArePairsBefore (inputs_of nodes) shared encoding.nodes (length (inputs_of nodes)) function.inputs.items → IsFunction nodes root shared function
function_is nodes root shared function encoding encoded literal cnf_is few formed pairs =
    let vars_is : function.cnf.vars ≡ length encoding.nodes = ap (λ (c : Clauses). c.vars) cnf_is in
    let clauses_is : function.cnf.clauses ≡ encoding.clauses = ap (λ (c : Clauses). c.clauses) cnf_is in
    record {
      formed = formed;
      few = omega (arith, few, vars_is);
      named = encoding.nodes;
      vars = vars_is;
      own = encoded.of_nodes;
      modelled = encoding_modelled nodes (root ∷ []) [] encoding encoded;
      models = λ v. (
        λ h. ((modelled_with nodes (root ∷ []) [] encoding encoded v).0 (subst (Satisfies v) clauses_is h)).0,
        λ has. subst (Satisfies v) (sym clauses_is) ((modelled_with nodes (root ∷ []) [] encoding encoded v).1 (has, All-nil (IsTrueIn v))),
      );
      reaches = literal.has;
      root_is = literal.is;
      root_within = literal.within;
      pairs = pairs;
    }

-- the function's clauses are added, its inputs are made equal, and its value isn't the mark
pub function_added : (base wide a b c : Clauses) (first by : ℕ) (function : Function) (part : Bool) (lacks : Lit) → by ≡ first → wide.clauses ≡ base.clauses → lacks ≡ against part function.root → HaveAlso wide a (λ v. Satisfies (behind by v) function.cnf.clauses) → HaveAlso a b (AreEqual by function.inputs.items) → HaveAlso b c (λ v. HoldsIn v (shifted by lacks ∷ [])) → HaveAlso base c (IsBehind first function part)
function_added base wide a b c first by function part lacks by_is wide_is lacks_is one two three =
    subst (λ n. HaveAlso base c (IsBehind n function part)) by_is (λ v. (
      λ h.
          let r = (three v).0 h in
          let q = (two v).0 r.0 in
          let p = (one v).0 q.0 in
          (subst (Satisfies v) wide_is p.0, record { own = p.1; equal = q.1; value = against_true part function.root (behind by v) (subst (IsTrueIn (behind by v)) lacks_is (one_true v (shifted by lacks) r.1)) }),
      λ h. (three v).1 ((two v).1 ((one v).1 (subst (Satisfies v) (sym wide_is) h.0, h.1.own), h.1.equal), head_true v (shifted by lacks) [] (subst (IsTrueIn (behind by v)) (sym lacks_is) (true_against part function.root (behind by v) h.1.value))),
    ))
