-- What a side over a splice asks, and what two of them ask together.
use Rattle.std.proofs.Common.{◌≡◌, ℕ, zero, suc, ◌+◌, ◌<◌, ◌≤◌, Bool, true, false, not, Option, Some, None, List, [], ◌∷◌, ◌++◌, length, map, refl, sym, ◌∙◌, ap, subst, arith}
use Rattle.std.specs.List.{All, Contains}
use Rattle.std.proofs.lemmas.List.Elements.{Contains-append_right, All-contains, All-nil, All-cons, All-head, All-tail}
use Rattle.std.proofs.lemmas.List.{length-append, append_assoc, get_or_append_left, length-map}
use Rattle.eco_lists.proofs.Members.{Contains-map, map-Contains, Contains_first, Contains_later}
use Rattle.eco_meaning.specs.Circuit.{Circuit, Values, names, IsConsistent, AgreeOn, IsSignal, IsTarget, AreTargets}
use Rattle.eco_meaning.specs.Meaning.{Goal, IsCared, IsRight}
use Rattle.eco_meaning.specs.Patch.{Fits, IsBehindOnly, splice_of}
use Rattle.eco_meaning.specs.Choice.{IsReached, AreValues}
use Rattle.eco_aig.specs.declared.edge.Edge.{Edge}
use Rattle.eco_aig.specs.declared.node.Node.{Node}
use Rattle.eco_aig.specs.Graph.{IsValuation}
use Rattle.eco_aig.specs.Edges.{bits_of}
use Rattle.eco_netlist.proofs.MisfitLemmas.{targets_unique}
use Rattle.eco_compile.specs.Compiled.{HasOpenNets}
use Rattle.eco_trace.specs.declared.clause.Lit.{Lit}
use Rattle.eco_trace.specs.declared.clause.Var.{Var}
use Rattle.eco_trace.specs.Split.{Split}
use Rattle.eco_trace.specs.Clauses.{read}
use Rattle.eco_gates.specs.declared.gate.NetId.{NetId}
use Rattle.eco_netlist.specs.Netlists.{AreNets, IsChecked, name_at, names_at}
use Rattle.eco_netlist.proofs.SoundNetlists.{sound_netlist}
use Rattle.eco_query.specs.Problem.{HasTargetNumber, IsProblem}
use Rattle.eco_laws.specs.Sound.{IsSound}
use Rattle.eco_laws.specs.Kept.{CaresForInputs}
use Rattle.eco_laws.specs.Reached.{IsOfSplice}
use Rattle.eco_laws.specs.Asked.{IsMissed, IsForcedAmong, IsSeparated}
use Rattle.eco_laws.proofs.OneValue.{first_patch, signal_net, same_by_image, reached_maps_agree}
use Rattle.eco_laws.proofs.Spliced.{reached_maps_are_the_splices}
use Rattle.eco_laws.proofs.AskedLemmas.{map_from_agree}
use Rattle.eco_tseitin.specs.declared.sides.EncodedSide.{EncodedSide}
use Rattle.eco_tseitin.specs.declared.sides.TwoSides.{TwoSides}
use Rattle.eco_tseitin.specs.Reading.{Makes, read_vars}
use Rattle.eco_tseitin.specs.Sides.{IsPart, MakeBoth, HaveBothInputs, HaveModel, split_of, AreTwoParts}
use Rattle.eco_pose.specs.Boards.{AreBaseEdges, IsSideGraph}
use Rattle.eco_pose.specs.Posing.{posed_of}
use Rattle.eco_pose.specs.Questions.{AreRowsOf, IsSeparable}
use Rattle.eco_pose.specs.Answers.{AsksForPair, AsksSeparate, IsSideOf}
use Rattle.eco_pose.proofs.MissLaws.{missed_from_made, made_from_missed}

-- a splice of the patch p in f, which drives the targets that come before this one, and signals that lie behind no others
pub record IsStage (f : Circuit) (goal : Goal) (p : Circuit) (target : List ℕ) (later base : List (List ℕ)) : Type 0 where
  pub sound : IsSound f
  pub patch : IsSound p
  pub fits : Fits f p (target ∷ later)
  pub cares : CaresForInputs f goal
  pub signals : All (IsSignal f) base
  pub apart : All (IsBehindOnly f p.outputs) base

module _ (f : Circuit) (goal : Goal) (p : Circuit) (target : List ℕ) (later base : List (List ℕ)) (stage : IsStage f goal p target later base) where
  -- the maps that are reached are those of the splice
  to_splice : (x : List Bool) (v : Values) → IsReached f p p.outputs x v → IsOfSplice f p x v
  to_splice x v = (reached_maps_are_the_splices f p (target ∷ later) stage.sound stage.patch stage.fits x v).0

  from_splice : (x : List Bool) (o : Values) → IsConsistent (splice_of f p) o → map o f.inputs ≡ x → IsReached f p p.outputs x o
  from_splice x o consistent input =
      (reached_maps_are_the_splices f p (target ∷ later) stage.sound stage.patch stage.fits x o).1
      (record { values = o; consistent = consistent; input = input; agrees = λ name c. refl })

  -- the inputs are as much cared in one map as in another that agrees with it
  cared_too : (care : Option Circuit) → goal.care ≡ care → (v o : Values) → AgreeOn f.inputs v o → IsCared care o → IsCared care v
  cared_too None is v o same cared = tt
  cared_too (Some c) is v o same cared =
      λ u consistent inputs. cared u consistent (λ name member. sym (same name (stage.cares c is name member)) ∙ inputs name member)

  -- maps that agree on f's nets are right together
  right_in_splice : (v o : Values) → IsConsistent (splice_of f p) o → AgreeOn (names f) v o → IsRight f goal v → IsRight (splice_of f p) goal o
  right_in_splice v o consistent same right = record {
    consistent = consistent;
    agrees = λ cared u of_spec inputs.
        let on_inputs : AgreeOn f.inputs v o = λ name c. same name (stage.sound.inputs name c) in
        let outputs = right.agrees (cared_too goal.care refl v o on_inputs cared) u of_spec (λ name c. on_inputs name c ∙ inputs name c) in
        λ name c. sym (same name (stage.sound.outputs name c)) ∙ outputs name c;
  }

  -- an input that the rows of a bit and the rests miss forces the other bit among the rests
  pub forced_from_missed : (rests : List (List Bool)) (bit : Bool) (x : List Bool) →
      IsMissed (splice_of f p) goal (target ∷ later) (map (λ row. not bit ∷ row) rests) x → IsForcedAmong f goal p p.outputs target later rests x bit
  forced_from_missed rests bit x missed = record {
    len = missed.len;
    never = λ v reached opposite among right.
        let o = to_splice x v reached in
        let drives = stage.fits.drives in
        let on_target : o.values target ≡ not bit = sym (o.agrees target (target_net target (Contains_first target later))) ∙ opposite in
        let on_later : map v later ≡ map o.values later = map_from_agree v o.values later (λ name c. o.agrees name (target_net name (Contains_later target name later c))) in
        missed.never o.values (right_in_splice v o.values o.consistent o.agrees right) o.input
        (subst (λ first. Contains (map (λ row. not bit ∷ row) rests) (first ∷ map o.values later)) (sym on_target)
        (subst (λ row. Contains (map (λ row. not bit ∷ row) rests) (not bit ∷ row)) on_later
        (Contains-map (λ (row : List Bool). not bit ∷ row) rests (map v later) among)));
  }
    where
      target_net : (name : List ℕ) → Contains (target ∷ later) name → Contains (names f) name
      target_net name c = (All-contains (IsTarget f) (p.outputs ++ target ∷ later) name stage.fits.drives.sound (Contains-append_right p.outputs (target ∷ later) name c)).net

  -- and the other way round
  pub missed_from_forced : (rests : List (List Bool)) (bit : Bool) (x : List Bool) →
      IsForcedAmong f goal p p.outputs target later rests x bit → IsMissed (splice_of f p) goal (target ∷ later) (map (λ row. not bit ∷ row) rests) x
  missed_from_forced rests bit x forced = record {
    len = forced.len;
    never = λ o right input among.
        let (row, listed, same) = map-Contains (λ (row : List Bool). not bit ∷ row) rests (map o (target ∷ later)) among in
        let reached = from_splice x o right.consistent input in
        let opposite : o target ≡ not bit = cc same in
        let rest : row ≡ map o later = cc same in
        forced.never o reached opposite (subst (Contains rests) rest listed) (record { consistent = reached.consistent; agrees = right.agrees });
  }

  -- the base's edges have the values of the base
  pub values_are : (nodes : List Node) (inputs edges : List Edge) (w : ℕ → Bool) → AreBaseEdges (splice_of f p) base nodes inputs edges → IsValuation nodes w →
      AreValues f p p.outputs base (bits_of w inputs) (bits_of w edges)
  values_are nodes inputs edges w valued valuation =
      let (o, consistent, input, at) = valued.values w valuation in
      let reached = from_splice (bits_of w inputs) o consistent input in
      record {
        some = (o, reached);
        only = λ v other. one_value (bits_of w inputs) v o other reached ∙ at;
      }
    where
      one_value : (x : List Bool) (v o : Values) → IsReached f p p.outputs x v → IsReached f p p.outputs x o → map v base ≡ map o base
      one_value x v o first second =
          map_from_agree v o base (λ name c.
          (reached_maps_agree f p p.outputs (first_patch f p (target ∷ later) stage.sound stage.patch stage.fits) x v o first second).1 name
          (signal_net f stage.sound name (All-contains (IsSignal f) base name stage.signals c)) (All-contains (IsBehindOnly f p.outputs) base name stage.apart c))

  -- two rows of values at one input are the same
  same_values : (x first second : List Bool) → AreValues f p p.outputs base x first → AreValues f p p.outputs base x second → first ≡ second
  same_values x first second one other = sym (one.only one.some.0 one.some.1) ∙ other.only one.some.0 one.some.1

  -- a side over a graph of the splice asks for an input that forces the bit
  module _ (rests : List (List Bool)) (bit : Bool) (side : EncodedSide) (graph : IsSideGraph (splice_of f p) goal (target ∷ later) (map (λ row. not bit ∷ row) rests) base side) where
    pub forced_by : (w : ℕ → Bool) → Makes graph.graph graph.asserted w → IsForcedAmong f goal p p.outputs target later rests (bits_of w graph.inputs) bit
    forced_by w made =
        forced_from_missed rests bit (bits_of w graph.inputs)
        (missed_from_made (splice_of f p) goal (target ∷ later) graph.graph graph.inputs (map (λ row. not bit ∷ row) rests) graph.asserted w graph.input_count graph.wrong made)

    pub valued_by : (w : ℕ → Bool) → Makes graph.graph graph.asserted w → AreValues f p p.outputs base (bits_of w graph.inputs) (bits_of w graph.base_edges)
    valued_by w made = values_are graph.graph graph.inputs graph.base_edges w graph.valued made.valuation

    pub made_by : (x : List Bool) → IsForcedAmong f goal p p.outputs target later rests x bit → (w : ℕ → Bool) × Makes graph.graph graph.asserted w × (bits_of w graph.inputs ≡ x)
    made_by x forced =
        let (w, valuation, at) = graph.are_inputs.free x (forced.len ∙ sym graph.input_count) in (
          w,
          made_from_missed (splice_of f p) goal (target ∷ later) graph.graph graph.inputs (map (λ row. not bit ∷ row) rests) graph.asserted w graph.wrong valuation
              (subst (IsMissed (splice_of f p) goal (target ∷ later) (map (λ row. not bit ∷ row) rests)) (sym at) (missed_from_forced rests bit x forced)),
          at,
        )

    pub side_asks : (split : Split) (shared : List Var) (lits : List Lit) → IsPart graph.graph graph.inputs graph.base_edges graph.asserted split bit shared lits →
        IsSideOf f goal p p.outputs target later rests base bit split shared lits
    side_asks split shared lits is_part = record {
      forced = λ v model.
          let (w, made, reads) = is_part.models v model in
          subst (λ x. IsForcedAmong f goal p p.outputs target later rests x bit) (sym reads.inputs_read) (forced_by w made);
      valued = λ v model.
          let (w, made, reads) = is_part.models v model in
          subst (λ x. AreValues f p p.outputs base x (read_vars v shared)) (sym reads.inputs_read)
          (subst (AreValues f p p.outputs base (bits_of w graph.inputs)) (sym reads.base_read) (valued_by w made));
      complete = λ x row forced values.
          let (w, made, at) = made_by x forced in
          let (v, model, reads) = is_part.answers w made in
          let here = subst (λ y. AreValues f p p.outputs base y (bits_of w graph.base_edges)) at (valued_by w made) in
          (v, model, reads.inputs_read ∙ at, reads.base_read ∙ same_values x (bits_of w graph.base_edges) row here values);
    }

  -- two sides ask together for two inputs that are separated
  pub pairs_ask : (rests : List (List Bool)) (first second : EncodedSide) (sides : TwoSides) →
      IsSideGraph (splice_of f p) goal (target ∷ later) (map (λ row. false ∷ row) rests) base first → IsSideGraph (splice_of f p) goal (target ∷ later) (map (λ row. true ∷ row) rests) base second →
      HaveBothInputs first second sides → HaveModel first second sides →
      AsksForPair (IsSeparated f goal p p.outputs target later rests base) sides.one.items sides.other.items sides.cnf.clauses
  pairs_ask rests first second sides one other inputs model = record {
    models = λ v holds.
        let (w, u, make, reads) = inputs one.graph other.graph one.inputs other.inputs one.base_edges other.base_edges one.asserted other.asserted one.encoded other.encoded v holds in
        subst (λ x. IsSeparated f goal p p.outputs target later rests base x (read v sides.other.items)) (sym reads.one.inputs_read)
        (subst (IsSeparated f goal p p.outputs target later rests base (bits_of w one.inputs)) (sym reads.other.inputs_read)
        (separated w u make));
    answers = λ x y apart.
        let (w, made, at_x) = made_by rests true first one x apart.one in
        let (u, made_other, at_y) = made_by rests false second other y apart.zero in
        let here = subst (λ z. AreValues f p p.outputs base z (bits_of w one.base_edges)) at_x (valued_by rests true first one w made) in
        let there = subst (λ z. AreValues f p p.outputs base z (bits_of u other.base_edges)) at_y (valued_by rests false second other u made_other) in
        let same = sym (here.only here.some.0 here.some.1) ∙ map_from_agree here.some.0 there.some.0 base (apart.alike here.some.0 there.some.0 here.some.1 there.some.1) ∙ there.only there.some.0 there.some.1 in
        let (v, holds, reads) = model one.graph other.graph one.inputs other.inputs one.base_edges other.base_edges one.asserted other.asserted one.encoded other.encoded w u (record { on_first = made; on_second = made_other; same_base = same }) in
        (v, holds, reads.one.inputs_read ∙ at_x, reads.other.inputs_read ∙ at_y);
  }
    where
      separated : (w u : ℕ → Bool) → MakeBoth one.graph other.graph one.base_edges other.base_edges one.asserted other.asserted w u →
          IsSeparated f goal p p.outputs target later rests base (bits_of w one.inputs) (bits_of u other.inputs)
      separated w u make = record {
        one = forced_by rests true first one w make.on_first;
        zero = forced_by rests false second other u make.on_second;
        alike = λ v o at_first at_second.
            let here = valued_by rests true first one w make.on_first in
            let there = valued_by rests false second other u make.on_second in
            same_by_image v o base (here.only v at_first ∙ make.same_base ∙ sym (there.only o at_second));
      }

-- a goal by its parts
abbrev goal_of_parts : Circuit → Option Circuit → Goal
goal_of_parts spec care = record { spec = spec; care = care }

pub same_goal : (g : Goal) (spec : Circuit) (care : Option Circuit) → spec ≡ g.spec → care ≡ g.care → goal_of_parts spec care ≡ g
same_goal g spec care same_spec same_care = ap (λ s. goal_of_parts s care) same_spec ∙ ap (λ k. goal_of_parts g.spec k) same_care

-- rows with a bit before them have a bit for each target
pub rows_with_first : (n : Circuit) (bit : Bool) (rest : List (List Bool)) → All (λ row. HasOpenNets n (length n.inputs + (1 + length row))) rest → All (λ (row : List Bool). HasOpenNets n (length n.inputs + length row)) (map (λ (row : List Bool). bit ∷ row) rest)
rows_with_first n bit [] are = All-nil (λ (row : List Bool). HasOpenNets n (length n.inputs + length row))
rows_with_first n bit (row ∷ rest) are =
    let (targets, of_n, count) = All-head (λ (row : List Bool). HasOpenNets n (length n.inputs + (1 + length row))) row rest are in
    All-cons (λ (row : List Bool). HasOpenNets n (length n.inputs + length row)) (bit ∷ row) (map (λ (row : List Bool). bit ∷ row) rest)
    (targets, of_n, omega (arith, count)) (rows_with_first n bit rest (All-tail (λ (row : List Bool). HasOpenNets n (length n.inputs + (1 + length row))) row rest are))

-- together they ask for two inputs that are separated
pub joined_ask : (f : Circuit) (goal : Goal) (p : Circuit) (before : List (List ℕ)) (target : List ℕ) (later base : List (List ℕ)) (rests : List (List Bool)) (first second : EncodedSide) (sides : TwoSides) →
    p.outputs ≡ before → IsStage f goal p target later base →
    IsSideGraph (splice_of f p) goal (target ∷ later) (map (λ row. false ∷ row) rests) base first → IsSideGraph (splice_of f p) goal (target ∷ later) (map (λ row. true ∷ row) rests) base second →
    length first.base.items ≡ length base → AreTwoParts first second sides →
    AsksSeparate f goal p before target later rests base (posed_of sides)
joined_ask f goal p before target later base rests first second sides outputs stage one other count joined =
    subst (λ earlier. AsksSeparate f goal p earlier target later rests base (posed_of sides)) outputs (record {
      pairs = pairs_ask f goal p target later base stage rests first second sides one other joined.models joined.answers;
      one = side_asks f goal p target later base stage rests true first one (split_of sides) sides.shared.items sides.one.items
          (joined.one_part one.graph one.inputs one.base_edges one.asserted one.encoded);
      other = side_asks f goal p target later base stage rests false second other (split_of sides) sides.shared.items sides.other.items
          (joined.other_part other.graph other.inputs other.base_edges other.asserted other.encoded);
      apart = joined.apart;
      marks = joined.marks;
      count = joined.count ∙ count;
      distinct = joined.distinct;
    })

-- a list has a part before each of its places, and one behind it
pub split_at : {X : Type 0} (i : ℕ) (list : List X) → i < length list → (before : List X) × (x : X) × (behind : List X) × (list ≡ before ++ x ∷ behind) × (length before ≡ i)
split_at i [] within = absurd (omega (arith, within))
split_at zero (x ∷ list) within = ([], x, list, refl, refl)
split_at (suc i) (x ∷ list) within =
    let (before, y, behind, same, count) = split_at i list (omega (arith, within)) in
    (x ∷ before, y, behind, ap (λ rest. x ∷ rest) same, ap suc count)

-- there is a target of each number below the number of targets
pub target_at : (f : Circuit) (i : ℕ) → HasTargetNumber f i → (before : List (List ℕ)) × (target : List ℕ) × (behind : List (List ℕ)) × AreTargets f (before ++ target ∷ behind) × (length before ≡ i)
target_at f i (count, (targets, are, long), within) =
    let (before, target, behind, same, len) = split_at i targets (subst (λ m. i < m) (sym long) within) in
    (before, target, behind, subst (AreTargets f) same are, len)

-- nets of f are the same nets of a splice
pub names_of_splice : (f p : Circuit) (nets : List NetId) → AreNets (names f) nets → names_at (names (splice_of f p)) nets ≡ names_at (names f) nets
names_of_splice f p [] within = refl
names_of_splice f p (net ∷ nets) within =
    cc (
      ap (λ list. name_at list net.0) (sym (append_assoc f.ports f.wires p.wires)) ∙ get_or_append_left (names f) p.wires [] net.0 (All-head (λ (net : NetId). net.0 < length (names f)) net nets within),
      names_of_splice f p nets (All-tail (λ (net : NetId). net.0 < length (names f)) net nets within),
    )

pub nets_of_splice : (f p : Circuit) (nets : List NetId) → AreNets (names f) nets → AreNets (names (splice_of f p)) nets
nets_of_splice f p [] within = All-nil (λ (net : NetId). net.0 < length (names (splice_of f p)))
nets_of_splice f p (net ∷ nets) within =
    All-cons (λ (net : NetId). net.0 < length (names (splice_of f p))) net nets
    (omega (arith, All-head (λ (net : NetId). net.0 < length (names f)) net nets within, length-append f.ports f.wires, length-append f.ports (f.wires ++ p.wires), length-append f.wires p.wires))
    (nets_of_splice f p nets (All-tail (λ (net : NetId). net.0 < length (names f)) net nets within))

-- the rests have a bit for each target of the splice but the first
pub rests_fit : (n : Circuit) (target : List ℕ) (behind : List (List ℕ)) (rest : List (List Bool)) → AreTargets n (target ∷ behind) → AreRowsOf behind rest → All (λ (row : List Bool). HasOpenNets n (length n.inputs + (1 + length row))) rest
rests_fit n target behind [] are rows = All-nil (λ (row : List Bool). HasOpenNets n (length n.inputs + (1 + length row)))
rests_fit n target behind (row ∷ rest) are rows =
    All-cons (λ (row : List Bool). HasOpenNets n (length n.inputs + (1 + length row))) row rest
    (target ∷ behind, are, omega (arith, length-append n.inputs (target ∷ behind), All-head (λ (row : List Bool). length row ≡ length behind) row rest rows))
    (rests_fit n target behind rest are (All-tail (λ (row : List Bool). length row ≡ length behind) row rest rows))

-- a question that can be posed has a splice
pub stage_of : (f : Circuit) (goal : Goal) (p : Circuit) (base : List (List ℕ)) (rest : List (List Bool)) (before : List (List ℕ)) (target : List ℕ) (behind : List (List ℕ)) →
    IsChecked f → IsChecked p → IsProblem f goal → IsSeparable f p base rest before target behind → IsStage f goal p target behind base
stage_of f goal p base rest before target behind checked checked_patch problem separable = record {
  sound = sound_netlist f checked;
  patch = sound_netlist p checked_patch;
  fits = separable.fits;
  cares = λ c is name member. ((problem.care c is).inputs name).1 member;
  signals = separable.signals;
  apart = subst (λ earlier. All (IsBehindOnly f earlier) base) (sym separable.outputs) separable.apart;
}

-- what holds of a netlist and what is asked of it holds of the same ones
pub moved : (P : Circuit → Goal → Type 0) (f n : Circuit) (g h : Goal) → f ≡ n → g ≡ h → P f g → P n h
moved P f n g h same_netlist same_goals holds = subst (P n) same_goals (subst (λ m. P m g) same_netlist holds)

-- rows with a bit for each target are rows of open nets
pub open_rows : (n : Circuit) (targets : List (List ℕ)) (rows : List (List Bool)) → AreTargets n targets → AreRowsOf targets rows → All (λ (row : List Bool). HasOpenNets n (length n.inputs + length row)) rows
open_rows n targets [] are fit = All-nil (λ (row : List Bool). HasOpenNets n (length n.inputs + length row))
open_rows n targets (row ∷ rows) are fit =
    All-cons (λ (row : List Bool). HasOpenNets n (length n.inputs + length row)) row rows
    (targets, are, omega (arith, length-append n.inputs targets, All-head (λ (row : List Bool). length row ≡ length targets) row rows fit))
    (open_rows n targets rows are (All-tail (λ (row : List Bool). length row ≡ length targets) row rows fit))

-- there are more targets than the number
pub more_than : (f : Circuit) (number : ℕ) (targets : List NetId) → HasTargetNumber f number → AreTargets f (names_at (names f) targets) → number + 1 ≤ length targets
more_than f number targets has named =
    let (before, target, behind, are, len) = target_at f number has in
    omega (arith, ap length (targets_unique f (names_at (names f) targets) (before ++ target ∷ behind) named are), length-append before (target ∷ behind), len, length-map targets (λ (net : NetId). name_at (names f) net.0))
