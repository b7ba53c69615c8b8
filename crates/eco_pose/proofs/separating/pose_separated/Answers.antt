-- The joined sides ask the question.
use Rattle.std.proofs.Common.{◌≡◌, ℕ, ◌+◌, Bool, true, false, List, ◌∷◌, length, map, sym, ◌∙◌, ap, subst}
use Rattle.std.specs.List.{All}
use Rattle.std.proofs.lemmas.List.{length-map}
use Rattle.std.proofs.lemmas.Result.{IfOk-weaker}
use Rattle.eco_meaning.specs.Circuit.{Circuit, names, AreTargets}
use Rattle.eco_meaning.specs.Patch.{Fits, splice_of}
use Rattle.eco_meaning.specs.Meaning.{Goal}
use Rattle.eco_gates.specs.declared.gate.NetId.{NetId}
use Rattle.eco_netlist.specs.Netlists.{AreNets, IsChecked, name_at, names_at}
use Rattle.eco_compile.specs.Compiled.{HasOpenNets}
use Rattle.eco_tseitin.specs.declared.sides.EncodedSide.{EncodedSide}
use Rattle.eco_tseitin.specs.Sides.{AreTwoParts}
use Rattle.eco_pose.specs.Posing.{PosedValue, posed_of}
use Rattle.eco_pose.specs.Boards.{IsSideGraph}
use Rattle.eco_pose.specs.Questions.{AtTarget}
use Rattle.eco_pose.specs.Answers.{AsksSeparate}
use Rattle.eco_pose.specs.Shapes.{IsEncodedSide, IsEncodedTwice}
use Rattle.eco_pose.proofs.SideLaws.{joined_ask, target_at, names_of_splice, nets_of_splice, rests_fit, stage_of}
use Rattle.eco_pose.proofs.ReadLaws.{encoded_reads, joined_reads}
use Rattle.eco_pose.proofs.separating.pose_separated.Goals as goal

pub splice-requires : goal.splice-requires
splice-requires c =
    let f = c.args.problem.now.implementation in
    let (before, target, behind, are, len) = target_at f c.args.i c.requires.number in
    (target ∷ behind, subst (λ g. Fits g c.args.patches.now (target ∷ behind)) (sym c.implementation-2.ensures.value) (c.requires.separable before target behind are len).fits)

pub side-requires-clause-base : goal.side-requires-clause-base
side-requires-clause-base c =
    let f = c.args.problem.now.implementation in
    let p = c.args.patches.now in
    let same = c.in_ok-spliced.ensures.spliced ∙ ap (λ g. splice_of g p) c.implementation-2.ensures.value in
    subst (λ n. AreNets (names n) c.args.base.now) (sym same) (nets_of_splice f p c.args.base.now c.requires.base)

pub side-requires-clause-rests : goal.side-requires-clause-rests
side-requires-clause-rests c =
    let f = c.args.problem.now.implementation in
    let p = c.args.patches.now in
    let (before, target, behind, are, len) = target_at f c.args.i c.requires.number in
    let separable = c.requires.separable before target behind are len in
    let fits = subst (λ g. Fits g p (target ∷ behind)) (sym c.implementation-2.ensures.value) separable.fits in
    subst (λ (n : Circuit). All (λ (row : List Bool). HasOpenNets n (length n.inputs + (1 + length row))) c.args.rest.now) (sym c.in_ok-spliced.ensures.spliced)
    (rests_fit (splice_of c.implementation-2.result.now p) target behind c.args.rest.now (c.in_ok-spliced.ensures.left (target ∷ behind) fits) separable.rests)

pub side-second-requires-clause-base : goal.side-second-requires-clause-base
side-second-requires-clause-base c =
    let f = c.args.problem.now.implementation in
    let p = c.args.patches.now in
    let same = c.in_ok-spliced.ensures.spliced ∙ ap (λ g. splice_of g p) c.implementation-2.ensures.value in
    subst (λ n. AreNets (names n) c.args.base.now) (sym same) (nets_of_splice f p c.args.base.now c.requires.base)

pub side-second-requires-clause-rests : goal.side-second-requires-clause-rests
side-second-requires-clause-rests c =
    let f = c.args.problem.now.implementation in
    let p = c.args.patches.now in
    let (before, target, behind, are, len) = target_at f c.args.i c.requires.number in
    let separable = c.requires.separable before target behind are len in
    let fits = subst (λ g. Fits g p (target ∷ behind)) (sym c.implementation-2.ensures.value) separable.fits in
    subst (λ (n : Circuit). All (λ (row : List Bool). HasOpenNets n (length n.inputs + (1 + length row))) c.args.rest.now) (sym c.in_ok-spliced.ensures.spliced)
    (rests_fit (splice_of c.implementation-2.result.now p) target behind c.args.rest.now (c.in_ok-spliced.ensures.left (target ∷ behind) fits) separable.rests)

pub returns-clause-asks : goal.returns-clause-asks
returns-clause-asks c =
    let problem = c.args.problem.now in
    let f = problem.implementation in
    let p = c.args.patches.now in
    let rest = c.args.rest.now in
    let base = names_at (names f) c.args.base.now in
    let sides = c.in_ok-sides-in-Ok-second.sides in
    let same : c.in_ok-spliced.spliced ≡ splice_of f p = c.in_ok-spliced.ensures.spliced ∙ ap (λ g. splice_of g p) c.implementation-2.ensures.value in
    let joined : AreTwoParts c.in-Ok.first c.in-Ok-second.second sides = record {
      one_part = c.in_ok-sides-in-Ok-second.ensures.first;
      other_part = c.in_ok-sides-in-Ok-second.ensures.second;
      models = c.in_ok-sides-in-Ok-second.ensures.models;
      answers = c.in_ok-sides-in-Ok-second.ensures.answers;
      apart = c.in_ok-sides-in-Ok-second.ensures.apart;
      marks = c.in_ok-sides-in-Ok-second.ensures.marks;
      count = c.in_ok-sides-in-Ok-second.ensures.count;
      distinct = c.in_ok-sides-in-Ok-second.ensures.distinct;
    } in
    IfOk-weaker c.posed_pair.result (λ posed. posed ≡ posed_of sides)
    (λ posed. AtTarget f c.args.i (λ before target behind. AsksSeparate f problem.goal p before target behind rest base posed))
    (λ posed is before target behind are len.
    let separable = c.requires.separable before target behind are len in
    let fits = subst (λ g. Fits g p (target ∷ behind)) (sym c.implementation-2.ensures.value) separable.fits in
    let left = subst (λ n. AreTargets n (target ∷ behind)) (sym c.in_ok-spliced.ensures.spliced) (c.in_ok-spliced.ensures.left (target ∷ behind) fits) in
    let stage = stage_of f problem.goal p base rest before target behind (subst IsChecked c.implementation.ensures.value c.nets.ensures.checked) c.nets-2.ensures.checked c.implementation.ensures.problem separable in
    let names_are = ap (λ n. names_at (names n) c.args.base.now) same ∙ names_of_splice f p c.args.base.now c.requires.base in
    let one = subst (λ list. IsSideGraph (splice_of f p) problem.goal (target ∷ behind) (map (λ (row : List Bool). false ∷ row) rest) list c.in-Ok.first) names_are
    (subst (λ n. IsSideGraph n problem.goal (target ∷ behind) (map (λ (row : List Bool). false ∷ row) rest) (names_at (names c.in_ok-spliced.spliced) c.args.base.now) c.in-Ok.first) same (c.in-Ok.ensures.graph (target ∷ behind) left)) in
    let other = subst (λ list. IsSideGraph (splice_of f p) problem.goal (target ∷ behind) (map (λ (row : List Bool). true ∷ row) rest) list c.in-Ok-second.second) names_are
    (subst (λ n. IsSideGraph n problem.goal (target ∷ behind) (map (λ (row : List Bool). true ∷ row) rest) (names_at (names c.in_ok-spliced.spliced) c.args.base.now) c.in-Ok-second.second) same (c.in-Ok-second.ensures.graph (target ∷ behind) left)) in
    subst (AsksSeparate f problem.goal p before target behind rest base) (sym is)
    (joined_ask f problem.goal p before target behind base rest c.in-Ok.first c.in-Ok-second.second sides separable.outputs stage one other
    (c.in-Ok.ensures.base_count ∙ sym (length-map c.args.base.now (λ (net : NetId). name_at (names f) net.0))) joined))
    c.posed_pair.ensures

-- a side over a graph of inputs
encoded_side : {n : Circuit} {goal : Goal} {nets : List (List ℕ)} {rows : List (List Bool)} {base : List (List ℕ)} {side : EncodedSide} → IsSideGraph n goal nets rows base side → IsEncodedSide side
encoded_side graph = record { graph = graph.graph; inputs = graph.inputs; base = graph.base_edges; asserted = graph.asserted; are_inputs = graph.are_inputs; encoded = graph.encoded }

pub returns-clause-shape : goal.returns-clause-shape
returns-clause-shape c =
    let f = c.args.problem.now.implementation in
    let p = c.args.patches.now in
    let sides = c.in_ok-sides-in-Ok-second.sides in
    let (before, target, behind, are, len) = target_at f c.args.i c.requires.number in
    let separable = c.requires.separable before target behind are len in
    let fits = subst (λ g. Fits g p (target ∷ behind)) (sym c.implementation-2.ensures.value) separable.fits in
    let left = subst (λ n. AreTargets n (target ∷ behind)) (sym c.in_ok-spliced.ensures.spliced) (c.in_ok-spliced.ensures.left (target ∷ behind) fits) in
    IfOk-weaker c.posed_pair.result (λ posed. posed ≡ posed_of sides) IsEncodedTwice
    (λ posed is. record {
      first_side = c.in-Ok.first;
      second_side = c.in-Ok-second.second;
      first_encoded = encoded_side (c.in-Ok.ensures.graph (target ∷ behind) left);
      second_encoded = encoded_side (c.in-Ok-second.ensures.graph (target ∷ behind) left);
      made = sides;
      joined = c.in_ok-sides-in-Ok-second.ensures.shape;
      clauses = ap (λ (value : PosedValue). value.clauses) is;
      marks = ap (λ (value : PosedValue). value.side) is;
      shared_are = ap (λ (value : PosedValue). value.shared) is;
      first_reads = ap (λ (value : PosedValue). value.first) is;
      second_reads = ap (λ (value : PosedValue). value.second) is;
    })
    c.posed_pair.ensures

-- and one with a literal for each input of the netlist
side_reads : {n : Circuit} {goal : Goal} {nets : List (List ℕ)} {rows : List (List Bool)} {base : List (List ℕ)} {side : EncodedSide} → IsSideGraph n goal nets rows base side → length side.inputs.items ≡ length n.inputs
side_reads {n} {goal} {nets} {rows} {base} {side} graph = encoded_reads graph.graph graph.inputs graph.base_edges graph.asserted side graph.encoded ∙ graph.input_count

pub returns-clause-reads : goal.returns-clause-reads
returns-clause-reads c =
    let f = c.args.problem.now.implementation in
    let p = c.args.patches.now in
    let sides = c.in_ok-sides-in-Ok-second.sides in
    let same = c.in_ok-spliced.ensures.spliced ∙ ap (λ g. splice_of g p) c.implementation-2.ensures.value in
    let count = ap (λ (n : Circuit). length n.inputs) same in
    let (before, target, behind, are, len) = target_at f c.args.i c.requires.number in
    let separable = c.requires.separable before target behind are len in
    let fits = subst (λ g. Fits g p (target ∷ behind)) (sym c.implementation-2.ensures.value) separable.fits in
    let left = subst (λ n. AreTargets n (target ∷ behind)) (sym c.in_ok-spliced.ensures.spliced) (c.in_ok-spliced.ensures.left (target ∷ behind) fits) in
    IfOk-weaker c.posed_pair.result (λ posed. posed ≡ posed_of sides) (λ posed. (length posed.first ≡ length f.inputs) × (length posed.second ≡ length f.inputs))
    (λ posed is. subst (λ (value : PosedValue). (length value.first ≡ length f.inputs) × (length value.second ≡ length f.inputs)) (sym is)
    (joined_reads c.in-Ok.first c.in-Ok-second.second sides (length f.inputs) c.in_ok-sides-in-Ok-second.ensures.shape
    (side_reads (c.in-Ok.ensures.graph (target ∷ behind) left) ∙ count) (side_reads (c.in-Ok-second.ensures.graph (target ∷ behind) left) ∙ count)))
    c.posed_pair.ensures
