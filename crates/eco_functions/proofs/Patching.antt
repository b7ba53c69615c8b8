-- The patch in which functions stand: what its roots may read, and that without roots it has no gate.
use Rattle.std.proofs.Common.{◌≡◌, ℕ, ◌+◌, ◌<◌, inl, inr, Bool, false, ◌&&◌, List, [], ◌∷◌, ◌++◌, length, get_or, refl, sym, ◌∙◌, ap, subst, arith}
use Rattle.std.specs.Prelude.{replicate}
use Rattle.std.specs.List.{filter, flat_map, range_with_len}
use Rattle.std.specs.Option.{is_some}
use Rattle.std.proofs.lemmas.Bool.{cases_Bool}
use Rattle.std.proofs.lemmas.List.Elements.{All-nil}
use Rattle.std.proofs.lemmas.Option.{slice_get_within}
use Rattle.eco_lists.proofs.Members.{Contains_none}
use Rattle.eco_lists.proofs.Places.{item_at, no_items}
use Rattle.eco_meaning.specs.Circuit.{Circuit, NamedGate, names}
use Rattle.eco_gates.specs.declared.gate.NetId.{NetId}
use Rattle.eco_netlist.specs.Netlists.{IsChecked, names_at}
use Rattle.eco_aig.specs.declared.edge.Edge.{Edge}
use Rattle.eco_aig.specs.declared.node.Node.{Node}
use Rattle.eco_aig.specs.Graph.{IsEdge, pair_at}
use Rattle.eco_aig.specs.Reached.{AreReached}
use Rattle.eco_splice.specs.Wired.{is_gate, wired}
use Rattle.eco_splice.specs.GraphPatch.{AreRooted, FitsFirst, HasRootValues, IsGraphPatch, ReadsReached}
use Rattle.eco_aig.proofs.MarkLemmas.{marked_roots}
use Rattle.eco_splice.proofs.WiredLemmas.{block}
use Rattle.eco_functions.specs.Functions.{FunctionsValue, AreFunctions, ReadEarlier}
use Rattle.eco_functions.specs.Standing.{IsPatchWith, IsShorterPatch}

-- functions with slices of their base and their roots
abbrev pub with_slices : FunctionsValue → List NetId → List Edge → FunctionsValue
with_slices functions base roots = record functions { base = base; roots = roots }

pub slices_are : (functions value : FunctionsValue) (base : List NetId) (roots : List Edge) → base ≡ functions.base → roots ≡ functions.roots → functions ≡ value → with_slices functions base roots ≡ value
slices_are functions value base roots same_base same_roots same =
    ap (with_slices functions base) same_roots ∙ ap (λ (list : List NetId). with_slices functions list functions.roots) same_base ∙ same

-- each root reads only what lies behind no target but those before its own
pub functions_rooted : (f : Circuit) (functions : FunctionsValue) → AreFunctions functions → ReadEarlier f functions → AreRooted f functions.nodes functions.roots (names_at (names f) functions.base)
functions_rooted f functions are earlier = λ targets first k root place node name at_root at_node at_name reaches.
    let within = slice_get_within functions.roots k root at_root in
    let count = item_at functions.counts k (omega (arith, within, are.count)) in
    earlier targets first k count.0 place name count.1 (are.reach k count.0 root place node at_root count.1 at_node reaches) at_name

-- no root reaches nothing
nothing_reached : (nodes : List Node) → AreReached nodes [] (replicate (length nodes) false)
nothing_reached nodes =
    let are = marked_roots nodes [] (All-nil (IsEdge nodes)) in
    record { len = are.len; sound = are.sound; complete = λ k reached. absurd (Contains_none reached.0 reached.1) }

-- a test that nothing passes leaves nothing
no_filter : {X : Type 0} (p : X → Bool) (xs : List X) → ((x : X) → p x ≡ false) → filter p xs ≡ []
no_filter p [] none = refl
no_filter p (x ∷ xs) none = rw (none x, no_filter p xs none) refl

-- so nothing has a wire
nothing_wired : (nodes : List Node) (marks : List Bool) → AreReached nodes [] marks → wired nodes marks ≡ []
nothing_wired nodes marks are =
    let unmarked : (k : ℕ) → get_or marks k false ≡ false = λ k.
    elim (cases_Bool (get_or marks k false)) [
      | inl marked ↦ absurd (let from = are.sound k marked in Contains_none from.0 from.1)
      | inr not_marked ↦ not_marked
    ] in
    let no_gate : (k : ℕ) → is_gate nodes marks k ≡ false = λ k. ap (λ (b : Bool). b && is_some (pair_at nodes k)) (unmarked k) in
    ap (flat_map (block nodes marks)) (no_filter (is_gate nodes marks) (range_with_len 0 (length nodes)) no_gate)

-- without roots the patch has no gate
pub no_gates : (nodes : List Node) (roots : List Edge) (p : Circuit) → ((marks : List Bool) → AreReached nodes roots marks → length p.gates ≡ length (wired nodes marks) + length roots) → roots ≡ [] → p.gates ≡ []
no_gates nodes roots p gates none =
    let marks = replicate (length nodes) false in
    let are : AreReached nodes [] marks = nothing_reached nodes in
    let count : length p.gates ≡ length (wired nodes marks) + length roots = gates marks (subst (λ (list : List Edge). AreReached nodes list marks) (sym none) are) in
    no_items p.gates (omega (arith, count, ap (λ (list : List Edge). length list) (nothing_wired nodes marks are), ap (λ (list : List Edge). length list) none))

-- the patch doesn't hang on the counts
pub any_counts : (f : Circuit) (functions : FunctionsValue) (p : Circuit) → IsPatchWith f (record functions { counts = [] }) p → IsPatchWith f functions p
any_counts f functions p is = record {
  checked = is.checked;
  written = is.written;
  fits = is.fits;
  ports = is.ports;
  inputs = is.inputs;
  values = is.values;
  reads = is.reads;
  empty = is.empty;
}

-- the fixed form is such a patch
pub fixed_patch : (f : Circuit) (nodes : List Node) (base : List NetId) (roots : List Edge) (p : Circuit) → IsChecked p → IsGraphPatch f nodes roots (names_at (names f) base) p → FitsFirst f (length roots) p → p.ports ≡ p.outputs ++ p.inputs → p.inputs ≡ names_at (names f) base → HasRootValues nodes roots p → ReadsReached nodes roots (names_at (names f) base) p → ((marks : List Bool) → AreReached nodes roots marks → length p.gates ≡ length (wired nodes marks) + length roots) → IsPatchWith f (record { nodes = nodes; base = base; roots = roots; counts = [] }) p
fixed_patch f nodes base roots p checked form fits ports inputs values reads gates = record {
  checked = checked;
  written = record { fixed = p; form = form; fewer = inl refl };
  fits = fits;
  ports = ports;
  inputs = inputs;
  values = values;
  reads = reads;
  empty = no_gates nodes roots p gates;
}

-- and so is a shorter one
pub shorter_patch_is : (f : Circuit) (nodes : List Node) (base : List NetId) (roots : List Edge) (fixed p : Circuit) → IsGraphPatch f nodes roots (names_at (names f) base) fixed → ((marks : List Bool) → AreReached nodes roots marks → length fixed.gates ≡ length (wired nodes marks) + length roots) → (most : ℕ) → most ≡ length fixed.gates → IsShorterPatch f nodes roots (names_at (names f) base) most p → IsPatchWith f (record { nodes = nodes; base = base; roots = roots; counts = [] }) p
shorter_patch_is f nodes base roots fixed p form gates most same is =
    let written = is.written in
    let fewer : length p.gates < length fixed.gates = (let less = is.fewer in let count = written.gates in omega (arith, less, count, same)) in
    record {
      checked = written.checked;
      written = record { fixed = fixed; form = form; fewer = inr fewer };
      fits = written.fits;
      ports = written.ports;
      inputs = written.inputs;
      values = written.values;
      reads = written.reads;
      empty = λ none. absurd (let bare = ap (λ (list : List NamedGate). length list) (no_gates nodes roots fixed gates none) in omega (arith, fewer, bare));
    }
