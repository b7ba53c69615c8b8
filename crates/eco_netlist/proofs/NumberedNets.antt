-- The nets of declarations, by number and by name.
use Rattle.std.proofs.Common.{◌≡◌, ℕ, ◌<◌, Bool, true, false, ◌||◌, cond, List, [], ◌∷◌, ◌++◌, map, length, refl, ap, ◌∙◌, sym, subst, nat_eq, inl, inr, arith}
use Rattle.std.specs.Prelude.{filter, fold, Contains}
use Rattle.std.specs.List.{flat_map, list_any, IsDistinct}
use Rattle.std.specs.Str.{bytes_eq}
use Rattle.std.proofs.lemmas.List.{map-append}
use Rattle.std.proofs.lemmas.List.Elements.{All-contains, Contains-push_cases, Contains-append_cases, Contains-append_left, Contains-append_right}
use Rattle.std.proofs.lemmas.Map.Made.{IsDistinct-from_AllPairs}
use Rattle.std.proofs.lemmas.Slice.Eq.{bytes_eq-Decides}
use Rattle.eco_lists.proofs.Members.{Contains_first, Contains_later, Contains_cases, Contains_none, only_one, filter-Contains}
use Rattle.eco_lists.proofs.Places.{All_from_places, Contains_at}
use Rattle.eco_meaning.specs.Names.{has}
use Rattle.eco_gates.specs.declared.gate.NetId.{NetId}
use Rattle.eco_gates.specs.declared.gate.Term.{Term}
use Rattle.eco_gates.specs.declared.gate.Term.TheVariants.{Zero, One, Net}
use Rattle.eco_gates.specs.GateValue.{GateValue}
use Rattle.eco_gates.specs.Gates.{IsTermBelow, IsGateWithin, IsWithin}
use Rattle.eco_netlist.specs.declared.draft.Declarations.{Declarations}
use Rattle.eco_netlist.specs.declared.draft.TargetRule.{TargetRule}
use Rattle.eco_netlist.specs.declared.tally.Tally.{Tally}
use Rattle.eco_netlist.specs.Building.{IsNumberingOf}
use Rattle.eco_netlist.specs.Draft.{Declared, with_name, operand_names, gate_names, nets_of}
use Rattle.eco_netlist.specs.Drafted.{declared_of, IsDrafted}
use Rattle.eco_netlist.specs.Refusals.{IsWellDeclared}
use Rattle.eco_netlist.specs.Netlists.{name_at, names_at, named_term, named_gate, AreNets}
use Rattle.eco_netlist.specs.Numbering.{Chosen, with_net, term_nets, gate_nets, is_live}
use Rattle.eco_netlist.specs.Tallies.{tally_at, tally_of, AreTallies}
use Rattle.eco_netlist.proofs.NetLemmas.{added_nets, nets_distinct}
use Rattle.eco_netlist.proofs.NumberLemmas.{fold-keeps, fold-has}
use Rattle.eco_netlist.proofs.NumberedNames.{name_eq}

-- all these nets have names in the table
abbrev pub AreIn : List (List ℕ) → List NetId → Type 0
AreIn keys nets = (net : NetId) → Contains nets net → net.0 < length keys

pub in_from_nets : (keys : List (List ℕ)) (nets : List NetId) → AreNets keys nets → AreIn keys nets
in_from_nets keys nets within net member = All-contains (λ (n : NetId). n.0 < length keys) nets net within member

pub nets_from_in : (keys : List (List ℕ)) (nets : List NetId) → AreIn keys nets → AreNets keys nets
nets_from_in keys nets within =
    All_from_places (λ (n : NetId). n.0 < length keys) nets (λ k net at. within net (Contains_at nets k net at))

in_head : (keys : List (List ℕ)) (net : NetId) (nets : List NetId) → AreIn keys (net ∷ nets) → net.0 < length keys
in_head keys net nets within = within net (Contains_first net nets)

in_tail : (keys : List (List ℕ)) (net : NetId) (nets : List NetId) → AreIn keys (net ∷ nets) → AreIn keys nets
in_tail keys net nets within other member = within other (Contains_later net other nets member)

-- a net is among others where its name is among theirs
pub named_among : (keys : List (List ℕ)) (nets : List NetId) (net : NetId) → IsDistinct bytes_eq keys → net.0 < length keys → AreIn keys nets → has (names_at keys nets) (name_at keys net.0) ≡ list_any (λ (other : NetId). nat_eq net.0 other.0) nets
named_among keys [] net distinct lt within = refl
named_among keys (first ∷ nets) net distinct lt within =
    ap (λ b. b || has (names_at keys nets) (name_at keys net.0)) (name_eq keys net.0 first.0 distinct lt (in_head keys first nets within))
    ∙ ap (λ b. nat_eq net.0 first.0 || b) (named_among keys nets net distinct lt (in_tail keys first nets within))

-- one more net, where it isn't there yet
named_if : (keys : List (List ℕ)) (nets : List NetId) (net : NetId) (b : Bool) → names_at keys (cond b nets (nets ++ net ∷ [])) ≡ cond b (names_at keys nets) (names_at keys nets ++ name_at keys net.0 ∷ [])
named_if keys nets net true = refl
named_if keys nets net false = map-append (λ (n : NetId). name_at keys n.0) nets (net ∷ [])

named_with : (keys : List (List ℕ)) (nets : List NetId) (net : NetId) → IsDistinct bytes_eq keys → net.0 < length keys → AreIn keys nets → names_at keys (with_net nets net) ≡ with_name (names_at keys nets) (name_at keys net.0)
named_with keys nets net distinct lt within =
    named_if keys nets net (list_any (λ (other : NetId). nat_eq net.0 other.0) nets)
    ∙ ap (λ b. cond b (names_at keys nets) (names_at keys nets ++ name_at keys net.0 ∷ [])) (sym (named_among keys nets net distinct lt within))

in_if : (keys : List (List ℕ)) (nets : List NetId) (net : NetId) (b : Bool) → net.0 < length keys → AreIn keys nets → AreIn keys (cond b nets (nets ++ net ∷ []))
in_if keys nets net true lt within other member = within other member
in_if keys nets net false lt within other member =
    elim (Contains-push_cases nets net other member) [
      | inl old ↦ within other old
      | inr same ↦ subst (λ (n : NetId). n.0 < length keys) same lt
    ]

-- nets added in order
pub named_fold : (keys : List (List ℕ)) (nets list : List NetId) → IsDistinct bytes_eq keys → AreIn keys nets → AreIn keys list → names_at keys (fold with_net nets list) ≡ fold with_name (names_at keys nets) (names_at keys list)
named_fold keys nets [] distinct within added = refl
named_fold keys nets (net ∷ list) distinct within added =
    let lt = in_head keys net list added in
    named_fold keys (with_net nets net) list distinct (in_if keys nets net (list_any (λ (other : NetId). nat_eq net.0 other.0) nets) lt within) (in_tail keys net list added)
    ∙ ap (λ l. fold with_name l (names_at keys list)) (named_with keys nets net distinct lt within)

pub in_fold : (keys : List (List ℕ)) (nets list : List NetId) → AreIn keys nets → AreIn keys list → AreIn keys (fold with_net nets list)
in_fold keys nets [] within added = within
in_fold keys nets (net ∷ list) within added =
    in_fold keys (with_net nets net) list
    (in_if keys nets net (list_any (λ (other : NetId). nat_eq net.0 other.0) nets) (in_head keys net list added) within)
    (in_tail keys net list added)

-- nets that pass a test, and their names
kept_named : (keys : List (List ℕ)) (net : NetId) (nets : List NetId) (b : Bool) → names_at keys (cond b (net ∷ nets) nets) ≡ cond b (name_at keys net.0 ∷ names_at keys nets) (names_at keys nets)
kept_named keys net nets true = refl
kept_named keys net nets false = refl

pub named_filter : (keys : List (List ℕ)) (p : NetId → Bool) (q : List ℕ → Bool) (nets : List NetId) → ((net : NetId) → Contains nets net → p net ≡ q (name_at keys net.0)) → names_at keys (filter p nets) ≡ filter q (names_at keys nets)
named_filter keys p q [] agree = refl
named_filter keys p q (net ∷ nets) agree =
    kept_named keys net (filter p nets) (p net)
    ∙ ap (λ b. cond b (name_at keys net.0 ∷ names_at keys (filter p nets)) (names_at keys (filter p nets))) (agree net (Contains_first net nets))
    ∙ ap (λ l. cond (q (name_at keys net.0)) (name_at keys net.0 ∷ l) l)
    (named_filter keys p q nets (λ other member. agree other (Contains_later net other nets member)))

pub in_filter : (keys : List (List ℕ)) (p : NetId → Bool) (nets : List NetId) → AreIn keys nets → AreIn keys (filter p nets)
in_filter keys p nets within net member = within net (filter-Contains p nets net member).0

-- no nets have no name twice
pub none_differ : (keys : List (List ℕ)) (nets : List NetId) → nets ≡ [] → IsDistinct bytes_eq (names_at keys nets)
none_differ keys nets none =
    subst (λ list. IsDistinct bytes_eq (names_at keys list)) (sym none) (IsDistinct-from_AllPairs bytes_eq-Decides [] (λ i j d less within. absurd (omega (arith, less, within))))

-- what gates mention
named_front : (keys : List (List ℕ)) (t : Term) (rest : List NetId) → names_at keys (term_nets t ++ rest) ≡ operand_names (named_term keys t) ++ names_at keys rest
named_front keys Zero rest = refl
named_front keys One rest = refl
named_front keys (Net net) rest = refl

named_terms : (keys : List (List ℕ)) (terms : List Term) → names_at keys (flat_map term_nets terms) ≡ flat_map operand_names (map (named_term keys) terms)
named_terms keys [] = refl
named_terms keys (t ∷ terms) =
    named_front keys t (flat_map term_nets terms) ∙ ap (λ l. operand_names (named_term keys t) ++ l) (named_terms keys terms)

pub named_gates : (keys : List (List ℕ)) (gates : List GateValue) → names_at keys (flat_map gate_nets gates) ≡ flat_map gate_names (map (named_gate keys) gates)
named_gates keys [] = refl
named_gates keys (g ∷ gates) =
    map-append (λ (n : NetId). name_at keys n.0) (gate_nets g) (flat_map gate_nets gates)
    ∙ ap (λ l. (name_at keys g.out.0 ∷ l) ++ names_at keys (flat_map gate_nets gates)) (named_terms keys g.ins)
    ∙ ap (λ l. gate_names (named_gate keys g) ++ l) (named_gates keys gates)

in_term : (keys : List (List ℕ)) (t : Term) → IsTermBelow (length keys) t → AreIn keys (term_nets t)
in_term keys Zero below net member = absurd (Contains_none net member)
in_term keys One below net member = absurd (Contains_none net member)
in_term keys (Net other) below net member = subst (λ (n : NetId). n.0 < length keys) (only_one other net member) below

in_terms : (keys : List (List ℕ)) (terms : List Term) → ((t : Term) → Contains terms t → IsTermBelow (length keys) t) → AreIn keys (flat_map term_nets terms)
in_terms keys [] below net member = absurd (Contains_none net member)
in_terms keys (t ∷ terms) below net member =
    elim (Contains-append_cases (term_nets t) (flat_map term_nets terms) net member) [
      | inl front ↦ in_term keys t (below t (Contains_first t terms)) net front
      | inr later ↦ in_terms keys terms (λ u there. below u (Contains_later t u terms there)) net later
    ]

in_gate : (keys : List (List ℕ)) (g : GateValue) → IsGateWithin (length keys) g → AreIn keys (gate_nets g)
in_gate keys g within net member =
    elim (Contains_cases g.out net (flat_map term_nets g.ins) member) [
      | inl out ↦ subst (λ (n : NetId). n.0 < length keys) out within.out
      | inr read ↦ in_terms keys g.ins (λ t there. All-contains (IsTermBelow (length keys)) g.ins t within.ins there) net read
    ]

members_in : (keys : List (List ℕ)) (gates : List GateValue) → ((g : GateValue) → Contains gates g → IsGateWithin (length keys) g) → AreIn keys (flat_map gate_nets gates)
members_in keys [] within net member = absurd (Contains_none net member)
members_in keys (g ∷ gates) within net member =
    elim (Contains-append_cases (gate_nets g) (flat_map gate_nets gates) net member) [
      | inl front ↦ in_gate keys g (within g (Contains_first g gates)) net front
      | inr later ↦ members_in keys gates (λ h there. within h (Contains_later g h gates there)) net later
    ]

pub in_gates : (keys : List (List ℕ)) (gates : List GateValue) → IsWithin (length keys) gates → AreIn keys (flat_map gate_nets gates)
in_gates keys gates within = members_in keys gates (λ g there. All-contains (IsGateWithin (length keys)) gates g within there)

-- what one of the gates mentions is among what all mention
pub gate_in : (gates : List GateValue) (g : GateValue) (net : NetId) → Contains gates g → Contains (gate_nets g) net → Contains (flat_map gate_nets gates) net
gate_in [] g net member here = absurd (Contains_none g member)
gate_in (h ∷ gates) g net member here =
    elim (Contains_cases h g gates member) [
      | inl same ↦ Contains-append_left (gate_nets h) (flat_map gate_nets gates) net (subst (λ (k : GateValue). Contains (gate_nets k) net) (sym same) here)
      | inr later ↦ Contains-append_right (gate_nets h) (flat_map gate_nets gates) net (gate_in gates g net later here)
    ]

-- ---- the nets of declarations
-- the nets that are added: the ports, then the wires that are live, then what gates mention
abbrev pub added : TargetRule → Declarations → List Tally → List NetId
added rule x tallies =
    fold with_net
    (fold with_net (fold with_net [] x.header.items)
    (filter (λ wire. is_live rule (name_at x.names.keys wire.0) (tally_at tallies wire.0)) x.wires.items))
    (flat_map gate_nets x.gates.items)

added_named : (rule : TargetRule) (x : Declarations) (tallies : List Tally) → IsDistinct bytes_eq x.names.keys → IsDrafted x → AreTallies x tallies → IsWellDeclared rule (declared_of x) → names_at x.names.keys (added rule x tallies) ≡ nets_of rule (declared_of x)
added_named rule x tallies distinct drafted counted sound =
    let keys : List (List ℕ) = x.names.keys in
    let d : Declared = declared_of x in
    let live : NetId → Bool = λ wire. is_live rule (name_at keys wire.0) (tally_at tallies wire.0) in
    let none : AreIn keys [] = λ net member. absurd (Contains_none net member) in
    let ports : AreIn keys x.header.items = in_from_nets keys x.header.items drafted.header in
    let all_wires : AreIn keys x.wires.items = in_from_nets keys x.wires.items drafted.wires in
    let wires : AreIn keys (filter live x.wires.items) = in_filter keys live x.wires.items all_wires in
    let first : AreIn keys (fold with_net [] x.header.items) = in_fold keys [] x.header.items none ports in
    let second : AreIn keys (fold with_net (fold with_net [] x.header.items) (filter live x.wires.items)) = in_fold keys (fold with_net [] x.header.items) (filter live x.wires.items) first wires in
    let kept : names_at keys (filter live x.wires.items) ≡ filter (λ wire. is_live rule wire (tally_of d wire)) d.wires =
    named_filter keys live (λ wire. is_live rule wire (tally_of d wire)) x.wires.items (λ wire member.
    ap (is_live rule (name_at keys wire.0)) (counted.counts wire.0 (all_wires wire member))) in
    named_fold keys (fold with_net (fold with_net [] x.header.items) (filter live x.wires.items)) (flat_map gate_nets x.gates.items) distinct second
    (in_gates keys x.gates.items drafted.gates)
    ∙ ap (λ l. fold with_name l (names_at keys (flat_map gate_nets x.gates.items)))
    (named_fold keys (fold with_net [] x.header.items) (filter live x.wires.items) distinct first wires
    ∙ ap (λ l. fold with_name l (names_at keys (filter live x.wires.items))) (named_fold keys [] x.header.items distinct none ports)
    ∙ ap (fold with_name (fold with_name [] d.header)) kept)
    ∙ ap (fold with_name (fold with_name (fold with_name [] d.header) (filter (λ wire. is_live rule wire (tally_of d wire)) d.wires))) (named_gates keys x.gates.items)
    ∙ added_nets rule d sound.declared_once

-- they are a numbering of the declarations
pub numbering_added : (rule : TargetRule) (x : Declarations) (tallies : List Tally) (n : Chosen) → IsDistinct bytes_eq x.names.keys → IsDrafted x → AreTallies x tallies → IsWellDeclared rule (declared_of x) → n ≡ record { names = length x.names.keys; nets = added rule x tallies } → IsNumberingOf rule x n
numbering_added rule x tallies n distinct drafted counted sound is =
    let keys : List (List ℕ) = x.names.keys in
    let none : AreIn keys [] = λ net member. absurd (Contains_none net member) in
    let live : NetId → Bool = λ wire. is_live rule (name_at keys wire.0) (tally_at tallies wire.0) in
    let ports : List NetId = fold with_net [] x.header.items in
    let wires : List NetId = fold with_net ports (filter live x.wires.items) in
    subst (λ (m : Chosen). IsNumberingOf rule x m) (sym is) record {
      sound = sound;
      distinct = distinct;
      count = refl;
      within = nets_from_in keys (added rule x tallies)
          (in_fold keys wires (flat_map gate_nets x.gates.items)
          (in_fold keys ports (filter live x.wires.items)
          (in_fold keys [] x.header.items none (in_from_nets keys x.header.items drafted.header))
          (in_filter keys live x.wires.items (in_from_nets keys x.wires.items drafted.wires)))
          (in_gates keys x.gates.items drafted.gates));
      nets = added_named rule x tallies distinct drafted counted sound;
      apart = subst (λ (l : List (List ℕ)). IsDistinct bytes_eq l) (sym (added_named rule x tallies distinct drafted counted sound))
          (nets_distinct rule (declared_of x) sound.declared_once);
      ports = λ net member.
          fold-keeps wires (flat_map gate_nets x.gates.items) net
          (fold-keeps ports (filter live x.wires.items) net (fold-has [] x.header.items net member));
      gates = All_from_places (λ (g : GateValue). (net : NetId) → Contains (gate_nets g) net → Contains (added rule x tallies) net) x.gates.items (λ k g at net member.
          fold-has wires (flat_map gate_nets x.gates.items) net (gate_in x.gates.items g net (Contains_at x.gates.items k g at) member));
    }
