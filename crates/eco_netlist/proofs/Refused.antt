-- Declarations without an error are refused for nothing.
use Rattle.std.proofs.Common.{◌≡◌, ℕ, List, [], ◌∷◌, sym, subst}
use Rattle.std.specs.List.{All, Contains}
use Rattle.std.proofs.lemmas.Bool.{both_ways}
use Rattle.std.proofs.lemmas.List.Elements.{All-cons, All-nil}
use Rattle.eco_meaning.specs.Circuit.{Circuit, NamedGate, Reads, IsReadBy, IsChain, IsCircle, IsLoop, last_of}
use Rattle.eco_netlist.specs.declared.draft.TargetRule.{TargetRule}
use Rattle.eco_netlist.specs.declared.refusal.Refusal.{Refusal}
use Rattle.eco_netlist.specs.declared.refusal.Refusal.TheVariants.{DeclaredTwice, PortUndeclared, NotAPort, InputDriven, DrivenTwice, Undriven, Loop}
use Rattle.eco_netlist.specs.Draft.{Declared, made}
use Rattle.eco_netlist.specs.Refusals.{IsReadFor, IsWellFormed, Refuses, is_declared_twice, is_undeclared_port, is_no_port, is_driven_input, is_driven_twice, is_undriven}

-- gates for a chain of names, behind a gate for its first name
record IsGateChain (gates : List NamedGate) (g : NamedGate) (end : List ℕ) (others : List NamedGate) : Type 0 where
  members : All (Contains gates) others
  chain : IsChain IsReadBy g others
  last : (last_of g others).out ≡ end

gate_chain : (gates : List NamedGate) (g : NamedGate) (x : List ℕ) (xs : List (List ℕ)) → g.out ≡ x → IsChain (IsReadFor gates) x xs → (others : List NamedGate) × IsGateChain gates g (last_of x xs) others
gate_chain gates g x [] out chain = ([], record { members = All-nil (Contains gates); chain = tt; last = out })
gate_chain gates g x (y ∷ ys) out chain =
    let h = chain.0.0 in
    let rest = gate_chain gates h y ys chain.0.2 chain.1 in (
      h ∷ rest.0,
      record {
        members = All-cons (Contains gates) h rest.0 chain.0.1 rest.1.members;
        chain = (subst (λ z. Reads h z) (sym out) chain.0.3, rest.1.chain);
        last = rest.1.last;
      },
    )

-- a circle of names is a loop of gates
loop_from_names : (n : Circuit) (names : List (List ℕ)) → IsCircle (IsReadFor n.gates) names → (loop : List NamedGate) × IsLoop n loop
loop_from_names n [] circle = absurd circle
loop_from_names n (x ∷ xs) circle =
    let g = circle.1.0 in
    let rest = gate_chain n.gates g x xs circle.1.2 circle.0 in (
      g ∷ rest.0,
      record {
        members = All-cons (Contains n.gates) g rest.0 circle.1.1 rest.1.members;
        circle = (rest.1.chain, subst (λ z. Reads g z) (sym rest.1.last) circle.1.3);
      },
    )

pub never_refused : (rule : TargetRule) (d : Declared) → IsWellFormed rule d → (refusal : Refusal) → Refuses rule d refusal → ⊥
never_refused rule d well_formed (DeclaredTwice name) refuses = both_ways (is_declared_twice d name) (well_formed.declared.declared_once name) refuses.0
never_refused rule d well_formed (PortUndeclared name) refuses = both_ways (is_undeclared_port d name) (well_formed.declared.ports_declared name) refuses.1.0
never_refused rule d well_formed (NotAPort name) refuses = both_ways (is_no_port d name) (well_formed.declared.only_ports name) refuses.2.0
never_refused rule d well_formed (InputDriven name) refuses = both_ways (is_driven_input d name) (well_formed.declared.inputs_free name) refuses.3.0
never_refused rule d well_formed (DrivenTwice name) refuses = both_ways (is_driven_twice d name) (well_formed.declared.driven_once name) refuses.4.0
never_refused rule d well_formed (Undriven name) refuses = both_ways (is_undriven rule d name) (well_formed.declared.driven name) refuses.5.0
never_refused rule d well_formed (Loop names) refuses =
    let loop = loop_from_names (made rule d) names refuses.1.circle in
    well_formed.loop_free loop.0 loop.1
