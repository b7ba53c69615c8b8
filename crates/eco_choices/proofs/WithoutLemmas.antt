-- A netlist without the gates of some nets.
use Rattle.std.proofs.Common.{◌≡◌, ◌≢◌, ℕ, Bool, true, false, not, cond, List, [], ◌∷◌, map, filter, refl, sym, ◌∙◌, ap, subst}
use Rattle.std.specs.List.{AllPairs, Contains}
use Rattle.std.specs.Str.{bytes_eq}
use Rattle.std.proofs.lemmas.Bool.{false_from_ne_true, false≢true}
use Rattle.std.proofs.lemmas.List.Kept.{AllPairs-filter}
use Rattle.eco_lists.proofs.Members.{Contains-filter, filter-Contains, some_passes}
use Rattle.eco_lists.proofs.Names.{same_name}
use Rattle.eco_lists.proofs.Places.{All_from_places, All_at}
use Rattle.eco_meaning.specs.Names.{has}
use Rattle.eco_meaning.specs.Circuit.{Circuit, NamedGate, IsConsistent}
use Rattle.eco_laws.proofs.Members.{has-from_Contains}
use Rattle.eco_choices.specs.Without.{without, WithoutIsSound, WrongWithoutIsWrongBut, WithoutIsRectifiable}

left_gate : (f : Circuit) (nets : List (List ℕ)) (g : NamedGate) → Contains f.gates g → (Contains nets g.out → ⊥) → Contains (without f nets).gates g
left_gate f nets g member free =
    Contains-filter (λ (g : NamedGate). not (has nets g.out)) f.gates g member
    (ap not (false_from_ne_true (has nets g.out) (λ e.
    let (name, c, same) = some_passes (bytes_eq g.out) nets e in
    free (subst (Contains nets) (sym (same_name g.out name same)) c))))

gate_left : (f : Circuit) (nets : List (List ℕ)) (g : NamedGate) → Contains (without f nets).gates g → Contains f.gates g × (Contains nets g.out → ⊥)
gate_left f nets g c =
    let (member, passes) = filter-Contains (λ (g : NamedGate). not (has nets g.out)) f.gates g c in
    (member, λ listed. false≢true (sym (ap not (has-from_Contains nets g.out listed)) ∙ passes))

-- the nets of the gates that are left
left_nets : (p : List ℕ → Bool) (gates : List NamedGate) → map (λ (g : NamedGate). g.out) (filter (λ (g : NamedGate). p g.out) gates) ≡ filter p (map (λ (g : NamedGate). g.out) gates)
left_nets p [] = refl
left_nets p (g ∷ gates) =
    let rest = left_nets p gates in
    elim (p g.out) as (λ b. map (λ (g : NamedGate). g.out) (cond b (g ∷ filter (λ (g : NamedGate). p g.out) gates) (filter (λ (g : NamedGate). p g.out) gates))
    ≡ cond b (g.out ∷ filter p (map (λ (g : NamedGate). g.out) gates)) (filter p (map (λ (g : NamedGate). g.out) gates))) [
      | true ↦ ap (λ names. g.out ∷ names) rest
      | false ↦ rest
    ]

pub without_is_sound : WithoutIsSound
without_is_sound f nets sound = record {
  distinct = sound.distinct;
  inputs = sound.inputs;
  inputs_once = sound.inputs_once;
  outputs = sound.outputs;
  ports = sound.ports;
  driven_nets = λ g c. sound.driven_nets g (gate_left f nets g c).0;
  read_nets = λ g c. sound.read_nets g (gate_left f nets g c).0;
  driven_once = subst (AllPairs (λ a b. a ≢ b)) (sym (left_nets (λ name. not (has nets name)) f.gates))
      (AllPairs-filter (λ a b. a ≢ b) (λ name. not (has nets name)) (map (λ (g : NamedGate). g.out) f.gates) sound.driven_once);
  inputs_free = λ name input driven. sound.inputs_free name input (driven.0, (gate_left f nets driven.0 driven.1).0, driven.2);
  loop_free = λ loop is. sound.loop_free loop (record {
    members = All_from_places (Contains f.gates) loop (λ k g at. (gate_left f nets g (All_at (Contains (without f nets).gates) loop k g is.members at)).0);
    circle = is.circle;
  });
}

pub wrong_without : WrongWithoutIsWrongBut
wrong_without f goal nets x = (
  λ wrong. record {
    len = wrong.len;
    never = λ v v_is input asked.
        let consistent : IsConsistent (without f nets) v = λ g c. let left = gate_left f nets g c in v_is g left.0 left.1 in
        wrong.never v consistent input (record { consistent = consistent; agrees = asked });
  },
  λ wrong. record {
    len = wrong.len;
    never = λ v v_is input right. wrong.never v (λ g member free. v_is g (left_gate f nets g member free)) input right.agrees;
  },
)

pub without_is_rectifiable : WithoutIsRectifiable
without_is_rectifiable f goal nets = (
  λ can x wrong. can x ((wrong_without f goal nets x).1 wrong),
  λ choice x wrong. choice x ((wrong_without f goal nets x).0 wrong),
)
