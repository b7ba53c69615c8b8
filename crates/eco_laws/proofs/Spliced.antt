-- What a patch of all targets leaves are the consistent maps of the splice.
use Rattle.std.proofs.Common.{◌≡◌, ◌⊎◌, inl, inr, ℕ, Bool, List, ◌++◌, refl, sym, ◌∙◌, ap}
use Rattle.std.specs.List.{Contains}
use Rattle.std.proofs.lemmas.List.Elements.{All-contains, Contains-append_left, Contains-append_right, Contains-append_cases}
use Rattle.eco_lists.proofs.Places.{map_agree, Contains_at}
use Rattle.eco_meaning.specs.Gates.{apply}
use Rattle.eco_meaning.specs.Circuit.{Circuit, Values, names, IsConsistent, AgreeOn, IsSignal, IsTarget}
use Rattle.eco_meaning.specs.Choice.{IsReached}
use Rattle.eco_laws.specs.Sound.{IsSound}
use Rattle.eco_laws.specs.Reached.{IsPatchOf, IsOfSplice, ReachedMapsAreTheSplices}
use Rattle.eco_laws.proofs.Members.{cases_member}
use Rattle.eco_laws.proofs.Sources.{same_terms}
use Rattle.eco_laws.proofs.OneValue.{first_patch, signal_net}

-- gates keep their values in a map that agrees on the nets
consistent_by_names : (n : Circuit) → IsSound n → (v u : Values) → AgreeOn (names n) v u → IsConsistent n v → IsConsistent n u
consistent_by_names n sound v u agree v_is g member =
    sym (agree g.out (sound.driven_nets g member))
    ∙ v_is g member
    ∙ ap (apply g.kind) (same_terms v u g (λ name reads. agree name (sound.read_nets g member name reads)))

module _ (f p : Circuit) (is : IsPatchOf f p p.outputs) where
  input_net : (name : List ℕ) → Contains p.inputs name → Contains (names f) name
  input_net name c = signal_net f is.sound name (All-contains (IsSignal f) p.inputs name is.fits.reads c)

  output_net : (name : List ℕ) → Contains p.outputs name → Contains (names f) name
  output_net name c = (All-contains (IsTarget f) (p.outputs ++ is.later) name is.fits.drives.sound (Contains-append_left p.outputs is.later name c)).net

  -- f's values on its nets, the patch's on the others
  joined : Values → Values → (name : List ℕ) → Contains (names f) name ⊎ (Contains (names f) name → ⊥) → Bool
  joined v w name (inl net) = v name
  joined v w name (inr none) = w name

  on_nets : (v w : Values) (name : List ℕ) (cases : Contains (names f) name ⊎ (Contains (names f) name → ⊥)) → Contains (names f) name → v name ≡ joined v w name cases
  unfolding joined
  on_nets v w name (inl net) c = refl
  on_nets v w name (inr none) c = absurd (none c)

  on_others : (v w : Values) (name : List ℕ) (cases : Contains (names f) name ⊎ (Contains (names f) name → ⊥)) → (Contains (names f) name → w name ≡ v name) → w name ≡ joined v w name cases
  unfolding joined
  on_others v w name (inl net) same = same net
  on_others v w name (inr none) same = refl

  -- the nets of both are the patch's ports
  shared : (v w : Values) → AgreeOn p.inputs v w → AgreeOn p.outputs v w → (name : List ℕ) → Contains (names p) name → Contains (names f) name → w name ≡ v name
  shared v w inputs outputs name of_patch net =
      elim (Contains-append_cases p.ports p.wires name of_patch) [
        | inr wire ↦ absurd (is.fits.fresh name wire net)
        | inl port ↦ elim (is.patch.ports name port) [
          | inl input ↦ sym (inputs name input)
          | inr output ↦ sym (outputs name output)
        ]
      ]

  pub to_splice : (x : List Bool) (v : Values) → IsReached f p p.outputs x v → IsOfSplice f p x v
  to_splice x v reached =
      let w = reached.follows in
      let u : Values = λ name. joined v w.0 name (cases_member (names f) name) in
      let at_f : AgreeOn (names f) v u = λ name net. on_nets v w.0 name (cases_member (names f) name) net in
      let at_p : AgreeOn (names p) w.0 u = λ name of_patch. on_others v w.0 name (cases_member (names f) name) (shared v w.0 w.2 w.3 name of_patch) in
      record {
        values = u;
        consistent = λ g member. elim (Contains-append_cases f.gates p.gates g member) [
          | inl here ↦ consistent_by_names f is.sound v u at_f reached.consistent g here
          | inr there ↦ consistent_by_names p is.patch w.0 u at_p w.1 g there
        ];
        input = sym (map_agree v u f.inputs (λ k name at. at_f name (is.sound.inputs name (Contains_at f.inputs k name at)))) ∙ reached.input;
        agrees = at_f;
      }

  pub from_splice : (x : List Bool) (v : Values) → IsOfSplice f p x v → IsReached f p p.outputs x v
  from_splice x v of =
      let u = of.values in
      record {
        consistent = consistent_by_names f is.sound u v (λ name net. sym (of.agrees name net)) (λ g member. of.consistent g (Contains-append_left f.gates p.gates g member));
        input = map_agree v u f.inputs (λ k name at. of.agrees name (is.sound.inputs name (Contains_at f.inputs k name at))) ∙ of.input;
        follows = (
          u,
          λ g member. of.consistent g (Contains-append_right f.gates p.gates g member),
          λ name c. of.agrees name (input_net name c),
          λ name c. of.agrees name (output_net name c),
        );
      }

pub reached_maps_are_the_splices : ReachedMapsAreTheSplices
reached_maps_are_the_splices f p later sound patch fits x v =
    let is = first_patch f p later sound patch fits in
    (to_splice f p is x v, from_splice f p is x v)
