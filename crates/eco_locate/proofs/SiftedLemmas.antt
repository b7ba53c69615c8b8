-- Nets that are sifted at a wrong input.
use Rattle.std.proofs.Common.{◌≡◌, Bool, true, false, List, [], ◌∷◌, inl, inr, sym, subst}
use Rattle.std.specs.List.{All}
use Rattle.std.proofs.lemmas.List.Elements.{All-contains}
use Rattle.eco_lists.proofs.Places.{All_from_places, All_at}
use Rattle.eco_meaning.specs.Circuit.{Circuit, names}
use Rattle.eco_meaning.specs.Meaning.{Goal, IsWrong}
use Rattle.eco_choices.specs.Choices.{IsWrongBut}
use Rattle.eco_choices.proofs.TurnedLemmas.{unmended_is_wrong_but}
use Rattle.eco_gates.specs.declared.gate.NetId.{NetId}
use Rattle.eco_netlist.specs.Netlists.{name_at}
use Rattle.eco_netlist.proofs.SoundNetlists.{sound_netlist}
use Rattle.eco_lanes.specs.Mended.{AreSifted, HasMendedBit}
use Rattle.eco_change.specs.Change.{IsChange}
use Rattle.eco_change.specs.Asked.{AreWanted}
use Rattle.eco_locate.specs.Moves.{IsJoint}

-- the same of what is equal
pub sifted_at : (f h : Circuit) (x xs wanted ws : List Bool) (nets left taken : List NetId) → h ≡ f → xs ≡ x → ws ≡ wanted → AreSifted h xs ws nets left taken → AreSifted f x wanted nets left taken
sifted_at f h x xs wanted ws nets left taken same at asked is =
    subst (λ (w : List Bool). AreSifted f x w nets left taken) asked
    (subst (λ (y : List Bool). AreSifted f y ws nets left taken) at (subst (λ (n : Circuit). AreSifted n xs ws nets left taken) same is))

-- each net is left or taken
pub sifted_joint : (f : Circuit) (x wanted : List Bool) (nets left taken : List NetId) → AreSifted f x wanted nets left taken → IsJoint left taken nets
sifted_joint f x wanted nets left taken is = record {
  members = λ net. (
    is.all net,
    λ c. elim c [
      | inl stays ↦ (All-contains (HasMendedBit f x wanted nets true) left net is.mending stays).among
      | inr goes ↦ (All-contains (HasMendedBit f x wanted nets false) taken net is.others goes).among
    ],
  );
  count = sym is.count;
}

-- the input stays wrong with a net cut that is taken
pub sifted_still : (f : Circuit) (goal : Goal) (x wanted : List Bool) (nets left taken : List NetId) → IsChange f goal → IsWrong f goal x → AreWanted f goal x wanted → AreSifted f x wanted nets left taken → All (λ net. IsWrongBut f goal (name_at (names f) net.0 ∷ []) x) taken
sifted_still f goal x wanted nets left taken change wrong asked is =
    All_from_places (λ net. IsWrongBut f goal (name_at (names f) net.0 ∷ []) x) taken (λ k net at.
    unmended_is_wrong_but f goal (name_at (names f) net.0) x wanted (sound_netlist f change.checked) wrong asked.asked
    (All_at (HasMendedBit f x wanted nets false) taken k net is.others at).mends)
