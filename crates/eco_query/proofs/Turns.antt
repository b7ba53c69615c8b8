-- What holds of the candidates in the order of their turns.
use Rattle.std.proofs.Common.{◌≡◌, ◌≢◌, ◌≤◌, ◌⊎◌, ℕ, List, [], ◌∷◌, length, Some, get_or, refl, sym, ◌∙◌, ap, subst, inl, inr, arith}
use Rattle.std.specs.List.{All, AllPairs, Contains}
use Rattle.std.specs.Cmp.Lexicographic.{slice_cmp}
use Rattle.std.specs.Ordering.{nat_cmp}
use Rattle.std.specs.declared.cmp.Ordering.TheVariants.{Less, Equal}
use Rattle.std.proofs.lemmas.Cmp.{nat_list_cmp_total, tied_itself}
use Rattle.std.proofs.lemmas.List.Elements.{All-weaker}
use Rattle.eco_meaning.specs.Circuit.{Circuit, AreTargets, Fan, IsSignal, IsDriven}
use Rattle.eco_meaning.specs.Circuit.Fan.{itself, next}
use Rattle.eco_meaning.specs.Cost.{Weights, weight_of, GoesBefore, IsUnpaid, AreTurns}
use Rattle.eco_meaning.specs.Patch.{IsBehindOnly, OfTarget}
use Rattle.eco_netlist.specs.Netlists.{IsChecked}
use Rattle.eco_query.specs.Problem.{HasSomeTargets}

-- no signal goes before itself
never_itself : (f : Circuit) (w : Weights) (d : ℕ) (a b : List ℕ) → GoesBefore f w d a b → a ≢ b
never_itself f w d a b before same =
    let weights : Some before.heavy ≡ Some before.light =
    sym before.weight_first ∙ ap (weight_of f w d) same ∙ before.weight_second in
    let equal : before.heavy ≡ before.light = cc weights in
    elim before.order [
      | inl lighter ↦ omega arith
      | inr tie ↦ let tied : slice_cmp nat_cmp b a ≡ Equal = ap (slice_cmp nat_cmp b) same ∙ tied_itself nat_list_cmp_total b in
          let clash : Less ≡ Equal = sym tie.1 ∙ tied in cc
    ]

-- the turns are those of different signals
pub turns_distinct : (f : Circuit) (w : Weights) (d : ℕ) (earlier paid turns : List (List ℕ)) → AreTurns f w d earlier paid turns → AllPairs (λ a b. a ≢ b) turns
turns_distinct f w d earlier paid turns are i j e below within =
    never_itself f w d (get_or turns i e) (get_or turns j e) (are.ordered i j e below within)

-- no signal that has a turn lies in the fan-out of a target that isn't an earlier one
pub turns_avoid : (f : Circuit) (w : Weights) (d : ℕ) (earlier paid turns : List (List ℕ)) → AreTurns f w d earlier paid turns → All (IsBehindOnly f earlier) turns
turns_avoid f w d earlier paid turns are =
    All-weaker (IsUnpaid f w d earlier paid) (IsBehindOnly f earlier) (λ name is. is.candidate.apart) turns are.sound

-- what lies in a fan-out is its source or is driven
pub end_of_fan : (f : Circuit) (source name : List ℕ) → Fan f source name → (source ≡ name) ⊎ IsDriven f name
end_of_fan f source _ itself = inl refl
end_of_fan f source _ (next g c name reads fan) = inr (g, c, refl)

-- an input lies in the fan-out of no target
pub input_apart : (f : Circuit) (earlier : List (List ℕ)) (name : List ℕ) → IsChecked f → Contains f.inputs name → IsBehindOnly f earlier name
input_apart f earlier name checked input target is fan =
    elim (end_of_fan f target name fan) [
      | inl same ↦ absurd (is.free (subst (λ n. IsSignal f n) (sym same) (inl input)))
      | inr driven ↦ absurd (checked.inputs_free name input driven)
    ]

-- no target comes before the first
pub of_first : (f : Circuit) (P : List (List ℕ) → List ℕ → Type 0) → HasSomeTargets f → OfTarget f 0 P → (target : List ℕ) × P [] target
of_first f P has holds = begin has.counted.0 has.counted.1 (let some = has.some in let count = has.counted.2 in omega arith)
  where
    begin : (targets : List (List ℕ)) → AreTargets f targets → 1 ≤ length targets → (target : List ℕ) × P [] target
    begin [] are some = absurd (omega arith)
    begin (target ∷ behind) are some = (target, holds [] target behind are refl)
