-- The inputs as signals that a target's function may read: proofs.
use Rattle.std.proofs.Common.{◌≡◌, ℕ, inl, inr, Bool, true, false, List, ◌++◌, Option, Some, None, IsSome, cond, refl, sym, ◌∙◌, subst}
use Rattle.std.specs.List.{Contains}
use Rattle.std.proofs.lemmas.List.Elements.{Contains-append_left, Contains-append_right}
use Rattle.std.proofs.lemmas.Map.Views.{list_any-from_Contains}
use Rattle.eco_lists.proofs.Names.{bytes_eq_equiv}
use Rattle.eco_meaning.specs.Circuit.{Circuit, Values, Fan}
use Rattle.eco_meaning.specs.Circuit.Fan.{itself, next}
use Rattle.eco_meaning.specs.Meaning.{Goal, IsRight}
use Rattle.eco_meaning.specs.Cost.{or_else, line_weight}
use Rattle.eco_meaning.specs.Choice.{IsReached, IsForced}
use Rattle.eco_laws.specs.Sound.{IsSound}
use Rattle.eco_laws.specs.Inputs.{InputsAreCandidates, InputsSuffice, CandidatesSuffice}
use Rattle.eco_laws.proofs.Members.{cases_member}
use Rattle.eco_laws.proofs.Bases.{more_suffice}
use Rattle.eco_laws.proofs.AskedLemmas.{map_from_agree}

-- an input lies in no fan-out but its own
input_fan : (f : Circuit) (source name : List ℕ) → IsSound f → Contains f.inputs name → Fan f source name → source ≡ name
input_fan f source name sound is_input itself = refl
input_fan f source name sound is_input (next g among read reads fan) = absurd (sound.inputs_free g.out is_input (g, among, refl))

has_weight : (line : Option ℕ) (weight : ℕ) → IsSome (or_else line (Some weight))
has_weight None weight = refl
has_weight (Some other) weight = refl

pub inputs_are_candidates : InputsAreCandidates
inputs_are_candidates f w input_weight earlier input sound is_input = record {
  signal = inl is_input;
  weighted =
      subst (λ bit. IsSome (or_else (line_weight w input) (cond bit (Some input_weight) None))) (sym (list_any-from_Contains bytes_eq_equiv input f.inputs is_input))
      (has_weight (line_weight w input) input_weight);
  apart = λ target is_target fan.
      absurd (is_target.free (inl (subst (Contains f.inputs) (sym (input_fan f target input sound is_input fan)) is_input)));
}

-- an input that forces both bits is lost
forced_twice : (f : Circuit) (goal : Goal) (p : Circuit) (earlier : List (List ℕ)) (target : List ℕ) (x : List Bool) (v : Values) (bit : Bool) → v target ≡ bit → IsForced f goal p earlier target x true → IsForced f goal p earlier target x false → IsReached f p earlier x v → IsRight f goal v → ⊥
forced_twice f goal p earlier target x v true is one zero reached right = zero.never v reached is right
forced_twice f goal p earlier target x v false is one zero reached right = one.never v reached is right

pub inputs_suffice : InputsSuffice
inputs_suffice f goal p earlier target kept x y conflict =
    kept x (record {
      len = conflict.one.len;
      never = λ v at_x right. kept y (record {
        len = conflict.zero.len;
        never = λ u at_y _.
            let same : x ≡ y = sym at_x.input ∙ map_from_agree v u f.inputs (conflict.alike v u at_x at_y) ∙ at_y.input in
            forced_twice f goal p earlier target x v (v target) refl conflict.one (subst (λ z. IsForced f goal p earlier target z false) (sym same) conflict.zero) at_x right;
      });
    })

pub candidates_suffice : CandidatesSuffice
candidates_suffice f goal w input_weight p earlier target paid turns sound are kept =
    more_suffice f goal p earlier target (Contains f.inputs) (Contains (paid ++ turns))
    (λ input is_input. elim (cases_member paid input) [
      | inl is_paid ↦ Contains-append_left paid turns input is_paid
      | inr unpaid ↦ Contains-append_right paid turns input (are.complete input (record { candidate = inputs_are_candidates f w input_weight earlier input sound is_input; unpaid = unpaid }))
    ])
    (inputs_suffice f goal p earlier target kept)
