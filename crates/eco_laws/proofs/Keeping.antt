-- Targets get their functions one after the other, f stays rectifiable, and in the end the splice does what is asked.
use Rattle.std.proofs.Common.{◌≡◌, inl, inr, ℕ, Bool, false, List, [], ◌∷◌, ◌++◌, Option, Some, None, map, refl, sym, ◌∙◌, subst}
use Rattle.std.specs.List.{Contains}
use Rattle.std.proofs.lemmas.List.{append_assoc, append-nil, length-map}
use Rattle.std.proofs.lemmas.List.Elements.{Contains-append_left, Contains-append_right}
use Rattle.eco_lists.proofs.Members.{Contains_first, Contains_none}
use Rattle.eco_lists.proofs.Tests.{cases_bits, opposite}
use Rattle.eco_meaning.specs.Circuit.{Circuit, Values, names, IsConsistent, AgreeOn, AreTargets}
use Rattle.eco_meaning.specs.Meaning.{Goal, IsCared, IsRight, IsEquivalent}
use Rattle.eco_meaning.specs.Patch.{IsBehindOnly, Fits, splice_of}
use Rattle.eco_meaning.specs.Choice.{IsReached, IsForced, IsKept}
use Rattle.eco_laws.specs.Sound.{IsSound}
use Rattle.eco_laws.specs.Reached.{IsPatchOf}
use Rattle.eco_laws.specs.Kept.{HasForcedBits, HasAllForcedBits, ForcedBitsAreAll, CaresForInputs, KeptIsRectifiable, ForcedBitsKeep, KeptIsEquivalent, PatchesShowRectifiable}
use Rattle.eco_laws.proofs.OneValue.{first_patch, same_by_image, same_earlier, same_behind, next_target, agree_on_both, agree_on_one}
use Rattle.eco_laws.proofs.Reaching.{reach, takes_any_inputs}
use Rattle.eco_laws.proofs.Spliced.{to_splice, from_splice}

-- before any target has a function, each consistent map is reached
pub kept_is_rectifiable : KeptIsRectifiable
kept_is_rectifiable f goal p takes = (
  λ kept x wrong. kept x record { len = wrong.len; never = λ v reached right. wrong.never v reached.consistent reached.input right },
  λ rectifiable x lost. rectifiable x record {
    len = lost.len;
    never = λ v v_is input right.
        let w = takes v in
        lost.never v record { consistent = v_is; input = input; follows = (w.0, w.1, w.2, λ name c. absurd (Contains_none name c)) } right;
  },
)

-- a patch of more targets is one of fewer
abbrev pub fewer_targets : (f p : Circuit) (earlier : List (List ℕ)) (target : List ℕ) → IsPatchOf f p (earlier ++ target ∷ []) → IsPatchOf f p earlier
fewer_targets f p earlier target is = record {
  sound = is.sound;
  patch = is.patch;
  later = is.later;
  fits = is.fits;
  behind = target ∷ is.behind;
  first = is.first ∙ append_assoc earlier (target ∷ []) is.behind;
}

-- if the target has the bit of the patch's function, the map is reached for one target more
pub reached_with : (f p : Circuit) (earlier : List (List ℕ)) (target : List ℕ) (x : List Bool) (v w : Values) → IsReached f p earlier x v → IsConsistent p w → AgreeOn p.inputs v w → AgreeOn earlier v w → v target ≡ w target → IsReached f p (earlier ++ target ∷ []) x v
reached_with f p earlier target x v w reached w_is inputs earlier_same same = record {
  consistent = reached.consistent;
  input = reached.input;
  follows = (w, w_is, inputs, agree_on_both v w earlier (target ∷ []) earlier_same (agree_on_one v w target same));
}

module _ (f : Circuit) (goal : Goal) (p : Circuit) (earlier : List (List ℕ)) (target : List ℕ) (is : IsPatchOf f p (earlier ++ target ∷ [])) where
  -- the patch's function has one bit at an input
  one_bit : (x : List Bool) (v u w o : Values) → IsReached f p earlier x v → IsReached f p earlier x u → IsConsistent p w → IsConsistent p o → AgreeOn p.inputs v w → AgreeOn p.inputs u o → w target ≡ o target
  one_bit x v u w o v_is u_is w_is o_is v_w u_o =
      next_target f p is.later is.sound is.patch is.fits v u w o v_is.consistent u_is.consistent
      (same_by_image v u f.inputs (v_is.input ∙ sym u_is.input)) w_is o_is v_w u_o earlier target is.behind (fewer_targets f p earlier target is).first
      (same_earlier f p earlier (fewer_targets f p earlier target is) x v u v_is u_is)

  pub keep : HasForcedBits f goal p earlier target → IsKept f goal p earlier → IsKept f goal p (earlier ++ target ∷ [])
  keep drives kept x lost =
      kept x record {
        len = lost.len;
        never = λ v reached right.
            let w = reached.follows in
            elim (cases_bits (v target) (w.0 target)) [
              | inl same ↦ lost.never v (reached_with f p earlier target x v w.0 reached w.1 w.2 w.3 same) right
              | inr differ ↦
                  let forced : IsForced f goal p earlier target x (v target) = record {
                    len = lost.len;
                    never = λ u u_is other u_right.
                        let o = u_is.follows in
                        let same : u target ≡ o.0 target = other ∙ sym (opposite (w.0 target) (v target) (λ e. differ (sym e))) ∙ one_bit x v u w.0 o.0 reached u_is w.1 o.1 w.2 o.2 in
                        lost.never u (reached_with f p earlier target x u o.0 u_is o.1 o.2 o.3 same) u_right;
                  } in
                  differ (sym (drives x (v target) forced v w.0 reached w.1 w.2))
            ];
      }

pub forced_bits_keep : ForcedBitsKeep
forced_bits_keep f goal p earlier target is drives kept = keep f goal p earlier target is drives kept

-- maps that agree on the inputs are cared together
pub cared_alike : (inputs : List (List ℕ)) (care : Option Circuit) (v u : Values) → ((c : Circuit) → care ≡ Some c → (name : List ℕ) → Contains c.inputs name → Contains inputs name) → AgreeOn inputs v u → IsCared care v → IsCared care u
cared_alike inputs None v u within agree cared = tt
cared_alike inputs (Some c) v u within agree cared = λ o o_is same.
    cared o o_is (λ name input. agree name (within c refl name input) ∙ same name input)

module _ (f : Circuit) (goal : Goal) (p : Circuit) (is : IsPatchOf f p p.outputs) (whole : AreTargets f p.outputs) (cares : CaresForInputs f goal) where
  -- each net is behind the patch's targets only
  behind_all : (name : List ℕ) → IsBehindOnly f p.outputs name
  behind_all name target is_target fan = whole.complete target is_target

  equivalent_from_kept : IsKept f goal p p.outputs → IsEquivalent (splice_of f p) goal
  equivalent_from_kept kept v u v_is cared u_is inputs name output =
      let x = map v f.inputs in
      let reached : IsReached f p p.outputs x v = from_splice f p is x v record { values = v; consistent = v_is; input = refl; agrees = λ n c. refl } in
      elim (cases_bits (v name) (u name)) [
        | inl same ↦ same
        | inr differ ↦ absurd (kept x record {
          len = length-map f.inputs v;
          never = λ o o_is right.
              let alike : AgreeOn f.inputs v o = same_by_image v o f.inputs (sym o_is.input) in
              let net : Contains (names f) name = is.sound.outputs name output in
              differ (
              same_behind f p p.outputs is x v o reached o_is name net (behind_all name)
              ∙ right.agrees (cared_alike f.inputs goal.care v o cares alike cared) u u_is (λ n c. sym (alike n c) ∙ inputs n c) name output
              );
        })
      ]

  -- with all functions each map that is reached is right
  pub right_from_equivalent : IsEquivalent (splice_of f p) goal → (x : List Bool) (v : Values) → IsReached f p p.outputs x v → IsRight f goal v
  right_from_equivalent equivalent x v reached =
      let of = to_splice f p is x v reached in
      let inputs : AgreeOn f.inputs v of.values = λ name c. of.agrees name (is.sound.inputs name c) in
      record {
        consistent = reached.consistent;
        agrees = λ cared u u_is same name output.
            of.agrees name (is.sound.outputs name output)
            ∙ equivalent of.values u of.consistent (cared_alike f.inputs goal.care v of.values cares inputs cared) u_is (λ n c. sym (inputs n c) ∙ same n c) name output;
      }

  kept_from_equivalent : IsEquivalent (splice_of f p) goal → IsKept f goal p p.outputs
  kept_from_equivalent equivalent x lost =
      let some = reach f p p.outputs is x (λ name. false) lost.len in
      lost.never some.0 some.1 (right_from_equivalent equivalent x some.0 some.1)

pub whole_targets : (f p : Circuit) → Fits f p [] → AreTargets f p.outputs
whole_targets f p fits = subst (AreTargets f) (append-nil p.outputs) fits.drives

pub kept_is_equivalent : KeptIsEquivalent
kept_is_equivalent f goal p sound patch fits cares =
    let is = first_patch f p [] sound patch fits in
    (equivalent_from_kept f goal p is (whole_targets f p fits) cares, kept_from_equivalent f goal p is (whole_targets f p fits) cares)

-- what is reached for more targets is reached for fewer, so what is kept for more is kept for fewer
pub reached_for_fewer : (f p : Circuit) (earlier others : List (List ℕ)) (x : List Bool) (v : Values) → IsReached f p (earlier ++ others) x v → IsReached f p earlier x v
reached_for_fewer f p earlier others x v reached =
    let w = reached.follows in
    record {
      consistent = reached.consistent;
      input = reached.input;
      follows = (w.0, w.1, w.2, λ name c. w.3 name (Contains-append_left earlier others name c));
    }

pub kept_for_fewer : (f : Circuit) (goal : Goal) (p : Circuit) (earlier others : List (List ℕ)) → IsKept f goal p (earlier ++ others) → IsKept f goal p earlier
kept_for_fewer f goal p earlier others kept x lost =
    kept x record { len = lost.len; never = λ v reached right. lost.never v (reached_for_fewer f p earlier others x v reached) right }

pub patches_show_rectifiable : PatchesShowRectifiable
patches_show_rectifiable f goal p sound patch fits cares equivalent =
    let kept = (kept_is_equivalent f goal p sound patch fits cares).1 equivalent in
    (kept_is_rectifiable f goal p (takes_any_inputs p patch)).0 (kept_for_fewer f goal p [] p.outputs kept)

module _ (f : Circuit) (goal : Goal) (p : Circuit) (sound : IsSound f) (patch : IsSound p) (fits : Fits f p []) (cares : CaresForInputs f goal) where
  -- the patch, as one of the targets up to this
  abbrev up_to : (before : List (List ℕ)) (target : List ℕ) (behind : List (List ℕ)) → p.outputs ≡ before ++ target ∷ behind → IsPatchOf f p (before ++ target ∷ [])
  up_to before target behind cut = record {
    sound = sound;
    patch = patch;
    later = [];
    fits = fits;
    behind = behind;
    first = cut ∙ sym (append_assoc before (target ∷ []) behind);
  }

  -- target by target, f stays rectifiable
  keep_all : HasAllForcedBits f goal p → (before rest : List (List ℕ)) → p.outputs ≡ before ++ rest → IsKept f goal p before → IsKept f goal p p.outputs
  keep_all has before [] cut kept = subst (IsKept f goal p) (sym (cut ∙ append-nil before)) kept
  keep_all has before (target ∷ rest) cut kept =
      keep_all has (before ++ target ∷ []) rest (cut ∙ sym (append_assoc before (target ∷ []) rest))
      (keep f goal p before target (up_to before target rest cut) (has before target rest cut) kept)

  has_forced_bits : IsEquivalent (splice_of f p) goal → HasAllForcedBits f goal p
  has_forced_bits equivalent before target behind cut x bit forced v w reached w_is v_w =
      let some = reach f p p.outputs (first_patch f p [] sound patch fits) x v forced.len in
      let u = some.0 in
      let o = some.1.follows in
      let first : IsReached f p before x u = reached_for_fewer f p before (target ∷ behind) x u (subst (λ list. IsReached f p list x u) cut some.1) in
      let output : Contains p.outputs target = subst (λ list. Contains list target) (sym cut) (Contains-append_right before (target ∷ behind) target (Contains_first target behind)) in
      let same : u target ≡ w target = o.3 target output ∙ one_bit f goal p before target (up_to before target behind cut) x u v o.0 w first reached o.1 w_is o.2 v_w in
      elim (cases_bits (w target) bit) [
        | inl is ↦ is
        | inr differ ↦
            absurd (forced.never u first (same ∙ opposite (w target) bit differ)
            (right_from_equivalent f goal p (first_patch f p [] sound patch fits) (whole_targets f p fits) cares equivalent x u some.1))
      ]

pub forced_bits_are_all : ForcedBitsAreAll
forced_bits_are_all f goal p sound patch fits cares = (
  λ equivalent. (patches_show_rectifiable f goal p sound patch fits cares equivalent, has_forced_bits f goal p sound patch fits cares equivalent),
  λ both.
      let begun = (kept_is_rectifiable f goal p (takes_any_inputs p patch)).1 both.0 in
      (kept_is_equivalent f goal p sound patch fits cares).0 (keep_all f goal p sound patch fits cares both.1 [] p.outputs refl begun),
)
