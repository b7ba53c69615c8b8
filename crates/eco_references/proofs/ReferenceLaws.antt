-- Functions that a target may have, and references of all open targets.
use Rattle.std.proofs.Common.{◌≡◌, inl, inr, ℕ, Bool, not, List, [], ◌∷◌, ◌++◌, refl, sym, ◌∙◌, subst}
use Rattle.std.proofs.Math.Bool.{not-not}
use Rattle.std.proofs.lemmas.List.{append_assoc, append-nil}
use Rattle.std.proofs.lemmas.List.Elements.{Contains-append_right}
use Rattle.eco_lists.proofs.Members.{Contains_first, Contains_later}
use Rattle.eco_lists.proofs.Tests.{cases_bits, not_own, opposite}
use Rattle.eco_meaning.specs.Circuit.{Circuit, Values, IsConsistent, AgreeOn}
use Rattle.eco_meaning.specs.Meaning.{Goal}
use Rattle.eco_meaning.specs.Choice.{IsReached, IsForced, IsKept}
use Rattle.eco_laws.specs.Reached.{IsPatchOf}
use Rattle.eco_laws.proofs.OneValue.{next_target, reached_maps_agree, same_by_image}
use Rattle.eco_laws.proofs.Reaching.{reach}
use Rattle.eco_laws.proofs.Keeping.{fewer_targets, kept_is_equivalent, kept_is_rectifiable, reached_for_fewer, reached_with}
use Rattle.eco_references.specs.References.{KeptByForced}
use Rattle.eco_references.specs.Together.{References, AreReferences, FollowsReferences, IsLostBeside, ReferencesKeep, ReferencesRectify, ReferencesGoOn, LaterStayReferences, FollowersAreRight}

pub kept_by_forced : KeptByForced
kept_by_forced f goal p earlier target r = (
  λ kept_by. (
    (λ x lost. kept_by x (record { len = lost.len; never = λ v reached same right. lost.never v reached right })),
    λ x bit forced. elim (cases_bits (r x) bit) [
      | inl same ↦ same
      | inr other ↦
          absurd (kept_by x (record {
            len = forced.len;
            never = λ v reached same right. forced.never v reached (same ∙ opposite (r x) bit other) right;
          }))
    ],
  ),
  λ both x lost.
      let forced : IsForced f goal p earlier target x (not (r x)) = record {
        len = lost.len;
        never = λ v reached other right. lost.never v reached (other ∙ not-not (r x)) right;
      } in
      not_own (r x) (both.1 x (not (r x)) forced),
)

pub references_keep : ReferencesKeep
references_keep f goal p earlier open_targets rs are = (
  λ x lost. are x (record { len = lost.len; never = λ v reached bits right. lost.never v reached right }),
  λ target among x lost. are x (record { len = lost.len; never = λ v reached bits right. lost.never v reached (bits target among) right }),
)

pub references_rectify : ReferencesRectify
references_rectify f goal p open_targets rs takes are = (kept_is_rectifiable f goal p takes).0 (references_keep f goal p [] open_targets rs are).0

pub references_go_on : ReferencesGoOn
references_go_on f goal p q earlier target behind rs alike has are x lost =
    are x (record {
      len = lost.len;
      never = λ v reached bits right.
          let there = (alike x v).0 reached in
          let (w, w_is, inputs, before) = there.follows in
          let same : v target ≡ w target = bits target (Contains_first target behind) ∙ sym (has x v w there w_is inputs) in
          lost.never v (reached_with f q earlier target x v w there w_is inputs before same) (λ other among. bits other (Contains_later target other behind among)) right;
    })

module _ (f : Circuit) (goal : Goal) (q : Circuit) (rs : References) (follows : FollowsReferences f q rs) where
  -- one target after the other gets its reference
  go_on : (before rest : List (List ℕ)) → q.outputs ≡ before ++ rest → AreReferences f goal q before rest rs → IsKept f goal q q.outputs
  go_on before [] cut are = subst (IsKept f goal q) (sym (cut ∙ append-nil before)) (references_keep f goal q before [] rs are).0
  go_on before (target ∷ rest) cut are =
      go_on (before ++ target ∷ []) rest (cut ∙ sym (append_assoc before (target ∷ []) rest))
      (references_go_on f goal q q before target rest rs (λ x v. (λ reached. reached, λ reached. reached)) (follows before target rest cut) are)

pub followers_are_right : FollowersAreRight
followers_are_right f goal q rs sound patch fits cares are follows =
    (kept_is_equivalent f goal q sound patch fits cares).0 (go_on f goal q rs follows [] q.outputs refl are)

-- the patch's function has one bit at an input, the one that the target has; were nothing right with it, it would be the other
pub later_stay : LaterStayReferences
later_stay f goal p q earlier target later rs is alike open_still has x lost =
    let (v, reached, asked) = reach f q (earlier ++ target ∷ []) is x (λ other. rs other x) lost.len in
    let fewer = reached_for_fewer f q earlier (target ∷ []) x v reached in
    let (w, w_is, inputs, before) = reached.follows in
    let here = Contains-append_right earlier (target ∷ []) target (Contains_first target []) in
    let same : v target ≡ w target = before target here in
    let beside : IsLostBeside f goal p earlier target (w target) later rs x = record {
      len = lost.len;
      never = λ u u_is u_bit bits right.
          let there = (alike x u).0 u_is in
          let (o, o_is, u_o, u_before) = there.follows in
          let agree : AgreeOn earlier u v = (reached_maps_agree f q earlier (fewer_targets f q earlier target is) x u v there fewer).0 in
          let inputs_agree = same_by_image u v f.inputs (there.input ∙ sym fewer.input) in
          let one : o target ≡ w target =
          next_target f q is.later is.sound is.patch is.fits u v o w there.consistent fewer.consistent inputs_agree o_is w_is u_o inputs
          earlier target is.behind (is.first ∙ append_assoc earlier (target ∷ []) is.behind) agree in
          lost.never u (reached_with f q earlier target x u o there o_is u_o u_before (u_bit ∙ sym one)) bits right;
    } in
    not_own (w target) (has x (w target) beside v w fewer w_is inputs)
