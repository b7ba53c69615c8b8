-- Signals that suffice.
use Rattle.std.proofs.Common.{◌≡◌, inl, inr, ℕ, Bool, true, false, List, [], ◌∷◌, ◌++◌, sym, ◌∙◌, subst}
use Rattle.std.specs.List.{Contains}
use Rattle.std.proofs.lemmas.Bool.{true≢false}
use Rattle.std.proofs.lemmas.List.Elements.{Contains-append_left, Contains-append_right}
use Rattle.eco_lists.proofs.Members.{Contains_first}
use Rattle.eco_lists.proofs.Tests.{cases_bits, opposite}
use Rattle.eco_meaning.specs.Circuit.{Circuit, Values, IsConsistent, AgreeOn, IsTarget}
use Rattle.eco_meaning.specs.Meaning.{Goal, IsRight}
use Rattle.eco_meaning.specs.Choice.{IsReached, IsForced, IsKept, Suffices}
use Rattle.eco_laws.specs.Parts.{LeavesTheSame}
use Rattle.eco_laws.specs.Reached.{IsPatchOf}
use Rattle.eco_laws.proofs.Members.{cases_member}
use Rattle.eco_laws.proofs.Keeping.{kept_is_equivalent, kept_for_fewer, reached_for_fewer}
use Rattle.eco_laws.proofs.Sources.{by_sources}
use Rattle.eco_references.specs.Bases.{ReadsAlone, KeptSuffices, DeterminedSuffices, PrefixesKeep}
use Rattle.eco_references.proofs.ReferenceLaws.{kept_by_forced}

module _ (f : Circuit) (goal : Goal) (p q : Circuit) (earlier : List (List ℕ)) (target : List ℕ) (signals : List (List ℕ)) (is : IsPatchOf f q (earlier ++ target ∷ [])) (alike : LeavesTheSame f p q earlier) (alone : ReadsAlone q target signals) where
  -- the patch drives the target
  output : Contains q.outputs target
  output =
      subst (λ list. Contains list target) (sym is.first)
      (Contains-append_left (earlier ++ target ∷ []) is.behind target (Contains-append_right earlier (target ∷ []) target (Contains_first target [])))

  -- what is reached with the target's function is reached without it, by the other patch too
  before : (x : List Bool) (v : Values) → IsReached f q (earlier ++ target ∷ []) x v → IsReached f p earlier x v
  before x v reached = (alike x v).1 (reached_for_fewer f q earlier (target ∷ []) x v reached)

  -- the function has one bit where the signals have the same values
  one_bit : (v u w o : Values) → IsConsistent q w → IsConsistent q o → AgreeOn q.inputs v w → AgreeOn q.inputs u o → ((name : List ℕ) → Contains signals name → v name ≡ u name) → w target ≡ o target
  one_bit v u w o w_is o_is v_w u_o same =
      by_sources q w o is.patch w_is o_is target (is.patch.outputs target output) (λ source source_is fan. elim (cases_member q.inputs source) [
        | inl input ↦ sym (v_w source input) ∙ same source (alone source input fan) ∙ u_o source input
        | inr none ↦
            let open_still : IsTarget q source = record {
              net = source_is.net;
              free = λ signal. elim signal [ inl input ↦ none input | inr driven ↦ source_is.free driven ];
            } in
            absurd (is.fits.closed source open_still)
      ])

  bit_of : (x : List Bool) (v : Values) (reached : IsReached f q (earlier ++ target ∷ []) x v) → v target ≡ reached.follows.0 target
  bit_of x v reached = reached.follows.3 target (Contains-append_right earlier (target ∷ []) target (Contains_first target []))

  -- a map that is right has the bit that the input forces
  has_forced : (x : List Bool) (bit : Bool) → IsForced f goal p earlier target x bit → (v : Values) → IsReached f q (earlier ++ target ∷ []) x v → IsRight f goal v → v target ≡ bit
  has_forced x bit forced v reached right =
      elim (cases_bits (v target) bit) [
        | inl same ↦ same
        | inr other ↦ absurd (forced.never v (before x v reached) (opposite (v target) bit other) right)
      ]

  suffices : IsKept f goal q (earlier ++ target ∷ []) → Suffices f goal p earlier target (Contains signals)
  suffices kept x y conflict =
      kept x (record {
        len = conflict.one.len;
        never = λ v v_is v_right.
            kept y (record {
              len = conflict.zero.len;
              never = λ u u_is u_right.
                  let (w, w_is, v_w, _) = v_is.follows in
                  let (o, o_is, u_o, _) = u_is.follows in
                  let same = one_bit v u w o w_is o_is v_w u_o (conflict.alike v u (before x v v_is) (before y u u_is)) in
                  true≢false
                  (sym (has_forced x true conflict.one v v_is v_right)
                  ∙ bit_of x v v_is
                  ∙ same
                  ∙ sym (bit_of y u u_is)
                  ∙ has_forced y false conflict.zero u u_is u_right);
            });
      })

pub kept_suffices : KeptSuffices
kept_suffices f goal p q earlier target signals is alike alone = suffices f goal p q earlier target signals is alike alone

pub determined_suffices : DeterminedSuffices
determined_suffices f goal p earlier target r signals kept_by determines x y conflict =
    let meets = ((kept_by_forced f goal p earlier target r).0 kept_by).1 in
    determines x y (record {
      one_len = conflict.one.len;
      zero_len = conflict.zero.len;
      one = meets x true conflict.one;
      zero = meets y false conflict.zero;
      alike = conflict.alike;
    })

pub prefixes_keep : PrefixesKeep
prefixes_keep f goal p first later sound patch fits cares equivalent cut =
    kept_for_fewer f goal p first later (subst (IsKept f goal p) cut ((kept_is_equivalent f goal p sound patch fits cares).1 equivalent))
