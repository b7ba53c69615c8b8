-- A netlist without targets has one consistent map for each input, so what holds of some map there holds of all.
use Rattle.std.proofs.Common.{inl, inr, false, [], map, sym, ◌∙◌}
use Rattle.std.proofs.lemmas.List.{length-map}
use Rattle.eco_lists.proofs.Members.{Contains_none}
use Rattle.eco_lists.proofs.Tests.{cases_bits}
use Rattle.eco_meaning.specs.Circuit.{AgreeOn}
use Rattle.eco_laws.proofs.AskedLemmas.{map_from_agree}
use Rattle.eco_laws.proofs.OneValue.{same_by_image}
use Rattle.eco_laws.proofs.Reaching.{map_with, takes_any_inputs}
use Rattle.eco_laws.proofs.Sources.{by_targets}
use Rattle.eco_laws.proofs.Keeping.{cared_alike}
use Rattle.eco_pose.specs.Equivalent.{NoneWrongIsEquivalent, EquivalentHasNoneWrong}

pub none_wrong_is_equivalent : NoneWrongIsEquivalent
none_wrong_is_equivalent n goal sound closed cares never v u v_is cared u_is inputs name output =
    elim (cases_bits (v name) (u name)) [
      | inl same ↦ same
      | inr differ ↦ absurd (never (map v n.inputs) record {
        len = length-map n.inputs v;
        never = λ o o_is input right.
            let alike : AgreeOn n.inputs v o = same_by_image v o n.inputs (sym input) in
            differ (
            by_targets n v o [] sound v_is o_is alike (λ k c. absurd (Contains_none k c)) name (sound.outputs name output) (λ target is fan. absurd (closed target is))
            ∙ right.agrees (cared_alike n.inputs goal.care v o cares alike cared) u u_is (λ k c. sym (alike k c) ∙ inputs k c) name output
            );
      })
    ]

pub equivalent_has_none_wrong : EquivalentHasNoneWrong
equivalent_has_none_wrong n goal sound equivalent x wrong =
    let (bits, same, kept) = map_with n.inputs x (λ name. false) sound.inputs_once wrong.len in
    let (v, v_is, agree) = takes_any_inputs n sound bits in
    wrong.never v v_is (sym (map_from_agree bits v n.inputs agree) ∙ same)
    record { consistent = v_is; agrees = λ cared u u_is inputs. equivalent v u v_is cared u_is inputs }
