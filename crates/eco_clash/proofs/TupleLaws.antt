-- Tuples with which no row of bits is right, and rows that are right throughout one.
use Rattle.std.proofs.Common.{ℕ, Bool, false, List, [], ◌∷◌, length, map, sym, ◌∙◌, ap}
use Rattle.std.proofs.lemmas.List.{length-map}
use Rattle.eco_lists.proofs.Members.{Contains_first, Contains_none}
use Rattle.eco_meaning.specs.Circuit.{Circuit}
use Rattle.eco_meaning.specs.Meaning.{Goal}
use Rattle.eco_clash.specs.Clashes.{IsRightThroughout}
use Rattle.eco_clash.specs.Questions.{IsFixedThroughout, UnfixedClashes, ClashesAreUnfixed, FixedRowIsNew}

-- bits that are right throughout a tuple are those of the targets; where the tuple has no input, any bits are right
some_fixed : (f : Circuit) (goal : Goal) (targets : List (List ℕ)) (tuple : List (List Bool)) (row : List Bool) → IsRightThroughout f goal targets tuple row → (bits : List Bool) × IsFixedThroughout f goal targets tuple bits
some_fixed f goal targets [] row right = (
  map (λ target. false) targets,
  record { len = length-map targets (λ (target : List ℕ). false); right = λ x c. absurd (Contains_none x c) },
)
some_fixed f goal targets (x ∷ tuple) row right =
    let first = right x (Contains_first x tuple) in
    (row, record { len = sym (ap length first.at.bits) ∙ length-map targets first.values; right = right })

pub unfixed_clashes : UnfixedClashes
unfixed_clashes f goal targets tuple len unfixed = record {
  len = len;
  never = λ row right. let some = some_fixed f goal targets tuple row right in unfixed some.0 some.1;
}

pub clashes_are_unfixed : ClashesAreUnfixed
clashes_are_unfixed f goal targets tuple clash bits fixed = clash.never bits fixed.right

pub fixed_row_is_new : FixedRowIsNew
fixed_row_is_new f goal targets rows tuple bits missed fixed listed =
    let (x, among, wrong) = missed bits listed in
    wrong (fixed.right x among)
