-- What bits of nets stand for, and which maps are reached.
use Rattle.std.proofs.Common.{◌≡◌, inl, inr, cond, ℕ, Bool, false, Some, option_map, List, [], ◌∷◌, map, refl, sym, ◌∙◌, ap, subst, arith}
use Rattle.std.specs.List.{slice_get, Contains}
use Rattle.std.specs.Str.{bytes_eq}
use Rattle.std.proofs.lemmas.Bool.{cases_Bool}
use Rattle.std.proofs.lemmas.Option.{slice_get-map}
use Rattle.eco_lists.proofs.Members.{Contains_first, Contains_later}
use Rattle.eco_lists.proofs.Names.{same_name}
use Rattle.eco_meaning.specs.Circuit.{Circuit, IsConsistent}
use Rattle.eco_netlist.specs.Netlists.{bit_of}
use Rattle.eco_netlist.specs.Values.{AreValuesAt}
use Rattle.eco_laws.proofs.Spliced.{reached_maps_are_the_splices}
use Rattle.eco_audit.specs.declared.solution.Solution.{Solution}
use Rattle.eco_audit.specs.Judging.{AreFilled, IsJudged, map_of}

-- a name that has no place has no bit
pub bit_absent : (list : List (List ℕ)) (bits : List Bool) (name : List ℕ) → (Contains list name → ⊥) → bit_of list bits name ≡ false
bit_absent [] bits name none = refl
bit_absent (first ∷ list) [] name none = refl
bit_absent (first ∷ list) (bit ∷ bits) name none =
    elim (cases_Bool (bytes_eq name first)) [
      | inl same ↦ absurd (none (subst (λ (n : List ℕ). Contains (first ∷ list) n) (sym (same_name name first same)) (Contains_first first list)))
      | inr other ↦ ap (λ (b : Bool). cond b bit (bit_of list bits name)) other ∙ bit_absent list bits name (λ c. none (Contains_later first name list c))
    ]

-- the bit at a name's place is the name's
pub bit_there : (list : List (List ℕ)) (bits : List Bool) (k : ℕ) (name : List ℕ) → map (bit_of list bits) list ≡ bits → slice_get list k ≡ Some name → slice_get bits k ≡ Some (bit_of list bits name)
bit_there list bits k name valued at =
    ap (λ l. slice_get l k) (sym valued) ∙ slice_get-map (bit_of list bits) list k ∙ ap (option_map (bit_of list bits)) at

-- the values that a consistent map has at an input are reached there
pub filled_is_reached : (s : Solution) (x bits : List Bool) → IsJudged s → AreValuesAt s.out.now x bits → AreFilled s x bits
filled_is_reached s x bits is values =
    let f = s.problem.now.implementation in
    let p = s.patch.now in
    let v = map_of s bits in
    let splice = is.before 9 (omega arith) in
    record {
      valued = values.valued;
      reached = (reached_maps_are_the_splices f p [] is.implementation is.patch is.fits x v).1 (record {
        values = v;
        consistent = subst (λ m. IsConsistent m v) splice values.consistent;
        input = sym (ap (λ (m : Circuit). map v m.inputs) splice) ∙ values.input;
        agrees = λ name among. refl;
      });
    }
