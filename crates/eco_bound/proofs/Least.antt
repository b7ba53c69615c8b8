-- No base costs less than a bound: each part is paid for by a signal that tells its inputs apart.
use Rattle.std.proofs.Common.{◌≡◌, ◌⊎◌, inl, inr, ℕ, ◌+◌, ◌≤◌, List, [], ◌∷◌, refl, sym, ◌∙◌, subst, arith}
use Rattle.std.specs.List.{All, Contains}
use Rattle.std.proofs.lemmas.List.Elements.{All-head, All-tail, All-contains}
use Rattle.std.proofs.lemmas.Option.{same_Some}
use Rattle.eco_lists.proofs.Members.{Contains_first, Contains_later, Contains_cases, Contains_none}
use Rattle.eco_meaning.specs.Circuit.{Circuit}
use Rattle.eco_meaning.specs.Meaning.{Goal}
use Rattle.eco_meaning.specs.Cost.{Weights, IsCandidate}
use Rattle.eco_meaning.specs.Choice.{Suffices}
use Rattle.eco_meaning.specs.Bound.{Part, IsAlikeAt, IsLoad, IsForcedPart, IsCarried, Weigh, amount_of}
use Rattle.eco_bound.specs.Laws.{BoundIsLeast, AnyPatchWillDo}

module _ (f p : Circuit) where
  -- the loads of these signals, one by one, sum up to this
  abbrev AreLoads : List Part → List (List ℕ) → ℕ → Type 0
  AreLoads parts [] sum = sum ≡ 0
  AreLoads parts (name ∷ list) sum =
      (load : ℕ) × (rest : ℕ) × IsLoad f p name parts load × AreLoads parts list rest × (sum ≡ load + rest)

  -- without the first part they are less by its amount, unless all signals have one value at its inputs
  without : (part : Part) (parts : List Part) (list : List (List ℕ)) (sum : ℕ) → AreLoads (part ∷ parts) list sum →
      (rest : ℕ) × AreLoads parts list rest
      × ((part.amount + rest ≤ sum) ⊎ ((sum ≡ rest) × ((name : List ℕ) → Contains list name → IsAlikeAt f p name part)))
  without part parts [] sum none = (0, refl, inr (none, λ name c. absurd (Contains_none name c)))
  without part parts (name ∷ list) sum (load, others, (less, is_less, told), loads, same) =
      let (rest, are, more) = without part parts list others loads in (
        less + rest,
        (less, rest, is_less, are, refl),
        elim told [
          | inl apart ↦ elim more [
            | inl above ↦ inl (omega (arith, above, apart.1, same))
            | inr alike ↦ inl (omega (arith, alike.0, apart.1, same))
          ]
          | inr alike ↦ elim more [
            | inl above ↦ inl (omega (arith, above, alike.1, same))
            | inr all ↦ inr (
              omega (arith, all.0, alike.1, same),
              λ other c. elim (Contains_cases name other list c) [
                | inl here ↦ subst (λ n. IsAlikeAt f p n part) here alike.0
                | inr later ↦ all.1 other later
              ],
            )
          ]
        ],
      )

  -- signals that suffice carry all amounts
  carry_all : (goal : Goal) (target : List ℕ) (list : List (List ℕ)) → Suffices f goal p [] target (Contains list) →
      (parts : List Part) (sum : ℕ) → All (IsForcedPart f goal p target) parts → AreLoads parts list sum → amount_of parts ≤ sum
  carry_all goal target list enough [] sum forced loads = omega arith
  carry_all goal target list enough (part ∷ parts) sum forced loads =
      let (rest, are, more) = without part parts list sum loads in
      let below = carry_all goal target list enough parts rest (All-tail (IsForcedPart f goal p target) part parts forced) are in
      let here = All-head (IsForcedPart f goal p target) part parts forced in
      elim more [
        | inl above ↦ omega (arith, above, below)
        | inr alike ↦ absurd (enough part.force1 part.force0 record {
          one = here.one;
          zero = here.zero;
          alike = λ v u at_x at_y name c. alike.1 name c v u at_x at_y;
        })
      ]

  -- signals that carry no more than they weigh have loads
  have_loads : (w : Weights) (input_weight : ℕ) (parts : List Part) (list : List (List ℕ)) (sum : ℕ) →
      ((name : List ℕ) → Contains list name → IsCarried f w input_weight p parts name) → Weigh f w input_weight list sum →
      (loads : ℕ) × AreLoads parts list loads × (loads ≤ sum)
  have_loads w input_weight parts [] sum carried none = (0, refl, omega arith)
  have_loads w input_weight parts (name ∷ list) sum carried (weight, others, weighs, weigh, same) =
      let (rest, are, within) = have_loads w input_weight parts list others (λ other c. carried other (Contains_later name other list c)) weigh in
      let here = carried name (Contains_first name list) in
      let one : here.weight ≡ weight = same_Some here.weight weight (sym here.weighs ∙ weighs) in
      let carries = here.within in
      (here.load + rest, (here.load, rest, here.sum, are, refl), omega (arith, within, one, carries, same))

pub bound_is_least : BoundIsLeast
bound_is_least f goal w input_weight p target bound is signals sum candidates enough weigh =
    let (loads, are, within) = have_loads f p w input_weight bound.parts signals sum (λ name c. is.carried name (All-contains (IsCandidate f w input_weight []) signals name candidates c)) weigh in
    let total = is.total in
    let all = carry_all f p goal target signals enough bound.parts loads is.forced are in
    omega (arith, total, all, within)

pub any_patch_will_do : AnyPatchWillDo
any_patch_will_do f p q takes_p takes_q x v = (
  λ reached. record {
    consistent = reached.consistent;
    input = reached.input;
    follows = let o = takes_q v in (o.0, o.1, o.2, λ name c. absurd (Contains_none name c));
  },
  λ reached. record {
    consistent = reached.consistent;
    input = reached.input;
    follows = let o = takes_p v in (o.0, o.1, o.2, λ name c. absurd (Contains_none name c));
  },
)
