-- The nets of lines: their targets and wires, of which no two have one name.
use Rattle.std.proofs.Common.{◌≡◌, ℕ, zero, suc, ◌+◌, ◌^◌, ◌<◌, ◌≤◌, ◌⊎◌, inl, inr, List, [], ◌∷◌, Option, None, Some, length, refl, sym, ◌∙◌, ap, subst, arith}
use Rattle.std.specs.List.{Contains, IsDistinct, slice_get}
use Rattle.std.specs.Str.{bytes_eq}
use Rattle.std.proofs.lemmas.Bool.{cases_eq}
use Rattle.std.proofs.lemmas.Option.{none-some, same_Some, slice_get-get_or}
use Rattle.eco_lists.proofs.Members.{Contains_first, Contains_later, Contains_cases, Contains_none}
use Rattle.eco_lists.proofs.Places.{Contains_at}
use Rattle.eco_netlist.specs.Netlists.{name_at}
use Rattle.eco_netlist.proofs.NameLemmas.{one_place}
use Rattle.eco_netlist.proofs.NameSets.{distinct_none, distinct_from_new}
use Rattle.eco_text.specs.Prefix.{numbered}
use Rattle.eco_text.proofs.NumberedNames.{numbered-injective}
use Rattle.eco_splice.specs.declared.line.Line.{Line}
use Rattle.eco_splice.specs.LineGates.{own_wires, wire_count, out_name, outs_from}

-- what the nets of lines need: targets by their numbers, each for one line, and wires that aren't targets
pub record AreNamed (prefix : List ℕ) (targets : List (List ℕ)) (lines : List Line) : Type 0 where
  pub within : (k : ℕ) (line : Line) (i : ℕ) → slice_get lines k ≡ Some line → line.target ≡ Some i → i < length targets
  pub once : (k j : ℕ) (line other : Line) (i : ℕ) → slice_get lines k ≡ Some line → slice_get lines j ≡ Some other →
      line.target ≡ Some i → other.target ≡ Some i → k ≡ j
  pub distinct : IsDistinct bytes_eq targets
  pub apart : (number : ℕ) → Contains targets (numbered prefix number) → ⊥

named_rest : (prefix : List ℕ) (targets : List (List ℕ)) (line : Line) (lines : List Line) → AreNamed prefix targets (line ∷ lines) → AreNamed prefix targets lines
named_rest prefix targets line lines are = record {
  within = λ k x i at is. are.within (suc k) x i at is;
  once = λ k j x y i at_k at_j is_x is_y. let same = are.once (suc k) (suc j) x y i at_k at_j is_x is_y in omega arith;
  distinct = are.distinct;
  apart = are.apart;
}

-- the name of a target
pub target_at : (targets : List (List ℕ)) (i : ℕ) → i < length targets → slice_get targets i ≡ Some (name_at targets i)
target_at targets i lt = slice_get-get_or targets i [] lt

-- there are as many nets as lines
pub length-outs : (prefix : List ℕ) (targets : List (List ℕ)) (first : ℕ) (lines : List Line) → length (outs_from prefix targets first lines) ≡ length lines
length-outs prefix targets first [] = refl
length-outs prefix targets first (line ∷ lines) = ap suc (length-outs prefix targets (first + own_wires line.target) lines)

-- the net of a line of a target
pub out_target : (prefix : List ℕ) (targets : List (List ℕ)) (first : ℕ) (lines : List Line) (k : ℕ) (line : Line) (i : ℕ) → slice_get lines k ≡ Some line → line.target ≡ Some i → slice_get (outs_from prefix targets first lines) k ≡ Some (name_at targets i)
out_target prefix targets first [] k line i at is = absurd (none-some line at)
out_target prefix targets first (x ∷ lines) zero line i at is =
    ap (λ (t : Option ℕ). Some (out_name prefix targets first t)) (ap (λ (l : Line). l.target) (same_Some x line at) ∙ is)
out_target prefix targets first (x ∷ lines) (suc k) line i at is = out_target prefix targets (first + own_wires x.target) lines k line i at is

-- a line of the target of this name
pub record IsTargetOut (targets : List (List ℕ)) (lines : List Line) (name : List ℕ) : Type 0 where
  pub place : ℕ
  pub line : Line
  pub target : ℕ
  pub at : slice_get lines place ≡ Some line
  pub is : line.target ≡ Some target
  pub same : name_at targets target ≡ name

-- the number of a wire of this name
pub record IsWireOut (prefix : List ℕ) (first count : ℕ) (name : List ℕ) : Type 0 where
  pub number : ℕ
  pub low : first ≤ number
  pub high : number < first + count
  pub same : numbered prefix number ≡ name

abbrev pub IsOutOf : List ℕ → List (List ℕ) → ℕ → List Line → List ℕ → Type 0
IsOutOf prefix targets first lines name = IsTargetOut targets lines name ⊎ IsWireOut prefix first (wire_count lines) name

-- each net of a line is a target or a wire
pub out_cases : (prefix : List ℕ) (targets : List (List ℕ)) (first : ℕ) (lines : List Line) (name : List ℕ) → Contains (outs_from prefix targets first lines) name → IsOutOf prefix targets first lines name
out_cases prefix targets first [] name c = absurd (Contains_none name c)
out_cases prefix targets first (line ∷ lines) name c =
    elim (Contains_cases (out_name prefix targets first line.target) name (outs_from prefix targets (first + own_wires line.target) lines) c) [
      | inl same ↦ first_out line.target refl same
      | inr later ↦ elim (out_cases prefix targets (first + own_wires line.target) lines name later) [
        | inl found ↦ inl (record { place = suc found.place; line = found.line; target = found.target; at = found.at; is = found.is; same = found.same })
        | inr found ↦
            let low = found.low in
            let high = found.high in
            inr (record { number = found.number; low = omega (arith, low); high = omega (arith, high); same = found.same })
      ]
    ]
  where
    first_out : (t : Option ℕ) → line.target ≡ t → out_name prefix targets first t ≡ name → IsOutOf prefix targets first (line ∷ lines) name
    first_out None is same =
        let one : own_wires line.target ≡ 1 = ap own_wires is in
        inr (record { number = first; low = omega arith; high = omega (arith, one); same = same })
    first_out (Some i) is same = inl (record { place = 0; line = line; target = i; at = refl; is = is; same = same })

-- each wire is the net of a line
pub wire_out : (prefix : List ℕ) (targets : List (List ℕ)) (first : ℕ) (lines : List Line) (number : ℕ) → first ≤ number → number < first + wire_count lines → Contains (outs_from prefix targets first lines) (numbered prefix number)
wire_out prefix targets first [] number low high = absurd (omega arith)
wire_out prefix targets first (line ∷ lines) number low high =
    elim line.target as (λ t. line.target ≡ t → Contains (out_name prefix targets first t ∷ outs_from prefix targets (first + own_wires t) lines) (numbered prefix number)) [
      | None ↦ λ is.
          let one : own_wires line.target ≡ 1 = ap own_wires is in
          let rest = outs_from prefix targets (first + 1) lines in
          elim (cases_eq first number) [
            | inl same ↦ subst (λ (n : ℕ). Contains (numbered prefix first ∷ rest) (numbered prefix n)) same (Contains_first (numbered prefix first) rest)
            | inr apart ↦ Contains_later (numbered prefix first) (numbered prefix number) rest (wire_out prefix targets (first + 1) lines number (omega (arith, low, apart)) (omega (arith, one, high)))
          ]
      | Some i ↦ λ is.
          let none : own_wires line.target ≡ 0 = ap own_wires is in
          let rest = outs_from prefix targets (first + 0) lines in
          Contains_later (name_at targets i) (numbered prefix number) rest (wire_out prefix targets (first + 0) lines number (omega (arith, low)) (omega (arith, none, high)))
    ] refl

-- no two lines have one net
named_target : (prefix : List ℕ) (targets : List (List ℕ)) (lines : List Line) (name : List ℕ) → AreNamed prefix targets lines → IsTargetOut targets lines name → Contains targets name
named_target prefix targets lines name are out =
    Contains_at targets out.target name (target_at targets out.target (are.within out.place out.line out.target out.at out.is) ∙ ap Some out.same)

new_out : (prefix : List ℕ) (targets : List (List ℕ)) (first : ℕ) (line : Line) (lines : List Line) (t : Option ℕ) → line.target ≡ t → AreNamed prefix targets (line ∷ lines) → first + own_wires t + wire_count lines ≤ 2 ^ 64 → IsOutOf prefix targets (first + own_wires t) lines (out_name prefix targets first t) → ⊥
new_out prefix targets first line lines None is are small (inl out) =
    are.apart first (named_target prefix targets lines (numbered prefix first) (named_rest prefix targets line lines are) out)
new_out prefix targets first line lines None is are small (inr wire) =
    let low = wire.low in
    let high = wire.high in
    let same = numbered-injective prefix wire.number first (omega (arith, high, small)) (omega (arith, small)) wire.same in
    omega (arith, low, same)
new_out prefix targets first line lines (Some i) is are small (inl out) =
    let rest = named_rest prefix targets line lines are in
    let at = target_at targets out.target (rest.within out.place out.line out.target out.at out.is) ∙ ap Some out.same in
    let own = target_at targets i (are.within 0 line i refl is) in
    let target = one_place targets out.target i (name_at targets i) are.distinct at own in
    let same = are.once (suc out.place) 0 out.line line i out.at refl (out.is ∙ ap Some target) is in
    omega (arith, same)
new_out prefix targets first line lines (Some i) is are small (inr wire) =
    let own = Contains_at targets i (name_at targets i) (target_at targets i (are.within 0 line i refl is)) in
    are.apart wire.number (subst (λ (n : List ℕ). Contains targets n) (sym wire.same) own)

pub distinct_outs : (prefix : List ℕ) (targets : List (List ℕ)) (first : ℕ) (lines : List Line) → AreNamed prefix targets lines → first + wire_count lines ≤ 2 ^ 64 → IsDistinct bytes_eq (outs_from prefix targets first lines)
distinct_outs prefix targets first [] are small = distinct_none
distinct_outs prefix targets first (line ∷ lines) are small =
    let rest = outs_from prefix targets (first + own_wires line.target) lines in
    distinct_from_new (out_name prefix targets first line.target) rest
    (λ c. new_out prefix targets first line lines line.target refl are (omega (arith, small)) (out_cases prefix targets (first + own_wires line.target) lines (out_name prefix targets first line.target) c))
    (distinct_outs prefix targets (first + own_wires line.target) lines (named_rest prefix targets line lines are) (omega (arith, small)))
