-- What is reported group by group, and which list is split how.
use Rattle.std.proofs.Common.{◌≡◌, inl, inr, ℕ, zero, suc, ◌+◌, ◌<◌, ◌≤◌, Some, List, [], ◌∷◌, ◌++◌, length, take, drop, get_or, refl, sym, ◌∙◌, ap, subst, arith}
use Rattle.std.specs.List.{All, Contains, slice_get}
use Rattle.std.proofs.Math.Nat.{eq-or-lt_of_le}
use Rattle.std.proofs.Math.Seq.{split_at, take-append_seam}
use Rattle.std.proofs.lemmas.List.{map-append, length-map, length-take-le}
use Rattle.std.proofs.lemmas.Option.{slice_get-get_or, slice_get_within, get_or_from_slice_get, same_Some}
use Rattle.std.proofs.lemmas.Grind.{flat_map-append}
use Rattle.std.proofs.lemmas.List.Elements.{Contains-append_left, Contains-append_right}
use Rattle.eco_lists.proofs.Members.{Contains-map}
use Rattle.eco_lists.proofs.Places.{slice_get-back, place_in_front}
use Rattle.eco_meaning.specs.Circuit.{Circuit, AreTargets}
use Rattle.eco_meaning.specs.Patch.{OfTarget}
use Rattle.eco_meaning.specs.Report.{BaseSignal, TargetGroup, PatchReport, base_in, signals_in, targets_in, targets_of}
use Rattle.eco_query.specs.Problem.{HasTargetNumber}
use Rattle.eco_audit.specs.Checks.{AtGroup, AtOutput}
use Rattle.eco_audit.specs.Reported.{Saying, IsSaidOfAll, IsFirstWrong, IsFirstWrongOf}

-- a list is what stands before a place, its item there, and what stands behind it
pub cut_at : {X : Type 0} (list : List X) (k : ℕ) (x : X) → slice_get list k ≡ Some x → list ≡ take k list ++ x ∷ drop (suc k) list
cut_at list k x at =
    split_at list k x (slice_get_within list k x at) ∙ ap (λ y. take k list ++ y ∷ drop (suc k) list) (get_or_from_slice_get list k x x at)

-- what holds of each place holds of each split
pub by_places : {X : Type 0} (P : List X → X → Type 0) (list : List X) → ((k : ℕ) (x : X) → slice_get list k ≡ Some x → P (take k list) x) →
    (before : List X) (x : X) (behind : List X) → list ≡ before ++ x ∷ behind → P before x
by_places P list at before x behind split =
    let k = length before in
    let here : slice_get list k ≡ Some x = ap (λ l. slice_get l k) split ∙ slice_get-back before (x ∷ behind) k 0 (omega arith) in
    subst (λ l. P l x) (ap (take k) split ∙ take-append_seam before (x ∷ behind)) (at k x here)

-- the targets of the groups before one, its own, and those behind it
pub targets_cut : (groups : List TargetGroup) (k : ℕ) (group : TargetGroup) → slice_get groups k ≡ Some group → targets_in groups ≡ targets_in (take k groups) ++ group.target ∷ targets_in (drop (suc k) groups)
targets_cut groups k group at = ap targets_in (cut_at groups k group at) ∙ map-append (λ (g : TargetGroup). g.target) (take k groups) (group ∷ drop (suc k) groups)

-- each group is of a target
pub number_of_target : (f : Circuit) (r : PatchReport) (number : ℕ) → AreTargets f (targets_of r) → number < length r.groups → HasTargetNumber f number
number_of_target f r number are less =
    (length (targets_of r), (targets_of r, are, refl), omega (arith, less, length-map r.groups (λ (g : TargetGroup). g.target)))

-- what holds of the target of a number holds of the group of this number
pub of_group : (f : Circuit) (r : PatchReport) (number : ℕ) (P : List (List ℕ) → List ℕ → Type 0) → AreTargets f (targets_of r) → OfTarget f number P → AtGroup r number (λ before group. P (targets_in before) group.target)
of_group f r number P are of = λ group at.
    of (targets_in (take number r.groups)) group.target (targets_in (drop (suc number) r.groups)) (subst (AreTargets f) (targets_cut r.groups number group at) are)
    (length-map (take number r.groups) (λ (g : TargetGroup). g.target) ∙ length-take-le number r.groups (omega (arith, slice_get_within r.groups number group at)))

-- and where the outputs are the targets, of the output at this place
pub of_output : (f p : Circuit) (place : ℕ) (P : List (List ℕ) → List ℕ → Type 0) → AreTargets f p.outputs → OfTarget f place P → AtOutput p place P
of_output f p place P are of = λ target at.
    of (take place p.outputs) target (drop (suc place) p.outputs) (subst (AreTargets f) (cut_at p.outputs place target at) are)
    (length-take-le place p.outputs (omega (arith, slice_get_within p.outputs place target at)))

-- in each of the first groups all can be said
abbrev pub FirstSaid : Saying → List TargetGroup → ℕ → Type 0
FirstSaid Says groups number =
    (k : ℕ) (group : TargetGroup) → k < number → slice_get groups k ≡ Some group → All (Says (take k groups) group) group.base

-- of one group more
pub reported_more : (Says : Saying) (groups : List TargetGroup) (number : ℕ) (group : TargetGroup) → slice_get groups number ≡ Some group → FirstSaid Says groups number → All (Says (take number groups) group) group.base → FirstSaid Says groups (number + 1)
reported_more Says groups number group at first here k other less at_k =
    let most : k ≤ number = omega (arith, less) in
    elim (eq-or-lt_of_le most) [
      | inl same ↦
          let one : other ≡ group = same_Some other group (sym at_k ∙ ap (slice_get groups) same ∙ at) in
          subst (λ j. All (Says (take j groups) other) other.base) (sym same) (subst (λ (g : TargetGroup). All (Says (take number groups) g) g.base) (sym one) here)
      | inr below ↦ first k other below at_k
    ]

-- the front of a longer front
take_front : {X : Type 0} (n k : ℕ) (l : List X) → k ≤ n → take k (take n l) ≡ take k l
take_front n zero l less = refl
take_front zero (suc k) l less = absurd (omega (arith, less))
take_front (suc n) (suc k) [] less = refl
take_front (suc n) (suc k) (x ∷ l) less = ap (λ t. x ∷ t) (take_front n k l (omega (arith, less)))

-- so of all that the first groups tell
pub all_of_first : (Says : Saying) (groups : List TargetGroup) (number : ℕ) → FirstSaid Says groups number → IsSaidOfAll Says (take number groups)
all_of_first Says groups number first =
    by_places (λ before group. All (Says before group) group.base) (take number groups) (λ k group at.
    let (less, there) = place_in_front number groups k group at in
    subst (λ (l : List TargetGroup). All (Says l group) group.base) (sym (take_front number k groups (omega (arith, less)))) (first k group less there))

-- and of all groups
pub all_reported : (Says : Saying) (groups : List TargetGroup) (number : ℕ) → length groups ≤ number → FirstSaid Says groups number → IsSaidOfAll Says groups
all_reported Says groups number all first =
    by_places (λ before group. All (Says before group) group.base) groups (λ k group at.
    first k group (omega (arith, all, slice_get_within groups k group at)) at)

-- the first group that tells a wrong signal tells the first one
pub first_in_group : (Says : Saying) (groups : List TargetGroup) (number : ℕ) (group : TargetGroup) (name : List ℕ) → slice_get groups number ≡ Some group → FirstSaid Says groups number →
    IsFirstWrongOf (Says (take number groups) group) group.base name → IsFirstWrong Says groups name
first_in_group Says groups number group name at first wrong = record {
  before = take number groups;
  group = group;
  behind = drop (suc number) groups;
  split = cut_at groups number group at;
  wrong = wrong;
  first = all_of_first Says groups number first;
}

-- the item that is read at a place
pub same_item : {X : Type 0} (list : List X) (k : ℕ) (x y : X) → x ≡ get_or list k x → slice_get list k ≡ Some y → x ≡ y
same_item list k x y is at = is ∙ get_or_from_slice_get list k y x at

pub item_there : {X : Type 0} (list : List X) (k : ℕ) (x : X) → x ≡ get_or list k x → k < length list → slice_get list k ≡ Some x
item_there list k x is less = slice_get-get_or list k x less ∙ ap Some (sym is)

-- what a group tells is reported
pub base_reported : (groups : List TargetGroup) (k : ℕ) (group : TargetGroup) (reported : BaseSignal) → slice_get groups k ≡ Some group → Contains group.base reported → Contains (base_in groups) reported
base_reported groups k group reported at listed =
    let base = λ (g : TargetGroup). g.base in
    let front = take k groups in
    let back = drop (suc k) groups in
    let whole : base_in groups ≡ base_in front ++ (group.base ++ base_in back) = ap base_in (cut_at groups k group at) ∙ flat_map-append base front (group ∷ back) in
    subst (λ (l : List BaseSignal). Contains l reported) (sym whole)
    (Contains-append_right (base_in front) (group.base ++ base_in back) reported (Contains-append_left group.base (base_in back) reported listed))

pub signal_reported : (groups : List TargetGroup) (k : ℕ) (group : TargetGroup) (reported : BaseSignal) → slice_get groups k ≡ Some group → Contains group.base reported → Contains (signals_in groups) reported.signal
signal_reported groups k group reported at listed = Contains-map (λ (b : BaseSignal). b.signal) (base_in groups) reported (base_reported groups k group reported at listed)
