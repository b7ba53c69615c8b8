-- What groups of signals list, and what these cost.
use Rattle.std.proofs.Common.{◌≡◌, ℕ, ◌+◌, ◌<◌, ◌≤◌, List, [], ◌∷◌, ◌++◌, length, get_or, take, drop, suc, ◌∙◌, ap, arith, length-append}
use Rattle.std.specs.List.{Contains}
use Rattle.std.proofs.Math.Seq.{split_at}
use Rattle.std.proofs.lemmas.Grind.{flat_map-append}
use Rattle.std.proofs.lemmas.List.{take_more, append-nil}
use Rattle.std.proofs.lemmas.List.Folds.{length-flat_map-take}
use Rattle.std.proofs.lemmas.List.Elements.{Contains-push}
use Rattle.eco_laws.proofs.Costs.{cost_append}
use Rattle.eco_lists.proofs.Members.{Contains-map, map-Contains}
use Rattle.eco_meaning.specs.Report.{BaseSignal, TargetGroup, base_in, signals_in, cost_of}
use Rattle.eco_netlist.proofs.Plainly.{Contains-flat_map}
use Rattle.eco_splice.proofs.WiredLemmas.{flat_member}

-- where a signal stands in the groups
pub record StandsIn (groups : List TargetGroup) (name : List ℕ) : Type 0 where
  pub before : List TargetGroup
  pub group : TargetGroup
  pub behind : List TargetGroup
  pub told : BaseSignal
  pub cut : groups ≡ before ++ group ∷ behind
  pub listed : Contains group.base told
  pub named : told.signal ≡ name

-- each signal stands in some group
pub stands_in : (groups : List TargetGroup) (name : List ℕ) → Contains (signals_in groups) name → StandsIn groups name
stands_in groups name c =
    let (told, somewhere, named) = map-Contains (λ (b : BaseSignal). b.signal) (base_in groups) name c in
    let (group, member, listed) = Contains-flat_map (λ (g : TargetGroup). g.base) groups told somewhere in
    record {
      before = take member.0 groups;
      group = group;
      behind = drop (suc member.0) groups;
      told = told;
      cut = split_at groups member.0 group member.1 ∙ ap (λ (g : TargetGroup). take member.0 groups ++ g ∷ drop (suc member.0) groups) member.2;
      listed = listed;
      named = named;
    }

-- a signal of the last group
pub signal_of_last : (before : List TargetGroup) (group : TargetGroup) (told : BaseSignal) → Contains group.base told → Contains (signals_in (before ++ group ∷ [])) told.signal
signal_of_last before group told listed =
    Contains-map (λ (b : BaseSignal). b.signal) (base_in (before ++ group ∷ [])) told
    (flat_member (λ (g : TargetGroup). g.base) (before ++ group ∷ []) group told (Contains-push before group) listed)

-- the cost of one more signal
pub cost_more : (base : List BaseSignal) (i : ℕ) (d : BaseSignal) → i < length base → cost_of (take (i + 1) base) ≡ cost_of (take i base) + (get_or base i d).weight
cost_more base i d within =
    let last = cost_append (take i base) (get_or base i d ∷ []) in
    ap cost_of (take_more base i d within) ∙ omega (arith, last)

-- the signals of one more group
base_more : (groups : List TargetGroup) (i : ℕ) (d : TargetGroup) → i < length groups → base_in (take (i + 1) groups) ≡ base_in (take i groups) ++ (get_or groups i d).base
base_more groups i d within =
    ap base_in (take_more groups i d within) ∙ flat_map-append (λ (g : TargetGroup). g.base) (take i groups) (get_or groups i d ∷ [])
    ∙ ap (λ l. base_in (take i groups) ++ l) (append-nil (get_or groups i d).base)

-- the cost of one more group, and how many signals there are with it
pub group_more : (groups : List TargetGroup) (i : ℕ) (d : TargetGroup) → i < length groups → cost_of (base_in (take (i + 1) groups)) ≡ cost_of (base_in (take i groups)) + cost_of (get_or groups i d).base
group_more groups i d within = ap cost_of (base_more groups i d within) ∙ cost_append (base_in (take i groups)) (get_or groups i d).base

pub count_more : (groups : List TargetGroup) (i : ℕ) (d : TargetGroup) → i < length groups → length (base_in (take (i + 1) groups)) ≡ length (base_in (take i groups)) + length (get_or groups i d).base
count_more groups i d within = ap length (base_more groups i d within) ∙ length-append (base_in (take i groups)) (get_or groups i d).base

pub count_within : (groups : List TargetGroup) (i : ℕ) (d : TargetGroup) → i < length groups → length (base_in (take i groups)) + length (get_or groups i d).base ≤ length (base_in groups)
count_within groups i d within = length-flat_map-take (λ (g : TargetGroup). g.base) groups i d within
