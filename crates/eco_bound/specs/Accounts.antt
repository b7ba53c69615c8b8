-- The account on the way to a bound: the parts so far, and what the candidates carry of them.
use Rattle.std.specs.Prelude.{◌≡◌, ℕ, ◌+◌, ◌*◌, ◌≤◌, ◌==◌, Bool, true, false, List, [], ◌∷◌, ◌++◌, Option, Some, IsSome, if◌then◌else◌, length, map, filter, All, Contains, unwrap_or}
use Rattle.eco_meaning.specs.Circuit.{Circuit, names, AreTargets}
use Rattle.eco_meaning.specs.Cost.{Weights, weight_of, AreTurns}
use Rattle.eco_meaning.specs.Choice.{IsForced, IsConflict}
use Rattle.eco_meaning.specs.Bound.{Part, TellsApart, IsLoad, IsForcedPart, IsUsedUp, amount_of}
use Rattle.eco_gates.specs.declared.gate.NetId.{NetId}
use Rattle.eco_netlist.specs.Netlists.{AreNets, name_at, names_at}
use Rattle.eco_netlist.specs.Values.{AreValuesAt}
use Rattle.eco_query.specs.Problem.{ProblemValue}
use Rattle.eco_laws.specs.Kept.{TakesAnyInputs}
use Rattle.eco_bound.specs.declared.payers.Payer.{Payer}
use Rattle.eco_bound.specs.declared.payers.Sight.{Sight}
use Rattle.eco_bound.specs.declared.account.Account.{Account}
use Rattle.eco_bound.specs.Payers.{is_spent, lowered_by, net_of}

-- 1 where there is some, else 0
abbrev pub one_if_some : ℕ → ℕ
one_if_some left = if left == 0 then 0 else 1

-- how many of the candidates have weight left
abbrev pub some_left : List Payer → ℕ
some_left [] = 0
some_left (payer ∷ payers) = one_if_some payer.left + some_left payers

-- a candidate's name
abbrev pub payer_name : Circuit → Payer → List ℕ
payer_name f payer = name_at (names f) payer.net.0

-- the names of those that have nothing left
abbrev pub spent_names : Circuit → List Payer → List (List ℕ)
spent_names f payers = names_at (names f) (map net_of (filter is_spent payers))

-- they are the candidates before any target has a function, each once
pub record ArePayers (f : Circuit) (w : Weights) (input_weight : ℕ) (payers : List Payer) : Type 0 where
  pub nets : AreNets (names f) (map net_of payers)
  pub turns : AreTurns f w input_weight [] [] (names_at (names f) (map net_of payers))

-- the candidate carries its load of the parts, and this is left of its weight
pub record HasLeft (f : Circuit) (w : Weights) (input_weight : ℕ) (p : Circuit) (parts : List Part) (payer : Payer) : Type 0 where
  pub weight : ℕ
  pub weighs : weight_of f w input_weight (payer_name f payer) ≡ Some weight
  pub load : ℕ
  pub sum : IsLoad f p (payer_name f payer) parts load
  pub rest : load + payer.left ≡ weight

-- each part uses a candidate up, beside those before it
abbrev pub UseUp : Circuit → Weights → ℕ → Circuit → List Part → Type 0
UseUp f w input_weight p parts =
    (before : List Part) (part : Part) (behind : List Part) → parts ≡ before ++ part ∷ behind →
    (name : List ℕ) × TellsApart f p name part × IsUsedUp f w input_weight p (before ++ part ∷ []) name

-- the parts force the single target, candidates have left what they don't carry, and each part uses one up
pub record IsPaid (problem : ProblemValue) (p : Circuit) (parts : List Part) (payers : List Payer) : Type 0 where
  pub forced : (target : List ℕ) → AreTargets problem.implementation (target ∷ []) → All (IsForcedPart problem.implementation problem.goal p target) parts
  pub left : All (HasLeft problem.implementation problem.weights problem.input_weight p parts) payers
  pub use_up : UseUp problem.implementation problem.weights problem.input_weight p parts

-- the account is one of the problem, whatever netlist stands for the patch
pub record IsAccount (problem : ProblemValue) (account : Account) : Type 0 where
  pub payers : ArePayers problem.implementation problem.weights problem.input_weight account.payers.items
  pub count : length account.parts.items + some_left account.payers.items ≤ length account.payers.items
  pub total : account.total ≡ amount_of account.parts.items
  pub few : account.total ≤ length account.parts.items * 4294967295
  pub some : All (λ part. 1 ≤ part.amount) account.parts.items
  pub paid : (p : Circuit) → TakesAnyInputs p → IsPaid problem p account.parts.items account.payers.items

-- the values of all nets at the two inputs
pub record IsSight (f : Circuit) (one zero : List Bool) (sight : Sight) : Type 0 where
  pub ones : AreValuesAt f one sight.ones.items
  pub zeros : AreValuesAt f zero sight.zeros.items

-- the first input forces the single target to 1 and the second to 0, whatever netlist stands for the patch
pub record AreForcing (problem : ProblemValue) (one zero : List Bool) : Type 0 where
  pub len_one : length one ≡ length problem.implementation.inputs
  pub len_zero : length zero ≡ length problem.implementation.inputs
  pub forced : (p : Circuit) → TakesAnyInputs p → (target : List ℕ) → AreTargets problem.implementation (target ∷ []) →
      IsForced problem.implementation problem.goal p [] target one true × IsForced problem.implementation problem.goal p [] target zero false

-- the inputs show that the candidates which have nothing left don't suffice
pub record ShowsSpent (problem : ProblemValue) (payers : List Payer) (one zero : List Bool) : Type 0 where
  pub p : Circuit
  pub takes : TakesAnyInputs p
  pub target : List ℕ
  pub conflict : IsConflict problem.implementation problem.goal p [] target (Contains (spent_names problem.implementation payers)) one zero

-- one part more, for which those pay that tell its inputs apart
pub record HasPart (sight : Sight) (part : Part) (old new : Account) : Type 0 where
  pub parts : new.parts.items ≡ old.parts.items ++ part ∷ []
  pub total : new.total ≡ old.total + part.amount
  pub payers : new.payers.items ≡ map (lowered_by sight part.amount) old.payers.items

-- the weight of a net's name
abbrev pub weight_at : ProblemValue → NetId → Option ℕ
weight_at problem net = weight_of problem.implementation problem.weights problem.input_weight (name_at (names problem.implementation) net.0)

-- it has one
abbrev pub IsWeighted : ProblemValue → NetId → Type 0
IsWeighted problem net = IsSome (weight_at problem net)

-- the net with all of its weight left
abbrev pub full_payer : ProblemValue → NetId → Payer
full_payer problem net = record { net = net; left = unwrap_or (weight_at problem net) 0 }
