-- The lines of a report, and those that stand before a state.
use Rattle.std.specs.Prelude.{◌≡◌, ℕ, ◌+◌, ◌^◌, ◌≤◌, ◌<◌, List, [], ◌∷◌, ◌++◌, Option, Some, None, length, codes, decimal, IsTrue}
use Rattle.std.specs.List.{flat_map, AllByRecursion}
use Rattle.eco_meaning.specs.Names.{is_name}
use Rattle.eco_meaning.specs.Bound.{Part, Bound}
use Rattle.eco_meaning.specs.Report.{BaseSignal, TargetGroup, Least, PatchReport}
use Rattle.eco_report.specs.Files.{word_text, IsBaseSignal, IsBoundPart, IsPatchReport, IsReport}
use Rattle.eco_report.specs.Reading.{bits_line}
use Rattle.eco_report.specs.declared.file.ReportFile.{ReportFile}
use Rattle.eco_report.specs.declared.file.ReportFile.TheVariants.{Patched, Unrectifiable, Budget}
use Rattle.eco_report.specs.declared.state.Open.{Open}
use Rattle.eco_report.specs.declared.state.OpenBound.{OpenBound}
use Rattle.eco_report.specs.declared.state.State.{State}
use Rattle.eco_report.specs.declared.state.State.TheVariants.{First, Input, Cost, Gates, Target, Base, Force1, Force0, Parts, PartForce1, PartForce0, Ending, Over}

-- a word, a name, a blank and a number
abbrev pub named_line : List ℕ → List ℕ → ℕ → List ℕ
named_line word name number = word ++ (name ++ 32 ∷ decimal number)

abbrev pub base_lines : BaseSignal → List (List ℕ)
base_lines b =
    named_line (codes "base ") b.signal b.weight ∷ bits_line (codes "force1 ") b.force1
    ∷ bits_line (codes "force0 ") b.force0 ∷ []

abbrev pub group_lines : TargetGroup → List (List ℕ)
group_lines g = named_line (codes "target ") g.target (length g.base) ∷ flat_map base_lines g.base

-- the lines up to the last target's
abbrev pub front_lines : PatchReport → List (List ℕ)
front_lines r =
    codes "patched" ∷ (codes "cost " ++ decimal r.cost) ∷ (codes "gates " ++ decimal r.gates)
    ∷ flat_map group_lines r.groups

abbrev pub part_lines : Part → List (List ℕ)
part_lines p =
    (codes "amount " ++ decimal p.amount) ∷ bits_line (codes "force1 ") p.force1 ∷ bits_line (codes "force0 ") p.force0 ∷ []

abbrev pub bound_lines : Option Bound → List (List ℕ)
bound_lines None = []
bound_lines (Some b) = named_line (codes "bound ") (decimal b.total) (length b.parts) ∷ flat_map part_lines b.parts

abbrev pub least_lines : Least → List (List ℕ)
least_lines l = named_line (codes "least ") l.target l.cost ∷ []

abbrev pub patch_lines : PatchReport → List (List ℕ)
patch_lines r = front_lines r ++ (bound_lines r.bound ++ flat_map least_lines r.least)

-- the lines of a report
abbrev pub file_lines : ReportFile → List (List ℕ)
file_lines (Patched r) = patch_lines r
file_lines (Unrectifiable input) = codes "unrectifiable" ∷ bits_line (codes "input ") input ∷ []
file_lines (Budget word limit) = (codes "budget " ++ (word_text word ++ 32 ∷ decimal limit)) ∷ []

-- the lines of a target's part
abbrev pub open_lines : Open → List (List ℕ)
open_lines o =
    front_lines o.report
    ++ named_line (codes "target ") o.group.target (length o.group.base + o.left) ∷ flat_map base_lines o.group.base

-- the lines of a bound's part
abbrev pub open_bound_lines : OpenBound → List (List ℕ)
open_bound_lines o =
    front_lines o.report
    ++ named_line (codes "bound ") (decimal o.bound.total) (length o.bound.parts + o.left) ∷ flat_map part_lines o.bound.parts

-- the lines that were read
abbrev pub lines_before : State → List (List ℕ)
lines_before First = []
lines_before Input = codes "unrectifiable" ∷ []
lines_before Cost = codes "patched" ∷ []
lines_before (Gates cost) = codes "patched" ∷ (codes "cost " ++ decimal cost) ∷ []
lines_before (Target r) = front_lines r
lines_before (Base o) = open_lines o
lines_before (Force1 o name weight) = open_lines o ++ named_line (codes "base ") name weight ∷ []
lines_before (Force0 o name weight force1) =
    open_lines o ++ named_line (codes "base ") name weight ∷ bits_line (codes "force1 ") force1 ∷ []
lines_before (Parts o) = open_bound_lines o
lines_before (PartForce1 o amount) = open_bound_lines o ++ (codes "amount " ++ decimal amount) ∷ []
lines_before (PartForce0 o amount force1) =
    open_bound_lines o ++ (codes "amount " ++ decimal amount) ∷ bits_line (codes "force1 ") force1 ∷ []
lines_before (Ending r) = patch_lines r
lines_before (Over file) = file_lines file

-- a report of which nothing behind the targets is read
pub record IsBare (r : PatchReport) : Type 0 where
  pub bound : r.bound ≡ None
  pub least : r.least ≡ []

-- a target's part that can be gone on with
pub record IsOpen (o : Open) : Type 0 where
  pub before : IsPatchReport o.report
  pub bare : IsBare o.report
  pub name : IsTrue (is_name o.group.target)
  pub count : length o.group.base + o.left < 2 ^ 64
  pub base : AllByRecursion IsBaseSignal o.group.base

-- a base signal's front
pub record IsHalf (o : Open) (signal : List ℕ) (weight : ℕ) : Type 0 where
  pub part : IsOpen o
  pub some : 1 ≤ o.left
  pub name : IsTrue (is_name signal)
  pub limit : weight < 2 ^ 32

-- a bound's part that can be gone on with
pub record IsOpenBound (o : OpenBound) : Type 0 where
  pub before : IsPatchReport o.report
  pub bare : IsBare o.report
  pub total : o.bound.total < 2 ^ 64
  pub count : length o.bound.parts + o.left < 2 ^ 64
  pub parts : AllByRecursion IsBoundPart o.bound.parts

-- the front of a part of it
pub record IsHalfPart (o : OpenBound) (amount : ℕ) : Type 0 where
  pub part : IsOpenBound o
  pub some : 1 ≤ o.left
  pub least : 1 ≤ amount
  pub most : amount < 2 ^ 32

-- what was read can be gone on with
abbrev pub IsSound : State → Type 0
IsSound First = Unit {0}
IsSound Input = Unit {0}
IsSound Cost = Unit {0}
IsSound (Gates cost) = cost < 2 ^ 64
IsSound (Target r) = IsPatchReport r × IsBare r
IsSound (Base o) = IsOpen o × (1 ≤ o.left)
IsSound (Force1 o name weight) = IsHalf o name weight
IsSound (Force0 o name weight force1) = IsHalf o name weight
IsSound (Parts o) = IsOpenBound o × (1 ≤ o.left)
IsSound (PartForce1 o amount) = IsHalfPart o amount
IsSound (PartForce0 o amount force1) = IsHalfPart o amount
IsSound (Ending r) = IsPatchReport r
IsSound (Over file) = IsReport file
