-- How the reader goes from line to line.
use Rattle.std.specs.Prelude.{◌≡◌, ◌⊎◌, ℕ, ◌+◌, ◌-◌, ◌^◌, ◌≤◌, ◌<◌, ◌==◌, Bool, not, List, [], ◌∷◌, ◌++◌, Option, Some, None, length, map, codes, decimal, IsTrue, if◌then◌else◌}
use Rattle.std.specs.List.{take_while, AllByRecursion}
use Rattle.eco_meaning.specs.Names.{is_name}
use Rattle.eco_meaning.specs.Bound.{Part, Bound}
use Rattle.eco_meaning.specs.Report.{BaseSignal, TargetGroup, Least, PatchReport}
use Rattle.eco_report.specs.Texts.{bit_digit}
use Rattle.eco_report.specs.Files.{word_text, IsFree, with_feeds}
use Rattle.eco_report.specs.declared.file.Word.{Word}
use Rattle.eco_report.specs.declared.file.ReportFile.TheVariants.{Unrectifiable, Budget}
use Rattle.eco_report.specs.declared.state.Open.{Open}
use Rattle.eco_report.specs.declared.state.OpenBound.{OpenBound}
use Rattle.eco_report.specs.declared.state.State.{State}
use Rattle.eco_report.specs.declared.state.State.TheVariants.{First, Input, Cost, Gates, Target, Base, Force1, Force0, Parts, PartForce1, PartForce0, Ending, Over}

-- how many bytes stand before the first such byte
abbrev pub run_before : ℕ → List ℕ → ℕ
run_before mark bytes = length (take_while (λ b. not (b == mark)) bytes)

-- the bytes before the first such byte, and those behind it
pub record IsCut (mark : ℕ) (bytes front back : List ℕ) : Type 0 where
  pub row : bytes ≡ front ++ mark ∷ back
  pub free : IsFree mark front

-- a word and a number of 64 bits
pub record IsNumbered (word line : List ℕ) (number : ℕ) : Type 0 where
  pub text : line ≡ word ++ decimal number
  pub limit : number < 2 ^ 64

-- a word, a name, a blank and a number of 64 bits
pub record IsNamed (word line name : List ℕ) (number : ℕ) : Type 0 where
  pub text : line ≡ word ++ (name ++ 32 ∷ decimal number)
  pub printing : IsTrue (is_name name)
  pub limit : number < 2 ^ 64

-- the name is this one, and the digits are this number
pub record IsPair (bytes digits name : List ℕ) (number : ℕ) : Type 0 where
  pub same : name ≡ bytes
  pub printing : IsTrue (is_name bytes)
  pub text : digits ≡ decimal number
  pub limit : number < 2 ^ 64

-- a base signal's name and weight
pub record IsBase (line name : List ℕ) (weight : ℕ) : Type 0 where
  pub named : IsNamed (codes "base ") line name weight
  pub limit : weight < 2 ^ 32

-- the kind of question is this one, and the digits are this limit
pub record IsSpent (bytes digits : List ℕ) (word : Word) (limit : ℕ) : Type 0 where
  pub kind : bytes ≡ word_text word
  pub text : digits ≡ decimal limit
  pub least : 1 ≤ limit
  pub most : limit < 2 ^ 32

-- a word, a kind of question, a blank and a limit
pub record IsBudget (before line : List ℕ) (word : Word) (limit : ℕ) : Type 0 where
  pub text : line ≡ before ++ (word_text word ++ 32 ∷ decimal limit)
  pub least : 1 ≤ limit
  pub most : limit < 2 ^ 32

-- a word and two numbers of 64 bits, parted by a blank
pub record IsNumbers (word line : List ℕ) (one other : ℕ) : Type 0 where
  pub text : line ≡ word ++ (decimal one ++ 32 ∷ decimal other)
  pub first : one < 2 ^ 64
  pub second : other < 2 ^ 64

-- the digits are these two numbers
pub record AreNumbers (digits more : List ℕ) (one other : ℕ) : Type 0 where
  pub left : digits ≡ decimal one
  pub right : more ≡ decimal other
  pub first : one < 2 ^ 64
  pub second : other < 2 ^ 64

-- a part's amount
pub record IsAmount (line : List ℕ) (amount : ℕ) : Type 0 where
  pub text : line ≡ codes "amount " ++ decimal amount
  pub least : 1 ≤ amount
  pub most : amount < 2 ^ 32

-- a word and bits
abbrev pub bits_line : List ℕ → List Bool → List ℕ
bits_line word bits = word ++ map bit_digit bits

-- the report with a target more
abbrev pub with_group : PatchReport → TargetGroup → PatchReport
with_group r g = record { cost = r.cost; gates = r.gates; groups = r.groups ++ g ∷ []; bound = r.bound; least = r.least }

-- the report with this bound
abbrev pub with_bound : PatchReport → Bound → PatchReport
with_bound r b = record { cost = r.cost; gates = r.gates; groups = r.groups; bound = Some b; least = r.least }

-- the report with what one more target costs at least
abbrev pub with_least : PatchReport → Least → PatchReport
with_least r l = record { cost = r.cost; gates = r.gates; groups = r.groups; bound = r.bound; least = r.least ++ l ∷ [] }

-- the target where no base signal of it is to come, else a part of it
abbrev pub next_state : Open → State
next_state o = if o.left == 0 then Target (with_group o.report o.group) else Base o

-- a base signal more
abbrev pub with_base : Open → BaseSignal → Open
with_base o b = record {
  report = o.report;
  group = record { target = o.group.target; base = o.group.base ++ b ∷ [] };
  left = o.left - 1;
}

-- the report with its bound where no part of it is to come, else a part of it
abbrev pub next_part : OpenBound → State
next_part o = if o.left == 0 then Ending (with_bound o.report o.bound) else Parts o

-- a part more
abbrev pub with_part : OpenBound → Part → OpenBound
with_part o p = record {
  report = o.report;
  bound = record { total = o.bound.total; parts = o.bound.parts ++ p ∷ [] };
  left = o.left - 1;
}

-- a target's line behind a report
abbrev pub NextGroup : PatchReport → List ℕ → State → Type 0
NextGroup report line next =
    (name : List ℕ) × (count : ℕ) × IsNamed (codes "target ") line name count
    × (next ≡ next_state (record { report = report; group = record { target = name; base = [] }; left = count }))

-- a bound's line behind a report
abbrev pub NextBound : PatchReport → List ℕ → State → Type 0
NextBound report line next =
    (total : ℕ) × (count : ℕ) × IsNumbers (codes "bound ") line total count
    × (next ≡ next_part (record { report = report; bound = record { total = total; parts = [] }; left = count }))

-- behind a report the line of what a target costs at least
abbrev pub NextLeast : PatchReport → List ℕ → State → Type 0
NextLeast report line next =
    (name : List ℕ) × (cost : ℕ) × IsNamed (codes "least ") line name cost
    × (next ≡ Ending (with_least report (record { target = name; cost = cost })))

-- either of the two
abbrev pub NextEnding : PatchReport → List ℕ → State → Type 0
NextEnding report line next = NextBound report line next ⊎ NextLeast report line next

-- a line behind which this is so where that was so before it
abbrev pub Next : State → List ℕ → State → Type 0
Next First line next =
    ((line ≡ codes "patched") × (next ≡ Cost))
    ⊎ (((line ≡ codes "unrectifiable") × (next ≡ Input))
    ⊎ ((word : Word) × (limit : ℕ) × IsBudget (codes "budget ") line word limit × (next ≡ Over (Budget word limit))))
Next Input line next = (bits : List Bool) × (line ≡ bits_line (codes "input ") bits) × (next ≡ Over (Unrectifiable bits))
Next Cost line next = (cost : ℕ) × IsNumbered (codes "cost ") line cost × (next ≡ Gates cost)
Next (Gates cost) line next =
    (gates : ℕ) × IsNumbered (codes "gates ") line gates
    × (next ≡ Target (record { cost = cost; gates = gates; groups = []; bound = None; least = [] }))
Next (Target report) line next = NextGroup report line next ⊎ NextEnding report line next
Next (Base o) line next =
    (name : List ℕ) × (weight : ℕ) × IsBase line name weight × (next ≡ Force1 o name weight)
Next (Force1 o name weight) line next =
    (bits : List Bool) × (line ≡ bits_line (codes "force1 ") bits) × (next ≡ Force0 o name weight bits)
Next (Force0 o name weight force1) line next =
    (bits : List Bool) × (line ≡ bits_line (codes "force0 ") bits)
    × (next ≡ next_state (with_base o (record { signal = name; weight = weight; force1 = force1; force0 = bits })))
Next (Parts o) line next = (amount : ℕ) × IsAmount line amount × (next ≡ PartForce1 o amount)
Next (PartForce1 o amount) line next =
    (bits : List Bool) × (line ≡ bits_line (codes "force1 ") bits) × (next ≡ PartForce0 o amount bits)
Next (PartForce0 o amount force1) line next =
    (bits : List Bool) × (line ≡ bits_line (codes "force0 ") bits)
    × (next ≡ next_part (with_part o (record { amount = amount; force1 = force1; force0 = bits })))
Next (Ending report) line next = NextLeast report line next
Next (Over file) line next = ⊥

-- what follows a line, or that it can't stand there
abbrev pub Steps : State → List ℕ → Option State → Type 0
Steps state line None = (next : State) → Next state line next → ⊥
Steps state line (Some next) = Next state line next

-- these lines lead from one to the other
abbrev pub Runs : State → List (List ℕ) → State → Type 0
Runs state [] last = state ≡ last
Runs state (line ∷ lines) last = (next : State) × Next state line next × Runs next lines last

-- the text's front, up to a line's end, is read, and so many lines are, one not counted
pub record IsReading (bytes rest : List ℕ) (number : ℕ) (state : State) : Type 0 where
  pub lines : List (List ℕ)
  pub cut : bytes ≡ with_feeds lines ++ rest
  pub whole : AllByRecursion (IsFree 10) lines
  pub counted : number ≡ length lines + 1
  pub run : Runs First lines state
