-- The check of nets that are to be cut together: what is printed of it, and what this means; and the netlist with nets cut, as it is
-- written.
use Rattle.std.specs.Prelude.{◌≡◌, ℕ, Bool, List, [], ◌∷◌, ◌++◌, map, length, codes, decimal}
use Rattle.eco_meaning.specs.Circuit.{Circuit}
use Rattle.eco_meaning.specs.Meaning.{IsRectifiable, IsWrong}
use Rattle.eco_netlist.specs.declared.draft.TargetRule.TheVariants.{Allowed}
use Rattle.eco_choices.specs.Choices.{IsWrongBut, IsChoice}
use Rattle.eco_cutting.specs.Cuts.{IsCut}
use Rattle.eco_query.specs.Problem.{IsProblem}
use Rattle.eco_pose.specs.declared.unfinished.Stuck.{Stuck}
use Rattle.eco_change.specs.Change.{ChangeValue}
use Rattle.eco_locate.specs.declared.choosing.Need.{Need}
use Rattle.eco_locate.specs.declared.choosing.Need.TheVariants.{Needed, Needless, Unknown}
use Rattle.eco_locate.specs.Chosen.{AreNeeds}
use Rattle.eco_locate.specs.Questions.{IsGivenUpOn}
use Rattle.eco_plain.specs.Plain.{IsGatesText}
use Rattle.eco_report.specs.Texts.{bit_digit, unrectifiable_text}
use Rattle.eco_words.specs.CommandLine.{LocateOptions}
use Rattle.eco_cli.specs.declared.answer.Answer.{Answer}
use Rattle.eco_cli.specs.Answers.{Write, code_of, writes_of}
use Rattle.eco_cli.specs.Printing.{budget_text}

-- ---- the netlist that is written

-- the bytes are read as the netlist with these nets cut, which is the implementation of a problem
pub record IsCutText (change : ChangeValue) (nets : List (List ℕ)) (bytes : List ℕ) (netlist : Circuit) : Type 0 where
  pub read : IsGatesText Allowed bytes netlist
  pub cut : IsCut change.old nets netlist
  pub problem : IsProblem netlist change.goal

-- the answer writes the bytes to the file of the options, and prints the text
abbrev pub IsWrittenAnswer : LocateOptions → List ℕ → List ℕ → Answer → Type 0
IsWrittenAnswer options bytes text answer =
    (code_of answer.status ≡ 0) × (writes_of answer ≡ record { path = options.cut; bytes = bytes } ∷ []) × (answer.text.items ≡ text)

-- it writes the text of the netlist with these nets cut
abbrev pub IsCutAnswer : LocateOptions → ChangeValue → List (List ℕ) → List ℕ → Answer → Type 0
IsCutAnswer options change nets text answer =
    (bytes : List ℕ) × (netlist : Circuit) × IsCutText change nets bytes netlist × IsWrittenAnswer options bytes text answer

-- ---- what is printed

-- `need NAME BITS`, `needless NAME` or `open NAME`
abbrev pub need_line : List ℕ → Need → List ℕ
need_line name (Needed input) = codes "need " ++ name ++ codes " " ++ map bit_digit input ++ codes "\n"
need_line name Needless = codes "needless " ++ name ++ codes "\n"
need_line name (Unknown stuck) = codes "open " ++ name ++ codes "\n"

-- a line for each net, in order
abbrev pub need_lines : List (List ℕ) → List Need → List ℕ
need_lines [] needs = []
need_lines (name ∷ names) [] = []
need_lines (name ∷ names) (need ∷ needs) = need_line name need ++ need_lines names needs

-- `choice COUNT`, and a line for each net
abbrev pub choice_text : List (List ℕ) → List Need → List ℕ
choice_text names needs = codes "choice " ++ decimal (length names) ++ codes "\n" ++ need_lines names needs

-- ---- what it means

-- Cutting the nets together suffices. For each of them an input is told at which the others can't help, or that they suffice
-- without it, or the question about it was given up. The nets are cut in the netlist as which the written bytes are read, and this
-- netlist can be rectified.
pub record IsChoiceCut (options : LocateOptions) (change : ChangeValue) (nets : List (List ℕ)) (writes : List Write) (text : List ℕ) : Type 0 where
  pub choice : IsChoice change.old change.goal nets
  pub needs : List Need
  pub needed : AreNeeds change.old change.goal options.budget nets (length nets) needs
  pub told : text ≡ choice_text nets needs
  pub bytes : List ℕ
  pub netlist : Circuit
  pub written : writes ≡ record { path = options.cut; bytes = bytes } ∷ []
  pub is_cut : IsCutText change nets bytes netlist
  pub rectifiable : IsRectifiable netlist change.goal

-- this input is wrong with the nets cut, whatever values they have, and the text tells it
pub record IsLeftWrong (change : ChangeValue) (nets : List (List ℕ)) (text : List ℕ) : Type 0 where
  pub input : List Bool
  pub wrong : IsWrong change.old change.goal input
  pub still : IsWrongBut change.old change.goal nets input
  pub told : text ≡ unrectifiable_text input

-- the question whether cutting the nets suffices was given up
pub record IsChoiceStuck (options : LocateOptions) (change : ChangeValue) (nets : List (List ℕ)) (stuck : Stuck) (text : List ℕ) : Type 0 where
  pub given_up : IsGivenUpOn change.old change.goal options.budget nets stuck
  pub told : text ≡ budget_text options.budget stuck
