-- What is printed of files that are no problem.
use Rattle.std.specs.Prelude.{ℕ, List, ◌++◌, codes, decimal}
use Rattle.std.specs.List.{flat_map}
use Rattle.eco_netlist.specs.declared.refusal.Refusal.{Refusal}
use Rattle.eco_netlist.specs.declared.refusal.Refusal.TheVariants as refusal
use Rattle.eco_inputs.specs.declared.error.PairMismatch.{PairMismatch}
use Rattle.eco_inputs.specs.declared.error.PairMismatch.TheVariants.{PortsDiffer, CareInputs, CareOutputs, NoTarget, TooManyTargets}
use Rattle.eco_inputs.specs.declared.error.InputError.{InputError}
use Rattle.eco_inputs.specs.declared.error.InputError.TheVariants.{InNetlist, InWeights, Unpaired}
use Rattle.eco_inputs.specs.declared.halt.FileError.{FileError}
use Rattle.eco_inputs.specs.declared.halt.FileError.TheVariants.{TooLong, Within}
use Rattle.eco_inputs.specs.declared.kinds.NetlistError.{NetlistError}
use Rattle.eco_inputs.specs.declared.kinds.NetlistError.TheVariants.{Syntax, Refused, Aiger}
use Rattle.eco_inputs.specs.declared.kinds.AigerTextError.{AigerTextError}
use Rattle.eco_inputs.specs.declared.kinds.AigerTextError.TheVariants as aiger
use Rattle.eco_inputs.specs.declared.kinds.WeightTextError.{WeightTextError}
use Rattle.eco_inputs.specs.declared.kinds.WeightTextError.TheVariants.{Line, Twice}
use Rattle.eco_inputs.specs.Paths.{option_name}

-- the word of a refusal, and its names
abbrev pub refusal_text : Refusal → List ℕ
refusal_text (refusal.DeclaredTwice name) = codes "declaredtwice " ++ name
refusal_text (refusal.PortUndeclared name) = codes "portundeclared " ++ name
refusal_text (refusal.NotAPort name) = codes "notaport " ++ name
refusal_text (refusal.InputDriven name) = codes "inputdriven " ++ name
refusal_text (refusal.DrivenTwice name) = codes "driventwice " ++ name
refusal_text (refusal.Undriven name) = codes "undriven " ++ name
refusal_text (refusal.Loop loop) = codes "loop" ++ flat_map (λ name. codes " " ++ name) loop

-- the word of an error of AIGER, and its line or variable
abbrev pub aiger_text : AigerTextError → List ℕ
aiger_text (aiger.Line number) = codes "aiger " ++ decimal number
aiger_text (aiger.DefinedTwice variable) = codes "definedtwice " ++ decimal variable
aiger_text (aiger.Undefined variable) = codes "undefined " ++ decimal variable

-- what is printed of an error of a netlist's file, behind the file's option
abbrev pub netlist_text : FileError NetlistError → List ℕ
netlist_text TooLong = codes "toolong"
netlist_text (Within (Syntax at)) = codes "syntax " ++ decimal at
netlist_text (Within (Refused why)) = refusal_text why
netlist_text (Within (Aiger error)) = aiger_text error

-- what is printed of an error of the weight file
abbrev pub weight_text : FileError WeightTextError → List ℕ
weight_text TooLong = codes "refused weight toolong\n"
weight_text (Within (Line number)) = codes "refused weight line " ++ decimal number ++ codes "\n"
weight_text (Within (Twice name)) = codes "refused weight twice " ++ name ++ codes "\n"

-- what is printed of an error of the file of this option, where one that its bytes have is the number of a line, behind this word
abbrev pub line_error_text : List ℕ → List ℕ → FileError ℕ → List ℕ
line_error_text option word TooLong = codes "refused " ++ option ++ codes " toolong\n"
line_error_text option word (Within line) = codes "refused " ++ option ++ codes " " ++ word ++ codes " " ++ decimal line ++ codes "\n"

-- what is printed of two netlists that are no problem
abbrev pub pair_text : PairMismatch → List ℕ
pair_text (PortsDiffer name) = codes "refused ports " ++ name ++ codes "\n"
pair_text (CareInputs name) = codes "refused care ports " ++ name ++ codes "\n"
pair_text (CareOutputs count) = codes "refused care outputs " ++ decimal count ++ codes "\n"
pair_text NoTarget = codes "refused impl notarget\n"
pair_text (TooManyTargets count) = codes "refused impl toomanytargets " ++ decimal count ++ codes "\n"

-- what is printed of files that are no problem
abbrev pub input_text : InputError → List ℕ
input_text (InNetlist file error) = codes "refused " ++ option_name file ++ codes " " ++ netlist_text error ++ codes "\n"
input_text (InWeights error) = weight_text error
input_text (Unpaired error) = pair_text error
