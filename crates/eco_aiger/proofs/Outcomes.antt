-- From what is said of a file to what is said of its text.
use Rattle.std.proofs.Common.{ℕ, List, Result, Ok, Err, IfOk, IfErr}
use Rattle.std.specs.Str.Lines.{lines}
use Rattle.eco_netlist.specs.declared.netlist.Netlist.{Netlist}
use Rattle.eco_aiger.specs.declared.error.AigerError.{AigerError}
use Rattle.eco_aiger.specs.declared.error.AigerError.TheVariants.{Line, DefinedTwice, Undefined, Refused, OutOfMemory}
use Rattle.eco_aiger.specs.Syntax.{File}
use Rattle.eco_aiger.specs.Parts.{AreLines}
use Rattle.eco_aiger.specs.Texts.{IsFileNetlist, RefusesFile, IsAigerText, IsRefused, IsNoText}
use Rattle.eco_aiger.proofs.Bodies.{text_of_lines, lines_of_text}

pub text_found : (bytes : List ℕ) (f : File) → AreLines (lines bytes) f → (r : Result Netlist AigerError) → IfOk r (IsFileNetlist f) → IfOk r (IsAigerText bytes)
text_found bytes f are (Ok n) h = record { file = f; text = text_of_lines bytes f are; netlist = h }
text_found bytes f are (Err e) h = tt

refused_by_case : (bytes : List ℕ) (f : File) → AreLines (lines bytes) f → (e : AigerError) → RefusesFile f e → IsRefused bytes e
refused_by_case bytes f are (Line n) h = absurd h
refused_by_case bytes f are (DefinedTwice v) h = (f, text_of_lines bytes f are, h)
refused_by_case bytes f are (Undefined v) h = (f, text_of_lines bytes f are, h)
refused_by_case bytes f are (Refused refusal) h = (f, text_of_lines bytes f are, h)
refused_by_case bytes f are OutOfMemory h = tt

pub refused_found : (bytes : List ℕ) (f : File) → AreLines (lines bytes) f → (r : Result Netlist AigerError) → IfErr r (RefusesFile f) → IfErr r (IsRefused bytes)
refused_found bytes f are (Ok n) h = tt
refused_found bytes f are (Err e) h = refused_by_case bytes f are e h

-- lines of no file are a text of none
pub no_text : (bytes : List ℕ) → ((f : File) → AreLines (lines bytes) f → ⊥) → IsNoText bytes
no_text bytes none f text = none f (lines_of_text bytes f text)
