-- From what is said of a file to what is said of the bytes of its text.
use Rattle.std.proofs.Common.{ℕ, ap, ◌∙◌, List, Result, Ok, Err, IfOk, IfErr, length, ◌<◌}
use Rattle.std.specs.List.{flat_map}
use Rattle.eco_meaning.specs.Circuit.{names}
use Rattle.eco_vread.proofs.Sizes.{few_nets, few_terms}
use Rattle.eco_netlist.specs.declared.draft.TargetRule.{TargetRule}
use Rattle.eco_netlist.specs.declared.netlist.Netlist.{Netlist}
use Rattle.eco_vread.specs.declared.error.ReadError.{ReadError}
use Rattle.eco_vread.specs.declared.error.ReadError.TheVariants.{Syntax, Refused, OutOfMemory}
use Rattle.eco_vread.specs.Texts.{IsNetlistText}
use Rattle.eco_vread.specs.Results.{SyntaxMeans, RefusedMeans, NoTree, IsFileNetlist, FileRefused}
use Rattle.eco_netlist.specs.Draft.{made}
use Rattle.eco_vread.specs.Syntax.{File}
use Rattle.eco_vread.specs.Grammar.{IsText}
use Rattle.eco_vread.specs.Meaning.{declared_of, AssignmentsHold}
use Rattle.eco_vread.proofs.Values.{file_holds}
use Rattle.eco_vread.proofs.Uniqueness.{one_file}

pub netlist_found : (rule : TargetRule) (bytes : List ℕ) (file : File) → IsText bytes file → (result : Result Netlist ReadError) → IfOk result (IsFileNetlist rule file) → IfOk result (IsNetlistText rule bytes)
netlist_found rule bytes file text (Ok n) h = record { file = file; text = text; faultless = h.1; value = h.0 }
netlist_found rule bytes file text (Err e) h = tt

syntax_by_case : (rule : TargetRule) (bytes : List ℕ) (file : File) (e : ReadError) → FileRefused rule file e → SyntaxMeans bytes e
syntax_by_case rule bytes file (Syntax at) h = absurd h
syntax_by_case rule bytes file (Refused refusal) h = tt
syntax_by_case rule bytes file OutOfMemory h = tt

pub syntax_found : (rule : TargetRule) (bytes : List ℕ) (file : File) (result : Result Netlist ReadError) → IfErr result (FileRefused rule file) → IfErr result (SyntaxMeans bytes)
syntax_found rule bytes file (Ok n) h = tt
syntax_found rule bytes file (Err e) h = syntax_by_case rule bytes file e h

refused_by_case : (rule : TargetRule) (bytes : List ℕ) (file : File) → IsText bytes file → (e : ReadError) → FileRefused rule file e → RefusedMeans rule bytes e
refused_by_case rule bytes file text (Syntax at) h = tt
refused_by_case rule bytes file text (Refused refusal) h = (file, text, h)
refused_by_case rule bytes file text OutOfMemory h = tt

pub refused_found : (rule : TargetRule) (bytes : List ℕ) (file : File) → IsText bytes file → (result : Result Netlist ReadError) → IfErr result (FileRefused rule file) → IfErr result (RefusedMeans rule bytes)
refused_found rule bytes file text (Ok n) h = tt
refused_found rule bytes file text (Err e) h = refused_by_case rule bytes file text e h

pub no_tree_no_text : (bytes : List ℕ) (e : ReadError) → NoTree bytes e → SyntaxMeans bytes e
no_tree_no_text bytes (Syntax at) h = h
no_tree_no_text bytes (Refused refusal) h = tt
no_tree_no_text bytes OutOfMemory h = tt

pub no_tree_unrefused : (rule : TargetRule) (bytes : List ℕ) (e : ReadError) → NoTree bytes e → RefusedMeans rule bytes e
no_tree_unrefused rule bytes (Syntax at) h = tt
no_tree_unrefused rule bytes (Refused refusal) h = absurd h
no_tree_unrefused rule bytes OutOfMemory h = tt

pub few_nets_found : (rule : TargetRule) (bytes : List ℕ) (result : Result Netlist ReadError) → IfOk result (IsNetlistText rule bytes) → IfOk result (λ n. length (names n) < length bytes)
few_nets_found rule bytes (Ok n) h = few_nets rule bytes n h
few_nets_found rule bytes (Err e) h = tt

pub few_terms_found : (rule : TargetRule) (bytes : List ℕ) (result : Result Netlist ReadError) → IfOk result (IsNetlistText rule bytes) → IfOk result (λ n. length (flat_map (λ g. g.terms) n.gates) < length bytes)
few_terms_found rule bytes (Ok n) h = few_terms rule bytes n h
few_terms_found rule bytes (Err e) h = tt

pub assigned_found : (rule : TargetRule) (bytes : List ℕ) (result : Result Netlist ReadError) → IfOk result (IsNetlistText rule bytes) → IfOk result (λ n. (file : File) → IsText bytes file → AssignmentsHold file n)
assigned_found rule bytes (Ok n) h = λ file text.
    file_holds rule file n (h.value ∙ ap (λ f. made rule (declared_of f)) (one_file bytes h.file file h.text text))
assigned_found rule bytes (Err e) h = tt
