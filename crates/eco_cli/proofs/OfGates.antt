-- The headline for files in gates alone follows from the headline: the bytes of a file are a text of one netlist.
use Rattle.std.proofs.Common.{◌≡◌, inl, inr, ℕ, true, List, [], ◌∷◌, ◌++◌, Option, Some, None, codes, nat_eq, take, decimal, sym, ◌∙◌, ap, subst, arith, append_assoc, append-nil, eqb-true}
use Rattle.std.specs.List.{flat_map}
use Rattle.std.specs.Cmp.Lexicographic.{pointwise}
use Rattle.std.proofs.lemmas.Bool.{false≢true, and_parts}
use Rattle.eco_meaning.specs.Circuit.{Circuit}
use Rattle.eco_meaning.specs.Report.{PatchReport}
use Rattle.eco_netlist.specs.declared.draft.TargetRule.{TargetRule}
use Rattle.eco_netlist.specs.declared.draft.TargetRule.TheVariants.{Allowed, Never}
use Rattle.eco_outside.specs.Store.{Files}
use Rattle.eco_plain.specs.Plain.{IsGatesText}
use Rattle.eco_plain.proofs.Embedding.{gates_text_is_text}
use Rattle.eco_query.specs.Problem.{ProblemValue}
use Rattle.eco_report.specs.Texts.{text_of, group_text, bound_text, least_text}
use Rattle.eco_tokens.specs.Bytes.{is_blank}
use Rattle.eco_tokens.specs.Pieces as pieces
use Rattle.eco_tokens.specs.Pieces.{Piece, AllEnd, EndsBefore}
use Rattle.eco_tokens.specs.Pieces.Piece.{blank, line, block, token}
use Rattle.eco_tokens.specs.Said.{Said}
use Rattle.eco_tokens.specs.Tokens.{said}
use Rattle.eco_vread.specs.Grammar.{word}
use Rattle.eco_vread.specs.Texts.{IsNetlistText}
use Rattle.eco_vread.proofs.Uniqueness.{one_netlist}
use Rattle.eco_words.specs.CommandLine.{ProblemOptions}
use Rattle.eco_inputs.specs.Kinds.{is_aiger}
use Rattle.eco_cli.specs.Calls.{Call, IsPrinted}
use Rattle.eco_cli.specs.Headline.{AreFilesOf, IsCareRead, IsSpecificationText, IsSynthHeadline, Says}
use Rattle.eco_cli.specs.OfGates.{AreTakenFor, IsCareTaken, IsSynthOfGates, IsTakenFor}

-- ---- a text in gates alone doesn't begin as one in AIGER does

-- the first byte, 0 if there is none
abbrev first : List ℕ → ℕ
first [] = 0
first (b ∷ more) = b

first_said : List Said → List ℕ
first_said [] = []
first_said (s ∷ more) = s.text

-- pieces whose first token is `module` don't begin with `a`
not_a : (list : List Piece) (more : List Said) → AllEnd list → said list ≡ word (codes "module") ∷ more → first (pieces.text_of list) ≡ 97 → ⊥
unfolding said EndsBefore first_said
not_a [] more ends told a = absurd (omega (arith, a))
not_a (blank b ∷ list) more ends told a = false≢true (ap is_blank (sym a) ∙ ends.0)
not_a (line body ∷ list) more ends told a = absurd (omega (arith, a))
not_a (block body ∷ list) more ends told a = absurd (omega (arith, a))
not_a (token kind text ∷ list) more ends told a =
    let same : text ≡ codes "module" = ap first_said told in
    absurd (omega (arith, sym (ap (λ t. first (t ++ pieces.text_of list)) same) ∙ a))

begins_with_a : (bytes : List ℕ) → is_aiger bytes ≡ true → first bytes ≡ 97
begins_with_a [] e = absurd (false≢true e)
begins_with_a (b ∷ more) e = sym (eqb-true 97 b (and_parts (nat_eq 97 b) (pointwise nat_eq (codes "ag ") (take 3 more)) e).0)

no_aiger : (bytes : List ℕ) (n : Circuit) → IsGatesText Never bytes n → is_aiger bytes ≡ true → ⊥
no_aiger bytes n gates e =
    let tokens = gates.tokens in
    not_a tokens.pieces _ tokens.cut.each tokens.told (ap first tokens.cut.joined ∙ begins_with_a bytes e)

-- ---- the files

netlist_taken : (rule : TargetRule) (told : Option Files) (path : List ℕ) (n : Circuit) → Says told path (IsNetlistText rule) n → IsTakenFor told path rule n
netlist_taken rule told path n says = record {
  bytes = says.bytes;
  of_file = says.of_file;
  meant = λ other gates. one_netlist rule says.bytes other n (gates_text_is_text rule says.bytes other gates) says.meant;
}

specification_is : (bytes : List ℕ) (n other : Circuit) → IsSpecificationText bytes n → IsGatesText Never bytes other → other ≡ n
specification_is bytes n other (inl (aiger, text)) gates = absurd (no_aiger bytes other gates aiger)
specification_is bytes n other (inr (verilog, text)) gates = one_netlist Never bytes other n (gates_text_is_text Never bytes other gates) text

care_taken : (told : Option Files) (path : Option (List ℕ)) (care : Option Circuit) → IsCareRead told path care → IsCareTaken told path care
care_taken told None care is = is
care_taken told (Some path) care (c, is, says) = (c, is, netlist_taken Never told path c says)

files_taken : (options : ProblemOptions) (told : Option Files) (problem : ProblemValue) → AreFilesOf options told problem → AreTakenFor options told problem
files_taken options told problem read = record {
  implementation = netlist_taken Allowed told options.implementation problem.implementation read.implementation;
  specification = record {
    bytes = read.specification.bytes;
    of_file = read.specification.of_file;
    meant = λ other gates. specification_is read.specification.bytes problem.goal.spec other read.specification.meant gates;
  };
  weights = read.weights;
  care = care_taken told options.care problem.goal.care read.care;
  input_weight = read.input_weight;
}

-- ---- what is printed

-- what stands behind two empty lists
behind : (x b l : List ℕ) → x ++ b ++ l ≡ (x ++ [] ++ []) ++ (b ++ l)
behind x b l = append_assoc x b l ∙ ap (λ y. y ++ (b ++ l)) (sym (append-nil (x ++ []) ∙ append-nil x))

-- the report's text up to its targets is that of the report without a bound and without `least` lines
printed_front : (r : PatchReport) → text_of r ≡ text_of (record r { bound = None; least = [] }) ++ (bound_text r.bound ++ flat_map least_text r.least)
printed_front r =
    behind (codes "patched\ncost " ++ decimal r.cost ++ codes "\ngates " ++ decimal r.gates ++ codes "\n" ++ flat_map group_text r.groups)
    (bound_text r.bound) (flat_map least_text r.least)

pub of_gates : (call : Call) (status : ℕ) → IsSynthHeadline call status → IsSynthOfGates call status
of_gates call status headline = λ options command.
    let ends = headline options command in
    record {
      solved = λ zero.
          let d = ends.solved zero in
          record {
            problem = d.problem;
            files = files_taken options.problem call.store_before.files d.problem d.files;
            p = d.p;
            spliced = d.spliced;
            report = d.report;
            patch = d.patch;
            out = d.out;
            patch_read = d.patch_read;
            out_read = d.out_read;
            apart = d.apart;
            written = d.written;
            more = bound_text d.report.bound ++ flat_map least_text d.report.least;
            printed = subst (IsPrinted call) (printed_front d.report) d.printed;
            patched = d.meets.patched;
            reported = d.meets.reported;
            needed = d.meets.needed;
          };
      unsolvable = λ one.
          let w = ends.unsolvable one in
          record {
            problem = w.problem;
            files = files_taken options.problem call.store_before.files w.problem w.files;
            input = w.input;
            wrong = w.wrong;
            printed = w.printed;
            unchanged = w.unchanged;
          };
    }
