-- What `prove` comes to, from stage to stage.
use Rattle.std.proofs.Common.{◌≡◌, inl, inr, ℕ, ◌+◌, ◌*◌, ◌≤◌, Bool, List, [], ◌∷◌, ◌++◌, length, map, Option, ◌∙◌, sym, ap, subst, refl, arith, length-append}
use Rattle.std.proofs.lemmas.List.{length-map}
use Rattle.std.specs.List.{flat_map}
use Rattle.eco_equality.specs.Equality.{size, term_count}
use Rattle.eco_meaning.specs.Circuit.{Circuit, NamedGate}
use Rattle.eco_meaning.specs.Meaning.{everywhere, IsEquivalent, IsRectifiable, IsWrong}
use Rattle.eco_netlist.specs.declared.draft.TargetRule.TheVariants.{Never}
use Rattle.eco_outside.specs.Store.{Files, StoreView}
use Rattle.eco_pose.specs.declared.unfinished.Unfinished.{Unfinished}
use Rattle.eco_pose.specs.declared.unfinished.Unfinished.TheVariants.{GivenUp, OutOfMemory}
use Rattle.eco_pose.specs.Posing.{PosedValue}
use Rattle.eco_prooftext.proofs.CnfWrittenLaws.{clauses_back}
use Rattle.eco_prooftext.proofs.OnceLaws.{refutation_checks}
use Rattle.eco_prooftext.proofs.WrittenLaws.{read_back}
use Rattle.eco_prooftext.specs.Texts.{cnf_text, trace_text}
use Rattle.eco_prooftext.specs.Written.{HasRoom, IsWritable, step_of}
use Rattle.eco_pose.specs.Equality.{IsComparisonUnfinished, IsPosedEqual}
use Rattle.eco_trace.specs.Clauses.{Clauses}
use Rattle.eco_trace.specs.Resolution.{Proof}
use Rattle.eco_trace.specs.Verdicts.{IsRefutation, IsRefutedWithin}
use Rattle.eco_vread.proofs.Sizes.{few_nets, few_terms}
use Rattle.eco_vread.specs.Texts.{IsNetlistText}
use Rattle.eco_words.specs.CommandLine.{ProveOptions}
use Rattle.eco_inputs.specs.declared.TheConstants.{MOST_BYTES}
use Rattle.eco_cli.specs.declared.answer.Answer.{Answer}
use Rattle.eco_inputs.specs.declared.halt.Halt.{Halt}
use Rattle.eco_inputs.specs.declared.halt.Halt.TheVariants as halt
use Rattle.eco_cli.specs.declared.prove.ProveStop.{ProveStop}
use Rattle.eco_cli.specs.declared.prove.ProveStop.TheVariants.{Differs, PortsDiffer}
use Rattle.eco_cli.specs.declared.prove.Sides.{Sides}
use Rattle.eco_cli.specs.Answers.{IsTextAnswer, writes_of}
use Rattle.eco_cli.specs.Prove.{AreKept, IsPortHalt, IsProof, IsProofAnswer, differs_row, long_side, ports_row, prove_rows, prove_rules, prove_text, sides_rows}
use Rattle.eco_inputs.specs.Reading.{Halts, IsRead, IsReported}
use Rattle.eco_cli.specs.Recheck.{AreProof}
use Rattle.eco_prooftext.specs.CnfFile.{IsCnfText}
use Rattle.std.specs.Prelude.{codes, decimal}
use Rattle.eco_inputs.specs.Rows.{named_row}
use Rattle.eco_cli.specs.Spent.{IsUnfinishedAnswer}
use Rattle.eco_cli.specs.Rules.{IsPrepared, stop_code}
use Rattle.eco_cli.specs.Printing.{budget_text}
use Rattle.eco_cli.proofs.Preparing.{spent_prepared, stop_prepared}
use Rattle.eco_inputs.proofs.ReadingLaws.{front_halts}
use Rattle.eco_netlist.specs.Refusals.{IsFirst}
use Rattle.eco_query.specs.Ports.{is_unlike}

-- the ports differ at this name
pub port_halts : (options : ProveOptions) (left right : Circuit) (name : List ℕ) (store : StoreView) (why : Halt ProveStop) → IsFirst (is_unlike left right) name → IsPortHalt name why → Halts (long_side options) (named_row PortsDiffer (ports_row left right)) store store why
port_halts options left right name store (halt.For stop) first is =
    ((name, is, first), subst (λ (s : ProveStop). IsReported (long_side options s) store store) (sym is) tt)
port_halts options left right name store (halt.Unread path) first is = absurd is
port_halts options left right name store halt.OutOfMemory first is = tt

-- no two netlists are come to
pub sides_halts : (options : ProveOptions) (before after : StoreView) (why : Halt ProveStop) → Halts (long_side options) (sides_rows options) before after why → Halts (long_side options) (prove_rows options) before after why
sides_halts options =
    front_halts (long_side options) (sides_rows options) (λ pair. named_row Differs (differs_row pair))

-- ---- texts have room for the clauses of netlists that were read

terms_in : (gates : List NamedGate) → term_count gates ≡ length (flat_map (λ g. g.terms) gates)
terms_in [] = refl
terms_in (g ∷ gates) = omega (arith, terms_in gates, length-append g.terms (flat_map (λ h. h.terms) gates))

small : (told : Option Files) (path : List ℕ) (n : Circuit) → IsRead (IsNetlistText Never) told path MOST_BYTES n → size n ≤ 2 * MOST_BYTES
small told path n read =
    let short : length read.bytes ≤ MOST_BYTES = read.short in
    omega (arith, few_nets Never read.bytes n read.holds, few_terms Never read.bytes n read.holds, terms_in n.gates)

-- the clauses that compare netlists which were read
few_variables : (options : ProveOptions) (told : Option Files) (pair : Sides) (vars : ℕ) → (sides_rows options).passes told pair → vars ≤ 2 * (1 + size pair.left + size pair.right) → vars ≤ 9223372036854775807
few_variables options told pair vars (tt', apart, (left, left_read, (right, right_read, (never, is)))) few =
    let a : size left ≤ 2 * MOST_BYTES = small told options.left left left_read in
    let b : size right ≤ 2 * MOST_BYTES = small told options.right right right_read in
    let c : size pair.left ≡ size left = ap (λ (p : Sides). size p.left) is in
    let d : size pair.right ≡ size right = ap (λ (p : Sides). size p.right) is in
    omega (arith, a, b, c, d, few)

-- ---- the answer of two netlists

-- clauses without a model ask for no input at which the netlists differ
none_differs : (pair : Sides) (posed : PosedValue) (proof : Proof) → AreKept posed.clauses proof → IsPosedEqual pair.left pair.right posed → IsRefutation posed.clauses proof → IsRectifiable pair.left (everywhere pair.right)
none_differs pair posed proof kept asks refutes = λ input wrong.
    let (v, model, reads) = asks.asks.answers input wrong in
    (refutation_checks posed.clauses proof kept.legal refutes).no_model v model

-- a proof was found
pub proof_prepared : (options : ProveOptions) (pair : Sides) (posed : PosedValue) (proof : Proof) (before after : StoreView) → (sides_rows options).passes before.files pair → IsPosedEqual pair.left pair.right posed → IsRefutedWithin posed.clauses options.budget proof → IsEquivalent pair.left (everywhere pair.right) → AreKept posed.clauses proof → (answer : Answer) → IsProofAnswer options posed.clauses proof answer → IsPrepared (prove_rules options) before after answer
proof_prepared options pair posed proof before after passed asks refuted equal kept answer (zero, written, text, short, brief) =
    let refutes = refuted.refutation in
    let few : posed.clauses.vars ≤ 9223372036854775807 = few_variables options before.files pair posed.clauses.vars passed asks.few in
    let room : HasRoom posed.clauses = record { formed = kept.formed; vars_limit = few; count_limit = kept.count } in
    let writable : IsWritable posed.clauses proof =
    record { formed = kept.formed; vars_limit = few; originals = refutes.originals; legal = kept.legal; few = kept.few } in
    let same = asks.exactly in
    let success : IsProof options pair (writes_of answer) answer.text.items = record {
      equal = equal;
      clauses = cnf_text posed.clauses;
      trace = trace_text proof;
      written = written;
      clauses_text = ap cnf_text same;
      clauses_read = subst (IsCnfText (cnf_text posed.clauses)) same (clauses_back posed.clauses room);
      proof = proof;
      steps = map step_of proof.learnt;
      trace_text = refl;
      trace_read = read_back posed.clauses proof writable;
      clauses_short = short;
      trace_short = brief;
      proves = subst (λ (c : Clauses). AreProof c (map step_of proof.learnt)) same (proof, refutation_checks posed.clauses proof kept.legal refutes);
      within = let same_count = length-map proof.learnt step_of in omega (arith, same_count, refuted.within);
      text = text ∙ ap (λ (n : ℕ). codes "equal " ++ decimal n ++ codes "\n") (sym (length-map proof.learnt step_of));
    } in
    inl (zero, record { value = pair; passed = (pair, passed, (none_differs pair posed proof kept asks refutes, refl)); answers = success })

-- they differ at this input
pub differs_prepared : (options : ProveOptions) (pair : Sides) (input : List Bool) (before after : StoreView) → IsWrong pair.left (everywhere pair.right) input → (sides_rows options).passes before.files pair → (answer : Answer) → IsTextAnswer (stop_code (prove_rules options) (Differs input)) (prove_text options (Differs input)) answer → IsPrepared (prove_rules options) before after answer
differs_prepared options pair input before after wrong passed =
    stop_prepared (prove_rules options) before after (Differs input) (inr (pair, passed, (input, refl, wrong)), tt)

-- a question was given up; or memory ran out, and there is no answer
pub uncompared_prepared : (options : ProveOptions) (pair : Sides) (unfinished : Unfinished) (before after : StoreView) → IsComparisonUnfinished pair.left pair.right options.budget unfinished → (sides_rows options).passes before.files pair → (answer : Answer) → IsUnfinishedAnswer options.budget unfinished answer → IsPrepared (prove_rules options) before after answer
uncompared_prepared options pair (GivenUp stuck) before after left passed answer is = spent_prepared (prove_rules options) before after pair stuck.value (budget_text options.budget stuck.value) passed (left, refl) answer is
uncompared_prepared options pair OutOfMemory before after left passed answer none = absurd none
