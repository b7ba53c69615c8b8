-- The rows of `synth` have one outcome: a line for each row.
use Rattle.std.proofs.Common.{◌≡◌, inl, inr, true, [], Some, sym, ◌∙◌, ap, refl, arith}
use Rattle.std.proofs.lemmas.Bool.{false≢true}
use Rattle.eco_meaning.specs.Meaning.{IsWrong, IsRectifiable}
use Rattle.eco_outside.specs.Store.{Files}
use Rattle.eco_query.specs.Problem.{ProblemValue}
use Rattle.eco_words.specs.CommandLine.{SynthOptions}
use Rattle.eco_cli.specs.declared.synth.SynthStop.{SynthStop}
use Rattle.eco_cli.specs.declared.synth.SynthStop.TheVariants.{SamePath, NoProblem, BoundTargets, Unrectifiable}
use Rattle.eco_inputs.specs.declared.inputs.Inputs.{Inputs}
use Rattle.eco_inputs.specs.Inputs.{input_rows, pair_row, determined_input}
use Rattle.eco_cli.specs.Synth.{files_of, determined, is_no, AsksManyBounds, CanBound, bound_row, from_inputs, from_paths, problem_rows, synth_rows, synth_rules, wrong_row}
use Rattle.eco_inputs.specs.Paths.{paths_row}
use Rattle.eco_inputs.specs.Rows.{IsRow, named_row}
use Rattle.eco_cli.specs.Rules.{IsLawful}
use Rattle.eco_inputs.proofs.InputLaws.{input_law, pair_law}
use Rattle.eco_inputs.proofs.PairLaws.{one_count}
use Rattle.eco_inputs.proofs.PathLaws.{repeat_law}
use Rattle.eco_inputs.proofs.RowLaws.{named_law, test_law, then_law}

-- ---- the rows, the last ones first

-- one number of targets is too large
bound_once : (options : SynthOptions) (problem : ProblemValue) (a b : SynthStop) → AsksManyBounds options problem a → AsksManyBounds options problem b → determined a ≡ determined b
bound_once options problem a b x y =
    ap determined (x.told ∙ ap BoundTargets (one_count problem.implementation x.count y.count x.targets y.targets) ∙ sym y.told)

bound_apart : (options : SynthOptions) (problem : ProblemValue) (a : SynthStop) → AsksManyBounds options problem a → CanBound options problem → ⊥
bound_apart options problem a x (inl unasked) = false≢true (sym unasked ∙ x.asked)
bound_apart options problem a x (inr single) =
    let one = one_count problem.implementation x.count 1 x.targets single in
    let several = x.several in
    omega arith

bound_law : (options : SynthOptions) (problem : ProblemValue) (files : Files) → IsRow determined (bound_row options problem) (Some files)
bound_law options problem files =
    test_law determined (AsksManyBounds options problem) (CanBound options problem) problem (Some files) (bound_once options problem)
    (bound_apart options problem)

inputs_law : (options : SynthOptions) (given : Inputs) (files : Files) → IsRow determined (from_inputs options given) (Some files)
inputs_law options given files =
    then_law determined (named_row NoProblem (pair_row options.problem given)) (bound_row options) (Some files)
    (named_law determined_input determined NoProblem (pair_row options.problem given) (Some files) (λ a b same. ap NoProblem same)
    (pair_law options.problem given files))
    (λ problem. bound_law options problem files)

paths_law : (options : SynthOptions) (files : Files) → IsRow determined (from_paths options) (Some files)
paths_law options files =
    then_law determined (named_row NoProblem (input_rows options.problem)) (from_inputs options) (Some files)
    (named_law determined_input determined NoProblem (input_rows options.problem) (Some files) (λ a b same. ap NoProblem same)
    (input_law options.problem files))
    (λ given. inputs_law options given files)

problem_law : (options : SynthOptions) (files : Files) → IsRow determined (problem_rows options) (Some files)
problem_law options files =
    then_law determined (named_row SamePath (paths_row (files_of options))) (λ _. from_paths options) (Some files)
    (named_law (λ own. own) determined SamePath (paths_row (files_of options)) (Some files) (λ a b same. ap SamePath same)
    (repeat_law (files_of options) files))
    (λ _. paths_law options files)

wrong_law : (problem : ProblemValue) (files : Files) → IsRow determined (named_row Unrectifiable (wrong_row problem)) (Some files)
wrong_law problem files =
    named_law (λ _. []) determined Unrectifiable (wrong_row problem) (Some files) (λ a b same. refl)
    (test_law (λ _. []) (IsWrong problem.implementation problem.goal) (IsRectifiable problem.implementation problem.goal) problem
    (Some files) (λ a b x y. refl) (λ a wrong rectifiable. rectifiable a wrong))

rows_law : (options : SynthOptions) (files : Files) → IsRow determined (synth_rows options) (Some files)
rows_law options files =
    then_law determined (problem_rows options) (λ problem. named_row Unrectifiable (wrong_row problem)) (Some files)
    (problem_law options files) (λ problem. wrong_law problem files)

determined_no : (why : SynthStop) → is_no (determined why) ≡ is_no why
determined_no (SamePath file) = refl
determined_no (NoProblem error) = refl
determined_no (BoundTargets count) = refl
determined_no (Unrectifiable input) = refl

-- where there is a problem, nothing is refused
unrefused : (options : SynthOptions) (files : Files) (problem : ProblemValue) → (problem_rows options).passes (Some files) problem → (why : SynthStop) → (synth_rows options).stands (Some files) why → is_no why ≡ true
unrefused options files problem passed why (inl stands) = absurd ((problem_law options files).apart why problem stands passed)
unrefused options files problem passed why (inr (other, also, wrong)) = ap is_no wrong.1

pub synth_law : (options : SynthOptions) → IsLawful (synth_rules options)
synth_law options = record { rows = rows_law options; determined = determined_no; asked = unrefused options }
