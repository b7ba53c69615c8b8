-- What `synth` comes to, from stage to stage.
use Rattle.std.proofs.Common.{inl, inr, Bool, List, Option, ◌∙◌, sym, subst, refl}
use Rattle.eco_meaning.specs.Meaning.{IsWrong}
use Rattle.eco_outside.specs.Store.{Files, StoreView}
use Rattle.eco_query.specs.Problem.{ProblemValue}
use Rattle.eco_pose.specs.declared.unfinished.Unfinished.{Unfinished}
use Rattle.eco_pose.specs.declared.unfinished.Unfinished.TheVariants.{GivenUp, OutOfMemory}
use Rattle.eco_pose.specs.Stuck.{IsUnfinished, NoneCompared}
use Rattle.eco_targets.specs.declared.Made.{Made}
use Rattle.eco_words.specs.CommandLine.{SynthOptions}
use Rattle.eco_cli.specs.declared.answer.Answer.{Answer}
use Rattle.eco_inputs.specs.declared.halt.Halt.{Halt}
use Rattle.eco_cli.specs.declared.synth.SynthStop.{SynthStop}
use Rattle.eco_cli.specs.declared.synth.SynthStop.TheVariants.{Unrectifiable}
use Rattle.eco_cli.specs.Answers.{IsTextAnswer}
use Rattle.eco_inputs.specs.Reading.{Halts}
use Rattle.eco_inputs.specs.Rows.{named_row}
use Rattle.eco_cli.specs.Rules.{IsPrepared, stop_code}
use Rattle.eco_cli.specs.Spent.{IsUnfinishedAnswer}
use Rattle.eco_cli.specs.Synth.{long_file, stop_text, CanBound, IsMadeAnswer, IsMadeFor, problem_rows, synth_rows, synth_rules, wrong_row}
use Rattle.eco_cli.specs.Printing.{budget_text}
use Rattle.eco_cli.proofs.Preparing.{spent_prepared, stop_prepared}
use Rattle.eco_inputs.proofs.ReadingLaws.{front_halts}

-- no problem is come to
pub problem_halts : (options : SynthOptions) (before after : StoreView) (why : Halt SynthStop) → Halts (long_file options) (problem_rows options) before after why → Halts (long_file options) (synth_rows options) before after why
problem_halts options =
    front_halts (long_file options) (problem_rows options) (λ problem. named_row Unrectifiable (wrong_row problem))

-- where a problem is come to, a bound may be asked of it
pub can_bound : (options : SynthOptions) (told : Option Files) (problem : ProblemValue) → (problem_rows options).passes told problem → CanBound options problem
can_bound options told problem (u, apart, (given, read, (q, paired, (can, same)))) = subst (CanBound options) (sym same) can

-- ---- the answer of a problem

-- a patch was made
pub made_prepared : (options : SynthOptions) (problem : ProblemValue) (made : Made) (before after : StoreView) → IsMadeFor options problem made → (problem_rows options).passes before.files problem → (answer : Answer) → IsMadeAnswer options made answer → IsPrepared (synth_rules options) before after answer
made_prepared options problem made before after is passed answer (texts, told, (zero, written, text)) = inl (
  zero,
  record {
    value = problem;
    passed = (problem, passed, (is.rectifiable, refl));
    answers = record {
      p = made.patch;
      spliced = made.out;
      report = made.report;
      patch = texts.patch.items;
      out = texts.out.items;
      written = written;
      patch_read = told.patch_read;
      out_read = told.out_read;
      meets = is.meets;
      thrifty = is.thrifty;
      bound = is.bound;
      text = text ∙ told.text;
    };
  },
)

-- an input is wrong
pub wrong_prepared : (options : SynthOptions) (problem : ProblemValue) (input : List Bool) (before after : StoreView) → IsWrong problem.implementation problem.goal input → (problem_rows options).passes before.files problem → (answer : Answer) → IsTextAnswer (stop_code (synth_rules options) (Unrectifiable input)) (stop_text options (Unrectifiable input)) answer → IsPrepared (synth_rules options) before after answer
wrong_prepared options problem input before after wrong passed =
    stop_prepared (synth_rules options) before after (Unrectifiable input) (inr (problem, passed, (input, refl, wrong)), tt)

-- a question was given up; or memory ran out, and there is no answer
pub unfinished_prepared : (options : SynthOptions) (problem : ProblemValue) (unfinished : Unfinished) (before after : StoreView) → IsUnfinished problem NoneCompared options.budget unfinished → (problem_rows options).passes before.files problem → (answer : Answer) → IsUnfinishedAnswer options.budget unfinished answer → IsPrepared (synth_rules options) before after answer
unfinished_prepared options problem (GivenUp stuck) before after given_up passed answer is = spent_prepared (synth_rules options) before after problem stuck.value (budget_text options.budget stuck.value) passed (given_up, refl) answer is
unfinished_prepared options problem OutOfMemory before after given_up passed answer none = absurd none
