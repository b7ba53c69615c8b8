-- Where an effort for bases of least cost is asked for, what was made with it is what the command chooses.
use Rattle.std.proofs.Common.{◌≡◌, ℕ, Some, sym, ◌∙◌}
use Rattle.std.proofs.lemmas.Option.{none-some}
use Rattle.eco_meaning.specs.Circuit.{Circuit}
use Rattle.eco_meaning.specs.Report.{PatchReport}
use Rattle.eco_query.specs.Problem.{ProblemValue}
use Rattle.eco_targets.specs.Made.{IsMadeLeast}
use Rattle.eco_words.specs.CommandLine.{SynthOptions}
use Rattle.eco_cli.specs.Synth.{IsChosenFor}

-- bases of least cost
pub chosen_least : (options : SynthOptions) (problem : ProblemValue) (p out : Circuit) (r : PatchReport) (effort : ℕ) → options.least ≡ Some effort → IsMadeLeast problem p out r → IsChosenFor options problem p out r
chosen_least options problem p out r effort asked made = record {
  rectifiable = made.rectifiable;
  meets = made.meets;
  thrifty = record {
    read = made.read;
    greedy = λ unasked. absurd (none-some effort (sym unasked ∙ asked));
    untold = λ unasked. absurd (none-some effort (sym unasked ∙ asked));
    least = λ _ _. made.least;
  };
  unbound = made.unbound;
  closed = record { patch = made.patch_closed; out = made.spliced_closed };
}
