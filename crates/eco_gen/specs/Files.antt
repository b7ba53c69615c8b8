-- The files of a problem.
use Rattle.std.specs.Prelude.{◌≡◌}
use Rattle.eco_netlist.specs.declared.draft.TargetRule.TheVariants.{Allowed, Never}
use Rattle.eco_query.specs.Problem.{ProblemValue}
use Rattle.eco_plain.specs.Plain.{IsGatesText}
use Rattle.eco_vwrite.specs.Written.{written}
use Rattle.eco_weight.specs.Files.{AreWeights}
use Rattle.eco_gen.specs.Lines.{weight_text}
use Rattle.eco_gen.specs.declared.files.InstanceFiles.{InstanceFiles}

-- the files hold the canonical texts of the problem's netlists and a line for each of its weights, and are read back as
-- these
pub record AreFilesOf (problem : ProblemValue) (files : InstanceFiles) : Type 0 where
  pub implementation : files.implementation.items ≡ written problem.implementation
  pub specification : files.specification.items ≡ written problem.goal.spec
  pub weights : files.weights.items ≡ weight_text problem.weights
  pub implementation_read : IsGatesText Allowed files.implementation.items problem.implementation
  pub specification_read : IsGatesText Never files.specification.items problem.goal.spec
  pub weights_read : AreWeights files.weights.items problem.weights
