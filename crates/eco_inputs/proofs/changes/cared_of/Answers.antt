use Rattle.std.proofs.Common.{◌≡◌, ap, refl, rules, subst}
use Rattle.std.specs.Option.{option_copied}
use Rattle.eco_query.specs.Problem.{IsClosed}
use Rattle.eco_words.specs.CommandLine.{change_options_of}
use Rattle.eco_inputs.specs.declared.TheConstants.{MOST_BYTES}
use Rattle.eco_inputs.specs.declared.error.InputError.TheVariants.{InNetlist}
use Rattle.eco_inputs.specs.declared.paths.FileOption.TheVariants.{Care}
use Rattle.eco_inputs.specs.Changes.{cared_row, long_change}
use Rattle.eco_inputs.specs.Paths.{change_path_of}
use Rattle.eco_inputs.specs.Reading.{oversize_of}
use Rattle.eco_inputs.proofs.ChangeLaws.{cared_halts}
use Rattle.eco_inputs.proofs.ReadingLaws.{named_halts}
use Rattle.eco_inputs.proofs.changes.cared_of.Goals as goal

pub returns-in-Ok-clause-closed : goal.returns-in-Ok-clause-closed
returns-in-Ok-clause-closed g c = λ care is.
    let same : c.in-Ok.care ≡ care = cc in
    subst IsClosed same c.in-Ok.ensures.closed

pub returns-in-Err-clause-err : goal.returns-in-Err-clause-err
returns-in-Err-clause-err g c =
    let options = change_options_of c.args.files.now in
    named_halts (long_change options) (oversize_of (change_path_of options Care) MOST_BYTES) (InNetlist Care) (cared_row options) _ _ (λ own. refl)
    c.in-Err.halt (cared_halts options c.in-Some.path.now (ap option_copied c.in-Some.is) _ _ c.in-Err.halt c.in-Err.ensures.err)
    c.map.result (c.map.ensures (InNetlist Care) (λ own made e. search rules))
