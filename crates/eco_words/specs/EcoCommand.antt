-- The program's command, as what a parse reads of it.
use Rattle.std.specs.Prelude.{List, [], ◌∷◌, Some, codes, fold, true}
use Rattle.clap.specs.Words.{App, Rule, Text, new_app, new_rule, with_rule, with_subcommand}
use Rattle.clap.specs.Simple.{on_top}
use Rattle.clap.specs.declared.builder.action.ArgAction.TheVariants.{Append, Set, SetTrue}

-- the option `--name`, which has to be given once, with one value, for which help has one name
abbrev pub required_option : Text → Rule
required_option name =
    record (new_rule name) { long = Some name; action = Some Set; value_names = 1; required = true }

-- the option `--name`, which may be given once, with one value of one name
abbrev pub lax_option : Text → Rule
lax_option name = record (new_rule name) { long = Some name; action = Some Set; value_names = 1 }

-- the option `--name`, which may be given any number of times, each time with one value of one name
abbrev pub many_option : Text → Rule
many_option name = record (new_rule name) { long = Some name; action = Some Append; value_names = 1 }

-- the flag `--name`, which may be given once, without a value
abbrev pub flag_option : Text → Rule
flag_option name = record (new_rule name) { long = Some name; action = Some SetTrue }

-- a command with one more option that has to be given
abbrev pub with_required : App → Text → App
with_required command name = with_rule command (required_option name)

-- and with one more that need not
abbrev pub with_lax : App → Text → App
with_lax command name = with_rule command (lax_option name)

-- and with one more that may be given any number of times
abbrev pub with_many : App → Text → App
with_many command name = with_rule command (many_option name)

-- and with one more flag
abbrev pub with_flag : App → Text → App
with_flag command name = with_rule command (flag_option name)

-- with the paths of the netlists and of the weights
abbrev pub with_read : App → App
with_read command =
    with_lax (fold with_required command (codes "impl" ∷ codes "spec" ∷ codes "weight" ∷ [])) (codes "care")

-- with the paths of a patch and of the patched netlist
abbrev pub with_patch : App → App
with_patch command = fold with_required command (codes "patch" ∷ codes "out" ∷ [])

-- with the options that are numbers
abbrev pub with_numbers : App → App
with_numbers command = with_lax (with_lax command (codes "budget")) (codes "input-weight")

-- with the paths of the files of a change
abbrev pub with_change : App → App
with_change command = with_lax (fold with_required command (codes "impl" ∷ codes "spec" ∷ [])) (codes "care")

-- with the paths of clauses and of a proof about them
abbrev pub with_proof : App → App
with_proof command = fold with_required command (codes "cnf" ∷ codes "trace" ∷ [])

-- the subcommand `synth`, with its options in order
abbrev pub synth_app : App
synth_app = with_lax (with_flag (with_numbers (with_patch (with_read (new_app (codes "synth"))))) (codes "bound")) (codes "least")

-- the subcommand `audit`
abbrev pub audit_app : App
audit_app = with_numbers (with_required (with_patch (with_read (new_app (codes "audit")))) (codes "report"))

-- the subcommand `prove`
abbrev pub prove_app : App
prove_app = with_lax (with_proof (fold with_required (new_app (codes "prove")) (codes "left" ∷ codes "right" ∷ []))) (codes "budget")

-- the subcommand `recheck`
abbrev pub recheck_app : App
recheck_app = with_proof (new_app (codes "recheck"))

-- the subcommand `gen`
abbrev pub gen_app : App
gen_app = with_lax (fold with_required (new_app (codes "gen")) (codes "seed" ∷ codes "size" ∷ codes "targets" ∷ [])) (codes "budget")

-- the subcommand `locate`
abbrev pub locate_app : App
locate_app =
    with_lax (with_required (with_many (with_change (new_app (codes "locate"))) (codes "net")) (codes "cut")) (codes "budget")

-- a command that has a version, wants a subcommand, and has none called `help`
abbrev pub with_settings : App → App
with_settings = on_top (λ s. record s {
  has_version = true;
  subcommand_required = true;
  disable_help_subcommand = true;
})

-- the program `eco` without a subcommand
abbrev pub bare_app : App
bare_app = with_settings (new_app (codes "eco"))

-- the names of its subcommands
abbrev pub subcommands : List Text
subcommands = codes "synth" ∷ codes "audit" ∷ codes "prove" ∷ codes "recheck" ∷ codes "gen" ∷ codes "locate" ∷ []

-- and with its subcommands in order
unfoldable pub eco_app : App
eco_app = with_subcommand (with_subcommand (with_subcommand (with_subcommand (with_subcommand (with_subcommand bare_app synth_app.top) audit_app.top) prove_app.top) recheck_app.top) gen_app.top) locate_app.top
