use Rattle.std.proofs.Common.{sym, ◌∙◌, ap, Some}
use Rattle.std.specs.String.{string_bytes}
use Rattle.eco_outside.proofs.FileLists.{get_at, get_past}
use Rattle.eco_outside.proofs.file_list.find_file.Goals as goal

pub returns-in-Some : goal.returns-in-Some
returns-in-Some c =
    ap Some c.as_slice.ensures.value
    ∙ sym (get_at (λ file. string_bytes file.0) (λ file. file.1.items) c.args.name.now c.args.files.now c.in-Some.place c.index-files-place.result (sym c.in-Some.ensures))

pub returns-in-None : goal.returns-in-None
returns-in-None c = sym (get_past (λ file. string_bytes file.0) (λ file. file.1.items) c.args.name.now c.args.files.now (sym c.in-None.ensures))
