use Rattle.std.proofs.Common.{◌∙◌, ap}
use Rattle.std.specs.String.{string_bytes}
use Rattle.eco_outside.specs.Kept.{files_of}
use Rattle.eco_outside.proofs.FileLists.{from_entries-set, from_entries-push}
use Rattle.eco_outside.proofs.file_list.put_bytes.Goals as goal

pub returns-in-Some-clause-ok : goal.returns-in-Some-clause-ok
returns-in-Some-clause-ok c =
    from_entries-set (λ file. string_bytes file.0) (λ file. file.1.items) c.args.files.now.items (c.in_ok-from_str.field-0, c.in_ok-from_slice.field-0) _ _
    c.in_ok-from_str.ensures.ok c.in_ok-from_slice.ensures.items c.in-Some.place (c.in_ok-from_str.field-0, c.in_ok-from_slice.field-0) (cc)

pub returns-in_ok-push-in-None-clause-ok : goal.returns-in_ok-push-in-None-clause-ok
returns-in_ok-push-in-None-clause-ok c =
    ap (λ kept. files_of kept) c.in_ok-push-in-None.ensures.items
    ∙ from_entries-push (λ file. string_bytes file.0) (λ file. file.1.items) c.args.files.now.items (c.in_ok-from_str.field-0, c.in_ok-from_slice.field-0) _ _
    c.in_ok-from_str.ensures.ok c.in_ok-from_slice.ensures.items (cc)
