use Rattle.std.proofs.Common.{arith}
use Rattle.eco_text.proofs.NumberedNames.{is_name-numbered}
use Rattle.eco_text.proofs.names.numbered.Goals as goal

pub name_from-requires : goal.name_from-requires
name_from-requires c =
    rw (c.as_slice.ensures.value, c.in_ok-extend_from_slice.ensures.items, c.in_ok-bytes.ensures.items, c.as_bytes.ensures.value, c.format.ensures.text)
    (is_name-numbered c.args.prefix.now c.args.number c.requires (omega arith))
