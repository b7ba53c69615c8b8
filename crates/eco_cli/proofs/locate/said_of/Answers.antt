use Rattle.std.proofs.Common.{◌<◌, length, map, subst, sym}
use Rattle.std.specs.List.{All}
use Rattle.eco_meaning.specs.Circuit.{names}
use Rattle.eco_locate.specs.Moves.{IsRearranged}
use Rattle.eco_cli.proofs.LocateStages.{ranked_within}
use Rattle.eco_cli.proofs.locate.said_of.Goals as goal

pub found_text-text-requires : goal.found_text-text-requires
found_text-text-requires c =
    let f = c.args.f.now in
    let nets = c.in_ok-nets.nets.items in
    let moved = subst (λ listed. IsRearranged listed (map (λ r. r.net) nets)) c.as_slice.ensures.value c.in_ok-nets.ensures in
    record {
      within = subst (All (λ r. r.net.0 < length (names f))) (sym c.as_slice-2.ensures.value) (ranked_within f c.args.located.now.listed.items nets moved c.requires.listed);
      open_within = c.requires.open_within;
    }
