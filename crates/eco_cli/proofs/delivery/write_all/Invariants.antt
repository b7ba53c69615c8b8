use Rattle.std.proofs.Common.{map, take}
use Rattle.eco_cli.specs.Answers.{write_of}
use Rattle.eco_cli.proofs.Delivering.{IsWriting}
use Rattle.eco_cli.proofs.delivery.write_all.Given as goal

-- the files before this one are written
abbrev pub invariant-loop-file : goal.invariant-loop-file
invariant-loop-file g l = IsWriting (g.S.Store.view l.initial.store) (g.S.Store.view l.store) (map write_of (take l.file-index l.writes))
