-- What both judges accept has the mark of each part.
use Rattle.std.specs.Prelude.{IfSome}
use Rattle.std.proofs.lemmas.Result.{IfOk-weaker}
use Rattle.std.proofs.lemmas.Option.{IfSome_then}
use Rattle.eco_functions.specs.Improving.{HasMarks, IsAccepted}
use Rattle.eco_functions.specs.Parts.{split_of}
use Rattle.eco_functions.specs.declared.improving.Judges.{Judges}
use Rattle.eco_functions.proofs.Accepting.{both_accept}
use Rattle.eco_functions.proofs.improving.improved.Goals as goal

pub returns-in-Ok : goal.returns-in-Ok
returns-in-Ok g c =
    let split = split_of c.args.two.now in
    let shared = c.args.two.now.shared.now in
    let judges : Judges = record { above = c.in_ok-above.above; below = c.in-Ok.below; shared = c.args.two.now.shared; limit = c.min.result } in
    record {
      accepted = IfOk-weaker c.searched-found.result
          (λ found. IfSome found (λ candidate. HasMarks judges candidate.aig candidate.root))
          (λ found. IfSome found (λ candidate. IsAccepted split shared candidate.aig candidate.root))
          (λ found is. IfSome_then found is
          (λ candidate marks. both_accept split judges candidate.aig candidate.root c.in_ok-above.ensures.part c.in-Ok.ensures.part marks))
          c.searched-found.ensures.accepted;
    }
