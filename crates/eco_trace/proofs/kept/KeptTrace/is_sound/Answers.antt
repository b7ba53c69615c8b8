use Rattle.std.proofs.Common.{subst}
use Rattle.eco_trace.specs.Stored.{IsStored}
use Rattle.eco_trace.proofs.ProofLaws.{legal_clauses, legal_sound}
use Rattle.eco_trace.proofs.kept.KeptTrace.is_sound.Goals as goal

pub returns-clause-formed : goal.returns-clause-formed
returns-clause-formed c = legal_clauses c.args.self.now (subst IsStored c.self.view_is c.self.invariant).legal

pub returns-clause-sound : goal.returns-clause-sound
returns-clause-sound c = legal_sound c.args.self.now (subst IsStored c.self.view_is c.self.invariant).legal
