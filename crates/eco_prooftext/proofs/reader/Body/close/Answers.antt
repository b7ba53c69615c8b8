use Rattle.std.proofs.Common.{sym, subst, refl, IsNone}
use Rattle.std.proofs.lemmas.Option.{MatchOption-at_some}
use Rattle.eco_prooftext.proofs.ReadLaws.{no_next, closes_by}
use Rattle.eco_prooftext.proofs.reader.Body.close.Goals as goal

pub returns-in-None : goal.returns-in-None
returns-in-None c =
    no_next c.args.self.now.cnf.vars c.args.self.now.lits.items c.replace-lits.result.items
    (c.in_ok-new.ensures.none.0 (subst (λ o. IsNone o) (sym c.in-None.is) refl))
    (cc)

pub returns-in_ok-added-in-Some : goal.returns-in_ok-added-in-Some
returns-in_ok-added-in-Some c =
    closes_by c.args.self.now _ c.replace-lits.result.items c.in-Some.clause c.in_ok-added-in-Some.added (cc)
    (MatchOption-at_some _ _ c.in-Some.clause c.in-Some.is c.in_ok-new.ensures.some)
    c.in_ok-added-in-Some.ensures.within c.in_ok-added-in-Some.ensures.ok (cc) refl
