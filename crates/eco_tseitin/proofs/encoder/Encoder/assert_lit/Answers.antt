use Rattle.std.proofs.lemmas.Result.{on_ok_weaker}
use Rattle.std.proofs.Common.{[], ◌∷◌, refl}
use Rattle.eco_tseitin.proofs.Adding.{adds, unit_added}
use Rattle.eco_tseitin.proofs.Growing.{asserted_more}
use Rattle.eco_tseitin.proofs.encoder.Encoder.assert_lit.Goals as goal

pub returns-clause-ok : goal.returns-clause-ok
returns-clause-ok c =
    let old = c.args.self.now in
    let new = c.add.new.self in
    on_ok_weaker c.add.result (λ h. unit_added old new c.args.lit (adds old new (c.args.lit ∷ []) (c.args.lit ∷ []) refl h)) c.add.ensures.ok

pub returns-clause-encoding : goal.returns-clause-encoding
returns-clause-encoding c = λ graph roots asserted is.
    let old = c.args.self.now in
    let new = c.add.new.self in
    on_ok_weaker c.add.result (λ h. asserted_more graph roots asserted old new c.args.lit (unit_added old new c.args.lit (adds old new (c.args.lit ∷ []) (c.args.lit ∷ []) refl h)) is) c.add.ensures.ok
