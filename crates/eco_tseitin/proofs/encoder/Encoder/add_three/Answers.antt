use Rattle.std.proofs.Common.{[], ◌∷◌, ◌∙◌, ap, List}
use Rattle.std.proofs.lemmas.Result.{on_ok_weaker, on_err_weaker}
use Rattle.eco_trace.specs.declared.clause.Lit.{Lit}
use Rattle.eco_trace.specs.Clauses.{complement}
use Rattle.eco_tseitin.proofs.Adding.{adds, added_more}
use Rattle.eco_tseitin.proofs.Fronts.{if_err, front_same, front_then, front_join, front_adds}
use Rattle.eco_tseitin.proofs.Naming.{last_apart}
use Rattle.eco_tseitin.proofs.encoder.Encoder.add_three.Goals as goal

pub add-requires-3-clause-apart : goal.add-requires-3-clause-apart
add-requires-3-clause-apart c =
    let n = c.args.n in
    let a = c.args.a in
    last_apart n a c.args.b (n ∷ c.complement-3.result ∷ c.complement-4.result ∷ []) (ap (λ l. n ∷ l ∷ c.complement-4.result ∷ []) c.complement-3.ensures ∙ ap (λ l. n ∷ complement a ∷ l ∷ []) c.complement-4.ensures) c.requires.apart

pub returns-in_err-add-clause-err : goal.returns-in_err-add-clause-err
returns-in_err-add-clause-err c = if_err c.from_residual.result (front_same c.args.self.now c.add.new.self c.in_err-add.ensures.err)

pub returns-in_err-add-2-clause-err : goal.returns-in_err-add-2-clause-err
returns-in_err-add-2-clause-err c =
    let n = c.args.n in
    let a = c.args.a in
    let old = c.args.self.now in
    let one = c.add.new.self in
    let first : List Lit = complement n ∷ a ∷ [] in
    if_err c.from_residual-in_err-add-2.result (front_then old one c.add-2.new.self (front_adds old one (first ∷ []) (adds old one (c.complement.result ∷ a ∷ []) first (ap (λ l. l ∷ a ∷ []) c.complement.ensures) c.in_ok-add.ensures.ok)) c.in_err-add-2.ensures.err)

pub returns-clause-ok : goal.returns-clause-ok
returns-clause-ok c =
    let n = c.args.n in
    let a = c.args.a in
    let b = c.args.b in
    let first : List Lit = complement n ∷ a ∷ [] in
    let second : List Lit = complement n ∷ b ∷ [] in
    let third : List Lit = n ∷ complement a ∷ complement b ∷ [] in
    let old = c.args.self.now in
    let one = c.add.new.self in
    let two = c.add-2.new.self in
    let three = c.add-3.new.self in
    on_ok_weaker c.add-3.result
    (λ h. added_more old one three (first ∷ []) (second ∷ third ∷ [])
    (adds old one (c.complement.result ∷ a ∷ []) first (ap (λ l. l ∷ a ∷ []) c.complement.ensures) c.in_ok-add.ensures.ok)
    (added_more one two three (second ∷ []) (third ∷ [])
    (adds one two (c.complement-2.result ∷ b ∷ []) second (ap (λ l. l ∷ b ∷ []) c.complement-2.ensures) c.in_ok-add-2.ensures.ok)
    (adds two three (n ∷ c.complement-3.result ∷ c.complement-4.result ∷ []) third (ap (λ l. n ∷ l ∷ c.complement-4.result ∷ []) c.complement-3.ensures ∙ ap (λ l. n ∷ complement a ∷ l ∷ []) c.complement-4.ensures) h)))
    c.add-3.ensures.ok

pub returns-clause-err : goal.returns-clause-err
returns-clause-err c =
    let n = c.args.n in
    let a = c.args.a in
    let b = c.args.b in
    let first : List Lit = complement n ∷ a ∷ [] in
    let second : List Lit = complement n ∷ b ∷ [] in
    let old = c.args.self.now in
    let one = c.add.new.self in
    let two = c.add-2.new.self in
    on_err_weaker c.add-3.result
    (λ h. front_then old two c.add-3.new.self
    (front_join old one two
    (front_adds old one (first ∷ []) (adds old one (c.complement.result ∷ a ∷ []) first (ap (λ l. l ∷ a ∷ []) c.complement.ensures) c.in_ok-add.ensures.ok))
    (front_adds one two (second ∷ []) (adds one two (c.complement-2.result ∷ b ∷ []) second (ap (λ l. l ∷ b ∷ []) c.complement-2.ensures) c.in_ok-add-2.ensures.ok)))
    h)
    c.add-3.ensures.err
