use Rattle.std.proofs.Common.{refl, ap, ◌∙◌, eqb}
use Rattle.std.specs.List.{Contains, list_any, position}
use Rattle.std.proofs.lemmas.Bool.{false≢true}
use Rattle.eco_tseitin.specs.Encoding.{Encoding}
use Rattle.eco_tseitin.proofs.Naming.{found_variable}
use Rattle.eco_tseitin.proofs.Places.{container}
use Rattle.eco_tseitin.proofs.encoder.Encoder.var_of.Goals as goal

pub returns-in-Some-clause-variable : goal.returns-in-Some-clause-variable
returns-in-Some-clause-variable c =
    found_variable c.args.self.now.nodes c.args.node c.in-Some.place (c.in-Some.ensures.index ∙ ap (λ (e : Encoding). position (eqb c.args.node) e.nodes) c.self.view_is)

pub returns-in-Some-clause-reached : goal.returns-in-Some-clause-reached
returns-in-Some-clause-reached c = λ graph roots asserted is.
    let found = found_variable c.args.self.now.nodes c.args.node c.in-Some.place (c.in-Some.ensures.index ∙ ap (λ (e : Encoding). position (eqb c.args.node) e.nodes) c.self.view_is) in
    (λ _. (is.reached c.args.node).0 found.0, λ _. refl)

pub returns-in-None-clause-reached : goal.returns-in-None-clause-reached
returns-in-None-clause-reached c = λ graph roots asserted is.
    let none : Contains c.args.self.now.nodes c.args.node → ⊥ = λ has. false≢true (c.in-None.ensures.found ∙ ap (λ (e : Encoding). list_any (eqb c.args.node) e.nodes) c.self.view_is ∙ container c.args.self.now.nodes c.args.node has) in
    (λ same. absurd (false≢true same), λ reached. absurd (none ((is.reached c.args.node).1 reached)))
