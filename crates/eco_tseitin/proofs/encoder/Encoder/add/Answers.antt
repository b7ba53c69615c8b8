-- The clauses are those of the encoding.
use Rattle.std.proofs.Common.{◌≡◌, length, ap, ◌∙◌, sym, subst}
use Rattle.std.specs.List.{All}
use Rattle.eco_trace.specs.Clauses.{IsVarWithin}
use Rattle.eco_tseitin.specs.Encoding.{Encoding}
use Rattle.eco_tseitin.proofs.encoder.Encoder.add.Goals as goal

pub add_lits-requires-clause-within : goal.add_lits-requires-clause-within
add_lits-requires-clause-within c =
    let vars : length c.args.self.now.nodes ≡ c.self.inside.cnf.vars = sym (ap (λ (e : Encoding). length e.nodes) c.self.view_is) ∙ sym c.self.invariant in
    subst (λ n. All (IsVarWithin n) c.args.lits.now) vars c.requires.within
