-- What adding marked clauses leaves.
use Rattle.std.specs.Prelude.{◌≡◌, ◌<◌, Bool, List, ◌++◌, map, Contains}
use Rattle.eco_trace.specs.declared.clause.Lit.{Lit}
use Rattle.eco_tseitin.specs.declared.marked.Marked.{Marked}

-- these clauses, each with this mark, stand behind the others
pub record Adds (old new : Marked) (more : List (List Lit)) (mark : Bool) : Type 0 where
  pub vars : new.cnf.vars ≡ old.cnf.vars
  pub clauses : new.cnf.clauses ≡ old.cnf.clauses ++ more
  pub marks : new.marks.items ≡ old.marks.items ++ map (λ clause. mark) more

-- each of the first literals has a smaller variable than each of the second ones
abbrev pub AreBelow : List Lit → List Lit → Type 0
AreBelow lefts rights = (a b : Lit) → Contains lefts a → Contains rights b → a.var.0 < b.var.0
