-- The clauses are those of the part, also where more variables may stand in them.
use Rattle.std.proofs.Common.{◌↔◌, refl, sym, subst}
use Rattle.eco_trace.specs.Clauses.{Satisfies}
use Rattle.eco_trace.specs.Split.{IsModelOf}
use Rattle.eco_accept.proofs.judge.Judge.new.Goals as goal

pub returns-then-vars-lt-MOST : goal.returns-then-vars-lt-MOST
returns-then-vars-lt-MOST c = record {
  part = record {
    models = λ v. subst (λ list. Satisfies v list ↔ IsModelOf (record { clauses = c.args.trace.now.originals; marks = c.args.side.now }) c.args.part v) (sym c.reach_all-reached.ensures.clauses) (c.in_ok-cnf.ensures.models v);
    same_shared = c.in_ok-shared_vars.ensures.items;
    same_part = refl;
  };
}
