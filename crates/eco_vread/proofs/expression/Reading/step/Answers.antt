use Rattle.eco_vread.proofs.expression.Reading.step.Goals as goal

pub returns-then-is_behind : goal.returns-then-is_behind
returns-then-is_behind c = record { goes = rw c.if-is_behind.true c.behind.ensures.goes; fewer = c.behind.ensures.fewer }

pub returns-in_ok-found : goal.returns-in_ok-found
returns-in_ok-found c = record { goes = rw c.if-is_behind.false c.in_ok-found.ensures.goes; fewer = c.in_ok-found.ensures.fewer }
