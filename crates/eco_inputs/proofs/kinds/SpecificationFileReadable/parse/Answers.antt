use Rattle.eco_inputs.proofs.kinds.SpecificationFileReadable.parse.Goals as goal

pub returns-then-starts_with-clause-ok : goal.returns-then-starts_with-clause-ok
returns-then-starts_with-clause-ok c = rw (← c.if-starts_with.ensures.value) c.in_aiger.ensures.ok

pub returns-else-starts_with-clause-ok : goal.returns-else-starts_with-clause-ok
returns-else-starts_with-clause-ok c = rw (← c.if-starts_with.ensures.value) c.parse.ensures.ok
