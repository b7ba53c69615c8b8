use Rattle.std.proofs.Common.{map, append_assoc}
use Rattle.std.proofs.lemmas.List.{replicate_more}
use Rattle.eco_text.proofs.PrefixLemmas.{IsFreshPrefix-most}
use Rattle.eco_text.proofs.names.fresh_prefix.Goals as goal

pub returns-clause-fresh : goal.returns-clause-fresh
returns-clause-fresh c =
    rw (c.in_ok-push.ensures.items, c.in_ok-prefix.ensures, c.most_underscores-most.ensures, append_assoc, replicate_more)
    (IsFreshPrefix-most c.args.stem.now (map (λ name. name.now) c.args.names.now))
