use Rattle.std.proofs.Common.{◌≡◌, ◌++◌, take, codes}
use Rattle.std.specs.List.{flat_map}
use Rattle.eco_meaning.specs.Circuit.{names}
use Rattle.eco_netlist.specs.Netlists.{named_term}
use Rattle.eco_vwrite.specs.Written.{operand_text}
use Rattle.eco_vwrite.proofs.terms.push_terms.Given as goal

abbrev pub invariant-loop-term : goal.invariant-loop-term
invariant-loop-term l =
    l.text.items ≡ l.initial.text.items ++ flat_map (λ term. codes ", " ++ operand_text (named_term (names l.netlist) term)) (take l.term-index l.terms)
