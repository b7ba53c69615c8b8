use Rattle.std.proofs.Common.{rules, refl, sym, arith}
use Rattle.eco_tokens.proofs.Steps.{gap_fits, found_fits, read_gap, read_found}
use Rattle.eco_tokens.proofs.Cuts.{tokens_at_end, places_at_end, no_cut}
use Rattle.eco_tokens.proofs.Behind.{stops_here}
use Rattle.eco_tokens.proofs.Laws.{lexemes_have_form}
use Rattle.eco_tokens.proofs.lex.Goals as goal

pub split_at-requires : goal.split_at-requires
split_at-requires c = (gap_fits c.loop-rest.rest.now c.in-Gap.count c.in-Gap.ensures).1

pub loop-rest-smaller-in-Gap : goal.loop-rest-smaller-in-Gap
loop-rest-smaller-in-Gap c =
    let fits = gap_fits c.loop-rest.rest.now c.in-Gap.count c.in-Gap.ensures in
    omega arith

pub loop-rest-preserved-in-Gap : goal.loop-rest-preserved-in-Gap
loop-rest-preserved-in-Gap c =
    read_gap c.args.bytes.now c.loop-rest.rest.now c.split_at.result.1.now c.loop-rest.lexemes.items c.in-Gap.count c.loop-rest.invariant c.in-Gap.ensures (search rules) c.split_at.ensures.back

pub split_at-requires-in-Found : goal.split_at-requires-in-Found
split_at-requires-in-Found c = (found_fits c.loop-rest.rest.now c.in-Found.kind c.in-Found.count c.in-Found.ensures).1

pub loop-rest-smaller : goal.loop-rest-smaller
loop-rest-smaller c =
    let fits = found_fits c.loop-rest.rest.now c.in-Found.kind c.in-Found.count c.in-Found.ensures in
    omega arith

pub loop-rest-preserved : goal.loop-rest-preserved
loop-rest-preserved c =
    read_found c.args.bytes.now c.loop-rest.rest.now c.split_at-in-Found.result.1.now c.loop-rest.lexemes.items c.push.new.self.items _ c.in-Found.kind c.in-Found.count c.loop-rest.invariant c.in-Found.ensures (search rules) c.split_at-in-Found.ensures.back c.in_ok-push-in-Found.ensures.items refl c.split_at-in-Found.ensures.front (search rules)

pub returns-in-Bad-clause-found : goal.returns-in-Bad-clause-found
returns-in-Bad-clause-found c = λ _ y h. no_cut _ c.loop-rest.rest.now _ _ _ c.loop-rest.invariant.reached (sym c.in-Bad.ensures) (search rules) h.pieces h.cut

pub returns-in-Bad-clause-placed : goal.returns-in-Bad-clause-placed
returns-in-Bad-clause-placed c = λ _ y h. no_cut _ c.loop-rest.rest.now _ _ _ c.loop-rest.invariant.reached (sym c.in-Bad.ensures) (search rules) h.pieces h.cut

pub returns-clause-found : goal.returns-clause-found
returns-clause-found c = tokens_at_end _ c.loop-rest.rest.now _ _ _ c.loop-rest.invariant.reached (search rules)

pub returns-clause-placed : goal.returns-clause-placed
returns-clause-placed c = places_at_end _ c.loop-rest.rest.now _ _ _ c.loop-rest.invariant.reached (search rules)

pub returns-clause-forms : goal.returns-clause-forms
returns-clause-forms c = lexemes_have_form _ c.loop-rest.lexemes.items (tokens_at_end _ c.loop-rest.rest.now _ _ _ c.loop-rest.invariant.reached (search rules)).0

pub returns-in-Bad-clause-fault : goal.returns-in-Bad-clause-fault
returns-in-Bad-clause-fault c = λ at is. stops_here _ c.loop-rest.rest.now at c.loop-rest.invariant.behind (sym c.in-Bad.ensures) (search rules) (cc)
