-- The encoding of the edge, and its inputs.
use Rattle.std.proofs.Common.{[]}
use Rattle.eco_tseitin.proofs.Growing.{no_growth}
use Rattle.eco_accept.proofs.Questions.{function_is}
use Rattle.eco_accept.proofs.posing.function_of.Goals as goal

pub returns : goal.returns
returns c =
    let graph = c.args.aig.now in
    let encoded = c.in_ok-root.ensures.encoding graph [] [] (c.new-encoder.ensures.encoding graph c.nodes.ensures.graph) (no_growth graph) in
    function_is graph c.args.root c.args.shared.now (record { cnf = c.finish-cnf.result; root = c.in_ok-root.root; inputs = c.in_ok-inputs.inputs }) c.encode.new.self encoded c.in_ok-root.ensures.literal c.finish-cnf.ensures.clauses c.finish-cnf.ensures.few c.clauses.ensures.formed c.in_ok-inputs.ensures
