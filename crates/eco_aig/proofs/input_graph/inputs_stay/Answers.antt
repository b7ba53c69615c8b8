-- The law is proved in its own file.
use Rattle.eco_aig.proofs.InputEdges.{inputs_stay}
use Rattle.eco_aig.proofs.input_graph.inputs_stay.Goals as goal

pub returns : goal.returns
returns c = inputs_stay
