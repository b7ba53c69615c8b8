use Rattle.eco_tseitin.proofs.Modelled.{encoding_modelled, modelled_with}
use Rattle.eco_tseitin.proofs.encoder.Encoder.finish.Goals as goal

pub returns-clause-node_models : goal.returns-clause-node_models
returns-clause-node_models c = λ graph roots asserted is. encoding_modelled graph roots asserted _ is

pub returns-clause-models : goal.returns-clause-models
returns-clause-models c = λ graph roots asserted is. modelled_with graph roots asserted _ is
