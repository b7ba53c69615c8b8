use Rattle.eco_plain.proofs.Embedding.{gates_text_is_text}
use Rattle.eco_plain.proofs.gates_are_verilog.Goals as goal

pub returns : goal.returns
returns c = record { text = gates_text_is_text }
