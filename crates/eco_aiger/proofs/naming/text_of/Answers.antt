use Rattle.std.proofs.Common.{[]}
use Rattle.eco_aiger.proofs.NameLaws.{text_found, text_missing}
use Rattle.eco_aiger.proofs.naming.text_of.Goals as goal

pub returns-in-Some : goal.returns-in-Some
returns-in-Some c = text_found c.args.symbols.now c.args.named.now.keys c.args.port c.in-Some.place _ c.requires c.in-Some.ensures.index

pub returns-in-None : goal.returns-in-None
returns-in-None c = text_missing c.args.symbols.now c.args.named.now.keys c.args.port (record { port = 0; text = record { ref_ptr = (0, 0); now = [] } }) c.requires c.in-None.ensures.index
