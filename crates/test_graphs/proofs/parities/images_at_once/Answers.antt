-- Nothing is known yet, which is true of each graph.
use Rattle.test_graphs.proofs.parities.images_at_once.Goals as goal

pub reduced-images-requires : goal.reduced-images-requires
reduced-images-requires c = c.new-forms.ensures.formed c.args.aig.now
