-- Nothing is known yet, which is true of each graph.
use Rattle.test_graphs.proofs.parities.images_apart.Goals as goal

pub reduced_apart-images-requires : goal.reduced_apart-images-requires
reduced_apart-images-requires c = c.new-forms.ensures.formed c.args.aig.now
