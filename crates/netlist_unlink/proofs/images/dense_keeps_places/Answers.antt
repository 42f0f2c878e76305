use Rattle.netlist_unlink.proofs.ImagesPlaces.{dense_keeps_places}
use Rattle.netlist_unlink.proofs.images.dense_keeps_places.Goals as goal

pub returns : goal.returns
returns c = dense_keeps_places c.numbers_of_a_dense_netlist.ensures
