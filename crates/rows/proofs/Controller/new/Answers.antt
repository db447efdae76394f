-- `Controller::new`: well-formed rows are at most 2,048, so that their places are found. Assumes nothing.
use Rattle.meaning.proofs.Formed.{formed}
use Rattle.rows.proofs.Controller.new.Goals as goal

pub places-requires : goal.places-requires
places-requires c = (formed c.args.rows.now c.requires).few
