use Rattle.test_sys.proofs.Seats.{slices_there}
use Rattle.test_sys.proofs.running.take_one.Goals as goal

pub take_slices-requires-clause-there : goal.take_slices-requires-clause-there
take_slices-requires-clause-there g c = slices_there c.args.system.now.config _ c.args.system.now.guests c.args.slices.now c.requires.stands c.requires.slices
