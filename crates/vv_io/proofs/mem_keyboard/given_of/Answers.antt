use Rattle.vv_io.proofs.Keyboards.{first_of}
use Rattle.vv_io.proofs.mem_keyboard.given_of.Goals as goal

pub returns : goal.returns
returns c = first_of _ _ c.args.line.now c.min.result c.new-given.ensures c.min.ensures c.append.ensures.written
