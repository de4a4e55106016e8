use Rattle.sys_devices.proofs.Whole.{all_pieces}
use Rattle.sys_devices.proofs.piece.pieces_law.Goals as goal

pub returns : goal.returns
returns c = all_pieces
