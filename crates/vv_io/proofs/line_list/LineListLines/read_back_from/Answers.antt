use Rattle.vv_io.proofs.OneOf.{stays_of}
use Rattle.vv_io.proofs.line_list.LineListLines.read_back_from.Goals as goal

pub returns-clause-stays : goal.returns-clause-stays
returns-clause-stays g c = stays_of _ _ _ _ _ c.index_mut-one.ensures.value c.read_back.ensures.stays
