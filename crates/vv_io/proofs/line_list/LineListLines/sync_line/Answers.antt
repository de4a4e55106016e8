use Rattle.std.proofs.Common.{arith}
use Rattle.vv_io.specs.Lines.{Syncs}
use Rattle.vv_io.proofs.OneOf.{one_of}
use Rattle.vv_io.proofs.line_list.LineListLines.sync_line.Goals as goal

pub returns : goal.returns
returns g c = one_of _ (λ s t. Syncs s t c.sync.result) _ _ _ _ _ (omega (arith, c.args.self.now.all, c.requires)) c.index_mut-one.ensures.value c.sync.ensures
