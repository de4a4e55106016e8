use Rattle.std.proofs.Common.{arith}
use Rattle.vv_io.specs.Lines.{Puts}
use Rattle.vv_io.proofs.OneOf.{one_of}
use Rattle.vv_io.proofs.line_list.LineListLines.put_on.Goals as goal

pub returns : goal.returns
returns g c = one_of _ (λ s t. Puts s t c.args.bytes.now c.put.result) _ _ _ _ _ (omega (arith, c.args.self.now.all, c.requires)) c.index_mut-one.ensures.value c.put.ensures
