use Rattle.std.proofs.Common.{ap, Some, set}
use Rattle.vm_shadow.proofs.records.Records.fill.Goals as goal

pub returns : goal.returns
returns c = ap (λ r. set r c.args.n (Some c.args.source)) c.self.view_is
