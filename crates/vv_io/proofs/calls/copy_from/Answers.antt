use Rattle.std.proofs.Common.{refl}
use Rattle.vv_io.proofs.Keyboards.{copied}
use Rattle.vv_io.proofs.calls.copy_from.Goals as goal

pub returns : goal.returns
returns c = copied c.args.shown.now _ _ _ c.min-from.result c.args.place c.min-count.result c.min-from.ensures refl c.min-count.ensures c.copy_from_slice.ensures.after
