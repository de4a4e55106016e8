use Rattle.std.proofs.Common.{ap, ◌∙◌}
use Rattle.vax_table.specs.Effects.{put}
use Rattle.vax_table.specs.declared.act.Dest.{Dest}
use Rattle.vax_normal.proofs.Taking.{dest_at}
use Rattle.vax_normal.proofs.make.register_at.Goals as goal

pub returns : goal.returns
returns c = λ q w v e.
    ap (λ (d : Dest). put d w v e) (dest_at q c.args.i c.args.operands.now c.index-operands-i.result c.if-i-operands.false c.requires c.index-operands-i.is) ∙ c.register_of.ensures w v e
