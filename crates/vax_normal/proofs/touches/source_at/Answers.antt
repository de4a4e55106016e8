use Rattle.std.proofs.Common.{◌%◌, ◌^◌, ℕ, ap, sym, ◌∙◌, arith}
use Rattle.vax_normal.proofs.Sources.{source_same, stays_over}
use Rattle.vax_normal.proofs.Touching.{had_value}
use Rattle.vax_normal.proofs.touches.source_at.Goals as goal

pub returns : goal.returns
returns c = λ v u at r q moved.
    let n = c.in_ok-source.source in
    let xs = c.args.operands.now in
    let stays = stays_over n.number xs (sym c.if-not-is_kept_over_all.ensures) in
    let has = had_value n.number r q v u at c.args.i xs c.index-operands-i.result (omega arith) moved stays c.if-i-operands.false c.requires c.index-operands-i.is in
    ap (λ (m : ℕ). m % 2 ^ 32) has.2 ∙ c.in_ok-source.ensures v u has.0 ∙ source_same n v u r has.0 has.1
