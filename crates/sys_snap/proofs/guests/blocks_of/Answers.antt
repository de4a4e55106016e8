use Rattle.std.proofs.Common.{◌-◌, ◌∙◌, sym, arith}
use Rattle.sys_snap.proofs.Placing.{cut_more}
use Rattle.sys_snap.proofs.guests.blocks_of.Goals as goal

pub loop-left-preserved : goal.loop-left-preserved
loop-left-preserved c = record {
  long = omega (arith, c.loop-left.invariant.long, c.split_at.ensures.back_len, c.loop-left-test.true);
  cut = sym (cut_more c.loop-left.all.items c.push.new.self.items c.copy_from_slice.new.self c.loop-left.rest.now c.split_at.result.1.now c.loop-left._left (c.loop-left._left - 1) (omega arith) (c.copy_from_slice.ensures.after ∙ c.split_at.ensures.front) c.split_at.ensures.back c.in_ok-push.ensures.items) ∙ c.loop-left.invariant.cut;
}
