use Rattle.std.proofs.Common.{◌<◌, ◌^◌, ◌∙◌, arith}
use Rattle.vax_paged.proofs.Puts.{put_after}
use Rattle.vax_paged.specs.Paged.{written_place}
use Rattle.vax_paged.proofs.entries.Paged.add_store.Goals as goal

pub loop-left-preserved : goal.loop-left-preserved
loop-left-preserved c =
    let small : c.loop-left.va < 2 ^ 32 = omega arith in
    record {
      items = put_after (written_place c.args.self.now.memory.now c.args.self.now.world.now) c.loop-left._left c.loop-left.va c.loop-left.rest c.place_or_end.result c.loop-left.puts.items c.push.new.self.items (omega arith) small c.place_or_end.ensures c.push.ensures.items ∙ c.loop-left.invariant.items;
      room = omega (arith, c.push.ensures.len);
    }
