use Rattle.std.proofs.Common.{◌≡◌, ◌∙◌, length, arith, ap}
use Rattle.sys_flow.specs.Reach.{all_objects}
use Rattle.sys_flow.specs.Relation.{reads}
use Rattle.sys_flow.proofs.Paths.{edges_first, pass_on, sound_last, complete_last}
use Rattle.sys_flow.proofs.Rows.{refilled}
use Rattle.sys_flow.proofs.closing.reach.Goals as goal

pub loop-k-init : goal.loop-k-init
loop-k-init c = (c.rows-rows.ensures.len, edges_first c.args.c.now (reads c.rows-rows.result.items) c.rows-rows.ensures.value)

pub loop-k-preserved : goal.loop-k-preserved
loop-k-preserved c =
    let len : length c.pass.new.rows ≡ length c.loop-k.rows.items = c.pass.ensures.len ∙ ap length c.as_mut_slice.ensures.value in
    let passed = rw c.as_mut_slice.ensures.value at c.pass.ensures.value in
    rw (refilled c.loop-k.rows.items c.pass.new.rows len)
    (len ∙ c.loop-k.invariant.0, pass_on c.args.c.now c.loop-k.k (reads c.loop-k.rows.items) (reads c.pass.new.rows) c.loop-k.invariant.1 passed)

pub returns : goal.returns
returns c =
    let config = c.args.c.now in
    let rows = c.loop-k.rows.items in
    let last : c.loop-k.k ≡ length (all_objects config) = omega (arith, c.count-objects.ensures.value) in
    rw c.of_rows.ensures
    (record {
      objects = c.loop-k.invariant.0 ∙ c.count-objects.ensures.value;
      sound = sound_last config (reads rows) c.loop-k.k last c.loop-k.invariant.1;
      complete = complete_last config (reads rows) c.loop-k.k last c.loop-k.invariant.1;
    })
