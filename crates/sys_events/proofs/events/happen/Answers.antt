use Rattle.std.proofs.Common.{[], arith}
use Rattle.sys_events.proofs.Happening.{all_happened, none_yet, one_more}
use Rattle.sys_events.proofs.Touching.{all_so, one_more_so}
use Rattle.sys_events.proofs.events.happen.Goals as goal

pub loop-event-init : goal.loop-event-init
loop-event-init g c = record { happen = none_yet _ c.args.kernel.now _ c.args.round c.args.events.now c.requires; present = λ x ts all. all }

pub happen_one-requires : goal.happen_one-requires
happen_one-requires g c = (c.loop-event.invariant.happen []).holds

pub loop-event-preserved : goal.loop-event-preserved
loop-event-preserved g c = record {
  happen = one_more _ _ _ c.args.kernel.now _ _ _ _ _ c.args.round c.args.events.now c.loop-event.event-index _ (omega arith) c.event-item.is c.loop-event.invariant.happen c.happen_one.ensures.happens;
  present = one_more_so _ _ _ c.args.kernel.now _ _ _ _ _ c.args.round c.args.events.now c.loop-event.event-index _ (omega arith) c.event-item.is c.loop-event.invariant.happen c.happen_one.ensures.happens c.loop-event.invariant.present c.happen_one.ensures.present;
}

pub returns-clause-happen : goal.returns-clause-happen
returns-clause-happen g c = all_happened _ _ c.args.kernel.now _ _ _ c.args.round c.args.events.now c.loop-event.event-index (omega arith) c.loop-event.invariant.happen

pub returns-clause-present : goal.returns-clause-present
returns-clause-present g c = all_so (g.H.Hardware.machine c.args.machine.now) c.args.kernel.now c.loop-event.kernel.guests.items c.args.round c.args.events.now c.loop-event.event-index (omega arith) c.loop-event.invariant.present
