use Rattle.std.proofs.Common.{arith, ◌∙◌, ◌+◌, ap, map, sym}
use Rattle.vm_exception.specs.Pushed.{home_of, walked_of}
use Rattle.vm_state.specs.Partition.{guest_of}
use Rattle.vm_state.specs.Pushes as pushes
use Rattle.vm_state.specs.Pushes.{pointer_after}
use Rattle.vm_state.specs.State.{pointer_of, state_of}
use Rattle.vm_exception.proofs.Arriving.{arrives, bad_vector, faulty_stack, homes_proper, past_stack, past_vector, walked_as}
use Rattle.vm_exception.proofs.attempts.take.Goals as goal

pub returns-then-from-at : goal.returns-then-from-at
returns-then-from-at g c = past_vector c.args.e (g.H.Hardware.machine c.args.machine.now) c.args.s.now c.args.g.now c.requires.stands (c.from.result + c.from-2.result) (λ i. (c.from.ensures i) + ((c.from-2.ensures ∙ c.vector_offset.ensures.is) i)) (omega (arith, c.if-from-at.true, c.from-3.ensures))

pub returns-then-is_bad_vector : goal.returns-then-is_bad_vector
returns-then-is_bad_vector g c = bad_vector c.args.e (g.H.Hardware.machine c.args.machine.now) c.args.s.now c.args.g.now c.requires.stands (c.from.result + c.from-2.result) c.read_long-vector.result (λ i. (c.from.ensures i) + ((c.from-2.ensures ∙ c.vector_offset.ensures.is) i)) (omega (arith, c.if-from-at.false, c.from-3.ensures)) c.read_long-vector.ensures.value (sym c.is_bad_vector.ensures ∙ c.if-is_bad_vector.true)

pub push-requires-clause-homes : goal.push-requires-clause-homes
push-requires-clause-homes g c = homes_proper c.args.e (g.H.Hardware.machine c.args.machine.now) c.args.s.now c.args.g.now c.requires.stands (c.from.result + c.from-2.result) c.read_long-vector.result (λ i. (c.from.ensures i) + ((c.from-2.ensures ∙ c.vector_offset.ensures.is) i)) (omega (arith, c.if-from-at.false, c.from-3.ensures)) c.read_long-vector.ensures.value c.pointer-sp.result c.longwords-longs.result.items (map home_of c.deref-in-Homes.result.now) (walked_as (guest_of ((g.H.Hardware.machine c.args.machine.now)).memory c.args.g.now) c.new_mode.result _ c.pointer-sp.result c.deref.result.now c.longwords-longs.result.items _ (walked_of c.walk_pushes.result) (ap (λ x. pushes.Homes (map home_of x)) c.deref-in-Homes.ensures.0 ∙ sym (ap walked_of c.in-Homes.is)) c.walk_pushes.ensures c.new_mode.ensures c.deref.ensures.0)

pub returns-in-Homes : goal.returns-in-Homes
returns-in-Homes g c = arrives c.args.e (g.H.Hardware.machine c.args.machine.now) c.args.s.now c.args.g.now c.requires.stands (c.from.result + c.from-2.result) c.read_long-vector.result (λ i. (c.from.ensures i) + ((c.from-2.ensures ∙ c.vector_offset.ensures.is) i)) (omega (arith, c.if-from-at.false, c.from-3.ensures)) c.read_long-vector.ensures.value c.pointer-sp.result c.longwords-longs.result.items (map home_of c.deref-in-Homes.result.now) (g.H.Hardware.machine c.push.new.machine) c.push.new.s c.begin.new.g c.pointer_after.result c.requires.proper (sym c.is_bad_vector.ensures ∙ c.if-is_bad_vector.false) (c.pointer-sp.ensures ∙ ap (pointer_of (state_of c.args.g.now)) c.new_stack.ensures.is) c.longwords-longs.ensures.is (walked_as (guest_of ((g.H.Hardware.machine c.args.machine.now)).memory c.args.g.now) c.new_mode.result _ c.pointer-sp.result c.deref.result.now c.longwords-longs.result.items _ (walked_of c.walk_pushes.result) (ap (λ x. pushes.Homes (map home_of x)) c.deref-in-Homes.ensures.0 ∙ sym (ap walked_of c.in-Homes.is)) c.walk_pushes.ensures c.new_mode.ensures c.deref.ensures.0)
    c.push.ensures (c.pointer_after.ensures ∙ ap (pointer_after c.pointer-sp.result) c.deref-in-Homes-2.ensures.0) c.begin.ensures.state c.begin.ensures.place

pub returns-in-Faulty : goal.returns-in-Faulty
returns-in-Faulty g c = faulty_stack c.args.e (g.H.Hardware.machine c.args.machine.now) c.args.s.now c.args.g.now c.requires.stands (c.from.result + c.from-2.result) c.read_long-vector.result (λ i. (c.from.ensures i) + ((c.from-2.ensures ∙ c.vector_offset.ensures.is) i)) (omega (arith, c.if-from-at.false, c.from-3.ensures)) c.read_long-vector.ensures.value c.pointer-sp.result c.in-Faulty.field-0 c.longwords-longs.result.items c.uses_interrupt_stack.result (sym c.is_bad_vector.ensures ∙ c.if-is_bad_vector.false) (c.pointer-sp.ensures ∙ ap (pointer_of (state_of c.args.g.now)) c.new_stack.ensures.is) c.longwords-longs.ensures.is (walked_as (guest_of ((g.H.Hardware.machine c.args.machine.now)).memory c.args.g.now) c.new_mode.result _ c.pointer-sp.result c.deref.result.now c.longwords-longs.result.items _ (walked_of c.walk_pushes.result) (sym (ap walked_of c.in-Faulty.is)) c.walk_pushes.ensures c.new_mode.ensures c.deref.ensures.0) c.uses_interrupt_stack.ensures

pub returns-in-PastMemory : goal.returns-in-PastMemory
returns-in-PastMemory g c = past_stack c.args.e (g.H.Hardware.machine c.args.machine.now) c.args.s.now c.args.g.now c.requires.stands (c.from.result + c.from-2.result) c.read_long-vector.result (λ i. (c.from.ensures i) + ((c.from-2.ensures ∙ c.vector_offset.ensures.is) i)) (omega (arith, c.if-from-at.false, c.from-3.ensures)) c.read_long-vector.ensures.value c.pointer-sp.result c.longwords-longs.result.items (sym c.is_bad_vector.ensures ∙ c.if-is_bad_vector.false) (c.pointer-sp.ensures ∙ ap (pointer_of (state_of c.args.g.now)) c.new_stack.ensures.is) c.longwords-longs.ensures.is (walked_as (guest_of ((g.H.Hardware.machine c.args.machine.now)).memory c.args.g.now) c.new_mode.result _ c.pointer-sp.result c.deref.result.now c.longwords-longs.result.items _ (walked_of c.walk_pushes.result) (sym (ap walked_of c.in-PastMemory.is)) c.walk_pushes.ensures c.new_mode.ensures c.deref.ensures.0)
