use Rattle.std.proofs.Common.{◌∙◌, ap, ◌++◌}
use Rattle.vm_state.specs.State.{State, state_of}
use Rattle.sys_snap.specs.Written.{base_bytes, clock_bytes, console_bytes, end_bytes, guest_record_bytes, level_bytes, queue_bytes, register_bytes}
use Rattle.sys_snap.proofs.Pieces.{seven_pieces}
use Rattle.sys_snap.proofs.record.guest_record.Goals as goal

pub returns-clause-is : goal.returns-clause-is
unfolding guest_record_bytes
returns-clause-is c =
    let s : State = state_of c.args.g.now in
    let rest = base_bytes s ++ (level_bytes s ++ (clock_bytes s.clock ++ (console_bytes s.console ++ (queue_bytes s ++ end_bytes s)))) in
    c.copy_from_slice.ensures.after ∙ c.bytes.ensures.value ∙ c.add_end.ensures.written
    ∙ ap (λ t. t ++ end_bytes s) (c.add_queue.ensures.written
    ∙ ap (λ t. t ++ queue_bytes s) (c.add_console.ensures.written
    ∙ ap (λ t. t ++ console_bytes s.console) (c.add_clock.ensures.written
    ∙ ap (λ t. t ++ clock_bytes s.clock) (c.add_levels.ensures.written
    ∙ ap (λ t. t ++ level_bytes s) (c.add_bases.ensures.written
    ∙ ap (λ t. t ++ base_bytes s) c.add_registers.ensures.written)))))
    ∙ seven_pieces c.new-text.result (register_bytes s) (base_bytes s) (level_bytes s) (clock_bytes s.clock) (console_bytes s.console) (queue_bytes s) (end_bytes s)
    ∙ ap (λ o. o ++ (register_bytes s ++ rest)) c.new-text.ensures

pub returns-clause-sound : goal.returns-clause-sound
returns-clause-sound c = record {
  sixteen = c.add_registers.ensures.sixteen;
  five = c.add_registers.ensures.five;
  clock = c.add_clock.ensures.is;
  console = c.add_console.ensures.is;
  few_bytes = c.add_console.ensures.few;
}
