use Rattle.std.proofs.Common.{◌∙◌, ◌+◌, ◌*◌, ◌<◌, sym, subst}
use Rattle.vm_stepping.specs.Guarded.{clear_bits}
use Rattle.vm_stepping.proofs.Completing.{first_try}
use Rattle.vm_stepping.proofs.Tried.{as_clear, can_close, left_clear, may_allow, runs_some, still_runs, then_fewer, tried_again, tried_there}
use Rattle.vm_stepping.proofs.guarded.+complete.Goals as goal

pub complete-returns-in_default : goal.complete-returns-in_default
complete-returns-in_default g t c = λ opened k. first_try opened (g.H.Hardware.machine c.args.machine.now) c.args.s.now c.args.g.now k (g.H.Hardware.machine c.run-exit.new.self) c.run-exit.result c.run-exit.ensures c.in_default.not-Modify

pub complete-returns-then-is_clear : goal.complete-returns-then-is_clear
complete-returns-then-is_clear g t c = λ opened k. left_clear opened (g.H.Hardware.machine c.args.machine.now) c.args.s.now c.args.g.now k (g.H.Hardware.machine c.run-exit.new.self) c.run-exit.result c.in-Modify.va c.run-exit.ensures c.in-Modify.is (sym c.is_clear.ensures ∙ c.if-is_clear.true)

pub complete-complete_written-requires : goal.complete-complete_written-requires
complete-complete_written-requires g t c κs within =
    (subst (λ x. 2 * clear_bits (g.H.Hardware.machine c.run-exit.new.self).memory c.args.s.now < x) c.decreases (as_clear c.requires.opened (g.H.Hardware.machine c.args.machine.now) c.args.s.now c.args.g.now c.requires.runs (g.H.Hardware.machine c.run-exit.new.self) c.run-exit.result c.in-Modify.va c.run-exit.ensures c.in-Modify.is), (within, (still_runs c.requires.opened (g.H.Hardware.machine c.args.machine.now) c.args.s.now c.args.g.now c.requires.runs (g.H.Hardware.machine c.run-exit.new.self) c.run-exit.result c.in-Modify.va c.run-exit.ensures c.in-Modify.is, may_allow c.requires.opened (g.H.Hardware.machine c.args.machine.now) c.args.s.now c.args.g.now c.requires.runs (g.H.Hardware.machine c.run-exit.new.self) c.run-exit.result c.in-Modify.va c.run-exit.ensures c.in-Modify.is (sym c.is_clear.ensures ∙ c.if-is_clear.false))))

pub complete-returns : goal.complete-returns
complete-returns g t c = λ opened k. tried_there opened (g.H.Hardware.machine c.args.machine.now) c.args.s.now c.args.g.now k (g.H.Hardware.machine c.run-exit.new.self) c.run-exit.result c.in-Modify.va c.run-exit.ensures c.in-Modify.is (g.H.Hardware.machine c.complete_written.new.machine) c.complete_written.new.s c.complete_written.result c.complete_written.ensures

pub complete_written-complete-exit-requires : goal.complete_written-complete-exit-requires
complete_written-complete-exit-requires g t c κs within =
    (subst (λ x. 2 * clear_bits (g.H.Hardware.machine c.allow-frame.new.machine).memory c.allow-frame.new.s + 1 < x) c.decreases (then_fewer c.requires.runs.opened (g.H.Hardware.machine c.args.machine.now) c.args.s.now c.args.g.now c.args.va c.requires.runs.runs c.requires.written.unwritten (g.H.Hardware.machine c.allow-frame.new.machine) c.allow-frame.new.s c.allow-frame.result c.allow-frame.ensures), (within, runs_some c.requires.runs.opened (g.H.Hardware.machine c.args.machine.now) c.args.s.now c.args.g.now c.args.va c.requires.runs.runs c.requires.written.unwritten (g.H.Hardware.machine c.allow-frame.new.machine) c.allow-frame.new.s c.allow-frame.result c.allow-frame.ensures))

pub complete_written-close_after-requires-clause-keeps : goal.complete_written-close_after-requires-clause-keeps
complete_written-close_after-requires-clause-keeps g t c = can_close c.requires.runs.opened (g.H.Hardware.machine c.args.machine.now) c.args.s.now c.args.g.now c.args.va c.requires.runs.runs c.requires.written.unwritten (g.H.Hardware.machine c.allow-frame.new.machine) c.allow-frame.new.s c.allow-frame.result c.allow-frame.ensures (g.H.Hardware.machine c.complete-exit.new.machine) c.complete-exit.new.s c.complete-exit.result c.complete-exit.ensures

pub complete_written-returns : goal.complete_written-returns
complete_written-returns g t c = λ opened k. tried_again opened (g.H.Hardware.machine c.args.machine.now) c.args.s.now c.args.g.now c.args.va k c.requires.written.unwritten (g.H.Hardware.machine c.allow-frame.new.machine) c.allow-frame.new.s c.allow-frame.result c.allow-frame.ensures (g.H.Hardware.machine c.complete-exit.new.machine) c.complete-exit.new.s c.complete-exit.result c.complete-exit.ensures (g.H.Hardware.machine c.close_after.new.machine) c.close_after.new.s c.close_after.ensures
