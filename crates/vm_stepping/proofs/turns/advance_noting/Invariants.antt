use Rattle.vm_stepping.specs.Advances.{Proceeds, to_do}
use Rattle.vm_stepping.specs.Made.{no_counts, underway}
use Rattle.vm_stepping.specs.Noted.{NotesOne}
use Rattle.vm_stepping.specs.Pays.{PaysOn}
use Rattle.vm_stepping.proofs.Running.{plain_left}
use Rattle.vm_stepping.proofs.turns.advance_noting.Given as goal

abbrev pub invariant-loop-left : goal.invariant-loop-left
invariant-loop-left g l =
    Proceeds g.T.Port.may (plain_left l.fn.steps) l.left (underway l.fn.port (g.H.Hardware.machine l.fn.machine) l.fn.s l.fn.g no_counts) (underway l.port (g.H.Hardware.machine l.machine) l.s l.g l.counts)
    × PaysOn (plain_left l.fn.steps) l.left (g.H.Hardware.machine l.fn.machine) l.fn.s l.fn.g (g.H.Hardware.machine l.machine) l.s l.g
    × NotesOne (plain_left l.fn.steps) l.left (g.H.Hardware.machine l.fn.machine) l.fn.g (g.H.Hardware.machine l.machine) l.g l.note

abbrev pub decreases-loop-left : goal.decreases-loop-left
decreases-loop-left g l = to_do l.left l.s
