use Rattle.std.proofs.Common.{refl, ap, subst, sym}
use Rattle.sys_guests.specs.Layout.{guests_in}
use Rattle.sys_guests.specs.Present.{KeepsAll}
use Rattle.sys_state.specs.FirstTouches.{touches_of_transfers}
use Rattle.sys_system.proofs.Insides.{ended, kernel_holds}
use Rattle.sys_system.proofs.Views.{ends_of}
use Rattle.sys_system.specs.Held.{turns_of}
use Rattle.sys_system.specs.System.{IsInMachine, System}
use Rattle.sys_system.specs.declared.parts.Parts.{Parts}
use Rattle.sys_system.specs.declared.turns.Turns.{Turns}
use Rattle.sys_system.proofs.system.System.end_round.Goals as goal

pub transfer-requires-clause-holds : goal.transfer-requires-clause-holds
transfer-requires-clause-holds g c = kernel_holds _ c.self.inside.parts c.self.invariant (subst (IsInMachine (g.H.Hardware.machine c.args.machine.now).memory) (sym c.self.view_is) c.requires.stands)

pub returns-clause-ends : goal.returns-clause-ends
returns-clause-ends g c =
    let s = c.self.inside.parts in
    let after : Parts = record s { kernel = c.transfer.new.kernel; volumes = c.transfer.new.volumes; turns = c.end.new.self } in
    ends_of c.self.view_is
    (ended _ _ s after _ _ c.self.invariant (ap (λ (t : Turns). turns_of t) c.end.ensures) refl refl refl c.transfer.ensures.sizes c.transfer.ensures.leads).0

pub invariant_of-self : goal.invariant_of-self
invariant_of-self g c =
    let s = c.self.inside.parts in
    let after : Parts = record s { kernel = c.transfer.new.kernel; volumes = c.transfer.new.volumes; turns = c.end.new.self } in
    (ended _ _ s after _ _ c.self.invariant (ap (λ (t : Turns). turns_of t) c.end.ensures) refl refl refl c.transfer.ensures.sizes c.transfer.ensures.leads).1

pub returns-clause-holds : goal.returns-clause-holds
returns-clause-holds g c =
    let s = c.self.inside.parts in
    let after : Parts = record s { kernel = c.transfer.new.kernel; volumes = c.transfer.new.volumes; turns = c.end.new.self } in
    (ended _ _ s after _ _ c.self.invariant (ap (λ (t : Turns). turns_of t) c.end.ensures) refl refl refl c.transfer.ensures.sizes c.transfer.ensures.leads).1.system

pub returns-clause-present : goal.returns-clause-present
returns-clause-present g c =
    let memory = (g.H.Hardware.machine c.args.machine.now).memory in
    subst (λ (x : System). KeepsAll (touches_of_transfers x.config x.config.guests x.mounts (guests_in memory x.guests) x.volumes) x.guests c.transfer.new.kernel.guests.items) c.self.view_is c.transfer.ensures.present
