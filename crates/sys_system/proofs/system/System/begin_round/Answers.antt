use Rattle.std.proofs.Common.{◌≡◌, ◌<◌, ◌+◌, ◌∙◌, List, refl, ap, subst, sym}
use Rattle.sys_guests.specs.Present.{KeepsAll}
use Rattle.sys_objects.specs.declared.records.GuestRow.{GuestRow}
use Rattle.sys_state.specs.FirstTouches.{touches_of_events}
use Rattle.sys_system.proofs.Insides.{begun, kernel_holds}
use Rattle.sys_system.proofs.Views.{begins_of}
use Rattle.sys_system.specs.Held.{turns_of}
use Rattle.sys_system.specs.System.{IsInMachine, System, all_turns, system_state}
use Rattle.sys_system.specs.declared.parts.Parts.{Parts}
use Rattle.sys_system.proofs.system.System.begin_round.Goals as goal

pub happen-requires : goal.happen-requires
happen-requires g c = kernel_holds _ c.self.inside.parts c.self.invariant (subst (IsInMachine (g.H.Hardware.machine c.args.machine.now).memory) (sym c.self.view_is) c.requires.stands)

pub returns-clause-begins : goal.returns-clause-begins
returns-clause-begins g c =
    let s = c.self.inside.parts in
    let after : Parts = record s { kernel = c.happen.new.kernel; turns = c.begin.new.self; rounds = s.rounds + 1 } in
    let turns : turns_of c.begin.new.self ≡ all_turns s.kernel.config.guests = c.begin.ensures ∙ ap (λ (rows : List GuestRow). all_turns rows) c.as_slice.ensures in
    begins_of c.self.view_is
    (begun c.args.events.now _ _ s after _ _ c.self.invariant (subst (λ (x : System). x.rounds < 4000000000) (sym c.self.view_is) c.requires.few) turns refl refl refl refl c.happen.ensures.happen).0

pub invariant_of-self : goal.invariant_of-self
invariant_of-self g c =
    let s = c.self.inside.parts in
    let after : Parts = record s { kernel = c.happen.new.kernel; turns = c.begin.new.self; rounds = s.rounds + 1 } in
    let turns : turns_of c.begin.new.self ≡ all_turns s.kernel.config.guests = c.begin.ensures ∙ ap (λ (rows : List GuestRow). all_turns rows) c.as_slice.ensures in
    (begun c.args.events.now _ _ s after _ _ c.self.invariant (subst (λ (x : System). x.rounds < 4000000000) (sym c.self.view_is) c.requires.few) turns refl refl refl refl c.happen.ensures.happen).1

pub returns-clause-holds : goal.returns-clause-holds
returns-clause-holds g c =
    let s = c.self.inside.parts in
    let after : Parts = record s { kernel = c.happen.new.kernel; turns = c.begin.new.self; rounds = s.rounds + 1 } in
    let turns : turns_of c.begin.new.self ≡ all_turns s.kernel.config.guests = c.begin.ensures ∙ ap (λ (rows : List GuestRow). all_turns rows) c.as_slice.ensures in
    (begun c.args.events.now _ _ s after _ _ c.self.invariant (subst (λ (x : System). x.rounds < 4000000000) (sym c.self.view_is) c.requires.few) turns refl refl refl refl c.happen.ensures.happen).1.system

pub returns-clause-present : goal.returns-clause-present
returns-clause-present g c =
    let memory = (g.H.Hardware.machine c.args.machine.now).memory in
    subst (λ (x : System). KeepsAll (touches_of_events x.config (x.rounds + 1) (system_state memory x) c.args.events.now) x.guests c.happen.new.kernel.guests.items) c.self.view_is (c.happen.ensures.present c.self.inside.parts.volumes)
