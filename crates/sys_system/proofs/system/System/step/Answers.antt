use Rattle.std.proofs.Common.{◌≡◌, ◌<◌, ◌∙◌, ◌++◌, ◌+◌, ℕ, List, Option, refl, ap, sym, subst, length, arith}
use Rattle.std.specs.List.{slice_get}
use Rattle.std.specs.Prelude.{IfSome}
use Rattle.sys_guests.specs.Layout.{guests_in}
use Rattle.sys_guests.specs.declared.turns.TimeSlice.{TimeSlice}
use Rattle.sys_devices.proofs.Showings.{shows_same}
use Rattle.sys_devices.specs.Shows.{only_on}
use Rattle.sys_objects.specs.declared.records.Terminal.{Terminal}
use Rattle.sys_state.specs.Consoles.{console_of}
use Rattle.sys_state.specs.Slices.{Slice}
use Rattle.sys_system.proofs.Slices.{small_line, taken}
use Rattle.sys_system.proofs.Tellings.{few_shown, tells}
use Rattle.sys_system.proofs.Views.{describes_of, pays_of, takes_of}
use Rattle.sys_system.specs.Calls.{CanTake}
use Rattle.sys_system.specs.System.{IsInMachine, System}
use Rattle.sys_system.specs.declared.parts.Parts.{Parts}
use Rattle.sys_system.proofs.system.System.step.Goals as goal

pub show_each-requires : goal.show_each-requires
show_each-requires g c =
    let k = c.self.inside.parts.kernel in
    let console : c.console_of-console.result ≡ console_of k.config.terminals k.server.at c.args.guest = c.console_of-console.ensures ∙ ap (λ (ts : List Terminal). console_of ts k.server.at c.args.guest) c.as_slice-terminals.ensures in
    subst (λ (o : Option ℕ). IfSome o (λ line. line < 32)) (sym console) (small_line k.config.terminals k.server.at c.args.guest c.self.invariant.system.accepted.terminals)

pub returns-clause-takes : goal.returns-clause-takes
returns-clause-takes g c =
    let s = c.self.inside.parts in
    let k = s.kernel in
    let slice : Slice = record { guest = c.args.guest; steps = 1 } in
    let piece : TimeSlice = record { guest = c.args.guest; steps = 1 } in
    let stands = subst (IsInMachine (g.H.Hardware.machine c.args.machine.now).memory) (sym c.self.view_is) c.requires.stands in
    let can = subst (λ (x : System). CanTake x slice) (sym c.self.view_is) c.requires.can in
    let after : Parts = record s { kernel = record k { guests = c.step_at-once.new.guests; marks = c.show_each.new.marks; port = c.step_at-once.new.port }; turns = c.take.new.self; counts = c.add.new.total } in
    let console : c.console_of-console.result ≡ console_of k.config.terminals k.server.at c.args.guest = c.console_of-console.ensures ∙ ap (λ (ts : List Terminal). console_of ts k.server.at c.args.guest) c.as_slice-terminals.ensures in
    let shows = shows_same _ _ _ _ _ _ (λ line. ap (λ (bytes : List ℕ). only_on c.console_of-console.result bytes line) c.bytes.ensures.value) c.show_each.ensures in
    takes_of c.self.view_is
    (taken piece _ _ s after _ _ _ _ c.console_of-console.result c.self.invariant stands can (record { config = refl; server = refl; volumes = refl; rounds = refl; drives = refl }) c.step_at-once.ensures.advances c.add.ensures console shows c.take.ensures).0

pub invariant_of-self : goal.invariant_of-self
invariant_of-self g c =
    let s = c.self.inside.parts in
    let k = s.kernel in
    let slice : Slice = record { guest = c.args.guest; steps = 1 } in
    let piece : TimeSlice = record { guest = c.args.guest; steps = 1 } in
    let stands = subst (IsInMachine (g.H.Hardware.machine c.args.machine.now).memory) (sym c.self.view_is) c.requires.stands in
    let can = subst (λ (x : System). CanTake x slice) (sym c.self.view_is) c.requires.can in
    let after : Parts = record s { kernel = record k { guests = c.step_at-once.new.guests; marks = c.show_each.new.marks; port = c.step_at-once.new.port }; turns = c.take.new.self; counts = c.add.new.total } in
    let console : c.console_of-console.result ≡ console_of k.config.terminals k.server.at c.args.guest = c.console_of-console.ensures ∙ ap (λ (ts : List Terminal). console_of ts k.server.at c.args.guest) c.as_slice-terminals.ensures in
    let shows = shows_same _ _ _ _ _ _ (λ line. ap (λ (bytes : List ℕ). only_on c.console_of-console.result bytes line) c.bytes.ensures.value) c.show_each.ensures in
    (taken piece _ _ s after _ _ _ _ c.console_of-console.result c.self.invariant stands can (record { config = refl; server = refl; volumes = refl; rounds = refl; drives = refl }) c.step_at-once.ensures.advances c.add.ensures console shows c.take.ensures).1

pub returns-clause-holds : goal.returns-clause-holds
returns-clause-holds g c =
    let s = c.self.inside.parts in
    let k = s.kernel in
    let slice : Slice = record { guest = c.args.guest; steps = 1 } in
    let piece : TimeSlice = record { guest = c.args.guest; steps = 1 } in
    let stands = subst (IsInMachine (g.H.Hardware.machine c.args.machine.now).memory) (sym c.self.view_is) c.requires.stands in
    let can = subst (λ (x : System). CanTake x slice) (sym c.self.view_is) c.requires.can in
    let after : Parts = record s { kernel = record k { guests = c.step_at-once.new.guests; marks = c.show_each.new.marks; port = c.step_at-once.new.port }; turns = c.take.new.self; counts = c.add.new.total } in
    let console : c.console_of-console.result ≡ console_of k.config.terminals k.server.at c.args.guest = c.console_of-console.ensures ∙ ap (λ (ts : List Terminal). console_of ts k.server.at c.args.guest) c.as_slice-terminals.ensures in
    let shows = shows_same _ _ _ _ _ _ (λ line. ap (λ (bytes : List ℕ). only_on c.console_of-console.result bytes line) c.bytes.ensures.value) c.show_each.ensures in
    (taken piece _ _ s after _ _ _ _ c.console_of-console.result c.self.invariant stands can (record { config = refl; server = refl; volumes = refl; rounds = refl; drives = refl }) c.step_at-once.ensures.advances c.add.ensures console shows c.take.ensures).1.system

pub returns-clause-pays : goal.returns-clause-pays
returns-clause-pays g c =
    let slice : Slice = record { guest = c.args.guest; steps = 1 } in
    let memory = (g.H.Hardware.machine c.args.machine.now).memory in
    pays_of slice memory c.self.view_is c.step_at-once.ensures.pays

pub append-requires : goal.append-requires
append-requires g c =
    let memory = (g.H.Hardware.machine c.args.machine.now).memory in
    let shown = c.bytes-2.ensures.value ∙ c.step_at-once.ensures.advances.shown in
    omega (arith, ap length c.new-shown.ensures, ap length shown, few_shown (slice_get (guests_in memory c.self.inside.parts.kernel.guests.items) c.args.guest))

pub returns-clause-tells : goal.returns-clause-tells
returns-clause-tells g c =
    let memory = (g.H.Hardware.machine c.args.machine.now).memory in
    let shown = c.append.ensures.written ∙ ap (λ (xs : List ℕ). xs ++ c.bytes-2.result.now) c.new-shown.ensures ∙ c.bytes-2.ensures.value ∙ c.step_at-once.ensures.advances.shown in
    describes_of memory c.args.guest _ c.self.view_is
    (tells (slice_get (guests_in memory c.self.inside.parts.kernel.guests.items) c.args.guest) _ c.step_at-once.ensures.advances.counts c.step_at-once.ensures.note shown)
