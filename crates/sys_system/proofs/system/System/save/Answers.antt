use Rattle.std.proofs.Common.{List, refl, subst, take, false, true, is_err}
use Rattle.std.specs.Prelude.{flat_map}
use Rattle.sys_guests.specs.Layout.{guests_in}
use Rattle.sys_devices.proofs.Puts.{begun, ends, hands_on, stops}
use Rattle.sys_devices.specs.ShownSince.{ShownSince}
use Rattle.sys_output.specs.Parts.{head_bytes, unit_bytes}
use Rattle.sys_snap.specs.Written.{guest_bytes, seat_bytes, snap_bytes}
use Rattle.sys_system.proofs.Snapshot.{from_guests, from_mounts, from_seats, guests_on, guests_shown, head_shown, mounts_on, mounts_shown, parts_of, seats_on, seats_shown, volumes_on}
use Rattle.sys_system.specs.Held.{system_of}
use Rattle.sys_system.specs.System.{System, moment_of}
use Rattle.vm_guest.specs.Kept.{Kept}
use Rattle.sys_system.proofs.system.System.save.Goals as goal

pub returns-in_err-put_head-clause-shown : goal.returns-in_err-put_head-clause-shown
returns-in_err-put_head-clause-shown g c =
    let memory = (g.H.Hardware.machine c.args.machine.now).memory in
    let text = c.args.config_text.now in
    let m = moment_of memory (system_of c.self.inside.parts) in
    let start = g.O.Sink.printed c.args.out.now in
    let one = g.O.Sink.printed c.put_head.new.out in
    subst (λ (s : System). ShownSince (is_err c.from_residual.result) start one (snap_bytes text (moment_of memory s))) c.self.view_is
    (stops _ start start one (snap_bytes text m) (head_bytes text m.made) (from_seats m) (snap_bytes text m) (hands_on _ c.from_residual.result c.from_residual.ensures.1) (parts_of text m) (begun start (snap_bytes text m)) c.in_err-put_head.ensures)

pub returns-in_err-put_seats-clause-shown : goal.returns-in_err-put_seats-clause-shown
returns-in_err-put_seats-clause-shown g c =
    let memory = (g.H.Hardware.machine c.args.machine.now).memory in
    let text = c.args.config_text.now in
    let m = moment_of memory (system_of c.self.inside.parts) in
    let at = c.self.inside.parts.kernel.server.at in
    let start = g.O.Sink.printed c.args.out.now in
    let one = g.O.Sink.printed c.put_head.new.out in
    let two = g.O.Sink.printed c.put_seats.new.out in
    let seats = subst (λ n. ShownSince true one two (seat_bytes (take n at))) c.len.ensures c.in_err-put_seats.ensures in
    let first = head_shown text m start one c.in_ok-put_head.ensures in
    subst (λ (s : System). ShownSince (is_err c.from_residual-in_err-put_seats.result) start two (snap_bytes text (moment_of memory s))) c.self.view_is
    (stops _ start one two (from_seats m) (seats_on m) (from_mounts m) (snap_bytes text m) (hands_on _ c.from_residual-in_err-put_seats.result c.from_residual-in_err-put_seats.ensures.1) refl first seats)

pub returns-in_err-put_mounts-clause-shown : goal.returns-in_err-put_mounts-clause-shown
returns-in_err-put_mounts-clause-shown g c =
    let memory = (g.H.Hardware.machine c.args.machine.now).memory in
    let text = c.args.config_text.now in
    let m = moment_of memory (system_of c.self.inside.parts) in
    let server = c.self.inside.parts.kernel.server in
    let start = g.O.Sink.printed c.args.out.now in
    let one = g.O.Sink.printed c.put_head.new.out in
    let two = g.O.Sink.printed c.put_seats.new.out in
    let three = g.O.Sink.printed c.put_mounts.new.out in
    let seats = subst (λ n. ShownSince false one two (seat_bytes (take n server.at))) c.len.ensures c.in_ok-put_seats.ensures in
    let mounts = subst (λ n. ShownSince true two three (flat_map unit_bytes (take n server.mounts))) c.len-2.ensures c.in_err-put_mounts.ensures in
    let first = head_shown text m start one c.in_ok-put_head.ensures in
    let second = seats_shown text m start one two first seats in
    subst (λ (s : System). ShownSince (is_err c.from_residual-in_err-put_mounts.result) start three (snap_bytes text (moment_of memory s))) c.self.view_is
    (stops _ start two three (from_mounts m) (mounts_on m) (from_guests m) (snap_bytes text m) (hands_on _ c.from_residual-in_err-put_mounts.result c.from_residual-in_err-put_mounts.ensures.1) refl second mounts)

pub returns-in_err-put_guests-clause-shown : goal.returns-in_err-put_guests-clause-shown
returns-in_err-put_guests-clause-shown g c =
    let memory = (g.H.Hardware.machine c.args.machine.now).memory in
    let text = c.args.config_text.now in
    let m = moment_of memory (system_of c.self.inside.parts) in
    let server = c.self.inside.parts.kernel.server in
    let start = g.O.Sink.printed c.args.out.now in
    let one = g.O.Sink.printed c.put_head.new.out in
    let two = g.O.Sink.printed c.put_seats.new.out in
    let three = g.O.Sink.printed c.put_mounts.new.out in
    let four = g.O.Sink.printed c.put_guests.new.out in
    let seats = subst (λ n. ShownSince false one two (seat_bytes (take n server.at))) c.len.ensures c.in_ok-put_seats.ensures in
    let mounts = subst (λ n. ShownSince false two three (flat_map unit_bytes (take n server.mounts))) c.len-2.ensures c.in_ok-put_mounts.ensures in
    let guests = subst (λ (ks : List Kept). ShownSince true three four (flat_map guest_bytes (guests_in memory ks))) c.deref.ensures.value c.in_err-put_guests.ensures.shown in
    let first = head_shown text m start one c.in_ok-put_head.ensures in
    let second = seats_shown text m start one two first seats in
    let third = mounts_shown text m start two three second mounts in
    subst (λ (s : System). ShownSince (is_err c.from_residual-in_err-put_guests.result) start four (snap_bytes text (moment_of memory s))) c.self.view_is
    (stops _ start three four (from_guests m) (guests_on m) (volumes_on m) (snap_bytes text m) (hands_on _ c.from_residual-in_err-put_guests.result c.from_residual-in_err-put_guests.ensures.1) refl third guests)

pub returns-clause-shown : goal.returns-clause-shown
returns-clause-shown g c =
    let memory = (g.H.Hardware.machine c.args.machine.now).memory in
    let text = c.args.config_text.now in
    let m = moment_of memory (system_of c.self.inside.parts) in
    let server = c.self.inside.parts.kernel.server in
    let start = g.O.Sink.printed c.args.out.now in
    let one = g.O.Sink.printed c.put_head.new.out in
    let two = g.O.Sink.printed c.put_seats.new.out in
    let three = g.O.Sink.printed c.put_mounts.new.out in
    let four = g.O.Sink.printed c.put_guests.new.out in
    let five = g.O.Sink.printed c.put_volumes.new.out in
    let seats = subst (λ n. ShownSince false one two (seat_bytes (take n server.at))) c.len.ensures c.in_ok-put_seats.ensures in
    let mounts = subst (λ n. ShownSince false two three (flat_map unit_bytes (take n server.mounts))) c.len-2.ensures c.in_ok-put_mounts.ensures in
    let guests = subst (λ (ks : List Kept). ShownSince false three four (flat_map guest_bytes (guests_in memory ks))) c.deref.ensures.value c.in_ok-put_guests.ensures.shown in
    let first = head_shown text m start one c.in_ok-put_head.ensures in
    let second = seats_shown text m start one two first seats in
    let third = mounts_shown text m start two three second mounts in
    let fourth = guests_shown text m start three four third guests in
    subst (λ (s : System). ShownSince (is_err c.put_volumes.result) start five (snap_bytes text (moment_of memory s))) c.self.view_is
    (ends _ start four five (volumes_on m) (snap_bytes text m) fourth c.put_volumes.ensures.shown)
