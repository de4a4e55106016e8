use Rattle.std.proofs.Common.{◌≡◌, Ok, Err, rules, sym, subst, ◌+◌, ◌%◌, ◌^◌}
use Rattle.vm_emulate.specs.Fetched.{ArePlaces, IsPlace}
use Rattle.vm_emulate.specs.declared.reading.Unread.{Unread}
use Rattle.vm_emulate.proofs.Fetching.{all_four, fails_first, fails_fourth, fails_second, fails_third}
use Rattle.vm_state.specs.Partition.{guest_of}
use Rattle.vm_emulate.proofs.fetches.places_at.Goals as goal

pub returns-in_err-first : goal.returns-in_err-first
returns-in_err-first g c =
    let h = guest_of (g.H.Hardware.machine c.args.machine.now).memory c.args.g.now in
    let u : Unread = c.in_err-first.field-0.0 in
    let e : c.from_residual.result ≡ Err u = search rules in
    let a : IsPlace h c.args.at (Err u) = subst (IsPlace h c.args.at) c.in_err-first.was c.place_of.ensures in
    subst (ArePlaces h 4 c.args.at) (sym e) (fails_first h c.args.at c.ranges.at.fits u a)

pub returns-in_err-second : goal.returns-in_err-second
returns-in_err-second g c =
    let h = guest_of (g.H.Hardware.machine c.args.machine.now).memory c.args.g.now in
    let u : Unread = c.in_err-second.field-0.0 in
    let e : c.from_residual-in_err-second.result ≡ Err u = search rules in
    let a : IsPlace h c.args.at (Ok c.in_ok-first.first) = subst (IsPlace h c.args.at) c.in_ok-first.was c.place_of.ensures in
    let b : IsPlace h ((c.args.at + 1) % 2 ^ 32) (Err u) = subst (IsPlace h ((c.args.at + 1) % 2 ^ 32)) c.in_err-second.was c.place_of-2.ensures in
    subst (ArePlaces h 4 c.args.at) (sym e) (fails_second h c.args.at c.ranges.at.fits c.in_ok-first.first u a b)

pub returns-in_err-third : goal.returns-in_err-third
returns-in_err-third g c =
    let h = guest_of (g.H.Hardware.machine c.args.machine.now).memory c.args.g.now in
    let u : Unread = c.in_err-third.field-0.0 in
    let e : c.from_residual-in_err-third.result ≡ Err u = search rules in
    let a : IsPlace h c.args.at (Ok c.in_ok-first.first) = subst (IsPlace h c.args.at) c.in_ok-first.was c.place_of.ensures in
    let b : IsPlace h ((c.args.at + 1) % 2 ^ 32) (Ok c.in_ok-second.second) = subst (IsPlace h ((c.args.at + 1) % 2 ^ 32)) c.in_ok-second.was c.place_of-2.ensures in
    let d : IsPlace h ((c.args.at + 2) % 2 ^ 32) (Err u) = subst (IsPlace h ((c.args.at + 2) % 2 ^ 32)) c.in_err-third.was c.place_of-3.ensures in
    subst (ArePlaces h 4 c.args.at) (sym e) (fails_third h c.args.at c.ranges.at.fits c.in_ok-first.first c.in_ok-second.second u a b d)

pub returns-in_err-fourth : goal.returns-in_err-fourth
returns-in_err-fourth g c =
    let h = guest_of (g.H.Hardware.machine c.args.machine.now).memory c.args.g.now in
    let u : Unread = c.in_err-fourth.field-0.0 in
    let e : c.from_residual-in_err-fourth.result ≡ Err u = search rules in
    let a : IsPlace h c.args.at (Ok c.in_ok-first.first) = subst (IsPlace h c.args.at) c.in_ok-first.was c.place_of.ensures in
    let b : IsPlace h ((c.args.at + 1) % 2 ^ 32) (Ok c.in_ok-second.second) = subst (IsPlace h ((c.args.at + 1) % 2 ^ 32)) c.in_ok-second.was c.place_of-2.ensures in
    let d : IsPlace h ((c.args.at + 2) % 2 ^ 32) (Ok c.in_ok-third.third) = subst (IsPlace h ((c.args.at + 2) % 2 ^ 32)) c.in_ok-third.was c.place_of-3.ensures in
    let f : IsPlace h ((c.args.at + 3) % 2 ^ 32) (Err u) = subst (IsPlace h ((c.args.at + 3) % 2 ^ 32)) c.in_err-fourth.was c.place_of-4.ensures in
    subst (ArePlaces h 4 c.args.at) (sym e) (fails_fourth h c.args.at c.ranges.at.fits c.in_ok-first.first c.in_ok-second.second c.in_ok-third.third u a b d f)

pub returns : goal.returns
returns g c =
    let h = guest_of (g.H.Hardware.machine c.args.machine.now).memory c.args.g.now in
    let a : IsPlace h c.args.at (Ok c.in_ok-first.first) = subst (IsPlace h c.args.at) c.in_ok-first.was c.place_of.ensures in
    let b : IsPlace h ((c.args.at + 1) % 2 ^ 32) (Ok c.in_ok-second.second) = subst (IsPlace h ((c.args.at + 1) % 2 ^ 32)) c.in_ok-second.was c.place_of-2.ensures in
    let d : IsPlace h ((c.args.at + 2) % 2 ^ 32) (Ok c.in_ok-third.third) = subst (IsPlace h ((c.args.at + 2) % 2 ^ 32)) c.in_ok-third.was c.place_of-3.ensures in
    let f : IsPlace h ((c.args.at + 3) % 2 ^ 32) (Ok c.in_ok-fourth.fourth) = subst (IsPlace h ((c.args.at + 3) % 2 ^ 32)) c.in_ok-fourth.was c.place_of-4.ensures in
    all_four h c.args.at c.ranges.at.fits c.in_ok-first.first c.in_ok-second.second c.in_ok-third.third c.in_ok-fourth.fourth a b d f
