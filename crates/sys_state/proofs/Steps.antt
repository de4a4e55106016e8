-- Steps that are taken in two bursts.
use Rattle.std.proofs.Common.{ℕ, ◌≡◌, ◌<◌, ◌+◌, ◌%◌, ◌^◌, List, [], ◌++◌, refl, sym, ◌∙◌, ap, zero, suc, append_assoc, append-nil, arith}
use Rattle.vm_state.specs.State.{Guest}
use Rattle.vm_state.specs.Run.{Run, Tally, after_step, after_steps, no_steps, tallied}
use Rattle.vm_state.specs.Step.{Kind, Stopped, Interrupt, Idle, SetModify, Plain, Sensitive, Fault, step}
use Rattle.sys_state.specs.Counts.{added}
use Rattle.sys_state.specs.Guests.{alone}

-- the guest doesn't depend on what was shown or counted before
same_guest : (n : ℕ) (g : Guest) (x y : List ℕ) (t u : Tally) → (after_steps n (record { guest = g; shown = x; tally = t })).guest ≡ (after_steps n (record { guest = g; shown = y; tally = u })).guest
same_guest zero g x y t u = refl
same_guest (suc n) g x y t u = same_guest n (step g).guest (x ++ (step g).shown) (y ++ (step g).shown) (tallied (step g).kind t) (tallied (step g).kind u)

-- what is shown comes after what was shown before
shown_after : (n : ℕ) (g : Guest) (x : List ℕ) (t u : Tally) → (after_steps n (record { guest = g; shown = x; tally = t })).shown ≡ x ++ (after_steps n (record { guest = g; shown = []; tally = u })).shown
shown_after zero g x t u = sym (append-nil x)
shown_after (suc n) g x t u =
    let s = step g in
    let rest = (after_steps n (record { guest = s.guest; shown = []; tally = u })).shown in
    shown_after n s.guest (x ++ s.shown) (tallied s.kind t) u ∙ append_assoc x s.shown rest ∙ ap (λ ys. x ++ ys) (sym (shown_after n s.guest ([] ++ s.shown) (tallied s.kind u) u))

after_sum : (m n : ℕ) (run : Run) → after_steps (m + n) run ≡ after_steps n (after_steps m run)
after_sum zero n run = let e : zero + n ≡ n = grind arith in rw e refl
after_sum (suc m) n run = let e : suc m + n ≡ suc (m + n) = grind arith in rw e (after_sum m n (after_step run (step run.guest)))

pub steps_add : (m n : ℕ) (g : Guest) → (alone (m + n) g).guest ≡ (alone n (alone m g).guest).guest
steps_add m n g =
    let first : Run = alone m g in
    ap (λ (r : Run). r.guest) (after_sum m n (record { guest = g; shown = []; tally = no_steps })) ∙ same_guest n first.guest first.shown [] first.tally no_steps

pub shown_add : (m n : ℕ) (g : Guest) → (alone (m + n) g).shown ≡ (alone m g).shown ++ (alone n (alone m g).guest).shown
shown_add m n g =
    let first : Run = alone m g in
    ap (λ (r : Run). r.shown) (after_sum m n (record { guest = g; shown = []; tally = no_steps })) ∙ shown_after n first.guest first.shown first.tally no_steps

-- one more step of a kind in a sum
tallied_added : (k : Kind) (t u : Tally) → tallied k (added t u) ≡ added t (tallied k u)
tallied_added (Plain term) t u =
    let plain : (t.plain + u.plain) + 1 ≡ t.plain + (u.plain + 1) = omega arith in
    let trail : ((t.trail + u.trail) % 2 ^ 64 + term) % 2 ^ 64 ≡ (t.trail + (u.trail + term) % 2 ^ 64) % 2 ^ 64 = omega arith in
    λ i. record (added t u) { plain = plain i; trail = trail i }
tallied_added Sensitive t u = let one : (t.sensitive + u.sensitive) + 1 ≡ t.sensitive + (u.sensitive + 1) = omega arith in λ i. record (added t u) { sensitive = one i }
tallied_added Fault t u = let one : (t.faults + u.faults) + 1 ≡ t.faults + (u.faults + 1) = omega arith in λ i. record (added t u) { faults = one i }
tallied_added Interrupt t u = let one : (t.interrupts + u.interrupts) + 1 ≡ t.interrupts + (u.interrupts + 1) = omega arith in λ i. record (added t u) { interrupts = one i }
tallied_added SetModify t u = let one : (t.modify + u.modify) + 1 ≡ t.modify + (u.modify + 1) = omega arith in λ i. record (added t u) { modify = one i }
tallied_added Idle t u = let one : (t.idle + u.idle) + 1 ≡ t.idle + (u.idle + 1) = omega arith in λ i. record (added t u) { idle = one i }
tallied_added Stopped t u = let one : (t.stopped + u.stopped) + 1 ≡ t.stopped + (u.stopped + 1) = omega arith in λ i. record (added t u) { stopped = one i }

-- what was counted before is added
counted_after : (n : ℕ) (g : Guest) (x y : List ℕ) (t u : Tally) → (after_steps n (record { guest = g; shown = x; tally = added t u })).tally ≡ added t (after_steps n (record { guest = g; shown = y; tally = u })).tally
counted_after zero g x y t u = refl
counted_after (suc n) g x y t u =
    let s = step g in
    let then : Tally → Run = λ v. after_steps n (record { guest = s.guest; shown = x ++ s.shown; tally = v }) in
    ap (λ (v : Tally). (then v).tally) (tallied_added s.kind t u) ∙ counted_after n s.guest (x ++ s.shown) (y ++ s.shown) t (tallied s.kind u)

-- the trail is a number of 64 bits
fits_on : (k : Kind) (t : Tally) → t.trail < 2 ^ 64 → (tallied k t).trail < 2 ^ 64
fits_on (Plain term) t h = omega arith
fits_on Sensitive t h = h
fits_on Fault t h = h
fits_on Interrupt t h = h
fits_on SetModify t h = h
fits_on Idle t h = h
fits_on Stopped t h = h

fits_after : (n : ℕ) (run : Run) → run.tally.trail < 2 ^ 64 → (after_steps n run).tally.trail < 2 ^ 64
fits_after zero run h = h
fits_after (suc n) run h = fits_after n (after_step run (step run.guest)) (fits_on (step run.guest).kind run.tally h)

pub trail_fits : (n : ℕ) (g : Guest) → (alone n g).tally.trail < 2 ^ 64
trail_fits n g = fits_after n (record { guest = g; shown = []; tally = no_steps }) (omega arith)

pub as_sum : (t : Tally) → t.trail < 2 ^ 64 → t ≡ added t no_steps
as_sum t h =
    let plain : t.plain ≡ t.plain + 0 = omega arith in
    let sensitive : t.sensitive ≡ t.sensitive + 0 = omega arith in
    let faults : t.faults ≡ t.faults + 0 = omega arith in
    let interrupts : t.interrupts ≡ t.interrupts + 0 = omega arith in
    let modify : t.modify ≡ t.modify + 0 = omega arith in
    let idle : t.idle ≡ t.idle + 0 = omega arith in
    let stopped : t.stopped ≡ t.stopped + 0 = omega arith in
    let trail : t.trail ≡ (t.trail + 0) % 2 ^ 64 = omega (arith, h) in
    λ i. record { plain = plain i; sensitive = sensitive i; faults = faults i; interrupts = interrupts i; modify = modify i; idle = idle i; stopped = stopped i; trail = trail i }

pub tally_add : (m n : ℕ) (g : Guest) → (alone (m + n) g).tally ≡ added (alone m g).tally (alone n (alone m g).guest).tally
tally_add m n g =
    let first : Run = alone m g in
    let again : Tally → Run = λ v. after_steps n (record { guest = first.guest; shown = first.shown; tally = v }) in
    ap (λ (r : Run). r.tally) (after_sum m n (record { guest = g; shown = []; tally = no_steps })) ∙ ap (λ (v : Tally). (again v).tally) (as_sum first.tally (trail_fits m g)) ∙ counted_after n first.guest first.shown [] first.tally no_steps
