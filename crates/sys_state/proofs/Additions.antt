-- Sums of counts.
use Rattle.std.proofs.Common.{◌≡◌, ◌+◌, ◌%◌, ◌^◌, arith}
use Rattle.sys_state.specs.Counts.{added}
use Rattle.vm_state.specs.Run.{Tally, no_steps}

-- sums of counts
pub added_twice : (a b c : Tally) → added (added a b) c ≡ added a (added b c)
added_twice a b c =
    let plain : (a.plain + b.plain) + c.plain ≡ a.plain + (b.plain + c.plain) = omega arith in
    let sensitive : (a.sensitive + b.sensitive) + c.sensitive ≡ a.sensitive + (b.sensitive + c.sensitive) = omega arith in
    let faults : (a.faults + b.faults) + c.faults ≡ a.faults + (b.faults + c.faults) = omega arith in
    let interrupts : (a.interrupts + b.interrupts) + c.interrupts ≡ a.interrupts + (b.interrupts + c.interrupts) = omega arith in
    let modify : (a.modify + b.modify) + c.modify ≡ a.modify + (b.modify + c.modify) = omega arith in
    let idle : (a.idle + b.idle) + c.idle ≡ a.idle + (b.idle + c.idle) = omega arith in
    let stopped : (a.stopped + b.stopped) + c.stopped ≡ a.stopped + (b.stopped + c.stopped) = omega arith in
    let trail : ((a.trail + b.trail) % 2 ^ 64 + c.trail) % 2 ^ 64 ≡ (a.trail + (b.trail + c.trail) % 2 ^ 64) % 2 ^ 64 = omega arith in
    λ i. record { plain = plain i; sensitive = sensitive i; faults = faults i; interrupts = interrupts i; modify = modify i; idle = idle i; stopped = stopped i; trail = trail i }

pub added_either : (t : Tally) → added t no_steps ≡ added no_steps t
added_either t =
    let plain : t.plain + 0 ≡ 0 + t.plain = omega arith in
    let sensitive : t.sensitive + 0 ≡ 0 + t.sensitive = omega arith in
    let faults : t.faults + 0 ≡ 0 + t.faults = omega arith in
    let interrupts : t.interrupts + 0 ≡ 0 + t.interrupts = omega arith in
    let modify : t.modify + 0 ≡ 0 + t.modify = omega arith in
    let idle : t.idle + 0 ≡ 0 + t.idle = omega arith in
    let stopped : t.stopped + 0 ≡ 0 + t.stopped = omega arith in
    let trail : (t.trail + 0) % 2 ^ 64 ≡ (0 + t.trail) % 2 ^ 64 = omega arith in
    λ i. record { plain = plain i; sensitive = sensitive i; faults = faults i; interrupts = interrupts i; modify = modify i; idle = idle i; stopped = stopped i; trail = trail i }
