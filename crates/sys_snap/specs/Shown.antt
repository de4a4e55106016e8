-- Worked examples of records and of what is refused of them, checked by computation: each fault is where its field begins.
use Rattle.std.specs.Prelude.{◌≡◌, ℕ, ◌+◌, List, [], ◌∷◌, ◌++◌, length, take, drop, false, Result, Ok, Err, refl}
use Rattle.sys_snap.specs.Reader.{longs_in, record_in}
use Rattle.sys_snap.specs.Reading.{Got}
use Rattle.sys_snap.specs.Written.{guest_record_bytes}
use Rattle.sys_snap.specs.declared.fault.SnapFault.{SnapFault}
use Rattle.vm_state.specs.Start.{started}
use Rattle.vm_state.specs.State.{State}

abbrev pub at_start : List ℕ
at_start = guest_record_bytes (started 0x200 false)

-- these bytes with another byte at a place
abbrev pub with_byte : ℕ → ℕ → List ℕ
with_byte at b = take at at_start ++ b ∷ drop (at + 1) at_start

-- the place of a fault, and 999 where there is none
abbrev pub place_in : Result (Got State) SnapFault → ℕ
place_in (Ok got) = 999
place_in (Err fault) = fault.place

abbrev pub refused : List ℕ → ℕ
refused bytes = place_in (record_in 32768 false (record { at = 0; bytes = bytes }))

pub has_439_bytes : length at_start ≡ 439
unfolding guest_record_bytes
has_439_bytes = refl

-- the record of a guest that starts; cut by one byte, in the last field
pub whole : (refused at_start ≡ 999) × (refused (take 438 at_start) ≡ 435) × (refused [] ≡ 0)
unfolding guest_record_bytes record_in longs_in
whole = (refl, refl, refl)

-- a PSL with bit 31; P0BR not in system space, and off a longword; P1LR below its least; SCBB off a page; ASTLVL 5; SISR with
-- bit 0; a flag of 2
pub registers_refused :
    (refused (with_byte 67 0x84) ≡ 64) × (refused (with_byte 88 4) ≡ 88) × (refused (with_byte 102 0) ≡ 100) × (refused (with_byte 116 4) ≡ 116)
    × (refused (with_byte 120 5) ≡ 120) × (refused (with_byte 121 1) ≡ 121) × (refused (with_byte 123 2) ≡ 123)
unfolding guest_record_bytes record_in longs_in
registers_refused = (refl, refl, refl, refl, refl, refl, refl)

-- ICCS with bit 1; a request of the clock without its enable; of the receiver and of the transmitter; a byte where none waits;
-- 257 bytes; a packet where none waits; 9 packets; a stop code that is none
pub devices_refused :
    (refused (with_byte 124 2) ≡ 124) × (refused (with_byte 136 1) ≡ 136) × (refused (with_byte 139 1) ≡ 139) × (refused (with_byte 140 1) ≡ 140)
    × (refused (with_byte 300 1) ≡ 143) × (refused (with_byte 142 2) ≡ 141) × (refused (with_byte 405 1) ≡ 405) × (refused (with_byte 400 9) ≡ 400)
    × (refused (with_byte 434 1) ≡ 434)
unfolding guest_record_bytes record_in longs_in
devices_refused = (refl, refl, refl, refl, refl, refl, refl, refl, refl)
