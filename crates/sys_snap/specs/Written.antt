-- A snapshot as it is written (profile). Numbers have their lowest byte first.
use Rattle.std.specs.Option.{unwrap_or}
use Rattle.std.specs.Prelude.{ℕ, ◌*◌, ◌-◌, List, [], ◌∷◌, ◌++◌, length, map, flat_map, replicate, codes, Bool, Option, Some, None}
use Rattle.std.specs.Int.{from_bool}
use Rattle.vv_base.specs.Bytes.{long_bytes, word_bytes}
use Rattle.vm_clock.specs.Clock.{ClockState, iccs_of}
use Rattle.vm_console.specs.Console.{ConsoleState}
use Rattle.sys_objects.specs.declared.records.Mount.{Mount}
use Rattle.sys_state.specs.State.{SystemState}
use Rattle.sys_state.specs.Run.{Moment}
use Rattle.vm_state.specs.State.{Guest, State}

abbrev pub longs : List ℕ → List ℕ
longs ns = flat_map long_bytes ns

abbrev pub flag_byte : Bool → List ℕ
flag_byte flag = from_bool flag ∷ []

-- a place of one byte, or FF for none
abbrev pub place_byte : Option ℕ → ℕ
place_byte place = unwrap_or place 255

-- R0 to R15, PSL, the five stack pointers: 88 bytes
abbrev pub register_bytes : State → List ℕ
register_bytes s = longs s.r ++ (long_bytes s.psl ++ longs s.stacks)

-- the six table registers, PCBB, SCBB: 32 bytes
abbrev pub base_bytes : State → List ℕ
base_bytes s =
    long_bytes s.tables.p0br ++ long_bytes s.tables.p0lr ++ long_bytes s.tables.p1br ++ long_bytes s.tables.p1lr
    ++ long_bytes s.tables.sbr ++ long_bytes s.tables.slr ++ long_bytes s.pcbb ++ long_bytes s.scbb

-- ASTLVL, SISR, MAPEN: 4 bytes
abbrev pub level_bytes : State → List ℕ
level_bytes s = (s.astlvl ∷ []) ++ (word_bytes s.sisr ++ flag_byte s.tables.mapped)

-- ICCS, NICR, ICR and the request: 13 bytes
abbrev pub clock_bytes : ClockState → List ℕ
clock_bytes clock = long_bytes (iccs_of clock) ++ (long_bytes clock.nicr ++ (long_bytes clock.icr ++ flag_byte clock.request))

-- two enables, two requests, how many bytes wait, and 256 places of which those that no byte has are 0: 262 bytes
abbrev pub console_bytes : ConsoleState → List ℕ
console_bytes console =
    flag_byte console.rx_enable ++ (flag_byte console.tx_enable ++ (flag_byte console.rx_request ++ (flag_byte console.tx_request
    ++ (word_bytes (length console.waiting) ++ (console.waiting ++ replicate (256 - length console.waiting) 0)))))

-- whether a transfer's interrupt is due, how many packets wait, and 8 places of which those that no packet has are 0: 34 bytes
abbrev pub queue_bytes : State → List ℕ
queue_bytes s = flag_byte s.kcall_due ++ ((length s.queue ∷ []) ++ (longs s.queue ++ replicate (4 * (8 - length s.queue)) 0))

-- whether it waits, its stop code or FF, its steps: 6 bytes
abbrev pub end_bytes : State → List ℕ
end_bytes s = flag_byte s.waiting ++ ((place_byte s.halt ∷ []) ++ long_bytes s.steps)

-- a guest's record: 439 bytes
unfoldable pub guest_record_bytes : State → List ℕ
guest_record_bytes s = register_bytes s ++ (base_bytes s ++ (level_bytes s ++ (clock_bytes s.clock ++ (console_bytes s.console ++ (queue_bytes s ++ end_bytes s)))))

-- its record and its memory
abbrev pub guest_bytes : Guest → List ℕ
guest_bytes g = guest_record_bytes g.state ++ g.memory

-- the volume and whether it may be written, or FF and 0
abbrev pub mount_bytes : Option Mount → List ℕ
mount_bytes None = 255 ∷ 0 ∷ []
mount_bytes (Some m) = m.volume ∷ from_bool m.write ∷ []

-- 32 places, FF where no terminal is
abbrev pub seat_bytes : List (Option ℕ) → List ℕ
seat_bytes connected = map place_byte connected ++ replicate (32 - length connected) 255

abbrev pub state_bytes : SystemState → List ℕ
state_bytes s =
    seat_bytes s.connected
    ++ (flat_map (λ units. flat_map mount_bytes units) s.mounts
    ++ (flat_map guest_bytes s.guests
    ++ flat_map (λ blocks. flat_map (λ b. b) blocks) s.volumes))

abbrev pub snap_head : List ℕ
snap_head = codes "VVSNAP1\n"

-- all of it, with the text of the configuration
abbrev pub snap_bytes : List ℕ → Moment → List ℕ
snap_bytes text m = snap_head ++ (long_bytes (length text) ++ (text ++ (long_bytes m.made ++ state_bytes m.state)))
