-- Packets by which a guest asks for transfers (profile). A packet is six longwords; the last is its status.
use Rattle.std.specs.Prelude.{ℕ, ◌+◌, ◌%◌, ◌==◌, ◌||◌, not, nat_le, if◌then◌else◌, [], ◌∷◌, ◌++◌, length}
use Rattle.vax_arch.specs.Walk.{is_past}
use Rattle.vm_state.specs.State.{State}
use Rattle.vm_state.specs.declared.transfer.Accept.{Accept}
use Rattle.vm_state.specs.declared.transfer.Accept.TheVariants.{BadPacket, Busy, Queued}

-- how many packets can wait
abbrev pub most_queued : ℕ
most_queued = 8

-- whether the kernel accepts a packet's address, in a memory of `size` bytes
unfoldable pub accepted : (size : ℕ) → State → (packet : ℕ) → Accept
accepted size s packet =
    if not (packet % 4 == 0) || is_past size packet 24 then BadPacket else
    if nat_le most_queued (length s.queue) then Busy else
    Queued

abbrev pub after_accept : Accept → ℕ → State → State
after_accept Queued packet s = record s { queue = s.queue ++ packet ∷ [] }
after_accept answer packet s = s

-- the place of its status, and the status of a packet that finds the queue full
abbrev pub status_place : ℕ → ℕ
status_place packet = packet + 20

abbrev pub busy_status : ℕ
busy_status = 2
