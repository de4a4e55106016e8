-- Worked examples, by computation.
use Rattle.std.specs.Prelude.{◌≡◌, refl, false, true, [], ◌∷◌}
use Rattle.vm_console.specs.Console.{ConsoleState, initial_console, after_typed, rxcs_of, rxdb_of, after_rxdb_read, after_rxcs_write, txcs_of, after_txcs_write, after_sent, after_rx_taken}
use Rattle.vm_console.specs.Kept.{MayKeep, after_shown, empty}

-- enabled, two bytes typed, and the first one's interrupt taken
abbrev two_typed : ConsoleState
two_typed = after_typed (after_rx_taken (after_typed (after_rxcs_write initial_console 0x40) 65)) 66

-- the second byte makes no request, since done was 1 already
pub second_byte : two_typed ≡ record initial_console { waiting = 65 ∷ 66 ∷ []; rx_enable = true }
second_byte = refl

pub reads_done : rxcs_of two_typed ≡ 0xc0
reads_done = refl

pub reads_first : rxdb_of two_typed ≡ 65
reads_first = refl

-- the read leaves a byte, and requests
pub read_requests : after_rxdb_read two_typed ≡ record initial_console { waiting = 66 ∷ []; rx_enable = true; rx_request = true }
read_requests = refl

-- the second read leaves none, and the request ends
pub read_ends : after_rxdb_read (after_rxdb_read two_typed) ≡ record initial_console { rx_enable = true }
read_ends = refl

pub reads_nothing : rxdb_of initial_console ≡ 0
reads_nothing = refl

-- bits beside bit 6 are ignored
pub other_bits : after_rxcs_write initial_console 0xffff_ffbf ≡ initial_console
other_bits = refl

-- enable that is set while a byte waits requests; set again it makes no request, and cleared it ends the one there is
abbrev one_waits : ConsoleState
one_waits = record initial_console { waiting = 65 ∷ [] }

pub enable_with_a_byte : after_rxcs_write one_waits 0x40 ≡ record one_waits { rx_enable = true; rx_request = true }
enable_with_a_byte = refl

pub enable_again : after_rxcs_write (after_rx_taken (after_rxcs_write one_waits 0x40)) 0x40 ≡ record one_waits { rx_enable = true }
enable_again = refl

pub disable_ends : after_rxcs_write (after_rxcs_write one_waits 0x40) 0 ≡ one_waits
disable_ends = refl

pub ready : txcs_of initial_console ≡ 0x80
ready = refl

pub enable_requests : after_txcs_write initial_console 0x40 ≡ record initial_console { tx_enable = true; tx_request = true }
enable_requests = refl

-- enable that is set again makes no request
pub transmit_enable_again : after_txcs_write (record initial_console { tx_enable = true }) 0x40 ≡ record initial_console { tx_enable = true }
transmit_enable_again = refl

pub silent_send : after_sent initial_console ≡ initial_console
silent_send = refl

-- a port with room for two bytes, shown three
kept_in_room : after_shown 2 (after_shown 2 empty 86) 77 ≡ record { bytes = 86 ∷ 77 ∷ []; is_cut = false }
kept_in_room = refl

cut_beyond : after_shown 2 (record { bytes = 86 ∷ 77 ∷ []; is_cut = false }) 33 ≡ record { bytes = 86 ∷ 77 ∷ []; is_cut = true }
cut_beyond = refl

may_be_three : MayKeep 2 (record { bytes = 86 ∷ 77 ∷ []; is_cut = true }) (86 ∷ 77 ∷ 33 ∷ [])
unfolding MayKeep
may_be_three = (refl, refl)
