-- The console's registers RXCS, RXDB, TXCS and TXDB
-- (VAX Architecture Reference Manual, console terminal registers; all that is said of bytes that wait and of requests is profile).
use Rattle.std.specs.Prelude.{ℕ, ◌+◌, ◌*◌, ◌^◌, ◌<◌, ◌==◌, Bool, false, not, ◌&&◌, ◌||◌, nat_lt, if◌then◌else◌, List, [], ◌∷◌, ◌++◌, length, drop, slice_index, IsTrue}
use Rattle.std.specs.Int.{from_bool}
use Rattle.vv_base.specs.Bits.{is_set}

pub record ConsoleState : Type 0 where
  -- the typed bytes that wait, in order
  pub waiting : List ℕ
  -- bit 6 of RXCS: a waiting byte requests an interrupt
  pub rx_enable : Bool
  pub rx_request : Bool
  -- bit 6 of TXCS: a sent byte requests an interrupt
  pub tx_enable : Bool
  pub tx_request : Bool

-- nothing waits, nothing is enabled or requested
abbrev pub initial_console : ConsoleState
initial_console = record { waiting = []; rx_enable = false; rx_request = false; tx_enable = false; tx_request = false }

-- a request needs its enable, and a receive request needs a waiting byte
pub record IsConsole (console : ConsoleState) : Type 0 where
  pub rx_enabled : IsTrue console.rx_request → IsTrue console.rx_enable
  pub rx_waiting : IsTrue console.rx_request → 0 < length console.waiting
  pub tx_enabled : IsTrue console.tx_request → IsTrue console.tx_enable

-- done: a byte waits
abbrev pub is_receiver_done : ConsoleState → Bool
is_receiver_done console = not (length console.waiting == 0)

-- how many bytes wait at most
abbrev pub most_waiting : ℕ
most_waiting = 256

abbrev pub has_room : ConsoleState → Bool
has_room console = nat_lt (length console.waiting) most_waiting

-- A typed byte waits after the others, where there is room. It requests where done becomes 1 with enable set.
abbrev pub after_typed : ConsoleState → ℕ → ConsoleState
after_typed console byte =
    if has_room console
    then record console { waiting = console.waiting ++ byte ∷ []; rx_request = console.rx_request || not (is_receiver_done console) && console.rx_enable }
    else console

-- what reading RXCS gives: done and enable
abbrev pub rxcs_of : ConsoleState → ℕ
rxcs_of console = 2 ^ 7 * from_bool (is_receiver_done console) + 2 ^ 6 * from_bool console.rx_enable

-- what reading RXDB gives: the first waiting byte, or 0
abbrev pub rxdb_of : ConsoleState → ℕ
rxdb_of console = slice_index console.waiting 0

-- Reading RXDB takes the first waiting byte. Bytes that are left request where enable is set; where none is left the request ends.
abbrev pub after_rxdb_read : ConsoleState → ConsoleState
after_rxdb_read console =
    let left = record console { waiting = drop 1 console.waiting } in
    record left { rx_request = is_receiver_done left && (left.rx_request || left.rx_enable) }

-- Writing RXCS: enable becomes bit 6. Clearing it ends the request; setting it anew while a byte waits makes one.
abbrev pub after_rxcs_write : ConsoleState → ℕ → ConsoleState
after_rxcs_write console value = record console { rx_enable = is_set value 6; rx_request = is_set value 6 && (console.rx_request || not console.rx_enable && is_receiver_done console) }

-- what reading TXCS gives: ready, which is always 1, and enable
abbrev pub txcs_of : ConsoleState → ℕ
txcs_of console = 2 ^ 7 + 2 ^ 6 * from_bool console.tx_enable

-- Writing TXCS: enable becomes bit 6. Clearing it ends the request; setting it anew makes one.
abbrev pub after_txcs_write : ConsoleState → ℕ → ConsoleState
after_txcs_write console value = record console { tx_enable = is_set value 6; tx_request = is_set value 6 && (console.tx_request || not console.tx_enable) }

-- a byte was sent, by a write of TXDB: it requests where enable is set
abbrev pub after_sent : ConsoleState → ConsoleState
after_sent console = record console { tx_request = console.tx_request || console.tx_enable }

-- the receive interrupt was taken
abbrev pub after_rx_taken : ConsoleState → ConsoleState
after_rx_taken console = record console { rx_request = false }

-- the transmit interrupt was taken
abbrev pub after_tx_taken : ConsoleState → ConsoleState
after_tx_taken console = record console { tx_request = false }
