-- Worked examples of transfers, by computation: a shared volume, a full queue, printing, each status.
use Rattle.std.specs.Prelude.{◌≡◌, ℕ, ◌+◌, List, [], ◌∷◌, ◌++◌, codes, false, true, map, refl, replicate, Option, Some, None}
use Rattle.vv_base.specs.Bytes.{long_at}
use Rattle.sys_state.specs.Run.{Input, run}
use Rattle.sys_state.specs.ShownSetup.{config, filled, guest, kcall, mounted, packet, printer, volume, whole_run}
use Rattle.sys_state.specs.State.{bytes_on}
use Rattle.sys_state.specs.Transfers.{Move, Packet, Prints, Reads, Refused, Writes, move_of}
use Rattle.vm_state.specs.State.{Guest}

-- Two guests of one class write block 0 of one volume in one round, each from its buffer at 400: the block is the
-- second's, and both statuses are 1.
abbrev writer : ℕ → List ℕ
writer byte = filled 0x80 (kcall 0x280) ++ packet 2 0 0 0x400 0 ++ replicate 0x168 0 ++ replicate 512 byte

abbrev pub shared : Input
shared = record {
  config = config None [] (volume (codes "V") 0 0 ∷ []) [] (
      record (guest (codes "A") 0 3 1 true None) { mounts = mounted 0 true ∷ None ∷ None ∷ None ∷ [] } ∷
      record (guest (codes "B") 0 3 1 true None) { mounts = mounted 0 true ∷ None ∷ None ∷ None ∷ [] } ∷ []);
  images = writer 65 ∷ writer 66 ∷ [];
  volumes = (replicate 512 0 ∷ []) ∷ [];
  events = [];
  rounds = 1;
}

pub later_writer :
    ((run shared).now.volumes ≡ (replicate 512 66 ∷ []) ∷ [])
    × (map (λ (g : Guest). long_at g.memory (0x280 + 20)) (run shared).now.guests ≡ 1 ∷ 1 ∷ [])
    × (map (λ (g : Guest). g.state.kcall_due) (run shared).now.guests ≡ true ∷ true ∷ [])
    × (map (λ (g : Guest). g.state.queue) (run shared).now.guests ≡ [] ∷ [] ∷ [])
unfolding whole_run
later_writer = (refl, refl, refl, refl)

-- a packet is followed by eight bytes
abbrev long_zeros : List ℕ
long_zeros = replicate 8 0

abbrev packets : List ℕ
packets = packet 3 0 0 0 1 ++ long_zeros

abbrev nine_calls : List ℕ
nine_calls =
    kcall 0x280 ++ kcall 0x2a0 ++ kcall 0x2c0 ++ kcall 0x2e0 ++ kcall 0x300
    ++ kcall 0x320 ++ kcall 0x340 ++ kcall 0x360 ++ kcall 0x380

-- Nine packets in one round, at 280 and each 20 after the one before: the ninth's status is 2 at once, the first eight move
-- at the end. They print one byte each, and there is no printer.
abbrev pub nine : Input
nine = record {
  config = config None [] [] [] (guest (codes "A") 0 3 9 true None ∷ []);
  images =
      let four = packets ++ packets ++ packets ++ packets in
      (filled 0x80 nine_calls ++ four ++ four ++ packets) ∷ [];
  volumes = [];
  events = [];
  rounds = 1;
}

-- the places of the nine, and the statuses there
abbrev places : List ℕ
places = 0x280 ∷ 0x2a0 ∷ 0x2c0 ∷ 0x2e0 ∷ 0x300 ∷ 0x320 ∷ 0x340 ∷ 0x360 ∷ 0x380 ∷ []

abbrev statuses_of : Guest → List ℕ
statuses_of g = map (λ at. long_at g.memory (at + 20)) places

pub ninth_is_busy : map statuses_of (run nine).now.guests ≡ (1 ∷ 1 ∷ 1 ∷ 1 ∷ 1 ∷ 1 ∷ 1 ∷ 1 ∷ 2 ∷ []) ∷ []
unfolding whole_run
ninth_is_busy = refl

-- a text of five bytes, with a printer and without one; its status is 1 both times
abbrev pub printing : Option ℕ → Input
printing place = record {
  config = config None [] [] (printer (codes "P") 4 0 ∷ []) (record (guest (codes "A") 0 3 1 true None) { printer = place } ∷ []);
  images = (filled 0x80 (kcall 0x280) ++ packet 3 0 0 0x2a0 5 ++ long_zeros ++ codes "HELLO") ∷ [];
  volumes = [];
  events = [];
  rounds = 1;
}

pub prints :
    (bytes_on 4 (run (printing (Some 0))).puts ≡ codes "0{};0{} A: HELLO\r\n")
    × (map (λ (g : Guest). long_at g.memory (0x280 + 20)) (run (printing (Some 0))).now.guests ≡ 1 ∷ [])
    × (bytes_on 4 (run (printing None)).puts ≡ [])
    × (map (λ (g : Guest). long_at g.memory (0x280 + 20)) (run (printing None)).now.guests ≡ 1 ∷ [])
unfolding whole_run
prints = (refl, refl, refl, refl)

-- Each status, in a memory of 1024 bytes, with a volume of one block mounted for reading at unit 1 and for writing at
-- unit 2. What comes earlier in the order of the tests counts.
abbrev asks : (function unit block buffer size : ℕ) → Move
asks function unit block buffer size =
    let p : Packet = record { function = function; unit = unit; block = block; buffer = buffer; size = size } in
    move_of 1024 (([] ∷ []) ∷ []) (None ∷ mounted 0 false ∷ mounted 0 true ∷ None ∷ []) p

pub statuses :
    (asks 0 0 0 0 0 ≡ Refused 7)
    × (asks 4 0 0 0 0 ≡ Refused 7)
    × (asks 1 3 0 0 0 ≡ Refused 3)
    × (asks 1 4 0 0 0 ≡ Refused 3)
    × (asks 2 0 9 2000 0 ≡ Refused 3)
    × (asks 2 1 9 2000 0 ≡ Refused 4)
    × (asks 1 1 1 2000 0 ≡ Refused 5)
    × (asks 2 2 1 2000 0 ≡ Refused 5)
    × (asks 1 1 0 513 0 ≡ Refused 6)
    × (asks 1 1 0 512 0 ≡ Reads 0)
    × (asks 2 2 0 512 0 ≡ Writes 0)
    × (asks 3 9 9 1024 0 ≡ Prints)
    × (asks 3 0 0 1024 1 ≡ Refused 6)
    × (asks 3 0 0 0 133 ≡ Refused 6)
    × (asks 3 0 0 892 132 ≡ Prints)
statuses = (refl, refl, refl, refl, refl, refl, refl, refl, refl, refl, refl, refl, refl, refl, refl)
