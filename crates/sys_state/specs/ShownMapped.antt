-- A worked example, by computation: a transfer puts a block over the frame that holds a guest's page tables, so that the
-- next step finds another page, and touches all pages anew.
use Rattle.std.specs.Prelude.{◌≡◌, ℕ, ◌%◌, List, [], ◌∷◌, codes, false, true, map, refl, slice_index, take, None}
use Rattle.vv_base.specs.Bytes.{long_at}
use Rattle.sys_objects.specs.declared.records.Config.{Config}
use Rattle.sys_state.specs.FirstTouches.{none_touched, touches_of_rounds}
use Rattle.sys_state.specs.Run.{rounds}
use Rattle.sys_state.specs.ShownSetup.{config, guest, mounted, volume}
use Rattle.sys_state.specs.State.{SystemState}
use Rattle.vm_state.specs.ShownSetup.{guest_m, whole_step, with_longs, with_psl, with_register}
use Rattle.vm_state.specs.State.{Guest}

-- MOVB (R1),R3 and MOVB (R1),R4 with R1 A00, at IPL 31. P0's page 5 is frame 5, which begins with 11; frame 6 begins
-- with 22. At 300 there is a packet that reads block 0 over the frame of the tables, and is queued.
abbrev packet_longs : List (ℕ × ℕ)
packet_longs = (0x300, 1) ∷ (0x304, 2) ∷ (0x308, 0) ∷ (0x30c, 0) ∷ (0x310, 0) ∷ (0x314, 0) ∷ []

abbrev mapped : Guest
mapped =
    let code = 0x90 ∷ 0x61 ∷ 0x53 ∷ 0x90 ∷ 0x61 ∷ 0x54 ∷ [] in
    let g = with_psl 0x001f0000 (with_register 1 0xa00 (guest_m code ((0xa00, 0x11) ∷ (0xc00, 0x22) ∷ packet_longs))) in
    record g { state = record g.state { queue = 0x300 ∷ [] } }

-- the block: the same tables, but that P0's entry of page 5 names frame 6
abbrev block : List ℕ
block = take 512 (with_longs ((0x94, 0xa4000006) ∷ []) mapped.memory)

abbrev alone_there : Config
alone_there =
    let row = record (guest (codes "A") 0 8 1 true None) { mounts = None ∷ None ∷ mounted 0 false ∷ None ∷ [] } in
    config None [] (volume (codes "V") 0 0 ∷ []) [] (row ∷ [])

abbrev begun : SystemState
begun = record {
  connected = [];
  mounts = (None ∷ None ∷ mounted 0 false ∷ None ∷ []) ∷ [];
  guests = mapped ∷ [];
  volumes = (block ∷ []) ∷ [];
}

-- the low byte of a register
abbrev low_byte : ℕ → Guest → ℕ
low_byte n g = slice_index g.state.r n % 256

pub over_the_tables :
    (map (low_byte 3) (rounds alone_there 1 1 [] begun).now.guests ≡ 0x11 ∷ [])
    × (map (low_byte 4) (rounds alone_there 1 2 [] begun).now.guests ≡ 0x22 ∷ [])
    × (map (λ (g : Guest). g.state.kcall_due) (rounds alone_there 1 2 [] begun).now.guests ≡ true ∷ [])
    × (map (λ (g : Guest). long_at g.memory 0x314) (rounds alone_there 1 2 [] begun).now.guests ≡ 1 ∷ [])
unfolding whole_step
over_the_tables = (refl, refl, refl, refl)

-- The page of the code and that of the data are touched first in each round, since the transfer between them changed the
-- tables; with no packet they are touched first in the first round alone.
abbrev without_packet : Guest
without_packet = record mapped { state = record mapped.state { queue = [] } }

-- the first touches of two rounds that begin with this guest
abbrev touched_by : Guest → List ℕ
touched_by g =
    map (λ t. t.count) (touches_of_rounds alone_there 1 2 [] (record begun { guests = g ∷ [] }) (none_touched g ∷ []))

pub touched_anew :
    (touched_by mapped ≡ 4 ∷ [])
    × (touched_by without_packet ≡ 2 ∷ [])
unfolding whole_step
touched_anew = (refl, refl)
