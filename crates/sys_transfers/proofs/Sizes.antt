-- Transfers keep how many blocks each volume has, and how a guest's modify bits are kept.
use Rattle.std.proofs.Common.{◌≡◌, ℕ, List, [], ◌∷◌, length, map, Option, refl, ap, ◌∙◌, sym}
use Rattle.std.proofs.lemmas.List.{length-map, length-set}
use Rattle.std.proofs.Math.Seq.{map-set_same}
use Rattle.vm_state.specs.Outside.{bytes_at}
use Rattle.vm_state.specs.State.{Guest}
use Rattle.sys_objects.specs.declared.records.Config.{Config}
use Rattle.sys_objects.specs.declared.records.GuestRow.{GuestRow}
use Rattle.sys_objects.specs.declared.records.Mount.{Mount}
use Rattle.sys_state.specs.Guests.{with_no_queue}
use Rattle.sys_state.specs.Transfers.{Move, Packet, Prints, Reads, Refused, Served, Writes, move_of, moved, packet_at, served, served_one}
use Rattle.sys_store.specs.Blocks.{blocks_of, with_block}
use Rattle.sys_transfers.specs.Serves.{one_packet}
use Rattle.sys_transfers.specs.ServesAll.{all_packets}

-- the sizes of volumes
abbrev pub sizes : List (List (List ℕ)) → List ℕ
sizes volumes = map length volumes

block_keeps_sizes : (volumes : List (List (List ℕ))) (v block : ℕ) (bytes : List ℕ) → sizes (with_block volumes v block bytes) ≡ sizes volumes
block_keeps_sizes volumes v block bytes = map-set_same length volumes v _ [] (length-set (blocks_of volumes v) block bytes)

moved_sizes : (c : Config) (row : GuestRow) (g : Guest) (at : ℕ) (p : Packet) (volumes : List (List (List ℕ))) (move : Move) → sizes (moved c row g at p volumes move).volumes ≡ sizes volumes
moved_sizes c row g at p volumes (Refused status) = refl
moved_sizes c row g at p volumes (Reads v) = refl
moved_sizes c row g at p volumes (Writes v) = block_keeps_sizes volumes v p.block (bytes_at g p.buffer 512)
moved_sizes c row g at p volumes Prints = refl

served_sizes : (c : Config) (row : GuestRow) (units : List (Option Mount)) (g : Guest) (at : ℕ) (volumes : List (List (List ℕ))) → sizes (served_one c row units g at volumes).volumes ≡ sizes volumes
served_sizes c row units g at volumes = let p : Packet = packet_at g.memory at in moved_sizes c row g at p volumes (move_of (length g.memory) volumes units p)

pub one_keeps_sizes : (c : Config) (row : GuestRow) (units : List (Option Mount)) (g : Guest) (at : ℕ) (volumes : List (List (List ℕ))) → sizes (one_packet c row units g at volumes).volumes ≡ sizes volumes
unfolding one_packet
one_keeps_sizes c row units g at volumes = served_sizes c row units g at volumes

queue_keeps_sizes : (c : Config) (row : GuestRow) (units : List (Option Mount)) (g : Guest) (queue : List ℕ) (volumes : List (List (List ℕ))) → sizes (served c row units g queue volumes).volumes ≡ sizes volumes
queue_keeps_sizes c row units g [] volumes = refl
queue_keeps_sizes c row units g (at ∷ queue) volumes =
    let one : Served = served_one c row units g at volumes in
    queue_keeps_sizes c row units one.guest queue one.volumes ∙ served_sizes c row units g at volumes

pub packets_keep_sizes : (c : Config) (row : GuestRow) (units : List (Option Mount)) (g : Guest) (volumes : List (List (List ℕ))) → sizes (all_packets c row units g volumes).volumes ≡ sizes volumes
unfolding all_packets
packets_keep_sizes c row units g volumes = queue_keeps_sizes c row units (with_no_queue g) g.state.queue volumes

-- as many volumes
pub as_many : (xs ys : List (List (List ℕ))) → sizes xs ≡ sizes ys → length xs ≡ length ys
as_many xs ys same = sym (length-map xs length) ∙ ap length same ∙ length-map ys length

-- modify bits
moved_faults : (c : Config) (row : GuestRow) (g : Guest) (at : ℕ) (p : Packet) (volumes : List (List (List ℕ))) (move : Move) → (moved c row g at p volumes move).guest.state.modify_faults ≡ g.state.modify_faults
moved_faults c row g at p volumes (Refused status) = refl
moved_faults c row g at p volumes (Reads v) = refl
moved_faults c row g at p volumes (Writes v) = refl
moved_faults c row g at p volumes Prints = refl

queue_keeps_faults : (c : Config) (row : GuestRow) (units : List (Option Mount)) (g : Guest) (queue : List ℕ) (volumes : List (List (List ℕ))) → (served c row units g queue volumes).guest.state.modify_faults ≡ g.state.modify_faults
queue_keeps_faults c row units g [] volumes = refl
queue_keeps_faults c row units g (at ∷ queue) volumes =
    let one : Served = served_one c row units g at volumes in
    let p : Packet = packet_at g.memory at in
    queue_keeps_faults c row units one.guest queue one.volumes ∙ moved_faults c row g at p volumes (move_of (length g.memory) volumes units p)

pub packets_keep_faults : (c : Config) (row : GuestRow) (units : List (Option Mount)) (g : Guest) (volumes : List (List (List ℕ))) → (all_packets c row units g volumes).guest.state.modify_faults ≡ g.state.modify_faults
unfolding all_packets
packets_keep_faults c row units g volumes = queue_keeps_faults c row units (with_no_queue g) g.state.queue volumes
