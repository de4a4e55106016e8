-- The moves that packets ask for, case by case.
use Rattle.std.proofs.Common.{◌≡◌, ℕ, ◌+◌, ◌<◌, ◌≤◌, Bool, true, false, true≢false, not, List, [], ◌∷◌, length, take, slice_index_or, Option, Some, None, Result, refl, ap, ◌∙◌, sym, subst, arith, if◌then◌else◌}
use Rattle.std.specs.Prelude.{OnErr, OnOk, is_err, nat_le, nat_lt}
use Rattle.std.specs.declared.result.Result.TheVariants.{Err, Ok}
use Rattle.std.proofs.lemmas.Bool.{false≢true, le-leb, le-ltb, lt-leb, lt-ltb, ltb-false}
use Rattle.std.proofs.lemmas.List.{length-take-le}
use Rattle.std.proofs.lemmas.Option.{get_or_from_slice_get, slice_get_within}
use Rattle.vv_base.specs.Bytes.{long_at}
use Rattle.vax_arch.specs.Walk.{is_past}
use Rattle.vax_hw.specs.Machine.{Machine}
use Rattle.vm_simulation_laws.specs.Moves.{Drops}
use Rattle.vm_simulation_laws.proofs.Own.{none_dropped}
use Rattle.vm_guest.specs.Kept.{Becomes, IsShadowedIn, Kept, frames_from, guest_in}
use Rattle.vm_state.specs.Outside.{bytes_at, with_bytes}
use Rattle.vm_state.specs.Partition.{part}
use Rattle.vm_state.proofs.Parts.{part_long}
use Rattle.sys_objects.specs.declared.records.GuestRow.{GuestRow}
use Rattle.sys_objects.specs.declared.records.Mount.{Mount}
use Rattle.sys_state.specs.Transfers.{Move, Packet, Prints, Reads, Refused, Writes, packet_at, to_print, to_read, to_write, unless_refused}
use Rattle.sys_store.specs.Blocks.{HasBlock, LacksBlock, blocks_of, with_block}
use Rattle.sys_store.specs.Job.{job_text}
use Rattle.vv_class.specs.declared.class.AccessClass.{AccessClass}
use Rattle.vm_state.specs.State.{Guest}
use Rattle.sys_transfers.specs.Serves.{Carries, PrintsOf, guest_scene}
use Rattle.sys_transfers.proofs.Composing.{becomes_same}
use Rattle.sys_transfers.proofs.Dropping.{block_frames, dropped_within}
use Rattle.vm_state.specs.Translation.{frame_at}

-- A packet's longwords are read from its first 20 bytes.
long_near : (memory bytes : List ℕ) (at n v : ℕ) → bytes ≡ part memory at 20 → n + 4 ≤ 20 → v ≡ long_at bytes n → v ≡ long_at memory (at + n)
long_near memory bytes at n v is near read = read ∙ ap (λ (bs : List ℕ). long_at bs n) is ∙ part_long memory at 20 n near

pub packet_read : (memory bytes : List ℕ) (at function unit block buffer size : ℕ) → bytes ≡ part memory at 20
    → function ≡ long_at bytes 0 → unit ≡ long_at bytes 4 → block ≡ long_at bytes 8 → buffer ≡ long_at bytes 12 → size ≡ long_at bytes 16
    → (let p : Packet = record { function = function; unit = unit; block = block; buffer = buffer; size = size } in p ≡ packet_at memory at)
packet_read memory bytes at function unit block buffer size is f u b p s =
    let first : at + 0 ≡ at = omega arith in
    let a = long_near memory bytes at 0 function is (omega arith) f ∙ ap (long_at memory) first in
    let b1 = long_near memory bytes at 4 unit is (omega arith) u in
    let c = long_near memory bytes at 8 block is (omega arith) b in
    let d = long_near memory bytes at 12 buffer is (omega arith) p in
    let e = long_near memory bytes at 16 size is (omega arith) s in
    λ i. record { function = a i; unit = b1 i; block = c i; buffer = d i; size = e i }

-- Reading and writing a block.
module _ (space : ℕ) (volumes : List (List (List ℕ))) (unit : Option Mount) (p : Packet) where
  pub read_nothing : unit ≡ None → to_read space volumes unit p ≡ Refused 3
  read_nothing is = ap (λ (o : Option Mount). to_read space volumes o p) is

  pub write_nothing : unit ≡ None → to_write space volumes unit p ≡ Refused 3
  write_nothing is = ap (λ (o : Option Mount). to_write space volumes o p) is

module _ (space : ℕ) (volumes : List (List (List ℕ))) (unit : Option Mount) (p : Packet) (mount : Mount) (is : unit ≡ Some mount) where
  abbrev many : ℕ
  many = length (blocks_of volumes mount.volume)

  abbrev reads : Bool → Bool → Move
  reads lacks past = unless_refused (if lacks then Some 5 else if past then Some 6 else None) (Reads mount.volume)

  at_read : to_read space volumes unit p ≡ reads (nat_le many p.block) (is_past space p.buffer 512)
  at_read = ap (λ (o : Option Mount). to_read space volumes o p) is

  pub read_no_block : length (blocks_of volumes mount.volume) ≤ p.block → to_read space volumes unit p ≡ Refused 5
  read_no_block h = at_read ∙ ap (λ b. reads b (is_past space p.buffer 512)) (le-leb many p.block h)

  pub read_no_memory : p.block < length (blocks_of volumes mount.volume) → is_past space p.buffer 512 ≡ true → to_read space volumes unit p ≡ Refused 6
  read_no_memory h past = at_read ∙ (λ i. reads (lt-leb many p.block h i) (past i))

  pub read_moves : p.block < length (blocks_of volumes mount.volume) → is_past space p.buffer 512 ≡ false → to_read space volumes unit p ≡ Reads mount.volume
  read_moves h past = at_read ∙ (λ i. reads (lt-leb many p.block h i) (past i))

  abbrev writes : Bool → Bool → Bool → Move
  writes barred lacks past = unless_refused (if barred then Some 4 else if lacks then Some 5 else if past then Some 6 else None) (Writes mount.volume)

  at_write : to_write space volumes unit p ≡ writes (not mount.write) (nat_le many p.block) (is_past space p.buffer 512)
  at_write = ap (λ (o : Option Mount). to_write space volumes o p) is

  pub write_not : not mount.write ≡ true → to_write space volumes unit p ≡ Refused 4
  write_not barred = at_write ∙ ap (λ b. writes b (nat_le many p.block) (is_past space p.buffer 512)) barred

  pub write_no_block : not mount.write ≡ false → length (blocks_of volumes mount.volume) ≤ p.block → to_write space volumes unit p ≡ Refused 5
  write_no_block may h = at_write ∙ (λ i. writes (may i) (le-leb many p.block h i) (is_past space p.buffer 512))

  pub write_no_memory : not mount.write ≡ false → p.block < length (blocks_of volumes mount.volume) → is_past space p.buffer 512 ≡ true → to_write space volumes unit p ≡ Refused 6
  write_no_memory may h past = at_write ∙ (λ i. writes (may i) (lt-leb many p.block h i) (past i))

  pub write_moves : not mount.write ≡ false → p.block < length (blocks_of volumes mount.volume) → is_past space p.buffer 512 ≡ false → to_write space volumes unit p ≡ Writes mount.volume
  write_moves may h past = at_write ∙ (λ i. writes (may i) (lt-leb many p.block h i) (past i))

-- bytes that aren't past memory are in it
pub lie_inside : (space at n : ℕ) → is_past space at n ≡ false → at + n ≤ space
lie_inside space at n e = ltb-false space (at + n) e

-- a block that is read exists
pub block_within : (volumes : List (List (List ℕ))) (v block : ℕ) (bytes : List ℕ) → HasBlock volumes v block bytes → block < length (blocks_of volumes v)
block_within volumes v block bytes has = slice_get_within (blocks_of volumes v) block bytes has

-- printing
abbrev prints : Bool → Bool → Move
prints long past = if long then Refused 6 else if past then Refused 6 else Prints

pub print_long : (space : ℕ) (p : Packet) → 132 < p.size → to_print space p ≡ Refused 6
print_long space p h = ap (λ b. prints b (is_past space p.buffer p.size)) (lt-ltb 132 p.size h)

pub print_past : (space : ℕ) (p : Packet) → is_past space p.buffer p.size ≡ true → to_print space p ≡ Refused 6
print_past space p past = ap (prints (nat_lt 132 p.size)) past ∙ either (nat_lt 132 p.size)
  where
    either : (b : Bool) → prints b true ≡ Refused 6
    either true = refl
    either false = refl

pub print_moves : (space : ℕ) (p : Packet) → p.size ≤ 132 → is_past space p.buffer p.size ≡ false → to_print space p ≡ Prints
print_moves space p h past = λ i. prints (le-ltb 132 p.size h i) (past i)

-- A move is refused: nothing changes.
pub refuses : (status : ℕ) (move : Move) (p : Packet) (volumes : List (List (List ℕ))) (m : Machine) (k : Kept) → IsShadowedIn m.memory k → move ≡ Refused status → Carries move p (guest_scene volumes m k) status (guest_scene volumes m k)
refuses status move p volumes m k stands is = subst (λ (x : Move). Carries x p (guest_scene volumes m k) status (guest_scene volumes m k)) (sym is) (record { status_is = refl; becomes = becomes_same m k stands; volumes_are = refl; drops = none_dropped [] k.shadow })

-- a block is read into memory
pub reads_block : (v : ℕ) (move : Move) (p : Packet) (volumes : List (List (List ℕ))) (bytes : List ℕ) (m : Machine) (k : Kept) (m' : Machine) (k' : Kept) → move ≡ Reads v → HasBlock volumes v p.block bytes
    → Becomes (with_bytes p.buffer bytes (guest_in m.memory k)) m k m' k' → length bytes ≡ 512 → Drops (frames_from p.buffer bytes) k.shadow k'.shadow → Carries move p (guest_scene volumes m k) 1 (guest_scene volumes m' k')
reads_block v move p volumes bytes m k m' k' is has becomes long drops =
    let block : bytes ≡ slice_index_or (blocks_of volumes v) p.block [] = sym (get_or_from_slice_get (blocks_of volumes v) p.block bytes [] has) in
    let read : Becomes (with_bytes p.buffer (slice_index_or (blocks_of volumes v) p.block []) (guest_in m.memory k)) m k m' k' = subst (λ (bs : List ℕ). Becomes (with_bytes p.buffer bs (guest_in m.memory k)) m k m' k') block becomes in
    subst (λ (x : Move). Carries x p (guest_scene volumes m k) 1 (guest_scene volumes m' k')) (sym is) (record { status_is = refl; becomes = read; volumes_are = refl; drops = dropped_within p.buffer bytes (frame_at p.buffer ∷ frame_at (p.buffer + 511) ∷ []) k.shadow k'.shadow (λ i h. block_frames p.buffer i (omega (arith, h, long))) drops })

-- a block is written from memory
pub writes_block : (v : ℕ) (move : Move) (p : Packet) (volumes volumes' : List (List (List ℕ))) (m : Machine) (k : Kept) → IsShadowedIn m.memory k → move ≡ Writes v → volumes' ≡ with_block volumes v p.block (bytes_at (guest_in m.memory k) p.buffer 512)
    → Carries move p (guest_scene volumes m k) 1 (guest_scene volumes' m k)
writes_block v move p volumes volumes' m k stands is written = subst (λ (x : Move). Carries x p (guest_scene volumes m k) 1 (guest_scene volumes' m k)) (sym is) (record { status_is = refl; becomes = becomes_same m k stands; volumes_are = written; drops = none_dropped [] k.shadow })

-- What a call answers.
pub on_err : {U E P : Type 0} (r : Result U E) → is_err r ≡ true → OnErr r P → P
on_err (Ok u) e h = absurd (false≢true e)
on_err (Err x) e h = h

pub on_ok : {U E P : Type 0} (r : Result U E) → is_err r ≡ false → OnOk r P → P
on_ok (Ok u) e h = h
on_ok (Err x) e h = absurd (true≢false e)

-- a block that is there is written
pub surely_written : {U E : Type 0} (r : Result U E) (volumes volumes' : List (List (List ℕ))) (v block : ℕ) (bytes : List ℕ) → block < length (blocks_of volumes v) → OnOk r (volumes' ≡ with_block volumes v block bytes) → OnErr r (LacksBlock volumes v block × (volumes' ≡ volumes))
    → volumes' ≡ with_block volumes v block bytes
surely_written (Ok u) volumes volumes' v block bytes within ok err = ok
surely_written (Err e) volumes volumes' v block bytes within ok err = absurd (omega (arith, within, err.0))

-- a text is refused, or printed
pub text_refused : (row : GuestRow) (p : Packet) (g : Guest) (move : Move) → move ≡ Refused 6 → PrintsOf row p g move 6 None
text_refused row p g move is = subst (λ (x : Move). PrintsOf row p g x 6 None) (sym is) (record { status_is = refl; job_is = refl })

pub text_printed : (row : GuestRow) (p : Packet) (g : Guest) (move : Move) (job : List ℕ) → move ≡ Prints → job ≡ job_text row.class row.name (bytes_at g p.buffer p.size) → PrintsOf row p g move 1 (Some job)
text_printed row p g move job is text = subst (λ (x : Move). PrintsOf row p g x 1 (Some job)) (sym is) (record { status_is = refl; job_is = ap Some text })

-- the bytes of a text are read
pub text_read : (class : AccessClass) (name : List ℕ) (g : Guest) (at size : ℕ) (text bytes job : List ℕ) → size ≤ length text → bytes ≡ bytes_at g at (length (take size text)) → job ≡ job_text class name bytes → job ≡ job_text class name (bytes_at g at size)
text_read class name g at size text bytes job few read is = is ∙ ap (λ (bs : List ℕ). job_text class name bs) (read ∙ ap (λ n. bytes_at g at n) (length-take-le size text few))
