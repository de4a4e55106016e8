-- Longwords pushed on a guest's stack (VAX Architecture Reference Manual: exceptions and interrupts). All their bytes are walked
-- for writing, then the modify bits of their pages are set, then the bytes are written, each at the place that the walk found;
-- this order is profile.
use Rattle.std.specs.Prelude.{ℕ, zero, suc, ◌+◌, ◌/◌, ◌%◌, ◌^◌, List, [], ◌∷◌, ◌++◌, slice_set, if◌then◌else◌, not, Option, Some, None}
use Rattle.vv_base.specs.Bytes.{long_at}
use Rattle.vax_arch.specs.Fields.{is_modified}
use Rattle.vax_arch.specs.declared.mode.Intent.TheVariants.{Write}
use Rattle.vax_arch.specs.declared.mode.Mode.{Mode}
use Rattle.vax_table.specs.Operand.{minus}
use Rattle.vm_state.specs.State.{Guest}
use Rattle.vm_state.specs.Translation.{frame_at, marked, walk_of}
use Rattle.vm_state.specs.declared.walk.MemFault.{MemFault}
use Rattle.vm_state.specs.declared.walk.Walk.{Walk}
use Rattle.vm_state.specs.declared.walk.Walk.TheVariants as walks

-- a byte for an address
pub record PushedByte : Type 0 where
  pub at : ℕ
  pub value : ℕ

-- k bytes of a number from an address up, the lowest first
abbrev pub bytes_from : ℕ → ℕ → ℕ → List PushedByte
bytes_from zero at v = []
bytes_from (suc k) at v = record { at = at % 2 ^ 32; value = v % 256 } ∷ bytes_from k (at + 1) (v / 256)

-- the bytes of longwords that are pushed from a stack pointer on, in the order in which they are walked
abbrev pub pushed_bytes : ℕ → List ℕ → List PushedByte
pushed_bytes sp [] = []
pushed_bytes sp (v ∷ vs) = bytes_from 4 (minus sp 4) v ++ pushed_bytes (minus sp 4) vs

-- the stack pointer after the pushes
abbrev pub pointer_after : ℕ → List ℕ → ℕ
pointer_after sp [] = sp
pointer_after sp (v ∷ vs) = pointer_after (minus sp 4) vs

-- where a byte goes: its place, and that of its page's entry, of which there is none with mapping off
pub record Home : Type 0 where
  pub place : ℕ
  pub entry : Option ℕ
  pub value : ℕ

-- all bytes have places; or the first that has none has a fault, or is beyond memory
pub data Walked : Type 0 where
  Homes : List Home → Walked
  Faulty : MemFault → Walked
  PastMemory : Walked

abbrev pub with_home : ℕ → Walk → Walked → Walked
with_home v (walks.Frame pa entry table) (Homes hs) = Homes (record { place = pa; entry = entry; value = v } ∷ hs)
with_home v (walks.Frame pa entry table) trouble = trouble
with_home v (walks.Fault f) rest = Faulty f
with_home v walks.Beyond rest = PastMemory

abbrev pub walked : Guest → Mode → List PushedByte → Walked
walked g m [] = Homes []
walked g m (b ∷ bs) = with_home b.value (walk_of g b.at m Write) (walked g m bs)

-- longwords, walked in a mode from a stack pointer on
unfoldable pub push_walked : Guest → Mode → (sp : ℕ) → List ℕ → Walked
push_walked g m sp vs = walked g m (pushed_bytes sp vs)

-- the modify bits, in walk order
abbrev pub marked_at : Option ℕ → List ℕ → List ℕ
marked_at None memory = memory
marked_at (Some place) memory = marked place memory

abbrev pub all_marked : List Home → List ℕ → List ℕ
all_marked [] memory = memory
all_marked (h ∷ hs) memory = all_marked hs (marked_at h.entry memory)

abbrev pub all_put : List Home → List ℕ → List ℕ
all_put [] memory = memory
all_put (h ∷ hs) memory = all_put hs (slice_set memory h.place h.value)

-- the memory after the pushes
unfoldable pub pushed : List Home → List ℕ → List ℕ
pushed hs memory = all_put hs (all_marked hs memory)

-- the frames that are written: those of entries whose bit was clear, and those of the bytes
abbrev pub mark_written : List ℕ → Option ℕ → List ℕ
mark_written memory None = []
mark_written memory (Some place) = if not (is_modified (long_at memory place)) then frame_at place ∷ [] else []

abbrev pub frames_pushed : List ℕ → List Home → List ℕ
frames_pushed memory [] = []
frames_pushed memory (h ∷ hs) = mark_written memory h.entry ++ frame_at h.place ∷ frames_pushed memory hs
