-- Where bytes that are no snapshot misfit: a snapshot's fields one after another, each with what it allows. Numbers have their
-- lowest byte first.
use Rattle.std.specs.Prelude.{ℕ, ◌+◌, ◌*◌, ◌==◌, ◌&&◌, ◌||◌, nat_le, nat_lt, Bool, bytes_eq, if◌then◌else◌, List, [], ◌∷◌, ◌++◌, flat_map, length, map, replicate, take, drop, slice_index, Option, Some, None, Ok, Err, is_ok}
use Rattle.std.specs.List.{list_all, range_with_len}
use Rattle.vv_base.specs.Bits.{is_set}
use Rattle.vv_class.specs.declared.class.AccessClass.{AccessClass}
use Rattle.sys_config.specs.Config.{config_of}
use Rattle.sys_objects.specs.Rules.{may_mount}
use Rattle.sys_objects.specs.declared.records.Config.{Config}
use Rattle.sys_objects.specs.declared.records.VolumeRow.{VolumeRow}
use Rattle.sys_snap.specs.Conditions.{any, is_iccs, is_p0br, is_packet, is_psl, may_all_sit}
use Rattle.sys_snap.specs.Written.{snap_head}
use Rattle.vm_state.specs.Registers.{allows}
use Rattle.vm_state.specs.Stops.{is_stop_code}
use Rattle.vm_state.specs.declared.register.Register.TheVariants.{Astlvl, P0lr, P1br, P1lr, Pcbb, Sbr, Scbb, Sisr, Slr}

-- how many bytes a field has, and which it allows after fields with these numbers, of which the last comes first
pub record SnapField : Type 0 where
  pub size : ℕ
  pub may_be : List ℕ → List ℕ → Bool

abbrev pub field_number : List ℕ → ℕ
field_number [] = 0
field_number (b ∷ bytes) = b + 256 * field_number bytes

-- where the first field begins that is cut or not allowed after those before it, or where bytes are left over
abbrev pub misfit_from : (at : ℕ) → (before : List ℕ) → List SnapField → List ℕ → Option ℕ
misfit_from at before [] [] = None
misfit_from at before [] (b ∷ bytes) = Some at
misfit_from at before (f ∷ fields) bytes =
    if nat_le f.size (length bytes) && f.may_be before (take f.size bytes)
    then misfit_from (at + f.size) (field_number (take f.size bytes) ∷ before) fields (drop f.size bytes) else Some at

-- a number that passes a test
abbrev pub numeric : ℕ → (ℕ → Bool) → SnapField
numeric size ok = record { size = size; may_be = λ before own. ok (field_number own) }

-- a number that passes a test with the number of the field before it, or with one k fields further back
abbrev pub numeric_after : (size k : ℕ) → (ℕ → ℕ → Bool) → SnapField
numeric_after size k ok = record { size = size; may_be = λ before own. ok (slice_index before k) (field_number own) }

abbrev pub flag_field : SnapField
flag_field = numeric 1 (λ n. nat_lt n 2)

-- a flag, 1 only where that field has this bit
abbrev pub request_field : (bit k : ℕ) → SnapField
request_field bit k = numeric_after 1 k (λ enable n. n == 0 || n == 1 && is_set enable bit)

-- the place for packet i, which is 0 from the number of packets on
abbrev pub packet_field : (size i : ℕ) → SnapField
packet_field size i = numeric_after 4 i (λ count p. if nat_lt i count then is_packet size p else p == 0)

-- a record and after it the memory, of `size` bytes
unfoldable pub guest_fields : ℕ → List SnapField
guest_fields size =
    -- R0 to R15, PSL, the five stack pointers
    replicate 16 (numeric 4 any) ++ numeric 4 is_psl ∷ replicate 5 (numeric 4 any)
    -- the other registers
    ++ numeric 4 is_p0br ∷ map (λ register. numeric 4 (allows register)) (P0lr ∷ P1br ∷ P1lr ∷ Sbr ∷ Slr ∷ Pcbb ∷ Scbb ∷ [])
    ++ numeric 1 (allows Astlvl) ∷ numeric 2 (allows Sisr) ∷ flag_field
    -- the clock, whose request needs bit 6 of ICCS
    ∷ numeric 4 is_iccs ∷ numeric 4 any ∷ numeric 4 any ∷ request_field 6 2
    -- the console: two enables and their requests, and the bytes that wait, some where one is announced
    ∷ flag_field ∷ flag_field ∷ request_field 0 1 ∷ request_field 0 1
    ∷ numeric_after 2 1 (λ request n. nat_le n 256 && (request == 0 || nat_lt 0 n))
    ∷ record { size = 256; may_be = λ before own. list_all (λ b. b == 0) (drop (slice_index before 0) own) }
    -- whether a transfer's interrupt is due, and packets
    ∷ flag_field ∷ numeric 1 (λ n. nat_le n 8) ∷ map (packet_field size) (range_with_len 0 8)
    -- whether it waits, its stop code or FF, its steps
    ++ flag_field ∷ numeric 1 (λ n. n == 255 || is_stop_code n) ∷ numeric 4 any ∷ numeric size any ∷ []

-- a volume that the guest may mount so, or FF and 0
abbrev pub mount_field : List VolumeRow → AccessClass → SnapField
mount_field volumes class = record {
  size = 2;
  may_be = λ before own.
      if slice_index own 0 == 255 then slice_index own 1 == 0
      else nat_lt (slice_index own 1) 2 && may_mount volumes class (Some (record { volume = slice_index own 0; write = slice_index own 1 == 1 }));
}

-- 32 places: of each terminal a guest that may be there, or FF; and FF
abbrev pub seats_field : Config → SnapField
seats_field c = record {
  size = 32;
  may_be = λ before own.
      may_all_sit c.guests c.terminals (map (λ b. if b == 255 then None else Some b) (take (length c.terminals) own))
      && list_all (λ b. b == 255) (drop (length c.terminals) own);
}

-- what comes after the text
unfoldable pub fields_after_text : Config → List SnapField
fields_after_text c =
    numeric 4 (λ made. nat_le made 1000000) ∷ seats_field c
    ∷ flat_map (λ row. replicate 4 (mount_field c.volumes row.class)) c.guests
    ++ flat_map (λ row. guest_fields (512 * row.pages)) c.guests
    ++ map (λ row. numeric (512 * row.blocks) any) c.volumes

unfoldable pub misfit_in : List ℕ → Option ℕ
misfit_in bytes =
    let left = drop 8 bytes in
    let size = field_number (take 4 left) in
    let config = config_of (take size (drop 4 left)) in
    misfit_from 0 [] (
    record { size = 8; may_be = λ before own. bytes_eq own snap_head }
    ∷ numeric 4 (λ n. nat_le n 262144)
    ∷ record { size = size; may_be = λ before own. is_ok config }
    ∷ elim (config) [ Ok c ↦ fields_after_text c | Err fault ↦ [] ]
    ) bytes
