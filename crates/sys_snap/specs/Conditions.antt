-- What a snapshot allows beyond the forms of its fields.
use Rattle.std.specs.Option.{option_map_or}
use Rattle.std.specs.Prelude.{ℕ, ◌+◌, ◌/◌, ◌%◌, ◌^◌, ◌==◌, ◌&&◌, ◌||◌, not, nat_le, Bool, true, false, List, [], ◌∷◌, Option, Some, None, slice_get}
use Rattle.std.specs.List.{list_any}
use Rattle.vax_arch.specs.Rei.{has_must_be_zero_bit}
use Rattle.sys_objects.specs.Rules.{same_class, same_place}
use Rattle.sys_objects.specs.declared.records.GuestRow.{GuestRow}
use Rattle.sys_objects.specs.declared.records.Terminal.{Terminal}
use Rattle.vm_state.specs.Registers.{allows}
use Rattle.vm_state.specs.declared.register.Register.TheVariants.{P0br}

abbrev pub any : ℕ → Bool
any v = true

-- at the start P0BR is 0, though MTPR doesn't allow it
abbrev pub is_p0br : ℕ → Bool
is_p0br v = v == 0 || allows P0br v

abbrev pub is_psl : ℕ → Bool
is_psl v = not (has_must_be_zero_bit v)

-- a packet's address, in a memory of `size` bytes
abbrev pub is_packet : ℕ → ℕ → Bool
is_packet size v = v % 4 == 0 && nat_le (v + 24) size

-- ICCS has no bit but 0, 6, 7 and 31
abbrev pub is_iccs : ℕ → Bool
is_iccs v = v / 2 % 2 ^ 5 == 0 && v / 2 ^ 8 % 2 ^ 23 == 0

-- what is asked for asks for its enable
abbrev pub needs : Bool → Bool → Bool
needs enable request = not request || enable

-- a terminal is connected with no guest, or with one of its class
abbrev pub may_sit : List GuestRow → Terminal → Option ℕ → Bool
may_sit rows t None = true
may_sit rows t (Some g) = option_map_or (λ row. same_class row.class t.class) (slice_get rows g) false

-- each terminal is so connected, and no guest with two
abbrev pub may_all_sit : List GuestRow → List Terminal → List (Option ℕ) → Bool
may_all_sit rows [] [] = true
may_all_sit rows (t ∷ ts) (seat ∷ seats) = may_sit rows t seat && not (list_any (same_place seat) seats) && may_all_sit rows ts seats
may_all_sit rows ts seats = false
