-- Worked examples, by computation.
use Rattle.std.specs.Prelude.{◌≡◌, refl, ◌/◌, ◌%◌, ◌^◌, ◌==◌, true, false, [], ◌∷◌, map}
use Rattle.std.specs.List.{range_with_len}
use Rattle.vax_arch.specs.declared.mode.Mode.{Mode}
use Rattle.vax_arch.specs.declared.mode.Mode.TheVariants.{Kernel, Executive, Supervisor, User}
use Rattle.vax_arch.specs.declared.mode.Intent.TheVariants.{Read}
use Rattle.vax_arch.specs.Fields.{mode_of, mode_number, current_of, previous_of, ipl_of, is_on_interrupt_stack, is_valid, protection_of, is_modified, frame_of}
use Rattle.vax_arch.specs.Protection.{may_of}
use Rattle.vax_arch.specs.Rei.{has_must_be_zero_bit, rei_refuses}
use Rattle.vax_arch.specs.Ring.{open_of, compressed_of}

-- a mode is the mode of its number
pub mode_again : (m : Mode) → mode_of (mode_number m) ≡ m
mode_again Kernel = refl
mode_again Executive = refl
mode_again Supervisor = refl
mode_again User = refl

-- 041F0000: kernel mode on the interrupt stack at IPL 31
pub start_is_kernel : current_of 0x041f_0000 ≡ Kernel
start_is_kernel = refl

pub start_is_raised : ipl_of 0x041f_0000 ≡ 31
start_is_raised = refl

pub start_is_on_interrupt_stack : is_on_interrupt_stack 0x041f_0000 ≡ true
start_is_on_interrupt_stack = refl

-- 02C00000: supervisor mode, come from user mode
pub supervisor : current_of 0x02c0_0000 ≡ Supervisor
supervisor = refl

pub from_user : previous_of 0x02c0_0000 ≡ User
from_user = refl

-- 94000008: valid, KW, modified, frame 8
pub code_of_entry : protection_of 0x9400_0008 ≡ 2
code_of_entry = refl

pub frame_of_entry : frame_of 0x9400_0008 ≡ 8
frame_of_entry = refl

pub bits_of_entries : map is_valid (0x9400_0008 ∷ 0x2000_0008 ∷ []) ≡ true ∷ false ∷ []
bits_of_entries = refl

pub modify_of_entries : map is_modified (0xa400_0008 ∷ 0xa000_0008 ∷ []) ≡ true ∷ false ∷ []
modify_of_entries = refl

-- a KW page: executive is refused by the manual's table, and allowed by the virtual machine; user never
pub kw_by_the_manual : may_of 2 Executive Read ≡ false
kw_by_the_manual = refl

pub kw_is_open_to_executive : open_of 2 Executive Read ≡ true
kw_is_open_to_executive = refl

pub kw_is_closed_to_user : open_of 2 User Read ≡ false
kw_is_closed_to_user = refl

-- the five codes that give kernel more than executive are the ones that change
pub five_change : map compressed_of (2 ∷ 3 ∷ 6 ∷ 10 ∷ 14 ∷ []) ≡ 5 ∷ 7 ∷ 5 ∷ 9 ∷ 13 ∷ []
five_change = refl

pub eleven_stay : map compressed_of (0 ∷ 1 ∷ 4 ∷ 5 ∷ 7 ∷ 8 ∷ 9 ∷ 11 ∷ 12 ∷ 13 ∷ 15 ∷ []) ≡ 0 ∷ 1 ∷ 4 ∷ 5 ∷ 7 ∷ 8 ∷ 9 ∷ 11 ∷ 12 ∷ 13 ∷ 15 ∷ []
eleven_stay = refl

-- bits 31:27, 21 and 15:8 are those of F820FF00 hex, bit by bit
pub must_be_zero : map (λ k. has_must_be_zero_bit (2 ^ k)) (range_with_len 0 32) ≡ map (λ k. 0xf820_ff00 / 2 ^ k % 2 == 1) (range_with_len 0 32)
must_be_zero = refl

-- from user mode: to kernel mode, to user mode come from supervisor mode, and to user mode come from user mode
pub rei_from_user : map (rei_refuses 0x03c0_0000) (0x0000_0000 ∷ 0x0380_0000 ∷ 0x03c0_0000 ∷ []) ≡ true ∷ true ∷ false ∷ []
rei_from_user = refl

-- from the interrupt stack at IPL 31: kept; to IPL 0 on it; to user mode on it, and at IPL 1; to user mode
pub rei_from_interrupt_stack : map (rei_refuses 0x041f_0000) (0x041f_0000 ∷ 0x0400_0000 ∷ 0x07c1_0000 ∷ 0x03c1_0000 ∷ 0x03c0_0000 ∷ []) ≡ false ∷ true ∷ true ∷ true ∷ false ∷ []
rei_from_interrupt_stack = refl

-- from kernel mode at IPL 1: to IPL 2, to the interrupt stack, to IPL 0
pub rei_from_kernel : map (rei_refuses 0x0001_0000) (0x0002_0000 ∷ 0x0401_0000 ∷ 0x0000_0000 ∷ []) ≡ true ∷ true ∷ false ∷ []
rei_from_kernel = refl
