-- Worked examples of where shadow page tables lie, and of what is in them, by computation.
use Rattle.std.specs.Prelude.{◌≡◌, refl, ◌+◌, ◌*◌, true, false, [], ◌∷◌, map, Some, None}
use Rattle.vm_shadow.specs.Layout.{empty_entry, entry_number, entry_page, entry_place, entry_slot, kernel_entry, p0_base, p1_base, real_entry}
use Rattle.vm_shadow.specs.Shadowed.{is_read_from}
use Rattle.vm_shadow.specs.StandsFor.{goes, range_that_goes, real_psl}
use Rattle.vm_shadow.specs.declared.source.Source.TheVariants.{Direct, Process, System}

-- With the tables from page 80 on: the first and the last system entry, the first of P0 and of P1 in slot 0, and the last
-- of P1 in slot 3, with which the 580 pages end.
pub places : map (entry_place 80) (0 ∷ 8191 ∷ 8192 ∷ 16384 ∷ 73727 ∷ []) ≡ 40960 ∷ 73724 ∷ 75776 ∷ 108544 ∷ 337916 ∷ []
places = refl

pub ends : entry_place 80 73727 + 4 ≡ 512 * (80 + 580)
ends = refl

-- Pages by their entries: the first and the last of S, of P0 and of P1, in slot 0 and in slot 3.
pub pages_in_slot_0 : map entry_page (0 ∷ 8191 ∷ 8192 ∷ 16383 ∷ 16384 ∷ 24575 ∷ []) ≡ 0x400000 ∷ 0x401fff ∷ 0 ∷ 8191 ∷ 0x3fe000 ∷ 0x3fffff ∷ []
pages_in_slot_0 = refl

pub pages_in_slot_3 : map entry_page (57344 ∷ 65535 ∷ 65536 ∷ 73727 ∷ []) ≡ 0 ∷ 8191 ∷ 0x3fe000 ∷ 0x3fffff ∷ []
pages_in_slot_3 = refl

-- and entries by their pages; a system page has the same entry in each slot
pub numbers_in_slot_0 : map (entry_number 0) (0x400000 ∷ 0x401fff ∷ 0 ∷ 8191 ∷ 0x3fe000 ∷ 0x3fffff ∷ []) ≡ 0 ∷ 8191 ∷ 8192 ∷ 16383 ∷ 16384 ∷ 24575 ∷ []
numbers_in_slot_0 = refl

pub numbers_in_slot_3 : map (entry_number 3) (0x400000 ∷ 0x401fff ∷ 0 ∷ 8191 ∷ 0x3fe000 ∷ 0x3fffff ∷ []) ≡ 0 ∷ 8191 ∷ 57344 ∷ 65535 ∷ 65536 ∷ 73727 ∷ []
numbers_in_slot_3 = refl

pub slots : map entry_slot (8192 ∷ 24575 ∷ 24576 ∷ 57343 ∷ 57344 ∷ 73727 ∷ []) ≡ 0 ∷ 0 ∷ 1 ∷ 2 ∷ 3 ∷ 3 ∷ []
slots = refl

-- A guest from page 16 on, an entry of frame 8 under each of the sixteen codes: the real entry has frame 24 and the
-- compressed code; KW becomes EW, KR ER, ERKW EW, SRKW SREW and URKW UREW.
pub codes : map (λ code. real_entry 16 false (2147483648 + 134217728 * code + 8)) (0 ∷ 1 ∷ 2 ∷ 3 ∷ 4 ∷ 5 ∷ 6 ∷ 7 ∷ 8 ∷ 9 ∷ 10 ∷ 11 ∷ 12 ∷ 13 ∷ 14 ∷ 15 ∷ [])
    ≡ 0x80000018 ∷ 0x88000018 ∷ 0xa8000018 ∷ 0xb8000018 ∷ 0xa0000018 ∷ 0xa8000018 ∷ 0xa8000018 ∷ 0xb8000018 ∷ 0xc0000018 ∷ 0xc8000018 ∷ 0xc8000018 ∷ 0xd8000018 ∷ 0xe0000018 ∷ 0xe8000018 ∷ 0xe8000018 ∷ 0xf8000018 ∷ []
codes = refl

-- The modify bit is the one that is asked for, whatever the guest's is; so is the valid bit, and bits 25 to 21 are clear.
pub modify_bits : map (λ modify. real_entry 16 modify 0xa7e00008) (false ∷ true ∷ []) ≡ 0xa0000018 ∷ 0xa4000018 ∷ []
modify_bits = refl

pub entries_of_the_kernel : (empty_entry ∷ kernel_entry 148 ∷ []) ≡ 0x20000000 ∷ 0x90000094 ∷ []
entries_of_the_kernel = refl

-- The real PSL of kernel mode at IPL 31 on the interrupt stack; of executive mode come from kernel mode; of supervisor mode
-- come from user mode; of user mode with the condition codes set.
pub real_psls : map real_psl (0x041f0000 ∷ 0x01000000 ∷ 0x02c00000 ∷ 0x03c0000f ∷ []) ≡ 0x21400000 ∷ 0x21400000 ∷ 0x22c00000 ∷ 0x23c0000f ∷ []
real_psls = refl

-- The bases of the slots' tables. A P1 base lies below its table by the 2,088,960 entries that there are none of, and the
-- last page's entry, of number 2,097,151, ends the table.
pub p0_bases : map p0_base (0 ∷ 1 ∷ 2 ∷ 3 ∷ []) ≡ 0x80400000 ∷ 0x80410000 ∷ 0x80420000 ∷ 0x80430000 ∷ []
p0_bases = refl

pub p1_bases : map p1_base (0 ∷ 1 ∷ 2 ∷ 3 ∷ []) ≡ 0x7fc10000 ∷ 0x7fc20000 ∷ 0x7fc30000 ∷ 0x7fc40000 ∷ []
p1_bases = refl

pub p1_table_ends : p1_base 3 + 4 * 2097151 + 4 ≡ 0x80440000
p1_table_ends = refl

-- Frames from which an entry was read: a process entry has two, a system entry one, and with mapping off there is none.
pub sources : map (λ source. is_read_from 33 source) (Some (Process 33 32) ∷ Some (Process 32 33) ∷ Some (Process 32 34) ∷ Some (System 33) ∷ Some (System 32) ∷ Some Direct ∷ None ∷ [])
    ≡ true ∷ true ∷ false ∷ true ∷ false ∷ false ∷ false ∷ []
sources = refl

-- What goes at another context: nothing where its slot was free, the slot's own entries where another lost it, and all where
-- SBR, SLR or mapping changed.
pub ranges : (range_that_goes false false 3 ∷ range_that_goes false true 0 ∷ range_that_goes false true 3 ∷ range_that_goes true false 3 ∷ []) ≡ (0, 0) ∷ (8192, 24576) ∷ (57344, 73728) ∷ (0, 73728) ∷ []
ranges = refl

pub evicted_slot_3 : map (goes false true 3) (0 ∷ 8191 ∷ 8192 ∷ 57343 ∷ 57344 ∷ 73727 ∷ []) ≡ false ∷ false ∷ false ∷ false ∷ true ∷ true ∷ []
evicted_slot_3 = refl

pub evicted_slot_0 : map (goes false true 0) (8191 ∷ 8192 ∷ 24575 ∷ 24576 ∷ []) ≡ false ∷ true ∷ true ∷ false ∷ []
evicted_slot_0 = refl

pub free_slot : map (goes false false 0) (0 ∷ 8192 ∷ 73727 ∷ []) ≡ false ∷ false ∷ false ∷ []
free_slot = refl

pub remapped : map (goes true false 0) (0 ∷ 8192 ∷ 73727 ∷ []) ≡ true ∷ true ∷ true ∷ []
remapped = refl
