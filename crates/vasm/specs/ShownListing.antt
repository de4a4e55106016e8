-- Listings of small sources, by computation.
use Rattle.std.specs.Prelude.{◌≡◌, ℕ, List, [], ◌∷◌, Result, Ok, Err, codes, refl, Some}
use Rattle.vasm_text.specs.Asm.{asm_of, statement_bytes, statement_size}
use Rattle.vasm_text.specs.Numbers.{field_in, number_in}
use Rattle.vasm_text.specs.Operands.{value_in}
use Rattle.vasm_text.specs.Statements.{source_line_in, content_in, statement_in, words_in}
use Rattle.vasm_text.specs.declared.fault.AsmFault.{AsmFault}
use Rattle.vasm_text.specs.declared.fault.AsmKind.TheVariants.{NoName}
use Rattle.vasm.specs.Listing.{listed_line, listed_name, listing_of}

-- eight bytes fill the column, and nine make it wider
a_short_line : listed_line 0x204 (0xd7 ∷ 0x50 ∷ []) (codes "L: DECL R0 ; down") ≡ codes "00000204 D750             L: DECL R0 ; down\n"
a_short_line = refl

a_full_line : listed_line 0x204 (1 ∷ 2 ∷ 3 ∷ 4 ∷ 5 ∷ 6 ∷ 7 ∷ 8 ∷ []) (codes "X") ≡ codes "00000204 0102030405060708 X\n"
a_full_line = refl

a_long_line : listed_line 0x204 (1 ∷ 2 ∷ 3 ∷ 4 ∷ 5 ∷ 6 ∷ 7 ∷ 8 ∷ 9 ∷ []) (codes "X") ≡ codes "00000204 010203040506070809 X\n"
a_long_line = refl

a_name : listed_name 0x21b (Some (codes "END")) ≡ codes "0000021B T END\n"
a_name = refl

-- Listing with all that it computes with.
whole_listing : List ℕ → Result (List ℕ) AsmFault
unfolding listing_of asm_of statement_bytes statement_size source_line_in content_in statement_in words_in field_in number_in value_in
whole_listing text = listing_of text

lines_come_before_names : whole_listing (codes "; one\nA: .byte 1\n.word 2\nB:") ≡ Ok (codes "00000200                  ; one\n00000200 01               A: .byte 1\n00000201 0200             .word 2\n00000203                  B:\n00000200 T A\n00000203 T B\n")
unfolding whole_listing
lines_come_before_names = refl

nothing_is_listed : whole_listing (codes ".byte 1\n.long M") ≡ Err (record { line = 2; kind = NoName })
unfolding whole_listing
nothing_is_listed = refl
