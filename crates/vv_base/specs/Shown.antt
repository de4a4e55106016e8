-- Worked examples of the definitions, checked by computation.
use Rattle.std.specs.Prelude.{◌≡◌, refl, pos, negsuc, [], ◌∷◌, true, false, codes}
use Rattle.std.specs.declared.option.Option.TheVariants.{None, Some}
use Rattle.vv_base.specs.Bytes.{word_at, long_at, word_bytes, long_bytes, overwritten}
use Rattle.vv_base.specs.Digits.{hex_text, decimal_of}
use Rattle.vv_base.specs.Names.{is_object_name, is_file_name}
use Rattle.vv_base.specs.Width.{signed_of}
use Rattle.vv_base.specs.declared.width.Width.TheVariants.{Byte, Word, Long}

the_lowest_byte_first : long_at (0xff ∷ 0x78 ∷ 0x56 ∷ 0x34 ∷ 0x12 ∷ []) 1 ≡ 0x12345678
the_lowest_byte_first = refl

two_bytes : word_at (0x34 ∷ 0x12 ∷ []) 0 ≡ 0x1234
two_bytes = refl

bytes_of_a_longword : long_bytes 0x12345678 ≡ 0x78 ∷ 0x56 ∷ 0x34 ∷ 0x12 ∷ []
bytes_of_a_longword = refl

others_stay : overwritten (1 ∷ 2 ∷ 3 ∷ 4 ∷ []) 1 (word_bytes 0x0a0b) ≡ 1 ∷ 0x0b ∷ 0x0a ∷ 4 ∷ []
others_stay = refl

capitals_and_leading_zeros : hex_text 8 0x20a ≡ codes "0000020A"
capitals_and_leading_zeros = refl

the_low_digits : hex_text 2 0x1ab ≡ codes "AB"
the_low_digits = refl

zero_is_a_number : decimal_of (codes "0") 9 ≡ Some 0
zero_is_a_number = refl

no_needless_zero : decimal_of (codes "01") 9 ≡ None
no_needless_zero = refl

the_greatest : decimal_of (codes "100000") 100000 ≡ Some 100000
the_greatest = refl

too_great : decimal_of (codes "100001") 100000 ≡ None
too_great = refl

no_digit : decimal_of (codes "1A") 99 ≡ None
no_digit = refl

no_text : decimal_of [] 99 ≡ None
no_text = refl

eight_characters : is_object_name (codes "A1234567") ≡ true
eight_characters = refl

nine_characters : is_object_name (codes "A12345678") ≡ false
nine_characters = refl

a_letter_first : is_object_name (codes "1A") ≡ false
a_letter_first = refl

no_lower_case : is_object_name (codes "Ab") ≡ false
no_lower_case = refl

no_blank : is_file_name (0x20 ∷ []) ≡ false
no_blank = refl

no_delete : is_file_name (0x61 ∷ 0x7f ∷ []) ≡ false
no_delete = refl

any_graphic : is_file_name (codes "!~a/b.c") ≡ true
any_graphic = refl

minus_one : signed_of Byte 0x1ff ≡ negsuc 0
minus_one = refl

the_least_word : signed_of Word 0x8000 ≡ negsuc 32767
the_least_word = refl

the_greatest_longword : signed_of Long 0x7fffffff ≡ pos 2147483647
the_greatest_longword = refl
