-- Worked examples of stores in one page, and of numbers at two places, by computation.
use Rattle.std.specs.Prelude.{◌≡◌, ℕ, List, [], ◌∷◌, true, false, refl}
use Rattle.vv_base.specs.declared.width.Width.TheVariants.{Byte, Word, Long}
use Rattle.vax_table.specs.Effects.{store}
use Rattle.vax_paged.specs.InPage.{all_lie_in, lies_in, number_over}

-- the last word of page 1 lies in it, and a longword there goes over its end
pub last_word : lies_in 1 (store 0x3fe Word 0) ≡ true
last_word = refl

pub over_its_end : lies_in 1 (store 0x3fe Long 0) ≡ false
over_its_end = refl

pub next_page : lies_in 1 (store 0x400 Byte 0) ≡ false
next_page = refl

-- each store is asked
pub both : all_lie_in 1 (store 0x200 Long 0 ∷ store 0x3fe Word 0 ∷ []) ≡ true
both = refl

pub not_both : all_lie_in 1 (store 0x200 Long 0 ∷ store 0x1ff Byte 0 ∷ []) ≡ false
not_both = refl

-- four bytes of memory
abbrev memory : List ℕ
memory = 0x11 ∷ 0x22 ∷ 0x33 ∷ 0x44 ∷ []

-- the lowest byte of a word at place 3, the other at place 0
pub word_over_an_end : number_over memory 1 2 3 0 ≡ 0x1144
word_over_an_end = refl

-- three bytes of a longword at place 1, the highest at place 0; and one at place 3, three from place 0 on
pub longword_three_and_one : number_over memory 3 4 1 0 ≡ 0x11443322
longword_three_and_one = refl

pub longword_one_and_three : number_over memory 1 4 3 0 ≡ 0x33221144
longword_one_and_three = refl

-- all at the first place, or all at the next
pub all_at_the_first : number_over memory 4 4 0 9 ≡ 0x44332211
all_at_the_first = refl

pub all_at_the_next : number_over memory 0 2 9 2 ≡ 0x4433
all_at_the_next = refl
