-- By computation over all 256 opcodes.
use Rattle.std.specs.List.{range_with_len}
use Rattle.std.specs.Prelude.{map, is_some}
use Rattle.std.proofs.Common.{◌≡◌, ℕ, ◌<◌, List, Option, Some, None, get_or, refl, sym, ap, ◌∙◌, arith}
use Rattle.std.proofs.lemmas.List.FromFn.{get_or-map-range_with_len}
use Rattle.vax_table.specs.Rows.{row_of}
use Rattle.vasm_text.specs.Apart.{AreApart}
use Rattle.vasm_text.specs.Mnemonics.{mnemonic_of, opcode_of}

-- what holds of each number below 256 in one list
pub everywhere : {A : Type 0} (f g : ℕ → A) → map f (range_with_len 0 256) ≡ map g (range_with_len 0 256) → (n : ℕ) → n < 256 → f n ≡ g n
everywhere {A} f g same n below =
    sym (get_or-map-range_with_len f 0 256 n n (f n) below (omega arith))
    ∙ ap (λ (xs : List A). get_or xs n (f n)) same
    ∙ get_or-map-range_with_len g 0 256 n n (f n) below (omega arith)

abbrev read_back : ℕ → Option (List ℕ) → Option ℕ
read_back n None = Some n
read_back n (Some name) = opcode_of name

all_back : map (λ n. read_back n (mnemonic_of n)) (range_with_len 0 256) ≡ map (λ n. Some n) (range_with_len 0 256)
unfolding opcode_of mnemonic_of
all_back = refl

all_named : map (λ n. is_some (mnemonic_of n)) (range_with_len 0 256) ≡ map (λ n. is_some (row_of n)) (range_with_len 0 256)
unfolding mnemonic_of row_of
all_named = refl

pub are_apart : AreApart
are_apart = record {
  back = λ n name below is. sym (ap (read_back n) is) ∙ everywhere (λ k. read_back k (mnemonic_of k)) (λ k. Some k) all_back n below;
  every = λ n below. everywhere (λ k. is_some (mnemonic_of k)) (λ k. is_some (row_of k)) all_named n below;
}
