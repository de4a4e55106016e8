-- How many bytes the printed parts have.
use Rattle.std.specs.Option.{unwrap_or}
use Rattle.std.specs.List.{range_with_len}
use Rattle.std.specs.Prelude.{map}
use Rattle.std.proofs.Common.{◌≡◌, ℕ, ◌+◌, ◌*◌, ◌<◌, ◌≤◌, true, List, Some, length, nat_le, refl, ap, ◌∙◌, arith, []}
use Rattle.std.proofs.lemmas.Bool.{leb-true}
use Rattle.vasm_text.specs.Mnemonics.{mnemonic_of}
use Rattle.vasm_text.specs.Printing.{field_text}
use Rattle.vasm_dis.proofs.Fields.{hex_length}
use Rattle.vasm_dis.proofs.Finite.{everywhere}

pub field_length : (size v : ℕ) → length (field_text size v) ≡ 2 + 2 * size
unfolding field_text
field_length size v = omega (arith, hex_length (2 * size) v)

names_short : map (λ n. nat_le (length (unwrap_or (mnemonic_of n) [])) 6) (range_with_len 0 256) ≡ map (λ n. true) (range_with_len 0 256)
unfolding mnemonic_of
names_short = refl

-- each instruction's name
pub name_length : (n : ℕ) (name : List ℕ) → n < 256 → Some name ≡ mnemonic_of n → length name ≤ 6
name_length n name below is =
    let short : nat_le (length (unwrap_or (mnemonic_of n) [])) 6 ≡ true = everywhere (λ k. nat_le (length (unwrap_or (mnemonic_of k) [])) 6) (λ k. true) 256 names_short n below in
    let same : name ≡ unwrap_or (mnemonic_of n) [] = ap (λ o. unwrap_or o []) is in
    let here : nat_le (length name) 6 ≡ true = ap (λ (xs : List ℕ). nat_le (length xs) 6) same ∙ short in
    leb-true (length name) 6 here
