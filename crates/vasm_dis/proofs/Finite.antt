-- What holds of each register, of each literal and of each name, by computation over all of them.
use Rattle.std.specs.Option.{unwrap_or}
use Rattle.std.specs.Fmt.{digits}
use Rattle.std.specs.List.{list_all, range_with_len}
use Rattle.std.specs.Prelude.{map, bytes_eq, codes, is_none, ◌||◌}
use Rattle.std.proofs.Common.{◌≡◌, ◌==◌, ℕ, ◌<◌, ◌&&◌, Bool, true, false, List, Some, decimal, get_or, take, nat_le, refl, sym, ap, ◌∙◌, arith, []}
use Rattle.std.proofs.lemmas.List.FromFn.{get_or-map-range_with_len}
use Rattle.vasm_text.specs.Mnemonics.{mnemonic_of}
use Rattle.vasm_text.specs.Numbers.{number_in, register_in}
use Rattle.vasm_text.specs.Operands.{displacement_in}
use Rattle.vasm_text.specs.Printing.{register_text}

-- what holds of each number below a bound in one list
pub everywhere : {A : Type 0} (f g : ℕ → A) (most : ℕ) → map f (range_with_len 0 most) ≡ map g (range_with_len 0 most) → (n : ℕ) → n < most → f n ≡ g n
everywhere {A} f g most same n below =
    sym (get_or-map-range_with_len f 0 most n n (f n) below (omega arith))
    ∙ ap (λ (xs : List A). get_or xs n (f n)) same
    ∙ get_or-map-range_with_len g 0 most n n (f n) below (omega arith)

-- digits, capitals, # (35) and ^ (94)
abbrev pub is_plain : ℕ → Bool
is_plain b = (nat_le 48 b && nat_le b 57) || (nat_le 65 b && nat_le b 90) || (b == 35 || b == 94)

abbrev pub ArePlain : List ℕ → Type 0
ArePlain text = list_all is_plain text ≡ true

-- ---- registers

registers_plain : map (λ n. list_all is_plain (register_text n)) (range_with_len 0 16) ≡ map (λ n. true) (range_with_len 0 16)
unfolding register_text digits
registers_plain = refl

pub register_plain : (n : ℕ) → n < 16 → ArePlain (register_text n)
register_plain n below = everywhere (λ k. list_all is_plain (register_text k)) (λ k. true) 16 registers_plain n below

registers_back : map (λ n. register_in (register_text n)) (range_with_len 0 16) ≡ map (λ n. Some n) (range_with_len 0 16)
unfolding register_text digits register_in
registers_back = refl

pub register_back : (n : ℕ) → n < 16 → register_in (register_text n) ≡ Some n
register_back n below = everywhere (λ k. register_in (register_text k)) (λ k. Some k) 16 registers_back n below

-- whether a text begins as a specifier does that is no register
abbrev pub has_sign : List ℕ → Bool
has_sign text =
    bytes_eq (take 1 text) (codes "@") || (bytes_eq (take 3 text) (codes "S^#") || (bytes_eq (take 3 text) (codes "I^#") || (bytes_eq (take 2 text) (codes "-(") || bytes_eq (take 1 text) (codes "("))))

registers_bare : map (λ n. has_sign (register_text n)) (range_with_len 0 16) ≡ map (λ n. false) (range_with_len 0 16)
unfolding register_text digits
registers_bare = refl

pub register_bare : (n : ℕ) → n < 16 → has_sign (register_text n) ≡ false
register_bare n below = everywhere (λ k. has_sign (register_text k)) (λ k. false) 16 registers_bare n below

registers_here : map (λ n. is_none (displacement_in 0 (register_text n))) (range_with_len 0 16) ≡ map (λ n. true) (range_with_len 0 16)
unfolding register_text digits displacement_in
registers_here = refl

pub register_here : (n : ℕ) → n < 16 → is_none (displacement_in 0 (register_text n)) ≡ true
register_here n below = everywhere (λ k. is_none (displacement_in 0 (register_text k))) (λ k. true) 16 registers_here n below

-- ---- literals

literals_plain : map (λ n. list_all is_plain (decimal n)) (range_with_len 0 64) ≡ map (λ n. true) (range_with_len 0 64)
unfolding digits
literals_plain = refl

pub literal_plain : (n : ℕ) → n < 64 → ArePlain (decimal n)
literal_plain n below = everywhere (λ k. list_all is_plain (decimal k)) (λ k. true) 64 literals_plain n below

literals_back : map (λ n. number_in (decimal n)) (range_with_len 0 64) ≡ map (λ n. Some n) (range_with_len 0 64)
unfolding digits number_in
literals_back = refl

pub literal_back : (n : ℕ) → n < 64 → number_in (decimal n) ≡ Some n
literal_back n below = everywhere (λ k. number_in (decimal k)) (λ k. Some k) 64 literals_back n below

-- ---- names

names_plain : map (λ n. list_all is_plain (unwrap_or (mnemonic_of n) [])) (range_with_len 0 256) ≡ map (λ n. true) (range_with_len 0 256)
unfolding mnemonic_of
names_plain = refl

pub name_plain : (n : ℕ) → n < 256 → ArePlain (unwrap_or (mnemonic_of n) [])
name_plain n below = everywhere (λ k. list_all is_plain (unwrap_or (mnemonic_of k) [])) (λ k. true) 256 names_plain n below
