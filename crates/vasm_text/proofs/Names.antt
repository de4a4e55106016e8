-- The code's names are the definition's, opcode by opcode, and the first of a name.
use Rattle.std.specs.List.{position_or_len}
use Rattle.std.proofs.Common.{◌≡◌, ◌==◌, ℕ, ◌<◌, ◌≤◌, true, false, List, [], ◌∷◌, Option, Some, None, Bor, cond, get_or, length, ltb, refl, sym, ap, ◌∙◌, arith}
use Rattle.std.proofs.lemmas.Bool.{lt-ltb}
use Rattle.std.proofs.lemmas.List.{get_or-map}
use Rattle.std.proofs.lemmas.List.FromFn.{get_or-map-range_with_len}
use Rattle.std.proofs.lemmas.List.Sums.{position_or_len_is}
use Rattle.vasm_text.specs.Table.{AreNames, nonempty_now, nonempty_text}
use Rattle.vasm_text.specs.Mnemonics.{mnemonic_of, mnemonics, has_name, opcode_of}

name_is : (xs : List (Bor (List ℕ))) → AreNames xs → (n : ℕ) (d : Bor (List ℕ)) → n < 256 → nonempty_now (get_or xs n d) ≡ mnemonic_of n
name_is xs are n d below =
    let within : n < length xs = omega (arith, are.long) in
    sym (get_or-map nonempty_now xs n d (nonempty_now d) within)
    ∙ ap (λ (ys : List (Option (List ℕ))). get_or ys n (nonempty_now d)) are.same
    ∙ get_or-map-range_with_len mnemonic_of 0 256 n n (nonempty_now d) below (omega arith)

some_told : (text : List ℕ) → (length text == 0) ≡ false → Some text ≡ nonempty_text text
some_told [] some = cc
some_told (b ∷ bs) some = refl

none_told : (text : List ℕ) → (length text == 0) ≡ true → None ≡ nonempty_text text
none_told [] none = refl
none_told (b ∷ bs) none = grind arith

pub name_shown : (xs : List (Bor (List ℕ))) → AreNames xs → (n i : ℕ) (d : Bor (List ℕ)) → n < 256 → i ≡ n → (length ((get_or xs i d).now) == 0) ≡ false → Some ((get_or xs i d).now) ≡ mnemonic_of n
name_shown xs are n i d below same some = some_told ((get_or xs i d).now) some ∙ (ap (λ (k : ℕ). nonempty_now (get_or xs k d)) same ∙ name_is xs are n d below)

pub none_shown : (xs : List (Bor (List ℕ))) → AreNames xs → (n i : ℕ) (d : Bor (List ℕ)) → n < 256 → i ≡ n → (length ((get_or xs i d).now) == 0) ≡ true → None ≡ mnemonic_of n
none_shown xs are n i d below same none = none_told ((get_or xs i d).now) none ∙ (ap (λ (k : ℕ). nonempty_now (get_or xs k d)) same ∙ name_is xs are n d below)

mnemonics_length : length mnemonics ≡ 256
unfolding mnemonic_of
mnemonics_length = refl

mnemonic_at : (n : ℕ) → n < 256 → get_or mnemonics n None ≡ mnemonic_of n
mnemonic_at n below = get_or-map-range_with_len mnemonic_of 0 256 n n None below (omega arith)

place_is : (name : List ℕ) (n : ℕ) → n ≤ 256 → ((k : ℕ) → k < n → has_name name (mnemonic_of k) ≡ false) → (n < 256 → has_name name (mnemonic_of n) ≡ true) → position_or_len (has_name name) mnemonics ≡ n
place_is name n most before here =
    position_or_len_is (has_name name) mnemonics n None (omega (arith, mnemonics_length))
    (λ k within. ap (has_name name) (mnemonic_at k (omega arith)) ∙ before k within)
    (λ within. let below : n < 256 = omega (arith, mnemonics_length) in ap (has_name name) (mnemonic_at n below) ∙ here below)

found_by : (place n : ℕ) → place ≡ n → n < 256 → cond (ltb place (length mnemonics)) (Some place) None ≡ Some n
found_by place n same below = rw (same, mnemonics_length, lt-ltb n 256 below)

missed_by : (place : ℕ) → place ≡ 256 → cond (ltb place (length mnemonics)) (Some place) None ≡ None
missed_by place same = rw same

pub opcode_found : (name : List ℕ) (n : ℕ) → n < 256 → ((k : ℕ) → k < n → has_name name (mnemonic_of k) ≡ false) → has_name name (mnemonic_of n) ≡ true → opcode_of name ≡ Some n
unfolding opcode_of
opcode_found name n below before here = found_by (position_or_len (has_name name) mnemonics) n (place_is name n (omega arith) before (λ _. here)) below

pub opcode_missed : (name : List ℕ) → ((k : ℕ) → k < 256 → has_name name (mnemonic_of k) ≡ false) → opcode_of name ≡ None
unfolding opcode_of
opcode_missed name none = missed_by (position_or_len (has_name name) mnemonics) (place_is name 256 (omega arith) none (λ less. absurd (omega arith)))
