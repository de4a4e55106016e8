-- A line with the words of a command is read as this command.
use Rattle.std.proofs.Common.{◌≡◌, ◌≢◌, ◌<◌, ◌≤◌, ◌+◌, ◌==◌, ℕ, zero, suc, List, [], ◌∷◌, length, Bool, true, false, not, ◌&&◌, ◌||◌, nat_le, codes, Some, option_and_then, option_map, refl, ◌∙◌, ap, arith, All, ◌⊎◌, inl, inr}
use Rattle.std.proofs.lemmas.Bool.{leb-true}
use Rattle.std.proofs.lemmas.Bool.Decides.{nat_tests}
use Rattle.std.proofs.lemmas.List.Elements.{All-nil, All-cons}
use Rattle.std.proofs.lemmas.List.Splits.{slice_split_at, slice_split_none}
use Rattle.std.specs.List.{join_with_byte, list_all}
use Rattle.vv_base.specs.Names.{is_letter, is_name_character, is_object_name, tested}
use Rattle.sys_server.specs.CommandLine.{Asks, IsAsked, IsName, access_in, access_text, asked_in, asked_of, asked_of_guest, unit_in, unit_text, words, words_of}
use Rattle.sys_server.specs.declared.command.NamedCommand.{NamedCommand}
use Rattle.sys_server.specs.declared.command.NamedCommand.TheVariants.{Connect, Start, Halt, Mount, Dismount, Show}

pub parts : (a b : Bool) → (a && b) ≡ true → (a ≡ true) × (b ≡ true)
parts true b is = (refl, is)
parts false b is = (cc, cc)

together : (a b : Bool) → a ≡ true → b ≡ true → (a && b) ≡ true
together a b e f = rw (e, f) refl

either : (a b : Bool) → (a || b) ≡ true → (a ≡ true) ⊎ (b ≡ true)
either true b is = inl refl
either false b is = inr is

-- no byte of it is a blank
abbrev is_clear : List ℕ → Bool
is_clear word = list_all (λ b. not (b == 32)) word

abbrev AreClear : List (List ℕ) → Type 0
AreClear [] = Unit {0}
AreClear (word ∷ more) = (is_clear word ≡ true) × AreClear more

denied : (b : Bool) → not b ≡ true → b ≡ false
denied true h = cc
denied false h = refl

none_is_blank : (word : List ℕ) → is_clear word ≡ true → All (λ b. (b == 32) ≡ false) word
none_is_blank [] h = All-nil (λ b. (b == 32) ≡ false)
none_is_blank (b ∷ word) h =
    let p : (not (b == 32) ≡ true) × (is_clear word ≡ true) = parts (not (b == 32)) (is_clear word) h in
    All-cons (λ b. (b == 32) ≡ false) b word (denied (b == 32) p.0) (none_is_blank word p.1)

words_joined : (word : List ℕ) (more : List (List ℕ)) → AreClear (word ∷ more) → words (join_with_byte 32 (word ∷ more)) ≡ word ∷ more
words_joined word [] h = slice_split_none (λ b. b == 32) word (none_is_blank word h.0)
words_joined word (next ∷ more) h =
    slice_split_at (λ b. b == 32) word 32 (join_with_byte 32 (next ∷ more)) (none_is_blank word h.0) refl ∙ ap (λ ws. word ∷ ws) (words_joined next more h.1)

above : (b : ℕ) → 33 ≤ b → not (b == 32) ≡ true
above b from = let ne : b ≢ 32 = omega arith in let e : (b == 32) ≡ false = grind (arith, nat_tests) in ap not e

letter_from : (b : ℕ) → is_letter b ≡ true → 33 ≤ b
letter_from b h = let p = parts (nat_le 0x41 b) (nat_le b 0x5a) h in let from : 0x41 ≤ b = leb-true _ _ p.0 in omega arith

digit_from : (b : ℕ) → (nat_le 0x30 b && nat_le b 0x39) ≡ true → 33 ≤ b
digit_from b h = let p = parts (nat_le 0x30 b) (nat_le b 0x39) h in let from : 0x30 ≤ b = leb-true _ _ p.0 in omega arith

one_of : (b : ℕ) → (is_letter b ≡ true) ⊎ ((nat_le 0x30 b && nat_le b 0x39) ≡ true) → 33 ≤ b
one_of b (inl h) = letter_from b h
one_of b (inr h) = digit_from b h

characters_clear : (word : List ℕ) → list_all is_name_character word ≡ true → is_clear word ≡ true
characters_clear [] h = refl
characters_clear (b ∷ word) h =
    let p : (is_name_character b ≡ true) × (list_all is_name_character word ≡ true) = parts (is_name_character b) (list_all is_name_character word) h in
    together (not (b == 32)) (is_clear word) (above b (one_of b (either (is_letter b) (nat_le 0x30 b && nat_le b 0x39) p.0))) (characters_clear word p.1)

name_clear : (name : List ℕ) → IsName name → is_clear name ≡ true
name_clear [] h = cc
name_clear (b ∷ name) h =
    let p : ((is_letter b && list_all is_name_character name) ≡ true) × (nat_le (length name) 7 ≡ true) = parts (is_letter b && list_all is_name_character name) (nat_le (length name) 7) h in
    let q : (is_letter b ≡ true) × (list_all is_name_character name ≡ true) = parts (is_letter b) (list_all is_name_character name) p.0 in
    together (not (b == 32)) (is_clear name) (above b (letter_from b q.0)) (characters_clear name q.1)

unit_clear : (unit : ℕ) → is_clear (unit_text unit) ≡ true
unit_clear unit = together (not (48 + unit == 32)) true (above (48 + unit) (omega arith)) refl

access_clear : (write : Bool) → is_clear (access_text write) ≡ true
access_clear true = refl
access_clear false = refl

words_again : (asked : NamedCommand) → IsAsked asked → words (join_with_byte 32 (words_of asked)) ≡ words_of asked
words_again (Connect vm) h = words_joined (codes "CONNECT") (vm ∷ []) (refl, (name_clear vm h, tt))
words_again (Start vm) h = words_joined (codes "START") (vm ∷ []) (refl, (name_clear vm h, tt))
words_again (Halt vm) h = words_joined (codes "HALT") (vm ∷ []) (refl, (name_clear vm h, tt))
words_again (Mount vm unit volume write) h =
    words_joined (codes "MOUNT") (vm ∷ unit_text unit ∷ volume ∷ access_text write ∷ []) (refl, (name_clear vm h.0, (unit_clear unit, (name_clear volume h.2, (access_clear write, tt)))))
words_again (Dismount vm unit) h = words_joined (codes "DISMOUNT") (vm ∷ unit_text unit ∷ []) (refl, (name_clear vm h.0, (unit_clear unit, tt)))
words_again Show h = words_joined (codes "SHOW") [] (refl, tt)

name_again : (name : List ℕ) → IsName name → tested is_object_name name ≡ Some name
name_again name h = let e : is_object_name name ≡ true = h in rw e refl

unit_again : (unit : ℕ) → unit < 4 → unit_in (unit_text unit) ≡ Some unit
unit_again zero h = refl
unit_again (suc zero) h = refl
unit_again (suc (suc zero)) h = refl
unit_again (suc (suc (suc zero))) h = refl
unit_again (suc (suc (suc (suc n)))) h = absurd (omega arith)

access_again : (write : Bool) → access_in (access_text write) ≡ Some write
access_again true = refl
access_again false = refl

asked_again : (asked : NamedCommand) → IsAsked asked → asked_of (words_of asked) ≡ Some asked
asked_again (Connect vm) h = ap (option_and_then (asked_of_guest (codes "CONNECT"))) (name_again vm h)
asked_again (Start vm) h = ap (option_and_then (asked_of_guest (codes "START"))) (name_again vm h)
asked_again (Halt vm) h = ap (option_and_then (asked_of_guest (codes "HALT"))) (name_again vm h)
asked_again (Mount vm unit volume write) h =
    ap (option_and_then (λ g. option_and_then (λ u. option_and_then (λ v. option_map (Mount g u v) (access_in (access_text write))) (tested is_object_name volume)) (unit_in (unit_text unit)))) (name_again vm h.0)
    ∙ ap (option_and_then (λ u. option_and_then (λ v. option_map (Mount vm u v) (access_in (access_text write))) (tested is_object_name volume))) (unit_again unit h.1)
    ∙ ap (option_and_then (λ v. option_map (Mount vm unit v) (access_in (access_text write)))) (name_again volume h.2)
    ∙ ap (option_map (Mount vm unit volume)) (access_again write)
asked_again (Dismount vm unit) h =
    ap (option_and_then (λ g. option_map (Dismount g) (unit_in (unit_text unit)))) (name_again vm h.0) ∙ ap (option_map (Dismount vm)) (unit_again unit h.1)
asked_again Show h = refl

pub lines_are_read : (text : List ℕ) (asked : NamedCommand) → Asks text asked → asked_in text ≡ Some asked
unfolding asked_in
lines_are_read text asked h = ap (λ t. asked_of (words t)) h.1 ∙ ap asked_of (words_again asked h.0) ∙ asked_again asked h.0
