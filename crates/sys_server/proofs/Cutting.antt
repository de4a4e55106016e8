-- The first word of a line.
use Rattle.std.proofs.Common.{◌≡◌, ◌<◌, ◌≤◌, ◌+◌, ◌==◌, ℕ, List, [], ◌∷◌, length, Bool, true, false, Some, None, refl, ◌∙◌, ap, arith, take, drop, nat_lt, cond}
use Rattle.std.proofs.lemmas.Bool.{ltb-true, ltb-false}
use Rattle.std.proofs.lemmas.List.Elements.{All-from_get_or}
use Rattle.std.proofs.lemmas.List.Splits.{length-slice_split, slice_split_first, slice_split_none}
use Rattle.std.proofs.lemmas.List.Sums.{fails_before_first}
use Rattle.std.specs.List.{position, position_or_len}
use Rattle.sys_server.specs.CommandLine.{asked_of, words}

found : (test : Bool) (place at : ℕ) → cond test (Some place) None ≡ Some at → (test ≡ true) × (place ≡ at)
found true place at found_it = (refl, cc)
found false place at found_it = (cc, cc)

missed : (test : Bool) (place : ℕ) → cond test (Some place) None ≡ None → test ≡ false
missed true place missed_it = cc
missed false place missed_it = refl

pub word_with_blank : (text : List ℕ) (end : ℕ) → position (λ b. b == 32) text ≡ Some end → words text ≡ take end text ∷ words (drop (end + 1) text)
word_with_blank text end is =
    let at : (nat_lt (position_or_len (λ b. b == 32) text) (length text) ≡ true) × (position_or_len (λ b. b == 32) text ≡ end) = found _ _ end is in
    let within : position_or_len (λ b. b == 32) text < length text = ltb-true _ _ at.0 in
    slice_split_first (λ b. b == 32) text 0 within ∙ ap (λ n. take n text ∷ words (drop (n + 1) text)) at.1

pub word_without_blank : (text : List ℕ) → position (λ b. b == 32) text ≡ None → words text ≡ text ∷ []
word_without_blank text is =
    let beyond : nat_lt (position_or_len (λ b. b == 32) text) (length text) ≡ false = missed _ _ is in
    let all : length text ≤ position_or_len (λ b. b == 32) text = ltb-false _ _ beyond in
    slice_split_none (λ b. b == 32) text (All-from_get_or (λ b. (b == 32) ≡ false) text 0 (λ i below. fails_before_first (λ b. b == 32) text i 0 (omega (arith, below, all))))

-- a word after the access
too_many_of : (verb vm unit volume access : List ℕ) (ws : List (List ℕ)) (n : ℕ) → length ws ≡ n + 1 → asked_of (verb ∷ vm ∷ unit ∷ volume ∷ access ∷ ws) ≡ None
too_many_of verb vm unit volume access [] n h = absurd (omega arith)
too_many_of verb vm unit volume access (w ∷ ws) n h = refl

pub too_many : (verb vm unit volume access more : List ℕ) → asked_of (verb ∷ vm ∷ unit ∷ volume ∷ access ∷ words more) ≡ None
too_many verb vm unit volume access more = too_many_of verb vm unit volume access (words more) _ (length-slice_split (λ b. b == 32) more)
