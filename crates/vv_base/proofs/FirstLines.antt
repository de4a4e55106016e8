-- The first line of a text.
use Rattle.std.proofs.Common.{◌≡◌, ◌<◌, ◌≤◌, ◌+◌, ◌==◌, ℕ, List, [], ◌∷◌, length, Bool, true, false, Some, None, refl, ◌∙◌, ap, arith, take, drop, nat_lt, cond}
use Rattle.std.proofs.lemmas.Bool.{ltb-true, ltb-false}
use Rattle.std.proofs.lemmas.List.Elements.{All-from_get_or}
use Rattle.std.proofs.lemmas.List.Splits.{slice_split_first, slice_split_none, length-slice_split}
use Rattle.std.proofs.lemmas.List.Sums.{fails_before_first}
use Rattle.std.specs.List.{slice_split, before_first, after_first, position, position_or_len}
use Rattle.std.specs.Str.Lines.{lines, lines_of_parts, strip_carriage_return}

-- a part before others is a line that has its end
pub first_part : (part : List ℕ) (parts : List (List ℕ)) (more : ℕ) → length parts ≡ more + 1 → lines_of_parts (part ∷ parts) ≡ strip_carriage_return part ∷ lines_of_parts parts
first_part part [] more some = grind arith
first_part part (x ∷ parts) more some = refl

first_line : (text : List ℕ) → position_or_len (λ b. b == 10) text < length text
    → lines text ≡ strip_carriage_return (before_first (λ b. b == 10) text) ∷ lines (after_first (λ b. b == 10) text)
first_line text within =
    let cut : slice_split (λ b. b == 10) text ≡ before_first (λ b. b == 10) text ∷ slice_split (λ b. b == 10) (after_first (λ b. b == 10) text) = slice_split_first (λ b. b == 10) text 0 within in
    rw (cut, first_part (before_first (λ b. b == 10) text) (slice_split (λ b. b == 10) (after_first (λ b. b == 10) text)) _ (length-slice_split (λ b. b == 10) (after_first (λ b. b == 10) text)))

found : (test : Bool) (place at : ℕ) → cond test (Some place) None ≡ Some at → (test ≡ true) × (place ≡ at)
found true place at found_it = (refl, cc)
found false place at found_it = (cc, cc)

missed : (test : Bool) (place : ℕ) → cond test (Some place) None ≡ None → test ≡ false
missed true place missed_it = cc
missed false place missed_it = refl

pub line_with_feed : (text : List ℕ) (end : ℕ) → position (λ b. b == 10) text ≡ Some end
    → lines text ≡ strip_carriage_return (take end text) ∷ lines (drop (end + 1) text)
line_with_feed text end is =
    let at : (nat_lt (position_or_len (λ b. b == 10) text) (length text) ≡ true) × (position_or_len (λ b. b == 10) text ≡ end) = found _ _ end is in
    let within : position_or_len (λ b. b == 10) text < length text = ltb-true _ _ at.0 in
    first_line text within ∙ ap (λ n. strip_carriage_return (take n text) ∷ lines (drop (n + 1) text)) at.1

one_part : (text : List ℕ) → 0 < length text → lines_of_parts (text ∷ []) ≡ text ∷ []
one_part [] some = absurd (omega arith)
one_part (b ∷ bs) some = grind arith

pub line_without_feed : (text : List ℕ) → position (λ b. b == 10) text ≡ None → 0 < length text → lines text ≡ text ∷ []
line_without_feed text is some =
    let beyond : nat_lt (position_or_len (λ b. b == 10) text) (length text) ≡ false = missed _ _ is in
    let all : length text ≤ position_or_len (λ b. b == 10) text = ltb-false _ _ beyond in
    let cut : slice_split (λ b. b == 10) text ≡ text ∷ [] =
    slice_split_none (λ b. b == 10) text (All-from_get_or (λ b. (b == 10) ≡ false) text 0 (λ i below. fails_before_first (λ b. b == 10) text i 0 (omega (arith, below, all)))) in
    ap lines_of_parts cut ∙ one_part text some
