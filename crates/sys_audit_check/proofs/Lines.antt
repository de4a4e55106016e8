-- Lines, and what follows them.
use Rattle.std.proofs.Common.{◌≡◌, ◌≤◌, ◌<◌, ◌+◌, ◌==◌, ℕ, zero, suc, List, [], ◌∷◌, ◌++◌, length, take, drop, Bool, true, false, not, nat_lt, Some, None, refl, sym, ◌∙◌, ap, arith, append_assoc, append-nil}
use Rattle.std.specs.Prelude.{cond, if◌then◌else◌}
use Rattle.std.proofs.lemmas.Bool.{ltb-false, ne_eqb}
use Rattle.std.proofs.lemmas.List.{drop_all, take_all}
use Rattle.std.specs.List.{position, position_or_len}
use Rattle.sys_audit_check.proofs.Words.{AreFrom}
use Rattle.sys_audit_check.specs.Lines.{after_first_line, first_line, through}

-- by the place of the first line feed
abbrev feed : List ℕ → ℕ
feed bytes = position_or_len (λ b. b == 10) bytes

line_taken : (bytes : List ℕ) → take (feed bytes + 1) bytes ≡ first_line bytes
line_taken [] = refl
line_taken (b ∷ bytes) = by_test (b == 10) (line_taken bytes)
  where
    by_test : (test : Bool) → take (feed bytes + 1) bytes ≡ first_line bytes → take (cond (not test) (1 + feed bytes) 0 + 1) (b ∷ bytes) ≡ (if test then b ∷ [] else b ∷ first_line bytes)
    by_test true rest = refl
    by_test false rest = let e : 1 + feed bytes + 1 ≡ suc (feed bytes + 1) = omega arith in rw e (ap (λ xs. b ∷ xs) rest)

rest_dropped : (bytes : List ℕ) → drop (feed bytes + 1) bytes ≡ after_first_line bytes
rest_dropped [] = refl
rest_dropped (b ∷ bytes) = by_test (b == 10) (rest_dropped bytes)
  where
    by_test : (test : Bool) → drop (feed bytes + 1) bytes ≡ after_first_line bytes → drop (cond (not test) (1 + feed bytes) 0 + 1) (b ∷ bytes) ≡ (if test then bytes else after_first_line bytes)
    by_test true rest = refl
    by_test false rest = let e : 1 + feed bytes + 1 ≡ suc (feed bytes + 1) = omega arith in rw e rest

found : (test : Bool) (place at : ℕ) → cond test (Some place) None ≡ Some at → place ≡ at
found true place at is = cc
found false place at is = cc

missed : (test : Bool) (place : ℕ) → cond test (Some place) None ≡ None → test ≡ false
missed true place is = cc
missed false place is = refl

pub line_with_feed : (bytes : List ℕ) (at : ℕ) → position (λ b. b == 10) bytes ≡ Some at → (take (at + 1) bytes ≡ first_line bytes) × (drop (at + 1) bytes ≡ after_first_line bytes)
line_with_feed bytes at is =
    let here : feed bytes ≡ at = found (nat_lt (feed bytes) (length bytes)) (feed bytes) at is in
    (ap (λ n. take (n + 1) bytes) (sym here) ∙ line_taken bytes, ap (λ n. drop (n + 1) bytes) (sym here) ∙ rest_dropped bytes)

pub line_without_feed : (bytes : List ℕ) → position (λ b. b == 10) bytes ≡ None → (bytes ≡ first_line bytes) × ([] ≡ after_first_line bytes)
line_without_feed bytes is =
    let beyond : length bytes ≤ feed bytes = ltb-false (feed bytes) (length bytes) (missed (nat_lt (feed bytes) (length bytes)) (feed bytes) is) in
    (sym (take_all (feed bytes + 1) bytes (omega (arith, beyond))) ∙ line_taken bytes, sym (drop_all (feed bytes + 1) bytes (omega (arith, beyond))) ∙ rest_dropped bytes)

-- a line and the rest are all
pub cut_whole : (bytes : List ℕ) → first_line bytes ++ after_first_line bytes ≡ bytes
cut_whole [] = refl
cut_whole (b ∷ bytes) = by_test (b == 10) (cut_whole bytes)
  where
    by_test : (test : Bool) → first_line bytes ++ after_first_line bytes ≡ bytes → (if test then b ∷ [] else b ∷ first_line bytes) ++ (if test then bytes else after_first_line bytes) ≡ b ∷ bytes
    by_test true rest = refl
    by_test false rest = ap (λ xs. b ∷ xs) rest

rest_within : (bytes : List ℕ) → length (after_first_line bytes) ≤ length bytes
rest_within [] = omega arith
rest_within (b ∷ bytes) = by_test (b == 10) (rest_within bytes)
  where
    by_test : (test : Bool) → length (after_first_line bytes) ≤ length bytes → length (if test then bytes else after_first_line bytes) ≤ length (b ∷ bytes)
    by_test true h = omega arith
    by_test false h = omega (arith, h)

pub rest_shorter : (bytes : List ℕ) → 0 < length bytes → length (after_first_line bytes) < length bytes
rest_shorter [] some = absurd (omega (arith, some))
rest_shorter (b ∷ bytes) some = by_test (b == 10) (rest_within bytes)
  where
    by_test : (test : Bool) → length (after_first_line bytes) ≤ length bytes → length (if test then bytes else after_first_line bytes) < length (b ∷ bytes)
    by_test true h = omega arith
    by_test false h = omega (arith, h)

pub line_some : (bytes : List ℕ) → 0 < length bytes → 0 < length (first_line bytes)
line_some [] some = absurd (omega (arith, some))
line_some (b ∷ bytes) some = by_test (b == 10)
  where
    by_test : (test : Bool) → 0 < length (if test then b ∷ [] else b ∷ first_line bytes)
    by_test true = omega arith
    by_test false = omega arith

-- the first line of a first line
pub line_of_line : (bytes : List ℕ) → first_line (first_line bytes) ≡ first_line bytes
line_of_line [] = refl
line_of_line (b ∷ bytes) = by_test (b == 10) refl (line_of_line bytes)
  where
    by_test : (test : Bool) → (b == 10) ≡ test → first_line (first_line bytes) ≡ first_line bytes → first_line (if test then b ∷ [] else b ∷ first_line bytes) ≡ (if test then b ∷ [] else b ∷ first_line bytes)
    by_test true is rest = rw is
    by_test false is rest = rw is (ap (λ xs. b ∷ xs) rest)

-- bytes that have their one line feed at the end, and others after them
pub line_at : (body rest : List ℕ) → AreFrom 11 body → (first_line (body ++ 10 ∷ rest) ≡ body ++ 10 ∷ []) × (after_first_line (body ++ 10 ∷ rest) ≡ rest)
line_at [] rest all = (refl, refl)
line_at (b ∷ body) rest all =
    let other : (b == 10) ≡ false = ne_eqb b 10 (omega (arith, all.0)) in
    let more = line_at body rest all.1 in
    (rw other (ap (λ xs. b ∷ xs) more.0), rw other more.1)

-- what follows the first n lines
abbrev pub after_lines : ℕ → List ℕ → List ℕ
after_lines zero bytes = bytes
after_lines (suc n) bytes = after_lines n (after_first_line bytes)

pub after_more : (n : ℕ) (bytes : List ℕ) → after_lines (suc n) bytes ≡ after_first_line (after_lines n bytes)
after_more zero bytes = refl
after_more (suc n) bytes = after_more n (after_first_line bytes)

pub through_more : (n : ℕ) (bytes : List ℕ) → through (suc n) bytes ≡ through n bytes ++ first_line (after_lines n bytes)
through_more zero bytes = append-nil (first_line bytes)
through_more (suc n) bytes = ap (λ xs. first_line bytes ++ xs) (through_more n (after_first_line bytes)) ∙ sym (append_assoc (first_line bytes) (through n (after_first_line bytes)) (first_line (after_lines n (after_first_line bytes))))

pub through_whole : (n : ℕ) (bytes : List ℕ) → through n bytes ++ after_lines n bytes ≡ bytes
through_whole zero bytes = refl
through_whole (suc n) bytes = append_assoc (first_line bytes) (through n (after_first_line bytes)) (after_lines n (after_first_line bytes)) ∙ ap (λ xs. first_line bytes ++ xs) (through_whole n (after_first_line bytes)) ∙ cut_whole bytes
