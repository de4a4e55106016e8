-- What is still to be shown of bytes after a line that is begun or isn't, with the end of the last line.
use Rattle.std.proofs.Common.{ℕ, ◌≡◌, List, [], ◌∷◌, ◌++◌, refl, sym, ◌∙◌, ap, append_assoc, Bool, true, false, if◌then◌else◌, ◌==◌}
use Rattle.sys_devices.specs.Echo.{seen_byte}
use Rattle.sys_devices.specs.Pieces.{begun_after, echo_bytes, end_if, front_if}

abbrev pub ending : List ℕ → Bool → List ℕ → List ℕ
ending name is_begun bytes = echo_bytes name is_begun bytes ++ end_if (begun_after is_begun bytes)

one_further : (front a b e f : List ℕ) (c : ℕ) → a ++ e ≡ b ++ f → (front ++ c ∷ a) ++ e ≡ (front ++ c ∷ b) ++ f
one_further front a b e f c same = append_assoc front (c ∷ a) e ∙ ap (λ (xs : List ℕ). front ++ c ∷ xs) same ∙ sym (append_assoc front (c ∷ b) f)

-- by the byte's kind: a carriage return, a line feed, another
by_kind : (name : List ℕ) (b : Bool) (x : ℕ) (xs ys : List ℕ) (is_return is_feed : Bool) → ((c : Bool) → ending name c (xs ++ ys) ≡ echo_bytes name c xs ++ ending name (begun_after c xs) ys) → (if is_return then echo_bytes name b (xs ++ ys) else if is_feed then front_if b name ++ 10 ∷ echo_bytes name false (xs ++ ys) else (front_if b name ++ seen_byte x ∷ echo_bytes name true (xs ++ ys))) ++ end_if (if is_return then begun_after b (xs ++ ys) else if is_feed then begun_after false (xs ++ ys) else begun_after true (xs ++ ys)) ≡ (if is_return then echo_bytes name b xs else if is_feed then front_if b name ++ 10 ∷ echo_bytes name false xs else (front_if b name ++ seen_byte x ∷ echo_bytes name true xs)) ++ ending name (if is_return then begun_after b xs else if is_feed then begun_after false xs else begun_after true xs) ys
by_kind name b x xs ys true is_feed rest = rest b
by_kind name b x xs ys false true rest = one_further (front_if b name) (echo_bytes name false (xs ++ ys)) (echo_bytes name false xs) (end_if (begun_after false (xs ++ ys))) (ending name (begun_after false xs) ys) 10 (rest false)
by_kind name b x xs ys false false rest = one_further (front_if b name) (echo_bytes name true (xs ++ ys)) (echo_bytes name true xs) (end_if (begun_after true (xs ++ ys))) (ending name (begun_after true xs) ys) (seen_byte x) (rest true)

-- a piece, and then the rest
pub ending_then : (name : List ℕ) (b : Bool) (xs ys : List ℕ) → ending name b (xs ++ ys) ≡ echo_bytes name b xs ++ ending name (begun_after b xs) ys
ending_then name b [] ys = refl
ending_then name b (x ∷ xs) ys = by_kind name b x xs ys (x == 13) (x == 10) (λ c. ending_then name c xs ys)
