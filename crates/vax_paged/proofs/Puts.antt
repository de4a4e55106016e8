-- Stores as bytes at places.
use Rattle.std.proofs.Common.{◌≡◌, ℕ, zero, suc, ◌+◌, ◌-◌, ◌/◌, ◌%◌, ◌^◌, ◌<◌, ◌≤◌, length, take, get_or, List, [], ◌∷◌, ◌++◌, slice_set, refl, ap, ◌∙◌, sym, arith, Option, Some, None, Bool, true, false, append_assoc}
use Rattle.std.specs.Prelude.{if◌then◌else◌}
use Rattle.vv_base.specs.Width.{size_of}
use Rattle.vax_table.specs.Claims.{addresses}
use Rattle.vax_table.specs.Stores.{all_stored, bytes_stored}
use Rattle.vax_table.specs.Tries.{first_clear}
use Rattle.vax_table.specs.declared.effect.Store.{Store}
use Rattle.vax_paged.specs.Puts.{byte_put_at, made, puts_from, puts_of}
use Rattle.vax_paged.specs.declared.stores.Put.{Put}

made_both : (ps qs : List Put) (memory : List ℕ) → made (ps ++ qs) memory ≡ made qs (made ps memory)
made_both [] qs memory = refl
made_both (p ∷ ps) qs memory = made_both ps qs (slice_set memory p.place p.byte)

bytes_made : (place : ℕ → ℕ) (k a v : ℕ) (memory : List ℕ) → made (puts_from place k a v) memory ≡ bytes_stored place k a v memory
bytes_made place zero a v memory = refl
bytes_made place (suc k) a v memory = bytes_made place k (a + 1) (v / 256) (slice_set memory (place (a % 2 ^ 32)) (v % 256))

pub stores_made : (place : ℕ → ℕ) (xs : List Store) (memory : List ℕ) → made (puts_of place xs) memory ≡ all_stored place xs memory
stores_made place [] memory = refl
stores_made place (x ∷ xs) memory =
    made_both (puts_from place (size_of x.width) x.va x.value) (puts_of place xs) memory
    ∙ stores_made place xs (made (puts_from place (size_of x.width) x.va x.value) memory)
    ∙ ap (all_stored place xs) (bytes_made place (size_of x.width) x.va x.value memory)

same_from : (place : ℕ → ℕ) (k a b v : ℕ) → a % 2 ^ 32 ≡ b % 2 ^ 32 → puts_from place k a v ≡ puts_from place k b v
same_from place zero a b v e = refl
same_from place (suc k) a b v e =
    let next : (a + 1) % 2 ^ 32 ≡ (b + 1) % 2 ^ 32 = omega arith in
    rw (e, same_from place k (a + 1) (b + 1) (v / 256) next) refl

-- one byte more of a store
pub puts_step : (place : ℕ → ℕ) (k a v : ℕ) → 0 < k → a < 2 ^ 32 → puts_from place k a v ≡ byte_put_at (place a) (v % 256) ∷ puts_from place (k - 1) ((a + 1) % 2 ^ 32) (v / 256)
puts_step place zero a v h small = absurd (omega arith)
puts_step place (suc k) a v h small =
    let less : suc k - 1 ≡ k = omega arith in
    let same : a % 2 ^ 32 ≡ a = omega arith in
    let wrap : (a + 1) % 2 ^ 32 ≡ (a + 1) % 2 ^ 32 % 2 ^ 32 = omega arith in
    rw (less, same, same_from place k (a + 1) ((a + 1) % 2 ^ 32) (v / 256) wrap) refl

-- put after others
pub put_after : (place : ℕ → ℕ) (k a v p : ℕ) (old new : List Put) → 0 < k → a < 2 ^ 32 → p ≡ place a → new ≡ old ++ byte_put_at p (v % 256) ∷ [] → new ++ puts_from place (k - 1) ((a + 1) % 2 ^ 32) (v / 256) ≡ old ++ puts_from place k a v
put_after place k a v p old new h small at is =
    let rest = puts_from place (k - 1) ((a + 1) % 2 ^ 32) (v / 256) in
    ap (λ (ps : List Put). ps ++ rest) (is ∙ ap (λ (z : ℕ). old ++ byte_put_at z (v % 256) ∷ []) at)
    ∙ append_assoc old (byte_put_at (place a) (v % 256) ∷ []) rest
    ∙ ap (λ (ps : List Put). old ++ ps) (sym (puts_step place k a v h small))

pub same_addresses : (k a b : ℕ) → a % 2 ^ 32 ≡ b % 2 ^ 32 → addresses k a ≡ addresses k b
same_addresses zero a b e = refl
same_addresses (suc k) a b e =
    let next : (a + 1) % 2 ^ 32 ≡ (b + 1) % 2 ^ 32 = omega arith in
    rw (e, same_addresses k (a + 1) (b + 1) next) refl

-- one address more
pub addresses_step : (k a : ℕ) → 0 < k → a < 2 ^ 32 → addresses k a ≡ a ∷ addresses (k - 1) ((a + 1) % 2 ^ 32)
addresses_step zero a h small = absurd (omega arith)
addresses_step (suc k) a h small =
    let less : suc k - 1 ≡ k = omega arith in
    let same : a % 2 ^ 32 ≡ a = omega arith in
    let wrap : (a + 1) % 2 ^ 32 ≡ (a + 1) % 2 ^ 32 % 2 ^ 32 = omega arith in
    rw (less, same, same_addresses k (a + 1) ((a + 1) % 2 ^ 32) wrap) refl

abbrev pub or_else : Option ℕ → Option ℕ → Option ℕ
or_else None b = b
or_else (Some a) b = Some a

clear_on : (a : ℕ) (x y : Option ℕ) (t : Bool) → (if t then Some a else or_else x y) ≡ or_else (if t then Some a else x) y
clear_on a x y true = refl
clear_on a x y false = refl

-- among these, and then those
pub clear_both : (is_clear : ℕ → Bool) (xs ys : List ℕ) → first_clear is_clear (xs ++ ys) ≡ or_else (first_clear is_clear xs) (first_clear is_clear ys)
clear_both is_clear [] ys = refl
clear_both is_clear (a ∷ xs) ys =
    ap (λ (z : Option ℕ). if is_clear a then Some a else z) (clear_both is_clear xs ys) ∙ clear_on a (first_clear is_clear xs) (first_clear is_clear ys) (is_clear a)

last_of : {A : Type 0} (xs : List A) (d : A) → 1 ≤ length xs → xs ≡ take (length xs - 1) xs ++ get_or xs (length xs - 1) d ∷ []
last_of [] d h = absurd (omega arith)
last_of (x ∷ []) d h = refl
last_of {A} (x ∷ y ∷ ys) d h =
    let more : length (x ∷ y ∷ ys) - 1 ≡ suc (length (y ∷ ys) - 1) = omega arith in
    ap (λ (zs : List A). x ∷ zs) (last_of (y ∷ ys) d (omega arith)) ∙ ap (λ (n : ℕ). take n (x ∷ y ∷ ys) ++ get_or (x ∷ y ∷ ys) n d ∷ []) (sym more)

-- a list by its last element
pub before_last : (xs : List Store) (d : Store) → 1 ≤ length xs → xs ≡ take (length xs - 1) xs ++ get_or xs (length xs - 1) d ∷ []
before_last xs d h = last_of xs d h

-- stores before a last one
pub last_stored : (place : ℕ → ℕ) (xs : List Store) (x : Store) (memory : List ℕ) → all_stored place (xs ++ x ∷ []) memory ≡ all_stored place (x ∷ []) (all_stored place xs memory)
last_stored place [] x memory = refl
last_stored place (y ∷ ys) x memory = last_stored place ys x (bytes_stored place (size_of y.width) y.va y.value memory)

pub ruleset byte_by_byte = (addresses_step)

pub ruleset store_by_store = (clear_both)

pub ruleset as_stored = (stores_made)
