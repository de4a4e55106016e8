-- Places and numbers of real entries.
use Rattle.std.proofs.Common.{◌≡◌, ◌≢◌, ℕ, ◌+◌, ◌-◌, ◌*◌, ◌%◌, ◌^◌, ◌<◌, ◌≤◌, ◌⊎◌, inl, inr, ap, ◌∙◌, arith}
use Rattle.std.proofs.lemmas.Bool.{cases_lt, le-ltb, lt-ltb}
use Rattle.vax_arch.specs.Walk.{in_region, region_of}
use Rattle.vm_shadow.specs.Layout.{IsCovered, all_entries, entry_number, entry_page, entry_place, entry_slot}
use Rattle.vm_state.specs.Registers.{first_p1_page}

pub split : {A B C : Type 0} → A ⊎ B → (A → C) → (B → C) → C
split (inl a) f g = f a
split (inr b) f g = g b

pub place_low : (at n : ℕ) → n < 8192 → entry_place at n ≡ 512 * at + 4 * n
place_low at n h = rw (lt-ltb n 8192 h)

pub place_high : (at n : ℕ) → 8192 ≤ n → entry_place at n ≡ 512 * (at + 68) + 4 * (n - 8192)
place_high at n h = rw (le-ltb n 8192 h)

-- an entry lies among the real tables
pub record LiesWithin (at place : ℕ) : Type 0 where
  pub front : 512 * at ≤ place
  pub back : place + 4 ≤ 512 * (at + 580)

pub place_within : (at n : ℕ) → n < all_entries → LiesWithin at (entry_place at n)
place_within at n h = split (cases_lt n 8192)
    (λ k. rw (place_low at n k) (record { front = omega arith; back = omega arith }))
    (λ k. rw (place_high at n k) (record { front = omega arith; back = omega arith }))

-- entries don't overlap
pub places_apart : (at n k : ℕ) → n ≢ k → (entry_place at k + 4 ≤ entry_place at n) ⊎ (entry_place at n + 4 ≤ entry_place at k)
places_apart at n k differ = split (cases_lt n 8192)
    (λ a. split (cases_lt k 8192)
    (λ b. rw (place_low at n a, place_low at k b) (split (cases_lt n k) (λ h. inr (omega arith)) (λ h. inl (low h))))
    (λ b. rw (place_low at n a, place_high at k b) (inr (omega arith))))
    (λ a. split (cases_lt k 8192)
    (λ b. rw (place_high at n a, place_low at k b) (inl (omega arith)))
    (λ b. rw (place_high at n a, place_high at k b) (split (cases_lt n k) (λ h. inr (omega arith)) (λ h. inl (high a b h)))))
  where
    low : k ≤ n → 512 * at + 4 * k + 4 ≤ 512 * at + 4 * n
    low h = split (cases_lt k n) (λ q. omega arith) (λ q. absurd (differ (omega arith)))

    high : 8192 ≤ n → 8192 ≤ k → k ≤ n → 512 * (at + 68) + 4 * (k - 8192) + 4 ≤ 512 * (at + 68) + 4 * (n - 8192)
    high a b h = split (cases_lt k n) (λ q. omega arith) (λ q. absurd (differ (omega arith)))

-- the entries that map the process tables are elsewhere
pub system_apart : (at n j : ℕ) → j < 512 → (512 * at + 4 * (8192 + j) + 4 ≤ entry_place at n) ⊎ (entry_place at n + 4 ≤ 512 * at + 4 * (8192 + j))
system_apart at n j h = split (cases_lt n 8192)
    (λ a. rw (place_low at n a) (inr (omega arith)))
    (λ a. rw (place_high at n a) (inl (omega arith)))

-- the number of a page's entry, by its region
pub number_system : (slot page : ℕ) → region_of page ≡ 2 → entry_number slot page ≡ in_region page
number_system slot page r = rw r

pub number_p0 : (slot page : ℕ) → region_of page ≡ 0 → entry_number slot page ≡ 8192 + 16384 * slot + in_region page
number_p0 slot page r = rw r

pub number_p1 : (slot page : ℕ) → region_of page ≡ 1 → entry_number slot page ≡ 16384 + 16384 * slot + (in_region page - first_p1_page)
number_p1 slot page r = rw r

pub number_small : (slot page : ℕ) → slot < 4 → IsCovered page → entry_number slot page < all_entries
number_small slot page h (inl c) = rw (number_system slot page c.0) (let l = c.1 in omega arith)
number_small slot page h (inr (inl c)) = rw (number_p0 slot page c.0) (let l = c.1 in omega arith)
number_small slot page h (inr (inr c)) = rw (number_p1 slot page c.0) (let l = c.1 in omega arith)

-- a process entry is one of its slot
pub slot_again : (slot page : ℕ) → slot < 4 → IsCovered page → (region_of page ≡ 2 → ⊥) → (8192 ≤ entry_number slot page) × (entry_slot (entry_number slot page) ≡ slot)
slot_again slot page h (inl c) no_ = absurd (no_ c.0)
slot_again slot page h (inr (inl c)) no_ = rw (number_p0 slot page c.0) (let l = c.1 in (omega arith, omega arith))
slot_again slot page h (inr (inr c)) no_ = rw (number_p1 slot page c.0) (let l = c.1 in (omega arith, omega arith))

page_low : (n : ℕ) → n < 8192 → entry_page n ≡ 2 ^ 22 + n
page_low n h = rw (lt-ltb n 8192 h)

page_p0 : (n : ℕ) → 8192 ≤ n → (n - 8192) % 16384 < 8192 → entry_page n ≡ (n - 8192) % 16384
page_p0 n h k = rw (le-ltb n 8192 h, lt-ltb ((n - 8192) % 16384) 8192 k)

page_p1 : (n : ℕ) → 8192 ≤ n → 8192 ≤ (n - 8192) % 16384 → entry_page n ≡ 2 ^ 21 + (first_p1_page + ((n - 8192) % 16384 - 8192))
page_p1 n h k = rw (le-ltb n 8192 h, le-ltb ((n - 8192) % 16384) 8192 k)

-- and it is for that page
pub page_again : (slot page : ℕ) → slot < 4 → page < 2 ^ 23 → IsCovered page → entry_page (entry_number slot page) ≡ page
page_again slot page h small (inl c) = let r = c.0 in let l = c.1 in ap entry_page (number_system slot page r) ∙ page_low (in_region page) l ∙ omega arith
page_again slot page h small (inr (inl c)) = let r = c.0 in let l = c.1 in ap entry_page (number_p0 slot page r) ∙ page_p0 (8192 + 16384 * slot + in_region page) (omega arith) (omega arith) ∙ omega arith
page_again slot page h small (inr (inr c)) = let r = c.0 in let l = c.1 in ap entry_page (number_p1 slot page r) ∙ page_p1 (16384 + 16384 * slot + (in_region page - first_p1_page)) (omega arith) (omega arith) ∙ omega arith
