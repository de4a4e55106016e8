-- Longwords that copy an image.
use Rattle.std.proofs.Common.{ℕ, ◌≡◌, ◌<◌, ◌≤◌, ◌+◌, ◌-◌, ◌*◌, List, [], ◌∷◌, ◌++◌, length, take, drop, get_or, replicate, refl, sym, ◌∙◌, ap, subst, arith, append_assoc, append-nil, add-zero, length-append, take-append-drop}
use Rattle.std.proofs.Math.Seq.{take-length}
use Rattle.std.proofs.lemmas.List.{length-take-le}
use Rattle.std.proofs.lemmas.Grind.{common_steps}
use Rattle.std.proofs.lemmas.Slice.{drop-append-drop}
use Rattle.vax_hw.specs.Machine.{Machine}
use Rattle.vv_base.specs.Bytes.{long_at, long_bytes, overwritten}
use Rattle.vm_state.specs.Start.{memory_with_image}

-- the bytes of a longword are those it was read from
bytes_of_long : (a b c d : ℕ) → a < 256 → b < 256 → c < 256 → d < 256 → long_bytes (a + 256 * b + 65536 * c + 16777216 * d) ≡ a ∷ b ∷ c ∷ d ∷ []
bytes_of_long a b c d p q r s = grind arith

-- four more of a list
four_more : (xs : List ℕ) (n : ℕ) → n + 4 ≤ length xs → take (n + 4) xs ≡ take n xs ++ (get_or xs n 0 ∷ get_or xs (n + 1) 0 ∷ get_or xs (n + 2) 0 ∷ get_or xs (n + 3) 0 ∷ [])
four_more xs n h = grind (arith, common_steps)

-- after the image there are zeros
padded : (xs : List ℕ) (k i : ℕ) → get_or (xs ++ replicate k 0) i 0 ≡ get_or xs i 0
padded xs k i = grind (arith, common_steps)

bytes_below : (load : ℕ) (image : List ℕ) → ((i : ℕ) → get_or image i 0 < 256) → (i : ℕ) → get_or (replicate load 0 ++ image) i 0 < 256
bytes_below load image h i = grind (arith, common_steps, h)

-- a write after a front of n bytes
front_kept : (front rest : List ℕ) (n : ℕ) → length front ≡ n → take n (front ++ rest) ≡ front
front_kept front rest n h = grind (arith, common_steps)

rest_kept : (front back : List ℕ) (n : ℕ) → length front ≡ n → drop (n + 4) (front ++ drop n back) ≡ drop (n + 4) back
rest_kept front back n h = drop-append-drop n back front (n + 4) (omega arith) h

moved_seam : (front back : List ℕ) (n : ℕ) (new : List ℕ) → length front ≡ n → length new ≡ 4 → overwritten (front ++ drop n back) n new ≡ front ++ new ++ drop (n + 4) back
moved_seam front back n new h k =
    ap (λ x. take n (front ++ drop n back) ++ new ++ drop (n + x) (front ++ drop n back)) k
    ∙ ap (λ x. x ++ new ++ drop (n + 4) (front ++ drop n back)) (front_kept front (drop n back) n h)
    ∙ ap (λ x. front ++ new ++ x) (rest_kept front back n h)

-- the longword from a list without the zeros after it
same_long : (xs : List ℕ) (k n : ℕ) → long_at xs n ≡ long_at (xs ++ replicate k 0) n
same_long xs k n = sym (λ i. padded xs k n i + 256 * padded xs k (n + 1) i + 65536 * padded xs k (n + 2) i + 16777216 * padded xs k (n + 3) i)

front_length : (xs : List ℕ) (n : ℕ) → n ≤ length xs → length (take n xs) ≡ n
front_length xs n h = length-take-le n xs h

joined_length : (xs ys : List ℕ) → length (xs ++ ys) ≡ length xs + length ys
joined_length xs ys = length-append xs ys

-- one longword more of the image is copied after a base
pub one_long : (xs back : List ℕ) (base n long : ℕ) → base ≤ length back → ((i : ℕ) → get_or xs i 0 < 256) → n + 4 ≤ length xs → long ≡ long_at xs n →
    overwritten (overwritten back base (take n xs)) (base + n) (long_bytes long) ≡ overwritten back base (take (n + 4) xs)
one_long xs back base n long room bytes within is =
    let cells = get_or xs n 0 ∷ get_or xs (n + 1) 0 ∷ get_or xs (n + 2) 0 ∷ get_or xs (n + 3) 0 ∷ [] in
    let same : long_bytes long ≡ cells = ap long_bytes is ∙ bytes_of_long _ _ _ _ (bytes n) (bytes (n + 1)) (bytes (n + 2)) (bytes (n + 3)) in
    let some : length (take n xs) ≡ n = front_length xs n (omega arith) in
    let more : length (take (n + 4) xs) ≡ n + 4 = front_length xs (n + 4) within in
    let begun : length (take base back) ≡ base = front_length back base room in
    let front = take base back ++ take n xs in
    let long_front : length front ≡ base + n = joined_length (take base back) (take n xs) ∙ (omega (arith, some, begun)) in
    ap (λ (k : ℕ). overwritten (front ++ drop (base + k) back) (base + n) (long_bytes long)) some
    ∙ ap (overwritten (front ++ drop (base + n) back) (base + n)) same
    ∙ moved_seam front back (base + n) cells long_front refl
    ∙ ap (λ (ys : List ℕ). ys ++ drop ((base + n) + 4) back) (append_assoc (take base back) (take n xs) cells ∙ ap (λ (ys : List ℕ). take base back ++ ys) (sym (four_more xs n within)))
    ∙ ap (λ (k : ℕ). (take base back ++ take (n + 4) xs) ++ drop k back) (omega (arith, more))

pub opening_length : (size load : ℕ) (image : List ℕ) → load + length image ≤ size → length (memory_with_image size load image) ≡ size
unfolding memory_with_image
opening_length size load image h = grind (arith, common_steps)

opening_is : (size load : ℕ) (image : List ℕ) → (replicate load 0 ++ image) ++ replicate (size - (load + length image)) 0 ≡ memory_with_image size load image
unfolding memory_with_image
opening_is size load image = refl

opening_bytes : (size load : ℕ) (image : List ℕ) → ((i : ℕ) → get_or image i 0 < 256) → (i : ℕ) → get_or (memory_with_image size load image) i 0 < 256
opening_bytes size load image h i =
    subst (λ xs. get_or xs i 0 < 256) (opening_is size load image) (subst (λ x. x < 256) (sym (padded (replicate load 0 ++ image) (size - (load + length image)) i)) (bytes_below load image h i))

-- the machine after one longword more
pub next_long : (m0 m m' : Machine) (base size load : ℕ) (image : List ℕ) (n long : ℕ) → base ≤ length m0.memory → ((i : ℕ) → get_or image i 0 < 256) → load + length image ≤ size → 4 * n + 4 ≤ size
    → m ≡ record m0 { memory = overwritten m0.memory base (take (4 * n) (memory_with_image size load image)) }
    → long ≡ long_at (replicate load 0 ++ image) (4 * n)
    → m' ≡ record m { memory = overwritten m.memory (base + 4 * n) (long_bytes long) }
    → m' ≡ record m0 { memory = overwritten m0.memory base (take (4 * (n + 1)) (memory_with_image size load image)) }
next_long m0 m m' base size load image n long inside bytes fits within is told written =
    let xs = memory_with_image size load image in
    let at : 4 * n + 4 ≡ 4 * (n + 1) = omega arith in
    let room : 4 * n + 4 ≤ length xs = omega (arith, opening_length size load image fits) in
    let long_is : long ≡ long_at xs (4 * n) = told ∙ same_long (replicate load 0 ++ image) (size - (load + length image)) (4 * n) ∙ ap (λ ys. long_at ys (4 * n)) (opening_is size load image) in
    let write : Machine → Machine = λ x. record x { memory = overwritten x.memory (base + 4 * n) (long_bytes long) } in
    let with_memory : List ℕ → Machine = λ y. record m0 { memory = y } in
    written ∙ ap write is ∙ ap with_memory (one_long xs m0.memory base (4 * n) long inside (opening_bytes size load image bytes) room long_is ∙ ap (λ k. overwritten m0.memory base (take k xs)) at)

-- nothing is copied yet
pub none_long : (memory xs : List ℕ) (base : ℕ) → overwritten memory base (take 0 xs) ≡ memory
none_long memory xs base = ap (λ (ys : List ℕ). ys ++ drop (base + 0) memory) (append-nil (take base memory)) ∙ ap (λ (k : ℕ). take base memory ++ drop k memory) (add-zero base) ∙ take-append-drop base memory

-- all of it is
pub all_long : (memory : List ℕ) (base size load : ℕ) (image : List ℕ) (n : ℕ) → load + length image ≤ size → 4 * n ≡ size → overwritten memory base (take (4 * n) (memory_with_image size load image)) ≡ overwritten memory base (memory_with_image size load image)
all_long memory base size load image n fits is =
    let whole : 4 * n ≡ length (memory_with_image size load image) = is ∙ sym (opening_length size load image fits) in
    ap (overwritten memory base) (ap (λ (k : ℕ). take k (memory_with_image size load image)) whole ∙ take-length (memory_with_image size load image))
