-- What lines are shown, one showing after another.
use Rattle.std.proofs.Common.{ℕ, ◌≡◌, ◌<◌, ◌+◌, List, [], ◌∷◌, ◌++◌, length, slice_index_or, slice_set, take, refl, sym, ◌∙◌, ap, subst, arith, Bool, true, false, true≢false, if◌then◌else◌, ◌==◌, Some, Result, is_err}
use Rattle.sys_devices.specs.ShownSince.{ShownSinceOn}
use Rattle.sys_state.proofs.Places.{both}
use Rattle.std.proofs.lemmas.Bool.{eq-eqb, eqb-true}
use Rattle.std.proofs.lemmas.Grind.{common_steps}
use Rattle.std.proofs.lemmas.List.{get_or-set_same, get_or-set_other}
use Rattle.vv_io.specs.Lines.{PutsOn, Seen, unseen}
use Rattle.sys_devices.proofs.OneLine.{put_once}
use Rattle.sys_devices.proofs.Puts.{joined, shows_nothing, still}
use Rattle.sys_devices.specs.ShownSince.{ShownSince}
use Rattle.sys_devices.specs.Shows.{Shows, ShowsUnlessMarked, only_on}

-- a line gets nothing
gets_none : (marked : Bool) (line : Seen) → ShowsUnlessMarked marked marked line line []
gets_none true line = (refl, refl)
gets_none false line = shows_nothing line

-- a line gets bytes and then more
gets_then : (a b c : Bool) (l m n : Seen) (x y : List ℕ) → ShowsUnlessMarked a b l m x → ShowsUnlessMarked b c m n y → ShowsUnlessMarked a c l n (x ++ y)
gets_then true true c l m n x y (marked, same) (still_marked, still_same) = (still_marked, still_same ∙ same)
gets_then true false c l m n x y (marked, same) second = absurd (true≢false (sym marked))
gets_then false true c l m n x y first (still_marked, same) =
    subst (λ b. ShownSince b l n (x ++ y)) (sym still_marked) (subst (λ s. ShownSince true l s (x ++ y)) (sym same) (still l m x y first))
gets_then false false c l m n x y first second = joined c l m n x y first second

front_none : (xs ys : List ℕ) → xs ++ ys ≡ [] → xs ≡ []
front_none [] ys e = refl
front_none (x ∷ xs) ys e = cc

back_none : (xs ys : List ℕ) → xs ++ ys ≡ [] → ys ≡ []
back_none [] ys e = e
back_none (x ∷ xs) ys e = cc

-- nothing is shown
pub shows_none : (marks : List Bool) (lines : List Seen) → Shows marks marks lines lines (λ k. [])
shows_none marks lines = record { line = λ k. gets_none (slice_index_or marks k false) (slice_index_or lines k unseen); others = λ k none. (refl, refl) }

-- some bytes are shown, and then more
pub shows_then : {a b c : List Bool} {l m n : List Seen} {f h : ℕ → List ℕ} → Shows a b l m f → Shows b c m n h → Shows a c l n (λ k. f k ++ h k)
shows_then {a} {b} {c} {l} {m} {n} {f} {h} first second = record {
  line = λ k. gets_then (slice_index_or a k false) (slice_index_or b k false) (slice_index_or c k false) (slice_index_or l k unseen) (slice_index_or m k unseen) (slice_index_or n k unseen) (f k) (h k) (first.line k) (second.line k);
  others = λ k none. let a : f k ≡ [] = front_none (f k) (h k) none in let b : h k ≡ [] = back_none (f k) (h k) none in ((second.others k b).0 ∙ (first.others k a).0, (second.others k b).1 ∙ (first.others k a).1);
}

-- a line that isn't marked shows bytes; one that isn't put on is as before
gets_shown : (a b b' : Bool) (l l' line : Seen) (x y : List ℕ) → a ≡ false → b ≡ b' → l' ≡ line → y ≡ x → ShownSince b' l line x → ShowsUnlessMarked a b l l' y
gets_shown a b b' l l' line x y unmarked mark is same shows =
    subst (λ v. ShowsUnlessMarked v b l l' y) (sym unmarked) (subst (λ v. ShownSince v l l' y) (sym mark) (subst (λ s. ShownSince b' l s y) (sym is) (subst (λ bytes. ShownSince b' l line bytes) (sym same) shows)))

gets_nothing : (a b : Bool) (l l' : Seen) (y : List ℕ) → b ≡ a → l' ≡ l → y ≡ [] → ShowsUnlessMarked a b l l' y
gets_nothing a b l l' y mark is none = subst (λ v. ShowsUnlessMarked a v l l' y) (sym mark) (subst (λ s. ShowsUnlessMarked a a l s y) (sym is) (subst (λ bytes. ShowsUnlessMarked a a l l bytes) (sym none) (gets_none a l)))

-- bytes for a line that isn't marked
pub shows_on : (marks : List Bool) (lines lines' : List Seen) (k : ℕ) (failed : Bool) (bytes : List ℕ) → k < length marks → slice_index_or marks k false ≡ false → (bytes ≡ [] → ⊥) → ShownSinceOn k failed lines lines' bytes → Shows marks (slice_set marks k failed) lines lines' (only_on (Some k) bytes)
shows_on marks lines lines' k failed bytes there unmarked some (line, is, inside, shows) =
    let mark : slice_index_or (slice_set marks k failed) k false ≡ failed = get_or-set_same marks k failed false there in
    let shown : slice_index_or lines' k unseen ≡ line = ap (λ ls. slice_index_or ls k unseen) is ∙ get_or-set_same lines k line unseen inside in
    let other_mark : (j : ℕ) → (j ≡ k → ⊥) → slice_index_or (slice_set marks k failed) j false ≡ slice_index_or marks j false = λ j ne. get_or-set_other marks k j failed false ne in
    let other_line : (j : ℕ) → (j ≡ k → ⊥) → slice_index_or lines' j unseen ≡ slice_index_or lines j unseen = λ j ne. ap (λ ls. slice_index_or ls j unseen) is ∙ get_or-set_other lines k j line unseen ne in
    let apart : (j : ℕ) → (k == j) ≡ false → j ≡ k → ⊥ = λ j e q. true≢false (sym (eq-eqb k j (sym q)) ∙ e) in
    record {
      line = λ j. both (k == j)
          (λ e. subst (λ n. ShowsUnlessMarked (slice_index_or marks n false) (slice_index_or (slice_set marks k failed) n false) (slice_index_or lines n unseen) (slice_index_or lines' n unseen) (only_on (Some k) bytes n)) (eqb-true k j e)
          (gets_shown _ _ failed _ _ line bytes _ unmarked mark shown (ap (λ b. if b then bytes else []) (eq-eqb k k refl)) shows))
          (λ e. gets_nothing _ _ _ _ _ (other_mark j (apart j e)) (other_line j (apart j e)) (ap (λ b. if b then bytes else []) e));
      others = λ j none. both (k == j)
          (λ e. absurd (some (sym (ap (λ b. if b then bytes else []) e) ∙ none)))
          (λ e. (other_mark j (apart j e), other_line j (apart j e)));
    }

-- the same bytes, in another form
pub shows_same : (marks marks' : List Bool) (lines lines' : List Seen) (f h : ℕ → List ℕ) → ((k : ℕ) → f k ≡ h k) → Shows marks marks' lines lines' f → Shows marks marks' lines lines' h
shows_same marks marks' lines lines' f h e shows = record {
  line = λ k. subst (λ bytes. ShowsUnlessMarked (slice_index_or marks k false) (slice_index_or marks' k false) (slice_index_or lines k unseen) (slice_index_or lines' k unseen) bytes) (e k) (shows.line k);
  others = λ k none. shows.others k (e k ∙ none);
}

-- no byte of a line's bytes is shown yet
pub none_shown : (k : ℕ) (marks : List Bool) (lines : List Seen) → Shows marks marks lines lines (only_on (Some k) [])
none_shown k marks lines = shows_same marks marks lines lines (λ j. []) (only_on (Some k) []) (λ j. none (k == j)) (shows_none marks lines)
  where
    none : (b : Bool) → (let bytes : List ℕ = [] in bytes) ≡ (let bytes : List ℕ = [] in if b then bytes else [])
    none true = refl
    none false = refl

-- two texts for one line
both_on : (k j : ℕ) (x y : List ℕ) → only_on (Some k) x j ++ only_on (Some k) y j ≡ only_on (Some k) (x ++ y) j
both_on k j x y = by (k == j)
  where
    by : (b : Bool) → (if b then x else []) ++ (if b then y else []) ≡ (if b then x ++ y else [])
    by true = refl
    by false = refl

next_taken : (bytes : List ℕ) (i : ℕ) → i < length bytes → take i bytes ++ (slice_index_or bytes i 0 ∷ []) ≡ take (i + 1) bytes
next_taken bytes i h = grind (arith, common_steps)

-- byte i of all is shown
pub next_shown : (k i : ℕ) (all : List ℕ) (a b c : List Bool) (l m n : List Seen) → i < length all → Shows a b l m (only_on (Some k) (take i all)) → Shows b c m n (only_on (Some k) (slice_index_or all i 0 ∷ [])) → Shows a c l n (only_on (Some k) (take (i + 1) all))
next_shown k i all a b c l m n h first second =
    let bytes = slice_index_or all i 0 ∷ [] in
    shows_same a c l n _ _ (λ j. both_on k j (take i all) bytes ∙ ap (λ (xs : List ℕ). only_on (Some k) xs j) (next_taken all i h)) (shows_then first second)

-- bytes that are put at once on a line that isn't marked
pub whole_shown : {U E : Type 0} (marks : List Bool) (lines : List Seen) (k : ℕ) (after : List Seen) (bytes : List ℕ) (r : Result U E) (failed : Bool) → k < length marks → k < length lines → slice_index_or marks k false ≡ false → (bytes ≡ [] → ⊥) → failed ≡ is_err r → PutsOn k lines after bytes r → Shows marks (slice_set marks k failed) lines after (only_on (Some k) bytes)
whole_shown marks lines k after bytes r failed there inside unmarked some is put =
    shows_on marks lines after k failed bytes there unmarked some (subst (λ b. ShownSinceOn k b lines after bytes) (sym is) (put_once lines k after bytes r inside put))
