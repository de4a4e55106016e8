-- Screens that are looked at, one after another.
use Rattle.std.proofs.Common.{ℕ, zero, suc, ◌≡◌, ◌<◌, ◌≤◌, ◌+◌, List, [], ◌∷◌, ◌++◌, length, take, drop, slice_set, slice_index_or, refl, sym, ◌∙◌, ap, subst, arith, All, Bool, true, false}
use Rattle.std.proofs.lemmas.List.{append-nil, drop-drop, drop-set-lt, drop_all, drop_more, length-set, take_all, take_at, take_more_set}
use Rattle.std.proofs.lemmas.List.Elements.{All-cons, All-get_or, All-nil, All-push, All-set}
use Rattle.vv_io.specs.Lines.{Seen, unseen}
use Rattle.sys_devices.specs.Screens.{AreLinesKnown, AreSameScreens, AreWithin, Echoes, IsLineKnown, IsSameScreen, IsScreenWithin, new_on, news}
use Rattle.sys_devices.specs.declared.screen.Screen.{Screen}
use Rattle.sys_devices.proofs.Parts.{IsPart, IsShown, part_begins, part_goes_on, part_stops}

abbrev pub IsSeen : List Seen → Screen → Type 0
IsSeen lines screen = IsLineKnown (slice_index_or lines screen.line unseen) → new_on lines screen ≡ []

-- Of some screens the first `count` were looked at.
pub record AreLooked (lines : List Seen) (first screens : List Screen) (count : ℕ) (start out : Seen) : Type 0 where
  pub same : AreSameScreens first screens
  pub left : drop count screens ≡ drop count first
  pub put : IsPart (AreLinesKnown lines first) start out (news lines (drop count first)) (news lines first)
  pub seen : All (IsSeen lines) (take count screens)
  pub within : AreWithin lines first → AreWithin lines screens

all_same : (screens : List Screen) → AreSameScreens screens screens
all_same [] = tt
all_same (screen ∷ screens) = (record { name = refl; line = refl }, all_same screens)

same_length : (first screens : List Screen) → AreSameScreens first screens → length screens ≡ length first
same_length [] [] same = refl
same_length [] (x ∷ xs) same = absurd same
same_length (y ∷ ys) [] same = absurd same
same_length (y ∷ ys) (x ∷ xs) same = ap suc (same_length ys xs same.1)

same_set : (first screens : List Screen) (i : ℕ) (old new : Screen) → AreSameScreens first screens → old ≡ slice_index_or screens i old → IsSameScreen old new → AreSameScreens first (slice_set screens i new)
same_set [] [] i old new same read is = same
same_set [] (x ∷ xs) i old new same read is = absurd same
same_set (y ∷ ys) [] i old new same read is = absurd same
same_set (y ∷ ys) (x ∷ xs) zero old new same read is = (record { name = is.name ∙ ap (λ (s : Screen). s.name) read ∙ same.0.name; line = is.line ∙ ap (λ (s : Screen). s.line) read ∙ same.0.line }, same.1)
same_set (y ∷ ys) (x ∷ xs) (suc i) old new same read is = (same.0, same_set ys xs i old new same.1 read is)

-- none yet
pub looked_none : (lines : List Seen) (first screens : List Screen) (start : Seen) → screens ≡ first → AreLooked lines first screens 0 start start
looked_none lines first screens start is = record {
  same = subst (AreSameScreens first) (sym is) (all_same first);
  left = is;
  put = part_begins (AreLinesKnown lines first) start (news lines first) (news lines first) (λ _. refl);
  seen = All-nil (IsSeen lines);
  within = λ within. subst (AreWithin lines) (sym is) within;
}

first_of_two : (xs ys : List Screen) (i : ℕ) (x : Screen) → i < length xs → i < length ys → drop i ys ≡ drop i xs → x ≡ slice_index_or ys i x → slice_index_or xs i x ≡ x
first_of_two xs ys i x low also left read =
    let head : List Screen → Screen = λ zs. slice_index_or zs 0 x in
    sym (ap head (drop_more xs i x low)) ∙ sym (ap head left) ∙ ap head (drop_more ys i x also) ∙ sym read

-- the news of the next screen come first
next_news : (lines : List Seen) (first : List Screen) (i : ℕ) (old : Screen) (bytes : List ℕ) → i < length first → slice_index_or first i old ≡ old → (AreLinesKnown lines (old ∷ []) → bytes ≡ news lines (old ∷ [])) → AreLinesKnown lines first → news lines (drop i first) ≡ bytes ++ news lines (drop (i + 1) first)
next_news lines first i old bytes low here exact told =
    let Told : Screen → Type 0 = λ s. IsLineKnown (slice_index_or lines s.line unseen) in
    let one : AreLinesKnown lines (old ∷ []) = All-cons Told old [] (subst Told here (All-get_or Told first i old low told)) (All-nil Told) in
    let is : bytes ≡ news lines (old ∷ []) = exact one in
    ap (news lines) (drop_more first i old low ∙ ap (λ (s : Screen). s ∷ drop (i + 1) first) here) ∙ ap (λ (xs : List ℕ). xs ++ news lines (drop (i + 1) first)) (sym (is ∙ append-nil _))

later_left : (first screens : List Screen) (i : ℕ) (new : Screen) → drop i screens ≡ drop i first → drop (i + 1) (slice_set screens i new) ≡ drop (i + 1) first
later_left first screens i new left =
    drop-set-lt (i + 1) screens i new (omega arith) ∙ sym (drop-drop 1 i screens) ∙ ap (drop 1) left ∙ drop-drop 1 i first

-- The next screen is looked at, where all lines are as before.
pub record IsLooked (cut : Bool) (lines now : List Seen) (old new : Screen) (out out' : Seen) : Type 0 where
  pub stays : now ≡ lines
  pub echoes : Echoes cut now (old ∷ []) out out'
  pub same : IsSameScreen old new
  pub within : IsScreenWithin now old → IsScreenWithin now new

pub was_looked : (cut : Bool) (lines now : List Seen) (old new : Screen) (out out' : Seen) → now ≡ lines → Echoes cut now (old ∷ []) out out' → IsSameScreen old new → (IsScreenWithin now old → IsScreenWithin now new) → IsLooked cut lines now old new out out'
was_looked cut lines now old new out out' stays echoes same within = record { stays = stays; echoes = echoes; same = same; within = within }

-- the next screen
abbrev pub next_of : List Screen → ℕ → Screen → Screen
next_of screens i item = slice_index_or screens i item

next_read : (screens : List Screen) (i : ℕ) (item : Screen) → item ≡ slice_index_or screens i item → next_of screens i item ≡ slice_index_or screens i (next_of screens i item)
next_read screens i item read = ap (λ (d : Screen). slice_index_or screens i d) read

within_next : (lines now : List Seen) (screens : List Screen) (i : ℕ) (old new : Screen) → now ≡ lines → i < length screens → old ≡ slice_index_or screens i old → (IsScreenWithin now old → IsScreenWithin now new) → AreWithin lines screens → AreWithin lines (slice_set screens i new)
within_next lines now screens i old new stays low read within all =
    let kept : IsScreenWithin lines old → IsScreenWithin lines new = subst (λ (xs : List Seen). IsScreenWithin xs old → IsScreenWithin xs new) stays within in
    All-set (IsScreenWithin lines) screens i new (kept (subst (IsScreenWithin lines) (sym read) (All-get_or (IsScreenWithin lines) screens i old low all))) all

seen_next : (lines now : List Seen) (screens : List Screen) (i : ℕ) (old new : Screen) → now ≡ lines → i < length screens → new.line ≡ old.line → (IsLineKnown (slice_index_or now old.line unseen) → new_on now new ≡ []) → All (IsSeen lines) (take i screens) → All (IsSeen lines) (take (i + 1) (slice_set screens i new))
seen_next lines now screens i old new stays low line seen before =
    let Seen_at : ℕ → List Seen → Type 0 = λ k xs. IsLineKnown (slice_index_or xs k unseen) → new_on xs new ≡ [] in
    let here : IsSeen lines new = subst (λ (k : ℕ). Seen_at k lines) (sym line) (subst (λ (xs : List Seen). Seen_at old.line xs) stays seen) in
    subst (All (IsSeen lines)) (sym (take_more_set screens i new low)) (All-push (IsSeen lines) (take i screens) new before here)

-- one more
pub looked_next : (lines now : List Seen) (first screens : List Screen) (i : ℕ) (item new : Screen) (start out out' : Seen) → i < length screens → item ≡ slice_index_or screens i item → AreLooked lines first screens i start out → IsLooked false lines now (next_of screens i item) new out out' → (IsLineKnown (slice_index_or now (next_of screens i item).line unseen) → new_on now new ≡ []) → AreLooked lines first (slice_set screens i new) (i + 1) start out'
looked_next lines now first screens i item new start out out' low read before one seen =
    let old : Screen = next_of screens i item in
    let is : old ≡ slice_index_or screens i old = next_read screens i item read in
    let inside : i < length first = omega (arith, low, same_length first screens before.same) in
    let here : slice_index_or first i old ≡ old = first_of_two first screens i old inside low before.left is in
    let echoes : Echoes false lines (old ∷ []) out out' = subst (λ (xs : List Seen). Echoes false xs (old ∷ []) out out') one.stays one.echoes in
    record {
      same = same_set first screens i old new before.same is one.same;
      left = later_left first screens i new before.left;
      put = part_goes_on (AreLinesKnown lines first) start out out' (news lines (drop i first)) echoes.bytes (news lines (drop (i + 1) first)) (news lines first) (next_news lines first i old echoes.bytes inside here echoes.exact) before.put echoes.shown;
      seen = seen_next lines now screens i old new one.stays low one.same.line seen before.seen;
      within = λ all. within_next lines now screens i old new one.stays low is one.within (before.within all);
    }

-- the sink fails at one
pub looked_stops : (cut : Bool) (lines now : List Seen) (first screens : List Screen) (i : ℕ) (item new : Screen) (start out out' : Seen) → cut ≡ true → i < length screens → item ≡ slice_index_or screens i item → AreLooked lines first screens i start out → IsLooked true lines now (next_of screens i item) new out out' → Echoes cut lines first start out'
looked_stops cut lines now first screens i item new start out out' fault low read before one =
    let old : Screen = next_of screens i item in
    let is : old ≡ slice_index_or screens i old = next_read screens i item read in
    let inside : i < length first = omega (arith, low, same_length first screens before.same) in
    let here : slice_index_or first i old ≡ old = first_of_two first screens i old inside low before.left is in
    let echoes : Echoes true lines (old ∷ []) out out' = subst (λ (xs : List Seen). Echoes true xs (old ∷ []) out out') one.stays one.echoes in
    let shown : IsShown (AreLinesKnown lines first) cut start out' (news lines first) = part_stops (AreLinesKnown lines first) cut start out out' (news lines (drop i first)) echoes.bytes (news lines (drop (i + 1) first)) (news lines first) fault (next_news lines first i old echoes.bytes inside here echoes.exact) before.put echoes.shown in
    record { bytes = shown.text; shown = shown.shown; exact = shown.exact }

-- what a list is after its items were written back
abbrev pub written : ℕ → List Screen → List Screen → List Screen
written n items old = take n (items ++ drop (length items) old)

pub stopped_same : (cut : Bool) (lines now : List Seen) (first screens old : List Screen) (n i : ℕ) (item new : Screen) (start out out' : Seen) → length screens ≡ n → item ≡ slice_index_or screens i item → AreLooked lines first screens i start out → IsLooked cut lines now (next_of screens i item) new out out' → AreSameScreens first (written n (slice_set screens i new) old)
stopped_same cut lines now first screens old n i item new start out out' long read before one =
    let kept : length (slice_set screens i new) ≡ n = length-set screens i new ∙ long in
    subst (AreSameScreens first) (sym (take_at (slice_set screens i new) (drop (length (slice_set screens i new)) old) n kept)) (same_set first screens i (next_of screens i item) new before.same (next_read screens i item read) one.same)

pub stopped_within : (cut : Bool) (lines now : List Seen) (first screens old : List Screen) (n i : ℕ) (item new : Screen) (start out out' : Seen) → length screens ≡ n → i < length screens → item ≡ slice_index_or screens i item → AreLooked lines first screens i start out → IsLooked cut lines now (next_of screens i item) new out out' → AreWithin lines first → AreWithin lines (written n (slice_set screens i new) old)
stopped_within cut lines now first screens old n i item new start out out' long low read before one all =
    let kept : length (slice_set screens i new) ≡ n = length-set screens i new ∙ long in
    subst (AreWithin lines) (sym (take_at (slice_set screens i new) (drop (length (slice_set screens i new)) old) n kept)) (within_next lines now screens i (next_of screens i item) new one.stays low (next_read screens i item read) one.within (before.within all))

-- the next screen's line is there
pub next_there : (lines : List Seen) (first screens : List Screen) (i : ℕ) (item : Screen) (start out : Seen) → All (λ s. s.line < 32) first → i < length screens → item ≡ slice_index_or screens i item → AreLooked lines first screens i start out → (next_of screens i item).line < 32
next_there lines first screens i item start out there low read before =
    let There : Screen → Type 0 = λ s. s.line < 32 in
    let old : Screen = next_of screens i item in
    let is : old ≡ slice_index_or screens i old = next_read screens i item read in
    let inside : i < length first = omega (arith, low, same_length first screens before.same) in
    subst There (first_of_two first screens i old inside low before.left is) (All-get_or There first i old inside there)

-- all
pub looked_all : (lines : List Seen) (first screens : List Screen) (count : ℕ) (start now : Seen) → length screens ≤ count → AreLooked lines first screens count start now → Echoes false lines first start now
looked_all lines first screens count start now past before =
    let long : length screens ≡ length first = same_length first screens before.same in
    let none : drop count first ≡ [] = drop_all count first (omega (arith, past, long)) in
    record {
      bytes = before.put.text;
      shown = before.put.shown;
      exact = λ told. sym (append-nil before.put.text) ∙ ap (λ (xs : List Screen). before.put.text ++ news lines xs) (sym none) ∙ before.put.exact told;
    }

pub seen_all : (lines : List Seen) (first screens old : List Screen) (n count : ℕ) (start out : Seen) → length screens ≡ n → length screens ≤ count → AreLooked lines first screens count start out → All (IsSeen lines) (written n screens old)
seen_all lines first screens old n count start out long past before =
    subst (All (IsSeen lines)) (take_all count screens past ∙ sym (take_at screens (drop (length screens) old) n long)) before.seen

pub within_all : (lines : List Seen) (first screens old : List Screen) (n count : ℕ) (start out : Seen) → length screens ≡ n → AreLooked lines first screens count start out → AreWithin lines first → AreWithin lines (written n screens old)
within_all lines first screens old n count start out long before all =
    subst (AreWithin lines) (sym (take_at screens (drop (length screens) old) n long)) (before.within all)
