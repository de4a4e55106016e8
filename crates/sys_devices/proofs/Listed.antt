-- Screens, one more at the end.
use Rattle.std.proofs.Common.{ℕ, ◌≡◌, ◌<◌, ◌+◌, List, [], ◌∷◌, ◌++◌, length, take, slice_index_or, sym, ◌∙◌, ap, subst}
use Rattle.std.proofs.lemmas.List.{take_more}
use Rattle.vv_io.specs.Lines.{Counts, Seen, unseen}
use Rattle.sys_objects.specs.declared.records.Terminal.{Terminal}
use Rattle.sys_devices.specs.Screens.{AreScreens, IsScreen}
use Rattle.sys_devices.specs.declared.screen.Screen.{Screen}

one_more : (lines : List Seen) (ts : List Terminal) (ss : List Screen) (t : Terminal) (s : Screen) → AreScreens lines ts ss → IsScreen lines t s → AreScreens lines (ts ++ t ∷ []) (ss ++ s ∷ [])
one_more lines [] [] t s are is = (is, tt)
one_more lines [] (y ∷ ys) t s are is = absurd are
one_more lines (x ∷ xs) [] t s are is = absurd are
one_more lines (x ∷ xs) (y ∷ ys) t s are is = (are.0, one_more lines xs ys t s are.1 is)

-- the screen of the next terminal
pub next_screen : (lines : List Seen) (ts : List Terminal) (i k : ℕ) (t : Terminal) (ss new : List Screen) (s : Screen) → i < length ts → t ≡ slice_index_or ts i t → AreScreens lines (take i ts) ss → new ≡ ss ++ s ∷ [] → s.name ≡ t.name → s.line ≡ t.line → k ≡ t.line → Counts (slice_index_or lines k unseen).shown s.seen → AreScreens lines (take (i + 1) ts) new
next_screen lines ts i k t ss new s within read are pushed name line at counts =
    let is : IsScreen lines t s = record { name = name; line = line; seen = subst (λ (n : ℕ). Counts (slice_index_or lines n unseen).shown s.seen) at counts } in
    let taken : take i ts ++ t ∷ [] ≡ take (i + 1) ts = ap (λ (x : Terminal). take i ts ++ x ∷ []) read ∙ sym (take_more ts i t within) in
    subst (λ (xs : List Terminal). AreScreens lines xs new) taken (subst (AreScreens lines (take i ts ++ t ∷ [])) (sym pushed) (one_more lines (take i ts) ss t s are is))
