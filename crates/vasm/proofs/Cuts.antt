-- Cutting a text at the place that a search finds.
use Rattle.std.specs.List.{position, position_or_len}
use Rattle.std.specs.Prelude.{if◌then◌else◌}
use Rattle.std.proofs.Common.{◌≡◌, ℕ, suc, ◌+◌, Bool, true, false, List, [], ◌∷◌, length, take, drop, Option, Some, None, cond, not, nat_lt, refl, sym, ap, ◌∙◌, arith, option_map}
use Rattle.std.proofs.lemmas.Bool.{lt-ltb}
use Rattle.std.proofs.lemmas.Bool.Decides.{nat_tests}
use Rattle.vasm_text.specs.Cutting.{Cut, cut}

abbrev pub with_first : ℕ → Option Cut → Option Cut
with_first b o = option_map (λ c. record { before = b ∷ c.before; later = c.later }) o

abbrev at_place : (ℕ → Bool) → List ℕ → ℕ → Option Cut
at_place test text n = cond (nat_lt n (length text)) (Some (record { before = take n text; later = drop (suc n) text })) None

one_more : (b : ℕ) (bs : List ℕ) (n : ℕ) (t : Bool) → with_first b (cond t (Some (record { before = take n bs; later = drop (suc n) bs })) None) ≡ cond t (Some (record { before = b ∷ take n bs; later = drop (suc n) bs })) None
one_more b bs n true = refl
one_more b bs n false = refl

less_suc : (p n : ℕ) → nat_lt (suc p) (suc n) ≡ nat_lt p n
less_suc p n = grind (arith, nat_tests)

next_place : (test : ℕ → Bool) (b : ℕ) (bs : List ℕ) (p n : ℕ) → n ≡ suc p → at_place test (b ∷ bs) (suc p) ≡ at_place test (b ∷ bs) n
next_place test b bs p n is = ap (at_place test (b ∷ bs)) (sym is)

cut_step : (test : ℕ → Bool) (b : ℕ) (bs : List ℕ) (t : Bool) → cut test bs ≡ at_place test bs (position_or_len test bs)
    → (if t then Some (record { before = []; later = bs }) else with_first b (cut test bs)) ≡ at_place test (b ∷ bs) (cond (not t) (1 + position_or_len test bs) 0)
cut_step test b bs true is =
    let made : Cut = record { before = []; later = bs } in
    ap (λ (t : Bool). cond t (Some made) None) (sym (lt-ltb 0 (suc (length bs)) (omega arith)))
cut_step test b bs false is =
    let made : Cut = record { before = b ∷ take (position_or_len test bs) bs; later = drop (suc (position_or_len test bs)) bs } in
    ap (with_first b) is ∙ one_more b bs (position_or_len test bs) (nat_lt (position_or_len test bs) (length bs))
    ∙ ap (λ (t : Bool). cond t (Some made) None) (sym (less_suc (position_or_len test bs) (length bs)))
    ∙ next_place test b bs (position_or_len test bs) (1 + position_or_len test bs) (omega arith)

cut_place : (test : ℕ → Bool) (text : List ℕ) → cut test text ≡ at_place test text (position_or_len test text)
cut_place test [] = refl
cut_place test (b ∷ bs) = cut_step test b bs (test b) (cut_place test bs)

found_by : (t : Bool) (place i : ℕ) (make : ℕ → Cut) → cond t (Some place) None ≡ Some i → cond t (Some (make place)) None ≡ Some (make i)
found_by true place i make is = let same : place ≡ i = cc in ap (λ n. Some (make n)) same
found_by false place i make is = cc

missed_by : (t : Bool) (place : ℕ) (make : ℕ → Cut) → cond t (Some place) None ≡ None → cond t (Some (make place)) None ≡ None
missed_by true place make is = cc
missed_by false place make is = refl

pub cut_found : (test : ℕ → Bool) (text : List ℕ) (i : ℕ) → position test text ≡ Some i → cut test text ≡ Some (record { before = take i text; later = drop (i + 1) text })
cut_found test text i is =
    cut_place test text ∙ found_by (nat_lt (position_or_len test text) (length text)) (position_or_len test text) i (λ n. record { before = take n text; later = drop (suc n) text }) is
    ∙ (let e : suc i ≡ i + 1 = omega arith in ap (λ n. Some (record { before = take i text; later = drop n text })) e)

pub cut_missed : (test : ℕ → Bool) (text : List ℕ) → position test text ≡ None → cut test text ≡ None
cut_missed test text is = cut_place test text ∙ missed_by (nat_lt (position_or_len test text) (length text)) (position_or_len test text) (λ n. record { before = take n text; later = drop (suc n) text }) is
