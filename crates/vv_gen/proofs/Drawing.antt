-- Draws that follow others.
use Rattle.std.proofs.Common.{◌≡◌, ℕ, zero, suc, ◌+◌, ◌/◌, ◌^◌, refl, ap, ◌∙◌, sym, arith, add-one}
use Rattle.std.proofs.Math.Path.{fun_ext}
use Rattle.vv_gen.specs.Draws.{next, after_draws, draw, draws_after}

pub after_none : (x : ℕ) → x ≡ after_draws x 0
unfolding after_draws
after_none x = refl

pub after_more : (x k : ℕ) → next (after_draws x k) ≡ after_draws x (k + 1)
unfolding after_draws
after_more x k = sym (ap (after_draws x) (add-one k))

pub after_after : (x j k : ℕ) → after_draws (after_draws x j) k ≡ after_draws x (j + k)
unfolding after_draws
after_after x j zero = let e : j ≡ j + 0 = omega arith in ap (after_draws x) e
after_after x j (suc k) = let e : suc (j + k) ≡ j + suc k = omega arith in ap next (after_after x j k) ∙ ap (after_draws x) e

pub draw_after : (x j k : ℕ) → draw (after_draws x j) k ≡ draw x (j + k)
unfolding draw
draw_after x j k =
    let e : j + (k + 1) ≡ j + k + 1 = omega arith in
    let f : ℕ → ℕ = λ n. n / 2 ^ 16 in
    ap f (after_after x j (k + 1) ∙ ap (after_draws x) e)

pub draws_from : (x j : ℕ) → draw (after_draws x j) ≡ draws_after j x
draws_from x j = fun_ext (λ k. draw_after x j k)

pub after_one : (x : ℕ) → next x ≡ after_draws x 1
unfolding after_draws
after_one x = refl

-- two draws
pub second_draw : (x : ℕ) → draw (next x) 0 ≡ draw x 1
unfolding draw after_draws
second_draw x = refl

pub after_two : (x : ℕ) → next (next x) ≡ after_draws x 2
unfolding after_draws
after_two x = refl

pub first_draw : (x : ℕ) → next x / 65536 ≡ draw x 0
unfolding draw after_draws
first_draw x = refl

-- a state s that is after k draws of x: its next draw, and the state after that
pub next_draw : (x k s d : ℕ) → s ≡ after_draws x k → d ≡ draw s 0 → d ≡ draw x k
next_draw x k s d at drawn =
    let f : ℕ → ℕ = λ s. draw s 0 in
    let e : k + 0 ≡ k = omega arith in
    drawn ∙ ap f at ∙ draw_after x k 0 ∙ ap (draw x) e

pub next_state : (x k s t : ℕ) → s ≡ after_draws x k → t ≡ next s → t ≡ after_draws x (k + 1)
next_state x k s t at goes = goes ∙ ap next at ∙ after_more x k

-- its draws, and the state after n of them
pub next_draws : (x k s : ℕ) → s ≡ after_draws x k → draw s ≡ draws_after k x
next_draws x k s at = ap draw at ∙ draws_from x k

pub state_after : (x k n m s t : ℕ) → s ≡ after_draws x k → t ≡ after_draws s n → k + n ≡ m → t ≡ after_draws x m
state_after x k n m s t at goes sum =
    let f : ℕ → ℕ = λ s. after_draws s n in
    goes ∙ ap f at ∙ after_after x k n ∙ ap (after_draws x) sum
