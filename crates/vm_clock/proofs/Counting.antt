-- What many ticks leave, and where the next wrap is.
use Rattle.std.proofs.Common.{◌≡◌, ℕ, zero, suc, ◌+◌, ◌-◌, ◌^◌, ◌<◌, true, false, refl, ◌∙◌, ap, arith, add-zero, zero-add, inl, inr}
use Rattle.std.proofs.lemmas.Grind.{common_steps}
use Rattle.std.proofs.lemmas.Bool.{cases_lt}
use Rattle.vm_clock.specs.Clock.{ClockState, after_tick, is_at_end, wraps_next}
use Rattle.vm_clock.specs.Ticks.{after_ticks, EndsInWrap, IsNextWrap, NeverWraps, ticks_to_wrap}

-- m ticks and then n are m + n ticks
pub after_ticks-add : (m n : ℕ) (c : ClockState) → after_ticks (m + n) c ≡ after_ticks n (after_ticks m c)
unfolding after_ticks
after_ticks-add zero n c = rw zero-add refl
after_ticks-add (suc m) n c = let e : suc m + n ≡ suc (m + n) = omega arith in rw e (after_ticks-add m n (after_tick c))

after_tick-stopped : (c : ClockState) → c.run ≡ false → after_tick c ≡ c
unfolding after_tick
after_tick-stopped c stopped = rw stopped refl

-- a stopped clock stays
pub after_ticks-stopped : (n : ℕ) (c : ClockState) → c.run ≡ false → after_ticks n c ≡ c
unfolding after_ticks
after_ticks-stopped zero c stopped = refl
after_ticks-stopped (suc n) c stopped =
    ap (λ (s : ClockState). after_ticks n s) (after_tick-stopped c stopped) ∙ after_ticks-stopped n c stopped

at_end-false : (c : ClockState) → c.icr + 1 < 2 ^ 32 → is_at_end c ≡ false
at_end-false c room = grind (arith, common_steps)

after_tick-count : (c : ClockState) → c.run ≡ true → c.icr + 1 < 2 ^ 32 → after_tick c ≡ record c { icr = c.icr + 1 }
unfolding after_tick
after_tick-count c runs room = let e = at_end-false c room in rw (runs, e) refl

-- a running clock counts on, up to its end
pub after_ticks-count : (n : ℕ) (c : ClockState) → c.run ≡ true → c.icr + n < 2 ^ 32 → after_ticks n c ≡ record c { icr = c.icr + n }
unfolding after_ticks
after_ticks-count zero c runs room = rw add-zero refl
after_ticks-count (suc n) c runs room =
    let next : ClockState = record c { icr = c.icr + 1 } in
    let sum : c.icr + 1 + n ≡ c.icr + suc n = omega arith in
    ap (λ (s : ClockState). after_ticks n s) (after_tick-count c runs (omega arith))
    ∙ after_ticks-count n next runs (omega arith)
    ∙ ap (λ (k : ℕ). let s : ClockState = record c { icr = k } in s) sum

-- no tick before the end wraps
before_end : (n : ℕ) (c : ClockState) → c.run ≡ true → c.icr + n + 1 < 2 ^ 32 → wraps_next (after_ticks n c) ≡ false
before_end n c runs room =
    let e : after_ticks n c ≡ record c { icr = c.icr + n } = after_ticks-count n c runs (omega arith) in
    let s : ClockState = record c { icr = c.icr + n } in
    let f : is_at_end s ≡ false = at_end-false s room in
    rw (e, runs, f) refl

-- the tick at the end wraps
at_end : (n : ℕ) (c : ClockState) → c.run ≡ true → c.icr + n + 1 ≡ 2 ^ 32 → wraps_next (after_ticks n c) ≡ true
at_end n c runs full =
    let e : after_ticks n c ≡ record c { icr = c.icr + n } = after_ticks-count n c runs (omega arith) in
    rw (e, runs, full) refl

early : (c : ClockState) → c.run ≡ true → (m : ℕ) → EndsInWrap c m → m < ticks_to_wrap c → ⊥
early c runs m h soon =
    let pos : 0 < m = h.0 in
    let e : wraps_next (after_ticks (m - 1) c) ≡ false = before_end (m - 1) c runs (omega arith) in
    let w : wraps_next (after_ticks (m - 1) c) ≡ true = h.1 in
    cc

-- the least number of ticks whose last one wraps
pub next_wrap : (c : ClockState) → c.run ≡ true → c.icr < 2 ^ 32 → IsNextWrap c (ticks_to_wrap c)
next_wrap c runs small = record {
  wraps = (omega arith, at_end (ticks_to_wrap c - 1) c runs (omega arith));
  least = λ m h. elim (cases_lt m (ticks_to_wrap c)) [ inl soon ↦ absurd (early c runs m h soon) | inr late ↦ late ];
}

-- a stopped clock never wraps
pub never_wraps : (c : ClockState) → c.run ≡ false → NeverWraps c
never_wraps c stopped n h =
    let e : after_ticks (n - 1) c ≡ c = after_ticks-stopped (n - 1) c stopped in
    let w : wraps_next (after_ticks (n - 1) c) ≡ false = rw (e, stopped) refl in
    let v : wraps_next (after_ticks (n - 1) c) ≡ true = h.1 in
    cc
