-- The highest pending interrupt, and its request.
use Rattle.std.proofs.Common.{◌≡◌, ℕ, zero, suc, ◌-◌, ◌/◌, ◌%◌, ◌^◌, ◌<◌, ◌≤◌, Bool, true, false, ◌&&◌, ltb, List, [], ◌∷◌, Option, Some, None, refl, ap, ◌∙◌, sym, subst, arith}
use Rattle.std.specs.Prelude.{if◌then◌else◌, find}
use Rattle.std.proofs.lemmas.Bool.Decides.{nat_tests}
use Rattle.std.proofs.lemmas.Grind.{common_steps}
use Rattle.vax_arch.specs.Fields.{ipl_of}
use Rattle.vm_exception.specs.Sources.{HasLevel, HasRequest, is_due, software_due}
use Rattle.vm_state.specs.Interrupts.{IntervalClock, Kcall, Receiver, Software, Source, Transmitter, due, source_row, sources}
use Rattle.vm_state.specs.State.{State}
use Rattle.vm_state.proofs.Keeps.{Keeps, moved}
use Rattle.vm_state.proofs.Registers.{clear_at, even_of, small_of, with_sisr}

-- the software levels below one, from the highest down to 1
abbrev pub levels_below : ℕ → List Source
levels_below zero = []
levels_below (suc zero) = []
levels_below (suc (suc n)) = Software (suc n) ∷ levels_below (suc n)

pub highest_below : State → ℕ → Option Source
highest_below s n = find (λ source. is_due s source) (levels_below n)

pub all_levels : (s : State) → highest_below s 16 ≡ software_due s
unfolding highest_below software_due
all_levels s = refl

pub no_level : (s : State) (n : ℕ) → n ≤ 1 → None ≡ highest_below s n
unfolding highest_below
no_level s zero h = refl
no_level s (suc zero) h = refl
no_level s (suc (suc n)) h = absurd (omega arith)

first_due : (s : State) (n : ℕ) → is_due s (Software (suc n)) ≡ true → Some (Software (suc n)) ≡ highest_below s (suc (suc n))
unfolding highest_below
first_due s n e = rw e refl

first_not_due : (s : State) (n : ℕ) → is_due s (Software (suc n)) ≡ false → highest_below s (suc n) ≡ highest_below s (suc (suc n))
unfolding highest_below
first_not_due s n e = rw e refl

pub level_due : (s : State) (n : ℕ) → 1 < n → is_due s (Software (n - 1)) ≡ true → Some (Software (n - 1)) ≡ highest_below s n
level_due s zero h e = absurd (omega arith)
level_due s (suc zero) h e = absurd (omega arith)
level_due s (suc (suc n)) h e = let back : suc (suc n) - 1 ≡ suc n = omega arith in rw back (first_due s n (rw back at e))

pub level_not_due : (s : State) (n : ℕ) → 1 < n → is_due s (Software (n - 1)) ≡ false → highest_below s (n - 1) ≡ highest_below s n
level_not_due s zero h e = absurd (omega arith)
level_not_due s (suc zero) h e = absurd (omega arith)
level_not_due s (suc (suc n)) h e = let back : suc (suc n) - 1 ≡ suc n = omega arith in rw back (first_not_due s n (rw back at e))

-- by the sources from the highest level down
module _ (s : State) where
  pub clock_due : is_due s IntervalClock ≡ true → Some IntervalClock ≡ due s
  unfolding due
  clock_due a = rw a refl

  pub transfer_due : is_due s IntervalClock ≡ false → is_due s Kcall ≡ true → Some Kcall ≡ due s
  unfolding due
  transfer_due a b = rw (a, b) refl

  pub receiver_due : is_due s IntervalClock ≡ false → is_due s Kcall ≡ false → is_due s Receiver ≡ true → Some Receiver ≡ due s
  unfolding due
  receiver_due a b c = rw (a, b, c) refl

  pub transmitter_due : is_due s IntervalClock ≡ false → is_due s Kcall ≡ false → is_due s Receiver ≡ false → is_due s Transmitter ≡ true → Some Transmitter ≡ due s
  unfolding due
  transmitter_due a b c d = rw (a, b, c, d) refl

  pub no_device_due : is_due s IntervalClock ≡ false → is_due s Kcall ≡ false → is_due s Receiver ≡ false → is_due s Transmitter ≡ false → software_due s ≡ due s
  unfolding due software_due
  no_device_due a b c d = rw (a, b, c, d) refl

-- A source that is due is one of the list, and its request is there.
Every : (Source → Type 0) → List Source → Type 0
Every P [] = Unit {0}
Every P (x ∷ xs) = P x × Every P xs

found_by : (P : Source → Type 0) (p : Source → Bool) (y : Source) (ys : List Source) (x : Source) (b : Bool) → p y ≡ b → P y → (find p ys ≡ Some x → P x × (p x ≡ true)) → (if b then Some y else find p ys) ≡ Some x → P x × (p x ≡ true)
found_by P p y ys x true is h rest e = let one : y ≡ x = cc in subst (λ z. P z × (p z ≡ true)) one (h, is)
found_by P p y ys x false is h rest e = rest e

found : (P : Source → Type 0) (p : Source → Bool) (xs : List Source) (x : Source) → Every P xs → find p xs ≡ Some x → P x × (p x ≡ true)
unfolding Every
found P p [] x h e = cc
found P p (y ∷ ys) x h e = found_by P p y ys x (p y) refl h.0 (λ g. found P p ys x h.1 g) e

-- a software level is 1 to 15
IsLevel : Source → Type 0
IsLevel (Software level) = (1 ≤ level) × (level < 16)
IsLevel IntervalClock = Unit {0}
IsLevel Kcall = Unit {0}
IsLevel Receiver = Unit {0}
IsLevel Transmitter = Unit {0}

all_are_levels : Every IsLevel sources
unfolding Every IsLevel
all_are_levels = (tt, (tt, (tt, (tt, ((omega arith, omega arith), ((omega arith, omega arith), ((omega arith, omega arith), ((omega arith, omega arith), ((omega arith, omega arith), ((omega arith, omega arith), ((omega arith, omega arith), ((omega arith, omega arith), ((omega arith, omega arith), ((omega arith, omega arith), ((omega arith, omega arith), ((omega arith, omega arith), ((omega arith, omega arith), ((omega arith, omega arith), ((omega arith, omega arith), tt)))))))))))))))))))

first_true : (a b : Bool) → (a && b) ≡ true → a ≡ true
first_true true b e = refl
first_true false b e = cc

-- what is due
record Pends (s : State) (x : Source) : Type 0 where
  level : IsLevel x
  request : (source_row x).requests s ≡ true

pends : (s : State) (x : Source) → due s ≡ Some x → Pends s x
unfolding due
pends s x e =
    let f = found IsLevel (λ source. is_due s source) sources x all_are_levels e in
    record { level = f.0; request = first_true ((source_row x).requests s) (ltb (ipl_of s.psl) (source_row x).level) f.1 }

level_of_pending : (x : Source) → IsLevel x → HasLevel x
unfolding IsLevel
level_of_pending IntervalClock h = tt
level_of_pending Kcall h = tt
level_of_pending Receiver h = tt
level_of_pending Transmitter h = tt
level_of_pending (Software level) h = h.1

pub has_level : (s : State) (x : Source) → due s ≡ Some x → HasLevel x
has_level s x e = level_of_pending x (pends s x e).level

-- the bit of a software level that is set can be taken from the requests
bit_there : (sisr bit : ℕ) → sisr / bit % 2 ≡ 1 → bit ≤ sisr
bit_there sisr bit e = grind (arith, common_steps)

request_there : (x : Source) (s t : State) → IsLevel x → (source_row x).requests s ≡ true → t.sisr ≡ s.sisr → HasRequest t x
unfolding IsLevel
request_there IntervalClock s t h r e = tt
request_there Kcall s t h r e = tt
request_there Receiver s t h r e = tt
request_there Transmitter s t h r e = tt
request_there (Software level) s t h r e =
    let asked : t.sisr / 2 ^ level % 2 ≡ 1 = rw e (grind (arith, nat_tests)) in
    (h.1, bit_there t.sisr (2 ^ level) asked)

pub has_request : (x : Source) (s t : State) → due s ≡ Some x → t.sisr ≡ s.sisr → HasRequest t x
has_request x s t d e = let p = pends s x d in request_there x s t p.level p.request e

-- A request ends; initiation leaves the requests of software levels.
ended_keeps : (size : ℕ) (x : Source) (s t : State) → IsLevel x → (source_row x).requests s ≡ true → t.sisr ≡ s.sisr → Keeps size t ((source_row x).taken t)
unfolding IsLevel
ended_keeps size IntervalClock s t h r e = moved size t _ refl refl refl refl refl refl refl refl (λ k. k)
ended_keeps size Kcall s t h r e = moved size t _ refl refl refl refl refl refl refl refl (λ k. k)
ended_keeps size Receiver s t h r e = moved size t _ refl refl refl refl refl refl refl refl (λ k. k)
ended_keeps size Transmitter s t h r e = moved size t _ refl refl refl refl refl refl refl refl (λ k. k)
ended_keeps size (Software level) s t h r e =
    let asked : t.sisr / 2 ^ level % 2 ≡ 1 = rw e (grind (arith, nat_tests)) in
    with_sisr size t (t.sisr - 2 ^ level) (λ k. clear_at level t.sisr h.0 h.1 (even_of t.sisr k.sisr) (small_of t.sisr k.sisr) asked)

pub taken_keeps : (size : ℕ) (x : Source) (s t : State) → due s ≡ Some x → t.sisr ≡ s.sisr → Keeps size t ((source_row x).taken t)
taken_keeps size x s t d e = let p = pends s x d in ended_keeps size x s t p.level p.request e

-- where no level is requested, none is due
none_of_none : (s : State) → None ≡ software_due (record s { sisr = 0 })
unfolding software_due
none_of_none s = refl

pub no_levels : (s : State) → s.sisr ≡ 0 → None ≡ software_due s
no_levels s e = none_of_none s ∙ ap software_due (λ i. record s { sisr = sym e i })
