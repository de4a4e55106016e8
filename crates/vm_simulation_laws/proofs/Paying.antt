-- Misses and the first touches that count them, one after the other.
use Rattle.std.proofs.Common.{◌≡◌, ℕ, zero, suc, ◌+◌, ◌%◌, ◌^◌, ◌<◌, ◌≤◌, [], is_some, ap, ◌∙◌, arith}
use Rattle.vm_simulation_laws.specs.Misses.{KeepsFilled}
use Rattle.vm_simulation_laws.specs.Paid.{FillsAreTries, NothingIsPaid, NothingIsTried, PaymentsFollow, StepsArePaid, TouchesFollow, TriesFollow, NothingIsOwed, StepsSettle, TriesAreOwed}
use Rattle.vm_simulation_laws.specs.Present.{after_touches, to_miss}
use Rattle.vm_simulation_laws.proofs.Fitting.{filled_stay, fills_keep, one_filled, steps_keep, touches_counted}
use Rattle.vm_shadow.specs.Layout.{all_entries}
use Rattle.vm_shadow.specs.StandsFor.{own_number}
use Rattle.vm_shadow.proofs.Covering.{slot_small}
use Rattle.vm_shadow.proofs.Places.{number_small}
use Rattle.vm_state.specs.Run.{after_step}
use Rattle.vm_state.specs.Step.{step}
use Rattle.vm_state.specs.Touches.{touching_step, touching_steps}

misses_follow : (a b x y z : ℕ) → y % 2 ^ 64 ≡ (x + a) % 2 ^ 64 → z % 2 ^ 64 ≡ (y + b) % 2 ^ 64 → z % 2 ^ 64 ≡ (x + (a + b)) % 2 ^ 64
misses_follow a b x y z e f = grind arith

no_misses : (x y : ℕ) → y ≡ x → y % 2 ^ 64 ≡ (x + 0) % 2 ^ 64
no_misses x y e = ap (λ (n : ℕ). n % 2 ^ 64) (omega (arith, e))

pub tries_follow : TriesFollow
tries_follow x m m1 m2 s s1 s2 a b = record {
  missed = a.missed + b.missed;
  misses = misses_follow a.missed b.missed m.misses m1.misses m2.misses a.misses b.misses;
  fewer = omega (arith, a.fewer, b.fewer);
  has = λ p h. b.has p (a.has p h);
}

pub payments_follow : PaymentsFollow
payments_follow f g m m1 m2 s s1 s2 a b = record {
  missed = a.missed + b.missed;
  misses = misses_follow a.missed b.missed m.misses m1.misses m2.misses a.misses b.misses;
  counts = λ t h. omega (arith, a.counts t h, b.counts (f t) (a.has t h));
  has = λ t h. b.has (f t) (a.has t h);
}

pub nothing_tried : NothingIsTried
nothing_tried x m m' s s' e k = record {
  missed = 0;
  misses = no_misses m.misses m'.misses e;
  fewer = let less : to_miss s' x ≤ to_miss s x = (filled_stay s s' (record { system = []; processes = [] }) k).fewer x in omega (arith, less);
  has = λ p h. (filled_stay s s' p k).has h;
}

pub nothing_paid : NothingIsPaid
nothing_paid m m' s s' e k = record {
  missed = 0;
  misses = no_misses m.misses m'.misses e;
  counts = λ t h. omega arith;
  has = λ t h. (filled_stay s s' t.present k).has h;
}

pub fills_tries : FillsAreTries
fills_tries memory page x seen m m' s s' f known covered touched empty fills once =
    let kept : KeepsFilled s s' = fills_keep seen (own_number s page) s s' fills in
    let inside : own_number s page < all_entries = number_small s.slot page (slot_small memory s f) covered in
    let less : to_miss s' x + 1 ≤ to_miss s x = one_filled x s s' page seen touched (ap is_some empty) (omega (arith, inside, known.whole)) fills in
    record {
      missed = 1;
      misses = once;
      fewer = omega (arith, less);
      has = λ p h. (filled_stay s s' p kept).has h;
    }

pub steps_paid : StepsArePaid
steps_paid memory x g m m1 m' s s1 s' f a b = record {
  missed = a.missed + b.last;
  misses = misses_follow a.missed b.last m.misses m1.misses m'.misses a.misses b.misses;
  counts = λ t h.
      let counted : t.count + to_miss s x.touched ≤ (after_touches x.touched t).count = touches_counted memory s x.touched t f h in
      let tried : a.missed + to_miss s1 x.touched ≤ to_miss s x.touched = a.fewer in
      let last : b.last ≤ to_miss s1 x.touched = b.within in
      omega (arith, counted, tried, last);
  has = λ t h. steps_keep b.memory s1 g x t s' b.keeps b.serves b.found b.moves (a.has t.present h);
}

pub touches_follow : TouchesFollow
touches_follow zero b run t = let e : zero + b ≡ b = omega arith in ap (λ (n : ℕ). touching_steps n run.guest t) e
touches_follow (suc a) b run t = let e : suc a + b ≡ suc (a + b) = omega arith in ap (λ (n : ℕ). touching_steps n run.guest t) e ∙ touches_follow a b (after_step run (step run.guest)) (touching_step run.guest (step run.guest) t)

pub nothing_owed : NothingIsOwed
nothing_owed memory x s t f all =
    let counted : t.count + to_miss s x ≤ (after_touches x t).count = touches_counted memory s x t f all in
    record { has = all; within = omega (arith, counted) }

pub tries_owed : TriesAreOwed
tries_owed owed x m m' s s' t a b = record { has = b.has t.present a.has; within = omega (arith, a.within, b.fewer) }

pub steps_settle : StepsSettle
steps_settle owed x g m m' s s' t a b = record {
  has = steps_keep b.memory s g x t s' b.keeps b.serves b.found b.moves a.has;
  counts =
      let within : t.count + owed + to_miss s x.touched ≤ (after_touches x.touched t).count = a.within in
      let last : b.last ≤ to_miss s x.touched = b.within in
      omega (arith, within, last);
}
