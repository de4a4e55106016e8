-- One register more is popped, or passed over.
use Rattle.std.proofs.Common.{◌≡◌, ℕ, suc, ◌+◌, ◌-◌, ◌<◌, true, false, [], ◌∷◌, Ok, Err, refl, arith}
use Rattle.vv_base.specs.Bits.{is_set}
use Rattle.vax_table.specs.declared.evaluation.Place.{Place}
use Rattle.vax_table.specs.Interaction.{Space, Trouble, outcome}
use Rattle.vax_table.specs.Stack.{named_up, pop, pop_all}
use Rattle.vax_table.proofs.Scripts.{outcome-bind}

named : (k n mask : ℕ) → is_set mask n ≡ true → named_up (suc k) n mask ≡ n ∷ named_up k (n + 1) mask
unfolding named_up
named k n mask e = rw e refl

passed : (k n mask : ℕ) → is_set mask n ≡ false → named_up (suc k) n mask ≡ named_up k (n + 1) mask
unfolding named_up
passed k n mask e = rw e refl

-- what is left after register n
pub pops_next : (s : Space) (count n mask : ℕ) (p q : Place) → n < count → is_set mask n ≡ true → Ok q ≡ outcome s (pop n p) →
    outcome s (pop_all (named_up (count - (n + 1)) (n + 1) mask) q) ≡ outcome s (pop_all (named_up (count - n) n mask) p)
pops_next s count n mask p q h e is =
    let more : count - n ≡ suc (count - (n + 1)) = omega arith in
    rw (more, named _ n mask e, outcome-bind, ← is) refl

pub pops_past : (s : Space) (count n mask : ℕ) (p : Place) → n < count → is_set mask n ≡ false →
    outcome s (pop_all (named_up (count - (n + 1)) (n + 1) mask) p) ≡ outcome s (pop_all (named_up (count - n) n mask) p)
pops_past s count n mask p h e =
    let more : count - n ≡ suc (count - (n + 1)) = omega arith in
    rw (more, passed _ n mask e) refl

-- a register that has trouble
pub pops_stop : (s : Space) (count n mask : ℕ) (p : Place) (t : Trouble) → n < count → is_set mask n ≡ true → Err t ≡ outcome s (pop n p) →
    Err t ≡ outcome s (pop_all (named_up (count - n) n mask) p)
pops_stop s count n mask p t h e is =
    let more : count - n ≡ suc (count - (n + 1)) = omega arith in
    rw (more, named _ n mask e, outcome-bind, ← is) refl

pub nothing_left : (count n mask : ℕ) → count - n ≡ 0 → named_up (count - n) n mask ≡ []
unfolding named_up
nothing_left count n mask e = rw e refl

pub ruleset pops = (pops_next, pops_past, pops_stop, nothing_left, outcome-bind)
