-- Misses of slices one after another, and of a whole round.
use Rattle.std.proofs.Common.{ℕ, zero, suc, ◌≡◌, ◌+◌, ◌%◌, ◌^◌, List, [], ◌∷◌, ◌++◌, length, Option, Some, None, slice_get, refl, ◌∙◌, ap, subst, arith}
use Rattle.std.proofs.lemmas.List.Sums.{sum_by-cons}
use Rattle.vax_hw.specs.Machine.{Machine}
use Rattle.sys_guests.specs.Present.{HavePresent, KeepsAll, PaysAll, counted_in}
use Rattle.sys_objects.specs.declared.records.Config.{Config}
use Rattle.sys_objects.specs.declared.records.GuestRow.{GuestRow}
use Rattle.sys_objects.specs.declared.records.Mount.{Mount}
use Rattle.sys_objects.specs.declared.records.Terminal.{Terminal}
use Rattle.sys_state.specs.Events.{happened}
use Rattle.sys_state.specs.FirstTouches.{event_starts, frames_by, touching_after_reset, touches_of_events, touches_of_queue, touches_of_transfers, with_reset}
use Rattle.sys_state.specs.Guests.{alone, with_no_queue}
use Rattle.sys_state.specs.Places.{changed}
use Rattle.sys_state.specs.SlicedTouches.{touches_of_slice, touches_of_slices}
use Rattle.sys_state.specs.Slices.{Slice, slices}
use Rattle.sys_state.specs.State.{SystemState}
use Rattle.sys_state.specs.Transfers.{move_of, packet_at, served, served_one}
use Rattle.sys_script.specs.declared.event.Event.{Event}
use Rattle.vm_guest.specs.Kept.{Kept}
use Rattle.vm_state.specs.State.{Guest}
use Rattle.vm_state.specs.Touches.{Touching, touching_write}

-- payments follow one another
misses_follow : (a b x y z : ℕ) → y % 2 ^ 64 ≡ (x + a) % 2 ^ 64 → z % 2 ^ 64 ≡ (y + b) % 2 ^ 64 → z % 2 ^ 64 ≡ (x + (a + b)) % 2 ^ 64
misses_follow a b x y z e f = grind arith

no_misses : (x y : ℕ) → y ≡ x → y % 2 ^ 64 ≡ (x + 0) % 2 ^ 64
no_misses x y e = ap (λ (n : ℕ). n % 2 ^ 64) (omega (arith, e))

pub pays_then : (f h : List Touching → List Touching) (m m1 m2 : Machine) (ks ks1 ks2 : List Kept) → PaysAll f m ks m1 ks1 → PaysAll h m1 ks1 m2 ks2 → PaysAll (λ ts. h (f ts)) m ks m2 ks2
pays_then f h m m1 m2 ks ks1 ks2 p q = record {
  missed = p.missed + q.missed;
  misses = misses_follow p.missed q.missed m.misses m1.misses m2.misses p.misses q.misses;
  counts = λ ts all. omega (arith, p.counts ts all, q.counts (f ts) (p.has ts all));
  has = λ ts all. q.has (f ts) (p.has ts all);
}

-- where nothing is missed and nothing is counted
pub pays_kept : (f : List Touching → List Touching) (m m' : Machine) (ks ks' : List Kept) → m'.misses ≡ m.misses → ((ts : List Touching) → HavePresent ks ts → counted_in (f ts) ≡ counted_in ts) → KeepsAll f ks ks' → PaysAll f m ks m' ks'
pays_kept f m m' ks ks' same counts keeps = record {
  missed = 0;
  misses = no_misses m.misses m'.misses same;
  counts = λ ts all. omega (arith, counts ts all);
  has = keeps;
}

-- the same in another form
pub pays_as : (f h : List Touching → List Touching) (m m' : Machine) (ks ks' : List Kept) → ((ts : List Touching) → HavePresent ks ts → f ts ≡ h ts) → PaysAll f m ks m' ks' → PaysAll h m ks m' ks'
pays_as f h m m' ks ks' same p = record {
  missed = p.missed;
  misses = p.misses;
  counts = λ ts all. let e : counted_in (f ts) ≡ counted_in (h ts) = ap counted_in (same ts all) in omega (arith, p.counts ts all, e);
  has = λ ts all. subst (HavePresent ks') (same ts all) (p.has ts all);
}

-- events count nothing
counted_set : (f : Touching → Touching) → ((t : Touching) → (f t).count ≡ t.count) → (ts : List Touching) (place : ℕ) → counted_in (changed f ts place) ≡ counted_in ts
counted_set f same [] place = refl
counted_set f same (t ∷ ts) zero =
    let before : counted_in (t ∷ ts) ≡ t.count + counted_in ts = sum_by-cons (λ (y : Touching). y.count) t ts in
    let after : counted_in (f t ∷ ts) ≡ (f t).count + counted_in ts = sum_by-cons (λ (y : Touching). y.count) (f t) ts in
    omega (arith, same t, before, after)
counted_set f same (t ∷ ts) (suc place) =
    let rest : counted_in (changed f ts place) ≡ counted_in ts = counted_set f same ts place in
    let before : counted_in (t ∷ ts) ≡ t.count + counted_in ts = sum_by-cons (λ (y : Touching). y.count) t ts in
    let after : counted_in (t ∷ changed f ts place) ≡ t.count + counted_in (changed f ts place) = sum_by-cons (λ (y : Touching). y.count) t (changed f ts place) in
    omega (arith, rest, before, after)

counted_reset : (o : Option Guest) (t : Touching) → (touching_after_reset o t).count ≡ t.count
counted_reset None t = refl
counted_reset (Some g) t = refl

counted_with : (o : Option ℕ) (gs : List Guest) (ts : List Touching) → counted_in (with_reset o gs ts) ≡ counted_in ts
counted_with None gs ts = refl
counted_with (Some g) gs ts = counted_set (touching_after_reset (slice_get gs g)) (counted_reset (slice_get gs g)) ts g

pub counted_events : (c : Config) (i : ℕ) (s : SystemState) (es : List Event) (ts : List Touching) → counted_in (touches_of_events c i s es ts) ≡ counted_in ts
counted_events c i s [] ts = refl
counted_events c i s (e ∷ es) ts =
    let after : SystemState = (happened c i s e).now in
    counted_events c i after es (with_reset (event_starts c s e) after.guests ts) ∙ counted_with (event_starts c s e) after.guests ts

-- and so do transfers
counted_queue : (c : Config) (row : GuestRow) (mounts : List (Option Mount)) (g : Guest) (queue : List ℕ) (volumes : List (List (List ℕ))) (t : Touching) → (touches_of_queue c row mounts g queue volumes t).count ≡ t.count
counted_queue c row mounts g [] volumes t = refl
counted_queue c row mounts g (at ∷ queue) volumes t =
    let p = packet_at g.memory at in
    let one = served_one c row mounts g at volumes in
    let written = frames_by at p (move_of (length g.memory) volumes mounts p) in
    counted_queue c row mounts one.guest queue one.volumes (record t { present = touching_write g written t.present })

pub counted_transfers : (c : Config) (rows : List GuestRow) (mounts : List (List (Option Mount))) (gs : List Guest) (volumes : List (List (List ℕ))) (ts : List Touching) → length mounts ≡ length rows → length gs ≡ length rows → length ts ≡ length gs → counted_in (touches_of_transfers c rows mounts gs volumes ts) ≡ counted_in ts
counted_transfers c [] mounts [] volumes [] u b l = refl
counted_transfers c [] mounts (g ∷ gs) volumes ts u b l = absurd (omega (arith, b))
counted_transfers c [] mounts [] volumes (t ∷ ts) u b l = absurd (omega (arith, l))
counted_transfers c (row ∷ rows) [] gs volumes ts u b l = absurd (omega (arith, u))
counted_transfers c (row ∷ rows) (ms ∷ mounts) [] volumes ts u b l = absurd (omega (arith, b))
counted_transfers c (row ∷ rows) (ms ∷ mounts) (g ∷ gs) volumes [] u b l = absurd (omega (arith, l))
counted_transfers c (row ∷ rows) (ms ∷ mounts) (g ∷ gs) volumes (t ∷ ts) u b l =
    let one = served c row ms (with_no_queue g) g.state.queue volumes in
    let first = touches_of_queue c row ms (with_no_queue g) g.state.queue volumes t in
    let later = touches_of_transfers c rows mounts gs one.volumes ts in
    let here : first.count ≡ t.count = counted_queue c row ms (with_no_queue g) g.state.queue volumes t in
    let rest : counted_in later ≡ counted_in ts = counted_transfers c rows mounts gs one.volumes ts (omega (arith, u)) (omega (arith, b)) (omega (arith, l)) in
    let before : counted_in (t ∷ ts) ≡ t.count + counted_in ts = sum_by-cons (λ (y : Touching). y.count) t ts in
    let after : counted_in (first ∷ later) ≡ first.count + counted_in later = sum_by-cons (λ (y : Touching). y.count) first later in
    omega (arith, here, rest, before, after)

-- one slice more
touched_more : (ks : List Terminal) (os : List (Option ℕ)) (xs : List Slice) (x : Slice) (gs : List Guest) (ts : List Touching) → touches_of_slice x (slices ks os xs gs).now (touches_of_slices xs gs ts) ≡ touches_of_slices (xs ++ x ∷ []) gs ts
touched_more ks os [] x gs ts = refl
touched_more ks os (y ∷ ys) x gs ts = touched_more ks os ys x (changed (λ g. (alone y.steps g).guest) gs y.guest) (touches_of_slice y gs ts)

pub pays_none : (gs : List Guest) (m : Machine) (ks : List Kept) → PaysAll (touches_of_slices [] gs) m ks m ks
pays_none gs m ks = pays_kept (λ ts. ts) m m ks ks refl (λ ts all. refl) (λ ts all. all)

pub pays_more : (ks : List Terminal) (os : List (Option ℕ)) (xs : List Slice) (x : Slice) (gs gs' : List Guest) (m m' m'' : Machine) (s s' s'' : List Kept) → gs' ≡ (slices ks os xs gs).now → PaysAll (touches_of_slices xs gs) m s m' s' → PaysAll (touches_of_slice x gs') m' s' m'' s'' → PaysAll (touches_of_slices (xs ++ x ∷ []) gs) m s m'' s''
pays_more ks os xs x gs gs' m m' m'' s s' s'' is p q =
    let next : PaysAll (touches_of_slice x (slices ks os xs gs).now) m' s' m'' s'' = subst (λ hs. PaysAll (touches_of_slice x hs) m' s' m'' s'') is q in
    pays_as (λ ts. touches_of_slice x (slices ks os xs gs).now (touches_of_slices xs gs ts)) (touches_of_slices (xs ++ x ∷ []) gs) m m'' s s'' (λ ts all. touched_more ks os xs x gs ts)
    (pays_then (touches_of_slices xs gs) (touches_of_slice x (slices ks os xs gs).now) m m' m'' s s' s'' p next)
