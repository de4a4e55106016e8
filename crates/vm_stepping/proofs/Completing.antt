-- One instruction of a guest, tried by the machine, and tried again when a page is made writable.
use Rattle.std.proofs.Common.{◌≡◌, ℕ, ◌+◌, ◌-◌, ◌*◌, ◌%◌, ◌^◌, ◌<◌, ◌≤◌, ◌⊎◌, inl, inr, Bool, true, false, List, [], ◌∷◌, Option, Some, None, is_some, Result, Ok, Err, refl, ap, ◌∙◌, sym, subst, arith, if◌then◌else◌}
use Rattle.std.proofs.lemmas.Bool.{cases_eq}
use Rattle.vax_arch.specs.Fields.{frame_of, is_modified}
use Rattle.vax_arch.specs.Walk.{page_of, with_modify}
use Rattle.vax_hw.specs.Machine.{Machine}
use Rattle.vax_hw.specs.Real.{Retired, unless_trapped, going_on, misses_after, machine_step, real}
use Rattle.vax_hw.specs.declared.world.Exit.{Exit}
use Rattle.vax_hw.specs.declared.world.Exit.TheVariants.{Arithmetic, Budget, Denied, Emulate, Modify, NotValid, Refused}
use Rattle.vm_exception.specs.Standing.{standing}
use Rattle.vm_stepping.specs.Guarded.{ExitIsMet, GrantsOrOpens, IsCompleted, IsTried, IsUnfinished, OnlyBoth, opened_by}
use Rattle.vax_table.specs.Interaction.{IsIn}
use Rattle.vm_simulation_laws.specs.Runs.{Reaches}
use Rattle.vm_simulation_laws.proofs.Running.{reached_by}
use Rattle.vm_shadow.specs.Calls.{OnlyTables}
use Rattle.vm_shadow.specs.Shadowed.{Fits, Keeps, Shadowed, is_pending, mapped_frame, read_at, real_at}
use Rattle.vm_shadow.specs.StandsFor.{Serves, own_number}
use Rattle.vm_shadow.proofs.Filling.{byte_apart, own_apart}
use Rattle.vm_simulation_laws.specs.Laws.{IsRetired, IsUnwritten, Leaves, Meets, frames_claimed}
use Rattle.vm_simulation_laws.specs.Loaded.{HasGuestLoaded, RunsGuest, as_run, frames_opened, guest_try}
use Rattle.vm_simulation_laws.proofs.Meeting.{exits_meet}
use Rattle.vm_simulation_laws.proofs.Retiring.{retires}
use Rattle.vm_state.specs.Partition.{guest_of, part, partition_of}
use Rattle.vm_state.specs.State.{state_of}
use Rattle.vm_state.specs.Step as steps
use Rattle.vm_state.specs.Step.{by_try, trapped_in}
use Rattle.vm_state.specs.declared.guest_state.GuestState.{GuestState}
use Rattle.vm_simulation_laws.specs.Touched.{touches_now}
use Rattle.vm_simulation_laws.proofs.Touching.{retired_filled}

pub split : {A B C : Type 0} → A ⊎ B → (A → C) → (B → C) → C
split (inl a) f g = f a
split (inr b) f g = g b

-- The first try.

both_same : (s : Shadowed) (memory : List ℕ) → OnlyBoth s memory memory
both_same s memory = record { size = refl; other = λ p h k. refl }

module _ (opened : List ℕ) (m : Machine) (s : Shadowed) (g : GuestState) (k : RunsGuest opened m s g) where
  completes : (x : Retired) → IsRetired opened m s g x → machine_step m ≡ Ok x → IsCompleted opened m s g x.trap x.machine s
  completes x r e = record {
    term = r.term;
    plain = r.plain;
    leaves = r.leaves;
    keeps = r.keeps;
    loads = r.loads;
    high = r.high;
    each = λ n. inl refl;
    rest = refl;
    only = record { size = r.only.size; other = λ p h j. r.only.other p (here p h) };
    retired = r.retired;
    trail = r.trail;
    misses = r.misses;
    found = (retired_filled opened m s g x k e).found;
  }
    where
      here : (p : ℕ) → (p < 512 * s.base) ⊎ (512 * (s.base + s.pages) ≤ p) → (p < 512 * g.base) ⊎ (512 * (g.base + g.pages) ≤ p)
      here p (inl h) = inl (omega (arith, h, k.serves.base))
      here p (inr h) = inr (omega (arith, h, k.serves.base, k.serves.pages))

  pub stops : (e : Exit) → ExitIsMet e m.memory s g → Reaches e m.memory s g → IsUnfinished opened m s g e (record m { misses = misses_after m.misses e }) s
  stops e t reaches = record { keeps = k.keeps; own = refl; machine = refl; rest = refl; only = both_same s m.memory; tells = t; reaches = reaches }

  -- of an exit but Modify
  abbrev First : Machine × Exit → Type 0
  First z = ((va : ℕ) → z.1 ≡ Modify va → ⊥) → IsTried z.1 opened (standing m s g) z.0 s

  by_exit : (e : Exit) → machine_step m ≡ Err e → Meets e m.memory s g → First (record m { misses = misses_after m.misses e }, e)
  by_exit Budget is t other = absurd t
  by_exit (Arithmetic kind) is t other = absurd t
  by_exit (NotValid va write) is t other = stops (NotValid va write) t (reached_by opened (NotValid va write) m s g k is t)
  by_exit (Denied va write) is t other = stops (Denied va write) t (reached_by opened (Denied va write) m s g k is t)
  by_exit (Modify va) is t other = absurd (other va refl)
  by_exit (Emulate trap) is t other = stops (Emulate trap) t (reached_by opened (Emulate trap) m s g k is t)
  by_exit (Refused r) is t other = stops (Refused r) t (reached_by opened (Refused r) m s g k is t)

  by_trap : (x : Retired) (t : Option ℕ) → IsCompleted opened m s g t x.machine s → First (unless_trapped (real 0) x.machine t)
  by_trap x None c other = c
  by_trap x (Some kind) c other = c

  first_by : (y : Result Retired Exit) → machine_step m ≡ y → First (going_on (real 0) m y)
  first_by (Ok x) e = by_trap x x.trap (completes x (retires opened m s g x k e) e)
  first_by (Err e) is = by_exit e is (exits_meet opened m s g e k is)

  pub first_try : (m1 : Machine) (e : Exit) → (m1, e) ≡ real 1 m → ((va : ℕ) → e ≡ Modify va → ⊥) → IsTried e opened (standing m s g) m1 s
  first_try m1 e is other = subst First (sym is) (first_by (machine_step m) refl) other

  -- of Modify
  abbrev Met : Machine × Exit → Type 0
  Met z = (va : ℕ) → z.1 ≡ Modify va → (z.0 ≡ m) × IsUnwritten va m.memory s g × Reaches (Modify va) m.memory s g

  met_exit : (e : Exit) → machine_step m ≡ Err e → Meets e m.memory s g → Met (record m { misses = misses_after m.misses e }, e)
  met_exit Budget o t va is = absurd t
  met_exit (Arithmetic kind) o t va is = absurd t
  met_exit (NotValid a write) o t va is = cc
  met_exit (Denied a write) o t va is = cc
  met_exit (Modify a) o t va is = let same : a ≡ va = cc in (refl, subst (λ x. IsUnwritten x m.memory s g) same t, reached_by opened (Modify a) m s g k o t)
  met_exit (Emulate trap) o t va is = cc
  met_exit (Refused r) o t va is = cc

  met_trap : (x : Retired) (t : Option ℕ) → Met (unless_trapped (real 0) x.machine t)
  met_trap x None va is = cc
  met_trap x (Some kind) va is = cc

  met_by : (y : Result Retired Exit) → machine_step m ≡ y → Met (going_on (real 0) m y)
  met_by (Ok x) e = met_trap x x.trap
  met_by (Err e) is = met_exit e is (exits_meet opened m s g e k is)

  pub unwritten : (m1 : Machine) (e : Exit) (va : ℕ) → (m1, e) ≡ real 1 m → e ≡ Modify va → (m1 ≡ m) × IsUnwritten va m.memory s g × Reaches (Modify va) m.memory s g
  unwritten m1 e va is modify = subst Met (sym is) (met_by (machine_step m) refl) va modify

-- A page that is made writable, or closed, changes the real tables alone.
pub only_both : (s : Shadowed) (m m2 : Machine) → OnlyTables s.at m m2 → OnlyBoth s m.memory m2.memory
only_both s m m2 only = record {
  size = only.tables.size;
  other = λ p h k. byte_apart (512 * s.at) (512 * 580) m.memory m2.memory p only.tables (split k (λ x. inl x) (λ x. inr (omega arith)));
}

pub own_same : (m m2 : Machine) (s : Shadowed) (g : GuestState) → Fits m.memory s → Serves g s → OnlyTables s.at m m2 → partition_of m2.memory g ≡ partition_of m.memory g
own_same m m2 s g f v only =
    let at : (memory : List ℕ) → partition_of memory g ≡ part memory (512 * s.base) (512 * s.pages) = λ memory i. part memory (512 * sym v.base i) (512 * sym v.pages i) in
    at m2.memory ∙ own_apart m.memory m2.memory s f only.tables ∙ sym (at m.memory)

pub record IsAlike (m : Machine) (s : Shadowed) (g : GuestState) (m2 : Machine) (s2 : Shadowed) : Type 0 where
  pub own : partition_of m2.memory g ≡ partition_of m.memory g
  pub machine : m2 ≡ record m { memory = m2.memory }
  pub rest : s2 ≡ record s { writable = s2.writable }
  pub only : OnlyBoth s m.memory m2.memory
  pub frames : (opened : List ℕ) → frames_opened m2.memory s2 opened ≡ frames_opened m.memory s opened

frame_modify : (x : ℕ) → frame_of (with_modify x) ≡ frame_of x
frame_modify x = by (is_modified x) refl
  where
    more : (x : ℕ) → frame_of (x + 2 ^ 26) ≡ frame_of x
    more x = omega arith

    by : (b : Bool) → is_modified x ≡ b → frame_of (if b then x else x + 2 ^ 26) ≡ frame_of x
    by true e = refl
    by false e = more x

module _ (va : ℕ) (m m2 : Machine) (s s2 : Shadowed) (g : GuestState) (frame : Option ℕ) (f : Fits m.memory s) (v : Serves g s) (a : GrantsOrOpens va m s frame m2 s2) where
  abbrev entry_here : ℕ
  entry_here = own_number s (page_of va)

  pub at_same : s2.at ≡ s.at
  at_same = ap (λ (x : Shadowed). x.at) a.rest

  pub slot_same : s2.slot ≡ s.slot
  slot_same = ap (λ (x : Shadowed). x.slot) a.rest

  base_same : s2.base ≡ s.base
  base_same = ap (λ (x : Shadowed). x.base) a.rest

  -- what every entry maps stays
  pub maps_same : (k : ℕ) → mapped_frame s2 (real_at m2.memory s2 k) ≡ mapped_frame s (real_at m.memory s k)
  maps_same k =
      let there : mapped_frame s2 (real_at m2.memory s2 k) ≡ mapped_frame s (real_at m2.memory s k) = λ i. mapped_frame (record s { base = base_same i }) (real_at m2.memory (record s { at = at_same i }) k) in
      there ∙ split (cases_eq k entry_here)
      (λ e. ap (λ j. mapped_frame s (real_at m2.memory s j)) e ∙ ap (λ x. frame_of x - s.base) a.entry ∙ ap (λ x. x - s.base) (frame_modify (real_at m.memory s entry_here)) ∙ ap (λ j. mapped_frame s (real_at m.memory s j)) (sym e))
      (λ n. ap (mapped_frame s) (a.others k n))

  pub frames_same : (opened : List ℕ) → frames_opened m2.memory s2 opened ≡ frames_opened m.memory s opened
  frames_same [] = refl
  frames_same (k ∷ ks) = λ i. maps_same k i ∷ frames_same ks i

  pub alike : IsAlike m s g m2 s2
  alike = record {
    own = own_same m m2 s g f v a.only;
    machine = a.only.rest;
    rest = a.rest;
    only = only_both s m m2 a.only;
    frames = frames_same;
  }

  pub serves_again : Serves g s2
  serves_again = record {
    pages = ap (λ (x : Shadowed). x.pages) a.rest ∙ v.pages;
    base = base_same ∙ v.base;
    told = ap (λ (x : Shadowed). x.told) a.rest ∙ v.told;
  }

  pub runs_again : (opened : List ℕ) → RunsGuest opened m s g → RunsGuest (opened_by frame entry_here opened) m2 s2 g
  runs_again opened k =
      let w : m2.world ≡ m.world = ap (λ (x : Machine). x.world) a.only.rest in
      let l = k.loads in
      record {
        keeps = a.keeps opened k.keeps;
        serves = serves_again;
        loads = subst (λ x. HasGuestLoaded x s2 g) (sym w) (record { r = l.r; psl = l.psl; current = l.current; previous = l.previous; tables = l.tables ∙ (λ i. Rattle.vm_shadow.specs.Layout.real_tables (sym at_same i) (sym slot_same i)) });
      }

-- An instruction is tried after that: its outcome is the one from before.
pub guest_same : (m m2 : Machine) (g : GuestState) → partition_of m2.memory g ≡ partition_of m.memory g → guest_of m2.memory g ≡ guest_of m.memory g
guest_same m m2 g e = λ i. record { memory = e i; state = state_of g }

same_reads : (s s2 : Shadowed) (w : List Bool) → s2 ≡ record s { writable = w } → (n : ℕ) → read_at s2 n ≡ read_at s n
same_reads s s2 w e n = ap (λ (x : Shadowed). read_at x n) e

pub then_both : (m : List ℕ) (m2 m3 : List ℕ) (s s2 : Shadowed) (w : List Bool) → s2 ≡ record s { writable = w } → OnlyBoth s m m2 → OnlyBoth s2 m2 m3 → OnlyBoth s m m3
then_both m m2 m3 s s2 w e p q =
    let r : OnlyBoth s m2 m3 = record { size = q.size; other = λ x h k. q.other x (there x h) (tables x k) } in
    record { size = q.size ∙ p.size; other = λ x h k. r.other x h k ∙ p.other x h k }
  where
    base : s2.base ≡ s.base
    base = ap (λ (x : Shadowed). x.base) e

    pages : s2.pages ≡ s.pages
    pages = ap (λ (x : Shadowed). x.pages) e

    at : s2.at ≡ s.at
    at = ap (λ (x : Shadowed). x.at) e

    there : (p : ℕ) → (p < 512 * s.base) ⊎ (512 * (s.base + s.pages) ≤ p) → (p < 512 * s2.base) ⊎ (512 * (s2.base + s2.pages) ≤ p)
    there p (inl h) = inl (omega (arith, h, base))
    there p (inr h) = inr (omega (arith, h, base, pages))

    tables : (p : ℕ) → (p < 512 * s.at) ⊎ (512 * (s.at + 580) ≤ p) → (p < 512 * s2.at) ⊎ (512 * (s2.at + 580) ≤ p)
    tables p (inl h) = inl (omega (arith, h, at))
    tables p (inr h) = inr (omega (arith, h, at))

module _ (m : Machine) (s : Shadowed) (g : GuestState) (m2 : Machine) (s2 : Shadowed) (a : IsAlike m s g m2 s2) (m3 : Machine) (s3 : Shadowed) where
  whole_same : guest_of m2.memory g ≡ guest_of m.memory g
  whole_same = guest_same m m2 g a.own

  completed_from : (opened : List ℕ) (trap : Option ℕ) → IsCompleted opened m2 s2 g trap m3 s3 → IsCompleted opened m s g trap m3 s3
  completed_from opened trap k = record {
    term = k.term;
    plain = subst (λ h. by_try h (guest_try h) ≡ trapped_in (steps.Plain k.term) (frames_claimed h) (guest_of m3.memory (as_run m3.world g)) trap) whole_same k.plain;
    leaves = subst (λ h. Leaves h (guest_of m3.memory (as_run m3.world g)) trap) whole_same k.leaves;
    keeps = subst (λ x. Keeps x opened m3.memory s3) (a.frames opened) k.keeps;
    loads = k.loads;
    high = k.high;
    each = λ n. subst (λ x. (read_at s3 n ≡ x) ⊎ ((read_at s3 n ≡ None) × (is_pending (frames_claimed (guest_of m.memory g)) x ≡ true))) (same_reads s s2 s2.writable a.rest n)
        (subst (λ h. (read_at s3 n ≡ read_at s2 n) ⊎ ((read_at s3 n ≡ None) × (is_pending (frames_claimed h) (read_at s2 n) ≡ true))) whole_same (k.each n));
    rest = k.rest ∙ ap (λ (x : Shadowed). record x { reads = s3.reads; consulted = s3.consulted; writable = s3.writable }) a.rest;
    only = then_both m.memory m2.memory m3.memory s s2 s2.writable a.rest a.only k.only;
    retired = k.retired ∙ ap (λ (x : Machine). (x.retired + 1) % 2 ^ 64) a.machine;
    trail = k.trail ∙ ap (λ (x : Machine). (x.trail + k.term) % 2 ^ 64) a.machine;
    misses = k.misses ∙ ap (λ (x : Machine). x.misses) a.machine;
    found = λ page j. sym (ap (λ (x : Shadowed). is_some (read_at x (own_number x page))) a.rest) ∙ k.found page (subst (λ h. IsIn page (touches_now h).found) (sym whole_same) j);
  }

  unfinished_from : (opened : List ℕ) (e : Exit) → IsUnfinished opened m2 s2 g e m3 s3 → IsUnfinished opened m s g e m3 s3
  unfinished_from opened e k = record {
    keeps = k.keeps;
    own = k.own ∙ a.own;
    machine = k.machine ∙ ap (λ (x : Machine). record x { memory = m3.memory; misses = misses_after x.misses e }) a.machine;
    rest = k.rest ∙ ap (λ (x : Shadowed). record x { writable = s3.writable }) a.rest;
    only = then_both m.memory m2.memory m3.memory s s2 s2.writable a.rest a.only k.only;
    tells = k.tells;
    reaches = k.reaches;
  }

  pub tried_from : (opened : List ℕ) (e : Exit) → IsTried e opened (standing m2 s2 g) m3 s3 → IsTried e opened (standing m s g) m3 s3
  tried_from opened Budget k = completed_from opened None k
  tried_from opened (Arithmetic kind) k = completed_from opened (Some kind) k
  tried_from opened (NotValid va write) k = unfinished_from opened (NotValid va write) k
  tried_from opened (Denied va write) k = unfinished_from opened (Denied va write) k
  tried_from opened (Modify va) k = unfinished_from opened (Modify va) k
  tried_from opened (Emulate t) k = unfinished_from opened (Emulate t) k
  tried_from opened (Refused r) k = unfinished_from opened (Refused r) k
