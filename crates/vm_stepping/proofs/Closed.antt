-- A page that was opened for an instruction is closed after it.
use Rattle.std.proofs.Common.{◌≡◌, ℕ, ◌/◌, ◌^◌, ◌⊎◌, inl, inr, ◌==◌, ◌||◌, Bool, true, false, not, List, [], ◌∷◌, filter, map, Option, None, refl, ap, ◌∙◌, sym, subst, if◌then◌else◌}
use Rattle.std.proofs.lemmas.Bool.{eq-eqb, or_from, or_parts}
use Rattle.vax_hw.specs.Machine.{Machine}
use Rattle.vax_hw.specs.declared.world.Exit.{Exit}
use Rattle.vax_hw.specs.declared.world.Exit.TheVariants.{Arithmetic, Budget, Denied, Emulate, Modify, NotValid, Refused}
use Rattle.vax_table.specs.Interaction.{IsIn}
use Rattle.vax_table.specs.Whole.{Act, Plain, Probes, Traps}
use Rattle.vm_stepping.specs.Guarded.{ClosesOne, ExitIsMet, IsCompleted, IsUnfinished, OnlyBoth}
use Rattle.vm_stepping.proofs.Completing.{guest_same, only_both, own_same}
use Rattle.vm_simulation_laws.specs.Runs.{MissesThere, Reaches}
use Rattle.vm_shadow.specs.Calls.{OnlyTables, unless_dropped}
use Rattle.vm_shadow.specs.Shadowed.{Keeps, Shadowed, is_opened, is_pending, is_read_from, mapped_frame, read_at, real_at}
use Rattle.vm_shadow.specs.StandsFor.{IsPresent, Serves, closed_for}
use Rattle.vm_shadow.specs.declared.source.Source.{Source}
use Rattle.vm_simulation_laws.specs.Laws.{IsUnfilled, Leaves, frames_claimed}
use Rattle.vm_simulation_laws.specs.Loaded.{HasGuestLoaded, as_run, frames_opened, guest_try}
use Rattle.vm_state.specs.Partition.{guest_of, partition_of}
use Rattle.vm_state.specs.State.{state_of}
use Rattle.vm_state.specs.Step as steps
use Rattle.vm_state.specs.Step.{trapped_in}
use Rattle.vm_state.specs.declared.guest_state.GuestState.{GuestState}
use Rattle.vm_simulation_laws.specs.Touched.{AreFilled, touches_now}

-- fewer are opened
less_by : (q : ℕ → Bool) (k x : ℕ) (xs : List ℕ) (t : Bool) → q x ≡ t → (x == k) ≡ false → is_opened k (filter q xs) ≡ false → is_opened k (if t then x ∷ filter q xs else filter q xs) ≡ false
less_by q k x xs true e n h = or_from (x == k) (is_opened k (filter q xs)) n h
less_by q k x xs false e n h = h

less_opened : (q : ℕ → Bool) (k : ℕ) (xs : List ℕ) → is_opened k xs ≡ false → is_opened k (filter q xs) ≡ false
less_opened q k [] e = refl
less_opened q k (x ∷ xs) e = let p = or_parts (x == k) (is_opened k xs) e in less_by q k x xs (q x) refl p.0 (less_opened q k xs p.1)

without_first : (n k : ℕ) (opened : List ℕ) → is_opened k opened ≡ false → is_opened k (closed_for n (n ∷ opened)) ≡ false
without_first n k opened e =
    let same : (n == n) ≡ true = eq-eqb n n refl in
    subst (λ b. is_opened k (if not b then n ∷ closed_for n opened else closed_for n opened) ≡ false) (sym same) (less_opened (λ j. not (j == n)) k opened e)

keeps_fewer : (pending : List ℕ) (n : ℕ) (opened : List ℕ) (memory : List ℕ) (s : Shadowed) → Keeps pending (closed_for n (n ∷ opened)) memory s → Keeps pending opened memory s
keeps_fewer pending n opened memory s k = record { fits = k.fits; remembers = k.remembers; entries = k.entries; guarded = λ i j h c o v x. k.guarded i j h c (without_first n j opened o) v x; writes = k.writes }

-- what was read from one of some frames is pending of them
pub pending_in : (f : ℕ) (xs : List ℕ) (x : Option Source) → IsIn f xs → is_read_from f x ≡ true → is_pending xs x ≡ true
pending_in f [] x i e = absurd i
pending_in f (y ∷ ys) x (inl same) e = let first : is_read_from y x ≡ true = subst (λ z. is_read_from z x ≡ true) same e in ap (λ b. b || is_pending ys x) first
pending_in f (y ∷ ys) x (inr i) e = or_right (is_read_from y x) (is_pending ys x) (pending_in f ys x i e)
  where
    or_right : (a b : Bool) → b ≡ true → (a || b) ≡ true
    or_right true b h = refl
    or_right false b h = h

pub mapped_in : (f : ℕ → ℕ) (x : ℕ) (xs : List ℕ) → IsIn x xs → IsIn (f x) (map f xs)
mapped_in f x [] i = absurd i
mapped_in f x (y ∷ ys) (inl same) = inl (ap f same)
mapped_in f x (y ∷ ys) (inr i) = inr (mapped_in f x ys i)

-- What an exit says depends on the guest and on what is recorded of entries alone.
present_same : (memory after : List ℕ) (g : GuestState) (page : ℕ) → guest_of after g ≡ guest_of memory g → IsPresent (guest_of after g) page → IsPresent (guest_of memory g) page
present_same memory after g page e p = subst (λ h. IsPresent h page) e p

unfilled_same : (act : Act) (memory after : List ℕ) (s : Shadowed) (g : GuestState) → guest_of after g ≡ guest_of memory g → IsUnfilled act memory s g → IsUnfilled act after s g
unfilled_same (Plain f) memory after s g e k = tt
unfilled_same (Traps t) memory after s g e k = tt
unfilled_same (Probes i o) memory after s g e k = λ p q. k (present_same memory after g _ e p) (present_same memory after g _ e q)

tells_same : (x : Exit) (memory after : List ℕ) (s : Shadowed) (g : GuestState) → guest_of after g ≡ guest_of memory g → ExitIsMet x memory s g → ExitIsMet x after s g
tells_same Budget memory after s g e k = k
tells_same (Arithmetic kind) memory after s g e k = k
tells_same (NotValid va write) memory after s g e k = record {
  small = k.small;
  fault = λ c h. ap guest_try e ∙ k.fault c ((λ i. Rattle.vm_shadow.specs.Laws.guest_place (Rattle.vm_state.specs.Translation.walk_of (sym e i) va (Rattle.vax_arch.specs.Fields.current_of g.psl.0) (Rattle.vax_table.specs.Troubles.intent_of write))) ∙ h);
  empty = λ pa h. k.empty pa ((λ i. Rattle.vm_shadow.specs.Laws.guest_place (Rattle.vm_state.specs.Translation.walk_of (sym e i) va (Rattle.vax_arch.specs.Fields.current_of g.psl.0) (Rattle.vax_table.specs.Troubles.intent_of write))) ∙ h);
}
tells_same (Denied va write) memory after s g e k = record {
  small = k.small;
  cause = k.cause;
  none = (λ i. Rattle.vm_shadow.specs.Laws.guest_place (Rattle.vm_state.specs.Translation.walk_of (e i) va (Rattle.vax_arch.specs.Fields.current_of g.psl.0) (Rattle.vax_table.specs.Troubles.intent_of write))) ∙ k.none;
  try = ap guest_try e ∙ k.try;
}
tells_same (Modify va) memory after s g e k = (k.0, ap guest_try e ∙ k.1)
tells_same (Emulate t) memory after s g e k = record { opcode = k.opcode; act = k.act; is = k.is; try = ap guest_try e ∙ k.try; unfilled = unfilled_same k.act memory after s g e k.unfilled }
tells_same (Refused r) memory after s g e k = ap guest_try e ∙ k

filled_same : (memory after : List ℕ) (s : Shadowed) (g : GuestState) → guest_of after g ≡ guest_of memory g → AreFilled s (touches_now (guest_of memory g)).found → AreFilled s (touches_now (guest_of after g)).found
filled_same memory after s g e k = subst (λ h. AreFilled s (touches_now h).found) (sym e) k

reaches_same : (x : Exit) (memory after : List ℕ) (s : Shadowed) (g : GuestState) → guest_of after g ≡ guest_of memory g → Reaches x memory s g → Reaches x after s g
reaches_same Budget memory after s g e k = k
reaches_same (Arithmetic kind) memory after s g e k = k
reaches_same (NotValid va write) memory after s g e k = (
  subst (MissesThere va s) (sym e) k.0,
  λ needs. filled_same memory after s g e (k.1 (needs.0, (λ i. Rattle.vm_shadow.specs.Laws.guest_place (Rattle.vm_state.specs.Translation.walk_of (sym e i) va (Rattle.vax_arch.specs.Fields.current_of g.psl.0) (Rattle.vax_table.specs.Troubles.intent_of write))) ∙ needs.1)),
)
reaches_same (Denied va write) memory after s g e k = filled_same memory after s g e k
reaches_same (Modify va) memory after s g e k = filled_same memory after s g e k
reaches_same (Emulate t) memory after s g e k = filled_same memory after s g e k
reaches_same (Refused r) memory after s g e k = filled_same memory after s g e k

module _ (n f : ℕ) (opened : List ℕ) (m m3 m4 : Machine) (s s3 s4 : Shadowed) (g : GuestState) (v : Serves g s) where
  -- the guest is served still
  serves_by : (w : List Bool) (r : List (Option Source)) (c : List Bool) → s3 ≡ record s { reads = r; consulted = c; writable = w } → Serves g s3
  serves_by w r c e = record { pages = ap (λ (x : Shadowed). x.pages) e ∙ v.pages; base = ap (λ (x : Shadowed). x.base) e ∙ v.base; told = ap (λ (x : Shadowed). x.told) e ∙ v.told }

  tables_both : s3.at ≡ s.at → OnlyTables s3.at m3 m4 → OnlyBoth s m.memory m3.memory → OnlyBoth s m.memory m4.memory
  tables_both at t o = let u = only_both s m3 m4 (subst (λ x. OnlyTables x m3 m4) at t) in record { size = u.size ∙ o.size; other = λ p h k. u.other p h k ∙ o.other p h k }

  dropped_by : (j : ℕ) (claimed : List ℕ) → IsIn f claimed → (b : Bool) → is_read_from f (read_at s3 j) ≡ b → read_at s4 j ≡ unless_dropped b (read_at s3 j) → (read_at s3 j ≡ read_at s j) ⊎ ((read_at s3 j ≡ None) × (is_pending claimed (read_at s j) ≡ true)) → (read_at s4 j ≡ read_at s j) ⊎ ((read_at s4 j ≡ None) × (is_pending claimed (read_at s j) ≡ true))
  dropped_by j claimed i true e d (inl same) = inr (d, pending_in f claimed (read_at s j) i (subst (λ x. is_read_from f x ≡ true) same e))
  dropped_by j claimed i true e d (inr gone) = inr (d, gone.1)
  dropped_by j claimed i false e d (inl same) = inl (d ∙ same)
  dropped_by j claimed i false e d (inr gone) = inr (d ∙ gone.0, gone.1)

  pub completed_closed : (trap : Option ℕ) → f ≡ mapped_frame s (real_at m.memory s n) → IsIn f (frames_claimed (guest_of m.memory g)) → IsCompleted (n ∷ opened) m s g trap m3 s3 → ClosesOne n f true m3 s3 m4 s4 → IsCompleted opened m s g trap m4 s4
  completed_closed trap is claimed k c =
      let world : m4.world ≡ m3.world = ap (λ (x : Machine). x.world) c.only.rest in
      let v3 = serves_by s3.writable s3.reads s3.consulted k.rest in
      let own : partition_of m4.memory g ≡ partition_of m3.memory g = own_same m3 m4 s3 g k.keeps.fits v3 c.only in
      let at : s4.at ≡ s3.at = ap (λ (x : Shadowed). x.at) c.drops.rest in
      let slot : s4.slot ≡ s3.slot = ap (λ (x : Shadowed). x.slot) c.drops.rest in
      let guest : guest_of m4.memory (as_run m4.world g) ≡ guest_of m3.memory (as_run m3.world g) = λ i. record { memory = own i; state = state_of (as_run (world i) g) } in
      record {
        term = k.term;
        plain = k.plain ∙ ap (λ h. trapped_in (steps.Plain k.term) (frames_claimed (guest_of m.memory g)) h trap) (sym guest);
        leaves = subst (λ h. Leaves (guest_of m.memory g) h trap) (sym guest) k.leaves;
        keeps = keeps_fewer (frames_opened m.memory s opened) n opened m4.memory s4 (c.keeps (frames_opened m.memory s opened) (n ∷ opened) (subst (λ x. Keeps (x ∷ frames_opened m.memory s opened) (n ∷ opened) m3.memory s3) (sym is) k.keeps));
        loads = subst (λ x. HasGuestLoaded x s4 (as_run x g)) (sym world) (record { r = k.loads.r; psl = k.loads.psl; current = k.loads.current; previous = k.loads.previous; tables = k.loads.tables ∙ (λ i. Rattle.vm_shadow.specs.Layout.real_tables (sym at i) (sym slot i)) });
        high = ap (λ x. (as_run x g).psl.0 / 2 ^ 8) world ∙ k.high;
        each = λ j. dropped_by j (frames_claimed (guest_of m.memory g)) claimed (is_read_from f (read_at s3 j)) refl (c.drops.each j) (k.each j);
        rest = c.drops.rest ∙ ap (λ (x : Shadowed). record x { reads = s4.reads; consulted = s4.consulted }) k.rest ∙ (λ i. record s { reads = s4.reads; consulted = s4.consulted; writable = (sym c.drops.rest i).writable });
        only = tables_both (ap (λ (x : Shadowed). x.at) k.rest) c.only k.only;
        retired = ap (λ (x : Machine). x.retired) c.only.rest ∙ k.retired;
        trail = ap (λ (x : Machine). x.trail) c.only.rest ∙ k.trail;
        misses = ap (λ (x : Machine). x.misses) c.only.rest ∙ k.misses;
        found = k.found;
      }

  pub unfinished_closed : (e : Exit) → IsUnfinished (n ∷ opened) m s g e m3 s3 → ClosesOne n f false m3 s3 m4 s4 → IsUnfinished opened m s g e m4 s4
  unfinished_closed e k c =
      let v3 = serves_by s3.writable s.reads s.consulted k.rest in
      let own : partition_of m4.memory g ≡ partition_of m3.memory g = own_same m3 m4 s3 g k.keeps.fits v3 c.only in
      let whole = guest_same m3 m4 g own in
      let closed : Keeps [] opened m4.memory s4 = keeps_fewer [] n opened m4.memory s4 (c.keeps [] (n ∷ opened) k.keeps) in
      record {
        keeps = closed;
        own = own ∙ k.own;
        machine = c.only.rest ∙ ap (λ (x : Machine). record x { memory = m4.memory }) k.machine;
        rest = c.drops ∙ k.rest ∙ (λ i. record s { writable = (sym c.drops i).writable });
        only = tables_both (ap (λ (x : Shadowed). x.at) k.rest) c.only k.only;
        tells = subst (λ x. ExitIsMet e m4.memory x g) (sym c.drops) (tells_same e m3.memory m4.memory s3 g whole k.tells);
        reaches = subst (λ x. Reaches e m4.memory x g) (sym c.drops) (reaches_same e m3.memory m4.memory s3 g whole k.reaches);
      }
