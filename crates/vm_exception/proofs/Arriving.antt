-- An exception is taken, or its stack or vector has trouble.
use Rattle.std.proofs.Common.{◌≡◌, ℕ, ◌+◌, ◌*◌, ◌<◌, ◌≤◌, Bool, true, false, List, length, Some, refl, ap, ◌∙◌, sym, subst, arith, cond}
use Rattle.std.proofs.lemmas.Bool.{le-ltb, lt-ltb}
use Rattle.vv_base.specs.Bytes.{long_at}
use Rattle.vax_arch.specs.Walk.{is_past}
use Rattle.vax_arch.specs.WalkLaws.{AreAligned}
use Rattle.vax_arch.specs.declared.mode.Mode.{Mode}
use Rattle.vax_hw.specs.Machine.{Machine}
use Rattle.vm_exception.specs.Attempted.{Attempts, IsAttempted, Stays}
use Rattle.vm_exception.specs.Standing.{standing}
use Rattle.vm_exception.specs.Initiated.{Initiates, InitiatesTo, IsProper}
use Rattle.vm_exception.specs.Wrote.{AreHomes, DropsAmong, Wrote}
use Rattle.vm_exception.specs.declared.attempts.Attempt.{Attempt}
use Rattle.vm_exception.specs.declared.attempts.Attempt.TheVariants as attempts
use Rattle.vm_exception.specs.declared.initiated.Initiated.TheVariants as outcomes
use Rattle.vm_exception.proofs.Homes.{homes_inside}
use Rattle.vm_shadow.specs.Shadowed.{CanBeShadowed, Shadowed, own}
use Rattle.vm_shadow.specs.StandsFor.{OnlyGuest, Serves, StandsFor}
use Rattle.vm_shadow.proofs.Contexts.{aligned_of}
use Rattle.vm_shadow.proofs.Covering.{own_is, own_length}
use Rattle.vm_state.specs.Allowed.{AreAllowed}
use Rattle.vm_state.specs.Initiate as initiations
use Rattle.vm_state.specs.Initiate.{Arrives, Halts, StackFaulty, StopsGuest, attempt, in_its_place, initiate, initiated, begun_at, after_walk, by_vector, is_bad_vector, longwords, new_mode, new_stack, uses_interrupt_stack, vector_offset}
use Rattle.vm_state.specs.Partition.{guest_of, partition_of}
use Rattle.vm_state.specs.Pushes.{Faulty, Home, Homes, PastMemory, Walked, frames_pushed, pointer_after, push_walked, pushed}
use Rattle.vm_state.specs.State.{Guest, HasPlace, State, pointer_of, state_of, tables_of}
use Rattle.vm_state.specs.Stops.{BadVector, stop_code}
use Rattle.vm_state.specs.Stops as stops
use Rattle.vm_state.specs.declared.exception.Exc.{Exc}
use Rattle.vm_state.specs.declared.exception.Exc.TheVariants.{Arithmetic, Breakpoint, Chm, Customer, Interrupt, KernelStack, Memory, ModifyFault, ReservedAddressing, ReservedInstruction, ReservedOperand}
use Rattle.vm_state.specs.declared.guest_state.GuestState.{GuestState}
use Rattle.vm_state.specs.declared.walk.MemFault.{MemFault}
use Rattle.vm_state.proofs.Initiations.{LevelFits, begun_keeps}
use Rattle.vm_state.proofs.Parts.{part_long}

pub level_fits : (e : Exc) → IsProper e → LevelFits e
level_fits (Interrupt level vector) p = p.0
level_fits ReservedInstruction p = tt
level_fits Customer p = tt
level_fits ReservedOperand p = tt
level_fits ReservedAddressing p = tt
level_fits (Memory f) p = tt
level_fits Breakpoint p = tt
level_fits (Arithmetic type) p = tt
level_fits KernelStack p = tt
level_fits (Chm to code) p = tt
level_fits (ModifyFault va) p = tt

module _ (e : Exc) (m : Machine) (s : Shadowed) (g : GuestState) (stands : StandsFor m.memory s g) where
  pub memory_size : length (partition_of m.memory g) ≡ 512 * g.pages
  memory_size = ap length (sym (own_is m.memory s g stands.serves)) ∙ own_length m.memory s stands.keeps.fits ∙ ap (λ n. 512 * n) stands.serves.pages

  pub tables_aligned : AreAligned (tables_of g)
  tables_aligned = aligned_of (tables_of g) (subst CanBeShadowed stands.serves.told stands.keeps.fits.told)

  nothing_else : OnlyGuest s m m
  nothing_else = record { rest = refl; size = refl; other = λ p h k. refl }

  same_place : HasPlace g.pages g.base g.start g
  same_place = record { pages = refl; base = refl; start = refl }

  stays : Stays m s g m s g
  stays = record { machine = refl; shadow = refl; guest = refl }

  -- the vector lies beyond memory
  pub past_vector : (at : ℕ) → at ≡ g.scbb + vector_offset e → 512 * g.pages < at + 4 → Attempts e m s g (attempts.Halts 0x10) m s g
  unfolding attempt
  past_vector at is past =
      let test : is_past (length (partition_of m.memory g)) (g.scbb + vector_offset e) 4 ≡ true = lt-ltb (length (partition_of m.memory g)) (g.scbb + vector_offset e + 4) (omega (arith, memory_size)) in
      record { is = rw test (refl, stays); stands = stands; place = same_place; only = nothing_else }

  module _ (at vector : ℕ) (at_is : at ≡ g.scbb + vector_offset e) (within : at + 4 ≤ 512 * g.pages) (vector_is : vector ≡ long_at m.memory (512 * g.base + at)) where
    by_its_vector : attempt (guest_of m.memory g) e ≡ by_vector (guest_of m.memory g) e vector
    unfolding attempt
    by_its_vector =
        let test : is_past (length (partition_of m.memory g)) (g.scbb + vector_offset e) 4 ≡ false = le-ltb (length (partition_of m.memory g)) (g.scbb + vector_offset e + 4) (omega (arith, memory_size)) in
        let long : long_at (partition_of m.memory g) (g.scbb + vector_offset e) ≡ vector = ap (long_at (partition_of m.memory g)) (sym at_is) ∙ part_long m.memory (512 * g.base) (512 * g.pages) at within ∙ sym vector_is in
        rw (test, long) refl

    pub bad_vector : is_bad_vector e vector ≡ true → Attempts e m s g (attempts.Halts 0x07) m s g
    bad_vector bad = record { is = rw (by_its_vector, bad) (refl, stays); stands = stands; place = same_place; only = nothing_else }

    sp_is : ℕ
    sp_is = pointer_of (state_of g) (new_stack (state_of g) e vector)

    by_walk : is_bad_vector e vector ≡ false → (sp : ℕ) → sp ≡ pointer_of (state_of g) (new_stack (state_of g) e vector) → attempt (guest_of m.memory g) e ≡ after_walk (guest_of m.memory g) e vector sp (push_walked (guest_of m.memory g) (new_mode (state_of g) e) sp (longwords (state_of g) e))
    by_walk good sp is = by_its_vector ∙ ap (λ b. cond b (Halts BadVector) (after_walk (guest_of m.memory g) e vector (pointer_of (state_of g) (new_stack (state_of g) e vector)) (push_walked (guest_of m.memory g) (new_mode (state_of g) e) (pointer_of (state_of g) (new_stack (state_of g) e vector)) (longwords (state_of g) e)))) good
        ∙ ap (λ x. after_walk (guest_of m.memory g) e vector x (push_walked (guest_of m.memory g) (new_mode (state_of g) e) x (longwords (state_of g) e))) (sym is)

    pub faulty_stack : (sp : ℕ) (f : MemFault) (longs : List ℕ) (stack : Bool) → is_bad_vector e vector ≡ false → sp ≡ pointer_of (state_of g) (new_stack (state_of g) e vector) → longs ≡ longwords (state_of g) e → Faulty f ≡ push_walked (guest_of m.memory g) (new_mode (state_of g) e) sp longs → stack ≡ uses_interrupt_stack (state_of g) e vector → Attempts e m s g (attempts.StackFaulty stack) m s g
    faulty_stack sp f longs stack good sp_is longs_are walk is =
        let all : attempt (guest_of m.memory g) e ≡ StackFaulty (uses_interrupt_stack (state_of g) e vector) = by_walk good sp sp_is ∙ ap (λ w. after_walk (guest_of m.memory g) e vector sp w) (sym (walk ∙ ap (push_walked (guest_of m.memory g) (new_mode (state_of g) e) sp) longs_are)) in
        record { is = rw all (is, stays); stands = stands; place = same_place; only = nothing_else }

    pub past_stack : (sp : ℕ) (longs : List ℕ) → is_bad_vector e vector ≡ false → sp ≡ pointer_of (state_of g) (new_stack (state_of g) e vector) → longs ≡ longwords (state_of g) e → PastMemory ≡ push_walked (guest_of m.memory g) (new_mode (state_of g) e) sp longs → Attempts e m s g (attempts.Halts 0x10) m s g
    past_stack sp longs good sp_is longs_are walk =
        let all : attempt (guest_of m.memory g) e ≡ Halts stops.PastMemory = by_walk good sp sp_is ∙ ap (λ w. after_walk (guest_of m.memory g) e vector sp w) (sym (walk ∙ ap (push_walked (guest_of m.memory g) (new_mode (state_of g) e) sp) longs_are)) in
        record { is = rw all (refl, stays); stands = stands; place = same_place; only = nothing_else }

    pub homes_proper : (sp : ℕ) (longs : List ℕ) (hs : List Home) → Homes hs ≡ push_walked (guest_of m.memory g) (new_mode (state_of g) e) sp longs → AreHomes (512 * s.pages) hs
    homes_proper sp longs hs walk = subst (λ n. AreHomes n hs) (memory_size ∙ ap (λ n. 512 * n) (sym stands.serves.pages)) (homes_inside (guest_of m.memory g) (new_mode (state_of g) e) sp longs hs tables_aligned walk)

    pub arrives : (sp : ℕ) (longs : List ℕ) (hs : List Home) (m' : Machine) (s' : Shadowed) (g' : GuestState) (later : ℕ) → IsProper e → is_bad_vector e vector ≡ false → sp ≡ pointer_of (state_of g) (new_stack (state_of g) e vector) → longs ≡ longwords (state_of g) e → Homes hs ≡ push_walked (guest_of m.memory g) (new_mode (state_of g) e) sp longs →
        Wrote (frames_pushed (own m.memory s) hs) (pushed hs (own m.memory s)) m s m' s' → later ≡ pointer_after sp longs → state_of g' ≡ begun_at (state_of g) e vector later → HasPlace g.pages g.base g.start g' → Attempts e m s g attempts.Arrives m' s' g'
    arrives sp longs hs m' s' g' later proper good sp_is longs_are walk w after_is state place =
        let v = stands.serves in
        let all : attempt (guest_of m.memory g) e ≡ after_walk (guest_of m.memory g) e vector sp (Homes hs) = by_walk good sp sp_is ∙ ap (λ x. after_walk (guest_of m.memory g) e vector sp x) (sym (walk ∙ ap (push_walked (guest_of m.memory g) (new_mode (state_of g) e) sp) longs_are)) in
        let tables : tables_of g' ≡ tables_of g = ap (λ (x : State). x.tables) state in
        let serves : Serves g' s' = record {
          pages = ap (λ (x : Shadowed). x.pages) w.drops.rest ∙ v.pages ∙ sym place.pages;
          base = ap (λ (x : Shadowed). x.base) w.drops.rest ∙ v.base ∙ sym place.base;
          told = ap (λ (x : Shadowed). x.told) w.drops.rest ∙ v.told ∙ sym tables;
        } in
        let mine = own_is m.memory s g v in
        let memory : partition_of m'.memory g' ≡ pushed hs (partition_of m.memory g) = sym (own_is m'.memory s' g' serves) ∙ w.own ∙ ap (pushed hs) mine in
        let begun : state_of g' ≡ begun_at (state_of g) e vector (pointer_after sp (longwords (state_of g) e)) = state ∙ ap (begun_at (state_of g) e vector) (after_is ∙ ap (pointer_after sp) longs_are) in
        let guest : guest_of m'.memory g' ≡ record { memory = pushed hs (partition_of m.memory g); state = begun_at (state_of g) e vector (pointer_after sp (longwords (state_of g) e)) } = λ i. record { memory = memory i; state = begun i } in
        let size : 512 * g.pages ≡ 512 * g'.pages = ap (λ n. 512 * n) (sym place.pages) in
        record {
          is = rw all (record { guest = guest; drops = subst (λ x. DropsAmong (frames_pushed x hs) s s') mine w.drops });
          stands = record {
            keeps = w.keeps stands.keeps;
            serves = serves;
            allowed = subst (λ n. AreAllowed n (state_of g')) size (subst (AreAllowed (512 * g.pages)) (sym state) ((begun_keeps (512 * g.pages) (state_of g) e vector later (level_fits e proper)).allowed stands.allowed));
          };
          place = place;
          only = w.only;
        }

-- An initiation, by its attempts.

-- the guest stops, and nothing else changes
pub stopped_stands : (memory : List ℕ) (s : Shadowed) (g g' : GuestState) (code : ℕ) → StandsFor memory s g → state_of g' ≡ record (state_of g) { halt = Some code } → HasPlace g.pages g.base g.start g' → StandsFor memory s g'
stopped_stands memory s g g' code stands state place = record {
  keeps = stands.keeps;
  serves = record { pages = stands.serves.pages ∙ sym place.pages; base = stands.serves.base ∙ sym place.base; told = stands.serves.told ∙ sym (ap (λ (x : State). x.tables) state) };
  allowed = subst (λ n. AreAllowed n (state_of g')) (ap (λ n. 512 * n) (sym place.pages)) (subst (AreAllowed (512 * g.pages)) (sym state) (halted stands.allowed));
}
  where
    halted : AreAllowed (512 * g.pages) (state_of g) → AreAllowed (512 * g.pages) (record (state_of g) { halt = Some code })
    halted a = record { p0br = a.p0br; p0lr = a.p0lr; p1br = a.p1br; p1lr = a.p1lr; sbr = a.sbr; slr = a.slr; pcbb = a.pcbb; scbb = a.scbb; astlvl = a.astlvl; sisr = a.sisr; psl = a.psl; packets = a.packets; few = a.few }

-- the outcome of an attempt, by the definition's
pub by_arrival : (a : initiations.Attempt) (m : Machine) (s : Shadowed) (g : GuestState) (m' : Machine) (s' : Shadowed) (g' : GuestState) → IsAttempted a attempts.Arrives (standing m s g) (standing m' s' g') → (h : Guest) × (frames : List ℕ) × (a ≡ Arrives h frames) × InitiatesTo h frames s m' s' g'
by_arrival (Arrives h frames) m s g m' s' g' b = (h, frames, refl, b)
by_arrival (StackFaulty stack) m s g m' s' g' b = absurd b
by_arrival (Halts stop) m s g m' s' g' b = absurd b

pub by_fault : (a : initiations.Attempt) (stack : Bool) (m : Machine) (s : Shadowed) (g : GuestState) (m' : Machine) (s' : Shadowed) (g' : GuestState) → IsAttempted a (attempts.StackFaulty stack) (standing m s g) (standing m' s' g') → (a ≡ StackFaulty stack) × Stays m s g m' s' g'
by_fault (Arrives h frames) stack m s g m' s' g' b = absurd b
by_fault (StackFaulty x) stack m s g m' s' g' b = (ap StackFaulty (sym b.0), b.1)
by_fault (Halts stop) stack m s g m' s' g' b = absurd b

pub by_halt : (a : initiations.Attempt) (code : ℕ) (m : Machine) (s : Shadowed) (g : GuestState) (m' : Machine) (s' : Shadowed) (g' : GuestState) → IsAttempted a (attempts.Halts code) (standing m s g) (standing m' s' g') → (stop : stops.Stop) × (a ≡ Halts stop) × (code ≡ stop_code stop) × Stays m s g m' s' g'
by_halt (Arrives h frames) code m s g m' s' g' b = absurd b
by_halt (StackFaulty x) code m s g m' s' g' b = absurd b
by_halt (Halts stop) code m s g m' s' g' b = (stop, refl, b.0, b.1)

-- it is taken
pub taken : (e : Exc) (m m' : Machine) (s s' : Shadowed) (g g' : GuestState) → Attempts e m s g attempts.Arrives m' s' g' → Initiates e m s g outcomes.Taken m' s' g'
unfolding initiate
taken e m m' s s' g g' a =
    let b = by_arrival (attempt (guest_of m.memory g) e) m s g m' s' g' a.is in
    record { is = rw b.2 b.3; stands = a.stands; place = a.place; only = a.only }

-- it stops the guest
stop_record : (e : Exc) (m : Machine) (s : Shadowed) (g g' : GuestState) (stop : stops.Stop) (code : ℕ) → StandsFor m.memory s g → initiate (guest_of m.memory g) e ≡ StopsGuest stop → code ≡ stop_code stop → state_of g' ≡ record (state_of g) { halt = Some code } → HasPlace g.pages g.base g.start g' → Initiates e m s g (outcomes.Stopped code) m s g'
stop_record e m s g g' stop code stands all c state place = record {
  is = rw all (c, record { state = state; machine = refl; shadow = refl });
  stands = stopped_stands m.memory s g g' code stands state place;
  place = place;
  only = record { rest = refl; size = refl; other = λ p h k. refl };
}

module _ (e : Exc) (m m1 m2 : Machine) (s s1 s2 : Shadowed) (g g1 g2 g3 : GuestState) (stands : StandsFor m.memory s g) where
  stay_of : Stays m s g m1 s1 g1 → (code : ℕ) → Initiates e m s g (outcomes.Stopped code) m s g3 → Initiates e m s g (outcomes.Stopped code) m1 s1 g3
  stay_of k code i = subst (λ x. Initiates e m s g (outcomes.Stopped code) x s1 g3) (sym k.machine) (subst (λ x. Initiates e m s g (outcomes.Stopped code) m x g3) (sym k.shadow) i)

  pub halts : (code : ℕ) → Attempts e m s g (attempts.Halts code) m1 s1 g1 → state_of g3 ≡ record (state_of g1) { halt = Some code } → HasPlace g1.pages g1.base g1.start g3 → Initiates e m s g (outcomes.Stopped code) m1 s1 g3
  unfolding initiate
  halts code a state place =
      let b = by_halt (attempt (guest_of m.memory g) e) code m s g m1 s1 g1 a.is in
      let k = b.3 in
      stay_of k code (stop_record e m s g g3 b.0 code stands (ap (initiated (guest_of m.memory g)) b.1) b.2 (state ∙ ap (λ (x : GuestState). record (state_of x) { halt = Some code }) k.guest) (subst (λ (x : GuestState). HasPlace x.pages x.base x.start g3) k.guest place))

  pub interrupt_stack : Attempts e m s g (attempts.StackFaulty true) m1 s1 g1 → state_of g3 ≡ record (state_of g1) { halt = Some 0x04 } → HasPlace g1.pages g1.base g1.start g3 → Initiates e m s g (outcomes.Stopped 0x04) m1 s1 g3
  unfolding initiate
  interrupt_stack a state place =
      let b = by_fault (attempt (guest_of m.memory g) e) true m s g m1 s1 g1 a.is in
      let k = b.1 in
      stay_of k 0x04 (stop_record e m s g g3 stops.InterruptStackBad 0x04 stands (rw b.0 refl) refl (state ∙ ap (λ (x : GuestState). record (state_of x) { halt = Some 0x04 }) k.guest) (subst (λ (x : GuestState). HasPlace x.pages x.base x.start g3) k.guest place))

  -- another attempt, with vector 08, of the guest as it was
  again : Stays m s g m1 s1 g1 → (r : Attempt) → Attempts KernelStack m1 s1 g1 r m2 s2 g2 → Attempts KernelStack m s g r m2 s2 g2
  again k r a = subst (λ (x : GuestState). Attempts KernelStack m s x r m2 s2 g2) k.guest (subst (λ x. Attempts KernelStack m x g1 r m2 s2 g2) k.shadow (subst (λ x. Attempts KernelStack x s1 g1 r m2 s2 g2) k.machine a))

  pub bad_kernel_stack : Attempts e m s g (attempts.StackFaulty false) m1 s1 g1 → Attempts KernelStack m1 s1 g1 attempts.Arrives m2 s2 g2 → Initiates e m s g outcomes.KernelStackBad m2 s2 g2
  unfolding initiate
  bad_kernel_stack a c =
      let b = by_fault (attempt (guest_of m.memory g) e) false m s g m1 s1 g1 a.is in
      let d = again b.1 attempts.Arrives c in
      let f = by_arrival (attempt (guest_of m.memory g) KernelStack) m s g m2 s2 g2 d.is in
      record { is = rw (b.0, f.2) f.3; stands = d.stands; place = d.place; only = d.only }

  stay_then : Stays m s g m2 s2 g2 → (code : ℕ) → Initiates e m s g (outcomes.Stopped code) m s g3 → Initiates e m s g (outcomes.Stopped code) m2 s2 g3
  stay_then k code i = subst (λ x. Initiates e m s g (outcomes.Stopped code) x s2 g3) (sym k.machine) (subst (λ x. Initiates e m s g (outcomes.Stopped code) m x g3) (sym k.shadow) i)

  pub both_stacks : (stack : Bool) → Attempts e m s g (attempts.StackFaulty false) m1 s1 g1 → Attempts KernelStack m1 s1 g1 (attempts.StackFaulty stack) m2 s2 g2 → state_of g3 ≡ record (state_of g2) { halt = Some 0x04 } → HasPlace g2.pages g2.base g2.start g3 → Initiates e m s g (outcomes.Stopped 0x04) m2 s2 g3
  unfolding initiate
  both_stacks stack a c state place =
      let b = by_fault (attempt (guest_of m.memory g) e) false m s g m1 s1 g1 a.is in
      let d = again b.1 (attempts.StackFaulty stack) c in
      let f = by_fault (attempt (guest_of m.memory g) KernelStack) stack m s g m2 s2 g2 d.is in
      let k = f.1 in
      stay_then k 0x04 (stop_record e m s g g3 stops.InterruptStackBad 0x04 stands (rw (b.0, f.0) refl) refl (state ∙ ap (λ (x : GuestState). record (state_of x) { halt = Some 0x04 }) k.guest) (subst (λ (x : GuestState). HasPlace x.pages x.base x.start g3) k.guest place))

  pub halts_then : (code : ℕ) → Attempts e m s g (attempts.StackFaulty false) m1 s1 g1 → Attempts KernelStack m1 s1 g1 (attempts.Halts code) m2 s2 g2 → state_of g3 ≡ record (state_of g2) { halt = Some code } → HasPlace g2.pages g2.base g2.start g3 → Initiates e m s g (outcomes.Stopped code) m2 s2 g3
  unfolding initiate
  halts_then code a c state place =
      let b = by_fault (attempt (guest_of m.memory g) e) false m s g m1 s1 g1 a.is in
      let d = again b.1 (attempts.Halts code) c in
      let f = by_halt (attempt (guest_of m.memory g) KernelStack) code m s g m2 s2 g2 d.is in
      let k = f.3 in
      stay_then k code (stop_record e m s g g3 f.0 code stands (ap (initiated (guest_of m.memory g)) b.0 ∙ ap in_its_place f.1) f.2 (state ∙ ap (λ (x : GuestState). record (state_of x) { halt = Some code }) k.guest) (subst (λ (x : GuestState). HasPlace x.pages x.base x.start g3) k.guest place))

-- a walk, as the code has its mode and its longwords
pub walked_as : (g : Guest) (m m' : Mode) (sp : ℕ) (longs longs' : List ℕ) (x w : Walked) → x ≡ w → w ≡ push_walked g m sp longs → m ≡ m' → longs ≡ longs' → x ≡ push_walked g m' sp longs'
walked_as g m m' sp longs longs' x w a b c d = a ∙ b ∙ (λ i. push_walked g (c i) sp (d i))
