-- LDPCTX.
use Rattle.std.proofs.Common.{◌≡◌, ℕ, zero, suc, ◌+◌, ◌*◌, ◌/◌, ◌%◌, ◌^◌, ◌<◌, Bool, true, false, not, ◌||◌, eqb, get_or, List, [], ◌∷◌, ◌++◌, length, Some, refl, ap, ◌∙◌, sym, subst, arith}
use Rattle.std.specs.Prelude.{slice_index, slice_set}
use Rattle.vax_arch.specs.Walk.{is_past}
use Rattle.vax_arch.specs.declared.mode.Mode.TheVariants.{Kernel}
use Rattle.vax_hw.specs.Machine.{Machine}
use Rattle.vax_table.specs.Operand.{minus}
use Rattle.vax_table.specs.declared.act.Sens.TheVariants.{Ldpctx}
use Rattle.vax_table.specs.declared.act.Trapped.{Trapped}
use Rattle.vm_emulate.specs.Emulated.{Senses}
use Rattle.vm_emulate.specs.Loaded.{IsBlock, has_reserved_bit, refuses_register, with_process}
use Rattle.vm_emulate.specs.declared.emulated.Emulated.{Emulated}
use Rattle.vm_emulate.specs.declared.emulated.Emulated.TheVariants as outcomes
use Rattle.vm_emulate.specs.declared.loads.Block.{Block}
use Rattle.vm_emulate.specs.declared.loads.Process.{Process}
use Rattle.vm_emulate.proofs.MovingTo.{only_guest}
use Rattle.vm_emulate.proofs.Same.{same_guest}
use Rattle.vm_emulate.proofs.Sensing.{done_allowed, done_stands, faults, lacks, memory_size}
use Rattle.vm_exception.proofs.Writing.{only_then}
use Rattle.vm_exception.specs.Wrote.{AreHomes, DropsAmong, Wrote}
use Rattle.vm_exception.proofs.Homes.{homes_inside}
use Rattle.vm_shadow.specs.Shadowed.{CanBeShadowed, Shadowed, own}
use Rattle.vm_shadow.specs.StandsFor.{Retells, StandsFor, Switches}
use Rattle.vm_shadow.proofs.Contexts.{aligned_of}
use Rattle.vm_shadow.proofs.Covering.{own_is}
use Rattle.vm_shadow.proofs.Filling.{own_apart}
use Rattle.vm_shadow.proofs.Making.{can_stand}
use Rattle.vm_state.specs.Contexts.{after_push, control_block_long, is_block_past, is_block_reserved, loaded, loads_context, longs_in_block, off_interrupt_stack}
use Rattle.vm_state.specs.Partition.{guest_of, part, partition_of}
use Rattle.vm_state.specs.Pushes.{Faulty, Home, Homes, PastMemory, Walked, frames_pushed, pointer_after, push_walked, pushed}
use Rattle.vm_state.specs.Sensed.{Does, Faults, LacksMemory}
use Rattle.vm_state.specs.Sensitive.{sensed}
use Rattle.vm_state.specs.State.{Guest, HasPlace, State, pointer_of, state_of, tables_of}
use Rattle.vm_state.specs.declared.exception.Exc.TheVariants as excs
use Rattle.vm_state.specs.declared.guest_state.GuestState.{GuestState}
use Rattle.vm_state.specs.declared.walk.MemFault.{MemFault}

-- reserved registers and bits
or_three : (a b c d : Bool) → (a || (b || c || d)) ≡ (a || b || c || d)
or_three true b c d = refl
or_three false b c d = refl

reserved_is : (g : Guest) (b : Block) → IsBlock g b → (refuses_register b || has_reserved_bit b) ≡ is_block_reserved g
unfolding is_block_reserved
reserved_is g b k =
    or_three (refuses_register b) (not (eqb (b.p0_length / 2 ^ 27) 0)) (not (eqb (b.p0_length / 2 ^ 22 % 4) 0)) (not (eqb (b.p1_length / 2 ^ 22 % 2 ^ 9) 0))
    ∙ rw (k.p0br, k.p0_length, k.p1br, k.p1_length) refl

pub refused_is : (g : Guest) (b : Block) (r : Bool) → IsBlock g b → r ≡ refuses_register b → r ≡ true → r ≡ is_block_reserved g
refused_is g b r k e refuses = refuses ∙ ap (λ x. x || has_reserved_bit b) (sym refuses ∙ e) ∙ reserved_is g b k

pub bits_are : (g : Guest) (b : Block) (r x : Bool) → IsBlock g b → r ≡ refuses_register b → r ≡ false → x ≡ has_reserved_bit b → x ≡ is_block_reserved g
bits_are g b r x k e lets is = is ∙ ap (λ y. y || has_reserved_bit b) (sym lets ∙ e) ∙ reserved_is g b k

-- longwords of the block
pub longs_are : (g : Guest) (n offset : ℕ) (xs : List ℕ) → length xs ≡ n → ((k : ℕ) → k < n → get_or xs k 0 ≡ control_block_long g (offset + 4 * k)) → xs ≡ longs_in_block g n offset
longs_are g zero offset [] e h = refl
longs_are g zero offset (x ∷ xs) e h = absurd (omega arith)
longs_are g (suc n) offset [] e h = absurd (omega arith)
longs_are g (suc n) offset (x ∷ xs) e h =
    let here : x ≡ control_block_long g offset = h 0 (omega arith) ∙ ap (control_block_long g) (omega arith) in
    let rest : xs ≡ longs_in_block g n (offset + 4) = longs_are g n (offset + 4) xs (omega arith) (λ k l. h (suc k) (omega arith) ∙ ap (control_block_long g) (omega arith)) in
    λ i. here i ∷ rest i

-- what a block loads
pub loads : (memory : List ℕ) (g : GuestState) (b : Block) (next_pc isp : ℕ) (p : Process) → IsBlock (guest_of memory g) b → p.r ≡ b.general ++ slice_index b.stacks 0 ∷ next_pc ∷ [] → p.psl.0 ≡ off_interrupt_stack g.psl.0 → p.stacks ≡ b.stacks ++ isp ∷ [] → isp ≡ pointer_of (state_of g) 4
    → p.p0br ≡ b.p0br → p.p0lr ≡ b.p0_length % 2 ^ 22 → p.p1br ≡ b.p1br → p.p1lr ≡ b.p1_length % 2 ^ 22 → p.astlvl ≡ b.p0_length / 2 ^ 24 % 8 → with_process p (state_of g) ≡ loaded (guest_of memory g) next_pc
unfolding loaded
loads memory g b next_pc isp p k r psl stacks isp_is p0br p0lr p1br p1lr astlvl =
    let r2 = r ∙ (λ i. k.general i ++ slice_index (k.stacks i) 0 ∷ next_pc ∷ []) in
    let stacks2 = stacks ∙ (λ i. k.stacks i ++ isp_is i ∷ []) in
    let p0br2 = p0br ∙ k.p0br in
    let p0lr2 = p0lr ∙ ap (λ n. n % 2 ^ 22) k.p0_length in
    let p1br2 = p1br ∙ k.p1br in
    let p1lr2 = p1lr ∙ ap (λ n. n % 2 ^ 22) k.p1_length in
    let astlvl2 = astlvl ∙ ap (λ n. n / 2 ^ 24 % 8) k.p0_length in
    λ i. let s : State = state_of g in record s {
      r = r2 i;
      psl = psl i;
      stacks = stacks2 i;
      tables = record (tables_of g) { p0br = p0br2 i; p0lr = p0lr2 i; p1br = p1br2 i; p1lr = p1lr2 i };
      astlvl = astlvl2 i;
    }

-- the registers are put back
pub put_back : (g g1 g2 : GuestState) (before process : Process) → with_process before (state_of g) ≡ state_of g → state_of g1 ≡ with_process process (state_of g) → HasPlace g.pages g.base g.start g1 → state_of g2 ≡ with_process before (state_of g1) → HasPlace g1.pages g1.base g1.start g2 → g2 ≡ g
put_back g g1 g2 before process was one place two place' =
    same_guest g g2 (two ∙ ap (with_process before) one ∙ was) (record { pages = place'.pages ∙ place.pages; base = place'.base ∙ place.base; start = place'.start ∙ place.start })

-- two longwords are pushed
two_pushed : (sp v w : ℕ) → pointer_after sp (v ∷ w ∷ []) ≡ minus sp 8
two_pushed sp v w = omega arith

module _ (m : Machine) (s : Shadowed) (g : GuestState) (t : Trapped) (stands : StandsFor m.memory s g) where
  abbrev pub whole : Guest
  whole = guest_of m.memory g

  -- whether it lies beyond memory, by the guest's pages
  pub past_by_pages : (b c : Bool) → b ≡ is_past (512 * g.pages) g.pcbb 96 → b ≡ c → is_block_past whole ≡ c
  past_by_pages b c e is = ap (λ n. is_past n g.pcbb 96) (memory_size m s g stands) ∙ sym e ∙ is

  pub lies_past : (result : Emulated) (g' : GuestState) → is_block_past whole ≡ true → result ≡ outcomes.PastMemory → state_of g' ≡ record (state_of g) { halt = Some 0x10 } → HasPlace g.pages g.base g.start g' → Senses (loads_context whole t.next_pc) m s g result m s g'
  unfolding loads_context
  lies_past result g' past stops state place =
      let is : loads_context whole t.next_pc ≡ LacksMemory = rw past refl in
      subst (λ x. Senses (loads_context whole t.next_pc) m s g x m s g') (sym stops) (lacks (loads_context whole t.next_pc) m s g g' stands is state place)

  pub is_reserved : is_block_past whole ≡ false → is_block_reserved whole ≡ true → Senses (loads_context whole t.next_pc) m s g (outcomes.Fault excs.ReservedOperand) m s g
  unfolding loads_context
  is_reserved inside reserved =
      let is : loads_context whole t.next_pc ≡ Faults excs.ReservedOperand = rw (inside, reserved) refl in
      faults (loads_context whole t.next_pc) excs.ReservedOperand m s g stands is

  -- the guest with its registers loaded, before the push
  module _ (b : Block) (block : IsBlock whole b) (inside : is_block_past whole ≡ false) (allowed : is_block_reserved whole ≡ false) (g1 : GuestState) (state1 : state_of g1 ≡ loaded whole t.next_pc) (place1 : HasPlace g.pages g.base g.start g1) (longs : List ℕ) (longs_are : longs ≡ b.psl ∷ b.pc ∷ []) where
    abbrev next : State
    next = loaded whole t.next_pc

    abbrev two : List ℕ
    two = control_block_long whole 76 ∷ control_block_long whole 72 ∷ []

    comes : loads_context whole t.next_pc ≡ after_push whole next (push_walked (record whole { state = next }) Kernel (slice_index next.r 14) two)
    unfolding loads_context
    comes = rw (inside, allowed) refl

    same_walk : push_walked (guest_of m.memory g1) Kernel (slice_index g1.r 14) longs ≡ push_walked (record whole { state = next }) Kernel (slice_index next.r 14) two
    same_walk =
        let guest : guest_of m.memory g1 ≡ record whole { state = next } = λ i. record { memory = part m.memory (512 * place1.base i) (512 * place1.pages i); state = state1 i } in
        let longs2 : longs ≡ two = longs_are ∙ (λ i. block.psl i ∷ block.pc i ∷ []) in
        λ i. push_walked (guest i) Kernel (slice_index (state1 i).r 14) (longs2 i)

    by_walk : (w : Walked) → w ≡ push_walked (guest_of m.memory g1) Kernel (slice_index g1.r 14) longs → loads_context whole t.next_pc ≡ after_push whole next w
    by_walk w e = comes ∙ ap (after_push whole next) (sym (e ∙ same_walk))

    -- trouble of the push
    pub is_faulty : (f : MemFault) (g2 : GuestState) → Faulty f ≡ push_walked (guest_of m.memory g1) Kernel (slice_index g1.r 14) longs → g2 ≡ g → Senses (loads_context whole t.next_pc) m s g (outcomes.Fault excs.KernelStack) m s g2
    is_faulty f g2 walk back =
        let one = faults (loads_context whole t.next_pc) excs.KernelStack m s g stands (by_walk (Faulty f) walk) in
        subst (λ (x : GuestState). Senses (loads_context whole t.next_pc) m s g (outcomes.Fault excs.KernelStack) m s x) (sym back) one

    pub is_stack_past : (result : Emulated) (g2 g3 : GuestState) → PastMemory ≡ push_walked (guest_of m.memory g1) Kernel (slice_index g1.r 14) longs → g2 ≡ g → result ≡ outcomes.PastMemory → state_of g3 ≡ record (state_of g2) { halt = Some 0x10 } → HasPlace g2.pages g2.base g2.start g3 → Senses (loads_context whole t.next_pc) m s g result m s g3
    is_stack_past result g2 g3 walk back stops state place =
        subst (λ x. Senses (loads_context whole t.next_pc) m s g x m s g3) (sym stops)
        (lacks (loads_context whole t.next_pc) m s g g3 stands (by_walk PastMemory walk)
        (state ∙ ap (λ (x : GuestState). record (state_of x) { halt = Some 0x10 }) back)
        (subst (λ (x : GuestState). HasPlace x.pages x.base x.start g3) back place))

    -- all bytes have homes
    module _ (hs : List Home) (walk : Homes hs ≡ push_walked (guest_of m.memory g1) Kernel (slice_index g1.r 14) longs) where
      becomes : Guest
      becomes = record { memory = pushed hs (partition_of m.memory g); state = record next { r = slice_set next.r 14 (pointer_after (slice_index next.r 14) two) } }

      frames : List ℕ
      frames = frames_pushed (partition_of m.memory g) hs

      does : sensed whole t Ldpctx ≡ Does becomes [] frames
      unfolding sensed becomes frames
      does = by_walk (Homes hs) walk

      -- the guest after the push
      abbrev pub later : GuestState
      later = record g1 { r = slice_set g1.r 14 (minus (slice_index g1.r 14) 8) }

      after_is : state_of later ≡ becomes.state
      unfolding becomes
      after_is =
          let after : (x : State) → minus (slice_index x.r 14) 8 ≡ pointer_after (slice_index x.r 14) two = λ x. sym (two_pushed (slice_index x.r 14) (control_block_long whole 76) (control_block_long whole 72)) in
          ap (λ (x : State). record x { r = slice_set x.r 14 (minus (slice_index x.r 14) 8) }) state1 ∙ ap (λ n. record next { r = slice_set next.r 14 n }) (after next)

      there : HasPlace g.pages g.base g.start later
      there = record { pages = place1.pages; base = place1.base; start = place1.start }

      -- the tables' registers have allowed values
      pub can_switch : CanBeShadowed (tables_of later)
      can_switch = can_stand (512 * later.pages) (state_of later) (done_allowed t Ldpctx becomes [] frames m s g stands does later after_is there)

      pub homes_proper : AreHomes (512 * s.pages) hs
      homes_proper =
          let size : length (partition_of m.memory g1) ≡ 512 * s.pages = (λ i. length (part m.memory (512 * place1.base i) (512 * place1.pages i))) ∙ memory_size m s g stands ∙ ap (λ n. 512 * n) (sym stands.serves.pages) in
          subst (λ n. AreHomes n hs) size (homes_inside (guest_of m.memory g1) Kernel (slice_index g1.r 14) longs hs (aligned_of (tables_of g1) can_switch) walk)

      -- what was read from a frame of the push is dropped, and then the tables switch to the registers
      pub is_loaded : (m1 m' : Machine) (s1 s' : Shadowed) → Wrote (frames_pushed (own m.memory s) hs) (pushed hs (own m.memory s)) m s m1 s1 → Switches later m1 s1 m' s' → Senses (loads_context whole t.next_pc) m s g outcomes.Done m' s' later
      unfolding frames becomes sensed
      is_loaded m1 m' s1 s' wrote sw =
          let mine = own_is m.memory s g stands.serves in
          let rest1 = wrote.drops.rest in
          let tables : tables_of later ≡ becomes.state.tables = ap (λ (x : State). x.tables) after_is in
          let memory : partition_of m'.memory later ≡ pushed hs (partition_of m.memory g) =
          sym (own_is m'.memory s' later sw.serves) ∙ ap (own m'.memory) sw.rest ∙ own_apart m1.memory m'.memory s1 (wrote.keeps stands.keeps).fits sw.only.tables ∙ wrote.own ∙ ap (pushed hs) mine in
          let guest : guest_of m'.memory later ≡ becomes = λ i. record { memory = memory i; state = after_is i } in
          let tells : Retells (tables_of later) s1 s' = record { takes = sw.takes; each = sw.each } in
          record {
            is = rw does (record { guest = guest; follows = record { between = s1; drops = subst (λ x. DropsAmong (frames_pushed x hs) s s1) mine wrote.drops; retells = subst (λ x. Retells x s1 s') tables tells; rest = sw.rest } });
            stands = done_stands t Ldpctx becomes [] frames m s g stands does m' s' later guest there sw.keeps
                (ap (λ (x : Shadowed). x.pages) sw.rest ∙ ap (λ (x : Shadowed). x.pages) rest1) (ap (λ (x : Shadowed). x.base) sw.rest ∙ ap (λ (x : Shadowed). x.base) rest1) (sw.serves.told ∙ tables);
            place = there;
            only = only_then m m1 m' s s1 rest1 wrote.only (only_guest s1 m1 m' sw.only);
          }
