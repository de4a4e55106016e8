-- What sensitive instructions keep.
use Rattle.std.proofs.Common.{◌≡◌, ℕ, zero, suc, ◌+◌, ◌/◌, ◌%◌, ◌^◌, ◌<◌, ◌≤◌, inr, Bool, true, false, not, ◌||◌, ◌&&◌, eqb, leb, [], ◌∷◌, ◌++◌, length, length-append, slice_set, Option, Some, None, Result, Ok, Err, refl, ◌∙◌, subst, arith}
use Rattle.std.specs.Prelude.{if◌then◌else◌, All, slice_index}
use Rattle.std.proofs.lemmas.Bool.{cond_both}
use Rattle.std.proofs.lemmas.Bool.Decides.{nat_tests}
use Rattle.vv_base.specs.declared.width.Width.TheVariants.{Long}
use Rattle.vax_arch.specs.Fields.{current_of, ipl_of, is_on_interrupt_stack, mode_number}
use Rattle.vax_arch.specs.Rei.{has_must_be_zero_bit, rei_refuses}
use Rattle.vax_arch.specs.Walk.{is_past}
use Rattle.vax_arch.specs.declared.mode.Mode.{Mode}
use Rattle.vax_table.specs.Arithmetic.{alu_of}
use Rattle.vax_table.specs.Interaction.{At, Test, Trouble, outcome}
use Rattle.vax_table.specs.Tries.{Clear, Completes, Stopped, Tried, tried}
use Rattle.vax_table.specs.declared.act.Dest.{Dest}
use Rattle.vax_table.specs.declared.act.Dest.TheVariants.{Memory, Nowhere, Register}
use Rattle.vax_table.specs.declared.act.Sens.{Sens}
use Rattle.vax_table.specs.declared.act.Sens.TheVariants.{Chm, Halt, Ldpctx, Mfpr, Mtpr, Prober, Probew, Rei, Svpctx, Wait}
use Rattle.vax_table.specs.declared.act.Trapped.{Trapped}
use Rattle.vax_table.specs.declared.answer.AluOp.TheVariants.{Move}
use Rattle.vm_state.specs.Allowed.{Allows, AreAllowed, IsPacket}
use Rattle.vm_state.specs.Contexts.{Popped, after_pops, after_push, after_reads, is_block_past, is_block_reserved, loaded, loaded_astlvl, loaded_tables, loads_context, on_interrupt, on_interrupt_stack, saved, saved_longs, saves_context, two_popped}
use Rattle.vm_state.specs.Initiate.{Initiation, KernelStackBad, StopsGuest, Taken, initiate, new_mode}
use Rattle.vm_state.specs.Packets.{accepted, busy_status, status_place}
use Rattle.vm_state.specs.Pushes.{Faulty, Homes, PastMemory, Walked, push_walked}
use Rattle.vm_state.specs.Registers.{Value, Written, written}
use Rattle.vm_state.specs.Sensed.{ClearAt, Does, Faults, LacksMemory, Sensed, StopsThere, fault_of, refused_as, troubled}
use Rattle.vm_state.specs.Sensitive.{after_register_read, change_mode, chm_walked, destination_walked, guest_past_instruction, halted, mfpr_by, mode_changed, mtpr_by, packet_taken, past_instruction, put_at, rei_by, returned_to, sensed, waited, with_codes, with_register_effect}
use Rattle.vm_state.specs.State.{Guest, State, mode_of_state, pointer_of}
use Rattle.vm_state.specs.Stops.{ChangedMode}
use Rattle.vm_state.specs.Translation.{guest_write_place, is_clear, space_of, walk_of}
use Rattle.vm_state.specs.declared.exception.Exc.TheVariants as excs
use Rattle.vm_state.specs.declared.register.RegisterEffect.{RegisterEffect}
use Rattle.vm_state.specs.declared.register.RegisterEffect.TheVariants as effects
use Rattle.vm_state.specs.declared.register.Register.TheVariants.{Astlvl, P0br, P0lr, P1br, P1lr, Sisr}
use Rattle.vm_state.specs.declared.register.ReservedOperand.{ReservedOperand}
use Rattle.vm_state.specs.declared.transfer.Accept.{Accept}
use Rattle.vm_state.specs.declared.transfer.Accept.TheVariants.{BadPacket, Busy, Queued}
use Rattle.vm_state.specs.declared.walk.Walk.{Walk}
use Rattle.vm_state.specs.declared.walk.Walk.TheVariants as walks
use Rattle.vax_table.specs.declared.act.Refusal.{Refusal}
use Rattle.vax_table.specs.declared.act.Refusal.TheVariants as refusals
use Rattle.vm_state.proofs.Initiations.{Holds, Initiates, LevelFits, initiate_keeps}
use Rattle.vm_state.proofs.Keeps.{Keeps, chained, ipl_changed, low_changed, moved, off_stack, on_stack, same}
use Rattle.std.proofs.lemmas.List.Elements.{All-append}
use Rattle.vm_state.proofs.Registers.{ReadsKept, WritesKept, even_of, reads_keep, set_at, small_of, with_sisr, written_keeps}
use Rattle.vm_state.proofs.Sizes.{bytes_size, long_size, longs_size, pushed_size}

-- one guest and then another
pub holds_then : (g h k : Guest) → Holds g h → Holds h k → Holds g k
holds_then g h k a b = record {
  size = b.size ∙ a.size;
  keeps = chained (length g.memory) g.state h.state k.state a.keeps (subst (λ (n : ℕ). Keeps n h.state k.state) a.size b.keeps);
}

pub with_state : (g : Guest) (s : State) → Keeps (length g.memory) g.state s → Holds g (record g { state = s })
with_state g s k = record { size = refl; keeps = k }

-- few bytes are shown, and the guest keeps what it has
abbrev pub Sensible : Guest → Sensed → Type 0
Sensible g (Does h shown written) = Holds g h × (length shown ≤ 14)
Sensible g (Faults e) = LevelFits e
Sensible g (ClearAt va) = Unit {0}
Sensible g (StopsThere stop) = Unit {0}
Sensible g LacksMemory = Unit {0}

none_shown : length {A = ℕ} [] ≤ 14
none_shown = omega arith

pub after_keeps : (size : ℕ) (s : State) (t : Trapped) → Keeps size s (past_instruction s t)
after_keeps size s t = moved size s (past_instruction s t) refl refl refl refl refl refl refl refl (λ k. k)

code_low : (p : ℕ) → p % 2 ^ 8 < 2 ^ 8
code_low p = grind arith

pub codes_keep : (size v : ℕ) (s : State) → Keeps size s (with_codes v s)
codes_keep size v s = moved size s (with_codes v s) refl refl refl refl refl refl refl refl (λ k. low_changed s.psl ((alu_of Move v 0 Long (s.psl % 2 ^ 8)).psw % 2 ^ 8) (code_low (alu_of Move v 0 Long (s.psl % 2 ^ 8)).psw) k)

-- troubles
refusal_fits : (r : Refusal) → LevelFits (refused_as r)
refusal_fits refusals.Instruction = tt
refusal_fits refusals.ReservedOperand = tt
refusal_fits refusals.Addressing = tt
refusal_fits refusals.Customer = tt
refusal_fits refusals.Breakpoint = tt

fault_sensible : (g : Guest) (w : Walk) → Sensible g (fault_of w)
fault_sensible g (walks.Fault f) = tt
fault_sensible g (walks.Frame pa entry table) = tt
fault_sensible g walks.Beyond = tt

pub trouble_sensible : (g : Guest) (t : Trouble) → Sensible g (troubled g t)
trouble_sensible g (At cause i va) = fault_sensible g (walk_of g va (mode_of_state g.state) i)
trouble_sensible g (Test r) = refusal_fits r

-- HALT, WAIT, CHM
halt_sensible : (g : Guest) (t : Trapped) → Sensible g (halted g t)
halt_sensible g t = (with_state g _ (moved (length g.memory) g.state _ refl refl refl refl refl refl refl refl (λ k. k)), omega arith)

wait_sensible : (g : Guest) (t : Trapped) → Sensible g (waited g t)
wait_sensible g t = (with_state g _ (moved (length g.memory) g.state _ refl refl refl refl refl refl refl refl (λ k. k)), none_shown)

changed_sensible : (g h : Guest) (i : Initiation) → Holds g h → Initiates h i → Sensible g (mode_changed i)
changed_sensible g h (Taken k written) a b = (holds_then g h k a b.holds, none_shown)
changed_sensible g h (KernelStackBad k written) a b = (holds_then g h k a b.holds, none_shown)
changed_sensible g h (StopsGuest stop) a b = tt

walked_sensible : (g h : Guest) (i : Initiation) (w : Walked) → Holds g h → Initiates h i → Sensible g (chm_walked i w)
walked_sensible g h i (Homes hs) a b = changed_sensible g h i a b
walked_sensible g h i (Faulty f) a b = tt
walked_sensible g h i PastMemory a b = tt

chm_sensible : (g : Guest) (t : Trapped) (to : Mode) → Sensible g (change_mode g t to)
chm_sensible g t to =
    let h = guest_past_instruction g t in
    let e = excs.Chm to t.a in
    let m = new_mode g.state e in
    let hold : Holds g h = with_state g (past_instruction g.state t) (after_keeps (length g.memory) g.state t) in
    let start : Initiates h (initiate h e) = initiate_keeps h e tt in
    let P = Sensible g in
    cond_both (is_on_interrupt_stack g.state.psl) (StopsThere ChangedMode) _ P (λ k. tt) (λ k.
    cond_both (eqb (mode_number m) 0) _ _ P (λ j. changed_sensible g h (initiate h e) hold start)
    (λ j. walked_sensible g h (initiate h e) (push_walked h m (pointer_of h.state (mode_number m)) (g.state.psl ∷ t.next_pc ∷ t.a ∷ [])) hold start))

-- REI
or_first : (a b : Bool) → (a || b) ≡ false → a ≡ false
or_first true b e = cc
or_first false b e = refl

accepted_psl : (old new : ℕ) → rei_refuses old new ≡ false → has_must_be_zero_bit new ≡ false
accepted_psl old new e = or_first _ _ (or_first _ _ (or_first _ _ (or_first _ _ (or_first _ _ (or_first _ _ e)))))

mine_first : (a b : Bool) → (a && b) ≡ true → a ≡ true
mine_first true b e = refl
mine_first false b e = cc

mine_second : (a b : Bool) → (a && b) ≡ true → b ≡ true
mine_second true b e = e
mine_second false b e = cc

not_set : (b : Bool) → not b ≡ true → b ≡ false
not_set true e = cc
not_set false e = refl

asked : (s : State) (t : ℕ → State) (b : Bool) (size : ℕ) → (b ≡ true → eqb (s.sisr / 4 % 2) 1 ≡ false) → AreAllowed size s → Allows Sisr (if b then s.sisr + 4 else s.sisr)
asked s t true size e h = set_at 2 s.sisr (omega arith) (omega arith) (even_of s.sisr h.sisr) (small_of s.sisr h.sisr) (let k : eqb (s.sisr / 4 % 2) 1 ≡ false = e refl in grind (arith, nat_tests))
asked s t false size e h = h.sisr

returned_keeps : (size : ℕ) (s : State) (p : Popped) → has_must_be_zero_bit p.psl ≡ false → Keeps size s (returned_to s p)
returned_keeps size s p e =
    let t = returned_to s p in
    let mid : State = record t { sisr = s.sisr } in
    let asks = leb s.astlvl (mode_number (current_of p.psl)) && not (is_on_interrupt_stack p.psl) && not (eqb (s.sisr / 4 % 2) 1) in
    chained size s mid t (moved size s mid refl refl refl refl refl refl refl refl (λ k. e))
    (with_sisr size mid t.sisr (λ h. asked mid (λ v. s) asks size (λ k. not_set _ (mine_second (leb s.astlvl (mode_number (current_of p.psl)) && not (is_on_interrupt_stack p.psl)) _ k)) h))

rei_sensible : (g : Guest) (t : Trapped) (r : Result Popped Trouble) → Sensible g (rei_by g t r)
rei_sensible g t (Err trouble) = trouble_sensible g trouble
rei_sensible g t (Ok p) =
    cond_both (rei_refuses g.state.psl p.psl) (Faults excs.ReservedOperand) _ (Sensible g) (λ e. tt)
    (λ e. (with_state g _ (chained (length g.memory) g.state (past_instruction g.state t) _ (after_keeps (length g.memory) g.state t) (returned_keeps (length g.memory) (past_instruction g.state t) p (accepted_psl g.state.psl p.psl e))), none_shown))

-- MTPR
one_packet : (size packet : ℕ) → IsPacket size packet → All (IsPacket size) (packet ∷ [])
one_packet size packet p zero d h = p
one_packet size packet p (suc k) d h = absurd (omega arith)

queue_keeps : (size : ℕ) (s : State) (packet : ℕ) → IsPacket size packet → length s.queue < 8 → Keeps size s (record s { queue = s.queue ++ packet ∷ [] })
queue_keeps size s packet p few = record {
  faults = refl;
  steps = refl;
  allowed = λ h. record {
    p0br = h.p0br;
    p0lr = h.p0lr;
    p1br = h.p1br;
    p1lr = h.p1lr;
    sbr = h.sbr;
    slr = h.slr;
    pcbb = h.pcbb;
    scbb = h.scbb;
    astlvl = h.astlvl;
    sisr = h.sisr;
    psl = h.psl;
    packets = All-append (IsPacket size) s.queue (packet ∷ []) h.packets (one_packet size packet p);
    few = omega (arith, length-append s.queue (packet ∷ []));
  };
}

-- when a packet is queued
abbrev Fits : ℕ → State → ℕ → Accept → Type 0
Fits size s packet Queued = IsPacket size packet × (length s.queue < 8)
Fits size s packet Busy = Unit {0}
Fits size s packet BadPacket = Unit {0}

or_both : (a b : Bool) → (a || b) ≡ false → (a ≡ false) × (b ≡ false)
or_both true b e = cc
or_both false b e = (refl, e)

not_not : (b : Bool) → not b ≡ false → b ≡ true
not_not true e = refl
not_not false e = cc

accepted_fits : (size : ℕ) (s : State) (packet : ℕ) → Fits size s packet (accepted size s packet)
unfolding accepted
accepted_fits size s packet =
    let P = Fits size s packet in
    cond_both (not (eqb (packet % 4) 0) || is_past size packet 24) BadPacket _ P (λ e. tt) (λ e.
    cond_both (leb 8 (length s.queue)) Busy Queued P (λ k. tt) (λ k.
    let two = or_both (not (eqb (packet % 4) 0)) (is_past size packet 24) e in
    let aligned : eqb (packet % 4) 0 ≡ true = not_not _ two.0 in
    let inside : is_past size packet 24 ≡ false = two.1 in
    ((grind (arith, nat_tests), grind (arith, nat_tests)), grind (arith, nat_tests))))

taken_sensible : (g : Guest) (s : State) (packet : ℕ) (a : Accept) → Keeps (length g.memory) g.state s → Fits (length g.memory) s packet a → Sensible g (packet_taken g s packet a)
taken_sensible g s packet BadPacket k f = tt
taken_sensible g s packet Busy k f = (record { size = long_size (status_place packet) busy_status g.memory; keeps = k }, none_shown)
taken_sensible g s packet Queued k f = (with_state g _ (chained (length g.memory) g.state s _ k (queue_keeps (length g.memory) s packet f.0 f.1)), none_shown)

effect_sensible : (g : Guest) (s : State) (e : RegisterEffect) → Keeps (length g.memory) g.state s → Sensible g (with_register_effect g s e)
effect_sensible g s effects.Done k = (with_state g s k, none_shown)
effect_sensible g s effects.Remap k = (with_state g s k, none_shown)
effect_sensible g s (effects.Show byte) k = (with_state g s k, omega arith)
effect_sensible g s (effects.Kcall packet) k = taken_sensible g s packet (accepted (length g.memory) s packet) k (accepted_fits (length g.memory) s packet)

mtpr_sensible : (g : Guest) (t : Trapped) (v : ℕ) (w : Result Written ReservedOperand) → WritesKept (length g.memory) (past_instruction g.state t) w → Sensible g (mtpr_by g v w)
mtpr_sensible g t v (Err refused) h = tt
mtpr_sensible g t v (Ok w) h =
    let size = length g.memory in
    effect_sensible g (with_codes v w.state) w.effect
    (chained size g.state (past_instruction g.state t) _ (after_keeps size g.state t) (chained size (past_instruction g.state t) w.state _ h (codes_keep size v w.state)))

-- MFPR
by_dest : (g : Guest) (dest : Dest) (v : Value) → Keeps (length g.memory) g.state v.state → Sensible g (put_at g dest v)
by_dest g Nowhere v k = (with_state g _ (chained (length g.memory) g.state v.state _ k (codes_keep (length g.memory) v.value v.state)), none_shown)
by_dest g (Register n) v k =
    let size = length g.memory in
    let s : State = record v.state { r = slice_set v.state.r n v.value } in
    (with_state g _ (chained size g.state v.state _ k (chained size v.state s _ (moved size v.state s refl refl refl refl refl refl refl refl (λ j. j)) (codes_keep size v.value s))), none_shown)
by_dest g (Memory at) v k =
    (record { size = bytes_size (guest_write_place g) 4 at v.value g.memory; keeps = chained (length g.memory) g.state v.state _ k (codes_keep (length g.memory) v.value v.state) }, none_shown)

put_sensible : (g : Guest) (t : Trapped) (dest : Dest) (v : Value) → Keeps (length g.memory) (past_instruction g.state t) v.state → Sensible g (put_at g dest v)
put_sensible g t dest v k =
    let size = length g.memory in
    let come : Keeps size g.state v.state = chained size g.state (past_instruction g.state t) v.state (after_keeps size g.state t) k in
    by_dest g dest v come

read_sensible : (g : Guest) (t : Trapped) (dest : Dest) (clear : Option ℕ) (r : Result Value ReservedOperand) → ReadsKept (length g.memory) (past_instruction g.state t) r → Sensible g (after_register_read g dest clear r)
read_sensible g t dest clear (Err refused) k = tt
read_sensible g t dest (Some va) (Ok v) k = tt
read_sensible g t dest None (Ok v) k = put_sensible g t dest v k

mfpr_sensible : (g : Guest) (t : Trapped) (x : Tried ℕ) → Sensible g (mfpr_by g t x)
mfpr_sensible g t (Stopped trouble) = trouble_sensible g trouble
mfpr_sensible g t (Clear va) = read_sensible g t t.dest (Some va) _ (reads_keep (length g.memory) (length g.memory) (past_instruction g.state t) t.a)
mfpr_sensible g t (Completes old) = read_sensible g t t.dest None _ (reads_keep (length g.memory) (length g.memory) (past_instruction g.state t) t.a)

-- LDPCTX and SVPCTX
-- a block that isn't reserved
record IsLoadable (g : Guest) : Type 0 where
  p0br : Allows P0br (loaded_tables g).p0br
  p0lr : Allows P0lr (loaded_tables g).p0lr
  p1br : Allows P1br (loaded_tables g).p1br
  p1lr : Allows P1lr (loaded_tables g).p1lr
  astlvl : Allows Astlvl (loaded_astlvl g)

loadable : (g : Guest) → is_block_reserved g ≡ false → IsLoadable g
unfolding is_block_reserved
loadable g e =
    let a = or_both _ _ e in
    let b = or_both _ _ a.0 in
    let c = or_both _ _ b.0 in
    let d = or_both _ _ c.0 in
    let f = or_both _ _ d.0 in
    let i = or_both _ _ f.0 in
    let j = or_both _ _ i.0 in
    record { p0br = not_not _ j.0; p0lr = not_not _ j.1; p1br = not_not _ i.1; p1lr = not_not _ f.1; astlvl = not_not _ d.1 }

loaded_keeps : (g : Guest) (next_pc : ℕ) → is_block_reserved g ≡ false → Keeps (length g.memory) g.state (loaded g next_pc)
unfolding loaded
loaded_keeps g next_pc e =
    let l = loadable g e in
    record {
      faults = refl;
      steps = refl;
      allowed = λ h. record {
        p0br = inr l.p0br;
        p0lr = l.p0lr;
        p1br = l.p1br;
        p1lr = l.p1lr;
        sbr = h.sbr;
        slr = h.slr;
        pcbb = h.pcbb;
        scbb = h.scbb;
        astlvl = l.astlvl;
        sisr = h.sisr;
        psl = off_stack g.state.psl h.psl;
        packets = h.packets;
        few = h.few;
      };
    }

push_sensible : (g : Guest) (s : State) (w : Walked) → Keeps (length g.memory) g.state s → Sensible g (after_push g s w)
push_sensible g s (Homes hs) k =
    (record { size = pushed_size hs g.memory; keeps = chained (length g.memory) g.state s _ k (moved (length g.memory) s _ refl refl refl refl refl refl refl refl (λ j. j)) }, none_shown)
push_sensible g s (Faulty f) k = tt
push_sensible g s PastMemory k = tt

loads_sensible : (g : Guest) (next_pc : ℕ) → Sensible g (loads_context g next_pc)
unfolding loads_context
loads_sensible g next_pc =
    cond_both (is_block_past g) LacksMemory _ (Sensible g) (λ e. tt) (λ e.
    cond_both (is_block_reserved g) (Faults excs.ReservedOperand) _ (Sensible g) (λ k. tt) (λ k.
    push_sensible g (loaded g next_pc) _ (loaded_keeps g next_pc k)))

one_or_more : (psl : ℕ) → (if eqb (ipl_of psl) 0 then 1 else ipl_of psl) < 32
one_or_more psl = cond_both (eqb (ipl_of psl) 0) 1 (ipl_of psl) (λ n. n < 32) (λ e. omega arith) (λ e. grind arith)

interrupt_keeps : (size : ℕ) (s : State) → Keeps size s (on_interrupt s)
interrupt_keeps size s =
    cond_both (is_on_interrupt_stack s.psl) s _ (Keeps size s) (λ e. same size s)
    (λ e. moved size s _ refl refl refl refl refl refl refl refl (λ k. ipl_changed (on_interrupt_stack s.psl) _ (one_or_more s.psl) (on_stack s.psl k)))

saved_sensible : (g : Guest) (s : State) (p : Popped) → Keeps (length g.memory) g.state s → Sensible g (saved g s p)
saved_sensible g s p k =
    cond_both (is_block_past g) LacksMemory _ (Sensible g) (λ e. tt)
    (λ e. (record { size = longs_size g.state.pcbb (saved_longs s p) g.memory; keeps = chained (length g.memory) g.state s _ k (interrupt_keeps (length g.memory) s) }, none_shown))

pops_sensible : (g : Guest) (next_pc : ℕ) (r : Result Popped Trouble) → Sensible g (after_reads g next_pc r)
pops_sensible g next_pc (Err trouble) = trouble_sensible g trouble
pops_sensible g next_pc (Ok p) = saved_sensible g (after_pops g.state next_pc) p (moved (length g.memory) g.state _ refl refl refl refl refl refl refl refl (λ k. k))

saves_sensible : (g : Guest) (next_pc : ℕ) → Sensible g (saves_context g next_pc)
unfolding saves_context
saves_sensible g next_pc = pops_sensible g next_pc (outcome (space_of g) (two_popped (slice_index g.state.r 14)))

-- each of them
pub sensed_sensible : (g : Guest) (t : Trapped) (op : Sens) → Sensible g (sensed g t op)
unfolding sensed
sensed_sensible g t Halt = halt_sensible g t
sensed_sensible g t Wait = wait_sensible g t
sensed_sensible g t (Chm to) = chm_sensible g t to
sensed_sensible g t Rei = rei_sensible g t (outcome (space_of g) (two_popped (slice_index t.regs 14)))
sensed_sensible g t Mtpr = mtpr_sensible g t t.a (written (past_instruction g.state t) t.b t.a) (written_keeps (length g.memory) (past_instruction g.state t) t.b t.a)
sensed_sensible g t Mfpr = mfpr_sensible g t (tried (space_of g) (is_clear g) (destination_walked t.dest))
sensed_sensible g t Ldpctx = loads_sensible g t.next_pc
sensed_sensible g t Svpctx = saves_sensible g t.next_pc
sensed_sensible g t Prober = tt
sensed_sensible g t Probew = tt
