-- An instruction that the machine retires is one that the guest completes.
use Rattle.std.proofs.Common.{◌≡◌, ℕ, ◌+◌, ◌*◌, ◌/◌, ◌%◌, ◌^◌, ◌<◌, ◌≤◌, ◌⊎◌, inl, inr, Bool, true, false, ◌&&◌, List, [], ◌∷◌, map, Option, Some, None, Result, Ok, Err, refl, ap, ◌∙◌, sym, subst, arith, if◌then◌else◌}
use Rattle.std.specs.Prelude.{slice_index}
use Rattle.std.proofs.lemmas.Bool.{not-false}
use Rattle.vax_arch.specs.Fields.{current_of, is_modified, is_valid, mode_of, previous_of}
use Rattle.vax_arch.specs.Ring.{ring_of}
use Rattle.vax_arch.specs.Walk.{page_of}
use Rattle.vax_arch.specs.declared.mode.Intent.{Intent}
use Rattle.vax_arch.specs.declared.mode.Intent.TheVariants as intents
use Rattle.vax_hw.specs.Machine.{Machine, is_real_bit_clear as machine_clear, machine_write_place as machine_place, psw_of, retire, seen_psl, machine_space, machine_tables}
use Rattle.vax_hw.specs.Real.{Retired, retired_by_try, in_kernel, carried_out, machine_step, retired_by_probe, real_probe}
use Rattle.vax_hw.specs.RealTables.{both_judged, access_judged, place_in, place_or_end}
use Rattle.vax_table.specs.Claims.{claims}
use Rattle.vax_table.specs.Probing.{last_of, probe_mode}
use Rattle.vax_table.specs.Effects.{Effect, long_of}
use Rattle.vax_table.specs.Plan.{probed}
use Rattle.vax_table.specs.Interaction.{IsIn, Trouble, outcome}
use Rattle.vax_table.specs.Stores.{all_stored}
use Rattle.vax_table.specs.Trail.{term}
use Rattle.vax_table.specs.Tries.{Clear, Completes, Stopped, Tried, TriedFar, first_clear, tried_by, unless_clear}
use Rattle.vax_table.specs.Whole.{Act, Meant, Plain, Probes, Traps, is_kernel_mode, meant}
use Rattle.vax_table.specs.declared.evaluation.Operands.{Operands}
use Rattle.vax_table.proofs.Wholes.{probes_claim_none, stores_claimed}
use Rattle.vm_shadow.specs.Laws.{guest_place, real_place}
use Rattle.vm_shadow.specs.Layout.{all_entries, real_tables}
use Rattle.vm_shadow.specs.Shadowed.{Shadowed, is_opened, is_pending, is_read_from, mapped_frame, own, read_at, real_at}
use Rattle.vm_shadow.specs.StandsFor.{own_number}
use Rattle.vm_shadow.proofs.Covering.{own_is}
use Rattle.vm_shadow.proofs.Hearing.{clear_by, probes, size_is}
use Rattle.vm_simulation_laws.specs.Laws.{IsRetired, Leaves, RetiresTheGuest, frames_claimed}
use Rattle.vm_simulation_laws.specs.Loaded.{RunsGuest, as_run, frames_opened, guest_try}
use Rattle.vax_table.proofs.Answered.{claims_answered}
use Rattle.vm_simulation_laws.proofs.Claimed.{claimed_written}
use Rattle.vm_simulation_laws.proofs.Mapped.{mapped}
use Rattle.vm_simulation_laws.proofs.Meeting.{byte_ok}
use Rattle.vm_simulation_laws.proofs.Narrow.{claims_low, narrow, narrowly}
use Rattle.vm_simulation_laws.proofs.Spaces.{far, high_part, machine_bit, machine_byte, machine_instruction, last_low, machine_try, place_within, ring_of_asked, same_mode}
use Rattle.vm_simulation_laws.proofs.Stores.{AreStored, IsTarget, all_are, opened_pending, pend}
use Rattle.vm_state.specs.Partition.{guest_of, partition_of}
use Rattle.vm_state.specs.Probe.{Answers, both, probe}
use Rattle.vm_state.specs.State.{Guest, mode_of_state, pc_of, state_of}
use Rattle.vm_state.specs.Step as steps
use Rattle.vm_state.specs.Step.{by_try as guest_by_try, instruction_of, trapped_in, with_effect}
use Rattle.vm_state.specs.Translation.{frame_at, guest_write_place, is_clear, space_of, walk_of, walked_place}
use Rattle.vm_state.specs.declared.guest_state.GuestState.{GuestState}
use Rattle.vm_state.specs.declared.walk.Walk.{Walk}
use Rattle.vm_state.specs.declared.walk.Walk.TheVariants as walks

none_here : (c : ℕ → Bool) (x va : ℕ) (xs : List ℕ) (t : Bool) (rest : Option ℕ) → c x ≡ t → (if t then Some x else rest) ≡ None → (rest ≡ None → IsIn va xs → c va ≡ false) → (va ≡ x) ⊎ IsIn va xs → c va ≡ false
none_here c x va xs true rest is e more h = cc
none_here c x va xs false rest is e more (inl same) = ap c same ∙ is
none_here c x va xs false rest is e more (inr i) = more e i

-- none of what was claimed has a clear modify bit
none_clear : (c : ℕ → Bool) (vas : List ℕ) → first_clear c vas ≡ None → (va : ℕ) → IsIn va vas → c va ≡ false
none_clear c [] e va h = absurd h
none_clear c (x ∷ xs) e va h = none_here c x va xs (c x) (first_clear c xs) refl e (λ f i. none_clear c xs f va i) h

-- a try that completes
completes_unless : {A : Type 0} (a b : A) (x : Option ℕ) → unless_clear a x ≡ Completes b → (a ≡ b) × (x ≡ None)
completes_unless a b None e = (cc, refl)
completes_unless a b (Some va) e = cc

completed : {A : Type 0} (c : ℕ → Bool) (vas : List ℕ) (r : Result A Trouble) (b : A) → tried_by c vas r ≡ Completes b → (r ≡ Ok b) × (first_clear c vas ≡ None)
completed c vas (Ok a) b e = let u = completes_unless a b (first_clear c vas) e in (ap Ok u.0, u.1)
completed c vas (Err t) b e = cc

pub place_found : (memory : List ℕ) (w : Walk) (q : ℕ) → guest_place w ≡ Ok q → walked_place memory w ≡ q
place_found memory (walks.Frame pa entry table) q e = cc
place_found memory (walks.Fault f) q e = cc
place_found memory walks.Beyond q e = cc

-- both bytes are judged
both_some : (x y : Option Bool) (b : Bool) → both_judged x y ≡ Some b → (a : Bool) × (c : Bool) × (x ≡ Some a) × (y ≡ Some c) × (a && c ≡ b)
both_some (Some a) (Some c) b e = (a, c, refl, refl, cc)
both_some (Some a) None b e = cc
both_some None y b e = cc

-- another status word is another on both sides
both_set : (v a g p : ℕ) → v / 256 * 256 + a % 256 ≡ g → v / 256 * 256 + (a / 256 * 256 + p % 256) % 256 ≡ g / 256 * 256 + p % 256
both_set v a g p e = grind arith

low_part : (v a g : ℕ) → v / 256 * 256 + a % 256 ≡ g → a % 256 ≡ g % 256
low_part v a g e = grind arith

same_previous : (p q : ℕ) → q / 256 ≡ p / 256 → previous_of q ≡ previous_of p
same_previous p q e = ap mode_of (higher p q e)
  where
    higher : (p q : ℕ) → q / 256 ≡ p / 256 → q / 2 ^ 22 ≡ p / 2 ^ 22
    higher p q e = grind arith

module _ (opened : List ℕ) (m : Machine) (s : Shadowed) (g : GuestState) (k : RunsGuest opened m s g) where
  abbrev pub here : Guest
  here = guest_of m.memory g

  abbrev pub pending : List ℕ
  pending = frames_opened m.memory s opened

  unread_by : (n j frame : ℕ) → n < all_entries → j < all_entries → is_valid (real_at m.memory s j) ≡ true → is_modified (real_at m.memory s j) ≡ true → mapped_frame s (real_at m.memory s j) ≡ frame → is_pending pending (read_at s n) ≡ false → (t : Bool) → is_opened j opened ≡ t → is_read_from frame (read_at s n) ≡ false
  unread_by n j frame h c valid set is p true o = subst (λ f. is_read_from f (read_at s n) ≡ false) is (opened_pending m.memory s j opened (read_at s n) o p)
  unread_by n j frame h c valid set is p false o = subst (λ f. is_read_from f (read_at s n) ≡ false) is (k.keeps.guarded n j h c o valid set)

  -- a byte that is claimed, with its modify bit set
  target : (x : Meant) (va : ℕ) → outcome (machine_space m) (machine_instruction opened m s g k) ≡ Ok x → IsIn va (claims (machine_space m) (machine_instruction opened m s g k)) → machine_clear m va ≡ false → IsTarget pending s (machine_place m) (guest_write_place here) va
  target x va ok claimed set =
      let script = machine_instruction opened m s g k in
      let small = claims_low (machine_space m) script va claimed in
      let (b, has) = claims_answered (machine_space m) script x ok va claimed in
      let (place, is) = byte_ok m.memory (real_place m.memory s (current_of g.psl.0) intents.Write va) b (sym (machine_byte opened m s g k intents.Write va) ∙ has) in
      let w = mapped opened m.memory s g k.keeps k.serves (current_of g.psl.0) intents.Write va small place is in
      let j = own_number s (page_of va) in
      let mine : guest_write_place here va ≡ w.own = place_found (partition_of m.memory g) (walk_of here va (current_of g.psl.0) intents.Write) w.own w.has in
      let real : machine_place m va ≡ place = (λ i. place_or_end m.memory (place_in m.memory (k.loads.tables i) (k.loads.current i) intents.Write va)) ∙ ap (place_or_end m.memory) is in
      let on = not-false (is_modified (real_at m.memory s j)) (sym (clear_by opened m.memory s g k.keeps k.serves va w.covered) ∙ sym (machine_bit opened m s g k va) ∙ set) in
      record {
        there = real ∙ w.moves ∙ ap (λ q. 512 * s.base + q) (sym mine);
        inside = omega (arith, mine, place_within m.memory g (current_of g.psl.0) intents.Write va w.own w.has, size_is opened m.memory s g k.keeps k.serves);
        unread = λ n h p. unread_by n j (guest_write_place here va / 512) h w.small w.valid on (w.frame ∙ ap (λ q. q / 512) (sym mine)) p (is_opened j opened) refl;
      }

  -- the guest after an instruction with this effect
  after_effect : (opcode : ℕ) (e : Effect) → AreStored pending opened s m.memory (all_stored (machine_place m) e.writes m.memory) (all_stored (guest_write_place here) e.writes (own m.memory s)) → guest_of (retire opcode e m).memory (as_run (retire opcode e m).world g) ≡ with_effect here e
  unfolding retire
  after_effect opcode e stored =
      let psl = both_set m.world.vmpsl.0 m.world.psl.0 g.psl.0 e.psw k.loads.psl in
      let memory : partition_of (all_stored (machine_place m) e.writes m.memory) g ≡ all_stored (guest_write_place here) e.writes (partition_of m.memory g) =
      sym (own_is (all_stored (machine_place m) e.writes m.memory) s g k.serves) ∙ stored.own ∙ ap (all_stored (guest_write_place here) e.writes) (own_is m.memory s g k.serves) in
      λ i. record { memory = memory i; state = record (state_of g) { r = e.r; psl = psl i } }

  retired_as : (opcode : ℕ) (e : Effect) → AreStored pending opened s m.memory (all_stored (machine_place m) e.writes m.memory) (all_stored (guest_write_place here) e.writes (own m.memory s)) →
      guest_by_try here (guest_try here) ≡ trapped_in (steps.Plain (term (pc_of (state_of g)) opcode e.r)) (frames_claimed here) (with_effect here e) e.trap → Leaves here (with_effect here e) e.trap → IsRetired opened m s g (record { machine = retire opcode e m; trap = e.trap })
  unfolding retire
  retired_as opcode e stored plain leaves =
      let psl = both_set m.world.vmpsl.0 m.world.psl.0 g.psl.0 e.psw k.loads.psl in
      let high : (m.world.vmpsl.0 / 256 * 256 + (m.world.psl.0 / 256 * 256 + e.psw % 256) % 256) / 256 ≡ g.psl.0 / 256 = ap (λ x. x / 256) psl ∙ high_part g.psl.0 e.psw in
      record {
        term = term (pc_of (state_of g)) opcode e.r;
        plain = plain ∙ ap (λ h. trapped_in (steps.Plain (term (pc_of (state_of g)) opcode e.r)) (frames_claimed here) h e.trap) (sym (after_effect opcode e stored));
        leaves = subst (λ h. Leaves here h e.trap) (sym (after_effect opcode e stored)) leaves;
        keeps = stored.keeps;
        loads = record {
          r = refl;
          psl = refl;
          current = same_mode m.world.psl.0 (m.world.psl.0 / 256 * 256 + e.psw % 256) (high_part m.world.psl.0 e.psw) ∙ k.loads.current ∙ ap ring_of (sym (same_mode g.psl.0 (m.world.vmpsl.0 / 256 * 256 + (m.world.psl.0 / 256 * 256 + e.psw % 256) % 256) high));
          previous = same_previous m.world.psl.0 (m.world.psl.0 / 256 * 256 + e.psw % 256) (high_part m.world.psl.0 e.psw) ∙ k.loads.previous ∙ ap ring_of (sym (same_previous g.psl.0 (m.world.vmpsl.0 / 256 * 256 + (m.world.psl.0 / 256 * 256 + e.psw % 256) % 256) high));
          tables = k.loads.tables;
        };
        high = high;
        only = record { size = stored.size; other = λ p h. stored.other p (at_own p h) };
        retired = refl;
        trail = ap (λ r. (m.trail + term (slice_index r 15) opcode e.r) % 2 ^ 64) k.loads.r;
        misses = refl;
      }
    where
      at_own : (p : ℕ) → (p < 512 * g.base) ⊎ (512 * (g.base + g.pages) ≤ p) → (p < 512 * s.base) ⊎ (512 * (s.base + s.pages) ≤ p)
      at_own p (inl h) = inl (omega (arith, h, k.serves.base))
      at_own p (inr h) = inr (omega (arith, h, k.serves.base, k.serves.pages))

  guest_outcome : (x : Meant) → guest_try here ≡ Completes x → outcome (space_of here) (instruction_of here.state) ≡ Ok x
  guest_outcome x own = (completed (is_clear here) (claims (space_of here) (instruction_of here.state)) (outcome (space_of here) (instruction_of here.state)) x own).0

  -- a plain instruction
  plain_retired : (opcode : ℕ) (e : Effect) (x : Retired) → machine_try opened m s g k ≡ Completes (meant opcode (Plain e)) → guest_try here ≡ Completes (meant opcode (Plain e)) → carried_out m opcode (Plain e) ≡ Ok x → IsRetired opened m s g x
  plain_retired opcode e x is own h =
      let script = machine_instruction opened m s g k in
      let space = machine_space m in
      let done = completed (machine_clear m) (claims space script) (outcome space script) (meant opcode (Plain e)) is in
      let stored = all_are pending opened s (machine_place m) (guest_write_place here) (claims space script) (λ va c. target (meant opcode (Plain e)) va done.0 c (none_clear (machine_clear m) (claims space script) done.1 va c)) e.writes m.memory (stores_claimed (in_kernel m.world) (seen_psl m.world) m.world.r space opcode e done.0) (pend opened m.memory s pending k.keeps) in
      let made : Retired = record { machine = retire opcode e m; trap = e.trap } in
      let same : made ≡ x = cc in
      subst (IsRetired opened m s g) same (retired_as opcode e stored (ap (guest_by_try here) own ∙ ap (λ frames. trapped_in (steps.Plain (term (pc_of (state_of g)) opcode e.r)) frames (with_effect here e) e.trap) (sym (claimed_written here opcode e (guest_outcome (meant opcode (Plain e)) own))))
      (record { opcode = opcode; act = Plain e; try = own; later = (refl, refl) }))

  nothing_stored : AreStored pending opened s m.memory m.memory (own m.memory s)
  nothing_stored = record { keeps = pend opened m.memory s pending k.keeps; own = refl; size = refl; other = λ p h. refl }

  -- a PROBE that the machine does
  probe_is : (i : Intent) (named bytes base : ℕ) (b : Bool) → base < 2 ^ 32 → real_probe m.memory m.world i named bytes base ≡ Some b → probe here i named bytes base ≡ Answers b true
  unfolding probe
  probe_is i named bytes base b small e =
      let last = last_of base (bytes % 2 ^ 16) in
      let mode = probe_mode g.psl.0 named in
      let ring : probe_mode m.world.psl.0 named ≡ ring_of mode = ring_of_asked opened m s g k named in
      let asked : (va : ℕ) → access_judged m.memory (machine_tables m.world) (probe_mode m.world.psl.0 named) i va ≡ access_judged m.memory (real_tables s.at s.slot) (ring_of mode) i va = λ va j. access_judged m.memory (k.loads.tables j) (ring j) i va in
      let (x, y, first, second, all) = both_some (access_judged m.memory (machine_tables m.world) (probe_mode m.world.psl.0 named) i base) (access_judged m.memory (machine_tables m.world) (probe_mode m.world.psl.0 named) i last) b e in
      let p = probes opened m.memory s g k.keeps k.serves mode i base x small (sym (asked base) ∙ first) in
      let q = probes opened m.memory s g k.keeps k.serves mode i last y (last_low base (bytes % 2 ^ 16) small) (sym (asked last) ∙ second) in
      (λ j. both (p j) (q j)) ∙ ap (λ z. Answers z true) all

  probe_retired : (opcode : ℕ) (i : Intent) (o : Operands) (x : Retired) (j : Option Bool) → real_probe m.memory m.world i (long_of o 0) (long_of o 1) (long_of o 2) ≡ j → guest_try here ≡ Completes (meant opcode (Probes i o)) → retired_by_probe m opcode i o j ≡ Ok x → IsRetired opened m s g x
  probe_retired opcode i o x None is own h = cc
  probe_retired opcode i o x (Some b) is own h =
      let e = probed b o (psw_of m.world) in
      let made : Retired = record { machine = retire opcode e m; trap = e.trap } in
      let same : made ≡ x = cc in
      let psw : g.psl.0 % 2 ^ 8 ≡ psw_of m.world = sym (low_part m.world.vmpsl.0 m.world.psl.0 g.psl.0 k.loads.psl) in
      let answers = probe_is i (long_of o 0) (long_of o 1) (long_of o 2) b (omega arith) is in
      let none : frames_claimed here ≡ [] = ap (map (λ va. frame_at (guest_write_place here va))) (probes_claim_none (is_kernel_mode (mode_of_state here.state)) here.state.psl here.state.r (space_of here) opcode i o (guest_outcome (meant opcode (Probes i o)) own)) in
      let step : guest_by_try here (guest_try here) ≡ trapped_in (steps.Plain (term (pc_of (state_of g)) opcode o.r)) (frames_claimed here) (with_effect here e) None =
      ap (guest_by_try here) own ∙ ap (steps.probed_as here opcode o) answers ∙ ap (λ w. trapped_in (steps.Plain (term (pc_of (state_of g)) opcode o.r)) [] (with_effect here (probed b o w)) None) psw
      ∙ ap (λ frames. trapped_in (steps.Plain (term (pc_of (state_of g)) opcode o.r)) frames (with_effect here e) None) (sym none) in
      subst (IsRetired opened m s g) same (retired_as opcode e nothing_stored step (record { opcode = opcode; act = Probes i o; try = own; later = (b, answers, ap (λ w. with_effect here (probed b o w)) (sym psw), refl) }))

  act_retired : (opcode : ℕ) (act : Act) (x : Retired) → machine_try opened m s g k ≡ Completes (meant opcode act) → guest_try here ≡ Completes (meant opcode act) → carried_out m opcode act ≡ Ok x → IsRetired opened m s g x
  act_retired opcode (Plain e) x is own h = plain_retired opcode e x is own h
  act_retired opcode (Traps t) x is own h = cc
  act_retired opcode (Probes i o) x is own h = probe_retired opcode i o x _ refl own h

  retired_by : (t : Tried Meant) (x : Retired) → machine_try opened m s g k ≡ t → retired_by_try m t ≡ Ok x → IsRetired opened m s g x
  retired_by (Completes y) x is h =
      let own = subst (λ z. TriedFar (narrow (machine_space m)) (narrow (space_of here)) (narrowly (machine_clear m)) (narrowly (is_clear here)) z (guest_try here)) is (far opened m s g k) in
      act_retired y.opcode y.act x is own h
  retired_by (Clear va) x is h = cc
  retired_by (Stopped t) x is h = cc

pub retires : RetiresTheGuest
unfolding machine_step
retires opened m s g x k h = retired_by opened m s g k (machine_try opened m s g k) x refl h
