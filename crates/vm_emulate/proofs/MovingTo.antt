-- MTPR, whole.
use Rattle.std.proofs.Common.{◌≡◌, ◌⊎◌, inl, inr, ℕ, ◌*◌, List, [], ◌∷◌, length, Ok, Err, ap, ◌∙◌, sym, subst, arith}
use Rattle.vax_hw.specs.Machine.{Machine}
use Rattle.vax_table.specs.declared.act.Sens.TheVariants.{Mtpr}
use Rattle.vax_table.specs.declared.act.Trapped.{Trapped}
use Rattle.vm_emulate.specs.Emulated.{Senses}
use Rattle.vm_emulate.specs.Moved.{MovesToRegister}
use Rattle.vm_emulate.specs.declared.emulated.Emulated.TheVariants as outcomes
use Rattle.vm_emulate.proofs.Same.{same_guest}
use Rattle.vm_emulate.proofs.Sensing.{alone, done_stands, faults, memory_size}
use Rattle.vm_emulate.proofs.Telling.{follows_drops, nothing_dropped}
use Rattle.vm_emulate.proofs.Writing.{Leaves, leaves}
use Rattle.vm_exception.specs.Wrote.{Wrote}
use Rattle.vm_exception.proofs.Writing.{wrote_one}
use Rattle.vm_shadow.specs.Calls.{OnlyTables}
use Rattle.vm_shadow.specs.Shadowed.{CanBeShadowed, Shadowed, own}
use Rattle.vm_shadow.specs.StandsFor.{OnlyGuest, Retells, Serves, StandsFor, Stores, Switches}
use Rattle.vm_shadow.proofs.Covering.{own_is}
use Rattle.vm_shadow.proofs.Filling.{byte_apart, own_apart}
use Rattle.vm_shadow.proofs.Making.{can_stand}
use Rattle.vm_state.specs.Packets.{accepted, after_accept, busy_status, status_place}
use Rattle.vm_state.specs.Partition.{guest_of, partition_of}
use Rattle.vm_state.specs.Registers.{written}
use Rattle.vm_state.specs.Sensed.{Does}
use Rattle.vm_state.specs.Sensitive.{move_to_register, mtpr_by, packet_taken, past_instruction, sensed, with_codes, with_register_effect}
use Rattle.vm_state.specs.State.{Guest, HasPlace, State, state_of, tables_of}
use Rattle.vm_state.specs.Translation.{frame_at, long_stored}
use Rattle.vm_state.specs.declared.exception.Exc.TheVariants as excs
use Rattle.vm_state.specs.declared.guest_state.GuestState.{GuestState}
use Rattle.vm_state.specs.declared.register.RegisterEffect.{RegisterEffect}
use Rattle.vm_state.specs.declared.register.RegisterEffect.TheVariants as effects
use Rattle.vm_state.specs.declared.register.ReservedOperand.{ReservedOperand}
use Rattle.vm_state.specs.declared.transfer.Accept.{Accept}
use Rattle.vm_state.specs.declared.transfer.Accept.TheVariants.{BadPacket, Busy, Queued}
use Rattle.vm_state.proofs.Keeps.{chained}
use Rattle.vm_state.proofs.Kept.{after_keeps, codes_keep}
use Rattle.vm_state.proofs.Registers.{WritesKept, written_keeps}

-- the machine's memory beyond the guest's real tables is as before
pub only_guest : (s : Shadowed) (m m' : Machine) → OnlyTables s.at m m' → OnlyGuest s m m'
only_guest s m m' only = record {
  rest = only.rest;
  size = only.tables.size;
  other = λ p h k. byte_apart (512 * s.at) (512 * 580) m.memory m'.memory p only.tables (split k (λ x. inl x) (λ x. inr (omega arith)));
}
  where
    split : {A B C : Type 0} → A ⊎ B → (A → C) → (B → C) → C
    split (inl a) f g = f a
    split (inr b) f g = g b

module _ (m : Machine) (s : Shadowed) (g : GuestState) (t : Trapped) (stands : StandsFor m.memory s g) where
  abbrev pub whole : Guest
  whole = guest_of m.memory g

  -- the write was refused
  pub is_refused : (refused : ReservedOperand) → written (past_instruction (state_of g) t) t.b t.a ≡ Err refused → Senses (move_to_register whole t) m s g (outcomes.Fault excs.ReservedOperand) m s g
  is_refused refused e = faults (move_to_register whole t) excs.ReservedOperand m s g stands (ap (mtpr_by whole t.a) e)

  module _ (g1 : GuestState) (effect : RegisterEffect) (w : MovesToRegister g t (Ok effect) g1) (place : HasPlace g.pages g.base g.start g1) where
    -- the tables' registers have allowed values
    pub can_switch : CanBeShadowed (tables_of g1)
    can_switch =
        let size = 512 * g.pages in
        let k = subst (WritesKept size (past_instruction (state_of g) t)) w.1 (written_keeps size (past_instruction (state_of g) t) t.b t.a) in
        let all = chained size (state_of g) (past_instruction (state_of g) t) (with_codes t.a w.0) (after_keeps size (state_of g) t) (chained size (past_instruction (state_of g) t) w.0 (with_codes t.a w.0) k (codes_keep size t.a w.0)) in
        subst (λ (x : State). CanBeShadowed x.tables) (sym w.2) (can_stand size (with_codes t.a w.0) (all.allowed stands.allowed))

    comes : move_to_register whole t ≡ with_register_effect whole (with_codes t.a w.0) effect
    comes = ap (mtpr_by whole t.a) w.1

    left : Leaves effect (past_instruction (state_of g) t) w.0
    left = leaves (past_instruction (state_of g) t) w.0 t.b t.a effect w.1

  pub is_done : (g1 : GuestState) → MovesToRegister g t (Ok effects.Done) g1 → HasPlace g.pages g.base g.start g1 → Senses (move_to_register whole t) m s g outcomes.Done m s g1
  unfolding sensed
  is_done g1 w place = alone t Mtpr (with_codes t.a w.0) [] m s g g1 stands (comes g1 effects.Done w place) w.2 place (left g1 effects.Done w place)

  pub is_shown : (byte : ℕ) (g1 : GuestState) → MovesToRegister g t (Ok (effects.Show byte)) g1 → HasPlace g.pages g.base g.start g1 → Senses (move_to_register whole t) m s g outcomes.Done m s g1
  unfolding sensed
  is_shown byte g1 w place = alone t Mtpr (with_codes t.a w.0) (byte ∷ []) m s g g1 stands (comes g1 (effects.Show byte) w place) w.2 place (left g1 (effects.Show byte) w place)

  pub is_queued : (packet : ℕ) (g1 g2 : GuestState) (m2 : Machine) (s2 : Shadowed) → MovesToRegister g t (Ok (effects.Kcall packet)) g1 → HasPlace g.pages g.base g.start g1 → Queued ≡ accepted (512 * g1.pages) (state_of g1) packet → state_of g2 ≡ after_accept Queued packet (state_of g1)
      → HasPlace g1.pages g1.base g1.start g2 → m2 ≡ m → s2 ≡ s → Senses (move_to_register whole t) m s g outcomes.Done m2 s2 g2
  unfolding sensed
  is_queued packet g1 g2 m2 s2 w place a state place' me se =
      let u = with_codes t.a w.0 in
      let size : 512 * g1.pages ≡ length (partition_of m.memory g) = ap (λ n. 512 * n) place.pages ∙ sym (memory_size m s g stands) in
      let accepts : Queued ≡ accepted (length (partition_of m.memory g)) u packet = a ∙ (λ i. accepted (size i) (w.2 i) packet) in
      let is : move_to_register whole t ≡ Does (record whole { state = after_accept Queued packet u }) [] [] = comes g1 (effects.Kcall packet) w place ∙ ap (packet_taken whole u packet) (sym accepts) in
      let there : HasPlace g.pages g.base g.start g2 = record { pages = place'.pages ∙ place.pages; base = place'.base ∙ place.base; start = place'.start ∙ place.start } in
      let k : w.0 ≡ past_instruction (state_of g) t = left g1 (effects.Kcall packet) w place in
      let one = alone t Mtpr (after_accept Queued packet u) [] m s g g2 stands is (state ∙ ap (after_accept Queued packet) w.2) there (ap (λ (x : State). x.tables) k) in
      subst (λ x. Senses (move_to_register whole t) m s g outcomes.Done x s2 g2) (sym me) (subst (λ x. Senses (move_to_register whole t) m s g outcomes.Done m x g2) (sym se) one)

  -- registers of page tables
  pub is_remapped_by : (g1 : GuestState) (m' : Machine) (s' : Shadowed) → MovesToRegister g t (Ok effects.Remap) g1 → HasPlace g.pages g.base g.start g1 → Switches g1 m s m' s' → Senses (move_to_register whole t) m s g outcomes.Done m' s' g1
  unfolding sensed
  is_remapped_by g1 m' s' w place sw =
      let u = with_codes t.a w.0 in
      let h : Guest = record { memory = partition_of m.memory g; state = u } in
      let is : move_to_register whole t ≡ Does h [] [] = comes g1 effects.Remap w place in
      let tables : tables_of g1 ≡ u.tables = ap (λ (x : State). x.tables) w.2 in
      let memory : partition_of m'.memory g1 ≡ partition_of m.memory g =
      sym (own_is m'.memory s' g1 sw.serves) ∙ ap (own m'.memory) sw.rest ∙ own_apart m.memory m'.memory s stands.keeps.fits sw.only.tables ∙ own_is m.memory s g stands.serves in
      let guest : guest_of m'.memory g1 ≡ h = λ i. record { memory = memory i; state = w.2 i } in
      let tells : Retells (tables_of g1) s s' = record { takes = sw.takes; each = sw.each } in
      record {
        is = rw is (record { guest = guest; follows = record { between = s; drops = nothing_dropped s; retells = subst (λ x. Retells x s s') tables tells; rest = sw.rest } });
        stands = done_stands t Mtpr h [] [] m s g stands is m' s' g1 guest place sw.keeps (ap (λ (x : Shadowed). x.pages) sw.rest) (ap (λ (x : Shadowed). x.base) sw.rest) (sw.serves.told ∙ tables);
        place = place;
        only = only_guest s m m' sw.only;
      }

  module _ (packet : ℕ) (g1 g2 : GuestState) (m2 : Machine) (s2 : Shadowed) (w : MovesToRegister g t (Ok (effects.Kcall packet)) g1) (place : HasPlace g.pages g.base g.start g1) (place' : HasPlace g1.pages g1.base g1.start g2) where
    there : HasPlace g.pages g.base g.start g2
    there = record { pages = place'.pages ∙ place.pages; base = place'.base ∙ place.base; start = place'.start ∙ place.start }

    unchanged : w.0 ≡ past_instruction (state_of g) t
    unchanged = left g1 (effects.Kcall packet) w place

    takes : (a : Accept) → a ≡ accepted (512 * g1.pages) (state_of g1) packet → move_to_register whole t ≡ packet_taken whole (with_codes t.a w.0) packet a
    takes a e =
        let size : 512 * g1.pages ≡ length (partition_of m.memory g) = ap (λ n. 512 * n) place.pages ∙ sym (memory_size m s g stands) in
        comes g1 (effects.Kcall packet) w place ∙ ap (packet_taken whole (with_codes t.a w.0) packet) (sym (e ∙ (λ i. accepted (size i) (w.2 i) packet)))

    pub is_busy : Busy ≡ accepted (512 * g1.pages) (state_of g1) packet → state_of g2 ≡ after_accept Busy packet (state_of g1) → Stores (status_place packet) (long_stored (status_place packet) busy_status (own m.memory s)) m s m2 s2
        → Senses (move_to_register whole t) m s g outcomes.Done m2 s2 g2
    unfolding sensed
    is_busy a state st =
        let u = with_codes t.a w.0 in
        let mine = own_is m.memory s g stands.serves in
        let h : Guest = record { memory = long_stored (status_place packet) busy_status (partition_of m.memory g); state = u } in
        let frames : List ℕ = frame_at (status_place packet) ∷ [] in
        let is : move_to_register whole t ≡ Does h [] frames = takes Busy a in
        let wrote : Wrote frames (long_stored (status_place packet) busy_status (own m.memory s)) m s m2 s2 = wrote_one (status_place packet) _ m m2 s s2 st in
        let now : state_of g2 ≡ u = state ∙ w.2 in
        let tables : tables_of g2 ≡ tables_of g = ap (λ (x : State). x.tables) (now ∙ ap (with_codes t.a) unchanged) in
        let rest = wrote.drops.rest in
        let serves : Serves g2 s2 = record {
          pages = ap (λ (x : Shadowed). x.pages) rest ∙ stands.serves.pages ∙ sym there.pages;
          base = ap (λ (x : Shadowed). x.base) rest ∙ stands.serves.base ∙ sym there.base;
          told = ap (λ (x : Shadowed). x.told) rest ∙ stands.serves.told ∙ sym tables;
        } in
        let memory : partition_of m2.memory g2 ≡ long_stored (status_place packet) busy_status (partition_of m.memory g) = sym (own_is m2.memory s2 g2 serves) ∙ wrote.own ∙ ap (long_stored (status_place packet) busy_status) mine in
        let guest : guest_of m2.memory g2 ≡ h = λ i. record { memory = memory i; state = now i } in
        let keeps = wrote.keeps stands.keeps in
        let told : s2.told ≡ u.tables = serves.told ∙ ap (λ (x : State). x.tables) now in
        record {
          is = rw is (record { guest = guest; follows = follows_drops frames m2.memory s s2 u.tables keeps.fits told wrote.drops });
          stands = done_stands t Mtpr h [] frames m s g stands is m2 s2 g2 guest there keeps (ap (λ (x : Shadowed). x.pages) rest) (ap (λ (x : Shadowed). x.base) rest) told;
          place = there;
          only = wrote.only;
        }

    pub is_bad : BadPacket ≡ accepted (512 * g1.pages) (state_of g1) packet → state_of g2 ≡ after_accept BadPacket packet (state_of g1) → m2 ≡ m → s2 ≡ s → Senses (move_to_register whole t) m s g (outcomes.Fault excs.ReservedOperand) m2 s2 (record g2 { r = g.r; psl = g.psl })
    is_bad a state me se =
        let back : State → State = λ x. record x { r = g.r; psl = g.psl.0 } in
        let old : record g2 { r = g.r; psl = g.psl } ≡ g = same_guest g (record g2 { r = g.r; psl = g.psl }) (ap back (state ∙ w.2 ∙ ap (with_codes t.a) unchanged)) (record { pages = there.pages; base = there.base; start = there.start }) in
        let one = faults (move_to_register whole t) excs.ReservedOperand m s g stands (takes BadPacket a) in
        subst (λ (x : GuestState). Senses (move_to_register whole t) m s g (outcomes.Fault excs.ReservedOperand) m2 s2 x) (sym old)
        (subst (λ x. Senses (move_to_register whole t) m s g (outcomes.Fault excs.ReservedOperand) x s2 g) (sym me) (subst (λ x. Senses (move_to_register whole t) m s g (outcomes.Fault excs.ReservedOperand) m x g) (sym se) one))
