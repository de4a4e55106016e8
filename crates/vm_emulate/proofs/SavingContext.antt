-- SVPCTX, whole.
use Rattle.std.proofs.Common.{◌≡◌, ℕ, ◌*◌, Bool, true, false, if◌then◌else◌, List, [], length, Some, Result, Ok, Err, refl, ap, ◌∙◌, sym, subst}
use Rattle.std.proofs.lemmas.Bool.{cond_both}
use Rattle.std.specs.Prelude.{slice_index}
use Rattle.vax_arch.specs.Fields.{is_on_interrupt_stack}
use Rattle.vax_arch.specs.Walk.{is_past}
use Rattle.vax_hw.specs.Machine.{Machine}
use Rattle.vax_table.specs.Interaction.{Trouble, outcome}
use Rattle.vax_table.specs.declared.act.Sens.TheVariants.{Svpctx}
use Rattle.vax_table.specs.declared.act.Trapped.{Trapped}
use Rattle.vm_emulate.specs.Emulated.{Senses}
use Rattle.vm_emulate.specs.Readings.{ArePopped, popped_of}
use Rattle.vm_emulate.specs.declared.emulated.Emulated.{Emulated}
use Rattle.vm_emulate.specs.declared.emulated.Emulated.TheVariants as outcomes
use Rattle.vm_emulate.specs.declared.reading.Unread.{Unread}
use Rattle.vm_emulate.specs.declared.reading.Unread.TheVariants as reasons
use Rattle.vm_emulate.specs.declared.returns.Popped.{Popped}
use Rattle.vm_emulate.proofs.Returning.{popped_err, popped_ok}
use Rattle.vm_emulate.proofs.Sensing.{done_stands, faults, lacks, memory_size}
use Rattle.vm_emulate.proofs.Telling.{follows_drops}
use Rattle.vm_exception.specs.Wrote.{Wrote}
use Rattle.vm_shadow.specs.Shadowed.{Shadowed, own}
use Rattle.vm_shadow.specs.StandsFor.{Serves, StandsFor}
use Rattle.vm_shadow.proofs.Covering.{own_is}
use Rattle.vm_state.specs.Contexts as contexts
use Rattle.vm_state.specs.Contexts.{after_pops, after_reads, block_size, is_block_past, long_frames, longs_stored, on_interrupt, saved, saved_longs, saves_context, two_popped}
use Rattle.vm_state.specs.Partition.{guest_of, partition_of}
use Rattle.vm_state.specs.Sensed.{Does, LacksMemory, Sensed}
use Rattle.vm_state.specs.Sensitive.{sensed}
use Rattle.vm_state.specs.State.{Guest, HasPlace, State, state_of, tables_of}
use Rattle.vm_state.specs.Translation.{space_of}
use Rattle.vm_state.specs.declared.exception.Exc.TheVariants as excs
use Rattle.vm_state.specs.declared.guest_state.GuestState.{GuestState}
use Rattle.vm_state.specs.declared.walk.MemFault.{MemFault}

-- the registers of page tables stay
interrupt_tables : (s : State) → (on_interrupt s).tables ≡ s.tables
interrupt_tables s = cond_both (is_on_interrupt_stack s.psl) s _ (λ (x : State). x.tables ≡ s.tables) (λ e. refl) (λ e. refl)

module _ (m : Machine) (s : Shadowed) (g : GuestState) (t : Trapped) (stands : StandsFor m.memory s g) where
  abbrev pub whole : Guest
  whole = guest_of m.memory g

  abbrev pub pops : Result contexts.Popped Trouble
  pops = outcome (space_of whole) (two_popped (slice_index g.r 14))

  abbrev pub comes : Sensed
  comes = saves_context whole t.next_pc

  by_pops : (r : Result contexts.Popped Trouble) → pops ≡ r → comes ≡ after_reads whole t.next_pc r
  unfolding saves_context
  by_pops r e = ap (λ (x : Result contexts.Popped Trouble). after_reads whole t.next_pc x) e

  past_by : (b : Bool) → is_past (512 * g.pages) g.pcbb block_size ≡ b → is_block_past whole ≡ b
  past_by b e = ap (λ n. is_past n g.pcbb block_size) (memory_size m s g stands) ∙ e

  pub saves_faulty : (r : Result Popped Unread) (f : MemFault) → ArePopped whole pops r → r ≡ Err (reasons.Faulty f) → Senses comes m s g (outcomes.Fault (excs.Memory f)) m s g
  saves_faulty r f pop has =
      let e = popped_err whole pops (reasons.Faulty f) (subst (ArePopped whole pops) has pop) in
      faults comes (excs.Memory f) m s g stands (by_pops _ e.1 ∙ e.2)

  pub saves_past : (r : Result Popped Unread) (x : Emulated) (g' : GuestState) → ArePopped whole pops r → r ≡ Err reasons.PastMemory → x ≡ outcomes.PastMemory → state_of g' ≡ record (state_of g) { halt = Some 0x10 } → HasPlace g.pages g.base g.start g' → Senses comes m s g x m s g'
  saves_past r x g' pop has result state place =
      let e = popped_err whole pops reasons.PastMemory (subst (ArePopped whole pops) has pop) in
      subst (λ y. Senses comes m s g y m s g') (sym result) (lacks comes m s g g' stands (by_pops _ e.1 ∙ e.2) state place)

  module _ (r : Result Popped Unread) (q : Popped) (pop : ArePopped whole pops r) (has : r ≡ Ok q) where
    abbrev after_them : State
    after_them = after_pops (state_of g) t.next_pc

    by_block : comes ≡ saved whole after_them (popped_of q)
    by_block = by_pops (Ok (popped_of q)) (popped_ok whole pops q (subst (ArePopped whole pops) has pop))

    abbrev stored : Guest
    stored = record { memory = longs_stored g.pcbb (saved_longs after_them (popped_of q)) (partition_of m.memory g); state = on_interrupt after_them }

    pub saves_nowhere : (x : Emulated) (g' : GuestState) → is_past (512 * g.pages) g.pcbb block_size ≡ true → x ≡ outcomes.PastMemory → state_of g' ≡ record (state_of g) { halt = Some 0x10 } → HasPlace g.pages g.base g.start g' → Senses comes m s g x m s g'
    saves_nowhere x g' past result state place =
        let is : comes ≡ LacksMemory = by_block ∙ ap (λ b. if b then LacksMemory else Does stored [] (long_frames g.pcbb 20)) (past_by true past) in
        subst (λ y. Senses comes m s g y m s g') (sym result) (lacks comes m s g g' stands is state place)

    pub saves_done : (g1 g2 : GuestState) (longs : List ℕ) (m2 : Machine) (s2 : Shadowed) → is_past (512 * g.pages) g.pcbb block_size ≡ false → state_of g1 ≡ after_pops (state_of g) t.next_pc → HasPlace g.pages g.base g.start g1
        → longs ≡ saved_longs (state_of g1) (popped_of q) → length longs ≡ 20 → Wrote (long_frames g1.pcbb (length longs)) (longs_stored g1.pcbb longs (own m.memory s)) m s m2 s2
        → state_of g2 ≡ on_interrupt (state_of g1) → HasPlace g1.pages g1.base g1.start g2 → Senses comes m s g outcomes.Done m2 s2 g2
    unfolding sensed
    saves_done g1 g2 longs m2 s2 past state place are size w state' place' =
        let frames : List ℕ = long_frames g.pcbb 20 in
        let is : comes ≡ Does stored [] frames = by_block ∙ ap (λ b. if b then LacksMemory else Does stored [] frames) (past_by false past) in
        let there : HasPlace g.pages g.base g.start g2 = record { pages = place'.pages ∙ place.pages; base = place'.base ∙ place.base; start = place'.start ∙ place.start } in
        let block : g1.pcbb ≡ g.pcbb = ap (λ (x : State). x.pcbb) state in
        let saves : longs ≡ saved_longs after_them (popped_of q) = are ∙ ap (λ (x : State). saved_longs x (popped_of q)) state in
        let wrote : Wrote frames (longs_stored g.pcbb (saved_longs after_them (popped_of q)) (own m.memory s)) m s m2 s2 =
        subst (λ fs. Wrote fs (longs_stored g.pcbb (saved_longs after_them (popped_of q)) (own m.memory s)) m s m2 s2) (λ i. long_frames (block i) (size i))
        (subst (λ x. Wrote (long_frames g1.pcbb (length longs)) x m s m2 s2) (λ i. longs_stored (block i) (saves i) (own m.memory s)) w) in
        let now : state_of g2 ≡ on_interrupt after_them = state' ∙ ap on_interrupt state in
        let tables : tables_of g2 ≡ tables_of g = ap (λ (x : State). x.tables) now ∙ interrupt_tables after_them in
        let rest = wrote.drops.rest in
        let serves : Serves g2 s2 = record {
          pages = ap (λ (x : Shadowed). x.pages) rest ∙ stands.serves.pages ∙ sym there.pages;
          base = ap (λ (x : Shadowed). x.base) rest ∙ stands.serves.base ∙ sym there.base;
          told = ap (λ (x : Shadowed). x.told) rest ∙ stands.serves.told ∙ sym tables;
        } in
        let memory : partition_of m2.memory g2 ≡ stored.memory = sym (own_is m2.memory s2 g2 serves) ∙ wrote.own ∙ ap (longs_stored g.pcbb (saved_longs after_them (popped_of q))) (own_is m.memory s g stands.serves) in
        let guest : guest_of m2.memory g2 ≡ stored = λ i. record { memory = memory i; state = now i } in
        let keeps = wrote.keeps stands.keeps in
        let told : s2.told ≡ stored.state.tables = serves.told ∙ ap (λ (x : State). x.tables) now in
        record {
          is = rw is (record { guest = guest; follows = follows_drops frames m2.memory s s2 stored.state.tables keeps.fits told wrote.drops });
          stands = done_stands t Svpctx stored [] frames m s g stands is m2 s2 g2 guest there keeps (ap (λ (x : Shadowed). x.pages) rest) (ap (λ (x : Shadowed). x.base) rest) told;
          place = there;
          only = wrote.only;
        }
