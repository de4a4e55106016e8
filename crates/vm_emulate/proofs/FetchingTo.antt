-- MFPR, whole.
use Rattle.std.proofs.Common.{◌≡◌, ℕ, ◌*◌, List, [], ◌++◌, length, Option, Some, None, Result, Ok, Err, refl, ap, ◌∙◌, sym, subst}
use Rattle.vax_hw.specs.Machine.{Machine}
use Rattle.vax_table.specs.Claims.{addresses}
use Rattle.vax_table.specs.Interaction.{Trouble, by_result, number_at}
use Rattle.vax_table.specs.Stores.{bytes_stored}
use Rattle.vax_table.specs.Tries.{first_clear, tried_by, unless_clear}
use Rattle.vax_table.specs.declared.act.Dest.{Dest}
use Rattle.vax_table.specs.declared.act.Dest.TheVariants.{Memory, Nowhere, Register}
use Rattle.vax_table.specs.declared.act.Sens.TheVariants.{Mfpr}
use Rattle.vax_table.specs.declared.act.Trapped.{Trapped}
use Rattle.vax_arch.specs.declared.mode.Intent.TheVariants.{Write}
use Rattle.vm_emulate.specs.Emulated.{Senses}
use Rattle.vm_emulate.specs.Fetched.{ArePlaces, MovesFromRegister, bytes_placed, with_value}
use Rattle.vm_emulate.specs.declared.emulated.Emulated.TheVariants as outcomes
use Rattle.vm_emulate.proofs.Fetching.{bytes_put, frames_put}
use Rattle.vm_emulate.proofs.Sensing.{alone, done_stands, memory_size}
use Rattle.vm_emulate.proofs.Telling.{follows_drops}
use Rattle.vm_exception.specs.Wrote.{PutsHomes, Wrote, frames_of}
use Rattle.vm_shadow.specs.Shadowed.{Shadowed, own}
use Rattle.vm_shadow.specs.StandsFor.{Serves, StandsFor}
use Rattle.vm_shadow.proofs.Covering.{own_is}
use Rattle.vm_state.specs.Partition.{guest_of, partition_of}
use Rattle.vm_state.specs.Pushes.{all_put}
use Rattle.vm_state.specs.Registers.{Value, after_read, read, read_or_refused, read_to, register_of, register_row}
use Rattle.vm_state.specs.Sensed.{Does, Sensed}
use Rattle.vm_state.specs.Sensitive.{after_register_read, frames_of_bytes, mfpr_by, move_from_register, past_instruction, sensed, with_codes}
use Rattle.vm_state.specs.State.{Guest, HasPlace, State, state_of, tables_of}
use Rattle.vm_state.specs.Translation.{guest_write_place, is_clear, space_of}
use Rattle.vm_state.specs.declared.guest_state.GuestState.{GuestState}
use Rattle.vm_state.specs.declared.register.Register as registers
use Rattle.vm_state.specs.declared.register.Register.TheVariants.{Rxdb}
use Rattle.vm_state.specs.declared.register.ReservedOperand.{ReservedOperand}

-- a read changes no register of page tables
read_leaves : (r : registers.Register) (s : State) → (after_read r s).tables ≡ s.tables
read_leaves Rxdb s = refl
read_leaves r s = refl

abbrev ReadLeaves : State → Result Value ReservedOperand → Type 0
ReadLeaves s (Ok v) = v.state.tables ≡ s.tables
ReadLeaves s (Err refused) = Unit {0}

by_value : (s : State) (r : registers.Register) (v : Option ℕ) → ReadLeaves s (read_to s r v)
by_value s r None = tt
by_value s r (Some v) = read_leaves r s

by_register : (size : ℕ) (s : State) (r : Option registers.Register) → ReadLeaves s (read_or_refused size s r)
by_register size s None = tt
by_register size s (Some r) = by_value s r ((register_row r).value size s)

leaves_tables : (size number v : ℕ) (s u : State) → read size s number ≡ Ok (record { value = v; state = u }) → u.tables ≡ s.tables
unfolding read
leaves_tables size number v s u e = subst (ReadLeaves s) e (by_register size s (register_of number))

value_leaves : (d : Dest) (v : ℕ) (s : State) → (with_value d v s).tables ≡ s.tables
value_leaves Nowhere v s = refl
value_leaves (Register n) v s = refl
value_leaves (Memory at) v s = refl

module _ (m : Machine) (s : Shadowed) (g : GuestState) (t : Trapped) (stands : StandsFor m.memory s g) where
  abbrev pub whole : Guest
  whole = guest_of m.memory g

  -- with another destination
  abbrev to : Dest → Trapped
  to d = record t { dest = d }

  -- what is read of the guest after the instruction
  abbrev what : Result Value ReservedOperand
  what = read (length whole.memory) (past_instruction (state_of g) t) t.a

  read_as : what ≡ read (512 * g.pages) (past_instruction (state_of g) t) t.a
  read_as = ap (λ n. read n (past_instruction (state_of g) t) t.a) (memory_size m s g stands)

  -- a destination that is no memory
  outside : (d : Dest) → ((at : ℕ) → d ≡ Memory at → ⊥) → move_from_register whole (to d) ≡ after_register_read whole d None what
  outside Nowhere apart = refl
  outside (Register n) apart = refl
  outside (Memory at) apart = absurd (apart at refl)

  outside_as : (d : Dest) (v : ℕ) (u : State) → ((at : ℕ) → d ≡ Memory at → ⊥) → after_register_read whole d None (Ok (record { value = v; state = u })) ≡ Does (record { memory = partition_of m.memory g; state = with_value d v (with_codes v u) }) [] []
  outside_as Nowhere v u apart = refl
  outside_as (Register n) v u apart = refl
  outside_as (Memory at) v u apart = absurd (apart at refl)

  pub is_kept : (v : ℕ) (g1 g2 : GuestState) → ((at : ℕ) → t.dest ≡ Memory at → ⊥) → MovesFromRegister g t (Ok v) g1 → HasPlace g.pages g.base g.start g1 → state_of g2 ≡ with_value t.dest v (state_of g1) → HasPlace g1.pages g1.base g1.start g2 → Senses (move_from_register whole t) m s g outcomes.Done m s g2
  unfolding sensed
  is_kept v g1 g2 apart w place state place' =
      let u = with_value t.dest v (with_codes v w.0) in
      let is : move_from_register whole t ≡ Does (record { memory = partition_of m.memory g; state = u }) [] [] = outside t.dest apart ∙ ap (after_register_read whole t.dest None) (read_as ∙ w.1) ∙ outside_as t.dest v w.0 apart in
      let there : HasPlace g.pages g.base g.start g2 = record { pages = place'.pages ∙ place.pages; base = place'.base ∙ place.base; start = place'.start ∙ place.start } in
      alone t Mfpr u [] m s g g2 stands is (state ∙ ap (with_value t.dest v) w.2) there (value_leaves t.dest v (with_codes v w.0) ∙ leaves_tables (512 * g.pages) t.a v (past_instruction (state_of g) t) w.0 w.1)

  -- a destination in memory
  module _ (at : ℕ) (dest : t.dest ≡ Memory at) where
    abbrev by_number : Result ℕ Trouble → Sensed
    by_number r = mfpr_by whole (to (Memory at)) (tried_by (is_clear whole) (addresses 4 at ++ by_result r (λ v. []) (λ t. [])) (by_result r (λ v. Ok v) Err))

    inside : move_from_register whole t ≡ by_number (number_at (space_of whole) Write 4 at)
    inside = ap (λ d. move_from_register whole (to d)) dest

    pub is_put : (places : List ℕ) (v : ℕ) (g' : GuestState) (m' : Machine) (s' : Shadowed) → ArePlaces whole 4 at (Ok places) → first_clear (is_clear whole) (addresses 4 at) ≡ None → MovesFromRegister g t (Ok v) g' → HasPlace g.pages g.base g.start g'
        → PutsHomes (bytes_placed places v) m s m' s' → Senses (move_from_register whole t) m s g outcomes.Done m' s' g'
    unfolding sensed
    is_put places v g' m' s' w unmarked f place puts =
        let u = with_codes v f.0 in
        let vas = addresses 4 at in
        let frames : List ℕ = frames_of_bytes whole vas in
        let stored : List ℕ → List ℕ = bytes_stored (guest_write_place whole) 4 at v in
        let h : Guest = record { memory = stored (partition_of m.memory g); state = u } in
        let is : move_from_register whole t ≡ Does h [] frames =
        inside ∙ ap by_number w.0.1 ∙ ap (λ x. mfpr_by whole (to (Memory at)) (unless_clear w.0.0 x)) unmarked ∙ ap (after_register_read whole (Memory at) None) (read_as ∙ f.1) in
        let frames_are : frames_of (bytes_placed places v) ≡ frames = ap (λ ps. frames_of (bytes_placed ps v)) w.1 ∙ frames_put whole vas v in
        let memory_is : all_put (bytes_placed places v) (own m.memory s) ≡ stored (own m.memory s) = ap (λ ps. all_put (bytes_placed ps v) (own m.memory s)) w.1 ∙ bytes_put (guest_write_place whole) 4 at v (own m.memory s) in
        let wrote : Wrote frames (stored (own m.memory s)) m s m' s' = subst (λ x. Wrote frames x m s m' s') memory_is (subst (λ x. Wrote x (all_put (bytes_placed places v) (own m.memory s)) m s m' s') frames_are puts) in
        let tables : tables_of g' ≡ tables_of g = ap (λ (x : State). x.tables) f.2 ∙ leaves_tables (512 * g.pages) t.a v (past_instruction (state_of g) t) f.0 f.1 in
        let rest = wrote.drops.rest in
        let serves : Serves g' s' = record {
          pages = ap (λ (x : Shadowed). x.pages) rest ∙ stands.serves.pages ∙ sym place.pages;
          base = ap (λ (x : Shadowed). x.base) rest ∙ stands.serves.base ∙ sym place.base;
          told = ap (λ (x : Shadowed). x.told) rest ∙ stands.serves.told ∙ sym tables;
        } in
        let memory : partition_of m'.memory g' ≡ stored (partition_of m.memory g) = sym (own_is m'.memory s' g' serves) ∙ wrote.own ∙ ap stored (own_is m.memory s g stands.serves) in
        let guest : guest_of m'.memory g' ≡ h = λ i. record { memory = memory i; state = f.2 i } in
        let keeps = wrote.keeps stands.keeps in
        let told : s'.told ≡ u.tables = serves.told ∙ ap (λ (x : State). x.tables) f.2 in
        record {
          is = rw is (record { guest = guest; follows = follows_drops frames m'.memory s s' u.tables keeps.fits told wrote.drops });
          stands = done_stands t Mfpr h [] frames m s g stands is m' s' g' guest place keeps (ap (λ (x : Shadowed). x.pages) rest) (ap (λ (x : Shadowed). x.base) rest) told;
          place = place;
          only = wrote.only;
        }
