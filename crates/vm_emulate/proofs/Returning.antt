-- REI.
use Rattle.std.proofs.Common.{◌≡◌, true, false, not, [], Result, Ok, Err, refl, ap, ◌∙◌, sym}
use Rattle.std.proofs.lemmas.Bool.{not-true}
use Rattle.std.specs.Prelude.{slice_index, if◌then◌else◌}
use Rattle.vax_arch.specs.Rei.{rei_refuses}
use Rattle.vax_hw.specs.Machine.{Machine}
use Rattle.vax_table.specs.Interaction.{Trouble, outcome}
use Rattle.vax_table.specs.declared.act.Sens.TheVariants.{Rei}
use Rattle.vax_table.specs.declared.act.Trapped.{Trapped}
use Rattle.vm_emulate.specs.Emulated.{SensesAlone}
use Rattle.vm_emulate.specs.Readings.{ArePopped, popped_of, unread}
use Rattle.vm_emulate.specs.declared.emulated.Emulated.TheVariants as outcomes
use Rattle.vm_emulate.specs.declared.reading.Unread.{Unread}
use Rattle.vm_emulate.specs.declared.reading.Unread.TheVariants as reasons
use Rattle.vm_emulate.specs.declared.returns.Popped.{Popped}
use Rattle.vm_emulate.proofs.Sensing.{alone, faults, lacks}
use Rattle.vm_state.specs.Contexts as contexts
use Rattle.vm_state.specs.Contexts.{two_popped}
use Rattle.vm_state.specs.Partition.{guest_of}
use Rattle.vm_state.specs.Sensed.{Does, Faults, troubled}
use Rattle.vm_state.specs.Sensitive.{past_instruction, rei_by, return_from, returned_to, sensed}
use Rattle.vm_state.specs.State.{Guest, HasPlace, state_of}
use Rattle.vm_state.specs.Translation.{space_of}
use Rattle.vm_state.specs.declared.exception.Exc.TheVariants as excs
use Rattle.vm_state.specs.declared.guest_state.GuestState.{GuestState}
use Rattle.vm_state.specs.declared.walk.MemFault.{MemFault}

pub popped_ok : (g : Guest) (r : Result contexts.Popped Trouble) (q : Popped) → ArePopped g r (Ok q) → r ≡ Ok (popped_of q)
popped_ok g (Ok p) q a = ap Ok (sym a)
popped_ok g (Err trouble) q a = absurd a

pub popped_err : (g : Guest) (r : Result contexts.Popped Trouble) (u : Unread) → ArePopped g r (Err u) → (trouble : Trouble) × (r ≡ Err trouble) × (troubled g trouble ≡ unread u)
popped_err g (Ok p) u a = absurd a
popped_err g (Err trouble) u a = (trouble, refl, a)

module _ (m : Machine) (g : GuestState) (t : Trapped) where
  abbrev pub whole : Guest
  whole = guest_of m.memory g

  abbrev pub pops : Result contexts.Popped Trouble
  pops = outcome (space_of whole) (two_popped (slice_index t.regs 14))

  pub returns_done : (g1 g' : GuestState) (q : Popped) → ArePopped whole pops (Ok q) → not (rei_refuses g.psl.0 q.psl) ≡ true → state_of g1 ≡ past_instruction (state_of g) t → HasPlace g.pages g.base g.start g1
      → state_of g' ≡ returned_to (state_of g1) (popped_of q) → HasPlace g1.pages g1.base g1.start g' → SensesAlone (return_from whole t) m g outcomes.Done g'
  unfolding sensed
  returns_done g1 g' q pop lets one place state place' =
      let p = popped_of q in
      let u = returned_to (past_instruction (state_of g) t) p in
      let place : HasPlace g.pages g.base g.start g' = record { pages = place'.pages ∙ place.pages; base = place'.base ∙ place.base; start = place'.start ∙ place.start } in
      let is : return_from whole t ≡ Does (record whole { state = u }) [] [] = ap (rei_by whole t) (popped_ok whole pops q pop) ∙ ap (λ b. if b then Faults excs.ReservedOperand else Does (record whole { state = u }) [] []) (not-true _ lets) in
      record { senses = λ s stands. alone t Rei u [] m s g g' stands is (state ∙ ap (λ x. returned_to x p) one) place refl }

  pub returns_refused : (q : Popped) → ArePopped whole pops (Ok q) → not (rei_refuses g.psl.0 q.psl) ≡ false → SensesAlone (return_from whole t) m g (outcomes.Fault excs.ReservedOperand) g
  returns_refused q pop lets =
      let is : return_from whole t ≡ Faults excs.ReservedOperand = ap (rei_by whole t) (popped_ok whole pops q pop) ∙ ap (λ b. if b then Faults excs.ReservedOperand else Does (record whole { state = returned_to (past_instruction (state_of g) t) (popped_of q) }) [] []) (Rattle.std.proofs.lemmas.Bool.not-false _ lets) in
      record { senses = λ s stands. faults (return_from whole t) excs.ReservedOperand m s g stands is }

  pub returns_faulty : (f : MemFault) → ArePopped whole pops (Err (reasons.Faulty f)) → SensesAlone (return_from whole t) m g (outcomes.Fault (excs.Memory f)) g
  returns_faulty f pop =
      let e = popped_err whole pops (reasons.Faulty f) pop in
      record { senses = λ s stands. faults (return_from whole t) (excs.Memory f) m s g stands (ap (rei_by whole t) e.1 ∙ e.2) }

  pub returns_past : (g' : GuestState) → ArePopped whole pops (Err reasons.PastMemory) → state_of g' ≡ record (state_of g) { halt = Rattle.std.specs.Prelude.Some 0x10 } → HasPlace g.pages g.base g.start g' → SensesAlone (return_from whole t) m g outcomes.PastMemory g'
  returns_past g' pop state place =
      let e = popped_err whole pops reasons.PastMemory pop in
      record { senses = λ s stands. lacks (return_from whole t) m s g g' stands (ap (rei_by whole t) e.1 ∙ e.2) state place }
