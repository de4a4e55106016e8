-- A PC and a PSL that are in one page, by one walk.
use Rattle.std.proofs.Common.{◌≡◌, ℕ, ◌+◌, ◌*◌, ◌/◌, ◌%◌, ◌^◌, ◌<◌, ◌≤◌, Option, Result, Ok, Err, refl, ap, ◌∙◌, sym, subst, arith}
use Rattle.vv_base.specs.Bytes.{long_at}
use Rattle.vax_arch.specs.declared.mode.Intent.TheVariants.{Read}
use Rattle.vax_table.specs.Interaction.{Done, Touch, Trouble, by_result, number_at, outcome}
use Rattle.vax_table.specs.Operand.{plus}
use Rattle.vm_emulate.specs.Readings.{AnswersReading, ArePopped}
use Rattle.vm_emulate.specs.declared.reading.Unread.{Unread}
use Rattle.vm_emulate.specs.declared.reading.Unread.TheVariants as reasons
use Rattle.vm_emulate.proofs.GuestBytes.{faulty_long, found_long, offset_kept, past_long}
use Rattle.vm_exception.proofs.Pages.{beside}
use Rattle.vm_state.specs.Contexts as contexts
use Rattle.vm_state.specs.Contexts.{two_popped}
use Rattle.vm_state.specs.State.{Guest, mode_of_state}
use Rattle.vm_state.specs.Translation.{space_of, walk_of}
use Rattle.vm_state.specs.declared.walk.MemFault.{MemFault}
use Rattle.vm_state.specs.declared.walk.Walk.TheVariants as walks

reads_ok : (g : Guest) (x : Result ℕ Trouble) (v : ℕ) → AnswersReading g x (Ok v) → x ≡ Ok v
reads_ok g (Ok w) v a = ap Ok (sym a)
reads_ok g (Err t) v a = absurd a

fails : (g : Guest) (x : Result ℕ Trouble) (u : Unread) (f : ℕ → Result contexts.Popped Trouble) → AnswersReading g x (Err u) → ArePopped g (by_result x f Err) (Err u)
fails g (Ok w) u f a = absurd a
fails g (Err t) u f a = a

module _ (g : Guest) (sp : ℕ) (small : sp < 2 ^ 32) where
  pub popped_found : (pa pc psl : ℕ) (entry table : Option ℕ) → sp % 512 ≤ 504 → walks.Frame pa entry table ≡ walk_of g sp (mode_of_state g.state) Read → pc ≡ long_at g.memory pa → psl ≡ long_at g.memory (pa + 4) → ArePopped g (outcome (space_of g) (two_popped sp)) (Ok (record { pc = pc; psl = psl }))
  popped_found pa pc psl entry table page e pc_is psl_is =
      let first : number_at (space_of g) Read 4 sp ≡ Ok pc = reads_ok g _ pc (found_long g sp pa pc entry table small (omega (arith, page)) e pc_is) in
      let next : plus sp 4 ≡ sp + 4 = omega (arith, small, page) in
      let same : (sp + 4) / 512 ≡ sp / 512 = omega (arith, page) in
      let place : pa / 512 * 512 + (sp + 4) % 512 ≡ pa + 4 = omega (arith, page, offset_kept g sp pa entry table e) in
      let later : walks.Frame (pa + 4) entry table ≡ walk_of g (sp + 4) (mode_of_state g.state) Read = subst (λ p. walks.Frame p entry table ≡ walk_of g (sp + 4) (mode_of_state g.state) Read) place (beside g (sp + 4) sp (mode_of_state g.state) Read pa entry table same e) in
      let second : number_at (space_of g) Read 4 (plus sp 4) ≡ Ok psl = ap (number_at (space_of g) Read 4) next ∙ reads_ok g _ psl (found_long g (sp + 4) (pa + 4) psl entry table (omega (arith, small, page)) (omega (arith, page)) later psl_is) in
      let popped : contexts.Popped = record { pc = pc; psl = psl } in
      let all : outcome (space_of g) (two_popped sp) ≡ Ok popped =
      ap (λ x. by_result x (λ v. by_result (number_at (space_of g) Read 4 (plus sp 4)) (λ w. Ok (record { pc = v; psl = w })) Err) Err) first ∙ ap (λ x. by_result x (λ w. Ok (record { pc = pc; psl = w })) Err) second in
      subst (λ x. ArePopped g x (Ok (record { pc = pc; psl = psl }))) (sym all) refl

  pub popped_faulty : (f : MemFault) → walks.Fault f ≡ walk_of g sp (mode_of_state g.state) Read → ArePopped g (outcome (space_of g) (two_popped sp)) (Err (reasons.Faulty f))
  popped_faulty f e = fails g (number_at (space_of g) Read 4 sp) (reasons.Faulty f) (λ v. outcome (space_of g) (Touch Read (plus sp 4) 4 (λ w. Done (record { pc = v; psl = w })))) (faulty_long g sp f small e)

  pub popped_past : walks.Beyond ≡ walk_of g sp (mode_of_state g.state) Read → ArePopped g (outcome (space_of g) (two_popped sp)) (Err reasons.PastMemory)
  popped_past e = fails g (number_at (space_of g) Read 4 sp) reasons.PastMemory (λ v. outcome (space_of g) (Touch Read (plus sp 4) 4 (λ w. Done (record { pc = v; psl = w })))) (past_long g sp small e)
