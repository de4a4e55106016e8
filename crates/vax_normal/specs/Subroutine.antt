-- What BSBB, BSBW and RSB in normal form do.
use Rattle.std.specs.Prelude.{◌≡◌, ℕ, List, [], ◌∷◌, length, None, Ok, slice_index, slice_set}
use Rattle.vv_base.specs.declared.width.Width.TheVariants.{Long}
use Rattle.vax_arch.specs.declared.mode.Intent.TheVariants.{Read, Write}
use Rattle.vax_table.specs.Effects.{Effect, store}
use Rattle.vax_table.specs.Interaction.{Space, number_at, outcome}
use Rattle.vax_table.specs.Operand.{minus, plus}
use Rattle.vax_table.specs.AllOperands.{past_own_bytes}
use Rattle.vax_table.specs.Plan.{planned}
use Rattle.vax_table.specs.Spelling.{Instruction}
use Rattle.vax_table.specs.declared.effect.Store.{Store}
use Rattle.vax_normal.specs.Normal.{quietly}
use Rattle.vax_normal.specs.declared.subroutine.Call.{Call}

-- the stack pointer after a push of a longword
abbrev pub pushed_sp : List ℕ → ℕ
pushed_sp r = minus (slice_index r 14) 4

-- the address of the next instruction, stored on the stack
abbrev pub return_stored : Call → List ℕ → Store
return_stored n r = store (pushed_sp r) Long (plus (slice_index r 15) n.length)

-- the registers after a call
abbrev pub call_finished : Call → List ℕ → List ℕ
call_finished n r = slice_set (past_own_bytes n.jump r) 14 (pushed_sp r)

-- a call: the return address is pushed, and the codes stay
abbrev pub called : Call → List ℕ → ℕ → Effect
called n r psw = record { r = call_finished n r; psw = psw; writes = return_stored n r ∷ []; trap = None }

-- it is what an instruction does, wherever the longword below the stack pointer can be claimed
abbrev pub IsCall : Call → Instruction → Type 0
IsCall n d = (s : Space) (r : List ℕ) (psw old : ℕ) → length r ≡ 16 → number_at s Write 4 (pushed_sp r) ≡ Ok old → outcome s (planned d r psw) ≡ Ok (called n r psw)

-- the registers after a return to an address, which is popped
abbrev pub return_finished : ℕ → List ℕ → List ℕ
return_finished pc r = slice_set (slice_set r 14 (plus (slice_index r 14) 4)) 15 pc

-- an instruction returns, wherever the longword at the stack pointer can be read, and leaves the codes
abbrev pub IsReturn : Instruction → Type 0
IsReturn d = (s : Space) (r : List ℕ) (psw pc : ℕ) → length r ≡ 16 → number_at s Read 4 (slice_index r 14) ≡ Ok pc → outcome s (planned d r psw) ≡ Ok (quietly (return_finished pc r) psw)
