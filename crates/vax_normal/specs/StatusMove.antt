-- What MOVPSL to a register does: the PSL goes there, and the codes stay (VAX Architecture Reference Manual: MOVPSL).
use Rattle.std.specs.Prelude.{◌≡◌, ℕ, ◌%◌, ◌^◌, List, length, Ok}
use Rattle.vv_base.specs.declared.width.Width.TheVariants.{Long}
use Rattle.vax_table.specs.Interaction.{Space, outcome}
use Rattle.vax_table.specs.AllOperands.{past_own_bytes}
use Rattle.vax_table.specs.Operations.{operation_of}
use Rattle.vax_table.specs.Plan.{plan_of}
use Rattle.vax_table.specs.Spelling.{Instruction}
use Rattle.vax_table.specs.declared.meaning.Operation.TheVariants.{MoveStatus}
use Rattle.vax_normal.specs.Normal.{quietly, with_result}
use Rattle.vax_normal.specs.declared.rarer_shape.StatusMove.{StatusMove}

-- the registers after it, where this is the PSL
abbrev pub status_finished : StatusMove → (psl : ℕ) → List ℕ → List ℕ
status_finished n psl r = with_result n.register Long psl (past_own_bytes n.length r)

-- it is what an instruction does
abbrev pub IsStatusMove : StatusMove → Instruction → Type 0
IsStatusMove n d =
    (operation_of d.opcode ≡ MoveStatus)
    × ((s : Space) (r : List ℕ) (psl : ℕ) → length r ≡ 16 → outcome s (plan_of psl d r) ≡ Ok (quietly (status_finished n psl r) (psl % 2 ^ 8)))
