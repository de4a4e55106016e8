-- Quadwords moved, longwords pushed, and the status word (VAX Architecture Reference Manual: integer arithmetic and logical
-- instructions; address instructions; BISPSW, BICPSW).
use Rattle.std.specs.Prelude.{ℕ, ◌-◌, ◌/◌, ◌^◌, ◌==◌, bit_and, bit_or, if◌then◌else◌}
use Rattle.vv_base.specs.declared.width.Width.TheVariants.{Long, Quad}
use Rattle.vax_table.specs.Arithmetic.{alu_of}
use Rattle.vax_table.specs.Effects.{Effect, begun, long_of, put}
use Rattle.vax_table.specs.Interaction.{Interaction, Done, Refuse}
use Rattle.vax_table.specs.Stack.{push}
use Rattle.vax_table.specs.declared.act.Dest.{Dest}
use Rattle.vax_table.specs.declared.act.Refusal.TheVariants.{ReservedOperand}
use Rattle.vax_table.specs.declared.answer.AluOp.TheVariants.{Move}
use Rattle.vax_table.specs.declared.evaluation.Operands.{Operands}

-- CLRQ and MOVQ: the codes are those of the quadword
unfoldable pub moved_quad : ℕ → Dest → Operands → ℕ → Effect
moved_quad v dest o psw = put dest Quad v (record (begun o psw) { psw = (alu_of Move v 0 Quad psw).psw })

-- PUSHL and PUSHA: the codes are those of the longword
unfoldable pub operand_pushed : Operands → ℕ → Interaction Effect
operand_pushed o psw = push (long_of o 0) (record (begun o psw) { psw = (alu_of Move (long_of o 0) 0 Long psw).psw })

-- BISPSW and BICPSW: a mask with any of bits 15:8 is a reserved operand
unfoldable pub status_set : Operands → ℕ → Interaction Effect
status_set o psw =
    if long_of o 0 / 2 ^ 8 == 0 then Done (record (begun o psw) { psw = bit_or psw (long_of o 0) }) else Refuse ReservedOperand

unfoldable pub status_cleared : Operands → ℕ → Interaction Effect
status_cleared o psw =
    if long_of o 0 / 2 ^ 8 == 0 then Done (record (begun o psw) { psw = bit_and psw (255 - long_of o 0) }) else Refuse ReservedOperand
