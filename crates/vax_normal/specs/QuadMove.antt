-- What CLRQ and MOVQ in normal form do: a quadword, for which one reference at most is read, goes to two registers or where one
-- is claimed.
use Rattle.std.specs.Prelude.{◌≡◌, ℕ, List, length, None, Ok}
use Rattle.vv_base.specs.declared.width.Width.TheVariants.{Quad}
use Rattle.vax_table.specs.Arithmetic.{alu_of}
use Rattle.vax_table.specs.Effects.{Effect}
use Rattle.vax_table.specs.Interaction.{Space, outcome}
use Rattle.vax_table.specs.Operand.{register_value}
use Rattle.vax_table.specs.AllOperands.{past_own_bytes}
use Rattle.vax_table.specs.Plan.{planned}
use Rattle.vax_table.specs.Spelling.{Instruction}
use Rattle.vax_table.specs.declared.answer.AluOp.TheVariants.{Move}
use Rattle.vax_normal.specs.InMemory.{HasClaimed, HasRead, stepped_by, stored}
use Rattle.vax_normal.specs.Normal.{with_result}
use Rattle.vax_normal.specs.declared.shape.QuadMove.{QuadMove}
use Rattle.vax_normal.specs.declared.shape.QuadSource.{QuadSource}
use Rattle.vax_normal.specs.declared.shape.QuadSource.TheVariants.{Constant, Registers, Read}

-- the quadword, by the registers and by what is read
abbrev pub quad_from : QuadSource → (read : ℕ) → List ℕ → ℕ
quad_from (Constant x) v r = x
quad_from (Registers p) v r = register_value Quad r p.register
quad_from Read v r = v

-- the registers after it, where this is the quadword
abbrev pub quad_finished : QuadMove → ℕ → List ℕ → List ℕ
quad_finished n x r = with_result n.register Quad x (past_own_bytes n.length (stepped_by n.writes (stepped_by n.reads r)))

-- what it does with a quadword: its codes are those of a move
unfoldable pub quad_moved : QuadMove → ℕ → List ℕ → ℕ → Effect
quad_moved n x r psw =
    record { r = quad_finished n x r; psw = (alu_of Move x 0 Quad psw).psw; writes = stored n.writes r Quad x; trap = None }

-- it is what an instruction does, wherever it can read and claim so
abbrev pub IsQuadMove : QuadMove → Instruction → Type 0
IsQuadMove n d = (s : Space) (r : List ℕ) (psw v u : ℕ) → length r ≡ 16 → HasRead s n.reads r v → HasClaimed s n.writes r u →
    outcome s (planned d r psw) ≡ Ok (quad_moved n (quad_from n.source v r) r psw)

-- it is what each instruction of this form does with this quadword
abbrev pub IsQuadFoundIn : QuadMove → Space → List ℕ → ℕ → ℕ → Type 0
IsQuadFoundIn n s r psw x = (d : Instruction) → IsQuadMove n d → outcome s (planned d r psw) ≡ Ok (quad_moved n x r psw)
