-- What the code's operands, statements and lines say.
use Rattle.std.specs.Option.{option_copied}
use Rattle.std.specs.Prelude.{List, map, option_map}
use Rattle.arrayvec.specs.ArrayVec.{ArrayVec}
use Rattle.vv_base.specs.Width.{size_of}
use Rattle.vasm_text.specs.Operands.{SourceOperand}
use Rattle.vasm_text.specs.Statements.{SourceLine, Statement, Field, Instruct}
use Rattle.vasm.specs.declared.parse_operand.Operand.{Operand as Kept}
use Rattle.vasm.specs.declared.parse_statement.Statement.{Statement as Said}
use Rattle.vasm.specs.declared.parse_statement.Statement.TheVariants as said
use Rattle.vasm.specs.declared.line.Line.{Line as Read}

abbrev pub operand_view : Kept → SourceOperand
operand_view o = record { spec = o.spec; name = option_copied o.name }

abbrev pub operands_view : ArrayVec Kept → List SourceOperand
operands_view os = map operand_view os.items

abbrev pub statement_view : Said → Statement
statement_view (said.Field w o) = Field (size_of w) (operand_view o)
statement_view (said.Instruct opcode os) = Instruct opcode (operands_view os)

abbrev pub source_line_view : Read → SourceLine
source_line_view l = record { label = option_copied l.label; statement = option_map statement_view l.statement }
