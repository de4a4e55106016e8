-- What is printed of a line that is refused: `asm line L KIND`, L in base 10 and KIND as the variant is spelt.
use Rattle.std.specs.Prelude.{ℕ, List, ◌++◌, codes, decimal}
use Rattle.vasm_text.specs.declared.fault.AsmFault.{AsmFault}
use Rattle.vasm_text.specs.declared.fault.AsmKind.{AsmKind}
use Rattle.vasm_text.specs.declared.fault.AsmKind.TheVariants.{BadLine, TwiceNamed, NoName, OutOfReach}

abbrev pub asm_kind_text : AsmKind → List ℕ
asm_kind_text BadLine = codes "BadLine"
asm_kind_text TwiceNamed = codes "TwiceNamed"
asm_kind_text NoName = codes "NoName"
asm_kind_text OutOfReach = codes "OutOfReach"

abbrev pub fault_text : AsmFault → List ℕ
fault_text f = codes "asm line " ++ decimal f.line ++ codes " " ++ asm_kind_text f.kind
