-- What the code's pieces of a text say.
use Rattle.vasm_text.specs.Cutting.{Cut}
use Rattle.vasm.specs.declared.cutting.Pieces.{Pieces}

abbrev pub cut_view : Pieces → Cut
cut_view p = record { before = p.before.now; later = p.later.now }
