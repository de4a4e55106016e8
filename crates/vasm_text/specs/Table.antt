-- What the code's table of names says: the name of each opcode, or the empty text.
use Rattle.std.specs.Borrow.{Bor}
use Rattle.std.specs.Prelude.{◌≡◌, ℕ, List, [], ◌∷◌, length, map, Option, Some, None}
use Rattle.vasm_text.specs.Mnemonics.{mnemonics}

abbrev pub nonempty_text : List ℕ → Option (List ℕ)
nonempty_text [] = None
nonempty_text (b ∷ bs) = Some (b ∷ bs)

abbrev pub nonempty_now : Bor (List ℕ) → Option (List ℕ)
nonempty_now x = nonempty_text x.now

pub record AreNames (names : List (Bor (List ℕ))) : Type 0 where
  pub long : length names ≡ 256
  pub same : map nonempty_now names ≡ mnemonics
