-- What stops a guest, and what it shows then (profile; the cases are those in which the VAX Architecture Reference
-- Manual has a processor halt).
use Rattle.std.specs.Prelude.{ℕ, ◌≡◌, ◌==◌, ◌||◌, Bool, true, List, [], ◌∷◌, ◌++◌, Option, IfSome}
use Rattle.vv_base.specs.Digits.{hex_text}

-- An operator's command; the interrupt stack isn't valid; HALT; a vector whose low bits are reserved; CHM on the
-- interrupt stack; a reference beyond memory.
pub data Stop : Type 0 where
  Commanded InterruptStackBad Halted BadVector ChangedMode PastMemory : Stop

abbrev pub stop_code : Stop → ℕ
stop_code Commanded = 0x02
stop_code InterruptStackBad = 0x04
stop_code Halted = 0x06
stop_code BadVector = 0x07
stop_code ChangedMode = 0x0a
stop_code PastMemory = 0x10

-- the code of a guest that was never started, or of a stop
abbrev pub is_stop_code : ℕ → Bool
is_stop_code v = v == 0x00 || v == 0x02 || v == 0x04 || v == 0x06 || v == 0x07 || v == 0x0a || v == 0x10

-- it runs, or has stopped with one of them
abbrev pub IsHalt : Option ℕ → Type 0
IsHalt halt = IfSome halt (λ code. is_stop_code code ≡ true)

-- `?CC PPPPPPPP`, CR and LF: the code and the PC
abbrev pub stop_text : ℕ → ℕ → List ℕ
stop_text code pc = 63 ∷ hex_text 2 code ++ 32 ∷ hex_text 8 pc ++ 13 ∷ 10 ∷ []
