-- Protection codes: what each access mode may do under each of the sixteen
-- (VAX Architecture Reference Manual, memory management: protection code).
use Rattle.std.specs.Prelude.{ℕ, Bool, true, false, List, [], ◌∷◌, slice_get, unwrap_or}
use Rattle.vax_arch.specs.declared.mode.Mode.{Mode}
use Rattle.vax_arch.specs.declared.mode.Mode.TheVariants.{Kernel, Executive, Supervisor, User}
use Rattle.vax_arch.specs.declared.mode.Intent.{Intent}
use Rattle.vax_arch.specs.declared.mode.Intent.TheVariants.{Read}

-- what a mode may do: nothing, read, or read and write
pub data Rights : Type 0 where
  no : Rights
  r : Rights
  rw : Rights

abbrev pub rights_allow : Rights → Intent → Bool
rights_allow rw i = true
rights_allow r Read = true
rights_allow other i = false

-- a row of the table: the rights of each mode
pub record ProtectionRow : Type 0 where
  pub kernel : Rights
  pub executive : Rights
  pub supervisor : Rights
  pub user : Rights

abbrev pub protection_row : Rights → Rights → Rights → Rights → ProtectionRow
protection_row k e s u = record { kernel = k; executive = e; supervisor = s; user = u }

-- the sixteen codes, from 0 on (profile: code 1, which the manual reserves, gives no rights)
abbrev pub protection_rows : List ProtectionRow
protection_rows =
    protection_row no no no no  -- 0 NA
    ∷ protection_row no no no no  -- 1
    ∷ protection_row rw no no no  -- 2 KW
    ∷ protection_row r no no no  -- 3 KR
    ∷ protection_row rw rw rw rw  -- 4 UW
    ∷ protection_row rw rw no no  -- 5 EW
    ∷ protection_row rw r no no  -- 6 ERKW
    ∷ protection_row r r no no  -- 7 ER
    ∷ protection_row rw rw rw no  -- 8 SW
    ∷ protection_row rw rw r no  -- 9 SREW
    ∷ protection_row rw r r no  -- 10 SRKW
    ∷ protection_row r r r no  -- 11 SR
    ∷ protection_row rw rw rw r  -- 12 URSW
    ∷ protection_row rw rw r r  -- 13 UREW
    ∷ protection_row rw r r r  -- 14 URKW
    ∷ protection_row r r r r  -- 15 UR
    ∷ []

abbrev pub rights_in : ProtectionRow → Mode → Rights
rights_in l Kernel = l.kernel
rights_in l Executive = l.executive
rights_in l Supervisor = l.supervisor
rights_in l User = l.user

-- whether the table allows it to a mode
abbrev pub may_of : ℕ → Mode → Intent → Bool
may_of code m i = rights_allow (rights_in (unwrap_or (slice_get protection_rows code) (protection_row no no no no)) m) i
