-- Ring compression: virtual kernel and executive mode both run in real executive mode
-- (Hall and Robinson, Virtualizing the VAX Architecture, ISCA 1991).
use Rattle.std.specs.Prelude.{◌≡◌, ◌≢◌, ℕ, ◌<◌, Bool, ◌||◌, List, [], ◌∷◌, slice_index}
use Rattle.vax_arch.specs.declared.mode.Mode.{Mode}
use Rattle.vax_arch.specs.declared.mode.Mode.TheVariants.{Kernel, Executive, Supervisor, User}
use Rattle.vax_arch.specs.declared.mode.Intent.{Intent}
use Rattle.vax_arch.specs.Protection.{may_of}

-- the real mode in which a virtual mode runs
abbrev pub ring_of : Mode → Mode
ring_of Kernel = Executive
ring_of Executive = Executive
ring_of Supervisor = Supervisor
ring_of User = User

-- the code that a real entry has in place of each of the sixteen, from 0 on
abbrev pub compressed_codes : List ℕ
compressed_codes =
    0  -- NA
    ∷ 1
    ∷ 5  -- KW becomes EW
    ∷ 7  -- KR becomes ER
    ∷ 4  -- UW
    ∷ 5  -- EW
    ∷ 5  -- ERKW becomes EW
    ∷ 7  -- ER
    ∷ 8  -- SW
    ∷ 9  -- SREW
    ∷ 9  -- SRKW becomes SREW
    ∷ 11  -- SR
    ∷ 12  -- URSW
    ∷ 13  -- UREW
    ∷ 13  -- URKW becomes UREW
    ∷ 15  -- UR
    ∷ []

abbrev pub compressed_of : ℕ → ℕ
compressed_of code = slice_index compressed_codes code

-- what the virtual machine allows to a mode: the manual's table, where executive has all that kernel has
abbrev pub open_of : ℕ → Mode → Intent → Bool
open_of code Executive i = may_of code Executive i || may_of code Kernel i
open_of code m i = may_of code m i

-- The law of ring compression. Kernel mode shares real executive mode, and each other mode is itself, so that none runs in
-- real kernel mode.
abbrev pub SharesExecutive : Type 0
SharesExecutive = (ring_of Kernel ≡ Executive) × ((m : Mode) → m ≢ Kernel → ring_of m ≡ m)

-- And under each code the compressed code lets the real mode do exactly what the virtual
-- machine lets the virtual mode do.
abbrev pub Compresses : Type 0
Compresses = (code : ℕ) → code < 16 → (m : Mode) (i : Intent) → may_of (compressed_of code) (ring_of m) i ≡ open_of code m i
