-- The outcome of a look-up is what the code keeps of it.
use Rattle.std.proofs.Common.{◌≡◌, ℕ, true, false, List, refl}
use Rattle.vax_arch.specs.Walk.{is_clear_at}
use Rattle.vax_arch.specs.declared.mode.Intent.{Intent}
use Rattle.vax_arch.specs.declared.mode.Mode.{Mode}
use Rattle.vax_arch.specs.declared.walk.Lookup.{Lookup}
use Rattle.vax_arch.specs.declared.walk.Lookup.TheVariants.{Beyond, Direct, Fails, Found}
use Rattle.vax_hw.specs.RealTables.{access_judged_at, placed_by}
use Rattle.vax_paged.specs.Paged.{IsMapped, entry_by, entry_looked_up, is_clear_by, judgement, look_of, place_at}

pub placed_mapped : (memory : List ℕ) (va : ℕ) (m : Mode) (i : Intent) (l : Lookup) → IsMapped l → placed_by memory va m i l ≡ place_at va m i (entry_looked_up memory l)
placed_mapped memory va m i (Found place table) h = refl
placed_mapped memory va m i (Direct frame) h = absurd h
placed_mapped memory va m i (Fails true parameter) h = refl
placed_mapped memory va m i (Fails false parameter) h = refl
placed_mapped memory va m i Beyond h = absurd h

pub clear_mapped : (memory : List ℕ) (l : Lookup) → is_clear_at memory l ≡ is_clear_by (entry_looked_up memory l)
clear_mapped memory (Found place table) = refl
clear_mapped memory (Direct frame) = refl
clear_mapped memory (Fails true parameter) = refl
clear_mapped memory (Fails false parameter) = refl
clear_mapped memory Beyond = refl

pub judged_mapped : (memory : List ℕ) (m : Mode) (i : Intent) (l : Lookup) → access_judged_at memory m i l ≡ judgement m i (entry_looked_up memory l)
judged_mapped memory m i (Found place table) = refl
judged_mapped memory m i (Direct frame) = refl
judged_mapped memory m i (Fails true parameter) = refl
judged_mapped memory m i (Fails false parameter) = refl
judged_mapped memory m i Beyond = refl

pub looked : (memory : List ℕ) (l : Lookup) → entry_by memory (look_of l) ≡ entry_looked_up memory l
looked memory (Found place table) = refl
looked memory (Direct frame) = refl
looked memory (Fails true parameter) = refl
looked memory (Fails false parameter) = refl
looked memory Beyond = refl

pub ruleset mapped = (placed_mapped, clear_mapped, judged_mapped)
