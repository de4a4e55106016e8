-- A page to which a walk leads is present.
use Rattle.std.proofs.Common.{◌≡◌, ℕ, ◌+◌, ◌*◌, ◌/◌, ◌%◌, ◌^◌, ◌≤◌, Bool, true, false, not, length, Option, refl, ap, arith}
use Rattle.std.proofs.lemmas.Bool.{eq-eqb, ltb-false}
use Rattle.vv_base.specs.Bytes.{long_at}
use Rattle.vax_arch.specs.Fields.{frame_of, is_valid, protection_of}
use Rattle.vax_arch.specs.Ring.{open_of}
use Rattle.vax_arch.specs.Walk.{entry_at, granted, is_past, page_of}
use Rattle.vax_arch.specs.WalkLaws.{IsInside}
use Rattle.vax_arch.specs.declared.mode.Intent.{Intent}
use Rattle.vax_arch.specs.declared.mode.Mode.{Mode}
use Rattle.vax_arch.specs.declared.walk.Grant.{Grant}
use Rattle.vax_arch.specs.declared.walk.Grant.TheVariants.{Absent, Granted, Past, Refused}
use Rattle.vax_arch.specs.declared.walk.Lookup.{Lookup}
use Rattle.vax_arch.specs.declared.walk.Lookup.TheVariants.{Beyond, Direct, Fails, Found}
use Rattle.vax_arch.proofs.Walks.{looks_inside}
use Rattle.vm_shadow.specs.StandsFor.{IsPresent}
use Rattle.vm_state.specs.State.{Guest}
use Rattle.vm_state.specs.Translation.{at_entry, look, walk_by, walk_of}
use Rattle.vm_state.specs.declared.walk.Walk.TheVariants.{Frame}

-- what is granted is granted by a valid entry of a page in memory
IsHeld : (size entry : ℕ) → Grant → Type 0
IsHeld size entry (Granted f) = (is_valid entry ≡ true) × (512 * frame_of entry + 512 ≤ size)
IsHeld size entry Refused = Unit {0}
IsHeld size entry Absent = Unit {0}
IsHeld size entry Past = Unit {0}

from_not : (b : Bool) → not b ≡ false → b ≡ true
from_not true e = refl
from_not false e = cc

held_at : (may : ℕ → Mode → Intent → Bool) (size entry : ℕ) (m : Mode) (i : Intent) (a b c : Bool) → not (may (protection_of entry) m i) ≡ a → not (is_valid entry) ≡ b → is_past size (512 * frame_of entry) 512 ≡ c → IsHeld size entry (granted may size entry m i)
unfolding granted IsHeld
held_at may size entry m i true b c p q r = rw p tt
held_at may size entry m i false true c p q r = rw (p, q) tt
held_at may size entry m i false false true p q r = rw (p, q, r) tt
held_at may size entry m i false false false p q r = rw (p, q, r) (from_not (is_valid entry) q, ltb-false size (512 * frame_of entry + 512) r)

held_by : (size entry va : ℕ) (i : Intent) (place : ℕ) (table : Option ℕ) (x : Grant) (pa : ℕ) (at above : Option ℕ) → IsHeld size entry x → at_entry va i place table x ≡ Frame pa at above → (is_valid entry ≡ true) × (512 * frame_of entry + 512 ≤ size)
unfolding IsHeld
held_by size entry va i place table (Granted f) pa at above h e = h
held_by size entry va i place table Refused pa at above h e = cc
held_by size entry va i place table Absent pa at above h e = cc
held_by size entry va i place table Past pa at above h e = cc

present_by : (g : Guest) (va : ℕ) (m : Mode) (i : Intent) (pa : ℕ) (at above : Option ℕ) (seen : Lookup) → length g.memory ≤ 2 ^ 32 → look g (page_of va) ≡ seen → IsInside (length g.memory) seen → walk_by g va m i seen ≡ Frame pa at above → IsPresent g (page_of va)
present_by g va m i pa at above (Found place table) small l inside e =
    let h = held_by (length g.memory) (long_at g.memory place) va i place table _ pa at above (held_at open_of (length g.memory) (long_at g.memory place) m i _ _ _ refl refl refl) e in
    record { entry = long_at g.memory place; has = ap (entry_at g.memory) l; valid = h.0; inside = h.1 }
present_by g va m i pa at above (Direct frame) small l inside e =
    let entry : ℕ = 2 ^ 31 + 4 * 2 ^ 27 + 2 ^ 26 + frame in
    record { entry = entry; has = ap (entry_at g.memory) l; valid = eq-eqb (entry / 2 ^ 31 % 2) 1 (omega arith); inside = omega arith }
present_by g va m i pa at above (Fails not_valid parameter) small l inside e = cc
present_by g va m i pa at above Beyond small l inside e = cc

-- where a walk leads to a frame, in whichever mode, the page is present
pub walk_present : (g : Guest) (va : ℕ) (m : Mode) (i : Intent) (pa : ℕ) (at above : Option ℕ) → length g.memory ≤ 2 ^ 32 → walk_of g va m i ≡ Frame pa at above → IsPresent g (page_of va)
unfolding walk_of
walk_present g va m i pa at above small e = present_by g va m i pa at above (look g (page_of va)) small refl (looks_inside (length g.memory) g.memory g.state.tables (page_of va)) e
