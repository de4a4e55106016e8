-- Homes that a walk finds lie in memory.
use Rattle.std.proofs.Common.{◌≡◌, ℕ, ◌+◌, ◌*◌, ◌/◌, ◌%◌, ◌^◌, ◌<◌, ◌≤◌, Bool, not, List, [], ◌∷◌, length, Option, sym, subst, arith}
use Rattle.std.proofs.lemmas.Bool.{cond_both, ltb-false}
use Rattle.vv_base.specs.Bytes.{long_at}
use Rattle.vax_arch.specs.Fields.{frame_of, is_valid, protection_of}
use Rattle.vax_arch.specs.Ring.{open_of}
use Rattle.vax_arch.specs.Walk.{granted, is_past, page_of}
use Rattle.vax_arch.specs.WalkLaws.{AreAligned, IsAligned, IsInside}
use Rattle.vax_arch.specs.declared.mode.Intent.{Intent}
use Rattle.vax_arch.specs.declared.mode.Intent.TheVariants.{Write}
use Rattle.vax_arch.specs.declared.mode.Mode.{Mode}
use Rattle.vax_arch.specs.declared.walk.Grant.{Grant}
use Rattle.vax_arch.specs.declared.walk.Grant.TheVariants as grants
use Rattle.vax_arch.specs.declared.walk.Lookup.{Lookup}
use Rattle.vax_arch.specs.declared.walk.Lookup.TheVariants.{Beyond, Direct, Fails, Found}
use Rattle.vax_arch.proofs.Walks.{looks_aligned, looks_inside}
use Rattle.vm_exception.specs.Wrote.{AreHomes, IsEntryPlace}
use Rattle.vm_shadow.proofs.Lookups.{IsBy, looks_by}
use Rattle.vm_state.specs.Pushes.{PushedByte, Faulty, Home, Homes, PastMemory, Walked, push_walked, pushed_bytes, walked, with_home}
use Rattle.vm_state.specs.State.{Guest}
use Rattle.vm_state.specs.Translation.{at_entry, look, walk_by, walk_of}
use Rattle.vm_state.specs.declared.walk.Walk.{Walk}
use Rattle.vm_state.specs.declared.walk.Walk.TheVariants as walks

-- a frame that is granted lies in memory
Inside : ℕ → Grant → Type 0
Inside size (grants.Granted frame) = 512 * frame + 512 ≤ size
Inside size grants.Refused = Unit {0}
Inside size grants.Absent = Unit {0}
Inside size grants.Past = Unit {0}

granted_inside : (may : ℕ → Mode → Intent → Bool) (size entry : ℕ) (m : Mode) (i : Intent) → Inside size (granted may size entry m i)
unfolding granted Inside
granted_inside may size entry m i =
    cond_both (not (may (protection_of entry) m i)) _ _ (Inside size) (λ h. tt) (λ h.
    cond_both (not (is_valid entry)) _ _ (Inside size) (λ h. tt) (λ h.
    cond_both (is_past size (512 * frame_of entry) 512) _ _ (Inside size) (λ h. tt) (λ h. ltb-false size (512 * frame_of entry + 512) h)))

-- what a walk finds
abbrev pub FindsInside : ℕ → Walk → Type 0
FindsInside size (walks.Frame pa entry table) = (pa < size) × IsEntryPlace size entry
FindsInside size (walks.Fault f) = Unit {0}
FindsInside size walks.Beyond = Unit {0}

entry_inside : (size va place : ℕ) (table : Option ℕ) (i : Intent) (x : Grant) → Inside size x → place % 4 ≡ 0 → place + 4 ≤ size → FindsInside size (at_entry va i place table x)
unfolding Inside
entry_inside size va place table i (grants.Granted frame) h a b = (omega arith, (a, b))
entry_inside size va place table i grants.Refused h a b = tt
entry_inside size va place table i grants.Absent h a b = tt
entry_inside size va place table i grants.Past h a b = tt

by_look : (g : Guest) (va : ℕ) (m : Mode) (i : Intent) (x : Lookup) → IsInside (length g.memory) x → IsAligned x → IsBy (length g.memory) g.state.tables (page_of va) x → FindsInside (length g.memory) (walk_by g va m i x)
by_look g va m i (Found place table) inside aligned by = entry_inside (length g.memory) va place table i (granted open_of (length g.memory) (long_at g.memory place) m i) (granted_inside open_of (length g.memory) (long_at g.memory place) m i) aligned.0 inside.0
by_look g va m i (Direct frame) inside aligned by = let e : frame ≡ va / 2 ^ 9 = by.0 in (omega arith, tt)
by_look g va m i (Fails n p) inside aligned by = tt
by_look g va m i Beyond inside aligned by = tt

pub finds_inside : (g : Guest) (va : ℕ) (m : Mode) (i : Intent) → AreAligned g.state.tables → FindsInside (length g.memory) (walk_of g va m i)
unfolding walk_of
finds_inside g va m i a = by_look g va m i (look g (page_of va)) (looks_inside (length g.memory) g.memory g.state.tables (page_of va)) (looks_aligned (length g.memory) g.memory g.state.tables (page_of va) a) (looks_by (length g.memory) g.memory g.state.tables (page_of va))

-- homes of a walk of bytes
abbrev HaveHomes : ℕ → Walked → Type 0
HaveHomes size (Homes hs) = AreHomes size hs
HaveHomes size (Faulty f) = Unit {0}
HaveHomes size PastMemory = Unit {0}

home_then : (size v : ℕ) (w : Walk) (rest : Walked) → FindsInside size w → HaveHomes size rest → HaveHomes size (with_home v w rest)
home_then size v (walks.Frame pa entry table) (Homes hs) f h = (f, h)
home_then size v (walks.Frame pa entry table) (Faulty x) f h = tt
home_then size v (walks.Frame pa entry table) PastMemory f h = tt
home_then size v (walks.Fault x) rest f h = tt
home_then size v walks.Beyond rest f h = tt

all_homes : (g : Guest) (m : Mode) (bytes : List PushedByte) → AreAligned g.state.tables → HaveHomes (length g.memory) (walked g m bytes)
all_homes g m [] a = tt
all_homes g m (b ∷ bs) a = home_then (length g.memory) b.value (walk_of g b.at m Write) (walked g m bs) (finds_inside g b.at m Write a) (all_homes g m bs a)

pub homes_inside : (g : Guest) (m : Mode) (sp : ℕ) (longs : List ℕ) (hs : List Home) → AreAligned g.state.tables → Homes hs ≡ push_walked g m sp longs → AreHomes (length g.memory) hs
unfolding push_walked
homes_inside g m sp longs hs a e = subst (HaveHomes (length g.memory)) (sym e) (all_homes g m (pushed_bytes sp longs) a)
