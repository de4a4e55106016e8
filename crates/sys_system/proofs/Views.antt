-- What is said of a system, said of one that equals it.
use Rattle.std.proofs.Common.{ℕ, ◌≡◌, List, subst}
use Rattle.std.specs.List.{slice_get}
use Rattle.std.specs.Prelude.{IfSome}
use Rattle.vax_hw.specs.Machine.{Machine}
use Rattle.vv_io.specs.Lines.{Seen}
use Rattle.sys_guests.specs.Layout.{guests_in}
use Rattle.sys_guests.specs.Present.{PaysAll}
use Rattle.sys_script.specs.declared.event.Event.{Event}
use Rattle.sys_state.specs.SlicedTouches.{touches_of_slice}
use Rattle.sys_state.specs.Slices.{Slice}
use Rattle.sys_system.specs.Calls.{BeginsRound, EndsRound, TakesSlice}
use Rattle.sys_system.specs.System.{System}
use Rattle.sys_system.specs.Watched.{DescribesStep}
use Rattle.sys_system.specs.declared.watching.Watched.{Watched}
use Rattle.vm_guest.specs.Kept.{Kept}

pub begins_of : {es : List Event} {m m' : Machine} {s t s' : System} {lines lines' : List Seen} → s ≡ t → BeginsRound es m s lines m' s' lines' → BeginsRound es m t lines m' s' lines'
begins_of {es} {m} {m'} {s} {t} {s'} {lines} {lines'} e h = subst (λ (x : System). BeginsRound es m x lines m' s' lines') e h

pub takes_of : {piece : Slice} {m m' : Machine} {s t s' : System} {lines lines' : List Seen} → s ≡ t → TakesSlice piece m s lines m' s' lines' → TakesSlice piece m t lines m' s' lines'
takes_of {piece} {m} {m'} {s} {t} {s'} {lines} {lines'} e h = subst (λ (x : System). TakesSlice piece m x lines m' s' lines') e h

pub ends_of : {m m' : Machine} {s t s' : System} {lines lines' : List Seen} → s ≡ t → EndsRound m s lines m' s' lines' → EndsRound m t lines m' s' lines'
ends_of {m} {m'} {s} {t} {s'} {lines} {lines'} e h = subst (λ (x : System). EndsRound m x lines m' s' lines') e h

pub pays_of : {m m' : Machine} {s t : System} {now : List Kept} (piece : Slice) (memory : List ℕ) → s ≡ t → PaysAll (touches_of_slice piece (guests_in memory s.guests)) m s.guests m' now → PaysAll (touches_of_slice piece (guests_in memory t.guests)) m t.guests m' now
pays_of {m} {m'} {s} {t} {now} piece memory e h = subst (λ (x : System). PaysAll (touches_of_slice piece (guests_in memory x.guests)) m x.guests m' now) e h

pub describes_of : {s t : System} (memory : List ℕ) (guest : ℕ) (w : Watched) → s ≡ t → IfSome (slice_get (guests_in memory s.guests) guest) (λ g. DescribesStep g w) → IfSome (slice_get (guests_in memory t.guests) guest) (λ g. DescribesStep g w)
describes_of {s} {t} memory guest w e h = subst (λ (x : System). IfSome (slice_get (guests_in memory x.guests) guest) (λ g. DescribesStep g w)) e h
