-- Slices one after another, up to a whole round.
use Rattle.std.proofs.Common.{ℕ, ◌≡◌, ◌<◌, ◌≤◌, ◌+◌, ◌-◌, List, [], ◌∷◌, ◌++◌, length, map, take, drop, slice_index, slice_index_or, refl, sym, ◌∙◌, ap, subst, arith, take-append-drop, true, if◌then◌else◌}
use Rattle.std.proofs.lemmas.Bool.{eq-eqb, ltb-false, ltb-true}
use Rattle.std.proofs.lemmas.List.{get_or_past, length-map, map-append, take_all}
use Rattle.std.specs.List.{slice_get}
use Rattle.std.specs.Prelude.{nat_lt, sum}
use Rattle.vax_hw.specs.Machine.{Machine}
use Rattle.vv_io.specs.Lines.{Seen}
use Rattle.sys_guests.specs.Changes.{Retires}
use Rattle.sys_guests.specs.Layout.{end_of_guests, guests_in}
use Rattle.sys_guests.specs.Present.{PaysAll}
use Rattle.sys_guests.specs.declared.turns.TimeSlice.{TimeSlice}
use Rattle.sys_devices.proofs.Showings.{shows_none, shows_same, shows_then}
use Rattle.sys_objects.specs.declared.records.Config.{Config}
use Rattle.sys_objects.specs.declared.records.GuestRow.{GuestRow}
use Rattle.sys_system.proofs.Paying.{pays_more, pays_none}
use Rattle.sys_system.proofs.Slicing.{falls, front_takes, left_falls, now_more, puts_more, quanta_of, quantum_is, retires_then, taken, tally_more, total_more, slices_more}
use Rattle.sys_system.specs.Calls.{CanTake, Plays, TakesSlice}
use Rattle.sys_system.specs.System.{IsInMachine, IsSystem, NoneLeft, System, Turns, after_slice, all_turns, slice_of_time}
use Rattle.sys_state.proofs.Additions.{added_twice}
use Rattle.sys_state.proofs.Consoles.{bytes_append}
use Rattle.sys_state.proofs.Places.{both}
use Rattle.sys_state.proofs.Steps.{as_sum}
use Rattle.sys_state.specs.Counts.{added, slices_tally, tally_by}
use Rattle.sys_state.specs.Places.{changed}
use Rattle.sys_state.specs.SlicedTouches.{touches_of_slice}
use Rattle.sys_state.specs.Slices.{AreQuanta, Slice, sliced, slices, total}
use Rattle.sys_state.specs.State.{Put, SystemState, bytes_on}
use Rattle.vm_state.specs.Run.{Tally}
use Rattle.vm_state.specs.State.{Guest}
use Rattle.vm_stepping.specs.Made.{tally_of}

-- no slice yet
pub plays_none : (s : System) (m : Machine) (lines : List Seen) → IsSystem s → IsInMachine m.memory s → s.turns.is_begun ≡ true → Plays [] m s lines m s lines
plays_none s m lines h stands running = record {
  system = refl;
  guests = refl;
  shows = shows_none s.marks lines;
  counts = as_sum (tally_of s.counts) h.trail;
  retires = record { retired = omega arith; trail = omega arith };
  pays = pays_none (guests_in m.memory s.guests) m s.guests;
  left = λ i. omega arith;
  begun = running;
  stands = stands;
  only = λ p later. refl;
  size = refl;
}

-- and one slice more
pub plays_more : (xs : List Slice) (x : Slice) (m m' m'' : Machine) (s s' s'' : System) (lines lines' lines'' : List Seen) → Plays xs m s lines m' s' lines' → CanTake s' x → TakesSlice x m' s' lines' m'' s'' lines'' → PaysAll (touches_of_slice x (guests_in m'.memory s'.guests)) m' s'.guests m'' s''.guests → Plays (xs ++ x ∷ []) m s lines m'' s'' lines''
plays_more xs x m m' m'' s s' s'' lines lines' lines'' p can t pays =
    let ks = s.config.terminals in
    let os = s.connected in
    let gs : List Guest = guests_in m.memory s.guests in
    let gs' : List Guest = guests_in m'.memory s'.guests in
    let config' : s'.config ≡ s.config = ap (λ (k : System). k.config) p.system in
    let terminals : s'.config.terminals ≡ ks = ap (λ (c : Config). c.terminals) config' in
    let consoles : s'.connected ≡ os = ap (λ (k : System). k.connected) p.system in
    let turns : s''.turns ≡ after_slice s'.turns x = ap (λ (k : System). k.turns) t.system in
    let here : Slice → List Guest → List Put = λ x gs. (sliced ks os x gs).puts in
    let puts : (sliced s'.config.terminals s'.connected x gs').puts ≡ here x (slices ks os xs gs).now = λ i. (sliced (terminals i) (consoles i) x (p.guests i)).puts in
    let bytes : (k : ℕ) → bytes_on k (slices ks os xs gs).puts ++ bytes_on k (sliced s'.config.terminals s'.connected x gs').puts ≡ bytes_on k (slices ks os (xs ++ x ∷ []) gs).puts =
    λ k. ap (λ (ps : List Put). bytes_on k (slices ks os xs gs).puts ++ bytes_on k ps) puts ∙ sym (bytes_append k (slices ks os xs gs).puts (here x (slices ks os xs gs).now)) ∙ ap (λ (ps : List Put). bytes_on k ps) (sym (puts_more ks os xs x gs)) in
    let tally : added (slices_tally xs gs) (tally_by x.steps (slice_get gs' x.guest)) ≡ slices_tally (xs ++ x ∷ []) gs = ap (λ (hs : List Guest). added (slices_tally xs gs) (tally_by x.steps (slice_get hs x.guest))) p.guests ∙ sym (tally_more ks os xs x gs) in
    record {
      system = t.system ∙ (λ i. record (p.system i) { guests = s''.guests; turns = after_slice s'.turns x; counts = s''.counts; marks = s''.marks }) ∙ (λ i. record s { guests = s''.guests; turns = sym turns i; counts = s''.counts; marks = s''.marks });
      guests = ap (λ (y : SystemState). y.guests) t.goes.state ∙ (λ i. (sliced (terminals i) (consoles i) x (p.guests i)).now) ∙ sym (now_more ks os xs x gs);
      shows = shows_same s.marks s''.marks lines lines'' _ _ bytes (shows_then p.shows t.goes.shows);
      counts = t.counts ∙ ap (λ (u : Tally). added u (tally_by x.steps (slice_get gs' x.guest))) p.counts ∙ added_twice (tally_of s.counts) (slices_tally xs gs) (tally_by x.steps (slice_get gs' x.guest)) ∙ ap (added (tally_of s.counts)) tally;
      retires = subst (λ (u : Tally). Retires m m'' u) tally (retires_then m m' m'' (slices_tally xs gs) (tally_by x.steps (slice_get gs' x.guest)) p.retires t.retires);
      pays = pays_more ks os xs x gs gs' m m' m'' s.guests s'.guests s''.guests p.guests p.pays pays;
      left = λ i. let fall : slice_index (changed (λ y. y - x.steps) s'.turns.left x.guest) i + taken x i ≡ slice_index s'.turns.left i = left_falls s'.turns.left x.guest x.steps i can.left in
          let now : slice_index s''.turns.left i ≡ slice_index (changed (λ y. y - x.steps) s'.turns.left x.guest) i = ap (λ (v : Turns). slice_index v.left i) turns in
          omega (arith, fall, now, p.left i, total_more xs x i);
      begun = ap (λ (v : Turns). v.is_begun) turns ∙ p.begun;
      stands = t.goes.stands;
      only = λ q later. t.goes.only q (subst (λ (c : Config). end_of_guests c.guests ≤ q) (sym config') later) ∙ p.only q later;
      size = t.goes.size ∙ p.size;
    }

-- a slice leaves fewer steps
pub fewer_left : (x : Slice) (m m' : Machine) (s s' : System) (lines lines' : List Seen) → CanTake s x → 0 < x.steps → TakesSlice x m s lines m' s' lines' → sum s'.turns.left < sum s.turns.left
fewer_left x m m' s s' lines lines' can some t = omega (arith, some, ap (λ (k : System). sum k.turns.left) t.system, falls s.turns.left x.guest x.steps can.left)

-- where no guest has steps left each has taken its quantum
pub quanta_taken : (xs : List Slice) (m m' : Machine) (s s' : System) (lines lines' : List Seen) → s.turns ≡ all_turns s.config.guests → Plays xs m s lines m' s' lines' → NoneLeft s'.turns.left → AreQuanta xs 0 s.config.guests
quanta_taken xs m m' s s' lines lines' all p none =
    quanta_of xs 0 s.config.guests (λ i. let e : 0 + i ≡ i = omega arith in ap (total xs) e ∙ omega (arith, p.left i, none i, ap (λ (t : Turns). slice_index t.left i) all))

-- the slice at a place can be taken
pub slice_can : (pieces : List TimeSlice) (i : ℕ) (piece : TimeSlice) (m m' : Machine) (s s' : System) (lines lines' : List Seen) → IsSystem s → IsSystem s' → s.turns ≡ all_turns s.config.guests → AreQuanta (map slice_of_time pieces) 0 s.config.guests → i < length pieces → piece ≡ slice_index_or pieces i piece → piece.guest < length s.guests
    → Plays (map slice_of_time (take i pieces)) m s lines m' s' lines' → CanTake s' (slice_of_time piece)
slice_can pieces i piece m m' s s' lines lines' h h' first quanta inside read there p =
    let g = piece.guest in
    let rows = s.config.guests in
    let xs = map slice_of_time (take i pieces) in
    let same : length s'.config.guests ≡ length rows = ap (λ (k : System). length k.config.guests) p.system in
    let all : map slice_of_time pieces ≡ (xs ++ slice_of_time piece ∷ []) ++ map slice_of_time (drop (i + 1) pieces) = ap (map slice_of_time) (sym (take-append-drop (i + 1) pieces)) ∙ map-append slice_of_time (take (i + 1) pieces) (drop (i + 1) pieces) ∙ ap (λ ys. ys ++ map slice_of_time (drop (i + 1) pieces)) (slices_more pieces i piece inside read) in
    let quantum : total (map slice_of_time pieces) g ≡ slice_index (map (λ (row : GuestRow). row.quantum) rows) g = quantum_is (map slice_of_time pieces) rows g quanta (omega (arith, there, h.many)) in
    let front : total (xs ++ slice_of_time piece ∷ []) g ≤ total ((xs ++ slice_of_time piece ∷ []) ++ map slice_of_time (drop (i + 1) pieces)) g = front_takes (xs ++ slice_of_time piece ∷ []) (map slice_of_time (drop (i + 1) pieces)) g in
    let whole : total (map slice_of_time pieces) g ≡ total ((xs ++ slice_of_time piece ∷ []) ++ map slice_of_time (drop (i + 1) pieces)) g = ap (λ ys. total ys g) all in
    let own : taken (slice_of_time piece) g ≡ piece.steps = ap (λ b. if b then piece.steps else 0) (eq-eqb g g refl) in
    let left : slice_index s.turns.left g ≡ slice_index (map (λ (row : GuestRow). row.quantum) rows) g = ap (λ (t : Turns). slice_index t.left g) first in
    record { begun = p.begun; there = omega (arith, there, h.many, h'.many, same); left = omega (arith, p.left g, left, quantum, front, whole, own, total_more xs (slice_of_time piece) g) }

-- when all slices are taken no guest has steps left
pub all_taken : (xs : List Slice) (m m' : Machine) (s s' : System) (lines lines' : List Seen) → s.turns ≡ all_turns s.config.guests → AreQuanta xs 0 s.config.guests → Plays xs m s lines m' s' lines' → NoneLeft s'.turns.left
all_taken xs m m' s s' lines lines' first quanta p i =
    let rows = s.config.guests in
    let quantum : GuestRow → ℕ = λ row. row.quantum in
    let left : slice_index s.turns.left i ≡ slice_index (map quantum rows) i = ap (λ (t : Turns). slice_index t.left i) first in
    both (nat_lt i (length rows))
    (λ inside. let q = quantum_is xs rows i quanta (ltb-true i (length rows) inside) in omega (arith, p.left i, left, q))
    (λ outside.
    let size : length (map quantum rows) ≡ length rows = length-map rows quantum in
    let past : length rows ≤ i = ltb-false i (length rows) outside in
    let none : slice_index (map quantum rows) i ≡ 0 = get_or_past (map quantum rows) i 0 (omega (arith, size, past)) in
    omega (arith, p.left i, left, none))

-- the slices up to a place are played, and then the one there
pub plays_next : (pieces : List TimeSlice) (i : ℕ) (piece : TimeSlice) (m m' m'' : Machine) (s s' s'' : System) (lines lines' lines'' : List Seen) → i < length pieces → piece ≡ slice_index_or pieces i piece → Plays (map slice_of_time (take i pieces)) m s lines m' s' lines' → CanTake s' (slice_of_time piece)
    → TakesSlice (slice_of_time piece) m' s' lines' m'' s'' lines'' → PaysAll (touches_of_slice (slice_of_time piece) (guests_in m'.memory s'.guests)) m' s'.guests m'' s''.guests → Plays (map slice_of_time (take (i + 1) pieces)) m s lines m'' s'' lines''
plays_next pieces i piece m m' m'' s s' s'' lines lines' lines'' inside read p can t pays =
    subst (λ xs. Plays xs m s lines m'' s'' lines'') (sym (slices_more pieces i piece inside read)) (plays_more (map slice_of_time (take i pieces)) (slice_of_time piece) m m' m'' s s' s'' lines lines' lines'' p can t pays)

pub all_played : (pieces : List TimeSlice) (i : ℕ) (m m' : Machine) (s s' : System) (lines lines' : List Seen) → length pieces ≤ i → Plays (map slice_of_time (take i pieces)) m s lines m' s' lines' → Plays (map slice_of_time pieces) m s lines m' s' lines'
all_played pieces i m m' s s' lines lines' h p = subst (λ ts. Plays (map slice_of_time ts) m s lines m' s' lines') (take_all i pieces h) p
