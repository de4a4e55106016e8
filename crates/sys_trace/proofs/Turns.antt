-- A guest's turn, taken a step at a time, and what is shown of it.
use Rattle.std.proofs.Common.{ℕ, false, zero, suc, ◌≡◌, ◌<◌, ◌≤◌, ◌+◌, List, [], ◌∷◌, ◌++◌, length, map, refl, sym, ◌∙◌, ap, subst, arith, append_assoc, append-nil}
use Rattle.sys_runs.specs.Besides.{MissesArePaid}
use Rattle.std.specs.Prelude.{Err, IfSome, Option, Some, slice_get, slice_index, slice_index_or}
use Rattle.std.proofs.lemmas.List.{replicate_more}
use Rattle.std.proofs.lemmas.Option.{get_or_from_slice_get, slice_get_within}
use Rattle.sys_guests.specs.Layout.{guests_in}
use Rattle.sys_guests.specs.Loads.{MemoryAlone}
use Rattle.sys_guests.specs.Present.{KeepsAll, PaysAll}
use Rattle.sys_devices.proofs.Puts.{shows_nothing}
use Rattle.sys_devices.specs.ShownSince.{ShownSince}
use Rattle.sys_objects.specs.Condition.{IsConfig}
use Rattle.sys_objects.specs.declared.records.Config.{Config}
use Rattle.sys_objects.specs.declared.records.GuestRow.{GuestRow}
use Rattle.sys_objects.specs.declared.records.Terminal.{Terminal}
use Rattle.sys_objects.specs.declared.records.VolumeRow.{VolumeRow}
use Rattle.sys_devices.specs.Rows.{FitRows}
use Rattle.sys_state.specs.Guests.{alone, powered}
use Rattle.sys_state.specs.Places.{beside_with, changed}
use Rattle.sys_state.specs.FirstTouches.{touches_of_events, touches_of_transfers}
use Rattle.sys_state.specs.Run.{Input}
use Rattle.sys_state.specs.SlicedTouches.{touches_of_slice}
use Rattle.sys_state.specs.Slices.{AreQuanta, Slice, slices, total}
use Rattle.sys_state.specs.State.{SystemState}
use Rattle.sys_runs.proofs.Faults.{outside, stays_down}
use Rattle.sys_runs.proofs.Many.{more_made, none_made}
use Rattle.sys_runs.specs.Ran.{MakesRun, RunOutside, StaysDown}
use Rattle.sys_runs.specs.Rounds.{MakesRounds}
use Rattle.sys_runs.specs.declared.running.Ran.{Ran}
use Rattle.sys_script.specs.declared.event.Event.{Event}
use Rattle.sys_system.proofs.Playing.{all_taken, plays_more}
use Rattle.sys_system.proofs.Rounding.{round_made}
use Rattle.sys_system.specs.Calls.{AreOf, BeginsRound, CanTake, EndsRound, MakesRound, Plays, TakesSlice}
use Rattle.sys_system.specs.Faults.{Powers}
use Rattle.sys_system.specs.Powers.{IsPowered}
use Rattle.sys_system.specs.declared.power.PowerFault.{PowerFault}
use Rattle.sys_system.specs.System.{IsInMachine, IsSystem, NoneLeft, System, Turns, all_turns, system_state}
use Rattle.sys_trace.specs.TraceLine.{trace_line}
use Rattle.sys_trace.specs.Trace.{trace_from, trace_of}
use Rattle.sys_trace.specs.Traced.{HasOne, input_of, single_steps}
use Rattle.vax_hw.specs.Machine.{Machine}
use Rattle.vm_guest.specs.Kept.{Kept, guest_in}
use Rattle.vm_state.specs.State.{Guest}
use Rattle.vm_state.specs.Step.{step}
use Rattle.vv_io.specs.Blocks as blocks
use Rattle.vv_io.specs.Lines.{Seen}

-- a guest after n steps
abbrev pub later : ℕ → Guest → Guest
later zero g = g
later (suc n) g = later n (step g).guest

-- one line more
trace_next : (number n : ℕ) (g : Guest) → trace_from number (suc n) g ≡ trace_from number n g ++ trace_line (number + n) (later n g) (step (later n g))
trace_next number zero g =
    let same : number ≡ number + 0 = omega arith in
    append-nil (trace_line number g (step g)) ∙ ap (λ k. trace_line k g (step g)) same
trace_next number (suc n) g =
    let same : (number + 1) + n ≡ number + suc n = omega arith in
    let first = trace_line number g (step g) in
    let rest = trace_from (number + 1) n (step g).guest in
    let last : ℕ → List ℕ = λ k. trace_line k (later n (step g).guest) (step (later n (step g).guest)) in
    ap (λ ls. first ++ ls) (trace_next (number + 1) n (step g).guest) ∙ sym (append_assoc first rest (last ((number + 1) + n))) ∙ ap (λ k. (first ++ rest) ++ last k) same

pub trace_more : (n : ℕ) (g : Guest) → trace_of (n + 1) g ≡ trace_of n g ++ trace_line (n + 1) (later n g) (step (later n g))
unfolding trace_of
trace_more n g =
    let next : n + 1 ≡ suc n = omega arith in
    let number : 1 + n ≡ n + 1 = omega arith in
    ap (λ k. trace_from 1 k g) next ∙ trace_next 1 n g ∙ ap (λ k. trace_from 1 n g ++ trace_line k (later n g) (step (later n g))) number

pub nothing_traced : (g : Guest) (start : Seen) → ShownSince false start start (trace_of 0 g)
unfolding trace_of
nothing_traced g start = shows_nothing start

-- single steps of the first of some guests
first_after : (ks : List Terminal) (os : List (Option ℕ)) (n : ℕ) (g : Guest) (gs : List Guest) → slice_get (slices ks os (single_steps n) (g ∷ gs)).now 0 ≡ Some (later n g)
first_after ks os zero g gs = refl
first_after ks os (suc n) g gs = first_after ks os n (step g).guest gs

pub first_later : (ks : List Terminal) (os : List (Option ℕ)) (n : ℕ) (gs now : List Guest) (g : Guest) → slice_get gs 0 ≡ Some g → now ≡ (slices ks os (single_steps n) gs).now → slice_get now 0 ≡ Some (later n g)
first_later ks os n [] now g here is = absurd cc
first_later ks os n (x ∷ gs) now g here is =
    let same : x ≡ g = cc in
    ap (λ (xs : List Guest). slice_get xs 0) is ∙ first_after ks os n x gs ∙ ap (λ y. Some (later n y)) same

-- n steps in all
pub total_of : (n : ℕ) → total (single_steps n) 0 ≡ n
total_of zero = refl
total_of (suc n) = let rest = total_of n in omega (arith, rest)

-- one guest's quantum
pub one_quantum : (rows : List GuestRow) (row : GuestRow) → length rows ≡ 1 → slice_get rows 0 ≡ Some row → AreQuanta (single_steps row.quantum) 0 rows
one_quantum [] row one first = absurd cc
one_quantum (x ∷ []) row one first =
    let same : row ≡ x = cc in
    (total_of row.quantum ∙ ap (λ (r : GuestRow). r.quantum) same, tt)
one_quantum (x ∷ y ∷ rows) row one first = absurd (omega (arith, one))

pub quantum_left : (rows : List GuestRow) (row : GuestRow) → slice_get rows 0 ≡ Some row → slice_index (map (λ (r : GuestRow). r.quantum) rows) 0 ≡ row.quantum
quantum_left [] row first = absurd cc
quantum_left (x ∷ rows) row first =
    let same : x ≡ row = cc in
    ap (λ (r : GuestRow). r.quantum) same

abbrev pub one : Slice
one = record { guest = 0; steps = 1 }

-- where not all of its steps were made the guest can take one
pub step_can : (steps made : ℕ) (m m' : Machine) (s s' : System) (lines lines' : List Seen) → Plays (single_steps made) m s lines m' s' lines' → CanTake s (record { guest = 0; steps = steps }) → IsSystem s → IsSystem s' → made < steps → CanTake s' one
step_can steps made m m' s s' lines lines' p can h h' more =
    let same : length s'.config.guests ≡ length s.config.guests = ap (λ (k : System). length k.config.guests) p.system in
    let all = total_of made in
    record { begun = p.begun; there = omega (arith, can.there, h.many, h'.many, same); left = omega (arith, can.left, p.left 0, all, more) }

-- and has made one step more then
pub single_more : (made : ℕ) (m m' m'' : Machine) (s s' s'' : System) (lines lines' lines'' : List Seen) → Plays (single_steps made) m s lines m' s' lines' → CanTake s' one → TakesSlice one m' s' lines' m'' s'' lines'' → PaysAll (touches_of_slice one (guests_in m'.memory s'.guests)) m' s'.guests m'' s''.guests → Plays (single_steps (made + 1)) m s lines m'' s'' lines''
single_more made m m' m'' s s' s'' lines lines' lines'' p can t pays =
    subst (λ (xs : List Slice). Plays xs m s lines m'' s'' lines'') (replicate_more made one) (plays_more (single_steps made) one m m' m'' s s' s'' lines lines' lines'' p can t pays)

-- at the start of a round the one guest can take its quantum
pub turn_can : (s : System) (row : GuestRow) → IsSystem s → s.turns ≡ all_turns s.config.guests → slice_get s.config.guests 0 ≡ Some row → CanTake s (record { guest = 0; steps = row.quantum })
turn_can s row h first is =
    let left : slice_index s.turns.left 0 ≡ row.quantum = ap (λ (t : Turns). slice_index t.left 0) first ∙ quantum_left s.config.guests row is in
    let within = slice_get_within s.config.guests 0 row is in
    record { begun = ap (λ (t : Turns). t.is_begun) first; there = omega (arith, h.many, within); left = omega (arith, left) }

-- which uses up all of it
pub turn_taken : (m m' : Machine) (s s' : System) (lines lines' : List Seen) (row : GuestRow) → s.turns ≡ all_turns s.config.guests → length s.config.guests ≡ 1 → slice_get s.config.guests 0 ≡ Some row → Plays (single_steps row.quantum) m s lines m' s' lines' → NoneLeft s'.turns.left
turn_taken m m' s s' lines lines' row first alone is p = all_taken (single_steps row.quantum) m m' s s' lines lines' first (one_quantum s.config.guests row alone is) p

-- no events are of every round
pub none_of : (round : ℕ) → AreOf round []
none_of round = λ k d h. absurd (omega (arith, h))

-- the guest that begins the round is that of power-up
pub first_powered : (c : Config) (images : List (List ℕ)) (volumes : List (List (List ℕ))) (row : GuestRow) (image : List ℕ) (m m' : Machine) (s s' : System) (lines lines' : List Seen) → IsPowered c images volumes m s → BeginsRound [] m s lines m' s' lines' → HasOne c row → images ≡ image ∷ [] → slice_get (guests_in m'.memory s'.guests) 0 ≡ Some (powered row image)
first_powered c images volumes row image m m' s s' lines lines' p b alone is =
    ap (λ (y : SystemState). slice_get y.guests 0) (b.goes.state ∙ p.state) ∙ (λ i. slice_get (beside_with powered (alone.guests i) (is i)) 0)

-- where there are no volumes none were read
pub no_volumes : (rows : List VolumeRow) (volumes : List (List (List ℕ))) → rows ≡ [] → FitRows rows volumes → volumes ≡ []
no_volumes rows [] none fit = refl
no_volumes rows (v ∷ vs) none fit =
    let long : length (map length (v ∷ vs)) ≡ length (map (λ (row : VolumeRow). row.blocks) rows) = ap length fit in
    let short : length (map (λ (row : VolumeRow). row.blocks) rows) ≡ 0 = ap (λ (rs : List VolumeRow). length (map (λ (row : VolumeRow). row.blocks) rs)) none in
    absurd (omega (arith, long, short))

-- The turn is a round without events.
pub one_round : (n : ℕ) (m m1 m2 m3 : Machine) (s s1 s2 s3 : System) (lines lines1 lines2 lines3 : List Seen) → IsSystem s → IsInMachine m.memory s → s.turns.is_begun ≡ false → BeginsRound [] m s lines m1 s1 lines1 → Plays (single_steps n) m1 s1 lines1 m2 s2 lines2 → NoneLeft s2.turns.left → EndsRound m2 s2 lines2 m3 s3 lines3
    → KeepsAll (touches_of_events s.config (s.rounds + 1) (system_state m.memory s) []) s.guests s1.guests → IsSystem s2 → KeepsAll (touches_of_transfers s2.config s2.config.guests s2.mounts (guests_in m2.memory s2.guests) s2.volumes) s2.guests s3.guests → MakesRounds 1 [] m s lines m3 s3 lines3
one_round n m m1 m2 m3 s s1 s2 s3 lines lines1 lines2 lines3 h stands rests b p none e keeps h2 leaves =
    let made : MakesRound [] m s lines m3 s3 lines3 = round_made [] (single_steps n) m m1 m2 m3 s s1 s2 s3 lines lines1 lines2 lines3 h.accepted stands (none_of (s.rounds + 1)) b p none e keeps h2.units leaves in
    more_made 0 [] [] m m m3 s s s3 lines lines lines3 (none_made [] m s lines rests h.trail stands) refl (none_of ((s.rounds + 0) + 1)) made

-- a run of one guest, without volumes
pub input_is : (c : Config) (images : List (List ℕ)) (volumes : List (List (List ℕ))) (row : GuestRow) (image : List ℕ) (ran : Ran) (o : RunOutside) → HasOne c row → images ≡ image ∷ [] → FitRows c.volumes volumes → MakesRun MissesArePaid (record { config = c; images = images; volumes = volumes; events = []; rounds = 1 }) ran o → MakesRun MissesArePaid (input_of c image) ran o
input_is c images volumes row image ran o one is fit made =
    let none : volumes ≡ [] = no_volumes c.volumes volumes one.volumes fit in
    let same : record { config = c; images = images; volumes = volumes; events = []; rounds = 1 } ≡ input_of c image = λ i. record { config = c; images = is i; volumes = none i; events = []; rounds = 1 } in
    subst (λ (x : Input). MakesRun MissesArePaid x ran o) same made

-- the first of the guests with their memories
pub given_first : (memory : List ℕ) (ks : List Kept) (k : Kept) (h : Guest) → slice_get ks 0 ≡ Some k → slice_get (guests_in memory ks) 0 ≡ Some h → guest_in memory k ≡ h
given_first memory [] k h is here = absurd cc
given_first memory (x ∷ ks) k h is here =
    let same : x ≡ k = cc in
    let one : guest_in memory x ≡ h = cc in
    ap (guest_in memory) (sym same) ∙ one

first_changed : (gs now : List Guest) (h : Guest) → slice_get gs 0 ≡ Some h → now ≡ changed (λ g. (alone 1 g).guest) gs 0 → slice_get now 0 ≡ Some (step h).guest
first_changed [] now h here is = absurd cc
first_changed (x ∷ gs) now h here is =
    let same : x ≡ h = cc in
    ap (λ (xs : List Guest). slice_get xs 0) is ∙ ap (λ (y : Guest). Some (step y).guest) same

-- a step of the first guest leads to the definition's
pub step_made : (m m' : Machine) (s s' : System) (lines lines' : List Seen) (k' : Kept) (h : Guest) → TakesSlice one m s lines m' s' lines' → slice_get (guests_in m.memory s.guests) 0 ≡ Some h → slice_get s'.guests 0 ≡ Some k' → guest_in m'.memory k' ≡ (step h).guest
step_made m m' s s' lines lines' k' h t here is =
    given_first m'.memory s'.guests k' (step h).guest is (first_changed (guests_in m.memory s.guests) (guests_in m'.memory s'.guests) h here (ap (λ (y : SystemState). y.guests) t.goes.state))

-- power stays down
pub stays_for : (c : Config) (images : List (List ℕ)) (image : List ℕ) (m m' : Machine) (lines : List Seen) (drives drives' : List blocks.SeenDrive) (e : PowerFault) → Powers c images drives drives' m' (Err e) → MemoryAlone m m' → images ≡ image ∷ [] → StaysDown c (image ∷ []) e (outside m m' lines drives drives')
stays_for c images image m m' lines drives drives' e p alone is = subst (λ (xs : List (List ℕ)). StaysDown c xs e (outside m m' lines drives drives')) is (stays_down c images m m' lines drives drives' e p alone)

-- the only row
pub only_row : (rows : List GuestRow) → length rows ≡ 1 → (row : GuestRow) × (slice_get rows 0 ≡ Some row)
only_row [] alone = absurd (omega (arith, alone))
only_row (row ∷ rows) alone = (row, refl)

pub first_is : (rows : List GuestRow) (d : GuestRow) → 1 ≤ length rows → IfSome (slice_get rows 0) (λ row. (slice_index_or rows 0 d).quantum ≡ row.quantum)
first_is [] d some = absurd (omega (arith, some))
first_is (row ∷ rows) d some = refl

-- its quantum
pub quantum_of : (given rows : List GuestRow) (row : GuestRow) (n : ℕ) → given ≡ rows → slice_get rows 0 ≡ Some row → IfSome (slice_get given 0) (λ r. n ≡ r.quantum) → n ≡ row.quantum
quantum_of given rows row n same is has =
    let here : slice_get given 0 ≡ Some row = ap (λ (rs : List GuestRow). slice_get rs 0) same ∙ is in
    subst (λ (o : Option GuestRow). IfSome o (λ r. n ≡ r.quantum)) here has

pub quantum_few : (c : Config) (row : GuestRow) (n : ℕ) → IsConfig c → slice_get c.guests 0 ≡ Some row → n ≡ row.quantum → n ≤ 100000
quantum_few c row n accepted is same =
    let row_is : slice_index_or c.guests 0 row ≡ row = get_or_from_slice_get c.guests 0 row row is in
    let few : row.quantum ≤ 100000 = subst (λ (r : GuestRow). r.quantum ≤ 100000) row_is (accepted.guests 0 row (slice_get_within c.guests 0 row is)).few_steps in
    omega (arith, few, same)

pub same_quantum : (c : Config) (row other : GuestRow) → HasOne c row → slice_get c.guests 0 ≡ Some other → other.quantum ≡ row.quantum
same_quantum c row other alone is =
    let both : Some row ≡ Some other = ap (λ (rs : List GuestRow). slice_get rs 0) (sym alone.guests) ∙ is in
    let same : row ≡ other = cc in
    ap (λ (r : GuestRow). r.quantum) (sym same)

-- the system at the start of a round
module _ (c : Config) (row : GuestRow) (n : ℕ) (es : List Event) (m m1 : Machine) (s s1 : System) (lines lines1 : List Seen) (is : slice_get c.guests 0 ≡ Some row) (quantum : n ≡ row.quantum) (same : s.config ≡ c) (b : BeginsRound es m s lines m1 s1 lines1) where
  config : s1.config ≡ s.config
  config = ap (λ (k : System). k.config) b.system

  first : s1.turns ≡ all_turns s1.config.guests
  first = ap (λ (k : System). k.turns) b.system ∙ ap (λ (y : Config). all_turns y.guests) (sym config)

  has : slice_get s1.config.guests 0 ≡ Some row
  has = ap (λ (y : Config). slice_get y.guests 0) (config ∙ same) ∙ is

  -- the guest can take its turn
  pub takes_turn : IsSystem s1 → CanTake s1 (record { guest = 0; steps = n })
  takes_turn h = subst (λ k. CanTake s1 (record { guest = 0; steps = k })) (sym quantum) (turn_can s1 row h first has)

  -- and no guest has steps left then
  pub none_left : (m2 : Machine) (s2 : System) (lines2 : List Seen) → length c.guests ≡ 1 → Plays (single_steps n) m1 s1 lines1 m2 s2 lines2 → NoneLeft s2.turns.left
  none_left m2 s2 lines2 alone p =
      turn_taken m1 m2 s1 s2 lines1 lines2 row first (ap (λ (y : Config). length y.guests) (config ∙ same) ∙ alone) has (subst (λ k. Plays (single_steps k) m1 s1 lines1 m2 s2 lines2) quantum p)
