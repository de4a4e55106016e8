-- What a slice comes to.
use Rattle.std.proofs.Common.{ℕ, zero, suc, ◌≡◌, ◌<◌, ◌≤◌, ◌+◌, ◌-◌, List, [], ◌∷◌, length, map, take, drop, refl, sym, ◌∙◌, ap, subst, arith, Bool, true, false, if◌then◌else◌, Option, Some, None}
use Rattle.std.proofs.lemmas.List.Elements.{All-cons}
use Rattle.std.specs.List.{All, slice_get}
use Rattle.std.specs.Prelude.{IfSome, sum}
use Rattle.vax_hw.specs.Machine.{Machine}
use Rattle.vv_io.specs.Lines.{Seen}
use Rattle.sys_guests.specs.Changes.{AdvancesOne, Retires, shown_in}
use Rattle.sys_guests.specs.Kernel.{AreUnits, IsKernel}
use Rattle.sys_guests.specs.Layout.{AreInMachine, guests_in}
use Rattle.sys_guests.specs.declared.turns.TimeSlice.{TimeSlice}
use Rattle.sys_devices.proofs.Showings.{shows_same}
use Rattle.sys_devices.specs.Shows.{Shows, only_on}
use Rattle.sys_objects.specs.Condition.{IsConfig, IsTerminal}
use Rattle.sys_objects.specs.declared.records.Config.{Config}
use Rattle.sys_objects.specs.declared.records.Terminal.{Terminal}
use Rattle.sys_objects.specs.declared.records.VolumeRow.{VolumeRow}
use Rattle.sys_system.proofs.Insides.{AreCounted, inside_of, kernel_holds}
use Rattle.sys_system.proofs.Slicing.{falls}
use Rattle.sys_system.specs.Calls.{CanTake, TakesSlice}
use Rattle.sys_system.specs.Held.{AreSystemParts, system_of, turns_of}
use Rattle.sys_system.specs.System.{IsInMachine, Turns, after_slice, slice_of_time}
use Rattle.sys_system.specs.declared.parts.Parts.{Parts}
use Rattle.sys_state.proofs.Consoles.{bytes_of_console}
use Rattle.sys_state.specs.Consoles.{console_of}
use Rattle.sys_state.specs.Counts.{added, tally_by}
use Rattle.sys_state.specs.Places.{changed}
use Rattle.sys_objects.specs.Places.{is_at}
use Rattle.sys_state.specs.Slices.{Slice, slice_puts}
use Rattle.sys_state.specs.State.{bytes_on}
use Rattle.sys_server.specs.declared.command.ServerState.{ServerState}
use Rattle.vm_state.specs.Run.{Tally}
use Rattle.vm_state.specs.State.{Guest}
use Rattle.vm_stepping.specs.Made.{steps_in, tally_of}
use Rattle.vm_stepping.specs.declared.counts.Counts.{Counts}

-- beyond the terminals no place counts
pub console_in : (ts : List Terminal) (os : List (Option ℕ)) (g : ℕ) → console_of ts (take (length ts) os) g ≡ console_of ts os g
console_in [] os g = refl
console_in (t ∷ ts) [] g = refl
console_in (t ∷ ts) (o ∷ os) g = ap (λ (rest : Option ℕ). if is_at g o then Some t.line else rest) (console_in ts os g)

-- a terminal's line is one of 32
pub small_line : (ts : List Terminal) (os : List (Option ℕ)) (g : ℕ) → All IsTerminal ts → IfSome (console_of ts os g) (λ line. line < 32)
small_line [] os g all = tt
small_line (t ∷ ts) [] g all = tt
small_line (t ∷ ts) (o ∷ os) g all =
    let one : IsTerminal t = all 0 t (omega arith) in
    by (is_at g o) t.line (console_of ts os g) (omega (arith, one.line)) (small_line ts os g (λ i d h. all (suc i) d (omega (arith, h))))
  where
    by : (b : Bool) (line : ℕ) (rest : Option ℕ) → line < 32 → IfSome rest (λ n. n < 32) → IfSome (if b then Some line else rest) (λ n. n < 32)
    by true line rest small others = small
    by false line rest small others = others

-- what a slice shows, on the line of its guest's console
shown_on : (line : ℕ) (console : Option ℕ) (n : ℕ) (o : Option Guest) → only_on console (shown_in n o) line ≡ bytes_on line (slice_puts console n o)
shown_on line console n None = nothing (is_at line console)
  where
    nothing : (b : Bool) → (let none : List ℕ = [] in if b then none else none) ≡ []
    nothing true = refl
    nothing false = refl
shown_on line console n (Some g) = sym (bytes_of_console line console (shown_in n (Some g)))

-- numbers of which one gets lower
changed_long : (f : ℕ → ℕ) (xs : List ℕ) (k : ℕ) → length (changed f xs k) ≡ length xs
changed_long f [] k = refl
changed_long f (x ∷ xs) zero = refl
changed_long f (x ∷ xs) (suc k) = ap suc (changed_long f xs k)

still_few : (xs : List ℕ) (k n most : ℕ) → All (λ x. x ≤ most) xs → All (λ x. x ≤ most) (changed (λ x. x - n) xs k)
still_few [] k n most few = few
still_few (x ∷ xs) zero n most few =
    let one : x ≤ most = few 0 x (omega arith) in
    All-cons (λ y. y ≤ most) (x - n) xs (omega (arith, one)) (λ i d h. few (suc i) d (omega (arith, h)))
still_few (x ∷ xs) (suc k) n most few =
    All-cons (λ y. y ≤ most) x (changed (λ y. y - n) xs k) (few 0 x (omega arith)) (still_few xs k n most (λ i d h. few (suc i) d (omega (arith, h))))

-- how many steps two counts have together
steps_added : (a b c : Counts) → tally_of c ≡ added (tally_of a) (tally_of b) → steps_in c ≡ steps_in a + steps_in b
steps_added a b c e =
    omega (arith, ap (λ (t : Tally). t.plain) e, ap (λ (t : Tally). t.sensitive) e, ap (λ (t : Tally). t.faults) e, ap (λ (t : Tally). t.interrupts) e, ap (λ (t : Tally). t.modify) e, ap (λ (t : Tally). t.idle) e, ap (λ (t : Tally). t.stopped) e)

-- what a slice leaves as it was
pub record StaysBeside (s s' : Parts) : Type 0 where
  pub config : s'.kernel.config ≡ s.kernel.config
  pub server : s'.kernel.server ≡ s.kernel.server
  pub volumes : s'.volumes ≡ s.volumes
  pub rounds : s'.rounds ≡ s.rounds
  pub drives : s'.drives ≡ s.drives

counted_taken : (piece : TimeSlice) (s s' : Parts) (c : Counts) → AreSystemParts s → CanTake (system_of s) (slice_of_time piece) → StaysBeside s s' → steps_in c ≡ piece.steps → tally_of s'.counts ≡ added (tally_of s.counts) (tally_of c) → turns_of s'.turns ≡ after_slice (turns_of s.turns) (slice_of_time piece) → AreCounted s'
counted_taken piece s s' c h can stays steps counts turns =
    let k = piece.guest in
    let n = piece.steps in
    let old : List ℕ = s.turns.left.items in
    let left : s'.turns.left.items ≡ changed (λ x. x - n) old k = ap (λ (t : Turns). t.left) turns in
    record {
      beside = ap length left ∙ changed_long (λ x. x - n) old k ∙ h.system.beside ∙ sym (ap (λ c. length c.guests) stays.config);
      from = omega (arith, ap (λ (t : Turns). t.from) turns, ap length left, changed_long (λ x. x - n) old k, can.there, h.system.many, h.system.beside);
      few = subst (λ xs. All (λ x. x ≤ 100000) xs) (sym left) (still_few old k n 100000 h.system.few);
      counted = omega (arith, h.system.counted, steps_added s.counts c s'.counts counts, steps, ap sum left, falls old k n can.left, stays.rounds);
      trail = omega (arith, ap (λ (t : Tally). t.trail) counts);
      few_rounds = omega (arith, h.system.few_rounds, stays.rounds);
    }

pub taken : (piece : TimeSlice) (m m' : Machine) (s s' : Parts) (lines lines' : List Seen) (shown : List ℕ) (c : Counts) (console : Option ℕ) → AreSystemParts s → IsInMachine m.memory (system_of s) → CanTake (system_of s) (slice_of_time piece) → StaysBeside s s' → AdvancesOne (slice_of_time piece) m s.kernel.guests.items m' s'.kernel.guests.items shown c
    → tally_of s'.counts ≡ added (tally_of s.counts) (tally_of c) → console ≡ console_of s.kernel.config.terminals s.kernel.server.at piece.guest → Shows s.kernel.marks s'.kernel.marks lines lines' (only_on console shown) → turns_of s'.turns ≡ after_slice (turns_of s.turns) (slice_of_time piece) → TakesSlice (slice_of_time piece) m (system_of s) lines m' (system_of s') lines' × AreSystemParts s'
taken piece m m' s s' lines lines' shown c console h stands can stays a counts at shows turns =
    let x : Slice = slice_of_time piece in
    let ts = s.kernel.config.terminals in
    let gs : List Guest = guests_in m.memory s.kernel.guests.items in
    let place = console_of ts (take (length ts) s.kernel.server.at) x.guest in
    let where_to : console ≡ place = at ∙ sym (console_in ts s.kernel.server.at x.guest) in
    let changes = a.changes s.kernel.config.guests stands in
    let tally : tally_of c ≡ tally_by x.steps (slice_get gs x.guest) = a.counts in
    let bytes : (line : ℕ) → only_on console shown line ≡ bytes_on line (slice_puts place x.steps (slice_get gs x.guest)) = λ line. (λ i. only_on (where_to i) (a.shown i) line) ∙ shown_on line place x.steps (slice_get gs x.guest) in
    let stands' : IsInMachine m'.memory (system_of s') = subst (λ (k : Config). AreInMachine k.guests m'.memory s'.kernel.guests.items) (sym stays.config) changes.stay in (
      record {
        system = λ i. record { config = stays.config i; connected = take (length (stays.config i).terminals) (stays.server i).at; mounts = take (length (stays.config i).guests) (stays.server i).mounts; guests = s'.kernel.guests.items; volumes = stays.volumes i; turns = turns i; rounds = stays.rounds i; counts = s'.counts; marks = s'.kernel.marks; drives = stays.drives i };
        goes = record {
          state = λ i. record { connected = take (length (stays.config i).terminals) (stays.server i).at; mounts = take (length (stays.config i).guests) (stays.server i).mounts; guests = changes.guests i; volumes = stays.volumes i };
          shows = shows_same s.kernel.marks s'.kernel.marks lines lines' (only_on console shown) (λ line. bytes_on line (slice_puts place x.steps (slice_get gs x.guest))) bytes shows;
          stands = stands';
          only = changes.only;
          size = changes.size;
        };
        counts = counts ∙ ap (added (tally_of s.counts)) tally;
        retires = subst (λ (t : Tally). Retires m m' t) tally a.retires;
      },
      inside_of m'.memory s' (still m'.memory s s' stays (kernel_holds m.memory s h stands) stands')
          (ap (λ vs. map length vs) stays.volumes ∙ h.system.volumes ∙ ap (λ (k : Config). map (λ (v : VolumeRow). v.blocks) k.volumes) (sym stays.config)) (counted_taken piece s s' c h can stays a.steps counts turns),
    )
  where
    still : (memory : List ℕ) (s s' : Parts) → StaysBeside s s' → IsKernel m.memory s.kernel → IsInMachine memory (system_of s') → IsKernel memory s'.kernel
    still memory s s' stays k stands = record {
      accepted = subst (λ (y : Config). IsConfig y) (sym stays.config) k.accepted;
      placed = stands;
      terminals = ap (λ (y : ServerState). length y.at) stays.server ∙ k.terminals;
      guests = ap (λ (y : ServerState). length y.mounts) stays.server ∙ k.guests;
      consoles = subst (λ (y : Config). All (λ o. IfSome o (λ g. g < length y.guests)) s'.kernel.server.at) (sym stays.config) (subst (λ (y : ServerState). All (λ o. IfSome o (λ g. g < length s.kernel.config.guests)) y.at) (sym stays.server) k.consoles);
      beyond = subst (λ (y : Config). All (λ o. o ≡ None) (drop (length y.terminals) s'.kernel.server.at)) (sym stays.config) (subst (λ (y : ServerState). All (λ o. o ≡ None) (drop (length s.kernel.config.terminals) y.at)) (sym stays.server) k.beyond);
      mounts = subst (λ (y : Config). All (AreUnits (length y.volumes)) s'.kernel.server.mounts) (sym stays.config) (subst (λ (y : ServerState). All (AreUnits (length s.kernel.config.volumes)) y.mounts) (sym stays.server) k.mounts);
    }
