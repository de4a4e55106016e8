-- First touches of the guests over events.
use Rattle.std.proofs.Common.{ℕ, ◌≡◌, ◌<◌, ◌≤◌, ◌+◌, List, [], ◌∷◌, ◌++◌, length, take, map, slice_index_or, refl, sym, ◌∙◌, ap, subst, Option, Some, None}
use Rattle.std.proofs.lemmas.List.{take_all, take_more}
use Rattle.vax_hw.specs.Machine.{Machine}
use Rattle.vv_io.specs.Lines.{Seen}
use Rattle.sys_events.proofs.Happening.{connected_at}
use Rattle.sys_events.proofs.Leading.{Volumes}
use Rattle.sys_events.proofs.Seats.{same_verdict}
use Rattle.sys_events.specs.Happens.{Happen, Happens, line_starts_at}
use Rattle.sys_guests.specs.Kernel.{kernel_state, scene}
use Rattle.sys_guests.specs.Layout.{guests_in}
use Rattle.sys_guests.specs.Present.{HavePresent, KeepsAll}
use Rattle.sys_guests.specs.declared.kernel.Kernel.{Kernel}
use Rattle.sys_objects.specs.declared.records.Config.{Config}
use Rattle.sys_state.specs.Events.{events, happened, is_named}
use Rattle.sys_state.specs.FirstTouches.{event_starts, line_starts, started_by, starts_at, touches_of_events, with_reset}
use Rattle.sys_state.specs.Places.{place_of}
use Rattle.sys_state.specs.State.{SystemState, is_running, server_of}
use Rattle.sys_script.specs.declared.event.Event.{Event}
use Rattle.sys_script.specs.declared.event.Typed.{Typed}
use Rattle.sys_server.specs.Verdict.{verdict_of}
use Rattle.sys_server.specs.declared.command.Command.{Command}
use Rattle.sys_server.specs.declared.command.Verdict.{Verdict}
use Rattle.sys_server.specs.declared.command.Verdict.TheVariants.{Granted}
use Rattle.vm_guest.specs.Kept.{Kept}
use Rattle.vm_state.specs.State.{Guest}
use Rattle.vm_state.specs.Touches.{Touching}

-- no guest's tables switch
pub none_told : (ks : List Kept) → KeepsAll (λ ts. ts) ks ks
none_told ks ts all = all

-- by the command, and by the verdict
pub as_started : (gs : List Guest) (ks ks' : List Kept) {c d : Command} → c ≡ d → KeepsAll (with_reset (started_by (Granted d)) gs) ks ks' → KeepsAll (with_reset (started_by (Granted c)) gs) ks ks'
as_started gs ks ks' e keeps = subst (λ (x : Command). KeepsAll (with_reset (started_by (Granted x)) gs) ks ks') (sym e) keeps

pub as_judged : (gs : List Guest) (ks ks' : List Kept) {v w : Verdict} → v ≡ w → KeepsAll (with_reset (started_by w) gs) ks ks' → KeepsAll (with_reset (started_by v) gs) ks ks'
as_judged gs ks ks' e keeps = subst (λ (x : Verdict). KeepsAll (with_reset (started_by x) gs) ks ks') (sym e) keeps

pub judged_so : (m : Machine) (k : Kernel) (gs : List Guest) (ks ks' : List Kept) (n : ℕ) (text : List ℕ) (v : Verdict) → v ≡ verdict_of k.config k.server n text → KeepsAll (with_reset (started_by v) gs) ks ks' → (x : Volumes) → KeepsAll (with_reset (started_by (verdict_of k.config (server_of (kernel_state m.memory k x)) n text)) gs) ks ks'
judged_so m k gs ks ks' n text v judged keeps x =
    let running = map is_running (kernel_state m.memory k x).guests in
    let same : v ≡ verdict_of k.config (server_of (kernel_state m.memory k x)) n text = judged ∙ sym (same_verdict k.config k.server running n text) in
    subst (λ (w : Verdict). KeepsAll (with_reset (started_by w) gs) ks ks') same keeps

-- a line at a terminal that has a guest, and at one that has none
line_so : (m : Machine) (k : Kernel) (gs : List Guest) (ks ks' : List Kept) (n : ℕ) (text : List ℕ) (o : Option ℕ) (x : Volumes) → n < length k.config.terminals → slice_index_or k.server.at n None ≡ o → KeepsAll (with_reset (line_starts k.config (kernel_state m.memory k x) n text o) gs) ks ks' → KeepsAll (with_reset (line_starts_at k.config (kernel_state m.memory k x) n text) gs) ks ks'
line_so m k gs ks ks' n text o x there at keeps = subst (λ (p : Option ℕ). KeepsAll (with_reset (line_starts k.config (kernel_state m.memory k x) n text p) gs) ks ks') (sym (connected_at m k x n there ∙ at)) keeps

pub typed_so : (m : Machine) (k : Kernel) (gs : List Guest) (ks ks' : List Kept) (n : ℕ) (text : List ℕ) {g : ℕ} → n < length k.config.terminals → slice_index_or k.server.at n None ≡ Some g → KeepsAll (λ ts. ts) ks ks' → (x : Volumes) → KeepsAll (with_reset (line_starts_at k.config (kernel_state m.memory k x) n text) gs) ks ks'
typed_so m k gs ks ks' n text {g = g} there at keeps x = line_so m k gs ks ks' n text (Some g) x there at keeps

pub asked_so : (m : Machine) (k : Kernel) (gs : List Guest) (ks ks' : List Kept) (n : ℕ) (text : List ℕ) → n < length k.config.terminals → slice_index_or k.server.at n None ≡ None → ((x : Volumes) → KeepsAll (with_reset (started_by (verdict_of k.config (server_of (kernel_state m.memory k x)) n text)) gs) ks ks') → (x : Volumes) → KeepsAll (with_reset (line_starts_at k.config (kernel_state m.memory k x) n text) gs) ks ks'
asked_so m k gs ks ks' n text there at keeps x = line_so m k gs ks ks' n text None x there at (keeps x)

-- an event, at a terminal that isn't there, and at one that is
pub nowhere_so : (m : Machine) (k : Kernel) (gs : List Guest) (ks : List Kept) (e : Event) → place_of (is_named e.terminal) k.config.terminals ≡ None → (x : Volumes) → KeepsAll (with_reset (event_starts k.config (kernel_state m.memory k x) e) gs) ks ks
nowhere_so m k gs ks e none x = subst (λ (o : Option ℕ). KeepsAll (with_reset (starts_at k.config (kernel_state m.memory k x) o e.what) gs) ks ks) (sym none) (none_told ks)

pub somewhere_so : (m : Machine) (k : Kernel) (gs : List Guest) (ks ks' : List Kept) (e : Event) (n : ℕ) (what : Typed) → place_of (is_named e.terminal) k.config.terminals ≡ Some n → e.what ≡ what → ((x : Volumes) → KeepsAll (with_reset (starts_at k.config (kernel_state m.memory k x) (Some n) what) gs) ks ks') → (x : Volumes) → KeepsAll (with_reset (event_starts k.config (kernel_state m.memory k x) e) gs) ks ks'
somewhere_so m k gs ks ks' e n what at is keeps x = subst (λ (w : Option ℕ × Typed). KeepsAll (with_reset (starts_at k.config (kernel_state m.memory k x) w.0 w.1) gs) ks ks') (λ i. (sym at i, sym is i)) (keeps x)

-- events, one more
touches_more : (c : Config) (round : ℕ) (s : SystemState) (es : List Event) (e : Event) (ts : List Touching) → touches_of_events c round s (es ++ e ∷ []) ts ≡ with_reset (event_starts c (events c round s es).now e) (happened c round (events c round s es).now e).now.guests (touches_of_events c round s es ts)
touches_more c round s [] e ts = refl
touches_more c round s (d ∷ es) e ts = touches_more c round (happened c round s d).now es e (with_reset (event_starts c s d) (happened c round s d).now.guests ts)

pub one_more_so : (m m' m'' : Machine) (k k' k'' : Kernel) (l l' l'' : List Seen) (round : ℕ) (es : List Event) (i : ℕ) (e : Event) → i < length es → e ≡ slice_index_or es i e → Happen round (take i es) (scene m k l) (scene m' k' l') → Happens round e (scene m' k' l') (scene m'' k'' l'')
    → ((x : Volumes) → KeepsAll (touches_of_events k.config round (kernel_state m.memory k x) (take i es)) k.guests.items k'.guests.items)
    → ((x : Volumes) → KeepsAll (with_reset (event_starts k'.config (kernel_state m'.memory k' x) e) (guests_in m''.memory k''.guests.items)) k'.guests.items k''.guests.items)
    → (x : Volumes) → KeepsAll (touches_of_events k.config round (kernel_state m.memory k x) (take (i + 1) es)) k.guests.items k''.guests.items
one_more_so m m' m'' k k' k'' l l' l'' round es i e there read before next keeps more x ts all =
    let c : Config = k.config in
    let s : SystemState = kernel_state m.memory k x in
    let front : List Event = take i es in
    let now : SystemState = (events c round s front).now in
    let first = before x in
    let second = next x in
    let later : guests_in m''.memory k''.guests.items ≡ (happened c round now e).now.guests = ap (λ (z : SystemState). z.guests) second.state ∙ (λ j. (happened (first.config j) round (first.state j) e).now.guests) in
    let us : List Touching = touches_of_events c round s front ts in
    let one : HavePresent k''.guests.items (with_reset (event_starts c now e) (happened c round now e).now.guests us) =
    subst (λ (gs : List Guest). HavePresent k''.guests.items (with_reset (event_starts c now e) gs us)) later
    (subst (λ (w : Config × SystemState). HavePresent k''.guests.items (with_reset (event_starts w.0 w.1 e) (guests_in m''.memory k''.guests.items) us)) (λ j. (first.config j, first.state j)) (more x us (keeps x ts all))) in
    subst (λ (ds : List Event). HavePresent k''.guests.items (touches_of_events c round s ds ts)) (sym (take_more es i e there ∙ ap (λ (d : Event). front ++ d ∷ []) (sym read)))
    (subst (λ (us' : List Touching). HavePresent k''.guests.items us') (sym (touches_more c round s front e ts)) one)

pub all_so : (m : Machine) (k : Kernel) (ks' : List Kept) (round : ℕ) (es : List Event) (i : ℕ) → length es ≤ i → ((x : Volumes) → KeepsAll (touches_of_events k.config round (kernel_state m.memory k x) (take i es)) k.guests.items ks') → (x : Volumes) → KeepsAll (touches_of_events k.config round (kernel_state m.memory k x) es) k.guests.items ks'
all_so m k ks' round es i end keeps x = subst (λ (ds : List Event). KeepsAll (touches_of_events k.config round (kernel_state m.memory k x) ds) k.guests.items ks') (take_all i es end) (keeps x)
