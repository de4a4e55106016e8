-- A command, from its verdict to its audit.
use Rattle.std.proofs.Common.{ℕ, ◌≡◌, ◌<◌, List, [], ◌∷◌, ◌++◌, length, map, slice_get, refl, sym, ◌∙◌, ap, subst, append_assoc, Bool, Option, Some, None, option_and_then, option_map, suc, true, false, if◌then◌else◌, slice_set}
use Rattle.std.specs.Prelude.{Vec, option_to_list}
use Rattle.std.specs.declared.alloc.Global.{Global}
use Rattle.vax_hw.specs.Machine.{Machine}
use Rattle.vm_console.specs.Kept.{KeptOutput}
use Rattle.vm_guest.specs.Kept.{Kept}
use Rattle.vm_state.specs.State.{Guest}
use Rattle.vv_io.specs.Lines.{Seen}
use Rattle.sys_events.proofs.Leading.{kernel_holds, leads_none, leads_same, leads_served, leads_shown, leads_started, leads_then, leads_turned, server_holds}
use Rattle.sys_events.proofs.Lists.{get_within, position_is}
use Rattle.sys_events.proofs.Seats.{same_took, same_verdict, still_server}
use Rattle.sys_events.proofs.Telling.{console_in_front, console_told, told_then, who_runs}
use Rattle.sys_events.specs.Happens.{Does, DoesAnywhere, DoesUnseen, asked_at, asked_at_row, guest_halted, guest_typed, guests_by, guests_obeyed, server_obeyed, shown_before, state_after, verdict_carried_out}
use Rattle.sys_events.specs.Saying.{answers, audits, puts_on, runs, show_lines, taken_notice, taken_puts}
use Rattle.sys_events.specs.Seats.{Names, took}
use Rattle.sys_guests.specs.Changes.{StartsOne, StopShows, TakesStateAt}
use Rattle.sys_guests.specs.Kernel.{IsKernel, Leads, kernel_state, scene}
use Rattle.sys_guests.specs.declared.kernel.Kernel.{Kernel}
use Rattle.sys_devices.specs.Shows.{Shows, only_on}
use Rattle.sys_objects.specs.declared.records.Config.{Config}
use Rattle.sys_objects.specs.declared.records.GuestRow.{GuestRow}
use Rattle.sys_objects.specs.declared.records.Terminal.{Terminal}
use Rattle.sys_state.specs.Consoles.{console_of, on_console}
use Rattle.sys_state.specs.Events.{after_verdict, audit_puts, commanded, message_of, reset_by, said_on}
use Rattle.sys_state.specs.Guests.{reset, stopped_by_command, typed}
use Rattle.sys_objects.specs.Places.{is_at}
use Rattle.sys_state.specs.Places.{changed, place_of}
use Rattle.sys_state.specs.State.{Put, SystemState, bytes_on, is_running, server_of}
use Rattle.sys_server.specs.Apply.{HasPlaces, applied, taken}
use Rattle.sys_server.specs.Replies.{reply_of, shown_lines, taken_text}
use Rattle.sys_server.specs.Verdict.{verdict_of}
use Rattle.sys_server.specs.declared.command.Command.{Command}
use Rattle.sys_server.specs.declared.command.Command.TheVariants.{Connect, Start, Halt, MountAt, Dismount, Show}
use Rattle.sys_server.specs.declared.command.ServerState.{ServerState}
use Rattle.sys_server.specs.declared.command.Verdict.{Verdict}
use Rattle.sys_server.specs.declared.command.Verdict.TheVariants.{Granted, BadCommand, NoSuchObject, Denied}

-- a line is typed to a guest
pub guest_types : (k : Kernel) (guests' : Vec Kept Global) (g : ℕ) (text : List ℕ) → TakesStateAt g (typed text) k.guests.items guests'.items → DoesUnseen (guest_typed g text) k (record k { guests = guests' })
guest_types k guests' g text turns l m h x = leads_turned m k guests' k.port l x g (typed text) h turns

-- a guest is stopped, and its console is shown that
pub guest_halts : (k : Kernel) (guests' : Vec Kept Global) (port' : KeptOutput) (marks' : List Bool) (l l' : List Seen) (g : ℕ) (console : Option ℕ) (bytes : List ℕ) → TakesStateAt g stopped_by_command k.guests.items guests'.items → StopShows g k.guests.items bytes
    → console ≡ console_of k.config.terminals k.server.at g → Shows k.marks marks' l l' (only_on console bytes) → DoesAnywhere (guest_halted k.config g) k l (record k { guests = guests'; port = port'; marks = marks' }) l'
guest_halts k guests' port' marks' l l' g console bytes turns said at shows m h x =
    let s : SystemState = kernel_state m.memory k x in
    let turned = leads_turned m k guests' port' l x g stopped_by_command h turns in
    let place : console ≡ console_of k.config.terminals s.connected g = at ∙ sym (console_in_front k.config.terminals k.server.at g) in
    let told = console_told k.marks marks' l l' console (console_of k.config.terminals s.connected g) bytes (message_of (slice_get s.guests g)) place (said m.memory) shows in
    leads_same (guest_halted k.config g s) turned.state (λ line. refl) (leads_then turned (leads_shown m (record k { guests = guests'; port = port' }) marks' l l' x (on_console (console_of k.config.terminals s.connected g) (message_of (slice_get s.guests g))) turned.holds told))

-- nothing is shown before the replies of other commands
abbrev pub IsQuiet : Verdict → Type 0
IsQuiet v = (c : Config) (s : SystemState) (n : ℕ) (t : Terminal) → (after_verdict c s n t v).before ≡ []

quiet : (c : Config) (s : SystemState) (n : ℕ) (o : Option Terminal) (v : Verdict) → IsQuiet v → shown_before c s n o v ≡ []
quiet c s n None v none = refl
quiet c s n (Some t) v none = none c s n t

-- START
pub starts : (m m' : Machine) (k : Kernel) (guests' : Vec Kept Global) (l : List Seen) (n g : ℕ) → IsKernel m.memory k → g < length k.config.guests → StartsOne g m k.guests.items m' guests'.items → m' ≡ record m { memory = m'.memory }
    → Does (guests_obeyed k.config n (Start g)) (scene m k l) (scene m' (record k { guests = guests' }) l)
starts m m' k guests' l n g h there start rest x =
    let s : SystemState = kernel_state m.memory k x in
    let (row, is) = get_within k.config.guests g there in
    let gs : List Guest = s.guests in
    let by_row : changed (reset row) gs g ≡ changed (reset_by (slice_get k.config.guests g)) gs g = ap (λ (o : Option GuestRow). changed (reset_by o) gs g) (sym is) in
    leads_same (guests_obeyed k.config n (Start g) s) (λ i. record s { guests = by_row i }) (λ line. ap (λ (ps : List Put). bytes_on line ps) (sym (quiet k.config s n (slice_get k.config.terminals n) (Granted (Start g)) (λ c s n t. refl))))
    (leads_started m m' k guests' l x g row h is start rest)

-- HALT
pub halts : (m : Machine) (k k' : Kernel) (l l' : List Seen) (n g : ℕ) → IsKernel m.memory k → n < length k.config.terminals → DoesAnywhere (guest_halted k.config g) k l k' l' → Does (guests_obeyed k.config n (Halt g)) (scene m k l) (scene m k' l')
halts m k k' l l' n g h there does x =
    let s : SystemState = kernel_state m.memory k x in
    let (t, is) = get_within k.config.terminals n there in
    leads_same (guests_obeyed k.config n (Halt g) s) refl (λ line. ap (λ (o : Option Terminal). bytes_on line (shown_before k.config s n o (Granted (Halt g)))) (sym is)) (does m h x)

-- SHOW
shown_same : (c : Config) (s : SystemState) (n : ℕ) (ks : List Kept) (o : Option Terminal) → map is_running s.guests ≡ map runs ks → show_lines c ks o ≡ shown_before c s n o (Granted Show)
shown_same c s n ks None e = refl
shown_same c s n ks (Some t) e = ap (λ (rs : List Bool). puts_on t.line (shown_lines c (record { at = []; mounts = []; running = rs }) t.class)) (sym e)

pub shows_all : (m : Machine) (k : Kernel) (marks' : List Bool) (l l' : List Seen) (n : ℕ) (ks : List Kept) → IsKernel m.memory k → ks ≡ k.guests.items → Shows k.marks marks' l l' (λ line. bytes_on line (show_lines k.config ks (slice_get k.config.terminals n)))
    → Does (guests_obeyed k.config n Show) (scene m k l) (scene m (record k { marks = marks' }) l')
shows_all m k marks' l l' n ks h same shows x =
    let s : SystemState = kernel_state m.memory k x in
    let o : Option Terminal = slice_get k.config.terminals n in
    leads_same (guests_obeyed k.config n Show s) refl (λ line. ap (λ (ps : List Put). bytes_on line ps) (shown_same k.config s n ks o (who_runs m.memory k.guests.items ∙ ap (map runs) (sym same))))
    (leads_shown m k marks' l l' x (show_lines k.config ks o) h shows)

-- the others do nothing to guests
pub rests : (m : Machine) (k : Kernel) (l : List Seen) (n : ℕ) (command : Command) → IsKernel m.memory k → ((c : Config) (gs : List Guest) → gs ≡ guests_by c command gs) → IsQuiet (Granted command) → Does (guests_obeyed k.config n command) (scene m k l) (scene m k l)
rests m k l n command h same none x =
    let s : SystemState = kernel_state m.memory k x in
    leads_same (guests_obeyed k.config n command s) (λ i. record s { guests = same k.config s.guests i }) (λ line. ap (λ (ps : List Put). bytes_on line ps) (sym (quiet k.config s n (slice_get k.config.terminals n) (Granted command) none)))
    (leads_none m k l x h)

-- what is shown before the reply is the same after the server's part
before_same : (c : Config) (s : SystemState) (n : ℕ) (command : Command) (o : Option Terminal) → shown_before c (server_obeyed n command s).now n o (Granted command) ≡ shown_before c s n o (Granted command)
unfolding applied
before_same c s n command None = refl
before_same c s n (Connect g) (Some t) = refl
before_same c s n (Start g) (Some t) = refl
before_same c s n (Halt g) (Some t) = refl
before_same c s n (MountAt g unit mount) (Some t) = refl
before_same c s n (Dismount g unit) (Some t) = refl
before_same c s n Show (Some t) = refl

-- a granted command: the server's part, and then the guests'
pub obeys : (m m' : Machine) (k k' : Kernel) (l l' : List Seen) (n : ℕ) (command : Command) → IsKernel m.memory k → n < length k.config.terminals → HasPlaces command → Names k.config command
    → Does (guests_obeyed k.config n command) (scene m (record k { server = applied k.server n command }) l) (scene m' k' l') → Does (verdict_carried_out k.config n (Granted command)) (scene m k l) (scene m' k' l')
obeys m m' k k' l l' n command h there places names does x =
    let c : Config = k.config in
    let s : SystemState = kernel_state m.memory k x in
    let k1 : Kernel = record k { server = applied k.server n command } in
    let served = leads_served m k l x n command h there places names in
    let acted : Leads (guests_obeyed c n command (server_obeyed n command s).now) (scene m k1 l) (scene m' k' l') x = subst (λ (z : SystemState). Leads (guests_obeyed c n command z) (scene m k1 l) (scene m' k' l') x) served.state (does x) in
    leads_same (verdict_carried_out c n (Granted command) s) refl (λ line. ap (λ (ps : List Put). bytes_on line ps) (before_same c s n command (slice_get c.terminals n))) (leads_then served acted)

-- any other verdict does nothing
pub refuses : (m : Machine) (k : Kernel) (l : List Seen) (n : ℕ) (v : Verdict) → IsKernel m.memory k → ((c : Config) (s : SystemState) → s ≡ state_after c n v s) → IsQuiet v → Does (verdict_carried_out k.config n v) (scene m k l) (scene m k l)
refuses m k l n v h same none x =
    let s : SystemState = kernel_state m.memory k x in
    leads_same (verdict_carried_out k.config n v s) (same k.config s) (λ line. ap (λ (ps : List Put). bytes_on line ps) (sym (quiet k.config s n (slice_get k.config.terminals n) v none))) (leads_none m k l x h)

-- the parts of what a verdict does
state_is : (c : Config) (s : SystemState) (n : ℕ) (t : Terminal) (v : Verdict) → state_after c n v s ≡ (after_verdict c s n t v).now
unfolding applied
state_is c s n t (Granted (Connect g)) = refl
state_is c s n t (Granted (Start g)) = refl
state_is c s n t (Granted (Halt g)) = refl
state_is c s n t (Granted (MountAt g unit mount)) = refl
state_is c s n t (Granted (Dismount g unit)) = refl
state_is c s n t (Granted Show) = refl
state_is c s n t BadCommand = refl
state_is c s n t NoSuchObject = refl
state_is c s n t (Denied rule) = refl

-- whose console a verdict takes
abbrev notice : Option ℕ → List Put
notice o = map (λ line. said_on line taken_text) (option_to_list o)

-- the line of the terminal at a place
abbrev line_at : List Terminal → Option ℕ → Option ℕ
line_at ks place = option_and_then (λ n. option_map (λ (t : Terminal). t.line) (slice_get ks n)) place

nowhere : (o : Option ℕ) → line_at [] o ≡ None
nowhere None = refl
nowhere (Some n) = refl

one_after : (k : Terminal) (ks : List Terminal) (o : Option ℕ) → line_at (k ∷ ks) (option_map suc o) ≡ line_at ks o
one_after k ks None = refl
one_after k ks (Some n) = refl

either_place : (k : Terminal) (ks : List Terminal) (b : Bool) (place line : Option ℕ) → line_at ks place ≡ line → line_at (k ∷ ks) (if b then Some 0 else option_map suc place) ≡ (if b then Some k.line else line)
either_place k ks true place line e = refl
either_place k ks false place line e = one_after k ks place ∙ e

console_place : (g : ℕ) (ks : List Terminal) (os : List (Option ℕ)) → line_at ks (place_of (is_at g) os) ≡ console_of ks os g
console_place g [] os = nowhere (place_of (is_at g) os)
console_place g (k ∷ ks) [] = refl
console_place g (k ∷ ks) (o ∷ os) = either_place k ks (is_at g o) (place_of (is_at g) os) (console_of ks os g) (console_place g ks os)

told_at : (c : Config) (o : Option ℕ) → taken_puts c o ≡ notice (line_at c.terminals o)
told_at c None = refl
told_at c (Some n) = by_terminal (slice_get c.terminals n)
  where
    by_terminal : (o : Option Terminal) → taken_notice o ≡ notice (option_map (λ (t : Terminal). t.line) o)
    by_terminal None = refl
    by_terminal (Some t) = refl

puts_taken : (c : Config) (s : SystemState) (n : ℕ) (t : Terminal) (v : Verdict) → taken_puts c (took (server_of s) n v) ≡ (after_verdict c s n t v).later
unfolding taken
puts_taken c s n t (Granted (Connect g)) =
    let os : List (Option ℕ) = slice_set s.connected n None in
    ap (taken_puts c) (position_is (is_at g) os) ∙ told_at c (place_of (is_at g) os) ∙ ap notice (console_place g c.terminals os)
puts_taken c s n t (Granted (Start g)) = refl
puts_taken c s n t (Granted (Halt g)) = refl
puts_taken c s n t (Granted (MountAt g unit mount)) = refl
puts_taken c s n t (Granted (Dismount g unit)) = refl
puts_taken c s n t (Granted Show) = refl
puts_taken c s n t BadCommand = refl
puts_taken c s n t NoSuchObject = refl
puts_taken c s n t (Denied rule) = refl

-- a command's puts, in order
order : (c : Config) (round : ℕ) (s : SystemState) (n : ℕ) (t : Terminal) (text : List ℕ) (v : Verdict) (o : Option Terminal) (taken : Option ℕ) → o ≡ Some t → taken_puts c taken ≡ (after_verdict c s n t v).later
    → shown_before c s n o v ++ (answers c o v taken ++ audits c round o text v) ≡ (commanded c round s n t text v).puts
order c round s n t text v o taken is later =
    let before = (after_verdict c s n t v).before in
    let said = said_on t.line (reply_of v) in
    let audit = audit_puts c.audit round t text v in
    ap (λ (o : Option Terminal). shown_before c s n o v ++ (answers c o v taken ++ audits c round o text v)) is
    ∙ ap (λ (ps : List Put). before ++ ((said ∷ ps) ++ audit)) later
    ∙ sym (append_assoc before (said ∷ (after_verdict c s n t v).later) audit)

-- a command is carried out, replied to, and audited
pub commands : (m m' : Machine) (k k' : Kernel) (a b : List Bool) (l l' l'' l''' : List Seen) (round n : ℕ) (text : List ℕ) (v : Verdict) (taken : Option ℕ) → IsKernel m.memory k → n < length k.config.terminals → v ≡ verdict_of k.config k.server n text → taken ≡ took k.server n v
    → Does (verdict_carried_out k.config n v) (scene m k l) (scene m' k' l')
    → Shows k'.marks a l' l'' (λ line. bytes_on line (answers k'.config (slice_get k'.config.terminals n) v taken))
    → Shows a b l'' l''' (λ line. bytes_on line (audits k'.config round (slice_get k'.config.terminals n) text v))
    → Does (asked_at k.config round n text) (scene m k l) (scene m' (record k' { marks = b }) l''')
commands m m' k k' a b l l' l'' l''' round n text v taken h there judged takes does replies audit x =
    let c : Config = k.config in
    let s : SystemState = kernel_state m.memory k x in
    let running : List Bool = map is_running s.guests in
    let (t, is) = get_within c.terminals n there in
    let carried = does x in
    let puts : Config → List Put = λ c'. answers c' (slice_get c'.terminals n) v taken ++ audits c' round (slice_get c'.terminals n) text v in
    let told = told_then k'.marks a b l' l'' l''' (answers k'.config (slice_get k'.config.terminals n) v taken) (audits k'.config round (slice_get k'.config.terminals n) text v) (puts k'.config) refl replies audit in
    let whole = leads_then carried (leads_shown m' k' b l' l''' x (puts k'.config) carried.holds told) in
    let later : taken_puts c taken ≡ (after_verdict c s n t v).later = ap (taken_puts c) (takes ∙ sym (same_took c k.server running (server_holds m.memory k h) n there v)) ∙ puts_taken c s n t v in
    let e : shown_before c s n (slice_get c.terminals n) v ++ puts k'.config ≡ (commanded c round s n t text v).puts =
    ap (λ (c' : Config). shown_before c s n (slice_get c.terminals n) v ++ puts c') carried.config ∙ order c round s n t text v (slice_get c.terminals n) taken is later in
    let asked : Leads (commanded c round s n t text v) (scene m k l) (scene m' (record k' { marks = b }) l''') x = leads_same (commanded c round s n t text v) (carried.state ∙ state_is c s n t v) (λ line. ap (λ (ps : List Put). bytes_on line ps) e) whole in
    let same : v ≡ verdict_of c (server_of s) n text = judged ∙ sym (same_verdict c k.server running n text) in
    subst (λ (o : Option Terminal). Leads (asked_at_row c round n text s o) (scene m k l) (scene m' (record k' { marks = b }) l''') x) (sym is)
    (subst (λ (w : Verdict). Leads (commanded c round s n t text w) (scene m k l) (scene m' (record k' { marks = b }) l''') x) same asked)

-- a kernel whose server did what is granted
pub served_holds : (memory : List ℕ) (k : Kernel) (server' : ServerState) (n : ℕ) (command : Command) → IsKernel memory k → n < length k.config.terminals → HasPlaces command → Names k.config command → server' ≡ applied k.server n command → IsKernel memory (record k { server = server' })
served_holds memory k server' n command h there places names is =
    let made = kernel_holds memory (record k { server = applied k.server n command }) h.accepted h.placed (still_server k.config k.server n command there places names (server_holds memory k h)) in
    subst (λ (s : ServerState). IsKernel memory (record k { server = s })) (sym is) made

pub obeys_by : (m m' : Machine) (k k' : Kernel) (server' : ServerState) (l l' : List Seen) (n : ℕ) (command : Command) → IsKernel m.memory k → n < length k.config.terminals → HasPlaces command → Names k.config command → server' ≡ applied k.server n command
    → Does (guests_obeyed k.config n command) (scene m (record k { server = server' }) l) (scene m' k' l') → Does (verdict_carried_out k.config n (Granted command)) (scene m k l) (scene m' k' l')
obeys_by m m' k k' server' l l' n command h there places names is does =
    obeys m m' k k' l l' n command h there places names (subst (λ (s : ServerState). Does (guests_obeyed k.config n command) (scene m (record k { server = s }) l) (scene m' k' l')) is does)

-- the same of a command or a verdict that is known to be one of these
pub as_command : (m m' : Machine) (k k' : Kernel) (l l' : List Seen) (n : ℕ) (command known : Command) → command ≡ known → Does (guests_obeyed k.config n known) (scene m k l) (scene m' k' l') → Does (guests_obeyed k.config n command) (scene m k l) (scene m' k' l')
as_command m m' k k' l l' n command known is does = subst (λ (d : Command). Does (guests_obeyed k.config n d) (scene m k l) (scene m' k' l')) (sym is) does

pub as_verdict : (m m' : Machine) (k k' : Kernel) (l l' : List Seen) (n : ℕ) (v known : Verdict) → v ≡ known → Does (verdict_carried_out k.config n known) (scene m k l) (scene m' k' l') → Does (verdict_carried_out k.config n v) (scene m k l) (scene m' k' l')
as_verdict m m' k k' l l' n v known is does = subst (λ (w : Verdict). Does (verdict_carried_out k.config n w) (scene m k l) (scene m' k' l')) (sym is) does

pub names_known : (c : Config) (command known : Command) → command ≡ known → Names c command → Names c known
names_known c command known is names = subst (Names c) is names
