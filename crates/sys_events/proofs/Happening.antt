-- Events, one after another.
use Rattle.std.proofs.Common.{ℕ, ◌≡◌, ◌<◌, ◌≤◌, ◌+◌, List, [], ◌∷◌, ◌++◌, length, take, slice_get, slice_index_or, slice_set, refl, sym, ◌∙◌, ap, subst, arith, append-nil, append_assoc, Bool, Option, Some, None}
use Rattle.std.specs.Prelude.{IfSome}
use Rattle.std.proofs.lemmas.List.{get_or-take, take_all, take_more}
use Rattle.vax_hw.specs.Machine.{Machine}
use Rattle.vv_io.specs.Lines.{Seen}
use Rattle.sys_events.proofs.Leading.{Volumes, leads_disconnected, leads_none, leads_same, leads_shown, leads_then}
use Rattle.sys_events.proofs.Lists.{get_within}
use Rattle.sys_events.specs.Happens.{Does, DoesAnywhere, DoesUnseen, Happen, Happens, asked_at, asked_at_row, break_at, guest_typed, typed_line_at}
use Rattle.sys_guests.proofs.LaidOut.{placed_long}
use Rattle.sys_guests.specs.Kernel.{IsKernel, Leads, kernel_state, scene}
use Rattle.sys_guests.specs.declared.kernel.Kernel.{Kernel}
use Rattle.sys_devices.specs.Shows.{Shows}
use Rattle.sys_objects.specs.declared.records.Config.{Config}
use Rattle.sys_objects.specs.declared.records.Terminal.{Terminal}
use Rattle.sys_state.specs.Events.{at_place, at_row, events, happened, is_named, lined, said_on, typed_at_terminal}
use Rattle.sys_state.specs.Places.{place_of}
use Rattle.sys_state.specs.State.{Put, SystemState, Went, bytes_on}
use Rattle.sys_script.specs.declared.event.Event.{Event}
use Rattle.sys_script.specs.declared.event.Typed.{Typed}
use Rattle.sys_script.specs.declared.event.Typed.TheVariants.{Break, Line}
use Rattle.sys_server.specs.Replies.{server_text}

-- as many guests as rows
pub as_many : (memory : List ℕ) (k : Kernel) → IsKernel memory k → length k.guests.items ≡ length k.config.guests
as_many memory k h = placed_long _ _ _ _ h.placed.laid_out

-- a terminal's guest is one of them
pub console_guest : (memory : List ℕ) (k : Kernel) (n g : ℕ) → IsKernel memory k → n < length k.config.terminals → slice_index_or k.server.at n None ≡ Some g → g < length k.guests.items
console_guest memory k n g h there is =
    let within : n < length k.server.at = omega (arith, there, h.accepted.few_terminals, h.terminals) in
    let one : g < length k.config.guests = subst (λ (o : Option ℕ). IfSome o (λ i. i < length k.config.guests)) is (h.consoles n None within) in
    omega (arith, one, as_many memory k h)

-- a break
pub breaks : (k : Kernel) (marks' : List Bool) (l l' : List Seen) (n : ℕ) (t : Terminal) → n < length k.config.terminals → slice_get k.config.terminals n ≡ Some t → Shows k.marks marks' l l' (λ line. bytes_on line (said_on t.line server_text ∷ []))
    → (round : ℕ) → DoesAnywhere (break_at k.config round n) k l (record k { server = record k.server { at = slice_set k.server.at n None }; marks = marks' }) l'
breaks k marks' l l' n t there is shows round m h x =
    let s : SystemState = kernel_state m.memory k x in
    let c : Config = k.config in
    let k1 : Kernel = record k { server = record k.server { at = slice_set k.server.at n None } } in
    let first = leads_disconnected m k l x n h there in
    let whole = leads_then first (leads_shown m k1 marks' l l' x (said_on t.line server_text ∷ []) first.holds shows) in
    let broken : Leads (typed_at_terminal c round s n t Break) (scene m k l) (scene m (record k1 { marks = marks' }) l') x = leads_same (typed_at_terminal c round s n t Break) first.state (λ line. refl) whole in
    subst (λ (o : Option Terminal). Leads (at_row c round s n o Break) (scene m k l) (scene m (record k1 { marks = marks' }) l') x) (sym is) broken

-- a line, at a terminal that has a guest, and at one that has none
line_by : (c : Config) (round : ℕ) (s : SystemState) (n : ℕ) (t : Terminal) (text : List ℕ) (o : Option ℕ) → slice_get c.terminals n ≡ Some t → slice_index_or s.connected n None ≡ o → typed_line_at c round n text s ≡ lined c round s n t text o
line_by c round s n t text o is at = ap (λ (r : Option Terminal). at_row c round s n r (Line text)) is ∙ ap (lined c round s n t text) at

pub connected_at : (m : Machine) (k : Kernel) (x : Volumes) (n : ℕ) → n < length k.config.terminals → slice_index_or (kernel_state m.memory k x).connected n None ≡ slice_index_or k.server.at n None
connected_at m k x n there = get_or-take (length k.config.terminals) k.server.at n None there

pub line_typed : (m : Machine) (k k' : Kernel) (l : List Seen) (round n g : ℕ) (text : List ℕ) → IsKernel m.memory k → n < length k.config.terminals → slice_index_or k.server.at n None ≡ Some g → DoesUnseen (guest_typed g text) k k' → Does (typed_line_at k.config round n text) (scene m k l) (scene m k' l)
line_typed m k k' l round n g text h there at does x =
    let s : SystemState = kernel_state m.memory k x in
    let (t, is) = get_within k.config.terminals n there in
    subst (λ (w : Went SystemState). Leads w (scene m k l) (scene m k' l) x) (sym (line_by k.config round s n t text (Some g) is (connected_at m k x n there ∙ at))) (does l m h x)

pub line_asked : (m m' : Machine) (k k' : Kernel) (l l' : List Seen) (round n : ℕ) (text : List ℕ) → n < length k.config.terminals → slice_index_or k.server.at n None ≡ None → Does (asked_at k.config round n text) (scene m k l) (scene m' k' l') → Does (typed_line_at k.config round n text) (scene m k l) (scene m' k' l')
line_asked m m' k k' l l' round n text there at does x =
    let c : Config = k.config in
    let s : SystemState = kernel_state m.memory k x in
    let (t, is) = get_within c.terminals n there in
    subst (λ (w : Went SystemState). Leads w (scene m k l) (scene m' k' l') x)
    (ap (asked_at_row c round n text s) is ∙ sym (line_by c round s n t text None is (connected_at m k x n there ∙ at))) (does x)

-- an event, at a terminal that isn't there, and at one that is
pub nowhere : (m : Machine) (k : Kernel) (l : List Seen) (round : ℕ) (e : Event) → IsKernel m.memory k → place_of (is_named e.terminal) k.config.terminals ≡ None → Happens round e (scene m k l) (scene m k l)
nowhere m k l round e h none x =
    let s : SystemState = kernel_state m.memory k x in
    subst (λ (w : Went SystemState). Leads w (scene m k l) (scene m k l) x) (ap (λ (o : Option ℕ). at_place k.config round s o e.what) (sym none)) (leads_none m k l x h)

pub somewhere : (m m' : Machine) (k k' : Kernel) (l l' : List Seen) (round : ℕ) (e : Event) (n : ℕ) (what : Typed) → place_of (is_named e.terminal) k.config.terminals ≡ Some n → e.what ≡ what → Does (λ s. at_row k.config round s n (slice_get k.config.terminals n) what) (scene m k l) (scene m' k' l') → Happens round e (scene m k l) (scene m' k' l')
somewhere m m' k k' l l' round e n what at is does x =
    let c : Config = k.config in
    let s : SystemState = kernel_state m.memory k x in
    subst (λ (w : Went SystemState). Leads w (scene m k l) (scene m' k' l') x) (λ i. at_place c round s (sym at i) (sym is i)) (does x)

-- events, one more
now_more : (c : Config) (round : ℕ) (s : SystemState) (es : List Event) (e : Event) → (events c round s (es ++ e ∷ [])).now ≡ (happened c round (events c round s es).now e).now
now_more c round s [] e = refl
now_more c round s (d ∷ es) e = now_more c round (happened c round s d).now es e

puts_more : (c : Config) (round : ℕ) (s : SystemState) (es : List Event) (e : Event) → (events c round s (es ++ e ∷ [])).puts ≡ (events c round s es).puts ++ (happened c round (events c round s es).now e).puts
puts_more c round s [] e = append-nil (happened c round s e).puts
puts_more c round s (d ∷ es) e =
    let first : Went SystemState = happened c round s d in
    ap (λ (ps : List Put). first.puts ++ ps) (puts_more c round first.now es e) ∙ sym (append_assoc first.puts (events c round first.now es).puts (happened c round (events c round first.now es).now e).puts)

pub none_yet : (m : Machine) (k : Kernel) (l : List Seen) (round : ℕ) (es : List Event) → IsKernel m.memory k → Happen round (take 0 es) (scene m k l) (scene m k l)
none_yet m k l round es h x = leads_none m k l x h

pub one_more : (m m' m'' : Machine) (k k' k'' : Kernel) (l l' l'' : List Seen) (round : ℕ) (es : List Event) (i : ℕ) (e : Event) → i < length es → e ≡ slice_index_or es i e → Happen round (take i es) (scene m k l) (scene m' k' l') → Happens round e (scene m' k' l') (scene m'' k'' l'')
    → Happen round (take (i + 1) es) (scene m k l) (scene m'' k'' l'')
one_more m m' m'' k k' k'' l l' l'' round es i e there read before next x =
    let c : Config = k.config in
    let s : SystemState = kernel_state m.memory k x in
    let front : List Event = take i es in
    let first = before x in
    let by_config : Leads (happened c round (kernel_state m'.memory k' x) e) (scene m' k' l') (scene m'' k'' l'') x = subst (λ (c' : Config). Leads (happened c' round (kernel_state m'.memory k' x) e) (scene m' k' l') (scene m'' k'' l'') x) first.config (next x) in
    let second : Leads (happened c round (events c round s front).now e) (scene m' k' l') (scene m'' k'' l'') x = subst (λ (z : SystemState). Leads (happened c round z e) (scene m' k' l') (scene m'' k'' l'') x) first.state by_config in
    let more : Leads (events c round s (front ++ e ∷ [])) (scene m k l) (scene m'' k'' l'') x = leads_same (events c round s (front ++ e ∷ [])) (sym (now_more c round s front e)) (λ line. ap (λ (ps : List Put). bytes_on line ps) (sym (puts_more c round s front e))) (leads_then first second) in
    subst (λ (ds : List Event). Leads (events c round s ds) (scene m k l) (scene m'' k'' l'') x) (sym (take_more es i e there ∙ ap (λ (d : Event). front ++ d ∷ []) (sym read))) more

pub all_happened : (m m' : Machine) (k k' : Kernel) (l l' : List Seen) (round : ℕ) (es : List Event) (i : ℕ) → length es ≤ i → Happen round (take i es) (scene m k l) (scene m' k' l') → Happen round es (scene m k l) (scene m' k' l')
all_happened m m' k k' l l' round es i end before x =
    subst (λ (ds : List Event). Leads (events k.config round (kernel_state m.memory k x) ds) (scene m k l) (scene m' k' l') x) (take_all i es end) (before x)
