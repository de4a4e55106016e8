-- Events, turns and transfers keep that no guest is at two terminals, and that each runs or has stopped with a stop code.
use Rattle.std.proofs.Common.{◌≡◌, ℕ, zero, suc, ◌==◌, List, [], ◌∷◌, map, Bool, false, refl, sym, ◌∙◌, arith, ◌<◌, Option, Some, None, slice_get, slice_set, slice_index_or, length}
use Rattle.std.specs.Prelude.{cond, is_some, option_map}
use Rattle.std.proofs.lemmas.Bool.{cond_both, eqb-true, eqb-false, ne_eqb}
use Rattle.sys_moment_laws.specs.Holds.{AllHalt, IsSoundSystem, NoneIs, OccurOnce, RoundsKeep, RunsKeep}
use Rattle.sys_objects.specs.Rules.{same_place}
use Rattle.sys_objects.specs.declared.records.Config.{Config}
use Rattle.sys_objects.specs.declared.records.GuestRow.{GuestRow}
use Rattle.sys_objects.specs.declared.records.Mount.{Mount}
use Rattle.sys_objects.specs.declared.records.Terminal.{Terminal}
use Rattle.sys_state.specs.Events.{after_verdict, at_place, at_row, events, happened, is_named, lined, obeyed, reset_by}
use Rattle.sys_state.specs.Guests.{powered, stopped_by_command, typed, with_no_queue}
use Rattle.sys_state.specs.Places.{beside_with, changed, place_of}
use Rattle.sys_objects.specs.Places.{is_at}
use Rattle.sys_state.specs.Run.{connections, events_of, first_state, round}
use Rattle.sys_state.specs.State.{SystemState, server_of}
use Rattle.sys_state.specs.Transfers.{Move, Packet, Prints, Reads, Refused, Writes, all_served, moved, move_of, packet_at, served, served_one}
use Rattle.sys_state.specs.Turns.{turn}
use Rattle.sys_script.specs.declared.event.Event.{Event}
use Rattle.sys_script.specs.declared.event.Typed.{Typed}
use Rattle.sys_script.specs.declared.event.Typed.TheVariants.{Break, Line}
use Rattle.sys_server.specs.Apply.{freed}
use Rattle.sys_server.specs.Verdict.{verdict_of}
use Rattle.sys_server.specs.declared.command.Command.{Command}
use Rattle.sys_server.specs.declared.command.Command.TheVariants.{Connect, Start, Halt, MountAt, Dismount, Show}
use Rattle.sys_server.specs.declared.command.Verdict.{Verdict}
use Rattle.sys_server.specs.declared.command.Verdict.TheVariants.{Granted, BadCommand, NoSuchObject, Denied}
use Rattle.sys_moment_laws.proofs.Halts.{stops_with_codes}
use Rattle.vm_state.specs.Stops.{IsHalt}
use Rattle.vm_state.specs.Run.{no_steps}
use Rattle.vm_state.specs.State.{Guest, State as GuestPart}

-- seats
same_none : (o : Option ℕ) → same_place o None ≡ false
same_none None = refl
same_none (Some g) = refl

none_same : (os : List (Option ℕ)) → NoneIs (same_place None) os
none_same [] = tt
none_same (None ∷ os) = (refl, none_same os)
none_same (Some g ∷ os) = (refl, none_same os)

turned : (g h : ℕ) → (g == h) ≡ false → (h == g) ≡ false
turned g h other = ne_eqb h g (λ same. eqb-false g h other (sym same))

same_turned : (g : ℕ) (o : Option ℕ) → same_place (Some g) o ≡ false → same_place o (Some g) ≡ false
same_turned g None h = refl
same_turned g (Some k) h = turned g k h

none_set : (test : Option ℕ → Bool) (os : List (Option ℕ)) (n : ℕ) (v : Option ℕ) → test v ≡ false → NoneIs test os → NoneIs test (slice_set os n v)
none_set test [] n v k h = tt
none_set test (o ∷ os) zero v k h = (k, h.1)
none_set test (o ∷ os) (suc n) v k h = (h.0, none_set test os n v k h.1)

once_none : (os : List (Option ℕ)) (n : ℕ) → OccurOnce os → OccurOnce (slice_set os n None)
once_none [] n h = tt
once_none (o ∷ os) zero h = (none_same os, h.1)
once_none (o ∷ os) (suc n) h = (none_set (same_place o) os n None (same_none o) h.0, once_none os n h.1)

none_freed : (test : Option ℕ → Bool) (g : ℕ) (os : List (Option ℕ)) → test None ≡ false → NoneIs test os → NoneIs test (map (freed g) os)
none_freed test g [] k h = tt
none_freed test g (o ∷ os) k h = (cond_both (is_at g o) None o (λ x. test x ≡ false) (λ t. k) (λ t. h.0), none_freed test g os k h.1)

once_freed : (g : ℕ) (os : List (Option ℕ)) → OccurOnce os → OccurOnce (map (freed g) os)
once_freed g [] h = tt
once_freed g (o ∷ os) h = (
  cond_both (is_at g o) None o (λ x. NoneIs (same_place x) (map (freed g) os)) (λ t. none_same (map (freed g) os)) (λ t. none_freed (same_place o) g os (same_none o) h.0),
  once_freed g os h.1,
)

-- no terminal has the guest any more
gone : (g : ℕ) (os : List (Option ℕ)) → NoneIs (same_place (Some g)) (map (freed g) os)
gone g [] = tt
gone g (None ∷ os) = (refl, gone g os)
gone g (Some h ∷ os) = (cond_both (h == g) None (Some h) (λ x. same_place (Some g) x ≡ false) (λ t. refl) (λ other. turned h g other), gone g os)

once_set : (os : List (Option ℕ)) (n g : ℕ) → NoneIs (same_place (Some g)) os → OccurOnce os → OccurOnce (slice_set os n (Some g))
once_set [] n g none h = tt
once_set (o ∷ os) zero g none h = (none.1, h.1)
once_set (o ∷ os) (suc n) g none h = (none_set (same_place o) os n (Some g) (same_turned g o none.0) h.0, once_set os n g none.1 h.1)

-- guests
halts_changed : (f : Guest → Guest) → ((g : Guest) → IsHalt g.state.halt → IsHalt (f g).state.halt) → (gs : List Guest) (k : ℕ) → AllHalt gs → AllHalt (changed f gs k)
halts_changed f keeps [] k h = tt
halts_changed f keeps (g ∷ gs) zero h = (keeps g h.0, h.1)
halts_changed f keeps (g ∷ gs) (suc k) h = (h.0, halts_changed f keeps gs k h.1)

reset_halts : (row : Option GuestRow) (g : Guest) → IsHalt g.state.halt → IsHalt (reset_by row g).state.halt
reset_halts None g h = h
reset_halts (Some row) g h = tt

stop_halts : (g : Guest) → IsHalt g.state.halt → IsHalt (stopped_by_command g).state.halt
stop_halts g h = cond_both (is_some g.state.halt) g.state _ (λ (x : GuestPart). IsHalt x.halt) (λ t. h) (λ t. refl)

obeyed_holds : (c : Config) (s : SystemState) (n : ℕ) (t : Terminal) (command : Command) → IsSoundSystem s → IsSoundSystem (obeyed c s n t command).now
obeyed_holds c s n t (Connect g) h = record { once = once_set (map (freed g) s.connected) n g (gone g s.connected) (once_freed g s.connected h.once); halts = h.halts }
obeyed_holds c s n t (Start g) h = record { once = h.once; halts = halts_changed (reset_by (slice_get c.guests g)) (reset_halts (slice_get c.guests g)) s.guests g h.halts }
obeyed_holds c s n t (Halt g) h = record { once = h.once; halts = halts_changed stopped_by_command stop_halts s.guests g h.halts }
obeyed_holds c s n t (MountAt g unit mount) h = record { once = h.once; halts = h.halts }
obeyed_holds c s n t (Dismount g unit) h = record { once = h.once; halts = h.halts }
obeyed_holds c s n t Show h = record { once = h.once; halts = h.halts }

verdict_holds : (c : Config) (s : SystemState) (n : ℕ) (t : Terminal) (v : Verdict) → IsSoundSystem s → IsSoundSystem (after_verdict c s n t v).now
verdict_holds c s n t (Granted command) h = obeyed_holds c s n t command h
verdict_holds c s n t BadCommand h = h
verdict_holds c s n t NoSuchObject h = h
verdict_holds c s n t (Denied rule) h = h

lined_holds : (c : Config) (i : ℕ) (s : SystemState) (n : ℕ) (t : Terminal) (text : List ℕ) (o : Option ℕ) → IsSoundSystem s → IsSoundSystem (lined c i s n t text o).now
lined_holds c i s n t text (Some g) h = record { once = h.once; halts = halts_changed (typed text) (λ k is. is) s.guests g h.halts }
lined_holds c i s n t text None h = verdict_holds c s n t (verdict_of c (server_of s) n text) h

row_holds : (c : Config) (i : ℕ) (s : SystemState) (n : ℕ) (t : Option Terminal) (what : Typed) → IsSoundSystem s → IsSoundSystem (at_row c i s n t what).now
row_holds c i s n None what h = h
row_holds c i s n (Some t) Break h = record { once = once_none s.connected n h.once; halts = h.halts }
row_holds c i s n (Some t) (Line text) h = lined_holds c i s n t text (slice_index_or s.connected n None) h

place_holds : (c : Config) (i : ℕ) (s : SystemState) (o : Option ℕ) (what : Typed) → IsSoundSystem s → IsSoundSystem (at_place c i s o what).now
place_holds c i s None what h = h
place_holds c i s (Some n) what h = row_holds c i s n (slice_get c.terminals n) what h

pub events_hold : (c : Config) (i : ℕ) (s : SystemState) (es : List Event) → IsSoundSystem s → IsSoundSystem (events c i s es).now
events_hold c i s [] h = h
events_hold c i s (e ∷ es) h = events_hold c i (happened c i s e).now es (place_holds c i s (place_of (is_named e.terminal) c.terminals) e.what h)

-- turns
turns_halt : (rows : List GuestRow) (gs : List Guest) → AllHalt gs → AllHalt (beside_with turn rows gs)
turns_halt [] gs h = tt
turns_halt (row ∷ rows) [] h = tt
turns_halt (row ∷ rows) (g ∷ gs) h = (stops_with_codes row.quantum (record { guest = g; shown = []; tally = no_steps }) h.0, turns_halt rows gs h.1)

-- transfers
moved_halts : (c : Config) (row : GuestRow) (g : Guest) (at : ℕ) (p : Packet) (vs : List (List (List ℕ))) (m : Move) → IsHalt g.state.halt → IsHalt (moved c row g at p vs m).guest.state.halt
moved_halts c row g at p vs (Refused status) h = h
moved_halts c row g at p vs (Reads v) h = h
moved_halts c row g at p vs (Writes v) h = h
moved_halts c row g at p vs Prints h = h

served_halts : (c : Config) (row : GuestRow) (ms : List (Option Mount)) (g : Guest) (queue : List ℕ) (vs : List (List (List ℕ))) → IsHalt g.state.halt → IsHalt (served c row ms g queue vs).guest.state.halt
served_halts c row ms g [] vs h = h
served_halts c row ms g (at ∷ queue) vs h =
    let p = packet_at g.memory at in
    let one = served_one c row ms g at vs in
    served_halts c row ms one.guest queue one.volumes (moved_halts c row g at p vs (move_of (length g.memory) vs ms p) h)

all_halt : (c : Config) (rows : List GuestRow) (mss : List (List (Option Mount))) (gs : List Guest) (vs : List (List (List ℕ))) → AllHalt gs → AllHalt (all_served c rows mss gs vs).guests
all_halt c [] mss gs vs h = tt
all_halt c (row ∷ rows) [] gs vs h = tt
all_halt c (row ∷ rows) (ms ∷ mss) [] vs h = tt
all_halt c (row ∷ rows) (ms ∷ mss) (g ∷ gs) vs h =
    let one = served c row ms (with_no_queue g) g.state.queue vs in
    (served_halts c row ms (with_no_queue g) g.state.queue vs h.0, all_halt c rows mss gs one.volumes h.1)

round_holds : (c : Config) (i : ℕ) (es : List Event) (s : SystemState) → IsSoundSystem s → IsSoundSystem (round c i es s).now
round_holds c i es s h =
    let begun = (events c i s (events_of i es)).now in
    let k : IsSoundSystem begun = events_hold c i s (events_of i es) h in
    let gs = beside_with turn c.guests begun.guests in
    record { once = k.once; halts = all_halt c c.guests begun.mounts gs begun.volumes (turns_halt c.guests begun.guests k.halts) }

pub rounds_keep : RoundsKeep
rounds_keep c i zero es s h = h
rounds_keep c i (suc n) es s h = rounds_keep c (suc i) n es (round c i es s).now (round_holds c i es s h)

-- power-up: a guest's console is one terminal
both_later : (a b : Option ℕ) → same_place a b ≡ false → same_place (option_map suc a) (option_map suc b) ≡ false
both_later None b h = refl
both_later (Some a) None h = refl
both_later (Some a) (Some b) h = ne_eqb (suc a) (suc b) (λ same. eqb-false a b h (omega (arith, same)))

first_left : (b : Option ℕ) → same_place (Some 0) (option_map suc b) ≡ false
first_left None = refl
first_left (Some b) = ne_eqb 0 (suc b) (λ same. absurd (omega (arith, same)))

first_right : (a : Option ℕ) → same_place (option_map suc a) (Some 0) ≡ false
first_right None = refl
first_right (Some a) = ne_eqb (suc a) 0 (λ same. absurd (omega (arith, same)))

abbrev placed : ℕ → Option ℕ → Option ℕ → Option ℕ
placed i console later = cond (is_at i console) (Some 0) (option_map suc later)

apart_by : (i j : ℕ) → (i ≡ j → ⊥) → (console a b : Option ℕ) → same_place a b ≡ false → same_place (placed i console a) (placed j console b) ≡ false
apart_by i j apart None a b later = both_later a b later
apart_by i j apart (Some n) a b later = cond_both (n == i) (Some 0) (option_map suc a) (λ x. same_place x (placed j (Some n) b) ≡ false)
    (λ is. let other : (n == j) ≡ false = ne_eqb n j (λ same. apart (sym (eqb-true n i is) ∙ same)) in rw other (first_left b))
    (λ f. cond_both (n == j) (Some 0) (option_map suc b) (λ x. same_place (option_map suc a) x ≡ false) (λ is. first_right a) (λ g. both_later a b later))

at_apart : (rows : List GuestRow) (i j : ℕ) → (i ≡ j → ⊥) → same_place (place_of (λ row. is_at i row.console) rows) (place_of (λ row. is_at j row.console) rows) ≡ false
at_apart [] i j apart = refl
at_apart (row ∷ rows) i j apart = apart_by i j apart row.console (place_of (λ r. is_at i r.console) rows) (place_of (λ r. is_at j r.console) rows) (at_apart rows i j apart)

none_before : (rows : List GuestRow) (i j : ℕ) (ks : List Terminal) → i < j → NoneIs (same_place (place_of (λ row. is_at i row.console) rows)) (connections rows j ks)
none_before rows i j [] h = tt
none_before rows i j (k ∷ ks) h = (at_apart rows i j (λ same. omega (arith, same, h)), none_before rows i (suc j) ks (omega (arith, h)))

pub once_first : (rows : List GuestRow) (i : ℕ) (ks : List Terminal) → OccurOnce (connections rows i ks)
once_first rows i [] = tt
once_first rows i (k ∷ ks) = (none_before rows i (suc i) ks (omega arith), once_first rows (suc i) ks)

pub powered_halts : (rows : List GuestRow) (images : List (List ℕ)) → AllHalt (beside_with powered rows images)
powered_halts [] images = tt
powered_halts (row ∷ rows) [] = tt
powered_halts (row ∷ rows) (image ∷ images) = (cond_both row.autostart _ _ (λ (s : GuestPart). IsHalt s.halt) (λ t. tt) (λ t. refl), powered_halts rows images)

pub runs_keep : RunsKeep
runs_keep x = rounds_keep x.config 1 x.rounds x.events (first_state x.config x.images x.volumes) (record { once = once_first x.config.guests 0 x.config.terminals; halts = powered_halts x.config.guests x.images })
