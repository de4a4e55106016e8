-- A whole round in any schedule: events keep how many guests there are.
use Rattle.std.proofs.Common.{◌≡◌, ℕ, zero, suc, List, [], ◌∷◌, ◌++◌, length, refl, sym, ap, ◌∙◌, Option, Some, None, slice_get, slice_index_or}
use Rattle.sys_objects.specs.declared.records.Config.{Config}
use Rattle.sys_objects.specs.declared.records.Terminal.{Terminal}
use Rattle.sys_state.proofs.Consoles.{bytes_append}
use Rattle.sys_state.proofs.Schedules.{any_schedule}
use Rattle.sys_state.proofs.Sums.{same_counts}
use Rattle.sys_state.specs.Events.{after_verdict, at_place, at_row, events, happened, is_named, lined, obeyed, reset_by}
use Rattle.sys_state.specs.Guests.{stopped_by_command, typed}
use Rattle.sys_state.specs.Places.{changed, place_of}
use Rattle.sys_state.specs.Run.{events_of}
use Rattle.sys_state.specs.SlicedRound.{AnyRound}
use Rattle.sys_state.specs.Slices.{slices}
use Rattle.sys_state.specs.State.{Put, SystemState, bytes_on, server_of}
use Rattle.sys_state.specs.Transfers.{transfers}
use Rattle.sys_state.specs.Turns.{turns}
use Rattle.sys_script.specs.declared.event.Event.{Event}
use Rattle.sys_script.specs.declared.event.Typed.{Typed}
use Rattle.sys_script.specs.declared.event.Typed.TheVariants.{Break, Line}
use Rattle.sys_server.specs.Verdict.{verdict_of}
use Rattle.sys_server.specs.declared.command.Command.{Command}
use Rattle.sys_server.specs.declared.command.Command.TheVariants.{Connect, Start, Halt, MountAt, Dismount, Show}
use Rattle.sys_server.specs.declared.command.Verdict.{Verdict}
use Rattle.sys_server.specs.declared.command.Verdict.TheVariants.{Granted, BadCommand, NoSuchObject, Denied}
use Rattle.vm_state.specs.State.{Guest}

length_changed : {X : Type 0} (f : X → X) (xs : List X) (k : ℕ) → length (changed f xs k) ≡ length xs
length_changed f [] k = refl
length_changed f (x ∷ xs) zero = refl
length_changed f (x ∷ xs) (suc k) = ap suc (length_changed f xs k)

abbrev many : SystemState → ℕ
many s = length s.guests

by_command : (c : Config) (s : SystemState) (n : ℕ) (t : Terminal) (command : Command) → many (obeyed c s n t command).now ≡ many s
by_command c s n t (Start g) = length_changed (reset_by (slice_get c.guests g)) s.guests g
by_command c s n t (Halt g) = length_changed stopped_by_command s.guests g
by_command c s n t (Connect g) = refl
by_command c s n t (MountAt g unit mount) = refl
by_command c s n t (Dismount g unit) = refl
by_command c s n t Show = refl

by_verdict : (c : Config) (s : SystemState) (n : ℕ) (t : Terminal) (v : Verdict) → many (after_verdict c s n t v).now ≡ many s
by_verdict c s n t (Granted command) = by_command c s n t command
by_verdict c s n t BadCommand = refl
by_verdict c s n t NoSuchObject = refl
by_verdict c s n t (Denied rule) = refl

by_line : (c : Config) (i : ℕ) (s : SystemState) (n : ℕ) (t : Terminal) (text : List ℕ) (o : Option ℕ) → many (lined c i s n t text o).now ≡ many s
by_line c i s n t text (Some g) = length_changed (typed text) s.guests g
by_line c i s n t text None = by_verdict c s n t (verdict_of c (server_of s) n text)

by_row : (c : Config) (i : ℕ) (s : SystemState) (n : ℕ) (o : Option Terminal) (what : Typed) → many (at_row c i s n o what).now ≡ many s
by_row c i s n None what = refl
by_row c i s n (Some t) Break = refl
by_row c i s n (Some t) (Line text) = by_line c i s n t text (slice_index_or s.connected n None)

by_place : (c : Config) (i : ℕ) (s : SystemState) (o : Option ℕ) (what : Typed) → many (at_place c i s o what).now ≡ many s
by_place c i s None what = refl
by_place c i s (Some n) what = by_row c i s n (slice_get c.terminals n) what

by_events : (c : Config) (i : ℕ) (s : SystemState) (es : List Event) → many (events c i s es).now ≡ many s
by_events c i s [] = refl
by_events c i s (e ∷ es) = by_events c i (happened c i s e).now es ∙ by_place c i s (place_of (is_named e.terminal) c.terminals) e.what

pub any_round : AnyRound
any_round c i es xs s is long quanta =
    let begun : SystemState = (events c i s (events_of i es)).now in
    let shown : List Put = (events c i s (events_of i es)).puts in
    let turned : List Put = (turns c begun).puts in
    let cut : List Put = (slices c.terminals begun.connected xs begun.guests).puts in
    let many_begun : length begun.guests ≡ length c.guests = by_events c i s (events_of i es) ∙ long in
    let same = any_schedule c begun xs is many_begun quanta in
    let beyond : List Guest → SystemState = λ gs. record begun { guests = gs } in
    let later : List Guest → List Put = λ gs. (transfers c (beyond gs)).puts in
    let parts : (line : ℕ) (x y z : List Put) → bytes_on line (x ++ y ++ z) ≡ bytes_on line x ++ bytes_on line y ++ bytes_on line z =
    λ line x y z. bytes_append line (x ++ y) z ∙ ap (λ (bytes : List ℕ). bytes ++ bytes_on line z) (bytes_append line x y) in
    record {
      now = ap (λ (gs : List Guest). (transfers c (beyond gs)).now) same.0;
      bytes = λ line.
          let middle : bytes_on line cut ≡ bytes_on line turned = same.1 line in
          parts line shown cut (later (slices c.terminals begun.connected xs begun.guests).now)
          ∙ (λ j. bytes_on line shown ++ middle j ++ bytes_on line (later (same.0 j)))
          ∙ sym (parts line shown turned (later (turns c begun).now.guests));
      counts = same_counts c.guests begun.guests xs many_begun quanta;
    }
