-- Events, turns and transfers keep how many terminals there are, and that each guest has four units.
use Rattle.std.proofs.Common.{◌≡◌, ℕ, zero, suc, List, [], ◌∷◌, map, length, refl, ◌∙◌, arith, Option, Some, None, slice_get, slice_set, slice_index_or}
use Rattle.std.specs.Prelude.{All}
use Rattle.std.specs.List.{AllZip}
use Rattle.std.proofs.lemmas.List.{length-map}
use Rattle.std.proofs.lemmas.List.Elements.{All-head, All-tail}
use Rattle.sys_objects.specs.Condition.{IsGuest}
use Rattle.sys_objects.specs.declared.records.Config.{Config}
use Rattle.sys_objects.specs.declared.records.GuestRow.{GuestRow}
use Rattle.sys_objects.specs.declared.records.Mount.{Mount}
use Rattle.sys_objects.specs.declared.records.Terminal.{Terminal}
use Rattle.sys_state.specs.Events.{after_verdict, at_place, at_row, events, happened, is_named, lined, obeyed}
use Rattle.sys_state.specs.Places.{place_of}
use Rattle.sys_state.specs.Run.{connections, events_of, first_state, round, rounds}
use Rattle.sys_state.specs.State.{SystemState, server_of}
use Rattle.sys_script.specs.declared.event.Event.{Event}
use Rattle.sys_script.specs.declared.event.Typed.{Typed}
use Rattle.sys_script.specs.declared.event.Typed.TheVariants.{Break, Line}
use Rattle.sys_server.specs.Apply.{freed}
use Rattle.sys_server.specs.Verdict.{verdict_of}
use Rattle.sys_server.specs.declared.command.Command.{Command}
use Rattle.sys_server.specs.declared.command.Command.TheVariants.{Connect, Start, Halt, MountAt, Dismount, Show}
use Rattle.sys_server.specs.declared.command.Verdict.{Verdict}
use Rattle.sys_server.specs.declared.command.Verdict.TheVariants.{Granted, BadCommand, NoSuchObject, Denied}

abbrev pub HasFour : GuestRow → List (Option Mount) → Type 0
HasFour row units = length units ≡ 4

pub record Shaped (c : Config) (s : SystemState) : Type 0 where
  pub seats : length s.connected ≡ length c.terminals
  pub units : AllZip HasFour c.guests s.mounts

set_long : {X : Type 0} (xs : List X) (k : ℕ) (x : X) → length (slice_set xs k x) ≡ length xs
set_long [] k x = refl
set_long (y ∷ ys) zero x = refl
set_long (y ∷ ys) (suc k) x = omega (arith, set_long ys k x)

four_set : (rows : List GuestRow) (mss : List (List (Option Mount))) (g unit : ℕ) (m : Option Mount) → AllZip HasFour rows mss → AllZip HasFour rows (slice_set mss g (slice_set (slice_index_or mss g []) unit m))
four_set [] [] g unit m h = tt
four_set [] (ms ∷ mss) g unit m h = absurd h
four_set (row ∷ rows) [] g unit m h = absurd h
four_set (row ∷ rows) (ms ∷ mss) zero unit m h = (set_long ms unit m ∙ h.0, h.1)
four_set (row ∷ rows) (ms ∷ mss) (suc g) unit m h = (h.0, four_set rows mss g unit m h.1)

module _ (c : Config) where
  obeyed_shaped : (s : SystemState) (n : ℕ) (t : Terminal) (command : Command) → Shaped c s → Shaped c (obeyed c s n t command).now
  obeyed_shaped s n t (Connect g) h = record { seats = set_long (map (freed g) s.connected) n (Some g) ∙ length-map s.connected (freed g) ∙ h.seats; units = h.units }
  obeyed_shaped s n t (Start g) h = record { seats = h.seats; units = h.units }
  obeyed_shaped s n t (Halt g) h = record { seats = h.seats; units = h.units }
  obeyed_shaped s n t (MountAt g unit mount) h = record { seats = h.seats; units = four_set c.guests s.mounts g unit (Some mount) h.units }
  obeyed_shaped s n t (Dismount g unit) h = record { seats = h.seats; units = four_set c.guests s.mounts g unit None h.units }
  obeyed_shaped s n t Show h = record { seats = h.seats; units = h.units }

  verdict_shaped : (s : SystemState) (n : ℕ) (t : Terminal) (v : Verdict) → Shaped c s → Shaped c (after_verdict c s n t v).now
  verdict_shaped s n t (Granted command) h = obeyed_shaped s n t command h
  verdict_shaped s n t BadCommand h = h
  verdict_shaped s n t NoSuchObject h = h
  verdict_shaped s n t (Denied rule) h = h

  lined_shaped : (i : ℕ) (s : SystemState) (n : ℕ) (t : Terminal) (text : List ℕ) (o : Option ℕ) → Shaped c s → Shaped c (lined c i s n t text o).now
  lined_shaped i s n t text (Some g) h = record { seats = h.seats; units = h.units }
  lined_shaped i s n t text None h = verdict_shaped s n t (verdict_of c (server_of s) n text) h

  row_shaped : (i : ℕ) (s : SystemState) (n : ℕ) (t : Option Terminal) (what : Typed) → Shaped c s → Shaped c (at_row c i s n t what).now
  row_shaped i s n None what h = h
  row_shaped i s n (Some t) Break h = record { seats = set_long s.connected n None ∙ h.seats; units = h.units }
  row_shaped i s n (Some t) (Line text) h = lined_shaped i s n t text (slice_index_or s.connected n None) h

  place_shaped : (i : ℕ) (s : SystemState) (o : Option ℕ) (what : Typed) → Shaped c s → Shaped c (at_place c i s o what).now
  place_shaped i s None what h = h
  place_shaped i s (Some n) what h = row_shaped i s n (slice_get c.terminals n) what h

  events_shaped : (i : ℕ) (s : SystemState) (es : List Event) → Shaped c s → Shaped c (events c i s es).now
  events_shaped i s [] h = h
  events_shaped i s (e ∷ es) h = events_shaped i (happened c i s e).now es (place_shaped i s (place_of (is_named e.terminal) c.terminals) e.what h)

  round_shaped : (i : ℕ) (es : List Event) (s : SystemState) → Shaped c s → Shaped c (round c i es s).now
  round_shaped i es s h = let k = events_shaped i s (events_of i es) h in record { seats = k.seats; units = k.units }

  pub rounds_shaped : (i n : ℕ) (es : List Event) (s : SystemState) → Shaped c s → Shaped c (rounds c i n es s).now
  rounds_shaped i zero es s h = h
  rounds_shaped i (suc n) es s h = rounds_shaped (suc i) n es (round c i es s).now (round_shaped i es s h)

-- power-up
connections_long : (rows : List GuestRow) (i : ℕ) (ks : List Terminal) → length (connections rows i ks) ≡ length ks
connections_long rows i [] = refl
connections_long rows i (k ∷ ks) = omega (arith, connections_long rows (suc i) ks)

first_four : (rows : List GuestRow) → All IsGuest rows → AllZip HasFour rows (map (λ row. row.mounts) rows)
first_four [] all = tt
first_four (row ∷ rows) all = ((All-head IsGuest row rows all).units, first_four rows (All-tail IsGuest row rows all))

pub first_shaped : (c : Config) → All IsGuest c.guests → (images : List (List ℕ)) (volumes : List (List (List ℕ))) → Shaped c (first_state c images volumes)
first_shaped c all images volumes = record { seats = connections_long c.guests 0 c.terminals; units = first_four c.guests all }
