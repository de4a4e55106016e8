-- Rounds of two runs from states that agree at far objects.
use Rattle.std.proofs.Common.{◌≡◌, ◌==◌, ℕ, zero, suc, List, ◌++◌, filter, Bool, refl, sym, ap, ◌∙◌, subst}
use Rattle.sys_flow.specs.Reach.{ObjectPlace}
use Rattle.vvmm_laws.proofs.Agree.{agree_beside}
use Rattle.vvmm_laws.proofs.Commands.{Alike}
use Rattle.vvmm_laws.proofs.Events.{GoesOn, events_alike, kept_events}
use Rattle.vvmm_laws.proofs.Far.{IsFarLine, far_guest}
use Rattle.vvmm_laws.proofs.Held.{Kept}
use Rattle.vvmm_laws.proofs.Transfers.{all_alike}
use Rattle.vvmm_laws.proofs.Turns.{turns_alike}
use Rattle.vvmm_laws.specs.Reach.{IsClosed, is_far_event}
use Rattle.sys_objects.specs.declared.records.Config.{Config}
use Rattle.sys_purge.proofs.Runs.{exchanged}
use Rattle.sys_purge.proofs.Places.{stand_all}
use Rattle.sys_state.proofs.Consoles.{bytes_append}
use Rattle.sys_state.specs.Events.{events}
use Rattle.sys_state.specs.Run.{events_of, round, rounds}
use Rattle.sys_state.specs.State.{Put, SystemState, Went, bytes_on}
use Rattle.sys_state.specs.Transfers.{transfers}
use Rattle.sys_state.specs.Turns.{turn, turns}
use Rattle.sys_script.specs.declared.event.Event.{Event}

module _ (c : Config) (far : ObjectPlace → Bool) (closed : IsClosed c far) (line : ℕ) (silent : IsFarLine c far line) where
  abbrev far_events : List Event → List Event
  far_events es = filter (is_far_event c far) es

  kept_turns : (s : SystemState) → Kept c far s → Kept c far (turns c s).now
  kept_turns s p = record { fits = record { connected = p.fits.connected; mounts = p.fits.mounts }; held = record { long = p.held.long; leads = p.held.leads } }

  kept_round : (i : ℕ) (es : List Event) (s : SystemState) → Kept c far s → Kept c far (round c i es s).now
  kept_round i es s p =
      let b = kept_events c far closed i s p (events_of i es) in
      record { fits = record { connected = b.fits.connected; mounts = b.fits.mounts }; held = record { long = b.held.long; leads = b.held.leads } }

  turned : (s t : SystemState) → Alike c far s t → Kept c far s → Kept c far t → GoesOn c far closed line (turns c s) (turns c t)
  turned s t a p q = record {
    now = record { connected = a.connected; mounts = a.mounts; guests = agree_beside (far_guest c far) 0 turn c.guests s.guests t.guests a.guests; volumes = a.volumes };
    bytes = turns_alike c far closed line silent s.connected t.connected p.fits.connected q.fits.connected a.connected 0 c.guests s.guests t.guests a.guests;
  }

  ended : (s t : SystemState) → Alike c far s t → Kept c far s → Kept c far t → GoesOn c far closed line (transfers c s) (transfers c t)
  ended s t a p q =
      let all = all_alike c far closed line silent 0 c.guests (stand_all c.guests) s.mounts t.mounts p.held.leads q.held.leads a.mounts s.guests t.guests a.guests s.volumes t.volumes a.volumes in
      record { now = record { connected = a.connected; mounts = a.mounts; guests = all.guests; volumes = all.volumes }; bytes = all.bytes }

  begun : (i : ℕ) (es : List Event) (s t : SystemState) → Alike c far s t → Kept c far s → Kept c far t → GoesOn c far closed line (events c i s (events_of i es)) (events c i t (events_of i (far_events es)))
  begun i es s t a p q =
      let order : far_events (events_of i es) ≡ events_of i (far_events es) = exchanged (is_far_event c far) (λ (e : Event). e.round == i) es in
      subst (λ (xs : List Event). GoesOn c far closed line (events c i s (events_of i es)) (events c i t xs)) order (events_alike c far closed line silent i s t a p q (events_of i es))

  round_alike : (i : ℕ) (es : List Event) (s t : SystemState) → Alike c far s t → Kept c far s → Kept c far t → GoesOn c far closed line (round c i es s) (round c i (far_events es) t)
  round_alike i es s t a p q =
      let x : Went SystemState = events c i s (events_of i es) in
      let y : Went SystemState = events c i t (events_of i (far_events es)) in
      let px = kept_events c far closed i s p (events_of i es) in
      let qy = kept_events c far closed i t q (events_of i (far_events es)) in
      let one = begun i es s t a p q in
      let two = turned x.now y.now one.now px qy in
      let three = ended (turns c x.now).now (turns c y.now).now two.now (kept_turns x.now px) (kept_turns y.now qy) in
      let b1 = one.bytes in
      let b2 = two.bytes in
      let b3 = three.bytes in
      let parts : (u v w : List Put) → bytes_on line (u ++ v ++ w) ≡ bytes_on line u ++ bytes_on line v ++ bytes_on line w =
      λ u v w. bytes_append line (u ++ v) w ∙ ap (λ (bytes : List ℕ). bytes ++ bytes_on line w) (bytes_append line u v) in
      record {
        now = three.now;
        bytes = parts x.puts (turns c x.now).puts (transfers c (turns c x.now).now).puts ∙ (λ j. b1 j ++ b2 j ++ b3 j) ∙ sym (parts y.puts (turns c y.now).puts (transfers c (turns c y.now).now).puts);
      }

  pub rounds_alike : (i n : ℕ) (es : List Event) (s t : SystemState) → Alike c far s t → Kept c far s → Kept c far t → GoesOn c far closed line (rounds c i n es s) (rounds c i n (far_events es) t)
  rounds_alike i zero es s t a p q = record { now = a; bytes = refl }
  rounds_alike i (suc n) es s t a p q =
      let x : Went SystemState = round c i es s in
      let y : Went SystemState = round c i (far_events es) t in
      let first = round_alike i es s t a p q in
      let rest = rounds_alike (suc i) n es x.now y.now first.now (kept_round i es s p) (kept_round i (far_events es) t q) in
      let shown = first.bytes in
      let more = rest.bytes in
      record {
        now = rest.now;
        bytes = bytes_append line x.puts (rounds c (suc i) n es x.now).puts ∙ (λ j. shown j ++ more j) ∙ sym (bytes_append line y.puts (rounds c (suc i) n (far_events es) y.now).puts);
      }
