-- Rounds and runs as a class sees them, and what they show a line that flows into it.
use Rattle.std.proofs.Common.{◌≡◌, ℕ, zero, suc, List, [], ◌∷◌, ◌++◌, filter, Bool, refl, sym, ap, ◌∙◌, ◌==◌}
use Rattle.vv_class.specs.declared.class.AccessClass.{AccessClass}
use Rattle.sys_objects.specs.declared.records.Config.{Config}
use Rattle.sys_purge.proofs.EventBytes.{AuditFits, events_bytes}
use Rattle.sys_purge.proofs.Fits.{Each, Fits, fits_events}
use Rattle.sys_purge.proofs.Kept.{both}
use Rattle.sys_purge.proofs.Seen.{seen}
use Rattle.sys_purge.proofs.SeenEvents.{events_now}
use Rattle.sys_purge.proofs.SeenTransfers.{transfers_now}
use Rattle.sys_purge.proofs.SeenTurns.{TerminalsFlow, turns_bytes, turns_now}
use Rattle.sys_purge.proofs.TransferBytes.{PrintFits, PrintersFlow, transfers_bytes}
use Rattle.sys_purge.specs.Events.{is_kept_event, purge_events}
use Rattle.sys_purge.specs.Purge.{purge_config}
use Rattle.sys_state.proofs.Consoles.{bytes_append}
use Rattle.sys_state.specs.Events.{events}
use Rattle.sys_state.specs.Run.{events_of, round, rounds}
use Rattle.sys_state.specs.State.{Put, SystemState, bytes_on}
use Rattle.sys_state.specs.Transfers.{transfers}
use Rattle.sys_state.specs.Turns.{turns}
use Rattle.sys_script.specs.declared.event.Event.{Event}

-- two filters in either order
pub exchanged : {X : Type 0} (p q : X → Bool) (xs : List X) → filter p (filter q xs) ≡ filter q (filter p xs)
exchanged p q [] = refl
exchanged p q (x ∷ xs) =
    let rest = exchanged p q xs in
    both (p x)
    (λ e. both (q x) (λ f. rw (e, f, e) (ap (λ ys. x ∷ ys) rest)) (λ f. rw (e, f) rest))
    (λ e. both (q x) (λ f. rw (e, f, e) rest) (λ f. rw (e, f) rest))

module _ (c : Config) (to : AccessClass) where
  abbrev later : ℕ → ℕ → List Event → SystemState → SystemState
  later i n es s = (rounds (purge_config c to) i n (purge_events c es to) s).now

  -- the events of a round are kept alike
  round_events : (i : ℕ) (es : List Event) → events_of i (purge_events c es to) ≡ purge_events c (events_of i es) to
  round_events i es = exchanged (λ (e : Event). e.round == i) (is_kept_event c to) es

  begun_now : (i : ℕ) (es : List Event) (s : SystemState) → Fits c s → (events (purge_config c to) i (seen c to s) (events_of i (purge_events c es to))).now ≡ seen c to (events c i s (events_of i es)).now
  begun_now i es s f = ap (λ xs. (events (purge_config c to) i (seen c to s) xs).now) (round_events i es) ∙ events_now c to i s f (events_of i es)

  fits_turns : (s : SystemState) → Fits c s → Fits c (turns c s).now
  fits_turns s f = record { connected = f.connected; mounts = f.mounts }

  fits_round : (i : ℕ) (es : List Event) (s : SystemState) → Fits c s → Fits c (round c i es s).now
  fits_round i es s f = let g = fits_events c i s f (events_of i es) in record { connected = g.connected; mounts = g.mounts }

  turned_now : (i : ℕ) (es : List Event) (s : SystemState) → Fits c s
      → (turns (purge_config c to) (events (purge_config c to) i (seen c to s) (events_of i (purge_events c es to))).now).now ≡ seen c to (turns c (events c i s (events_of i es)).now).now
  turned_now i es s f = ap (λ (t : SystemState). (turns (purge_config c to) t).now) (begun_now i es s f) ∙ turns_now c to (events c i s (events_of i es)).now

  round_now : (i : ℕ) (es : List Event) (s : SystemState) → Fits c s → (round (purge_config c to) i (purge_events c es to) (seen c to s)).now ≡ seen c to (round c i es s).now
  round_now i es s f =
      let begun : SystemState = (events c i s (events_of i es)).now in
      ap (λ (t : SystemState). (transfers (purge_config c to) t).now) (turned_now i es s f)
      ∙ transfers_now c to (turns c begun).now (fits_turns begun (fits_events c i s f (events_of i es)))

  pub rounds_now : (i n : ℕ) (es : List Event) (s : SystemState) → Fits c s → (rounds (purge_config c to) i n (purge_events c es to) (seen c to s)).now ≡ seen c to (rounds c i n es s).now
  rounds_now i zero es s f = refl
  rounds_now i (suc n) es s f = ap (later (suc i) n es) (round_now i es s f) ∙ rounds_now (suc i) n es (round c i es s).now (fits_round i es s f)

  -- what is on the line flows into the class, and the configuration's rules hold
  pub record Heard (line : ℕ) : Type 0 where
    pub terminals : TerminalsFlow line to c.terminals
    pub printers : PrintersFlow line to c.printers
    pub audit : AuditFits c to line c.audit
    pub rows : Each (PrintFits c to line printers) c.guests

  round_bytes : (line : ℕ) → Heard line → (i : ℕ) (es : List Event) (s : SystemState) → Fits c s → bytes_on line (round (purge_config c to) i (purge_events c es to) (seen c to s)).puts ≡ bytes_on line (round c i es s).puts
  round_bytes line h i es s f =
      let d : Config = purge_config c to in
      let begun : SystemState = (events c i s (events_of i es)).now in
      let begun' : SystemState = (events d i (seen c to s) (events_of i (purge_events c es to))).now in
      let turned : SystemState = (turns c begun).now in
      let turned' : SystemState = (turns d begun').now in
      let fb : Fits c begun = fits_events c i s f (events_of i es) in
      let a : List Put = (events c i s (events_of i es)).puts in
      let a' : List Put = (events d i (seen c to s) (events_of i (purge_events c es to))).puts in
      let b : List Put = (turns c begun).puts in
      let b' : List Put = (turns d begun').puts in
      let e : List Put = (transfers c turned).puts in
      let e' : List Put = (transfers d turned').puts in
      let first : bytes_on line a' ≡ bytes_on line a = ap (λ xs. bytes_on line (events d i (seen c to s) xs).puts) (round_events i es) ∙ events_bytes c to line h.terminals h.audit i s f (events_of i es) in
      let second : bytes_on line b' ≡ bytes_on line b = ap (λ (t : SystemState). bytes_on line (turns d t).puts) (begun_now i es s f) ∙ turns_bytes c to line h.terminals begun fb in
      let third : bytes_on line e' ≡ bytes_on line e = ap (λ (t : SystemState). bytes_on line (transfers d t).puts) (turned_now i es s f) ∙ transfers_bytes c to line h.printers turned (fits_turns begun fb) h.rows in
      let parts : (x y z : List Put) → bytes_on line (x ++ y ++ z) ≡ bytes_on line x ++ bytes_on line y ++ bytes_on line z =
      λ x y z. bytes_append line (x ++ y) z ∙ ap (λ (bytes : List ℕ). bytes ++ bytes_on line z) (bytes_append line x y) in
      parts a' b' e' ∙ (λ j. first j ++ second j ++ third j) ∙ sym (parts a b e)

  pub rounds_bytes : (line : ℕ) → Heard line → (i n : ℕ) (es : List Event) (s : SystemState) → Fits c s → bytes_on line (rounds (purge_config c to) i n (purge_events c es to) (seen c to s)).puts ≡ bytes_on line (rounds c i n es s).puts
  rounds_bytes line h i zero es s f = refl
  rounds_bytes line h i (suc n) es s f =
      let d : Config = purge_config c to in
      let now' : SystemState = (round d i (purge_events c es to) (seen c to s)).now in
      let now : SystemState = (round c i es s).now in
      let first = round_bytes line h i es s f in
      let rest = ap (λ (t : SystemState). bytes_on line (rounds d (suc i) n (purge_events c es to) t).puts) (round_now i es s f) ∙ rounds_bytes line h (suc i) n es now (fits_round i es s f) in
      bytes_append line (round d i (purge_events c es to) (seen c to s)).puts (rounds d (suc i) n (purge_events c es to) now').puts
      ∙ (λ j. first j ++ rest j)
      ∙ sym (bytes_append line (round c i es s).puts (rounds c (suc i) n es now).puts)
