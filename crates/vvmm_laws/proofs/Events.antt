-- Events in states that agree at far objects: those of far terminals do and show the same, the others nothing there.
use Rattle.std.proofs.Common.{◌≡◌, ◌==◌, ℕ, suc, List, [], ◌∷◌, ◌++◌, map, filter, Bool, true, false, refl, sym, ap, ◌∙◌, subst, Option, Some, None, slice_get, slice_set, slice_index_or, if◌then◌else◌}
use Rattle.std.proofs.lemmas.Bool.{false≢true}
use Rattle.vv_class.specs.Class.{does_flow}
use Rattle.sys_flow.specs.Reach.{IsTheAudit, ObjectPlace}
use Rattle.vvmm_laws.proofs.Agree.{AgreeFrom, agree_changed, agree_get, agree_index, agree_set, agree_unchanged, agree_unset, long_set}
use Rattle.vvmm_laws.proofs.Commands.{Alike, alike_refl, alike_sym, alike_trans, quiet_after, same_after, verdict_alike}
use Rattle.vvmm_laws.proofs.Connected.{console_alike, console_near, other_line, terminal_off}
use Rattle.vvmm_laws.proofs.Far.{IsFarLine, audit_near, far_guest, far_terminal, holds_far, shown_far}
use Rattle.vvmm_laws.proofs.Held.{Kept, kept_happened}
use Rattle.vvmm_laws.specs.Reach.{IsClosed, is_far_event, is_far_place}
use Rattle.sys_objects.specs.declared.records.Audit.{Audit}
use Rattle.sys_objects.specs.declared.records.Config.{Config}
use Rattle.sys_objects.specs.declared.records.GuestRow.{GuestRow}
use Rattle.sys_objects.specs.declared.records.Terminal.{Terminal}
use Rattle.sys_purge.proofs.EventBytes.{off_line, off_said, off_told, told}
use Rattle.sys_purge.proofs.Fits.{ConnectFits, Holds, Pairs, VerdictFits, pairs_at, pairs_set, verdict_fits}
use Rattle.sys_purge.proofs.Kept.{both}
use Rattle.sys_purge.proofs.Places.{StandFrom, stand_all}
use Rattle.sys_state.proofs.Consoles.{bytes_append, bytes_of_console}
use Rattle.sys_state.specs.Consoles.{console_of, on_console}
use Rattle.sys_state.specs.Events.{after_verdict, at_place, at_row, audit_puts, commanded, events, happened, is_named, lined, message_of, obeyed, said_on, typed_at_terminal}
use Rattle.sys_state.specs.Guests.{typed}
use Rattle.sys_state.specs.Places.{place_of}
use Rattle.sys_state.specs.State.{Put, SystemState, Went, bytes_on, is_running, server_of}
use Rattle.sys_script.specs.declared.event.Event.{Event}
use Rattle.sys_script.specs.declared.event.Typed.{Typed}
use Rattle.sys_script.specs.declared.event.Typed.TheVariants.{Break, Line}
use Rattle.sys_objects.specs.Places.{is_at}
use Rattle.sys_server.specs.Replies.{guest_lines, object_text, printer_line, reply_of, running_text, server_text, shown_lines, volume_line, with_line_end}
use Rattle.sys_server.specs.Verdict.{verdict_of}
use Rattle.sys_server.specs.declared.command.Command.TheVariants.{Connect, Start, Halt, MountAt, Dismount, Show}
use Rattle.sys_server.specs.declared.command.Verdict.{Verdict}
use Rattle.sys_server.specs.declared.command.Verdict.TheVariants.{Granted, BadCommand, NoSuchObject, Denied}
use Rattle.vm_state.specs.State.{Guest}

module _ (c : Config) (far : ObjectPlace → Bool) (closed : IsClosed c far) where
  -- SHOW at a far terminal: it knows far guests alone
  lines_alike : (n : ℕ) (k : Terminal) → slice_get c.terminals n ≡ Some k → far_terminal c far n ≡ true → (i : ℕ) (rows : List GuestRow) → StandFrom c.guests i rows → (gs hs : List Guest) → AgreeFrom (far_guest c far) i gs hs
      → guest_lines k.class rows (map is_running gs) ≡ guest_lines k.class rows (map is_running hs)
  lines_alike n k at f i [] stand gs hs a = refl
  lines_alike n k at f i (row ∷ rows) stand [] [] a = refl
  lines_alike n k at f i (row ∷ rows) stand [] (h ∷ hs) a = absurd a
  lines_alike n k at f i (row ∷ rows) stand (g ∷ gs) [] a = absurd a
  lines_alike n k at f i (row ∷ rows) stand (g ∷ gs) (h ∷ hs) a =
      let rest = lines_alike n k at f (suc i) rows stand.1 gs hs a.1 in
      both (does_flow row.class k.class)
      (λ d.
      let same : is_running g ≡ is_running h = ap is_running (a.0 (shown_far c far closed i row stand.0 n k at d f)) in
      rw d (λ j. with_line_end (object_text (86 ∷ 77 ∷ []) row.name row.class ++ running_text (same j)) ∷ rest j))
      (λ d. rw d rest)

  module _ (s t : SystemState) (a : Alike c far s t) (p : Kept c far s) (q : Kept c far t) (n : ℕ) (k : Terminal) (at : slice_get c.terminals n ≡ Some k) (f : far_terminal c far n ≡ true) where
    show_alike : (obeyed c s n k Show).before ≡ (obeyed c t n k Show).before
    show_alike =
        let running = lines_alike n k at f 0 c.guests (stand_all c.guests) s.guests t.guests a.guests in
        λ i. map (λ text. record { line = k.line; bytes = text })
        (running i ++ map volume_line (filter (λ v. does_flow v.class k.class) c.volumes) ++ map printer_line (filter (λ r. does_flow r.class k.class) c.printers))

    stop_alike : (g : ℕ) → Holds c k.class g → (obeyed c s n k (Halt g)).before ≡ (obeyed c t n k (Halt g)).before
    stop_alike g h =
        let e : far_guest c far g ≡ true = holds_far c far closed n k at g h ∙ f in
        let console = console_alike c far closed g e 0 c.terminals s.connected t.connected (stand_all c.terminals) p.fits.connected q.fits.connected a.connected in
        let guest = agree_get (far_guest c far) s.guests t.guests a.guests g e in
        λ i. on_console (console i) (message_of (guest i))

    before_alike : (v : Verdict) → VerdictFits c k.class v → (after_verdict c s n k v).before ≡ (after_verdict c t n k v).before
    before_alike (Granted Show) h = show_alike
    before_alike (Granted (Halt g)) h = stop_alike g h
    before_alike (Granted (Start g)) h = refl
    before_alike (Granted (Connect g)) h = refl
    before_alike (Granted (MountAt g unit m)) h = refl
    before_alike (Granted (Dismount g unit)) h = refl
    before_alike BadCommand h = refl
    before_alike NoSuchObject h = refl
    before_alike (Denied rule) h = refl

    after_alike : (v : Verdict) → VerdictFits c k.class v → (after_verdict c s n k v).later ≡ (after_verdict c t n k v).later
    after_alike (Granted (Connect g)) h =
        let os : List (Option ℕ) = slice_set s.connected n None in
        let us : List (Option ℕ) = slice_set t.connected n None in
        let left : Pairs (ConnectFits c) c.terminals os = pairs_set (ConnectFits c) c.terminals s.connected n k None p.fits.connected at tt in
        let right : Pairs (ConnectFits c) c.terminals us = pairs_set (ConnectFits c) c.terminals t.connected n k None q.fits.connected at tt in
        let e : far_guest c far g ≡ true = holds_far c far closed n k at g h ∙ f in
        ap told (console_alike c far closed g e 0 c.terminals os us (stand_all c.terminals) left right (agree_set (far_terminal c far) 0 s.connected t.connected a.connected n None))
    after_alike (Granted (Start g)) h = refl
    after_alike (Granted (Halt g)) h = refl
    after_alike (Granted (MountAt g unit m)) h = refl
    after_alike (Granted (Dismount g unit)) h = refl
    after_alike (Granted Show) h = refl
    after_alike BadCommand h = refl
    after_alike NoSuchObject h = refl
    after_alike (Denied rule) h = refl

    command_alike : (round : ℕ) (text : List ℕ) (v : Verdict) → VerdictFits c k.class v → (commanded c round s n k text v).puts ≡ (commanded c round t n k text v).puts
    command_alike round text v h =
        let before = before_alike v h in
        let later = after_alike v h in
        λ i. before i ++ (said_on k.line (reply_of v) ∷ later i) ++ audit_puts c.audit round k text v

  -- where two steps lead, and what they show
  module _ (line : ℕ) where
    pub record GoesOn (x y : Went SystemState) : Type 0 where
      pub now : Alike c far x.now y.now
      pub bytes : bytes_on line x.puts ≡ bytes_on line y.puts

    record IsQuiet (s : SystemState) (x : Went SystemState) : Type 0 where
      pub now : Alike c far s x.now
      pub bytes : bytes_on line x.puts ≡ []

    -- an event at a far terminal
    module _ (round : ℕ) (s t : SystemState) (a : Alike c far s t) (p : Kept c far s) (q : Kept c far t) where
      same_lined : (n : ℕ) (k : Terminal) → slice_get c.terminals n ≡ Some k → far_terminal c far n ≡ true → (text : List ℕ) (o : Option ℕ) → GoesOn (lined c round s n k text o) (lined c round t n k text o)
      same_lined n k at f text (Some g) = record {
        now = record { connected = a.connected; mounts = a.mounts; guests = agree_changed (far_guest c far) 0 (typed text) s.guests t.guests a.guests g; volumes = a.volumes };
        bytes = refl;
      }
      same_lined n k at f text None =
          let v : Verdict = verdict_of c (server_of s) n text in
          let here : GoesOn (commanded c round s n k text v) (commanded c round t n k text v) = record {
            now = same_after c far s t a n k v;
            bytes = ap (bytes_on line) (command_alike s t a p q n k at f round text v (verdict_fits c s n k text at));
          } in
          subst (λ (w : Verdict). GoesOn (commanded c round s n k text v) (commanded c round t n k text w)) (verdict_alike c far closed s t a n k at f text) here

      same_acted : (n : ℕ) (k : Terminal) → slice_get c.terminals n ≡ Some k → far_terminal c far n ≡ true → (what : Typed) → GoesOn (typed_at_terminal c round s n k what) (typed_at_terminal c round t n k what)
      same_acted n k at f Break = record {
        now = record { connected = agree_set (far_terminal c far) 0 s.connected t.connected a.connected n None; mounts = a.mounts; guests = a.guests; volumes = a.volumes };
        bytes = refl;
      }
      same_acted n k at f (Line text) =
          subst (λ (o : Option ℕ). GoesOn (lined c round s n k text (slice_index_or s.connected n None)) (lined c round t n k text o)) (agree_index (far_terminal c far) s.connected t.connected a.connected n None f)
          (same_lined n k at f text (slice_index_or s.connected n None))

      same_row : (n : ℕ) (o : Option Terminal) → slice_get c.terminals n ≡ o → far_terminal c far n ≡ true → (what : Typed) → GoesOn (at_row c round s n o what) (at_row c round t n o what)
      same_row n None at f what = record { now = a; bytes = refl }
      same_row n (Some k) at f what = same_acted n k at f what

      same_place : (o : Option ℕ) → is_far_place far o ≡ true → (what : Typed) → GoesOn (at_place c round s o what) (at_place c round t o what)
      same_place None f what = absurd (false≢true f)
      same_place (Some n) f what = same_row n (slice_get c.terminals n) refl f what

      same_event : (e : Event) → is_far_event c far e ≡ true → GoesOn (happened c round s e) (happened c round t e)
      same_event e f = same_place (place_of (is_named e.terminal) c.terminals) f e.what

    -- an event at another
    module _ (silent : IsFarLine c far line) (round : ℕ) (s : SystemState) (p : Kept c far s) where
      module _ (n : ℕ) (k : Terminal) (at : slice_get c.terminals n ≡ Some k) (near : far_terminal c far n ≡ false) where
        off : (k.line == line) ≡ false
        off = terminal_off c far closed line silent n k at near

        near_stop : (g : ℕ) → Holds c k.class g → bytes_on line (obeyed c s n k (Halt g)).before ≡ []
        near_stop g h =
            let message : List ℕ = message_of (slice_get s.guests g) in
            bytes_of_console line (console_of c.terminals s.connected g) message
            ∙ ap (λ (b : Bool). if b then message else []) (console_near c far closed line silent g (holds_far c far closed n k at g h ∙ near) 0 c.terminals s.connected (stand_all c.terminals) p.fits.connected)

        near_before : (v : Verdict) → VerdictFits c k.class v → bytes_on line (after_verdict c s n k v).before ≡ []
        near_before (Granted Show) h = off_line k.line line off (shown_lines c (server_of s) k.class)
        near_before (Granted (Halt g)) h = near_stop g h
        near_before (Granted (Start g)) h = refl
        near_before (Granted (Connect g)) h = refl
        near_before (Granted (MountAt g unit m)) h = refl
        near_before (Granted (Dismount g unit)) h = refl
        near_before BadCommand h = refl
        near_before NoSuchObject h = refl
        near_before (Denied rule) h = refl

        near_after : (v : Verdict) → VerdictFits c k.class v → bytes_on line (after_verdict c s n k v).later ≡ []
        near_after (Granted (Connect g)) h =
            let os : List (Option ℕ) = slice_set s.connected n None in
            let fits : Pairs (ConnectFits c) c.terminals os = pairs_set (ConnectFits c) c.terminals s.connected n k None p.fits.connected at tt in
            off_told line (console_of c.terminals os g) (console_near c far closed line silent g (holds_far c far closed n k at g h ∙ near) 0 c.terminals os (stand_all c.terminals) fits)
        near_after (Granted (Start g)) h = refl
        near_after (Granted (Halt g)) h = refl
        near_after (Granted (MountAt g unit m)) h = refl
        near_after (Granted (Dismount g unit)) h = refl
        near_after (Granted Show) h = refl
        near_after BadCommand h = refl
        near_after NoSuchObject h = refl
        near_after (Denied rule) h = refl

        near_audit : (o : Option Audit) → c.audit ≡ o → (text : List ℕ) (v : Verdict) → bytes_on line (audit_puts o round k text v) ≡ []
        near_audit None e text v = refl
        near_audit (Some a) e text v = let away = other_line a.line line (far IsTheAudit) (silent.audit a e) (audit_near c far closed n near) in rw away refl

        near_command : (text : List ℕ) (v : Verdict) → VerdictFits c k.class v → bytes_on line (commanded c round s n k text v).puts ≡ []
        near_command text v h =
            let before = near_before v h in
            let later = off_said k.line line off (reply_of v) ((after_verdict c s n k v).later) ∙ near_after v h in
            let audit = near_audit c.audit refl text v in
            let replies : List Put = said_on k.line (reply_of v) ∷ (after_verdict c s n k v).later in
            bytes_append line ((after_verdict c s n k v).before ++ replies) (audit_puts c.audit round k text v)
            ∙ ap (λ (bytes : List ℕ). bytes ++ bytes_on line (audit_puts c.audit round k text v)) (bytes_append line ((after_verdict c s n k v).before) replies)
            ∙ (λ i. (before i ++ later i) ++ audit i)

        quiet_lined : (text : List ℕ) (o : Option ℕ) → ConnectFits c k o → IsQuiet s (lined c round s n k text o)
        quiet_lined text (Some g) h =
            let all = alike_refl c far s in
            record {
              now = record { connected = all.connected; mounts = all.mounts; guests = agree_unchanged (far_guest c far) (typed text) s.guests g (holds_far c far closed n k at g h ∙ near); volumes = all.volumes };
              bytes = refl;
            }
        quiet_lined text None h =
            let v : Verdict = verdict_of c (server_of s) n text in
            let fits = verdict_fits c s n k text at in
            record { now = quiet_after c far closed s p n k at near v fits; bytes = near_command text v fits }

        quiet_acted : (what : Typed) → IsQuiet s (typed_at_terminal c round s n k what)
        quiet_acted Break =
            let all = alike_refl c far s in
            record {
              now = record { connected = agree_unset (far_terminal c far) s.connected None n near; mounts = all.mounts; guests = all.guests; volumes = all.volumes };
              bytes = off_said k.line line off server_text [];
            }
        quiet_acted (Line text) = quiet_lined text (slice_index_or s.connected n None) (pairs_at (ConnectFits c) c.terminals s.connected n k None p.fits.connected at tt)

      quiet_row : (n : ℕ) (o : Option Terminal) → slice_get c.terminals n ≡ o → far_terminal c far n ≡ false → (what : Typed) → IsQuiet s (at_row c round s n o what)
      quiet_row n None at near what = record { now = alike_refl c far s; bytes = refl }
      quiet_row n (Some k) at near what = quiet_acted n k at near what

      quiet_place : (o : Option ℕ) → is_far_place far o ≡ false → (what : Typed) → IsQuiet s (at_place c round s o what)
      quiet_place None near what = record { now = alike_refl c far s; bytes = refl }
      quiet_place (Some n) near what = quiet_row n (slice_get c.terminals n) refl near what

      quiet_event : (e : Event) → is_far_event c far e ≡ false → IsQuiet s (happened c round s e)
      quiet_event e near = quiet_place (place_of (is_named e.terminal) c.terminals) near e.what

    -- all events of one run, and those of far terminals of the other
    pub events_alike : IsFarLine c far line → (round : ℕ) (s t : SystemState) → Alike c far s t → Kept c far s → Kept c far t → (es : List Event) → GoesOn (events c round s es) (events c round t (filter (is_far_event c far) es))
    events_alike silent round s t a p q [] = record { now = a; bytes = refl }
    events_alike silent round s t a p q (e ∷ es) =
        let x : Went SystemState = happened c round s e in
        let y : Went SystemState = happened c round t e in
        let p' = kept_happened c far round s p e in
        let q' = kept_happened c far round t q e in
        let far_es : List Event = filter (is_far_event c far) es in
        both (is_far_event c far e)
        (λ f.
        let first = same_event round s t a p q e f in
        let rest = events_alike silent round x.now y.now first.now p' q' es in
        let shown = first.bytes in
        let more = rest.bytes in
        let whole : GoesOn (events c round s (e ∷ es)) (events c round t (e ∷ far_es)) = record {
          now = rest.now;
          bytes = bytes_append line x.puts (events c round x.now es).puts ∙ (λ i. shown i ++ more i) ∙ sym (bytes_append line y.puts (events c round y.now far_es).puts);
        } in
        let list : e ∷ far_es ≡ filter (is_far_event c far) (e ∷ es) = rw f refl in
        subst (λ (xs : List Event). GoesOn (events c round s (e ∷ es)) (events c round t xs)) list whole)
        (λ n.
        let first = quiet_event silent round s p e n in
        let rest = events_alike silent round x.now t (alike_trans c far x.now s t (alike_sym c far s x.now first.now) a) p' q es in
        let shown = first.bytes in
        let more = rest.bytes in
        let whole : GoesOn (events c round s (e ∷ es)) (events c round t far_es) = record {
          now = rest.now;
          bytes = bytes_append line x.puts (events c round x.now es).puts ∙ (λ i. shown i ++ more i);
        } in
        let list : far_es ≡ filter (is_far_event c far) (e ∷ es) = rw n refl in
        subst (λ (xs : List Event). GoesOn (events c round s (e ∷ es)) (events c round t xs)) list whole)

  pub kept_events : (round : ℕ) (s : SystemState) → Kept c far s → (es : List Event) → Kept c far (events c round s es).now
  kept_events round s p [] = p
  kept_events round s p (e ∷ es) = kept_events round (happened c round s e).now (kept_happened c far round s p e) es
