-- What events show a line that flows into a class.
use Rattle.std.proofs.Common.{◌≡◌, ℕ, suc, List, [], ◌∷◌, ◌++◌, map, filter, Bool, true, false, refl, sym, ap, ◌∙◌, All, Option, Some, None, option_map, slice_get, slice_set, slice_index_or, if◌then◌else◌, true≢false, ◌==◌}
use Rattle.std.specs.Prelude.{find, option_to_list}
use Rattle.std.proofs.lemmas.Bool.{false≢true}
use Rattle.vv_class.specs.Class.{does_flow}
use Rattle.vv_class.specs.declared.class.AccessClass.{AccessClass}
use Rattle.sys_audit.specs.Audit.{audit_record}
use Rattle.sys_objects.specs.declared.records.Audit.{Audit}
use Rattle.sys_objects.specs.declared.records.Config.{Config}
use Rattle.sys_objects.specs.declared.records.GuestRow.{GuestRow}
use Rattle.sys_objects.specs.declared.records.PrinterRow.{PrinterRow}
use Rattle.sys_objects.specs.declared.records.Terminal.{Terminal}
use Rattle.sys_objects.specs.declared.records.VolumeRow.{VolumeRow}
use Rattle.sys_purge.proofs.Accepted.{flows_on, printer_kept, terminal_kept, volume_kept}
use Rattle.sys_purge.proofs.Beside.{get_beside, passes_row}
use Rattle.sys_purge.proofs.Fits.{ConnectFits, Fits, Holds, Pairs, VerdictFits, all_get, fits_happened, pairs_set, verdict_fits}
use Rattle.sys_purge.proofs.Kept.{both, get_kept}
use Rattle.sys_purge.proofs.Seen.{holds_passes, seen, seen_connected, server_seen, set_seen}
use Rattle.sys_purge.proofs.SeenEvents.{Found, connection_seen, dropped_now, first_kept, found, is_kept_at, kept_now, seen_place, sees, verdict_seen}
use Rattle.sys_purge.proofs.SeenTurns.{TerminalsFlow, at_kept, console_kept, kept_alike, not_on_line, seen_rows}
use Rattle.sys_purge.proofs.TransferBytes.{other_line}
use Rattle.sys_purge.specs.Events.{is_kept_event, purge_events}
use Rattle.sys_purge.specs.Input.{beside, is_kept}
use Rattle.sys_purge.specs.Judged.{guest_rank, moved_verdict}
use Rattle.sys_purge.specs.Purge.{kept_audit, purge_config, rank}
use Rattle.sys_state.proofs.Consoles.{bytes_append, bytes_of_console}
use Rattle.sys_state.specs.Consoles.{console_of, on_console}
use Rattle.sys_state.specs.Events.{after_verdict, at_place, audit_puts, commanded, events, happened, is_named, lined, message_of, obeyed, said_on, typed_at_terminal}
use Rattle.sys_state.specs.Places.{place_of}
use Rattle.sys_state.specs.State.{Put, SystemState, bytes_on, is_running, server_of}
use Rattle.sys_script.specs.declared.event.Event.{Event}
use Rattle.sys_script.specs.declared.event.Typed.{Typed}
use Rattle.sys_script.specs.declared.event.Typed.TheVariants.{Break, Line}
use Rattle.sys_objects.specs.Places.{is_at}
use Rattle.sys_server.specs.Replies.{with_line_end, guest_lines, object_text, printer_line, reply_of, running_text, server_text, shown_lines, taken_text, volume_line}
use Rattle.sys_server.specs.Verdict.{verdict_of}
use Rattle.sys_server.specs.declared.command.Command.TheVariants.{Connect, Start, Halt, MountAt, Dismount, Show}
use Rattle.sys_server.specs.declared.command.ServerState.{ServerState}
use Rattle.sys_server.specs.declared.command.Verdict.{Verdict}
use Rattle.sys_server.specs.declared.command.Verdict.TheVariants.{Granted, BadCommand, NoSuchObject, Denied}

-- what all of one line is shown, on another
pub off_line : (own line : ℕ) → (own == line) ≡ false → (texts : List (List ℕ)) → bytes_on line (map (λ text. record { line = own; bytes = text }) texts) ≡ []
off_line own line off [] = refl
off_line own line off (text ∷ texts) = let rest = off_line own line off texts in rw off rest

pub off_said : (own line : ℕ) → (own == line) ≡ false → (text : List ℕ) (puts : List Put) → bytes_on line (said_on own text ∷ puts) ≡ bytes_on line puts
off_said own line off text puts = rw off refl

-- the terminal whose console is taken is told
abbrev pub told : Option ℕ → List Put
told o = map (λ line. said_on line taken_text) (option_to_list o)

pub off_told : (line : ℕ) (o : Option ℕ) → is_at line o ≡ false → bytes_on line (told o) ≡ []
off_told line None off = refl
off_told line (Some own) off = off_said own line off taken_text []

-- of what is kept, what a lower class knows is what it knows of all
pub known : {X : Type 0} (p test : X → Bool) (xs : List X) → ((x : X) → p x ≡ true → test x ≡ true) → filter p (filter test xs) ≡ filter p xs
known p test [] h = refl
known p test (x ∷ xs) h =
    let rest = known p test xs h in
    both (test x)
    (λ e. both (p x) (λ b. rw (e, b) (ap (λ ys. x ∷ ys) rest)) (λ b. rw (e, b) rest))
    (λ e. both (p x) (λ b. absurd (true≢false (sym (h x b) ∙ e))) (λ b. rw (e, b) rest))

module _ (c : Config) (to : AccessClass) where
  -- SHOW
  lines_seen : (class : AccessClass) → does_flow class to ≡ true → (rows : List GuestRow) (running : List Bool) → guest_lines class (seen_rows c to rows) (beside (is_kept to) rows running) ≡ guest_lines class rows running
  lines_seen class e [] running = refl
  lines_seen class e (row ∷ rows) [] = both (is_kept to row) (λ b. rw b refl) (λ b. rw b (nothing (seen_rows c to rows)))
    where
      nothing : (rest : List GuestRow) → guest_lines class rest [] ≡ []
      nothing [] = refl
      nothing (r ∷ rest) = refl
  lines_seen class e (row ∷ rows) (runs ∷ running) =
      let rest = lines_seen class e rows running in
      let line : List ℕ = with_line_end (object_text (86 ∷ 77 ∷ []) row.name row.class ++ running_text runs) in
      both (is_kept to row)
      (λ b. both (does_flow row.class class) (λ d. rw (b, d) (ap (λ ls. line ∷ ls) rest)) (λ d. rw (b, d) rest))
      (λ b. both (does_flow row.class class) (λ d. absurd (true≢false (sym (flows_on row.class class to d e) ∙ b))) (λ d. rw (b, d) rest))

  shown_seen : (s : SystemState) (class : AccessClass) → does_flow class to ≡ true → shown_lines (purge_config c to) (server_of (seen c to s)) class ≡ shown_lines c (server_of s) class
  shown_seen s class e =
      let running = ap (λ (r : ServerState). guest_lines class (seen_rows c to c.guests) r.running) (server_seen c to s) ∙ lines_seen class e c.guests (map is_running s.guests) in
      let volumes = ap (map volume_line) (known (λ (v : VolumeRow). does_flow v.class class) (volume_kept c to) c.volumes (λ v h. flows_on v.class class to h e)) in
      let printers = ap (map printer_line) (known (λ (q : PrinterRow). does_flow q.class class) (printer_kept c to) c.printers (λ q h. flows_on q.class class to h e)) in
      λ i. running i ++ volumes i ++ printers i

  show_seen : (s : SystemState) (m n : ℕ) (k : Terminal) → sees c to k ≡ true → (obeyed (purge_config c to) (seen c to s) m k Show).before ≡ (obeyed c s n k Show).before
  show_seen s m n k e = ap (map (λ text. record { line = k.line; bytes = text })) (shown_seen s k.class e)

  -- HALT's message
  stop_seen : (s : SystemState) → Fits c s → (m n : ℕ) (k : Terminal) → sees c to k ≡ true → (g : ℕ) → Holds c k.class g → (obeyed (purge_config c to) (seen c to s) m k (Halt (guest_rank c to g))).before ≡ (obeyed c s n k (Halt g)).before
  stop_seen s f m n k e g h =
      let kept : is_kept to h.0 ≡ true = ap (λ d. does_flow d to) h.2 ∙ e in
      let console = console_kept c to g h.0 h.1 kept c.terminals s.connected f.connected in
      let guest = get_beside (is_kept to) c.guests s.guests g (holds_passes c to k.class g h ∙ e) in
      λ i. on_console (console i) (message_of (guest i))

  before_seen : (s : SystemState) → Fits c s → (m n : ℕ) (k : Terminal) → sees c to k ≡ true → (v : Verdict) → VerdictFits c k.class v
      → (after_verdict (purge_config c to) (seen c to s) m k (moved_verdict c to v)).before ≡ (after_verdict c s n k v).before
  before_seen s f m n k e (Granted Show) h = show_seen s m n k e
  before_seen s f m n k e (Granted (Halt g)) h = stop_seen s f m n k e g h
  before_seen s f m n k e (Granted (Start g)) h = refl
  before_seen s f m n k e (Granted (Connect g)) h = refl
  before_seen s f m n k e (Granted (MountAt g unit mount)) h = refl
  before_seen s f m n k e (Granted (Dismount g unit)) h = refl
  before_seen s f m n k e BadCommand h = refl
  before_seen s f m n k e NoSuchObject h = refl
  before_seen s f m n k e (Denied rule) h = refl

  pub reply_seen : (v : Verdict) → reply_of (moved_verdict c to v) ≡ reply_of v
  reply_seen (Granted command) = refl
  reply_seen BadCommand = refl
  reply_seen NoSuchObject = refl
  reply_seen (Denied rule) = refl

  pub after_seen : (s : SystemState) → Fits c s → (n : ℕ) (k : Terminal) → slice_get c.terminals n ≡ Some k → sees c to k ≡ true → (v : Verdict) → VerdictFits c k.class v
      → (after_verdict (purge_config c to) (seen c to s) (seen_place c to n) k (moved_verdict c to v)).later ≡ (after_verdict c s n k v).later
  after_seen s f n k at e (Granted (Connect g)) h =
      let os : List (Option ℕ) = slice_set s.connected n None in
      let fits : Pairs (ConnectFits c) c.terminals os = pairs_set (ConnectFits c) c.terminals s.connected n k None f.connected at tt in
      let set = sym (set_seen c to s.connected n None (passes_row (terminal_kept c to) c.terminals n k at ∙ e)) in
      let kept : is_kept to h.0 ≡ true = ap (λ d. does_flow d to) h.2 ∙ e in
      ap (λ (xs : List (Option ℕ)). told (console_of (filter (terminal_kept c to) c.terminals) xs (guest_rank c to g))) set
      ∙ ap told (console_kept c to g h.0 h.1 kept c.terminals os fits)
  after_seen s f n k at e (Granted (Start g)) h = refl
  after_seen s f n k at e (Granted (Halt g)) h = refl
  after_seen s f n k at e (Granted (MountAt g unit m)) h = refl
  after_seen s f n k at e (Granted (Dismount g unit)) h = refl
  after_seen s f n k at e (Granted Show) h = refl
  after_seen s f n k at e BadCommand h = refl
  after_seen s f n k at e NoSuchObject h = refl
  after_seen s f n k at e (Denied rule) h = refl

  pub audit_text_seen : (round : ℕ) (k : Terminal) (text : List ℕ) (v : Verdict) → audit_record round k text (moved_verdict c to v) ≡ audit_record round k text v
  unfolding audit_record
  audit_text_seen round k text (Granted command) = refl
  audit_text_seen round k text BadCommand = refl
  audit_text_seen round k text NoSuchObject = refl
  audit_text_seen round k text (Denied rule) = refl

  -- an audit on the line flows into the class, and all terminals flow into it
  abbrev pub AuditFits : ℕ → Option Audit → Type 0
  AuditFits line None = Unit {0}
  AuditFits line (Some a) = (a.line ≡ line → does_flow a.class to ≡ true) × All (λ (k : Terminal). does_flow k.class a.class ≡ true) c.terminals

  module _ (line : ℕ) (flow : TerminalsFlow line to c.terminals) (audited : AuditFits line c.audit) where
    terminal_flows : (n : ℕ) (k : Terminal) → slice_get c.terminals n ≡ Some k → k.line ≡ line → does_flow k.class to ≡ true
    terminal_flows n k at = all_get (λ (x : Terminal). x.line ≡ line → does_flow x.class to ≡ true) c.terminals n k flow at

    hidden_line : (n : ℕ) (k : Terminal) → slice_get c.terminals n ≡ Some k → sees c to k ≡ false → (k.line == line) ≡ false
    hidden_line n k at e = other_line k.line line k.class to (terminal_flows n k at) e

    -- the audit of a command at a terminal that is seen, and at one that isn't
    audit_seen : (a : Option Audit) → AuditFits line a → (round : ℕ) (k : Terminal) (text : List ℕ) (v : Verdict) → bytes_on line (audit_puts (kept_audit to a) round k text (moved_verdict c to v)) ≡ bytes_on line (audit_puts a round k text v)
    audit_seen None h round k text v = refl
    audit_seen (Some a) h round k text v = both (does_flow a.class to)
        (λ e. rw e (ap (λ (bytes : List ℕ). bytes_on line (record { line = a.line; bytes = bytes } ∷ [])) (audit_text_seen round k text v)))
        (λ e. let off = other_line a.line line a.class to h.0 e in rw (e, off) refl)

    audit_hidden : (a : Option Audit) → AuditFits line a → (round n : ℕ) (k : Terminal) → slice_get c.terminals n ≡ Some k → sees c to k ≡ false → (text : List ℕ) (v : Verdict) → bytes_on line (audit_puts a round k text v) ≡ []
    audit_hidden None h round n k at e text v = refl
    audit_hidden (Some a) h round n k at e text v =
        let into : does_flow k.class a.class ≡ true = all_get (λ (x : Terminal). does_flow x.class a.class ≡ true) c.terminals n k h.1 at in
        let hidden : does_flow a.class to ≡ false = both (does_flow a.class to) (λ b. absurd (true≢false (sym (flows_on k.class a.class to into b) ∙ e))) (λ b. b) in
        let off = other_line a.line line a.class to h.0 hidden in
        rw off refl

    -- a command at a terminal that is seen
    seen_command : (round : ℕ) (s : SystemState) → Fits c s → (n : ℕ) (k : Terminal) → slice_get c.terminals n ≡ Some k → sees c to k ≡ true → (text : List ℕ) (v : Verdict) → VerdictFits c k.class v
        → bytes_on line (commanded (purge_config c to) round (seen c to s) (seen_place c to n) k text (moved_verdict c to v)).puts ≡ bytes_on line (commanded c round s n k text v).puts
    seen_command round s f n k at e text v h =
        let before = before_seen s f (seen_place c to n) n k e v h in
        let reply = reply_seen v in
        let beyond = after_seen s f n k at e v h in
        let audit = audit_seen c.audit audited round k text v in
        let replies : List Put = (after_verdict c s n k v).before ++ (said_on k.line (reply_of v) ∷ (after_verdict c s n k v).later) in
        let replies' : List Put = (after_verdict (purge_config c to) (seen c to s) (seen_place c to n) k (moved_verdict c to v)).before ++ (said_on k.line (reply_of (moved_verdict c to v)) ∷ (after_verdict (purge_config c to) (seen c to s) (seen_place c to n) k (moved_verdict c to v)).later) in
        let same : replies' ≡ replies = λ i. before i ++ (said_on k.line (reply i) ∷ beyond i) in
        bytes_append line replies' (audit_puts (kept_audit to c.audit) round k text (moved_verdict c to v))
        ∙ (λ i. bytes_on line (same i) ++ audit i)
        ∙ sym (bytes_append line replies (audit_puts c.audit round k text v))

    -- a command at one that isn't: nothing of it is shown on the line
    unseen_before : (s : SystemState) → Fits c s → (n : ℕ) (k : Terminal) → slice_get c.terminals n ≡ Some k → sees c to k ≡ false → (v : Verdict) → VerdictFits c k.class v → bytes_on line ((after_verdict c s n k v).before) ≡ []
    unseen_before s f n k at e (Granted Show) h = off_line k.line line (hidden_line n k at e) (shown_lines c (server_of s) k.class)
    unseen_before s f n k at e (Granted (Halt g)) h =
        let hidden : is_kept to h.0 ≡ false = ap (λ d. does_flow d to) h.2 ∙ e in
        let message : List ℕ = message_of (slice_get s.guests g) in
        bytes_of_console line (console_of c.terminals s.connected g) message
        ∙ ap (λ (b : Bool). if b then message else []) (not_on_line c to line g h.0 h.1 hidden c.terminals s.connected f.connected flow)
    unseen_before s f n k at e (Granted (Start g)) h = refl
    unseen_before s f n k at e (Granted (Connect g)) h = refl
    unseen_before s f n k at e (Granted (MountAt g unit m)) h = refl
    unseen_before s f n k at e (Granted (Dismount g unit)) h = refl
    unseen_before s f n k at e BadCommand h = refl
    unseen_before s f n k at e NoSuchObject h = refl
    unseen_before s f n k at e (Denied rule) h = refl

    unseen_after : (s : SystemState) → Fits c s → (n : ℕ) (k : Terminal) → slice_get c.terminals n ≡ Some k → sees c to k ≡ false → (v : Verdict) → VerdictFits c k.class v → bytes_on line ((after_verdict c s n k v).later) ≡ []
    unseen_after s f n k at e (Granted (Connect g)) h =
        let os : List (Option ℕ) = slice_set s.connected n None in
        let fits : Pairs (ConnectFits c) c.terminals os = pairs_set (ConnectFits c) c.terminals s.connected n k None f.connected at tt in
        off_told line (console_of c.terminals os g) (not_on_line c to line g h.0 h.1 (ap (λ d. does_flow d to) h.2 ∙ e) c.terminals os fits flow)
    unseen_after s f n k at e (Granted (Start g)) h = refl
    unseen_after s f n k at e (Granted (Halt g)) h = refl
    unseen_after s f n k at e (Granted (MountAt g unit m)) h = refl
    unseen_after s f n k at e (Granted (Dismount g unit)) h = refl
    unseen_after s f n k at e (Granted Show) h = refl
    unseen_after s f n k at e BadCommand h = refl
    unseen_after s f n k at e NoSuchObject h = refl
    unseen_after s f n k at e (Denied rule) h = refl

    unseen_command : (round : ℕ) (s : SystemState) → Fits c s → (n : ℕ) (k : Terminal) → slice_get c.terminals n ≡ Some k → sees c to k ≡ false → (text : List ℕ) (v : Verdict) → VerdictFits c k.class v
        → bytes_on line (commanded c round s n k text v).puts ≡ []
    unseen_command round s f n k at e text v h =
        let before = unseen_before s f n k at e v h in
        let beyond = off_said k.line line (hidden_line n k at e) (reply_of v) ((after_verdict c s n k v).later) ∙ unseen_after s f n k at e v h in
        let audit = audit_hidden c.audit audited round n k at e text v in
        let replies : List Put = said_on k.line (reply_of v) ∷ (after_verdict c s n k v).later in
        bytes_append line ((after_verdict c s n k v).before ++ replies) (audit_puts c.audit round k text v)
        ∙ ap (λ (bytes : List ℕ). bytes ++ bytes_on line (audit_puts c.audit round k text v)) (bytes_append line ((after_verdict c s n k v).before) replies)
        ∙ (λ i. (before i ++ beyond i) ++ audit i)

    -- lines and breaks
    seen_line : (round : ℕ) (s : SystemState) → Fits c s → (n : ℕ) (k : Terminal) → slice_get c.terminals n ≡ Some k → sees c to k ≡ true → (text : List ℕ) (o : Option ℕ)
        → bytes_on line (lined (purge_config c to) round (seen c to s) (seen_place c to n) k text (option_map (guest_rank c to) o)).puts ≡ bytes_on line (lined c round s n k text o).puts
    seen_line round s f n k at e text None =
        ap (λ v. bytes_on line (commanded (purge_config c to) round (seen c to s) (seen_place c to n) k text v).puts) (verdict_seen c to s n k text at e)
        ∙ seen_command round s f n k at e text (verdict_of c (server_of s) n text) (verdict_fits c s n k text at)
    seen_line round s f n k at e text (Some g) = refl

    seen_act : (round : ℕ) (s : SystemState) → Fits c s → (n : ℕ) (k : Terminal) → slice_get c.terminals n ≡ Some k → sees c to k ≡ true → (what : Typed)
        → bytes_on line (typed_at_terminal (purge_config c to) round (seen c to s) (seen_place c to n) k what).puts ≡ bytes_on line (typed_at_terminal c round s n k what).puts
    seen_act round s f n k at e Break = refl
    seen_act round s f n k at e (Line text) =
        ap (λ o. bytes_on line (lined (purge_config c to) round (seen c to s) (seen_place c to n) k text o).puts) (connection_seen c to s n (passes_row (terminal_kept c to) c.terminals n k at ∙ e))
        ∙ seen_line round s f n k at e text (slice_index_or s.connected n None)

    unseen_line : (round : ℕ) (s : SystemState) → Fits c s → (n : ℕ) (k : Terminal) → slice_get c.terminals n ≡ Some k → sees c to k ≡ false → (text : List ℕ) (o : Option ℕ) → bytes_on line (lined c round s n k text o).puts ≡ []
    unseen_line round s f n k at e text None = unseen_command round s f n k at e text (verdict_of c (server_of s) n text) (verdict_fits c s n k text at)
    unseen_line round s f n k at e text (Some g) = refl

    unseen_act : (round : ℕ) (s : SystemState) → Fits c s → (n : ℕ) (k : Terminal) → slice_get c.terminals n ≡ Some k → sees c to k ≡ false → (what : Typed) → bytes_on line (typed_at_terminal c round s n k what).puts ≡ []
    unseen_act round s f n k at e Break = off_said k.line line (hidden_line n k at e) server_text []
    unseen_act round s f n k at e (Line text) = unseen_line round s f n k at e text (slice_index_or s.connected n None)

    -- events
    seen_at_place : (round : ℕ) (s : SystemState) → Fits c s → (name : List ℕ) (o : Option ℕ) → place_of (is_named name) c.terminals ≡ o → Found (is_named name) c.terminals o → is_kept_at c to (find (is_named name) c.terminals) ≡ true → (what : Typed)
        → bytes_on line (at_place (purge_config c to) round (seen c to s) (place_of (is_named name) (filter (sees c to) c.terminals)) what).puts ≡ bytes_on line (at_place c round s o what).puts
    seen_at_place round s f name None q h e what = absurd (true≢false (sym e ∙ ap (is_kept_at c to) h))
    seen_at_place round s f name (Some n) q h e what =
        let k : Terminal = h.0 in
        let at : slice_get c.terminals n ≡ Some k = h.1 in
        let kept : sees c to k ≡ true = sym (ap (is_kept_at c to) h.2) ∙ e in
        let first : place_of (is_named name) (filter (sees c to) c.terminals) ≡ Some (rank (sees c to) c.terminals n) = first_kept (is_named name) (sees c to) k kept c.terminals n q at in
        let new : slice_get (filter (sees c to) c.terminals) (rank (sees c to) c.terminals n) ≡ Some k = get_kept (sees c to) k kept c.terminals n at in
        rw first (rw (at, new) (seen_act round s f n k at kept what))

    kept_bytes : (round : ℕ) (s : SystemState) → Fits c s → (e : Event) → is_kept_event c to e ≡ true → bytes_on line (happened (purge_config c to) round (seen c to s) e).puts ≡ bytes_on line (happened c round s e).puts
    kept_bytes round s f e h = seen_at_place round s f e.terminal (place_of (is_named e.terminal) c.terminals) refl (found (is_named e.terminal) c.terminals) h e.what

    unseen_at_place : (round : ℕ) (s : SystemState) → Fits c s → (name : List ℕ) (o : Option ℕ) → Found (is_named name) c.terminals o → is_kept_at c to (find (is_named name) c.terminals) ≡ false → (what : Typed)
        → bytes_on line (at_place c round s o what).puts ≡ []
    unseen_at_place round s f name None h e what = refl
    unseen_at_place round s f name (Some n) h e what =
        let at : slice_get c.terminals n ≡ Some h.0 = h.1 in
        rw at (unseen_act round s f n h.0 at (sym (ap (is_kept_at c to) h.2) ∙ e) what)

    dropped_bytes : (round : ℕ) (s : SystemState) → Fits c s → (e : Event) → is_kept_event c to e ≡ false → bytes_on line (happened c round s e).puts ≡ []
    dropped_bytes round s f e h = unseen_at_place round s f e.terminal (place_of (is_named e.terminal) c.terminals) (found (is_named e.terminal) c.terminals) h e.what

    pub events_bytes : (round : ℕ) (s : SystemState) → Fits c s → (es : List Event) → bytes_on line (events (purge_config c to) round (seen c to s) (purge_events c es to)).puts ≡ bytes_on line (events c round s es).puts
    events_bytes round s f [] = refl
    events_bytes round s f (e ∷ es) =
        let first : List Put = (happened c round s e).puts in
        let now : SystemState = (happened c round s e).now in
        let more : List Put = (events c round now es).puts in
        let rest = events_bytes round now (fits_happened c round s f e) es in
        let later : SystemState → List Put = λ t. (events (purge_config c to) round t (purge_events c es to)).puts in
        both (is_kept_event c to e)
        (λ k.
        let first' : List Put = (happened (purge_config c to) round (seen c to s) e).puts in
        let now' : SystemState = (happened (purge_config c to) round (seen c to s) e).now in
        let one = kept_bytes round s f e k in
        let beyond : bytes_on line (later now') ≡ bytes_on line more = ap (λ (t : SystemState). bytes_on line (later t)) (kept_now c to round s f e k) ∙ rest in
        rw k (bytes_append line first' (later now') ∙ (λ i. one i ++ beyond i) ∙ sym (bytes_append line first more)))
        (λ k.
        let none = dropped_bytes round s f e k in
        let beyond : bytes_on line (later (seen c to s)) ≡ bytes_on line more = ap (λ (t : SystemState). bytes_on line (later t)) (sym (dropped_now c to round s f e k)) ∙ rest in
        rw k (beyond ∙ sym (bytes_append line first more ∙ ap (λ (bytes : List ℕ). bytes ++ bytes_on line more) none)))
