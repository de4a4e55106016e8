-- The audit's line is shown the records of the commands, with the answers of a server that does what was granted.
use Rattle.std.proofs.Common.{◌≡◌, ℕ, zero, suc, ◌==◌, List, [], ◌∷◌, ◌++◌, true, false, refl, sym, ◌∙◌, ap, append_assoc, append-nil, Option, Some, None, slice_get, slice_set, slice_index_or}
use Rattle.std.proofs.lemmas.Bool.{eq-eqb}
use Rattle.sys_audit.specs.Audit.{audit_record}
use Rattle.vvmm_laws.proofs.Puts.{Each, Elsewhere, IsApart, all_elsewhere, before_elsewhere, after_elsewhere, elsewhere_append, nothing_on, turns_elsewhere}
use Rattle.sys_audit_check.specs.Audited.{Entry, audit_bytes, record_at, record_of, server_after_verdict, verdict_on}
use Rattle.vvmm_laws.specs.Entries.{entries_in, entries_over, entry_of, entry_of_line, entry_placed, entry_typed}
use Rattle.sys_audit_check.proofs.Mounts.{mounts_tell}
use Rattle.sys_audit_check.specs.Laws.{server_after}
use Rattle.sys_objects.specs.declared.records.Audit.{Audit}
use Rattle.sys_objects.specs.declared.records.Config.{Config}
use Rattle.sys_objects.specs.declared.records.Mount.{Mount as Mounted}
use Rattle.sys_objects.specs.declared.records.Terminal.{Terminal}
use Rattle.sys_state.proofs.Consoles.{bytes_append}
use Rattle.sys_state.specs.Events.{at_place, at_row, audit_puts, commanded, events, happened, is_named, lined, said_on}
use Rattle.sys_state.specs.Events as events_
use Rattle.sys_state.specs.Places.{beside_with, place_of}
use Rattle.sys_state.specs.Run.{events_of, round, rounds}
use Rattle.sys_state.specs.State.{Put, SystemState, Went, bytes_on, server_of}
use Rattle.sys_state.specs.Transfers.{all_served}
use Rattle.sys_state.specs.Turns.{turn, turn_puts}
use Rattle.sys_script.specs.declared.event.Event.{Event}
use Rattle.sys_script.specs.declared.event.Typed.{Typed}
use Rattle.sys_script.specs.declared.event.Typed.TheVariants.{Break, Line}
use Rattle.sys_server.specs.Apply.{applied, with_mount}
use Rattle.sys_server.specs.Replies.{reply_of}
use Rattle.sys_server.specs.Verdict.{verdict_of}
use Rattle.sys_server.specs.declared.command.Command.{Command}
use Rattle.sys_server.specs.declared.command.Command.TheVariants.{Connect, Start, Halt, MountAt, Dismount, Show}
use Rattle.sys_server.specs.declared.command.ServerState.{ServerState}
use Rattle.sys_server.specs.declared.command.Verdict.{Verdict}
use Rattle.sys_server.specs.declared.command.Verdict.TheVariants.{Granted, BadCommand, NoSuchObject, Denied}

-- of the state the mounts alone decide what is answered
same_answer : (c : Config) (s t : ServerState) (n : ℕ) (text : List ℕ) → s.mounts ≡ t.mounts → verdict_of c s n text ≡ verdict_of c t n text
same_answer c s t n text same = mounts_tell c s t n text (λ g unit there. ap (λ (ms : List (List (Option Mounted))). slice_index_or (slice_index_or ms g []) unit None) same)

audit_then : (c : Config) (s : ServerState) (xs ys : List Entry) → audit_bytes c s (xs ++ ys) ≡ audit_bytes c s xs ++ audit_bytes c (server_after c s xs) ys
audit_then c s [] ys = refl
audit_then c s (e ∷ xs) ys =
    let next : ServerState = server_after_verdict s e.terminal (verdict_on c s e) in
    ap (λ bytes. record_of c s e ++ bytes) (audit_then c next xs ys) ∙ sym (append_assoc (record_of c s e) (audit_bytes c next xs) (audit_bytes c (server_after c next xs) ys))

server_then : (c : Config) (s : ServerState) (xs ys : List Entry) → server_after c s (xs ++ ys) ≡ server_after c (server_after c s xs) ys
server_then c s [] ys = refl
server_then c s (e ∷ xs) ys = server_then c (server_after_verdict s e.terminal (verdict_on c s e)) xs ys

-- what was done shows the audit's line these records, and leaves the mounts that they leave
pub record Tracks (c : Config) (line : ℕ) (srv : ServerState) (es : List Entry) (w : Went SystemState) : Type 0 where
  pub bytes : bytes_on line w.puts ≡ audit_bytes c srv es
  pub mounts : (server_after c srv es).mounts ≡ w.now.mounts

-- one thing after another
tracks_then : (c : Config) (line : ℕ) (srv : ServerState) (xs ys : List Entry) (v w : Went SystemState) → Tracks c line srv xs v → Tracks c line (server_after c srv xs) ys w → Tracks c line srv (xs ++ ys) (record { now = w.now; puts = v.puts ++ w.puts })
tracks_then c line srv xs ys v w a b = record {
  bytes = bytes_append line v.puts w.puts ∙ (λ i. a.bytes i ++ b.bytes i) ∙ sym (audit_then c srv xs ys);
  mounts = ap (λ (x : ServerState). x.mounts) (server_then c srv xs ys) ∙ b.mounts;
}

-- what is shown elsewhere alone, and changes no mount
tracks_none : (c : Config) (line : ℕ) (srv : ServerState) (w : Went SystemState) → Elsewhere line w.puts → srv.mounts ≡ w.now.mounts → Tracks c line srv [] w
tracks_none c line srv w far same = record { bytes = nothing_on line w.puts far; mounts = same }

module _ (c : Config) (a : Audit) (audited : c.audit ≡ Some a) (apart : IsApart c a.line) where
  abbrev line : ℕ
  line = a.line

  verdict_mounts : (srv : ServerState) (s : SystemState) (n : ℕ) (t : Terminal) (v : Verdict) → srv.mounts ≡ s.mounts → (server_after_verdict srv n v).mounts ≡ (events_.after_verdict c s n t v).now.mounts
  unfolding applied
  verdict_mounts srv s n t (Granted (Connect g)) same = same
  verdict_mounts srv s n t (Granted (Start g)) same = same
  verdict_mounts srv s n t (Granted (Halt g)) same = same
  verdict_mounts srv s n t (Granted (MountAt g unit mount)) same = ap (λ ms. with_mount ms g unit (Some mount)) same
  verdict_mounts srv s n t (Granted (Dismount g unit)) same = ap (λ ms. with_mount ms g unit None) same
  verdict_mounts srv s n t (Granted Show) same = same
  verdict_mounts srv s n t BadCommand same = same
  verdict_mounts srv s n t NoSuchObject same = same
  verdict_mounts srv s n t (Denied rule) same = same

  -- the audit's own put
  own_put : (i : ℕ) (t : Terminal) (text : List ℕ) (v : Verdict) → bytes_on line (audit_puts c.audit i t text v) ≡ audit_record i t text v
  own_put i t text v =
      let here : (a.line == a.line) ≡ true = eq-eqb a.line a.line refl in
      ap (λ (o : Option Audit). bytes_on line (audit_puts o i t text v)) audited ∙ rw here (append-nil (audit_record i t text v))

  commanded_tracks : (i : ℕ) (srv : ServerState) (s : SystemState) (n : ℕ) (t : Terminal) (text : List ℕ) (v : Verdict) → srv.mounts ≡ s.mounts → slice_get c.terminals n ≡ Some t → (t.line == line) ≡ false → verdict_of c srv n text ≡ v
      → Tracks c line srv (record { round = i; terminal = n; text = text } ∷ []) (commanded c i s n t text v)
  commanded_tracks i srv s n t text v same at far is =
      let before : List Put = (events_.after_verdict c s n t v).before in
      let later : List Put = said_on t.line (reply_of v) ∷ (events_.after_verdict c s n t v).later in
      let none : Elsewhere line (before ++ later) = elsewhere_append line before later (before_elsewhere line c apart s n t v far) (far, after_elsewhere line c apart s n t v) in
      let shown : bytes_on line ((before ++ later) ++ audit_puts c.audit i t text v) ≡ audit_record i t text v =
      bytes_append line (before ++ later) (audit_puts c.audit i t text v) ∙ (λ j. nothing_on line (before ++ later) none j ++ own_put i t text v j) in
      let recorded : record_at i (slice_get c.terminals n) text (verdict_of c srv n text) ++ [] ≡ audit_record i t text v =
      append-nil (record_at i (slice_get c.terminals n) text (verdict_of c srv n text)) ∙ (λ j. record_at i (at j) text (is j)) in
      record {
        bytes = shown ∙ sym recorded;
        mounts = ap (λ x. (server_after_verdict srv n x).mounts) is ∙ verdict_mounts srv s n t v same;
      }

  lined_tracks : (i : ℕ) (srv : ServerState) (s : SystemState) (n : ℕ) (t : Terminal) (text : List ℕ) (o : Option ℕ) → srv.mounts ≡ s.mounts → slice_get c.terminals n ≡ Some t → (t.line == line) ≡ false → Tracks c line srv (entry_of_line i n text o) (lined c i s n t text o)
  lined_tracks i srv s n t text (Some g) same at far = tracks_none c line srv _ tt same
  lined_tracks i srv s n t text None same at far = commanded_tracks i srv s n t text (verdict_of c (server_of s) n text) same at far (same_answer c srv (server_of s) n text same)

  abbrev FarTerminal : Option Terminal → Type 0
  FarTerminal None = Unit {0}
  FarTerminal (Some t) = (t.line == line) ≡ false

  far_at : (ts : List Terminal) (n : ℕ) → Each (λ t. (t.line == line) ≡ false) ts → FarTerminal (slice_get ts n)
  far_at [] n h = tt
  far_at (t ∷ ts) zero h = h.0
  far_at (t ∷ ts) (suc n) h = far_at ts n h.1

  row_tracks : (i : ℕ) (srv : ServerState) (s : SystemState) (n : ℕ) (o : Option Terminal) (what : Typed) → srv.mounts ≡ s.mounts → slice_get c.terminals n ≡ o → FarTerminal o → Tracks c line srv (entry_typed i s n o what) (at_row c i s n o what)
  row_tracks i srv s n None what same at far = tracks_none c line srv _ tt same
  row_tracks i srv s n (Some t) Break same at far = tracks_none c line srv _ (far, tt) same
  row_tracks i srv s n (Some t) (Line text) same at far = lined_tracks i srv s n t text (slice_index_or s.connected n None) same at far

  place_tracks : (i : ℕ) (srv : ServerState) (s : SystemState) (o : Option ℕ) (what : Typed) → srv.mounts ≡ s.mounts → Tracks c line srv (entry_placed c i s o what) (at_place c i s o what)
  place_tracks i srv s None what same = tracks_none c line srv _ tt same
  place_tracks i srv s (Some n) what same = row_tracks i srv s n (slice_get c.terminals n) what same refl (far_at c.terminals n apart.terminals)

  events_track : (i : ℕ) (srv : ServerState) (s : SystemState) (es : List Event) → srv.mounts ≡ s.mounts → Tracks c line srv (entries_in c i s es) (events c i s es)
  events_track i srv s [] same = tracks_none c line srv _ tt same
  events_track i srv s (e ∷ es) same =
      let own : List Entry = entry_of c i s e in
      let first : Tracks c line srv own (happened c i s e) = place_tracks i srv s (place_of (is_named e.terminal) c.terminals) e.what same in
      tracks_then c line srv own (entries_in c i (happened c i s e).now es) (happened c i s e) (events c i (happened c i s e).now es) first
      (events_track i (server_after c srv own) (happened c i s e).now es first.mounts)

  round_tracks : (i : ℕ) (srv : ServerState) (s : SystemState) (es : List Event) → srv.mounts ≡ s.mounts → Tracks c line srv (entries_in c i s (events_of i es)) (round c i es s)
  round_tracks i srv s es same =
      let begun : Went SystemState = events c i s (events_of i es) in
      let a : Tracks c line srv (entries_in c i s (events_of i es)) begun = events_track i srv s (events_of i es) same in
      let turned : List Put = turn_puts c.terminals begun.now.connected 0 c.guests begun.now.guests in
      let gs = beside_with turn c.guests begun.now.guests in
      let ended : List Put = (all_served c c.guests begun.now.mounts gs begun.now.volumes).puts in
      let none : bytes_on line turned ≡ [] = nothing_on line turned (turns_elsewhere line c apart begun.now.connected 0 c.guests begun.now.guests) in
      let last : bytes_on line ended ≡ [] = nothing_on line ended (all_elsewhere line c apart c.guests begun.now.mounts gs begun.now.volumes) in
      record {
        bytes =
            bytes_append line (begun.puts ++ turned) ended ∙ (λ j. bytes_append line begun.puts turned j ++ last j) ∙ append-nil (bytes_on line begun.puts ++ bytes_on line turned)
            ∙ (λ j. bytes_on line begun.puts ++ none j) ∙ append-nil (bytes_on line begun.puts) ∙ a.bytes;
        mounts = a.mounts;
      }

  pub rounds_track : (i n : ℕ) (srv : ServerState) (s : SystemState) (es : List Event) → srv.mounts ≡ s.mounts → Tracks c line srv (entries_over c i n es s) (rounds c i n es s)
  rounds_track i zero srv s es same = tracks_none c line srv _ tt same
  rounds_track i (suc n) srv s es same =
      let own : List Entry = entries_in c i s (events_of i es) in
      let first : Tracks c line srv own (round c i es s) = round_tracks i srv s es same in
      tracks_then c line srv own (entries_over c (suc i) n es (round c i es s).now) (round c i es s) (rounds c (suc i) n es (round c i es s).now) first
      (rounds_track (suc i) n (server_after c srv own) (round c i es s).now es first.mounts)
