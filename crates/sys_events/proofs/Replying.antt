-- Replies, audits and SHOW at a terminal that exists.
use Rattle.std.proofs.Common.{ℕ, ◌≡◌, ◌<◌, ◌≤◌, List, [], ◌∷◌, ◌++◌, length, map, slice_get, refl, sym, ◌∙◌, ap, arith, Bool, Option, Some, None}
use Rattle.std.specs.Prelude.{All, filter}
use Rattle.vv_class.specs.Class.{does_flow}
use Rattle.vv_io.specs.Lines.{Seen}
use Rattle.vm_guest.specs.Kept.{Kept}
use Rattle.sys_events.proofs.Lists.{get_past, all_get}
use Rattle.sys_events.proofs.Telling.{parts, told_then}
use Rattle.sys_events.specs.Saying.{answers, audits, one_put, puts_on, runs, show_lines, taken_puts, taken_notice}
use Rattle.sys_devices.proofs.Showings.{shows_none, shows_same}
use Rattle.sys_devices.specs.Shows.{Shows, only_on}
use Rattle.sys_objects.specs.Condition.{IsTerminal}
use Rattle.sys_objects.specs.declared.records.Audit.{Audit}
use Rattle.sys_objects.specs.declared.records.Config.{Config}
use Rattle.sys_objects.specs.declared.records.GuestRow.{GuestRow}
use Rattle.sys_objects.specs.declared.records.PrinterRow.{PrinterRow}
use Rattle.sys_objects.specs.declared.records.Terminal.{Terminal}
use Rattle.sys_objects.specs.declared.records.VolumeRow.{VolumeRow}
use Rattle.sys_events.proofs.Telling.{one_told}
use Rattle.sys_audit.specs.Audit.{audit_record}
use Rattle.sys_state.specs.Events.{audit_puts, said_on}
use Rattle.sys_state.specs.State.{Put, bytes_on}
use Rattle.sys_server.specs.Replies.{guest_lines, printer_line, reply_of, taken_text, volume_line}
use Rattle.sys_server.specs.declared.command.Verdict.{Verdict}

-- the same puts, in another form
pub same_puts : (marks marks' : List Bool) (l l' : List Seen) (p q : List Put) → p ≡ q → Shows marks marks' l l' (λ k. bytes_on k p) → Shows marks marks' l l' (λ k. bytes_on k q)
same_puts marks marks' l l' p q e shows = shows_same marks marks' l l' (λ k. bytes_on k p) (λ k. bytes_on k q) (λ k. ap (λ (ps : List Put). bytes_on k ps) e) shows

pub no_puts : (marks : List Bool) (l : List Seen) (p : List Put) → p ≡ [] → Shows marks marks l l (λ k. bytes_on k p)
no_puts marks l p e = same_puts marks marks l l [] p (sym e) (shows_none marks l)

-- a terminal's line
pub line_of : (ks : List Terminal) (n : ℕ) (t : Terminal) → All IsTerminal ks → slice_get ks n ≡ Some t → t.line < 32
line_of ks n t all is = let one = all_get IsTerminal ks n t all is in omega (arith, one.line)

-- whose console is taken
pub taken_past : (c : Config) (o : Option ℕ) (k : ℕ) → o ≡ Some k → length c.terminals ≤ k → taken_puts c o ≡ []
taken_past c o k e past = ap (taken_puts c) e ∙ ap taken_notice (get_past c.terminals k past)

pub taken_there : (c : Config) (o : Option ℕ) (k : ℕ) (t : Terminal) → o ≡ Some k → slice_get c.terminals k ≡ Some t → said_on t.line taken_text ∷ [] ≡ taken_puts c o
taken_there c o k t e is = sym (ap (taken_puts c) e ∙ ap taken_notice is)

-- a reply, and then the notice at another terminal
pub answered : (a b c : List Bool) (l m n : List Seen) (config : Config) (place : ℕ) (t : Terminal) (v : Verdict) (taken : Option ℕ) (text : List ℕ) → slice_get config.terminals place ≡ Some t → text ≡ reply_of v
    → Shows a b l m (λ k. bytes_on k (said_on t.line text ∷ [])) → Shows b c m n (λ k. bytes_on k (taken_puts config taken)) → Shows a c l n (λ k. bytes_on k (answers config (slice_get config.terminals place) v taken))
answered a b c l m n config place t v taken text is same first second =
    told_then a b c l m n (said_on t.line text ∷ []) (taken_puts config taken) (answers config (slice_get config.terminals place) v taken)
    (ap (λ (xs : List ℕ). said_on t.line xs ∷ taken_puts config taken) same ∙ ap (λ (o : Option Terminal). answers config o v taken) (sym is)) first second

-- an audit
pub audited : (a b : List Bool) (l m : List Seen) (config : Config) (round place : ℕ) (t : Terminal) (text : List ℕ) (v : Verdict) (audit : Audit) (bytes : List ℕ) → slice_get config.terminals place ≡ Some t → config.audit ≡ Some audit → bytes ≡ audit_record round t text v
    → Shows a b l m (only_on (Some audit.line) bytes) → Shows a b l m (λ k. bytes_on k (audits config round (slice_get config.terminals place) text v))
audited a b l m config round place t text v audit bytes is has same shows =
    same_puts a b l m (one_put audit.line (audit_record round t text v)) (audits config round (slice_get config.terminals place) text v)
    (ap (λ (o : Option Audit). audit_puts o round t text v) (sym has) ∙ ap (λ (o : Option Terminal). audits config round o text v) (sym is))
    (one_told a b l m audit.line bytes (audit_record round t text v) same shows)

pub not_audited : (a : List Bool) (l : List Seen) (config : Config) (round place : ℕ) (t : Terminal) (text : List ℕ) (v : Verdict) → slice_get config.terminals place ≡ Some t → config.audit ≡ None → Shows a a l l (λ k. bytes_on k (audits config round (slice_get config.terminals place) text v))
not_audited a l config round place t text v is none =
    no_puts a l (audits config round (slice_get config.terminals place) text v) (ap (λ (o : Option Terminal). audits config round o text v) is ∙ ap (λ (o : Option Audit). audit_puts o round t text v) none)

-- the objects that a terminal sees
pub objects_shown : (a b c d : List Bool) (l m n o : List Seen) (config : Config) (ks : List Kept) (gs : List GuestRow) (vs : List VolumeRow) (ps : List PrinterRow) (place : ℕ) (t : Terminal) → slice_get config.terminals place ≡ Some t → gs ≡ config.guests → vs ≡ config.volumes → ps ≡ config.printers
    → Shows a b l m (λ k. bytes_on k (puts_on t.line (guest_lines t.class gs (map runs ks))))
    → Shows b c m n (λ k. bytes_on k (puts_on t.line (map volume_line (filter (λ v. does_flow v.class t.class) vs))))
    → Shows c d n o (λ k. bytes_on k (puts_on t.line (map printer_line (filter (λ p. does_flow p.class t.class) ps))))
    → Shows a d l o (λ k. bytes_on k (show_lines config ks (slice_get config.terminals place)))
objects_shown a b c d l m n o config ks gs vs ps place t is guests_is volumes_is printers_is first second third =
    let guests = guest_lines t.class gs (map runs ks) in
    let volumes = map volume_line (filter (λ v. does_flow v.class t.class) vs) in
    let printers = map printer_line (filter (λ p. does_flow p.class t.class) ps) in
    told_then a c d l n o (puts_on t.line guests ++ puts_on t.line volumes) (puts_on t.line printers) (show_lines config ks (slice_get config.terminals place))
    (parts t.line guests volumes printers
    ∙ (λ i. puts_on t.line (guest_lines t.class (guests_is i) (map runs ks) ++ map volume_line (filter (λ v. does_flow v.class t.class) (volumes_is i)) ++ map printer_line (filter (λ p. does_flow p.class t.class) (printers_is i))))
    ∙ ap (λ (r : Option Terminal). show_lines config ks r) (sym is))
    (told_then a b c l m n (puts_on t.line guests) (puts_on t.line volumes) (puts_on t.line guests ++ puts_on t.line volumes) refl first second) third
