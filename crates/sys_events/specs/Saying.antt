-- What is put on lines while a command is answered.
use Rattle.std.specs.Prelude.{ℕ, List, [], ◌∷◌, ◌++◌, codes, map, Bool, not, is_some, Option, Some, None, slice_get, if◌then◌else◌}
use Rattle.vv_class.specs.declared.class.AccessClass.{AccessClass}
use Rattle.vv_class.specs.Class.{does_flow}
use Rattle.sys_devices.specs.Shows.{Shows}
use Rattle.sys_objects.specs.declared.records.Config.{Config}
use Rattle.sys_objects.specs.declared.records.GuestRow.{GuestRow}
use Rattle.sys_objects.specs.declared.records.Terminal.{Terminal}
use Rattle.sys_state.specs.Events.{audit_puts, said_on}
use Rattle.sys_state.specs.State.{Put, bytes_on}
use Rattle.sys_server.specs.Replies.{with_line_end, object_text, reply_of, running_text, shown_lines, taken_text}
use Rattle.sys_server.specs.declared.command.Verdict.{Verdict}
use Rattle.vm_guest.specs.Kept.{Kept}
use Rattle.vv_io.specs.Lines.{Seen}

-- a text, in one put
abbrev pub one_put : ℕ → List ℕ → List Put
one_put line text = record { line = line; bytes = text } ∷ []

-- texts, in one put each
abbrev pub puts_on : ℕ → List (List ℕ) → List Put
puts_on line texts = map (λ text. record { line = line; bytes = text }) texts

abbrev pub ShowsTexts : (marks marks' : List Bool) (lines lines' : List Seen) (line : ℕ) (texts : List (List ℕ)) → Type 0
ShowsTexts marks marks' lines lines' line texts = Shows marks marks' lines lines' (λ k. bytes_on k (puts_on line texts))

abbrev pub runs : Kept → Bool
runs k = not (is_some k.state.halt)

-- SHOW's line of a guest, if the class sees it
abbrev pub guest_text : GuestRow → Bool → List ℕ
guest_text row is_running = with_line_end (object_text (codes "VM") row.name row.class ++ running_text is_running)

abbrev pub guest_line : AccessClass → GuestRow → Bool → List (List ℕ)
guest_line class row is_running = if does_flow row.class class then guest_text row is_running ∷ [] else []

-- SHOW's lines at a terminal
abbrev pub show_lines : Config → List Kept → Option Terminal → List Put
show_lines c ks None = []
show_lines c ks (Some t) = puts_on t.line (shown_lines c (record { at = []; mounts = []; running = map runs ks }) t.class)

-- a terminal whose console was taken gets a notice
abbrev pub taken_notice : Option Terminal → List Put
taken_notice None = []
taken_notice (Some k) = said_on k.line taken_text ∷ []

abbrev pub taken_puts : Config → Option ℕ → List Put
taken_puts c None = []
taken_puts c (Some k) = taken_notice (slice_get c.terminals k)

-- the reply at a terminal, and the notice at the one whose console was taken
abbrev pub answers : Config → Option Terminal → Verdict → Option ℕ → List Put
answers c None v taken = []
answers c (Some t) v taken = said_on t.line (reply_of v) ∷ taken_puts c taken

-- the audit of a command at a terminal
abbrev pub audits : Config → ℕ → Option Terminal → List ℕ → Verdict → List Put
audits c round None text v = []
audits c round (Some t) text v = audit_puts c.audit round t text v
