-- What a printer's line is shown of a job.
use Rattle.std.proofs.Common.{Bool, ◌≡◌, ℕ, ◌<◌, ◌==◌, List, [], ◌∷◌, slice_index_or, All, Option, Some, None, option_map, refl, ap, ◌∙◌, sym, subst, arith, append-nil}
use Rattle.std.specs.Prelude.{IfSome, slice_get}
use Rattle.std.proofs.lemmas.Option.{get_or_from_slice_get, slice_get_within}
use Rattle.vv_io.specs.Lines.{Seen}
use Rattle.sys_devices.proofs.Showings.{shows_none, shows_same}
use Rattle.sys_devices.specs.Shows.{Shows, only_on}
use Rattle.sys_objects.specs.Condition.{IsPrinter}
use Rattle.sys_objects.specs.declared.records.Config.{Config}
use Rattle.sys_objects.specs.declared.records.PrinterRow.{PrinterRow}
use Rattle.sys_state.proofs.Places.{both}
use Rattle.sys_state.specs.State.{bytes_on}
use Rattle.sys_state.specs.Transfers.{printer_of}
use Rattle.sys_transfers.specs.Serves.{job_on}

-- the line of a printer
abbrev pub line_of : Option PrinterRow → Option ℕ
line_of printer = option_map (λ q. q.line) printer

-- bytes for one line
one_put : (line k : ℕ) (text : List ℕ) → only_on (Some line) text k ≡ bytes_on k (record { line = line; bytes = text } ∷ [])
one_put line k text = both (line == k) (λ e. rw e (sym (append-nil text))) (λ e. rw e refl)

text_shown : (printer : Option PrinterRow) (text : List ℕ) (k : ℕ) → only_on (line_of printer) text k ≡ bytes_on k (job_on printer (Some text))
text_shown None text k = refl
text_shown (Some q) text k = one_put q.line k text

-- a printer's line is shown a job
pub job_shown : {a b : List Bool} {l m : List Seen} (printer : Option PrinterRow) (line : Option ℕ) (text bytes : List ℕ) (job : Option (List ℕ)) → line ≡ line_of printer → bytes ≡ text → job ≡ Some text → Shows a b l m (only_on line bytes) → Shows a b l m (λ k. bytes_on k (job_on printer job))
job_shown {a} {b} {l} {m} printer line text bytes job at is has shown = shows_same a b l m (only_on line bytes) (λ k. bytes_on k (job_on printer job)) (λ k. (λ i. only_on (at i) (is i) k) ∙ text_shown printer text k ∙ ap (λ (o : Option (List ℕ)). bytes_on k (job_on printer o)) (sym has)) shown

pub nothing_shown : (marks : List Bool) (lines : List Seen) (printer : Option PrinterRow) (job : Option (List ℕ)) → job ≡ None → Shows marks marks lines lines (λ k. bytes_on k (job_on printer job))
nothing_shown marks lines printer job none = shows_same marks marks lines lines (λ k. []) (λ k. bytes_on k (job_on printer job)) (λ k. ap (λ (o : Option (List ℕ)). bytes_on k (job_on printer o)) (sym none)) (shows_none marks lines)

pub shown_there : {a b : List Bool} {l m : List Seen} (place : Option ℕ) (line : ℕ) (bytes : List ℕ) → place ≡ Some line → Shows a b l m (only_on (Some line) bytes) → Shows a b l m (only_on place bytes)
shown_there {a} {b} {l} {m} place line bytes is shown = subst (λ (o : Option ℕ). Shows a b l m (only_on o bytes)) (sym is) shown

pub shown_nowhere : (marks : List Bool) (lines : List Seen) (place : Option ℕ) (bytes : List ℕ) → place ≡ None → Shows marks marks lines lines (only_on place bytes)
shown_nowhere marks lines place bytes none = subst (λ (o : Option ℕ). Shows marks marks lines lines (only_on o bytes)) (sym none) (shows_none marks lines)

-- a printer's line is one of 32
pub small_line : (c : Config) (printer : Option ℕ) → All IsPrinter c.printers → IfSome (line_of (printer_of c printer)) (λ line. line < 32)
small_line c None all = tt
small_line c (Some n) all = by (slice_get c.printers n) (λ q e. place n q e)
  where
    place : (n : ℕ) (q : PrinterRow) → slice_get c.printers n ≡ Some q → q.line < 32
    place n q e =
        let is : slice_index_or c.printers n q ≡ q = get_or_from_slice_get c.printers n q q e in
        let one : IsPrinter q = subst IsPrinter is (all n q (slice_get_within c.printers n q e)) in
        omega (arith, one.line)

    by : (o : Option PrinterRow) → ((q : PrinterRow) → o ≡ Some q → q.line < 32) → IfSome (line_of o) (λ line. line < 32)
    by None h = tt
    by (Some q) h = h q refl
