-- What an audit says of its first lines, and of a record that says OK.
use Rattle.std.proofs.Common.{◌≡◌, ℕ, zero, suc, List, [], ◌∷◌, ◌++◌, Option, Some, None, All, refl, sym, ◌∙◌, ap, subst, append_assoc, slice_get}
use Rattle.std.proofs.lemmas.List.Elements.{All-head, All-tail}
use Rattle.sys_audit.specs.Audit.{audit_record}
use Rattle.sys_audit_check.proofs.Reaching.{no_record, none_from, one_less, one_more}
use Rattle.sys_audit_check.proofs.Records.{audit_is_line, audit_is_read, granted_by_text, record_is_line, record_is_read}
use Rattle.sys_audit_check.specs.Audited.{AuditedFrom, Entry, EntryRoundsNeverFall, IsEntry, audit_bytes, opening_server, record_at, record_of, server_after_entry, verdict_on}
use Rattle.sys_audit_check.specs.Laws.{AuditsFronts, IsGranted, OkIsGranted, server_after}
use Rattle.sys_audit_check.specs.Lines.{first_line, through}
use Rattle.sys_audit_check.specs.Reading.{entry_in}
use Rattle.sys_objects.specs.Condition.{IsConfig}
use Rattle.sys_objects.specs.declared.records.Config.{Config}
use Rattle.sys_objects.specs.declared.records.Terminal.{Terminal}
use Rattle.sys_server.specs.declared.command.Command.{Command}
use Rattle.sys_server.specs.declared.command.ServerState.{ServerState}
use Rattle.sys_server.specs.declared.command.Verdict.TheVariants.{Granted}

through_none : (k : ℕ) → through k [] ≡ []
through_none zero = refl
through_none (suc k) = through_none k

module _ (c : Config) (is : IsConfig c) where
  front_from : (k : ℕ) (s : ServerState) (from : ℕ) (bytes : List ℕ) (es : List Entry) → All (IsEntry c) es → EntryRoundsNeverFall from es → bytes ≡ audit_bytes c s es → AuditedFrom c s from (through k bytes)
  front_from zero s from bytes es each order same = none_from c s from
  front_from (suc k) s from bytes [] each order same =
      let none : through (suc k) bytes ≡ [] = ap (through (suc k)) same ∙ through_none (suc k) in
      subst (λ xs. AuditedFrom c s from xs) (sym none) (none_from c s from)
  front_from (suc k) s from bytes (e ∷ es) each order same =
      let fits : IsEntry c e = All-head (IsEntry c) e es each in
      let more : List ℕ = audit_bytes c (server_after_entry c s e) es in
      let cut = record_is_line c s e is fits more in
      let here : through (suc k) bytes ≡ record_of c s e ++ through k more = ap (through (suc k)) same ∙ (λ i. cut.0 i ++ through k (cut.1 i)) in
      subst (λ xs. AuditedFrom c s from xs) (sym here)
      (one_more c s from e (through k more) fits order.0 (front_from k (server_after_entry c s e) e.round more es (All-tail (IsEntry c) e es each) order.1 refl))

  -- after the records of some commands come those of others
  after_all : (s : ServerState) (from : ℕ) (before : List Entry) (bytes : List ℕ) → All (IsEntry c) before → AuditedFrom c s from (audit_bytes c s before ++ bytes) → (r : ℕ) × AuditedFrom c (server_after c s before) r bytes
  after_all s from [] bytes each all = (from, all)
  after_all s from (e ∷ es) bytes each all =
      let here : AuditedFrom c s from (record_of c s e ++ (audit_bytes c (server_after_entry c s e) es ++ bytes)) =
      subst (λ xs. AuditedFrom c s from xs) (append_assoc (record_of c s e) (audit_bytes c (server_after_entry c s e) es) bytes) all in
      after_all (server_after_entry c s e) e.round es bytes (All-tail (IsEntry c) e es each) (one_less c is s from e (audit_bytes c (server_after_entry c s e) es ++ bytes) (All-head (IsEntry c) e es each) here)

  granted_first : (s : ServerState) (from : ℕ) (e : Entry) (t : Terminal) (command : Command) (rest : List ℕ) → IsEntry c e → slice_get c.terminals e.terminal ≡ Some t
      → (es : List Entry) → All (IsEntry c) es → audit_record e.round t e.text (Granted command) ++ rest ≡ audit_bytes c s es → IsGranted (verdict_on c s e)
  granted_first s from e t command rest fits at [] each same =
      let line = (audit_is_line c is e.terminal t e.round e.text (Granted command) at fits.few fits.printed rest).0 in
      let none : audit_record e.round t e.text (Granted command) ≡ [] = sym line ∙ ap first_line same in
      let no : Some e ≡ None = sym (audit_is_read c is e.terminal t e.round e.text (Granted command) at fits.some fits.few) ∙ ap (entry_in c) none ∙ no_record c in
      cc
  granted_first s from e t command rest fits at (f ∷ fs) each same =
      let fits' : IsEntry c f = All-head (IsEntry c) f fs each in
      let line = (audit_is_line c is e.terminal t e.round e.text (Granted command) at fits.few fits.printed rest).0 in
      let own : audit_record e.round t e.text (Granted command) ≡ record_of c s f = sym line ∙ ap first_line same ∙ (record_is_line c s f is fits' (audit_bytes c (server_after_entry c s f) fs)).0 in
      let read : Some e ≡ Some f = sym (audit_is_read c is e.terminal t e.round e.text (Granted command) at fits.some fits.few) ∙ ap (entry_in c) own ∙ record_is_read c s f is fits' in
      let e_is : f ≡ e = cc in
      let here : audit_record e.round t e.text (Granted command) ≡ audit_record e.round t e.text (verdict_on c s e) =
      own ∙ ap (record_of c s) e_is ∙ ap (λ (o : Option Terminal). record_at e.round o e.text (verdict_on c s e)) at in
      granted_by_text e.round t e.text command (verdict_on c s e) here

pub audits_fronts : AuditsFronts
audits_fronts c bytes k is all = front_from c is k (opening_server c) 1 bytes all.entries all.each all.order all.is

pub ok_is_granted : OkIsGranted
ok_is_granted c before e t command rest is each fits at all =
    let left = after_all c is (opening_server c) 1 before (audit_record e.round t e.text (Granted command) ++ rest) each all in
    granted_first c is (server_after c (opening_server c) before) left.0 e t command rest fits at left.1.entries left.1.each left.1.is
