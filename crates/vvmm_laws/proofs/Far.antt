-- What edges say of a closed set, the set called far.
use Rattle.std.proofs.Common.{◌≡◌, ℕ, List, Bool, true, false, refl, sym, ap, ◌∙◌, Option, Some, None, slice_get, true≢false}
use Rattle.std.proofs.lemmas.Bool.{eq-eqb}
use Rattle.vv_class.specs.Class.{does_flow}
use Rattle.vv_class.specs.declared.class.AccessClass.{AccessClass}
use Rattle.sys_flow.specs.Reach.{IsGuestAt, IsPrinterAt, IsTerminalAt, IsTheAudit, IsVolumeAt, ObjectPlace, is_read_by, written_by}
use Rattle.vvmm_laws.specs.Reach.{IsClosed}
use Rattle.sys_objects.specs.Rules.{same_class}
use Rattle.sys_objects.specs.declared.records.Audit.{Audit}
use Rattle.sys_objects.specs.declared.records.Config.{Config}
use Rattle.sys_objects.specs.declared.records.GuestRow.{GuestRow}
use Rattle.sys_objects.specs.declared.records.Mount.{Mount}
use Rattle.sys_objects.specs.declared.records.PrinterRow.{PrinterRow}
use Rattle.sys_objects.specs.declared.records.Terminal.{Terminal}
use Rattle.sys_purge.proofs.Accepted.{same_itself}
use Rattle.sys_purge.proofs.Devices.{flows_itself}
use Rattle.sys_purge.proofs.Fits.{Each, Holds}
use Rattle.sys_purge.proofs.Kept.{both}

module _ (c : Config) (far : ObjectPlace → Bool) where
  abbrev pub far_terminal : ℕ → Bool
  far_terminal n = far (IsTerminalAt n)

  abbrev pub far_guest : ℕ → Bool
  far_guest g = far (IsGuestAt g)

  abbrev pub far_volume : ℕ → Bool
  far_volume v = far (IsVolumeAt v)

  abbrev pub far_printer : ℕ → Bool
  far_printer p = far (IsPrinterAt p)

  -- a mount by which its volume has an edge to the guest, and the guest one to it where it writes
  abbrev pub MountLeads : GuestRow → Option Mount → Type 0
  MountLeads row None = Unit {0}
  MountLeads row (Some m) = (is_read_by c m.volume (slice_get c.volumes m.volume) (Some row) ≡ true) × (m.write ≡ true → written_by c m.volume (Some row) (slice_get c.volumes m.volume) ≡ true)

  abbrev pub MountsLead : GuestRow → List (Option Mount) → Type 0
  MountsLead row ms = Each (MountLeads row) ms

  module _ (closed : IsClosed c far) where
    -- what flows into a far terminal is far
    pub shown_far : (g : ℕ) (row : GuestRow) → slice_get c.guests g ≡ Some row → (n : ℕ) (k : Terminal) → slice_get c.terminals n ≡ Some k → does_flow row.class k.class ≡ true → far_terminal n ≡ true → far_guest g ≡ true
    shown_far g row at_g n k at_n flow f = closed (IsGuestAt g) (IsTerminalAt n) (rw (at_g, at_n) flow) f

    -- a guest and a terminal of one class are both far, or neither is
    pub alike_far : (g : ℕ) (row : GuestRow) → slice_get c.guests g ≡ Some row → (n : ℕ) (k : Terminal) → slice_get c.terminals n ≡ Some k → row.class ≡ k.class → far_guest g ≡ far_terminal n
    alike_far g row at_g n k at_n e =
        let flow : does_flow row.class k.class ≡ true = ap (λ (d : AccessClass). does_flow row.class d) (sym e) ∙ flows_itself row.class in
        let same : same_class row.class k.class ≡ true = ap (λ (d : AccessClass). same_class row.class d) (sym e) ∙ same_itself row.class in
        both (far_terminal n)
        (λ f. shown_far g row at_g n k at_n flow f ∙ sym f)
        (λ f. both (far_guest g)
        (λ h. absurd (true≢false (sym (closed (IsTerminalAt n) (IsGuestAt g) (rw (at_n, at_g) same) h) ∙ f)))
        (λ h. h ∙ sym f))

    pub holds_far : (n : ℕ) (k : Terminal) → slice_get c.terminals n ≡ Some k → (g : ℕ) → Holds c k.class g → far_guest g ≡ far_terminal n
    holds_far n k at g h = alike_far g h.0 h.1 n k at h.2

    -- a far guest's volumes are far
    pub mounted_far : (g : ℕ) (row : GuestRow) → slice_get c.guests g ≡ Some row → (m : Mount) → MountLeads row (Some m) → far_guest g ≡ true → far_volume m.volume ≡ true
    mounted_far g row at m h f = closed (IsVolumeAt m.volume) (IsGuestAt g) (rw at h.0) f

    -- what a guest that isn't far writes isn't far
    pub written_near : (g : ℕ) (row : GuestRow) → slice_get c.guests g ≡ Some row → (m : Mount) → MountLeads row (Some m) → m.write ≡ true → far_guest g ≡ false → far_volume m.volume ≡ false
    written_near g row at m h w n = both (far_volume m.volume)
        (λ f. absurd (true≢false (sym (closed (IsGuestAt g) (IsVolumeAt m.volume) (rw at (h.1 w)) f) ∙ n)))
        (λ f. f)

    -- nor is its printer
    pub printer_near : (g : ℕ) (row : GuestRow) → slice_get c.guests g ≡ Some row → (p : ℕ) → row.printer ≡ Some p → far_guest g ≡ false → far_printer p ≡ false
    printer_near g row at p e n = both (far_printer p)
        (λ f. absurd (true≢false (sym (closed (IsGuestAt g) (IsPrinterAt p) (let s = eq-eqb p p refl in rw (at, e) s) f) ∙ n)))
        (λ f. f)

    -- an audit is near where a terminal is
    pub audit_near : (n : ℕ) → far_terminal n ≡ false → far IsTheAudit ≡ false
    audit_near n e = both (far IsTheAudit) (λ f. absurd (true≢false (sym (closed (IsTerminalAt n) IsTheAudit refl f) ∙ e))) (λ f. f)

  -- a line on which far objects alone are
  pub record IsFarLine (line : ℕ) : Type 0 where
    pub terminals : (n : ℕ) (k : Terminal) → slice_get c.terminals n ≡ Some k → k.line ≡ line → far_terminal n ≡ true
    pub printers : (p : ℕ) (q : PrinterRow) → slice_get c.printers p ≡ Some q → q.line ≡ line → far_printer p ≡ true
    pub audit : (a : Audit) → c.audit ≡ Some a → a.line ≡ line → far IsTheAudit ≡ true
    pub dumps : (g : ℕ) (row : GuestRow) → slice_get c.guests g ≡ Some row → row.dump ≡ Some line → far_guest g ≡ true
