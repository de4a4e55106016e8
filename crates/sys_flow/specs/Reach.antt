-- Which object's inputs may reach which object: by terminals, mounts, printers and the audit. Objects are numbered
-- in the order terminals, volumes, printers, guests, and then the audit.
use Rattle.std.specs.Option.{option_map_or}
use Rattle.std.specs.Prelude.{ℕ, suc, ◌≡◌, ◌==◌, ◌&&◌, ◌||◌, Bool, true, false, List, [], ◌∷◌, ◌++◌, Option, Some, slice_get}
use Rattle.std.specs.List.{list_any}
use Rattle.vv_class.specs.Class.{does_flow}
use Rattle.vv_class.specs.declared.class.AccessClass.{AccessClass}
use Rattle.sys_objects.specs.Rules.{same_class}
use Rattle.sys_objects.specs.declared.records.Audit.{Audit}
use Rattle.sys_objects.specs.declared.records.Config.{Config}
use Rattle.sys_objects.specs.declared.records.GuestRow.{GuestRow}
use Rattle.sys_objects.specs.declared.records.Mount.{Mount}
use Rattle.sys_objects.specs.declared.records.Terminal.{Terminal}
use Rattle.sys_objects.specs.declared.records.VolumeRow.{VolumeRow}

-- an object by its place among those of its kind
pub data ObjectPlace : Type 0 where
  IsTerminalAt IsVolumeAt IsPrinterAt IsGuestAt : (place : ℕ) → ObjectPlace
  IsTheAudit : ObjectPlace

abbrev pub numbered_from : {A : Type 0} → (ℕ → ObjectPlace) → ℕ → List A → List ObjectPlace
numbered_from object k [] = []
numbered_from object k (x ∷ xs) = object k ∷ numbered_from object (suc k) xs

abbrev pub audit_object : Option Audit → List ObjectPlace
audit_object audit = option_map_or (λ a. IsTheAudit ∷ []) audit []

abbrev pub all_objects : Config → List ObjectPlace
all_objects c =
    numbered_from IsTerminalAt 0 c.terminals ++ numbered_from IsVolumeAt 0 c.volumes ++ numbered_from IsPrinterAt 0 c.printers
    ++ numbered_from IsGuestAt 0 c.guests ++ audit_object c.audit

-- whether a terminal has the class
abbrev pub has_terminal : Config → AccessClass → Bool
has_terminal c class = list_any (λ t. same_class t.class class) c.terminals

-- a mount of the volume, for any use or for writing
abbrev pub is_mount_of : ℕ → Option Mount → Bool
is_mount_of v mount = option_map_or (λ m. m.volume == v) mount false

abbrev pub is_written_mount_of : ℕ → Option Mount → Bool
is_written_mount_of v mount = option_map_or (λ m. m.write && m.volume == v) mount false

abbrev pub meets : Option Terminal → Option GuestRow → Bool
meets (Some t) (Some g) = same_class g.class t.class
meets _ _ = false

abbrev pub shows_on : Option GuestRow → Option Terminal → Bool
shows_on (Some g) (Some t) = does_flow g.class t.class
shows_on _ _ = false

abbrev pub is_place : ℕ → Option ℕ → Bool
is_place k place = option_map_or (λ n. n == k) place false

abbrev pub prints_on : Option GuestRow → ℕ → Bool
prints_on guest p = option_map_or (λ g. is_place p g.printer) guest false

abbrev pub is_read_by : Config → ℕ → Option VolumeRow → Option GuestRow → Bool
is_read_by c v (Some row) (Some g) = list_any (is_mount_of v) g.mounts || does_flow row.class g.class && has_terminal c g.class
is_read_by c v _ _ = false

abbrev pub written_by : Config → ℕ → Option GuestRow → Option VolumeRow → Bool
written_by c v (Some g) (Some row) = list_any (is_written_mount_of v) g.mounts || same_class row.class g.class && has_terminal c g.class
written_by c v _ _ = false

-- an edge from one to another
abbrev pub is_edge : Config → ObjectPlace → ObjectPlace → Bool
is_edge c (IsTerminalAt t) (IsGuestAt g) = meets (slice_get c.terminals t) (slice_get c.guests g)
is_edge c (IsTerminalAt t) IsTheAudit = true
is_edge c (IsGuestAt g) (IsTerminalAt t) = shows_on (slice_get c.guests g) (slice_get c.terminals t)
is_edge c (IsGuestAt g) (IsPrinterAt p) = prints_on (slice_get c.guests g) p
is_edge c (IsVolumeAt v) (IsGuestAt g) = is_read_by c v (slice_get c.volumes v) (slice_get c.guests g)
is_edge c (IsGuestAt g) (IsVolumeAt v) = written_by c v (slice_get c.guests g) (slice_get c.volumes v)
is_edge c _ _ = false

abbrev pub edge_between : Config → Option ObjectPlace → Option ObjectPlace → Bool
edge_between c (Some x) (Some y) = is_edge c x y
edge_between c _ _ = false

-- by their numbers
abbrev pub has_edge : Config → ℕ → ℕ → Bool
has_edge c a b = edge_between c (slice_get (all_objects c) a) (slice_get (all_objects c) b)

-- edges lead from a by these to b
abbrev pub leads : Config → ℕ → List ℕ → ℕ → Bool
leads c a [] b = has_edge c a b
leads c a (x ∷ via) b = has_edge c a x && leads c x via b

-- `Reach`: a list of edges, of at least one, leads from a to b
pub record IsReached (c : Config) (a b : ℕ) : Type 0 where
  pub via : List ℕ
  pub lead : leads c a via b ≡ true
