-- What an object's device gets doesn't depend on the inputs of objects from which it is not reached.
use Rattle.std.specs.Prelude.{ℕ, ◌≡◌, ◌≢◌, Bool, true, false, not, List, length, filter, bytes_eq, Option, Some, None, slice_get}
use Rattle.sys_flow.specs.Reach.{IsReached, IsTheAudit, IsGuestAt, IsPrinterAt, IsTerminalAt, IsVolumeAt, ObjectPlace, all_objects, is_edge}
use Rattle.sys_flow.specs.Relation.{IsReach, reads}
use Rattle.sys_objects.specs.Condition.{IsConfig}
use Rattle.sys_objects.specs.declared.records.Audit.{Audit}
use Rattle.sys_objects.specs.declared.records.Config.{Config}
use Rattle.sys_objects.specs.declared.records.GuestRow.{GuestRow}
use Rattle.sys_objects.specs.declared.records.PrinterRow.{PrinterRow}
use Rattle.sys_objects.specs.declared.records.Terminal.{Terminal}
use Rattle.sys_objects.specs.declared.records.VolumeRow.{VolumeRow}
use Rattle.sys_script.specs.declared.event.Event.{Event}
use Rattle.sys_state.specs.Bytes.{drive_blocks, line_bytes}
use Rattle.sys_state.specs.Events.{is_named}
use Rattle.sys_state.specs.Places.{place_of}
use Rattle.sys_state.specs.Run.{Input}

-- what an object's device gets is the same; the device of a guest is its dump, and without one it has none
abbrev pub SameOn : Option ℕ → Input → Input → Type 0
SameOn None x y = Unit {0}
SameOn (Some line) x y = line_bytes x line ≡ line_bytes y line

abbrev pub line_of_terminal : Option Terminal → Option ℕ
line_of_terminal None = None
line_of_terminal (Some t) = Some t.line

abbrev pub line_of_printer : Option PrinterRow → Option ℕ
line_of_printer None = None
line_of_printer (Some p) = Some p.line

abbrev pub line_of_guest : Option GuestRow → Option ℕ
line_of_guest None = None
line_of_guest (Some g) = g.dump

abbrev pub line_of_audit : Option Audit → Option ℕ
line_of_audit None = None
line_of_audit (Some a) = Some a.line

abbrev pub SameDrive : Option VolumeRow → Input → Input → Type 0
SameDrive None x y = Unit {0}
SameDrive (Some v) x y = drive_blocks x v.drive ≡ drive_blocks y v.drive

abbrev pub SameDevice : ObjectPlace → Input → Input → Type 0
SameDevice (IsTerminalAt t) x y = SameOn (line_of_terminal (slice_get x.config.terminals t)) x y
SameDevice (IsVolumeAt v) x y = SameDrive (slice_get x.config.volumes v) x y
SameDevice (IsPrinterAt p) x y = SameOn (line_of_printer (slice_get x.config.printers p)) x y
SameDevice (IsGuestAt g) x y = SameOn (line_of_guest (slice_get x.config.guests g)) x y
SameDevice IsTheAudit x y = SameOn (line_of_audit x.config.audit) x y

-- Of sets of objects. No edge leads into the set from outside.
abbrev pub IsClosed : Config → (ObjectPlace → Bool) → Type 0
IsClosed c far = (p q : ObjectPlace) → is_edge c p q ≡ true → far q ≡ true → far p ≡ true

-- an event of a terminal of the set; events go to the first terminal of their name
abbrev pub is_far_place : (ObjectPlace → Bool) → Option ℕ → Bool
is_far_place far None = false
is_far_place far (Some n) = far (IsTerminalAt n)

abbrev pub is_far_event : Config → (ObjectPlace → Bool) → Event → Bool
is_far_event c far e = is_far_place far (place_of (is_named e.terminal) c.terminals)

-- the same at the places of a set
abbrev pub AgreeAt : {A : Type 0} → (ℕ → Bool) → List A → List A → Type 0
AgreeAt far xs ys = (length xs ≡ length ys) × ((k : ℕ) → far k ≡ true → slice_get xs k ≡ slice_get ys k)

-- two inputs that differ in the inputs of objects outside the set alone
pub record AgreeOn (far : ObjectPlace → Bool) (x y : Input) : Type 0 where
  pub config : x.config ≡ y.config
  pub rounds : x.rounds ≡ y.rounds
  pub events : filter (is_far_event x.config far) x.events ≡ filter (is_far_event x.config far) y.events
  pub images : AgreeAt (λ g. far (IsGuestAt g)) x.images y.images
  pub volumes : AgreeAt (λ v. far (IsVolumeAt v)) x.volumes y.volumes

-- then the devices of the set's objects get the same
abbrev pub ClosedSetsAreApart : Type 0
ClosedSetsAreApart = (x y : Input) (far : ObjectPlace → Bool) (b : ObjectPlace) → IsConfig x.config → IsClosed x.config far → AgreeOn far x y → far b ≡ true → SameDevice b x y

-- Of two objects. An event of another terminal than this.
abbrev pub is_of_another : Option Terminal → Event → Bool
is_of_another None e = true
is_of_another (Some t) e = not (bytes_eq t.name e.terminal)

abbrev pub events_without : Config → ObjectPlace → List Event → List Event
events_without c (IsTerminalAt t) es = filter (is_of_another (slice_get c.terminals t)) es
events_without c (IsVolumeAt v) es = es
events_without c (IsPrinterAt p) es = es
events_without c (IsGuestAt g) es = es
events_without c IsTheAudit es = es

-- what is given to guests or volumes, but for one of a place
abbrev pub DifferOnlyAt : {A : Type 0} → ℕ → List A → List A → Type 0
DifferOnlyAt k xs ys = (length xs ≡ length ys) × ((i : ℕ) → i ≢ k → slice_get xs i ≡ slice_get ys i)

abbrev pub SameImages : ObjectPlace → List (List ℕ) → List (List ℕ) → Type 0
SameImages (IsGuestAt g) xs ys = DifferOnlyAt g xs ys
SameImages (IsTerminalAt t) xs ys = xs ≡ ys
SameImages (IsVolumeAt v) xs ys = xs ≡ ys
SameImages (IsPrinterAt p) xs ys = xs ≡ ys
SameImages IsTheAudit xs ys = xs ≡ ys

abbrev pub SameVolumes : ObjectPlace → List (List (List ℕ)) → List (List (List ℕ)) → Type 0
SameVolumes (IsVolumeAt v) xs ys = DifferOnlyAt v xs ys
SameVolumes (IsTerminalAt t) xs ys = xs ≡ ys
SameVolumes (IsPrinterAt p) xs ys = xs ≡ ys
SameVolumes (IsGuestAt g) xs ys = xs ≡ ys
SameVolumes IsTheAudit xs ys = xs ≡ ys

-- two inputs that differ in one object's inputs alone: the events of a terminal, the image of a guest, a volume's blocks
pub record DifferIn (a : ObjectPlace) (x y : Input) : Type 0 where
  pub config : x.config ≡ y.config
  pub rounds : x.rounds ≡ y.rounds
  pub events : events_without x.config a x.events ≡ events_without x.config a y.events
  pub images : SameImages a x.images y.images
  pub volumes : SameVolumes a x.volumes y.volumes

-- where an object is not reached from another and is another, its device gets the same
abbrev pub DependsOnlyOnReached : Type 0
DependsOnlyOnReached = (x y : Input) (a b : ℕ) (from to : ObjectPlace) → IsConfig x.config → slice_get (all_objects x.config) a ≡ Some from → slice_get (all_objects x.config) b ≡ Some to
    → a ≢ b → (IsReached x.config a b → ⊥) → DifferIn from x y → SameDevice to x y

-- and so where rows of what is reached don't name it
abbrev pub UnnamedIsApart : Type 0
UnnamedIsApart = (x y : Input) (rows : List ℕ) (a b : ℕ) (from to : ObjectPlace) → IsConfig x.config → IsReach x.config rows → slice_get (all_objects x.config) a ≡ Some from → slice_get (all_objects x.config) b ≡ Some to
    → a ≢ b → reads rows a b ≡ false → DifferIn from x y → SameDevice to x y
