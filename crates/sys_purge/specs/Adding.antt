-- Laws of scale: one more guest, whose class doesn't flow into a device's, changes nothing of what the device gets.
use Rattle.std.specs.Prelude.{ℕ, ◌≡◌, List, [], ◌∷◌, ◌++◌, length, false, All}
use Rattle.vv_class.specs.Class.{does_flow}
use Rattle.sys_objects.specs.Condition.{IsConfig}
use Rattle.sys_objects.specs.declared.records.GuestRow.{GuestRow}
use Rattle.sys_state.specs.Bytes.{devices_of, drive_blocks, line_bytes}
use Rattle.sys_state.specs.Run.{Input}

-- one guest more, after the others, with its image
abbrev pub with_guest : Input → GuestRow → List ℕ → Input
with_guest x row image = record x { config = record x.config { guests = x.config.guests ++ row ∷ [] }; images = x.images ++ image ∷ [] }

abbrev pub GuestsAddNothing : Type 0
GuestsAddNothing = (x : Input) (row : GuestRow) (image : List ℕ) → IsConfig x.config → IsConfig (with_guest x row image).config → length x.images ≡ length x.config.guests
    → All (λ d. does_flow row.class d.class ≡ false → line_bytes (with_guest x row image) d.line ≡ line_bytes x d.line) (devices_of x.config)

abbrev pub GuestsAddNoBlocks : Type 0
GuestsAddNoBlocks = (x : Input) (row : GuestRow) (image : List ℕ) → IsConfig x.config → IsConfig (with_guest x row image).config → length x.images ≡ length x.config.guests
    → All (λ v. does_flow row.class v.class ≡ false → drive_blocks (with_guest x row image) v.drive ≡ drive_blocks x v.drive) x.config.volumes
