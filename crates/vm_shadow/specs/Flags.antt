-- Flags by frame of the guest.
use Rattle.std.specs.Prelude.{Bool, ◌<◌, ℕ, List, slice_set}
use Rattle.vm_shadow.specs.declared.source.Source.{Source}
use Rattle.vm_shadow.specs.declared.source.Source.TheVariants.{Direct, Process, System}

-- with each frame that a source has flagged, or not
abbrev pub with_flags : Bool → Source → List Bool → List Bool
with_flags value Direct flags = flags
with_flags value (System entry) flags = slice_set flags entry value
with_flags value (Process entry table) flags = slice_set (slice_set flags entry value) table value

-- the frames that a source has are the guest's
abbrev pub IsWithin : ℕ → Source → Type 0
IsWithin pages Direct = Unit {0}
IsWithin pages (System entry) = entry < pages
IsWithin pages (Process entry table) = (entry < pages) × (table < pages)
