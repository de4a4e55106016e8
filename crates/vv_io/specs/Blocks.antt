-- What a drive keeps, and what one get or set does to it.
use Rattle.std.specs.Prelude.{ℕ, ◌≡◌, List, [], length, slice_set, slice_index_or}
use Rattle.std.specs.declared.option.Option.{Option}
use Rattle.std.specs.declared.option.Option.TheVariants.{None, Some}
use Rattle.std.specs.declared.result.Result.{Result}
use Rattle.std.specs.declared.result.Result.TheVariants.{Ok, Err}
use Rattle.vv_io.specs.Causes.{HasCause}

-- A drive as the outside knows it: its number of blocks, the blocks, where they are known, and its count of faults.
pub record SeenDrive : Type 0 where
  pub size : ℕ
  pub blocks : Option (List (List ℕ))
  pub faults : ℕ

-- a drive that doesn't exist
abbrev pub unkept : SeenDrive
unkept = record { size = 0; blocks = None; faults = 0 }

-- there are `size` blocks, where they are known
abbrev pub AreSoMany : ℕ → Option (List (List ℕ)) → Type 0
AreSoMany size None = Unit {0}
AreSoMany size (Some blocks) = length blocks ≡ size

-- there are as many blocks as the drive has, where they are known
abbrev pub IsSized : SeenDrive → Type 0
IsSized drive = AreSoMany drive.size drive.blocks

-- bytes are as many as those of the block that they replace, where blocks are known
abbrev pub IsAsLong : Option (List (List ℕ)) → ℕ → List ℕ → Type 0
IsAsLong None block bytes = Unit {0}
IsAsLong (Some blocks) block bytes = length bytes ≡ length (slice_index_or blocks block [])

-- the bytes that a get puts into its buffer: the block's, where the blocks are known, and none where it failed
abbrev pub ReadsBlock : {U E : Type 0} → Option (List (List ℕ)) → ℕ → List ℕ → List ℕ → Result U E → Type 0
ReadsBlock None block before after (Ok _) = Unit {0}
ReadsBlock (Some blocks) block before after (Ok _) = after ≡ slice_index_or blocks block []
ReadsBlock told block before after (Err _) = after ≡ before

-- one get; all blocks stay
pub record Gets {U E : Type 0} (before after : SeenDrive) (block : ℕ) (into into' : List ℕ) (result : Result U E) : Type 0 where
  pub stays : after ≡ record before { faults = after.faults }
  pub reads : ReadsBlock before.blocks block into into' result
  pub cause : HasCause before.faults after.faults result

-- these bytes in the place of one block
abbrev pub drive_with_block : Option (List (List ℕ)) → ℕ → List ℕ → Option (List (List ℕ))
drive_with_block None block bytes = None
drive_with_block (Some blocks) block bytes = Some (slice_set blocks block bytes)

-- the block has the bytes; where the call failed it may hold any, as many as before
abbrev pub WritesBlock : {U E : Type 0} → Option (List (List ℕ)) → Option (List (List ℕ)) → ℕ → List ℕ → Result U E → Type 0
WritesBlock before after block bytes (Ok _) = after ≡ drive_with_block before block bytes
WritesBlock before after block bytes (Err _) = (any : List ℕ) × (after ≡ drive_with_block before block any) × IsAsLong before block any

-- one set; all other blocks stay
pub record Sets {U E : Type 0} (before after : SeenDrive) (block : ℕ) (bytes : List ℕ) (result : Result U E) : Type 0 where
  pub size : after.size ≡ before.size
  pub writes : WritesBlock before.blocks after.blocks block bytes result
  pub cause : HasCause before.faults after.faults result

-- one set on drive k of several; every other drive is as before
abbrev pub SetsOn : {U E : Type 0} → ℕ → List SeenDrive → List SeenDrive → ℕ → List ℕ → Result U E → Type 0
SetsOn k before after block bytes result = (drive : SeenDrive) × (after ≡ slice_set before k drive) × Sets (slice_index_or before k unkept) drive block bytes result

-- one get from drive k of several; every other drive is as before
abbrev pub GetsFrom : {U E : Type 0} → ℕ → List SeenDrive → List SeenDrive → ℕ → List ℕ → List ℕ → Result U E → Type 0
GetsFrom k before after block into into' result = (drive : SeenDrive) × (after ≡ slice_set before k drive) × Gets (slice_index_or before k unkept) drive block into into' result

-- One sync: size and blocks stay.
pub record SyncsDrive {U E : Type 0} (before after : SeenDrive) (result : Result U E) : Type 0 where
  pub stays : after ≡ record before { faults = after.faults }
  pub cause : HasCause before.faults after.faults result

-- one sync of drive k of several; every other drive is as before
abbrev pub SyncsDriveOn : {U E : Type 0} → ℕ → List SeenDrive → List SeenDrive → Result U E → Type 0
SyncsDriveOn k before after result = (drive : SeenDrive) × (after ≡ slice_set before k drive) × SyncsDrive (slice_index_or before k unkept) drive result
