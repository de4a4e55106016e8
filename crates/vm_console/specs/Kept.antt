-- What a port keeps that has room for a number of bytes (profile).
use Rattle.std.specs.Prelude.{◌≡◌, ℕ, Bool, false, true, nat_lt, if◌then◌else◌, List, [], ◌∷◌, ◌++◌, length, take}

-- the bytes kept, and whether more were shown than there was room for
pub record KeptOutput : Type 0 where
  pub bytes : List ℕ
  pub is_cut : Bool

abbrev pub empty : KeptOutput
empty = record { bytes = []; is_cut = false }

-- it keeps a byte where there is room, and is cut otherwise
abbrev pub after_shown : ℕ → KeptOutput → ℕ → KeptOutput
after_shown room kept byte =
    if nat_lt (length kept.bytes) room
    then record kept { bytes = kept.bytes ++ byte ∷ [] }
    else record kept { is_cut = true }

-- It may have been given this list since it was empty: the first `room` bytes of it are kept, and it is cut where there are more.
unfoldable pub MayKeep : ℕ → KeptOutput → List ℕ → Type 0
MayKeep room kept given = (kept.bytes ≡ take room given) × (kept.is_cut ≡ nat_lt room (length given))
