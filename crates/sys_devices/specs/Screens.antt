-- Terminals as an operator sees them, and what their lines were shown since they were last looked at.
use Rattle.std.specs.Prelude.{ℕ, ◌≡◌, ◌<◌, ◌≤◌, ◌-◌, ◌^◌, List, [], ◌∷◌, All, Bool, drop, flat_map, length, slice_index_or, Option, Some, None}
use Rattle.vv_io.specs.Lines.{Counts, Seen, unseen}
use Rattle.sys_devices.specs.ShownSince.{ShownSince}
use Rattle.sys_objects.specs.declared.records.Terminal.{Terminal}
use Rattle.sys_devices.specs.Echo.{echo_of}
use Rattle.sys_devices.specs.declared.screen.Screen.{Screen}

-- a terminal's name and line, and how many bytes the line has shown, where they are known
pub record IsScreen (lines : List Seen) (terminal : Terminal) (screen : Screen) : Type 0 where
  pub name : screen.name ≡ terminal.name
  pub line : screen.line ≡ terminal.line
  pub seen : Counts (slice_index_or lines terminal.line unseen).shown screen.seen

abbrev pub AreScreens : List Seen → List Terminal → List Screen → Type 0
AreScreens lines [] [] = Unit {0}
AreScreens lines [] (screen ∷ screens) = ⊥
AreScreens lines (terminal ∷ terminals) [] = ⊥
AreScreens lines (terminal ∷ terminals) (screen ∷ screens) = IsScreen lines terminal screen × AreScreens lines terminals screens

-- the names and lines stay, whatever was seen
pub record IsSameScreen (before after : Screen) : Type 0 where
  pub name : after.name ≡ before.name
  pub line : after.line ≡ before.line

-- what a line has shown is known, and 64 bits count its bytes
abbrev pub IsLineKnown : Seen → Type 0
IsLineKnown line = (shown : List ℕ) × (line.shown ≡ Some shown) × (length shown < 2 ^ 64)

abbrev pub AreLinesKnown : List Seen → List Screen → Type 0
AreLinesKnown lines screens = All (λ screen. IsLineKnown (slice_index_or lines screen.line unseen)) screens

-- what a line was shown, where it is known
abbrev pub shown_if_known : Option (List ℕ) → List ℕ
shown_if_known None = []
shown_if_known (Some shown) = shown

-- how many bytes more a line has shown, where they are known
abbrev pub more_on : List Seen → List Seen → ℕ → ℕ
more_on before after line = length (shown_if_known (slice_index_or after line unseen).shown) - length (shown_if_known (slice_index_or before line unseen).shown)

-- what a screen's line was shown since it was last seen
abbrev pub new_on : List Seen → Screen → List ℕ
new_on lines screen = drop screen.seen (shown_if_known (slice_index_or lines screen.line unseen).shown)

-- a screen has seen no more than its line has shown, where that is known
abbrev pub IsScreenWithin : List Seen → Screen → Type 0
IsScreenWithin lines screen = IsLineKnown (slice_index_or lines screen.line unseen) → screen.seen ≤ length (shown_if_known (slice_index_or lines screen.line unseen).shown)

abbrev pub AreWithin : List Seen → List Screen → Type 0
AreWithin lines screens = All (IsScreenWithin lines) screens

-- of all screens, one after another
abbrev pub news : List Seen → List Screen → List ℕ
news lines screens = flat_map (λ screen. echo_of screen.name (new_on lines screen)) screens

-- Bytes were put on the sink, whole or cut: the news of the screens, where all of their lines are known.
pub record Echoes (cut : Bool) (lines : List Seen) (screens : List Screen) (out out' : Seen) : Type 0 where
  pub bytes : List ℕ
  pub shown : ShownSince cut out out' bytes
  pub exact : AreLinesKnown lines screens → bytes ≡ news lines screens

abbrev pub AreSameScreens : List Screen → List Screen → Type 0
AreSameScreens [] [] = Unit {0}
AreSameScreens [] (after ∷ afters) = ⊥
AreSameScreens (before ∷ befores) [] = ⊥
AreSameScreens (before ∷ befores) (after ∷ afters) = IsSameScreen before after × AreSameScreens befores afters
