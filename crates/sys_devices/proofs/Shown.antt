-- What was shown of one screen, and of several.
use Rattle.std.proofs.Common.{List, [], ◌∷◌, slice_index_or, sym, ◌∙◌, arith, Bool}
use Rattle.std.proofs.lemmas.List.{append-nil}
use Rattle.vv_io.specs.Lines.{Seen, unseen}
use Rattle.sys_devices.specs.Echo.{echo_of}
use Rattle.sys_devices.specs.Screens.{AreLinesKnown, Echoes, IsLineKnown, new_on}
use Rattle.sys_devices.specs.declared.screen.Screen.{Screen}
use Rattle.sys_devices.proofs.Parts.{IsShown}

-- one screen's news
pub one_echo : (cut : Bool) (lines : List Seen) (screen : Screen) (start now : Seen) → IsShown (IsLineKnown (slice_index_or lines screen.line unseen)) cut start now (echo_of screen.name (new_on lines screen)) → Echoes cut lines (screen ∷ []) start now
one_echo cut lines screen start now shown = record {
  bytes = shown.text;
  shown = shown.shown;
  exact = λ (told : AreLinesKnown lines (screen ∷ [])). shown.exact (told 0 screen (omega arith)) ∙ sym (append-nil (echo_of screen.name (new_on lines screen)));
}
