-- What the driver of the tests asks: whether table registers may be loaded into a guest, and whether a page may be opened.
use Rattle.std.specs.Prelude.{◌==◌, ◌&&◌, ◌||◌, ℕ, Bool, false, List, Option, Some, None}
use Rattle.vax_arch.specs.Walk.{Tables}
use Rattle.vax_arch.specs.Fields.{is_modified}
use Rattle.vm_shadow.specs.Layout.{IsCovered}
use Rattle.vm_shadow.specs.Shadowed.{Shadowed}
use Rattle.vm_shadow.specs.StandsFor.{HasModifiedPage, own_number}
use Rattle.vm_state.specs.Registers.{allows}
use Rattle.vm_state.specs.declared.register.Register.TheVariants.{P0br, P0lr, P1br, P1lr, Sbr, Slr}

-- whether each has a value that a guest's may have
abbrev pub are_allowed : Tables → Bool
are_allowed t = (t.p0br == 0 || allows P0br t.p0br) && (allows P0lr t.p0lr && (allows P1br t.p1br && (allows P1lr t.p1lr && (allows Sbr t.sbr && allows Slr t.slr))))

-- whether an entry exists, and is modified
abbrev pub is_marked_entry : Option ℕ → Bool
is_marked_entry None = false
is_marked_entry (Some entry) = is_modified entry

-- a page that may be opened, or granted
pub record IsClaimed (memory : List ℕ) (s : Shadowed) (page : ℕ) : Type 0 where
  pub covered : IsCovered page
  pub marked : HasModifiedPage memory s (own_number s page)
