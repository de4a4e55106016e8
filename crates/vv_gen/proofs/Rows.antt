-- The configuration is accepted, whatever the slice.
use Rattle.std.proofs.Common.{ℕ, nat_lt, ◌<◌, ◌≤◌, ◌^◌, ◌%◌, codes, map, get_or, All, refl, arith}
use Rattle.std.proofs.lemmas.Bool.{ltb-true}
use Rattle.std.proofs.lemmas.List.Elements.{All-cons, All-map}
use Rattle.vv_base.specs.Names.{is_object_name, is_file_name}
use Rattle.vv_class.specs.Class.{IsClass, does_flow, is_subset}
use Rattle.sys_objects.specs.Condition.{IsConfig, IsTerminal, IsVolume, IsPrinter, IsGuest}
use Rattle.sys_objects.proofs.Judged.{IsUnbroken, names_apart, lines_apart, drives_apart, consoles_apart, all_held, all_audited, pages_fit, names_objects}
use Rattle.vv_gen.specs.Config.{all_guests, generated_class, generated_config, generated_guest, generated_printer, generated_terminal, generated_volume, shared_volume, with_digit}
use Rattle.vv_gen.proofs.Ranges.{each_below, passed}

class_is : (g : ℕ) → g < 8 → IsClass (generated_class g)
class_is g below = record {
  secrecy = omega arith;
  secrecy_cats = ltb-true (2 ^ (g % 3)) (2 ^ 64) (passed (λ g. nat_lt (2 ^ (g % 3)) (2 ^ 64)) 8 refl g below);
  integrity = omega arith;
  integrity_cats = ltb-true 0 (2 ^ 64) refl;
}

terminal_is : (g : ℕ) → g < 8 → IsTerminal (generated_terminal g)
terminal_is g below = record {
  named = passed (λ g. is_object_name (with_digit (codes "T") g)) 8 refl g below;
  line = omega arith;
  class = class_is g below;
}

shared_is : IsVolume shared_volume
shared_is = record {
  named = refl;
  drive = omega arith;
  some_blocks = omega arith;
  few_blocks = omega arith;
  class = record { secrecy = omega arith; secrecy_cats = ltb-true 0 (2 ^ 64) refl; integrity = omega arith; integrity_cats = ltb-true 0 (2 ^ 64) refl };
}

volume_is : (g : ℕ) → g < 8 → IsVolume (generated_volume g)
volume_is g below = record {
  named = passed (λ g. is_object_name (with_digit (codes "W") g)) 8 refl g below;
  drive = omega arith;
  some_blocks = omega arith;
  few_blocks = omega arith;
  class = class_is g below;
}

printer_is : (g : ℕ) → g < 8 → IsPrinter (generated_printer g)
printer_is g below = record {
  named = passed (λ g. is_object_name (with_digit (codes "P") g)) 8 refl g below;
  line = omega arith;
  class = class_is g below;
}

guest_is : (g : ℕ) → g < 8 → IsGuest (generated_guest g)
guest_is g below = record {
  named = passed (λ g. is_object_name (with_digit (codes "G") g)) 8 refl g below;
  class = class_is g below;
  some_pages = omega arith;
  few_pages = omega arith;
  image = passed (λ g. is_file_name (with_digit (codes "IMAGE") g)) 8 refl g below;
  load = ltb-true 0x200 (2 ^ 32) refl;
  start = ltb-true 0x200 (2 ^ 32) refl;
  dump = omega arith;
  units = refl;
  some_steps = omega arith;
  few_steps = omega arith;
}

-- what holds of each guest's own, holds of all
all_of : {X : Type 0} (P : X → Type 0) (f : ℕ → X) → ((g : ℕ) → g < 8 → P (f g)) → All P (map f all_guests)
unfolding all_guests
all_of P f holds = All-map P f all_guests (each_below (λ g. P (f g)) 8 holds)

unbroken : (slice : ℕ) → IsUnbroken (generated_config slice)
unfolding generated_config all_guests does_flow is_subset
unbroken slice = record {
  name = refl;
  line = refl;
  drive = refl;
  printer = refl;
  console = refl;
  mount = refl;
  audit = refl;
  pages = refl;
}

pub config_is : (slice : ℕ) → 1 ≤ slice → slice ≤ 100000 → IsConfig (generated_config slice)
unfolding generated_config all_guests
config_is slice some few =
    let c = generated_config slice in
    let is = unbroken slice in
    let held = all_held c is in
    record {
      some_slice = some;
      few_slice = few;
      few_terminals = omega arith;
      few_volumes = omega arith;
      few_printers = omega arith;
      few_guests = omega arith;
      terminals = all_of IsTerminal generated_terminal terminal_is;
      volumes = All-cons IsVolume shared_volume (map generated_volume all_guests) shared_is (all_of IsVolume generated_volume volume_is);
      printers = all_of IsPrinter generated_printer printer_is;
      guests = all_of IsGuest generated_guest guest_is;
      audit = record { line = omega arith; class = record { secrecy = omega arith; secrecy_cats = ltb-true 7 (2 ^ 64) refl; integrity = omega arith; integrity_cats = ltb-true 0 (2 ^ 64) refl } };
      names = names_apart c is;
      lines = lines_apart c is;
      drives = drives_apart c is;
      consoles = consoles_apart c is;
      held = held;
      numbers = λ k d within. names_objects c (get_or c.guests k d) (held k d within);
      audited = all_audited c is;
      pages = pages_fit c is;
    }
