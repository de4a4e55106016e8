-- Worked examples of the rules that speak of several entries, checked by computation.
use Rattle.std.specs.Prelude.{◌≡◌, ℕ, ◌+◌, [], ◌∷◌, codes, true, false, Some, None, Ok, Err, refl}
use Rattle.vv_class.specs.declared.class.AccessClass.{AccessClass}
use Rattle.sys_objects.specs.declared.records.Config.{Config}
use Rattle.sys_objects.specs.declared.records.GuestRow.{GuestRow}
use Rattle.sys_objects.specs.declared.records.Terminal.{Terminal}
use Rattle.sys_objects.specs.Faults.{fault}
use Rattle.sys_objects.specs.Rules.{lines_of, may_connect}
use Rattle.sys_objects.specs.Judged.{validated}

abbrev level : ℕ → AccessClass
level n = record { secrecy = n; secrecy_cats = 0; integrity = 0; integrity_cats = 0 }

abbrev terminal : Terminal
terminal = record { name = codes "T1"; line = 4; class = level 1 }

abbrev guest : GuestRow
guest = record {
  name = codes "A";
  class = level 1;
  pages = 2048;
  image = codes "a";
  load = 512;
  start = 512;
  autostart = true;
  console = Some 0;
  printer = None;
  dump = None;
  mounts = None ∷ None ∷ None ∷ None ∷ [];
  modify_faults = false;
  quantum = 10;
}

-- two guests that differ in nothing but what is said
abbrev both : GuestRow → GuestRow → Config
both g h = record { slice = 3; audit = None; terminals = terminal ∷ []; volumes = []; printers = []; guests = g ∷ h ∷ [] }

other_class : may_connect (terminal ∷ []) (level 2) (Some 0) ≡ false
other_class = refl

no_terminal : may_connect (terminal ∷ []) (level 1) (Some 1) ≡ false
no_terminal = refl

one_console_for_two : validated (both guest (record guest { name = codes "B" })) ≡ Err (fault 15 1)
unfolding validated
one_console_for_two = refl

-- a guest without a dump has no line
dumps_alone : lines_of (both guest (record guest { dump = Some 4 })) ≡ 4 ∷ 4 ∷ []
dumps_alone = refl

line_of_a_dump : validated (both guest (record guest { name = codes "B"; dump = Some 4 })) ≡ Err (fault 12 1)
unfolding validated
line_of_a_dump = refl

-- both have one name, which the least rule refuses: the second guest is the third object
one_name_for_two : validated (both guest guest) ≡ Err (fault 11 2)
unfolding validated
one_name_for_two = refl

-- guests of other names, without a console
abbrev one : ℕ → GuestRow
one n = record guest { name = (65 + n) ∷ []; console = None }

eight_times_2048 : validated (record (both guest guest) { guests = one 0 ∷ one 1 ∷ one 2 ∷ one 3 ∷ one 4 ∷ one 5 ∷ one 6 ∷ one 7 ∷ [] }) ≡ Ok tt
unfolding validated
eight_times_2048 = refl

nine_times_2048 : validated (record (both guest guest) { guests = one 0 ∷ one 1 ∷ one 2 ∷ one 3 ∷ one 4 ∷ one 5 ∷ one 6 ∷ one 7 ∷ one 8 ∷ [] }) ≡ Err (fault 18 8)
unfolding validated
nine_times_2048 = refl
