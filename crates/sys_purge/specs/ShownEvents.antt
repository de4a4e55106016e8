-- Worked examples of purged events, checked by computation: a terminal of level 0, and one of level 2.
use Rattle.std.specs.Prelude.{◌≡◌, ℕ, List, [], ◌∷◌, codes, None, refl}
use Rattle.vv_class.specs.declared.class.AccessClass.{AccessClass}
use Rattle.vv_class.specs.Class.{does_flow, is_subset}
use Rattle.sys_objects.specs.declared.records.Config.{Config}
use Rattle.sys_objects.specs.declared.records.Terminal.{Terminal}
use Rattle.sys_script.specs.declared.event.Event.{Event}
use Rattle.sys_script.specs.declared.event.Typed.TheVariants.{Break, Line}
use Rattle.sys_purge.specs.Events.{purge_events}

abbrev level : ℕ → AccessClass
level n = record { secrecy = n; secrecy_cats = 0; integrity = 0; integrity_cats = 0 }

abbrev terminal : List ℕ → ℕ → ℕ → Terminal
terminal name line n = record { name = name; line = line; class = level n }

abbrev two : Config
two = record { slice = 1; audit = None; terminals = terminal (codes "T1") 0 0 ∷ terminal (codes "T2") 1 2 ∷ []; volumes = []; printers = []; guests = [] }

abbrev typed : List ℕ → Event
typed name = record { round = 1; terminal = name; what = Line (codes "SHOW") }

abbrev broken : List ℕ → Event
broken name = record { round = 2; terminal = name; what = Break }

-- at level 0 those of the second terminal aren't kept, and those of an unknown one nowhere
low : purge_events two (typed (codes "T1") ∷ typed (codes "T2") ∷ typed (codes "T3") ∷ broken (codes "T2") ∷ broken (codes "T1") ∷ []) (level 0) ≡ typed (codes "T1") ∷ broken (codes "T1") ∷ []
unfolding does_flow is_subset
low = refl

high : purge_events two (typed (codes "T1") ∷ typed (codes "T2") ∷ typed (codes "T3") ∷ broken (codes "T2") ∷ []) (level 2) ≡ typed (codes "T1") ∷ typed (codes "T2") ∷ broken (codes "T2") ∷ []
unfolding does_flow is_subset
high = refl
