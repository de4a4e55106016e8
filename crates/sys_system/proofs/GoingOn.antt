-- A system that goes on from a moment: what the server keeps names guests and volumes of the configuration alone.
use Rattle.std.specs.Option.{option_map_or}
use Rattle.std.proofs.Common.{ℕ, zero, suc, ◌≡◌, ◌<◌, List, [], ◌∷◌, length, take, drop, sym, ◌∙◌, subst, arith, refl, take-append-drop, Bool, true, false, not, ◌&&◌, Option, Some, None}
use Rattle.std.proofs.lemmas.Bool.{and_parts, false≢true}
use Rattle.std.proofs.lemmas.List.Elements.{All-append, All-cons, All-nil, All-weaker}
use Rattle.std.specs.List.{All, AllZip, list_any, slice_get}
use Rattle.std.specs.Prelude.{IfSome}
use Rattle.vv_class.specs.declared.class.AccessClass.{AccessClass}
use Rattle.sys_devices.specs.Rows.{FitRows}
use Rattle.sys_guests.specs.Kernel.{AreUnits}
use Rattle.sys_objects.specs.Rules.{is_mountable, may_mount, same_place, same_class}
use Rattle.sys_objects.specs.declared.records.GuestRow.{GuestRow}
use Rattle.sys_objects.specs.declared.records.Mount.{Mount}
use Rattle.sys_objects.specs.declared.records.Terminal.{Terminal}
use Rattle.sys_objects.specs.declared.records.VolumeRow.{VolumeRow}
use Rattle.sys_snap.specs.Conditions.{may_all_sit, may_sit}
use Rattle.sys_snap.specs.Held.{HoldsMoment, snapshot_moment}
use Rattle.sys_snap.specs.Snap.{AreUnitsOf, IsMoment, IsVolumeOf}
use Rattle.sys_snap.specs.declared.snap.Snap.{Snap}
use Rattle.sys_system.proofs.Mounting.{IsSeated, none_mounted}
use Rattle.sys_system.specs.Seats.{no_units}

-- what doesn't exist doesn't pass
inside : {X : Type 0} (test : Option X → Bool) (xs : List X) (k : ℕ) → test None ≡ false → test (slice_get xs k) ≡ true → k < length xs
inside test [] k none passes = absurd (false≢true (sym none ∙ passes))
inside test (x ∷ xs) zero none passes = omega arith
inside test (x ∷ xs) (suc k) none passes = omega (arith, inside test xs k none passes)

abbrev IsOne : List GuestRow → Option ℕ → Type 0
IsOne rows seat = IfSome seat (λ g. g < length rows)

sits : (rows : List GuestRow) (t : Terminal) (seat : Option ℕ) → may_sit rows t seat ≡ true → IsOne rows seat
sits rows t None may = tt
sits rows t (Some g) may = inside (λ (o : Option GuestRow). option_map_or (λ row. same_class row.class t.class) o false) rows g refl may

all_sit : (rows : List GuestRow) (ts : List Terminal) (seats : List (Option ℕ)) → may_all_sit rows ts seats ≡ true → All (IsOne rows) seats
all_sit rows [] [] sit = All-nil (IsOne rows)
all_sit rows [] (seat ∷ seats) sit = absurd (false≢true sit)
all_sit rows (t ∷ ts) [] sit = absurd (false≢true sit)
all_sit rows (t ∷ ts) (seat ∷ seats) sit =
    let both = and_parts (may_sit rows t seat && not (list_any (same_place seat) seats)) (may_all_sit rows ts seats) sit in
    let own = and_parts (may_sit rows t seat) (not (list_any (same_place seat) seats)) both.0 in
    All-cons (IsOne rows) seat seats (sits rows t seat own.0) (all_sit rows ts seats both.1)

abbrev IsOneOf : List VolumeRow → Option Mount → Type 0
IsOneOf volumes m = IfSome m (λ n. n.volume < length volumes)

mounts : (volumes : List VolumeRow) (class : AccessClass) (m : Option Mount) → may_mount volumes class m ≡ true → IsOneOf volumes m
mounts volumes class None may = tt
mounts volumes class (Some m) may = inside (is_mountable class m.write) volumes m.volume refl may

all_mount : (volumes : List VolumeRow) (rows : List GuestRow) (each : List (List (Option Mount))) → AllZip (AreUnitsOf volumes) rows each → All (AreUnits (length volumes)) each
all_mount volumes [] [] are = All-nil (AreUnits (length volumes))
all_mount volumes [] (units ∷ each) are = absurd are
all_mount volumes (row ∷ rows) [] are = absurd are
all_mount volumes (row ∷ rows) (units ∷ each) are =
    let own : AreUnits (length volumes) units = record { four = are.0.four; mounted = All-weaker (λ m. may_mount volumes row.class m ≡ true) (IsOneOf volumes) (mounts volumes row.class) units are.0.may } in
    All-cons (AreUnits (length volumes)) units each own (all_mount volumes rows each are.1)

-- what holds of the first and of those after them holds of all
in_both : {X : Type 0} (P : X → Type 0) (n : ℕ) (xs : List X) → All P (take n xs) → All P (drop n xs) → All P xs
in_both P n xs front back = subst (λ ys. All P ys) (take-append-drop n xs) (All-append P (take n xs) (drop n xs) front back)

pub seated_again : (s : Snap) → HoldsMoment s → IsMoment (snapshot_moment s) → IsSeated s.config s.server
seated_again s held is =
    let rows = s.config.guests in
    let volumes = s.config.volumes in
    record {
      terminals = held.terminals;
      guests = held.guests;
      consoles = in_both (IsOne rows) (length s.config.terminals) s.server.at (all_sit rows s.config.terminals (take (length s.config.terminals) s.server.at) is.seated)
          (All-weaker (λ (o : Option ℕ). o ≡ None) (IsOne rows) (λ o none. subst (IsOne rows) (sym none) tt) (drop (length s.config.terminals) s.server.at) held.beyond);
      beyond = held.beyond;
      mounts = in_both (AreUnits (length volumes)) (length rows) s.server.mounts (all_mount volumes rows (take (length rows) s.server.mounts) is.mounted)
          (All-weaker (λ units. units ≡ no_units) (AreUnits (length volumes)) (λ units none. subst (AreUnits (length volumes)) (sym none) (none_mounted (length volumes))) (drop (length rows) s.server.mounts) held.unmounted);
    }

-- the volumes are as long as their rows say
pub volumes_fit : (rows : List VolumeRow) (volumes : List (List (List ℕ))) → AllZip IsVolumeOf rows volumes → FitRows rows volumes
volumes_fit [] [] are = refl
volumes_fit [] (blocks ∷ volumes) are = absurd are
volumes_fit (row ∷ rows) [] are = absurd are
volumes_fit (row ∷ rows) (blocks ∷ volumes) are = λ i. are.0.many i ∷ volumes_fit rows volumes are.1 i
