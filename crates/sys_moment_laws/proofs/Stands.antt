-- Rounds keep the rules of the seats and mounts and that each guest runs or has stopped, and power-up makes it so.
use Rattle.std.specs.Option.{option_map_or}
use Rattle.std.proofs.Common.{◌≡◌, ℕ, zero, suc, ◌+◌, List, [], ◌∷◌, length, true, false, not, ◌&&◌, refl, subst, arith, All, Option, Some, None, slice_get}
use Rattle.std.specs.List.{AllZip, list_any}
use Rattle.std.proofs.lemmas.Bool.{and_from, and_parts, false≢true, not-true, not_from_false, or_from, or_parts}
use Rattle.std.proofs.lemmas.List.Elements.{All-cons, All-head, All-nil, All-tail}
use Rattle.vv_class.specs.declared.class.AccessClass.{AccessClass}
use Rattle.sys_moment_laws.proofs.Holds.{once_first, powered_halts, rounds_keep}
use Rattle.sys_moment_laws.proofs.Shapes.{HasFour, Shaped, first_shaped, rounds_shaped}
use Rattle.sys_moment_laws.specs.Holds.{AllHalt, IsSoundSystem, NoneIs, OccurOnce}
use Rattle.sys_moment_laws.specs.ConsistentState.{IsConsistentState, MomentsAreConsistent, OpeningIsConsistent, RoundsKeepConsistency, RunsAreConsistent}
use Rattle.sys_objects.specs.Rules.{may_mount, same_class, same_place}
use Rattle.sys_objects.specs.declared.records.Config.{Config}
use Rattle.sys_objects.specs.declared.records.GuestRow.{GuestRow}
use Rattle.sys_objects.specs.declared.records.Mount.{Mount}
use Rattle.sys_objects.specs.declared.records.Terminal.{Terminal}
use Rattle.sys_purge.proofs.Accepted.{same_is, same_itself}
use Rattle.sys_purge.proofs.Fits.{ConnectFits, Each, Fits, Holds as IsGuestOfClass, MountFits, MountsFit, Pairs, each_of_all, fits_events}
use Rattle.sys_purge.proofs.Opens.{first_fits}
use Rattle.sys_state.specs.Run.{events_of, first_state, round, rounds}
use Rattle.sys_state.specs.State.{SystemState}
use Rattle.sys_script.specs.declared.event.Event.{Event}
use Rattle.sys_snap.specs.Conditions.{may_all_sit, may_sit}
use Rattle.sys_snap.specs.Snap.{AreUnitsOf, IsGuestOf}
use Rattle.vm_state.specs.State.{Guest}
use Rattle.vm_state.specs.Stops.{IsHalt}

-- no guest sits twice
none_any : (o : Option ℕ) (os : List (Option ℕ)) → NoneIs (same_place o) os → list_any (same_place o) os ≡ false
none_any o [] none = refl
none_any o (p ∷ os) none = or_from (same_place o p) (list_any (same_place o) os) none.0 (none_any o os none.1)

any_none : (o : Option ℕ) (os : List (Option ℕ)) → list_any (same_place o) os ≡ false → NoneIs (same_place o) os
any_none o [] any = tt
any_none o (p ∷ os) any = let parts = or_parts (same_place o p) (list_any (same_place o) os) any in (parts.0, any_none o os parts.1)

module _ (c : Config) where
  -- seats
  sits : (t : Terminal) (o : Option ℕ) → ConnectFits c t o → may_sit c.guests t o ≡ true
  sits t None fits = refl
  sits t (Some g) fits =
      let same : same_class fits.0.class t.class ≡ true = subst (λ class. same_class fits.0.class class ≡ true) fits.2 (same_itself fits.0.class) in
      rw (fits.1) same

  row_fits : (t : Terminal) (g : ℕ) (o : Option GuestRow) → slice_get c.guests g ≡ o → option_map_or (λ row. same_class row.class t.class) o false ≡ true → IsGuestOfClass c t.class g
  row_fits t g None at is = absurd (false≢true is)
  row_fits t g (Some row) at is = (row, at, same_is row.class t.class is)

  seat_fits : (t : Terminal) (o : Option ℕ) → may_sit c.guests t o ≡ true → ConnectFits c t o
  seat_fits t None may = tt
  seat_fits t (Some g) may = row_fits t g (slice_get c.guests g) refl may

  all_sit : (ts : List Terminal) (os : List (Option ℕ)) → Pairs (ConnectFits c) ts os → OccurOnce os → length os ≡ length ts → may_all_sit c.guests ts os ≡ true
  all_sit [] [] fit once long = refl
  all_sit [] (o ∷ os) fit once long = absurd (omega (arith, long))
  all_sit (t ∷ ts) [] fit once long = absurd (omega (arith, long))
  all_sit (t ∷ ts) (o ∷ os) fit once long =
      let own : not (list_any (same_place o) os) ≡ true = not_from_false (list_any (same_place o) os) (none_any o os once.0) in
      let rest : may_all_sit c.guests ts os ≡ true = all_sit ts os fit.1 once.1 (omega (arith, long)) in
      and_from (may_sit c.guests t o && not (list_any (same_place o) os)) (may_all_sit c.guests ts os) (and_from (may_sit c.guests t o) (not (list_any (same_place o) os)) (sits t o fit.0) own) rest

  record Seated (ts : List Terminal) (os : List (Option ℕ)) : Type 0 where
    fit : Pairs (ConnectFits c) ts os
    once : OccurOnce os
    long : length os ≡ length ts

  seated : (ts : List Terminal) (os : List (Option ℕ)) → may_all_sit c.guests ts os ≡ true → Seated ts os
  seated [] [] sit = record { fit = tt; once = tt; long = refl }
  seated [] (o ∷ os) sit = absurd (false≢true sit)
  seated (t ∷ ts) [] sit = absurd (false≢true sit)
  seated (t ∷ ts) (o ∷ os) sit =
      let both = and_parts (may_sit c.guests t o && not (list_any (same_place o) os)) (may_all_sit c.guests ts os) sit in
      let own = and_parts (may_sit c.guests t o) (not (list_any (same_place o) os)) both.0 in
      let rest = seated ts os both.1 in
      record {
        fit = (seat_fits t o own.0, rest.fit);
        once = (any_none o os (not-true (list_any (same_place o) os) own.1), rest.once);
        long = omega (arith, rest.long);
      }

  -- mounts
  all_of_each : (class : AccessClass) (ms : List (Option Mount)) → Each (MountFits c class) ms → All (λ m. may_mount c.volumes class m ≡ true) ms
  all_of_each class [] each = All-nil (λ m. may_mount c.volumes class m ≡ true)
  all_of_each class (m ∷ ms) each = All-cons (λ n. may_mount c.volumes class n ≡ true) m ms each.0 (all_of_each class ms each.1)

  all_mounted : (rows : List GuestRow) (mss : List (List (Option Mount))) → Pairs (MountsFit c) rows mss → AllZip HasFour rows mss → AllZip (AreUnitsOf c.volumes) rows mss
  all_mounted [] [] fit four = tt
  all_mounted [] (ms ∷ mss) fit four = absurd four
  all_mounted (row ∷ rows) [] fit four = absurd four
  all_mounted (row ∷ rows) (ms ∷ mss) fit four = (record { four = four.0; may = all_of_each row.class ms fit.0 }, all_mounted rows mss fit.1 four.1)

  record Mounted (rows : List GuestRow) (mss : List (List (Option Mount))) : Type 0 where
    fit : Pairs (MountsFit c) rows mss
    four : AllZip HasFour rows mss

  mounted : (rows : List GuestRow) (mss : List (List (Option Mount))) → AllZip (AreUnitsOf c.volumes) rows mss → Mounted rows mss
  mounted [] [] are = record { fit = tt; four = tt }
  mounted [] (ms ∷ mss) are = absurd are
  mounted (row ∷ rows) [] are = absurd are
  mounted (row ∷ rows) (ms ∷ mss) are =
      let rest = mounted rows mss are.1 in
      record { fit = (each_of_all (MountFits c row.class) ms are.0.may, rest.fit); four = (are.0.four, rest.four) }

-- guests
all_halts : (gs : List Guest) → AllHalt gs → All (λ g. IsHalt g.state.halt) gs
all_halts [] halts = All-nil (λ (g : Guest). IsHalt g.state.halt)
all_halts (g ∷ gs) halts = All-cons (λ (h : Guest). IsHalt h.state.halt) g gs halts.0 (all_halts gs halts.1)

each_halts : (gs : List Guest) → All (λ g. IsHalt g.state.halt) gs → AllHalt gs
each_halts [] all = tt
each_halts (g ∷ gs) all = (All-head (λ (h : Guest). IsHalt h.state.halt) g gs all, each_halts gs (All-tail (λ (h : Guest). IsHalt h.state.halt) g gs all))

guests_halt : (rows : List GuestRow) (gs : List Guest) → AllZip IsGuestOf rows gs → AllHalt gs
guests_halt [] [] are = tt
guests_halt [] (g ∷ gs) are = absurd are
guests_halt (row ∷ rows) [] are = absurd are
guests_halt (row ∷ rows) (g ∷ gs) are = (are.0.is.halt, guests_halt rows gs are.1)

-- all together
right_by : (c : Config) (s : SystemState) → Fits c s → IsSoundSystem s → Shaped c s → IsConsistentState c s
right_by c s fits holds shaped = record {
  seated = all_sit c c.terminals s.connected fits.connected holds.once shaped.seats;
  mounted = all_mounted c c.guests s.mounts fits.mounts shaped.units;
  halts = all_halts s.guests holds.halts;
}

round_fits : (c : Config) (i : ℕ) (es : List Event) (s : SystemState) → Fits c s → Fits c (round c i es s).now
round_fits c i es s f = let g = fits_events c i s f (events_of i es) in record { connected = g.connected; mounts = g.mounts }

rounds_fit : (c : Config) (i n : ℕ) (es : List Event) (s : SystemState) → Fits c s → Fits c (rounds c i n es s).now
rounds_fit c i zero es s f = f
rounds_fit c i (suc n) es s f = rounds_fit c (suc i) n es (round c i es s).now (round_fits c i es s f)

pub consistent_fits : (c : Config) (s : SystemState) → IsConsistentState c s → Fits c s
consistent_fits c s right = record { connected = (seated c c.terminals s.connected right.seated).fit; mounts = (mounted c c.guests s.mounts right.mounted).fit }

pub rounds_keep_right : RoundsKeepConsistency
rounds_keep_right m es n right =
    let seats = seated m.config m.config.terminals m.state.connected right.seated in
    let mounts = mounted m.config m.config.guests m.state.mounts right.mounted in
    let holds : IsSoundSystem m.state = record { once = seats.once; halts = each_halts m.state.guests right.halts } in
    let shaped : Shaped m.config m.state = record { seats = seats.long; units = mounts.four } in
    right_by m.config (rounds m.config (m.made + 1) n es m.state).now
    (rounds_fit m.config (m.made + 1) n es m.state (consistent_fits m.config m.state right))
    (rounds_keep m.config (m.made + 1) n es m.state holds)
    (rounds_shaped m.config (m.made + 1) n es m.state shaped)

pub moments_stand_right : MomentsAreConsistent
moments_stand_right m is = record { seated = is.seated; mounted = is.mounted; halts = all_halts m.state.guests (guests_halt m.config.guests m.state.guests is.guests) }

pub opens_right : OpeningIsConsistent
opens_right x c = right_by x.config (first_state x.config x.images x.volumes)
    (first_fits x.config c.held x.images x.volumes)
    (record { once = once_first x.config.guests 0 x.config.terminals; halts = powered_halts x.config.guests x.images })
    (first_shaped x.config c.guests x.images x.volumes)

pub runs_stand_right : RunsAreConsistent
runs_stand_right x c = rounds_keep_right (record { config = x.config; made = 0; state = first_state x.config x.images x.volumes }) x.events x.rounds (opens_right x c)
