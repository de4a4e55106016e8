-- The transfers of all guests, one guest after another.
use Rattle.std.proofs.Common.{◌≡◌, ℕ, zero, suc, ◌+◌, ◌<◌, ◌≤◌, List, [], ◌∷◌, ◌++◌, length, map, drop, take, slice_index_or, All, Bool, Option, Some, refl, ap, ◌∙◌, sym, subst, arith, append-nil, append_assoc}
use Rattle.std.specs.List.{slice_get}
use Rattle.std.proofs.lemmas.List.{drop_all, length-map, take_all}
use Rattle.vax_hw.specs.Machine.{Machine}
use Rattle.vv_io.specs.Lines.{Seen}
use Rattle.vm_guest.specs.Kept.{IsShadowedIn, Kept, guest_in}
use Rattle.vm_state.specs.State.{Guest}
use Rattle.vm_state.specs.Touches.{Touching}
use Rattle.sys_guests.proofs.LaidOut.{placed_long}
use Rattle.sys_guests.proofs.Lists.{get_at, get_map, one_of_all}
use Rattle.sys_guests.proofs.One.{one_becomes}
use Rattle.sys_guests.proofs.Present.{set_present}
use Rattle.sys_guests.specs.Kernel.{AreUnits, IsKernel, Leads, kernel_state, scene}
use Rattle.sys_guests.specs.Layout.{AreInMachine, OnlyGuests, guests_in}
use Rattle.sys_guests.specs.Present.{HavePresent, KeepsAll}
use Rattle.sys_guests.specs.declared.kernel.Kernel.{Kernel}
use Rattle.sys_devices.specs.Shows.{Shows}
use Rattle.sys_devices.proofs.Showings.{shows_none, shows_same, shows_then}
use Rattle.sys_objects.specs.declared.records.Config.{Config}
use Rattle.sys_objects.specs.declared.records.GuestRow.{GuestRow}
use Rattle.sys_objects.specs.declared.records.Mount.{Mount}
use Rattle.sys_state.proofs.Consoles.{bytes_append}
use Rattle.sys_state.specs.FirstTouches.{touches_of_transfers}
use Rattle.sys_state.specs.Places.{changed}
use Rattle.sys_state.specs.State.{Put, SystemState, bytes_on}
use Rattle.sys_state.specs.Transfers.{AllServed, Served, all_served, transfers}
use Rattle.sys_transfers.specs.Serves.{MountsNameVolumes, guest_scene}
use Rattle.sys_transfers.specs.ServesAll.{ServesAt, ServesGuest, all_packets, all_touched}
use Rattle.sys_transfers.proofs.Places.{before_changed, after_changed, from_here, got_in_front}
use Rattle.sys_transfers.proofs.Sizes.{as_many, packets_keep_faults, packets_keep_sizes, sizes}
use Rattle.std.specs.Vec.{with_item}

-- the guest at a place
pub served_at : (k0 : Kernel) (place : ℕ) (row : GuestRow) (units : List (Option Mount)) (volumes : List (List (List ℕ))) (m : Machine) (k : Kept) (lines : List Seen) (volumes' : List (List (List ℕ))) (m' : Machine) (k' : Kept) (marks' : List Bool) (lines' : List Seen)
    → place < length k0.config.guests → row ≡ slice_index_or k0.config.guests place row → place < length k0.server.mounts → units ≡ slice_index_or k0.server.mounts place units → k ≡ slice_index_or k0.guests.items place k → AreInMachine k0.config.guests m.memory k0.guests.items
    → ServesGuest k0.config row units (guest_scene volumes m k) (guest_scene volumes' m' k') → Shows k0.marks marks' lines lines' (λ line. bytes_on line (all_packets k0.config row units (guest_in m.memory k) volumes).puts)
    → ServesAt place (scene m k0 lines) volumes (scene m' (record k0 { guests = with_item k0.guests place k'; marks = marks' }) lines') volumes'
served_at k0 place row units volumes m k lines volumes' m' k' marks' lines' there row_is there' units_is k_is placed x shows =
    let c : Config = k0.config in
    let ks : List Kept = k0.guests.items in
    let long : length ks ≡ length c.guests = placed_long _ _ c.guests ks placed.laid_out in
    let within : place < length ks = omega (arith, there, long) in
    record {
      row = row;
      has_row = get_at c.guests place row there row_is;
      units = units;
      has_units = get_at k0.server.mounts place units there' units_is;
      guest = guest_in m.memory k;
      has_guest = get_map (guest_in m.memory) ks place k within k_is;
      changes = one_becomes c.guests place (λ g. (all_packets c row units g volumes).guest) ks k k' m m' within k_is placed (packets_keep_faults c row units (guest_in m.memory k) volumes) x.becomes;
      volumes_are = x.volumes_are;
      shows = shows;
      rest = refl;
      machine = x.becomes.rest;
      present = set_present ks place k k' (all_touched c row units (guest_in m.memory k) volumes) within k_is x.present;
    }

-- it is in the machine
pub stands_at : (c : Config) (place : ℕ) (memory : List ℕ) (ks : List Kept) (k : Kept) → place < length c.guests → k ≡ slice_index_or ks place k → AreInMachine c.guests memory ks → IsShadowedIn memory k
stands_at c place memory ks k there k_is placed =
    let long : length ks ≡ length c.guests = placed_long _ _ c.guests ks placed.laid_out in
    one_of_all (λ (y : Kept). IsShadowedIn memory y) ks place k (omega (arith, there, long)) k_is placed.stand

-- what is mounted at its units are volumes
pub units_mounted : (mounts : List (List (Option Mount))) (place : ℕ) (units : List (Option Mount)) (volumes : List (List (List ℕ))) → place < length mounts → units ≡ slice_index_or mounts place units → All (AreUnits (length volumes)) mounts → MountsNameVolumes units volumes
units_mounted mounts place units volumes there is all = (one_of_all (AreUnits (length volumes)) mounts place units there is all).mounted

-- one guest more, and none
next_is : (c : Config) (row : GuestRow) (rows : List GuestRow) (units : List (Option Mount)) (mounts : List (List (Option Mount))) (g : Guest) (gs : List Guest) (vs : List (List (List ℕ))) →
    let one : Served = all_packets c row units g vs in
    let more : AllServed = all_served c rows mounts gs one.volumes in
    all_served c (row ∷ rows) (units ∷ mounts) (g ∷ gs) vs ≡ record { guests = one.guest ∷ more.guests; volumes = more.volumes; puts = one.puts ++ more.puts }
unfolding all_packets
next_is c row rows units mounts g gs vs = refl

next_at : (c : Config) (rows : List GuestRow) (mounts : List (List (Option Mount))) (gs : List Guest) (i : ℕ) (row : GuestRow) (units : List (Option Mount)) (g : Guest) (vs : List (List (List ℕ))) → slice_get rows i ≡ Some row → slice_get mounts i ≡ Some units → slice_get gs i ≡ Some g →
    let one : Served = all_packets c row units g vs in
    let more : AllServed = all_served c (drop (i + 1) rows) (drop (i + 1) mounts) (drop (i + 1) gs) one.volumes in
    all_served c (drop i rows) (drop i mounts) (drop i gs) vs ≡ record { guests = one.guest ∷ more.guests; volumes = more.volumes; puts = one.puts ++ more.puts }
next_at c rows mounts gs i row units g vs has_row has_units has_guest =
    (λ j. all_served c (from_here rows i row has_row j) (from_here mounts i units has_units j) (from_here gs i g has_guest j) vs) ∙ next_is c row (drop (i + 1) rows) units (drop (i + 1) mounts) g (drop (i + 1) gs) vs

-- first touches after one guest's packets more
next_touch : (c : Config) (row : GuestRow) (rows : List GuestRow) (units : List (Option Mount)) (mounts : List (List (Option Mount))) (g : Guest) (gs : List Guest) (vs : List (List (List ℕ))) (t : Touching) (ts : List Touching) →
    touches_of_transfers c (row ∷ rows) (units ∷ mounts) (g ∷ gs) vs (t ∷ ts) ≡ all_touched c row units g vs t ∷ touches_of_transfers c rows mounts gs (all_packets c row units g vs).volumes ts
unfolding all_packets all_touched
next_touch c row rows units mounts g gs vs t ts = refl

touch_at : (c : Config) (rows : List GuestRow) (mounts : List (List (Option Mount))) (gs : List Guest) (i : ℕ) (row : GuestRow) (units : List (Option Mount)) (g : Guest) (vs : List (List (List ℕ))) (t : Touching) (ts : List Touching) → slice_get rows i ≡ Some row → slice_get mounts i ≡ Some units → slice_get gs i ≡ Some g → slice_get ts i ≡ Some t →
    touches_of_transfers c (drop i rows) (drop i mounts) (drop i gs) vs (drop i ts) ≡ all_touched c row units g vs t ∷ touches_of_transfers c (drop (i + 1) rows) (drop (i + 1) mounts) (drop (i + 1) gs) (all_packets c row units g vs).volumes (drop (i + 1) ts)
touch_at c rows mounts gs i row units g vs t ts has_row has_units has_guest has_touch =
    (λ j. touches_of_transfers c (from_here rows i row has_row j) (from_here mounts i units has_units j) (from_here gs i g has_guest j) vs (from_here ts i t has_touch j)) ∙ next_touch c row (drop (i + 1) rows) units (drop (i + 1) mounts) g (drop (i + 1) gs) vs t (drop (i + 1) ts)

-- a state of first touches for each guest
touch_there : (ks : List Kept) (ts : List Touching) (i : ℕ) → i < length ks → HavePresent ks ts → (t : Touching) × (slice_get ts i ≡ Some t)
touch_there [] ts i h all = absurd (omega (arith, h))
touch_there (k ∷ ks) [] i h all = absurd all
touch_there (k ∷ ks) (t ∷ ts) zero h all = (t, refl)
touch_there (k ∷ ks) (t ∷ ts) (suc i) h all = touch_there ks ts i (omega (arith, h)) all.1

pub touches_long : (ks : List Kept) (ts : List Touching) → HavePresent ks ts → length ts ≡ length ks
touches_long [] [] all = refl
touches_long [] (t ∷ ts) all = absurd all
touches_long (k ∷ ks) [] all = absurd all
touches_long (k ∷ ks) (t ∷ ts) all = ap suc (touches_long ks ts all.1)

module _ (k : Kernel) (volumes : List (List (List ℕ))) (m : Machine) (lines : List Seen) where
  abbrev c : Config
  c = k.config

  abbrev before : SystemState
  before = kernel_state m.memory k volumes

  abbrev whole : AllServed
  whole = all_served c c.guests before.mounts before.guests volumes

  -- the guests from a place on
  abbrev pub rest : ℕ → List Guest → List (List (List ℕ)) → AllServed
  rest i gs vs = all_served c (drop i c.guests) (drop i before.mounts) (drop i gs) vs

  -- first touches of all guests, and of those from a place on
  abbrev all_left : List Touching → List Touching
  all_left ts = touches_of_transfers c c.guests before.mounts before.guests volumes ts

  abbrev some_left : ℕ → List Guest → List (List (List ℕ)) → List Touching → List Touching
  some_left i gs vs ts = touches_of_transfers c (drop i c.guests) (drop i before.mounts) (drop i gs) vs (drop i ts)

  pub record Reaches (i : ℕ) (vs : List (List (List ℕ))) (m1 : Machine) (ks1 : List Kept) (ts : List Touching) : Type 0 where
    pub at : List Touching
    pub has : HavePresent ks1 at
    pub is : take i at ++ some_left i (guests_in m1.memory ks1) vs at ≡ all_left ts

  -- as far as the guests before this one
  pub record SoFar (i : ℕ) (vs : List (List (List ℕ))) (m1 : Machine) (ks1 : List Kept) (marks1 : List Bool) (lines1 : List Seen) : Type 0 where
    pub puts : List Put
    pub guests : take i (guests_in m1.memory ks1) ++ (rest i (guests_in m1.memory ks1) vs).guests ≡ whole.guests
    pub volumes_are : (rest i (guests_in m1.memory ks1) vs).volumes ≡ whole.volumes
    pub puts_are : puts ++ (rest i (guests_in m1.memory ks1) vs).puts ≡ whole.puts
    pub shows : Shows k.marks marks1 lines lines1 (λ j. bytes_on j puts)
    pub placed : AreInMachine c.guests m1.memory ks1
    pub machine : m1 ≡ record m { memory = m1.memory }
    pub only : OnlyGuests c.guests m.memory m1.memory
    pub size : length m1.memory ≡ length m.memory
    pub sizes_are : sizes vs ≡ sizes volumes
    pub present : (ts : List Touching) → HavePresent k.guests.items ts → Reaches i vs m1 ks1 ts

  pub none_served : AreInMachine c.guests m.memory k.guests.items → SoFar 0 volumes m k.guests.items k.marks lines
  none_served placed = record {
    puts = [];
    guests = refl;
    volumes_are = refl;
    puts_are = refl;
    shows = shows_none k.marks lines;
    placed = placed;
    machine = refl;
    only = λ p beyond. refl;
    size = refl;
    sizes_are = refl;
    present = λ ts all. record { at = ts; has = all; is = refl };
  }

  -- one guest more
  pub one_more : (i : ℕ) (vs vs2 : List (List (List ℕ))) (m1 : Machine) (k1 : Kernel) (lines1 : List Seen) (m2 : Machine) (k2 : Kernel) (lines2 : List Seen) → i < length c.guests → SoFar i vs m1 k1.guests.items k1.marks lines1
      → ServesAt i (scene m1 (record k { guests = k1.guests; marks = k1.marks }) lines1) vs (scene m2 k2 lines2) vs2 → SoFar (i + 1) vs2 m2 k2.guests.items k2.marks lines2
  one_more i vs vs2 m1 k1 lines1 m2 k2 lines2 h x y = record {
    puts = x.puts ++ one.puts;
    guests = (λ j. done j ++ (sym later j).guests) ∙ append_assoc (take i gs1) (one.guest ∷ []) beyond.guests ∙ ap (λ (s : AllServed). take i gs1 ++ s.guests) (sym first) ∙ x.guests;
    volumes_are = ap (λ (s : AllServed). s.volumes) (sym later) ∙ ap (λ (s : AllServed). s.volumes) (sym first) ∙ x.volumes_are;
    puts_are = append_assoc x.puts one.puts (rest (i + 1) gs2 vs2).puts ∙ ap (λ (s : AllServed). x.puts ++ (one.puts ++ s.puts)) (sym later) ∙ ap (λ (s : AllServed). x.puts ++ s.puts) (sym first) ∙ x.puts_are;
    shows = shows_same k.marks k2.marks lines lines2 (λ j. bytes_on j x.puts ++ bytes_on j one.puts) (λ j. bytes_on j (x.puts ++ one.puts)) (λ j. sym (bytes_append j x.puts one.puts)) (shows_then x.shows y.shows);
    placed = y.changes.stay;
    machine = y.machine ∙ (λ j. record (x.machine j) { memory = m2.memory });
    only = λ p beyond. y.changes.only p beyond ∙ x.only p beyond;
    size = y.changes.size ∙ x.size;
    sizes_are = ap sizes y.volumes_are ∙ packets_keep_sizes c y.row y.units y.guest vs ∙ x.sizes_are;
    present = λ ts all. let r = x.present ts all in one_touched ts r;
  }
    where
      gs1 : List Guest
      gs1 = guests_in m1.memory k1.guests.items

      gs2 : List Guest
      gs2 = guests_in m2.memory k2.guests.items

      one : Served
      one = all_packets c y.row y.units y.guest vs

      beyond : AllServed
      beyond = all_served c (drop (i + 1) c.guests) (drop (i + 1) before.mounts) (drop (i + 1) gs1) one.volumes

      f : Guest → Guest
      f g = (all_packets c y.row y.units g vs).guest

      first : rest i gs1 vs ≡ record { guests = one.guest ∷ beyond.guests; volumes = beyond.volumes; puts = one.puts ++ beyond.puts }
      first = next_at c c.guests before.mounts gs1 i y.row y.units y.guest vs y.has_row (got_in_front (length c.guests) k.server.mounts i y.units h y.has_units) y.has_guest

      changes : gs2 ≡ changed f gs1 i
      changes = y.changes.guests

      done : take (i + 1) gs2 ≡ take i gs1 ++ one.guest ∷ []
      done = ap (take (i + 1)) changes ∙ before_changed f gs1 i y.guest y.has_guest

      one_touched : (ts : List Touching) → Reaches i vs m1 k1.guests.items ts → Reaches (i + 1) vs2 m2 k2.guests.items ts
      one_touched ts r =
          let there : i < length k1.guests.items = omega (arith, h, placed_long _ _ c.guests k1.guests.items x.placed.laid_out) in
          let (t, has_touch) = touch_there k1.guests.items r.at i there r.has in
          let at2 : List Touching = changed (all_touched c y.row y.units y.guest vs) r.at i in
          let front : take (i + 1) at2 ≡ take i r.at ++ all_touched c y.row y.units y.guest vs t ∷ [] = before_changed (all_touched c y.row y.units y.guest vs) r.at i t has_touch in
          let back : drop (i + 1) at2 ≡ drop (i + 1) r.at = after_changed (all_touched c y.row y.units y.guest vs) r.at i in
          let now : some_left (i + 1) gs2 vs2 at2 ≡ touches_of_transfers c (drop (i + 1) c.guests) (drop (i + 1) before.mounts) (drop (i + 1) gs1) one.volumes (drop (i + 1) r.at) =
          λ j. touches_of_transfers c (drop (i + 1) c.guests) (drop (i + 1) before.mounts) ((ap (drop (i + 1)) changes ∙ after_changed f gs1 i) j) (y.volumes_are j) (back j) in
          let here = touch_at c c.guests before.mounts gs1 i y.row y.units y.guest vs t r.at y.has_row (got_in_front (length c.guests) k.server.mounts i y.units h y.has_units) y.has_guest has_touch in
          record {
            at = at2;
            has = y.present r.at r.has;
            is = (λ j. front j ++ now j) ∙ append_assoc (take i r.at) (all_touched c y.row y.units y.guest vs t ∷ []) (touches_of_transfers c (drop (i + 1) c.guests) (drop (i + 1) before.mounts) (drop (i + 1) gs1) one.volumes (drop (i + 1) r.at))
                ∙ ap (λ (us : List Touching). take i r.at ++ us) (sym here) ∙ r.is;
          }

      later : beyond ≡ rest (i + 1) gs2 vs2
      later = λ j. all_served c (drop (i + 1) c.guests) (drop (i + 1) before.mounts) (sym (ap (drop (i + 1)) changes ∙ after_changed f gs1 i) j) (sym y.volumes_are j)

  -- it is a kernel still
  pub kernel_still : (i : ℕ) (vs : List (List (List ℕ))) (m1 : Machine) (k1 : Kernel) (lines1 : List Seen) → IsKernel m.memory k → k1 ≡ record k { guests = k1.guests; marks = k1.marks } → SoFar i vs m1 k1.guests.items k1.marks lines1 → IsKernel m1.memory k1
  kernel_still i vs m1 k1 lines1 holds is x = subst (λ (y : Kernel). IsKernel m1.memory y) (sym is) (record {
    accepted = holds.accepted;
    placed = x.placed;
    terminals = holds.terminals;
    guests = holds.guests;
    consoles = holds.consoles;
    beyond = holds.beyond;
    mounts = holds.mounts;
  })

  -- all are served
  pub all_guests_served : (i : ℕ) (vs : List (List (List ℕ))) (m1 : Machine) (k1 : Kernel) (lines1 : List Seen) → IsKernel m.memory k → length k.guests.items ≤ i → k1 ≡ record k { guests = k1.guests; marks = k1.marks } → SoFar i vs m1 k1.guests.items k1.marks lines1
      → Leads (transfers c before) (scene m k lines) (scene m1 k1 lines1) vs
  all_guests_served i vs m1 k1 lines1 holds over is x = record {
    state = (λ j. kernel_state m1.memory (is j) vs) ∙ (λ j. record before { guests = all_now j; volumes = (ap (λ (s : AllServed). s.volumes) (sym none) ∙ x.volumes_are) j });
    shows = shows_same k.marks k1.marks lines lines1 (λ j. bytes_on j x.puts) (λ j. bytes_on j whole.puts) (λ j. ap (bytes_on j) (sym (append-nil x.puts) ∙ ap (λ (s : AllServed). x.puts ++ s.puts) (sym none) ∙ x.puts_are)) x.shows;
    holds = kernel_still i vs m1 k1 lines1 holds is x;
    config = ap (λ (y : Kernel). y.config) is;
    machine = x.machine;
    only = x.only;
    size = x.size;
  }
    where
      gs1 : List Guest
      gs1 = guests_in m1.memory k1.guests.items

      h : length c.guests ≤ i
      h = let long : length k.guests.items ≡ length c.guests = placed_long _ _ c.guests k.guests.items holds.placed.laid_out in omega (arith, long, over)

      none : rest i gs1 vs ≡ record { guests = []; volumes = vs; puts = [] }
      none = ap (λ (rows : List GuestRow). all_served c rows (drop i before.mounts) (drop i gs1) vs) (drop_all i c.guests h)

      all_there : length gs1 ≤ i
      all_there =
          let many : length gs1 ≡ length k1.guests.items = length-map k1.guests.items (guest_in m1.memory) in
          let long : length k1.guests.items ≡ length c.guests = placed_long _ _ c.guests k1.guests.items x.placed.laid_out in
          omega (arith, many, long, h)

      all_now : gs1 ≡ whole.guests
      all_now = sym (append-nil gs1) ∙ ap (λ (xs : List Guest). xs ++ []) (sym (take_all i gs1 all_there)) ∙ ap (λ (s : AllServed). take i gs1 ++ s.guests) (sym none) ∙ x.guests

-- what is present after all transfers has entries
pub all_present : (k : Kernel) (volumes : List (List (List ℕ))) (m : Machine) (lines : List Seen) (i : ℕ) (vs : List (List (List ℕ))) (m1 : Machine) (ks1 : List Kept) (marks1 : List Bool) (lines1 : List Seen) → length k.config.guests ≤ i → SoFar k volumes m lines i vs m1 ks1 marks1 lines1
    → KeepsAll (touches_of_transfers k.config k.config.guests (kernel_state m.memory k volumes).mounts (guests_in m.memory k.guests.items) volumes) k.guests.items ks1
all_present k volumes m lines i vs m1 ks1 marks1 lines1 over x ts all =
    let r = x.present ts all in
    let long : length r.at ≡ length k.config.guests = touches_long ks1 r.at r.has ∙ placed_long _ _ k.config.guests ks1 x.placed.laid_out in
    let mounts = (kernel_state m.memory k volumes).mounts in
    let gs1 = guests_in m1.memory ks1 in
    let none : touches_of_transfers k.config (drop i k.config.guests) (drop i mounts) (drop i gs1) vs (drop i r.at) ≡ [] = ap (λ (rows : List GuestRow). touches_of_transfers k.config rows (drop i mounts) (drop i gs1) vs (drop i r.at)) (drop_all i k.config.guests over) in
    subst (λ (us : List Touching). HavePresent ks1 us) (sym (append-nil r.at) ∙ ap (λ (us : List Touching). us ++ []) (sym (take_all i r.at (omega (arith, long, over)))) ∙ ap (λ (us : List Touching). take i r.at ++ us) (sym none) ∙ r.is) r.has

-- each volume has as many blocks as before
pub sizes_kept : (k : Kernel) (volumes : List (List (List ℕ))) (m : Machine) (lines : List Seen) (i : ℕ) (vs : List (List (List ℕ))) (m1 : Machine) (ks1 : List Kept) (marks1 : List Bool) (lines1 : List Seen) → SoFar k volumes m lines i vs m1 ks1 marks1 lines1 → map length vs ≡ map length volumes
sizes_kept k volumes m lines i vs m1 ks1 marks1 lines1 x = x.sizes_are

-- The kernel's configuration and server stay through the loop.
module _ (k k1 : Kernel) (is : k1 ≡ record k { guests = k1.guests; marks = k1.marks }) where
  same_config : k1.config ≡ k.config
  same_config = ap (λ (y : Kernel). y.config) is

  pub loop_there : (memory : List ℕ) (i : ℕ) → IsKernel memory k → i < length k.guests.items → i < length k.config.guests
  loop_there memory i holds h = let long : length k.guests.items ≡ length k.config.guests = placed_long _ _ k.config.guests k.guests.items holds.placed.laid_out in omega (arith, long, h)

  pub there_same : (memory : List ℕ) (i : ℕ) → IsKernel memory k → i < length k.guests.items → i < length k1.config.guests
  there_same memory i holds h = subst (λ (y : Config). i < length y.guests) (sym same_config) (loop_there memory i holds h)

  pub volumes_same : (vs volumes : List (List (List ℕ))) → sizes vs ≡ sizes volumes → length volumes ≡ length k.config.volumes → length vs ≡ length k1.config.volumes
  volumes_same vs volumes same many = as_many vs volumes same ∙ many ∙ ap (λ (y : Config). length y.volumes) (sym same_config)

  pub one_more_of : (volumes : List (List (List ℕ))) (m : Machine) (lines : List Seen) (i : ℕ) (vs vs2 : List (List (List ℕ))) (m1 : Machine) (lines1 : List Seen) (m2 : Machine) (k2 : Kernel) (lines2 : List Seen) → i < length k.config.guests → SoFar k volumes m lines i vs m1 k1.guests.items k1.marks lines1
      → ServesAt i (scene m1 k1 lines1) vs (scene m2 k2 lines2) vs2 → SoFar k volumes m lines (i + 1) vs2 m2 k2.guests.items k2.marks lines2
  one_more_of volumes m lines i vs vs2 m1 lines1 m2 k2 lines2 h x y =
      one_more k volumes m lines i vs vs2 m1 k1 lines1 m2 k2 lines2 h x (subst (λ (z : Kernel). ServesAt i (scene m1 z lines1) vs (scene m2 k2 lines2) vs2) is y)

pub as_many_guests : (c : Config) (memory : List ℕ) (ks : List Kept) → AreInMachine c.guests memory ks → length ks ≡ length c.guests
as_many_guests c memory ks placed = placed_long _ _ c.guests ks placed.laid_out

pub all_places : (k : Kernel) (memory : List ℕ) (i : ℕ) → IsKernel memory k → length k.guests.items ≤ i → length k.config.guests ≤ i
all_places k memory i holds over = let long : length k.guests.items ≡ length k.config.guests = placed_long _ _ k.config.guests k.guests.items holds.placed.laid_out in omega (arith, long, over)
