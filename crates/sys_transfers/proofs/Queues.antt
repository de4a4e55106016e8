-- A guest's packets, one after another.
use Rattle.std.proofs.Common.{◌≡◌, ℕ, ◌+◌, ◌*◌, ◌%◌, ◌<◌, ◌≤◌, List, [], ◌∷◌, ◌++◌, length, drop, slice_index_or, All, Bool, Option, refl, ap, ◌∙◌, sym, subst, arith, append-nil, append_assoc}
use Rattle.std.specs.Prelude.{IfSome}
use Rattle.std.proofs.lemmas.List.{at_drop_all, at_drop_more}
use Rattle.vax_hw.specs.Machine.{Machine}
use Rattle.vv_io.specs.Lines.{Seen}
use Rattle.vm_simulation_laws.specs.Present.{HasPresent}
use Rattle.vm_simulation_laws.proofs.Fitting.{writes_keep}
use Rattle.vm_simulation_laws.proofs.Own.{moves_alone}
use Rattle.vm_guest.specs.Kept.{Becomes, IsShadowedIn, Kept, TakesState, guest_in}
use Rattle.vm_state.specs.Allowed.{IsPacket}
use Rattle.vm_state.specs.State.{Guest, state_of, tables_of}
use Rattle.vm_state.specs.Touches.{Present, Touching, touching_write}
use Rattle.sys_devices.specs.Shows.{Shows}
use Rattle.sys_devices.proofs.Showings.{shows_none, shows_same, shows_then}
use Rattle.sys_objects.specs.declared.records.Config.{Config}
use Rattle.sys_objects.specs.declared.records.GuestRow.{GuestRow}
use Rattle.sys_objects.specs.declared.records.Mount.{Mount}
use Rattle.sys_state.proofs.Consoles.{bytes_append}
use Rattle.sys_state.specs.FirstTouches.{touches_of_queue}
use Rattle.sys_state.specs.Guests.{with_no_queue}
use Rattle.sys_state.specs.State.{Put, bytes_on}
use Rattle.sys_state.specs.Transfers.{Served, printer_of, served}
use Rattle.sys_transfers.specs.Serves.{MountsNameVolumes, ServesOne, frames_served, guest_scene, job_on, one_packet}
use Rattle.sys_transfers.specs.ServesAll.{ServesGuest, all_packets, all_touched}
use Rattle.sys_transfers.proofs.Composing.{becomes_as, becomes_then, becomes_turned}
use Rattle.sys_transfers.proofs.Sizes.{as_many, one_keeps_sizes, sizes}

-- mounts name volumes of as many
pub mounted_still : (units : List (Option Mount)) (xs ys : List (List (List ℕ))) → sizes ys ≡ sizes xs → MountsNameVolumes units xs → MountsNameVolumes units ys
mounted_still units xs ys same mounted = subst (λ n. All (λ m. IfSome m (λ (x : Mount). x.volume < n)) units) (sym (as_many ys xs same)) mounted

-- what is served of a queue, packet by packet
all_are : (c : Config) (row : GuestRow) (units : List (Option Mount)) (g : Guest) (volumes : List (List (List ℕ))) → served c row units (with_no_queue g) (drop 0 g.state.queue) volumes ≡ all_packets c row units g volumes
unfolding all_packets
all_are c row units g volumes = refl

next_is : (c : Config) (row : GuestRow) (units : List (Option Mount)) (g : Guest) (at : ℕ) (queue : List ℕ) (volumes : List (List (List ℕ))) →
    let one : Served = one_packet c row units g at volumes in
    let more : Served = served c row units one.guest queue one.volumes in
    served c row units g (at ∷ queue) volumes ≡ record { guest = more.guest; volumes = more.volumes; puts = one.puts ++ more.puts }
unfolding one_packet
next_is c row units g at queue volumes = refl

next_at : (c : Config) (row : GuestRow) (units : List (Option Mount)) (g : Guest) (at : ℕ) (queue : List ℕ) (n d : ℕ) (volumes : List (List (List ℕ))) → n < length queue → at ≡ slice_index_or queue n d →
    let one : Served = one_packet c row units g at volumes in
    let more : Served = served c row units one.guest (drop (n + 1) queue) one.volumes in
    served c row units g (drop n queue) volumes ≡ record { guest = more.guest; volumes = more.volumes; puts = one.puts ++ more.puts }
next_at c row units g at queue n d volumes h is =
    at_drop_more (λ (q : List ℕ). served c row units g q volumes) queue n d h ∙ ap (λ (a : ℕ). served c row units g (a ∷ drop (n + 1) queue) volumes) (sym is) ∙ next_is c row units g at (drop (n + 1) queue) volumes

none_at : (c : Config) (row : GuestRow) (units : List (Option Mount)) (g : Guest) (queue : List ℕ) (n : ℕ) (volumes : List (List (List ℕ))) → length queue ≤ n → served c row units g (drop n queue) volumes ≡ record { guest = g; volumes = volumes; puts = [] }
none_at c row units g queue n volumes h = at_drop_all (λ (q : List ℕ). served c row units g q volumes) queue n h

-- first touches after a queue, packet by packet
all_touches : (c : Config) (row : GuestRow) (units : List (Option Mount)) (g : Guest) (volumes : List (List (List ℕ))) (t : Touching) → touches_of_queue c row units (with_no_queue g) (drop 0 g.state.queue) volumes t ≡ all_touched c row units g volumes t
unfolding all_touched
all_touches c row units g volumes t = refl

next_touches : (c : Config) (row : GuestRow) (units : List (Option Mount)) (g : Guest) (at : ℕ) (queue : List ℕ) (volumes : List (List (List ℕ))) (t : Touching) →
    let one : Served = one_packet c row units g at volumes in
    touches_of_queue c row units g (at ∷ queue) volumes t ≡ touches_of_queue c row units one.guest queue one.volumes (record t { present = touching_write g (frames_served units g at volumes) t.present })
unfolding one_packet frames_served
next_touches c row units g at queue volumes t = refl

touches_at : (c : Config) (row : GuestRow) (units : List (Option Mount)) (g : Guest) (at : ℕ) (queue : List ℕ) (n d : ℕ) (volumes : List (List (List ℕ))) (t : Touching) → n < length queue → at ≡ slice_index_or queue n d →
    let one : Served = one_packet c row units g at volumes in
    touches_of_queue c row units g (drop n queue) volumes t ≡ touches_of_queue c row units one.guest (drop (n + 1) queue) one.volumes (record t { present = touching_write g (frames_served units g at volumes) t.present })
touches_at c row units g at queue n d volumes t h is =
    at_drop_more (λ (q : List ℕ). touches_of_queue c row units g q volumes t) queue n d h ∙ ap (λ (a : ℕ). touches_of_queue c row units g (a ∷ drop (n + 1) queue) volumes t) (sym is) ∙ next_touches c row units g at (drop (n + 1) queue) volumes t

-- what is present after a packet has entries
one_present : (row : GuestRow) (units : List (Option Mount)) (at : ℕ) (vs vs2 : List (List (List ℕ))) (m1 : Machine) (k1 : Kept) (job : Option (List ℕ)) (m2 : Machine) (k2 : Kept) (p : Present) → IsShadowedIn m1.memory k1 → IsShadowedIn m2.memory k2 → ServesOne row units at (guest_scene vs m1 k1) job (guest_scene vs2 m2 k2) → at % 4 ≡ 0 → HasPresent k1.shadow p
    → HasPresent k2.shadow (touching_write (guest_in m1.memory k1) (frames_served units (guest_in m1.memory k1) at vs) p)
one_present row units at vs vs2 m1 k1 job m2 k2 p before after serves aligned has =
    let frames = frames_served units (guest_in m1.memory k1) at vs in
    let drops = serves.drops aligned in
    writes_keep m1.memory k1.shadow k1.state frames p k2.shadow before.keeps before.serves (moves_alone frames m2.memory k1.shadow k2.shadow (tables_of k1.state) after.keeps.fits (drops.told ∙ before.serves.told) drops) has

module _ (c : Config) (row : GuestRow) (units : List (Option Mount)) (volumes : List (List (List ℕ))) (m : Machine) (k : Kept) (marks : List Bool) (lines : List Seen) where
  abbrev g : Guest
  g = guest_in m.memory k

  abbrev queue : List ℕ
  queue = k.state.queue.items

  abbrev whole : Served
  whole = all_packets c row units g volumes

  -- what is left to be served
  abbrev pub left : ℕ → Guest → List (List (List ℕ)) → Served
  left n h vs = served c row units h (drop n queue) vs

  -- first touches, with what is left to be served
  pub record Reaches (n : ℕ) (vs : List (List (List ℕ))) (m1 : Machine) (k1 : Kept) (t : Touching) : Type 0 where
    pub at : Touching
    pub has : HasPresent k1.shadow at.present
    pub is : touches_of_queue c row units (guest_in m1.memory k1) (drop n queue) vs at ≡ all_touched c row units g volumes t

  -- as far as the packets before this one
  pub record SoFar (n : ℕ) (vs : List (List (List ℕ))) (m1 : Machine) (k1 : Kept) (marks1 : List Bool) (lines1 : List Seen) : Type 0 where
    pub puts : List Put
    pub becomes : Becomes (guest_in m1.memory k1) m k m1 k1
    pub guest : (left n (guest_in m1.memory k1) vs).guest ≡ whole.guest
    pub volumes_are : (left n (guest_in m1.memory k1) vs).volumes ≡ whole.volumes
    pub puts_are : puts ++ (left n (guest_in m1.memory k1) vs).puts ≡ whole.puts
    pub shows : Shows marks marks1 lines lines1 (λ j. bytes_on j puts)
    pub sizes_are : sizes vs ≡ sizes volumes
    pub present : (t : Touching) → HasPresent k.shadow t.present → Reaches n vs m1 k1 t

  -- the queue is taken
  pub none_served : (k1 : Kept) → IsShadowedIn m.memory k → TakesState (record (state_of k.state) { queue = [] }) k k1 → SoFar 0 volumes m k1 marks lines
  none_served k1 stands turns =
      let taken : Becomes (with_no_queue g) m k m k1 = becomes_turned m k (record (state_of k.state) { queue = [] }) k1 stands turns in
      let at : (vs : List (List (List ℕ))) → left 0 (guest_in m.memory k1) vs ≡ left 0 (with_no_queue g) vs = λ vs. ap (λ (h : Guest). left 0 h vs) taken.guest in
      record {
        puts = [];
        becomes = becomes_as (with_no_queue g) (guest_in m.memory k1) m k m k1 (sym taken.guest) taken;
        guest = ap (λ (s : Served). s.guest) (at volumes ∙ all_are c row units g volumes);
        volumes_are = ap (λ (s : Served). s.volumes) (at volumes ∙ all_are c row units g volumes);
        puts_are = ap (λ (s : Served). s.puts) (at volumes ∙ all_are c row units g volumes);
        shows = shows_none marks lines;
        sizes_are = refl;
        present = λ t all. record {
          at = t;
          has = subst (λ s. HasPresent s t.present) (sym turns.shadow) all;
          is = ap (λ (h : Guest). touches_of_queue c row units h (drop 0 queue) volumes t) taken.guest ∙ all_touches c row units g volumes t;
        };
      }

  -- the packets that wait lie in memory
  pub packet_inside : (n : ℕ) (vs : List (List (List ℕ))) (m1 : Machine) (k1 : Kept) (marks1 : List Bool) (lines1 : List Seen) (items : List ℕ) (d : ℕ) → IsShadowedIn m.memory k → items ≡ queue → n < length items → SoFar n vs m1 k1 marks1 lines1 → slice_index_or items n d + 24 ≤ 512 * k1.state.pages
  packet_inside n vs m1 k1 marks1 lines1 items d stands same h x =
      let packet : IsPacket (512 * k.state.pages) (slice_index_or items n d) = subst (λ (xs : List ℕ). IsPacket (512 * k.state.pages) (slice_index_or xs n d)) (sym same) (stands.allowed.packets n d (subst (λ (xs : List ℕ). n < length xs) same h)) in
      omega (arith, packet.1, x.becomes.place.pages)

  -- one packet more
  pub one_more : (n : ℕ) (vs vs2 : List (List (List ℕ))) (m1 : Machine) (k1 : Kept) (marks1 : List Bool) (lines1 : List Seen) (items : List ℕ) (d at : ℕ) (job : Option (List ℕ)) (m2 : Machine) (k2 : Kept) (marks2 : List Bool) (lines2 : List Seen) → IsShadowedIn m.memory k → items ≡ queue → n < length items → at ≡ slice_index_or items n d → SoFar n vs m1 k1 marks1 lines1
      → ServesOne row units at (guest_scene vs m1 k1) job (guest_scene vs2 m2 k2) → Shows marks1 marks2 lines1 lines2 (λ j. bytes_on j (job_on (printer_of c row.printer) job)) → SoFar (n + 1) vs2 m2 k2 marks2 lines2
  one_more n vs vs2 m1 k1 marks1 lines1 items d at job m2 k2 marks2 lines2 stands same h is x serves shown = record {
    puts = x.puts ++ one.puts;
    becomes = becomes_then m k (guest_in m1.memory k1) m1 k1 (guest_in m2.memory k2) m2 k2 stands x.becomes (becomes_as one.guest (guest_in m2.memory k2) m1 k1 m2 k2 (sym served_now.guest) served_now);
    guest = ap (λ (s : Served). s.guest) (sym rest) ∙ ap (λ (s : Served). s.guest) (sym first) ∙ x.guest;
    volumes_are = ap (λ (s : Served). s.volumes) (sym rest) ∙ ap (λ (s : Served). s.volumes) (sym first) ∙ x.volumes_are;
    puts_are = append_assoc x.puts one.puts (left (n + 1) (guest_in m2.memory k2) vs2).puts ∙ ap (λ (s : Served). x.puts ++ (one.puts ++ s.puts)) (sym rest) ∙ ap (λ (s : Served). x.puts ++ s.puts) (sym first) ∙ x.puts_are;
    shows = shows_same marks marks2 lines lines2 (λ j. bytes_on j x.puts ++ bytes_on j (job_on (printer_of c row.printer) job)) (λ j. bytes_on j (x.puts ++ one.puts)) told (shows_then x.shows shown);
    sizes_are = ap sizes (serves.volumes_are c) ∙ one_keeps_sizes c row units h1 at vs ∙ x.sizes_are;
    present = λ t all. let r = x.present t all in record {
      at = record r.at { present = touching_write h1 (frames_served units h1 at vs) r.at.present };
      has = one_present row units at vs vs2 m1 k1 job m2 k2 r.at.present x.becomes.stands served_now.stands serves aligned r.has;
      is = (λ i. touches_of_queue c row units (served_now.guest i) (drop (n + 1) queue) (serves.volumes_are c i) (record r.at { present = touching_write h1 (frames_served units h1 at vs) r.at.present }))
          ∙ sym (touches_at c row units h1 at queue n d vs r.at inside here) ∙ r.is;
    };
  }
    where
      h1 : Guest
      h1 = guest_in m1.memory k1

      one : Served
      one = one_packet c row units h1 at vs

      inside : n < length queue
      inside = subst (λ (xs : List ℕ). n < length xs) same h

      here : at ≡ slice_index_or queue n d
      here = is ∙ ap (λ (xs : List ℕ). slice_index_or xs n d) same

      aligned : at % 4 ≡ 0
      aligned = let packet : IsPacket (512 * k.state.pages) (slice_index_or queue n d) = stands.allowed.packets n d inside in ap (λ a. a % 4) here ∙ packet.0

      served_now : Becomes one.guest m1 k1 m2 k2
      served_now = serves.becomes c

      later : Served
      later = served c row units one.guest (drop (n + 1) queue) one.volumes

      first : left n h1 vs ≡ record { guest = later.guest; volumes = later.volumes; puts = one.puts ++ later.puts }
      first = next_at c row units h1 at queue n d vs inside here

      rest : later ≡ left (n + 1) (guest_in m2.memory k2) vs2
      rest = λ i. served c row units (sym served_now.guest i) (drop (n + 1) queue) (sym (serves.volumes_are c) i)

      told : (j : ℕ) → bytes_on j x.puts ++ bytes_on j (job_on (printer_of c row.printer) job) ≡ bytes_on j (x.puts ++ one.puts)
      told j = ap (λ (qs : List Put). bytes_on j x.puts ++ bytes_on j qs) (sym (serves.shows c)) ∙ sym (bytes_append j x.puts one.puts)

  none_left : (n : ℕ) (vs : List (List (List ℕ))) (h : Guest) (items : List ℕ) → items ≡ queue → length items ≤ n → left n h vs ≡ record { guest = h; volumes = vs; puts = [] }
  none_left n vs h items same end = none_at c row units h queue n vs (subst (λ (xs : List ℕ). length xs ≤ n) same end)

  -- all are served, and shown
  pub all_packets_served : (n : ℕ) (vs : List (List (List ℕ))) (m1 : Machine) (k1 : Kept) (marks1 : List Bool) (lines1 : List Seen) (items : List ℕ) → items ≡ queue → length items ≤ n → SoFar n vs m1 k1 marks1 lines1 → ServesGuest c row units (guest_scene volumes m k) (guest_scene vs m1 k1)
  all_packets_served n vs m1 k1 marks1 lines1 items same h x =
      let none = none_left n vs (guest_in m1.memory k1) items same h in
      record {
        becomes = becomes_as (guest_in m1.memory k1) whole.guest m k m1 k1 (ap (λ (s : Served). s.guest) (sym none) ∙ x.guest) x.becomes;
        volumes_are = ap (λ (s : Served). s.volumes) (sym none) ∙ x.volumes_are;
        present = λ t all. let r = x.present t all in
            subst (λ (u : Touching). HasPresent k1.shadow u.present) (sym (at_drop_all (λ (q : List ℕ). touches_of_queue c row units (guest_in m1.memory k1) q vs r.at) queue n (subst (λ (xs : List ℕ). length xs ≤ n) same h)) ∙ r.is) r.has;
      }

  pub all_packets_shown : (n : ℕ) (vs : List (List (List ℕ))) (m1 : Machine) (k1 : Kept) (marks1 : List Bool) (lines1 : List Seen) (items : List ℕ) → items ≡ queue → length items ≤ n → SoFar n vs m1 k1 marks1 lines1 → Shows marks marks1 lines lines1 (λ j. bytes_on j whole.puts)
  all_packets_shown n vs m1 k1 marks1 lines1 items same h x =
      let none = none_left n vs (guest_in m1.memory k1) items same h in
      shows_same marks marks1 lines lines1 (λ j. bytes_on j x.puts) (λ j. bytes_on j whole.puts) (λ j. ap (bytes_on j) (sym (append-nil x.puts) ∙ ap (λ (s : Served). x.puts ++ s.puts) (sym none) ∙ x.puts_are)) x.shows
