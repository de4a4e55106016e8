-- What a class sees of transfers, and what they show a line that flows into it.
use Rattle.std.proofs.Common.{◌≡◌, ℕ, List, [], ◌∷◌, length, map, Bool, true, false, not, ◌&&◌, refl, sym, ap, ◌∙◌, subst, Option, Some, None, slice_get, slice_index_or, slice_set, if◌then◌else◌, ◌==◌}
use Rattle.std.specs.Prelude.{nat_le, nat_lt}
use Rattle.std.proofs.lemmas.Bool.{and_parts, false≢true}
use Rattle.vax_arch.specs.Walk.{is_past}
use Rattle.vv_class.specs.Class.{does_flow}
use Rattle.vv_class.specs.declared.class.AccessClass.{AccessClass}
use Rattle.sys_objects.specs.Rules.{is_mountable}
use Rattle.sys_objects.specs.declared.records.Config.{Config}
use Rattle.sys_objects.specs.declared.records.GuestRow.{GuestRow}
use Rattle.sys_objects.specs.declared.records.Mount.{Mount}
use Rattle.sys_objects.specs.declared.records.VolumeRow.{VolumeRow}
use Rattle.sys_purge.proofs.Accepted.{flows_on, same_is, volume_kept}
use Rattle.sys_purge.proofs.Beside.{beside_changed, beside_unchanged, index_beside, index_map, passes_at, passes_row, set_is_changed}
use Rattle.sys_purge.proofs.Fits.{Each, Fits, MountFits, MountsFit, Pairs, each_at}
use Rattle.sys_purge.proofs.Kept.{both}
use Rattle.sys_purge.proofs.Seen.{seen}
use Rattle.sys_purge.proofs.SeenTurns.{seen_rows}
use Rattle.sys_purge.specs.Input.{beside, is_kept}
use Rattle.sys_purge.specs.Purge.{mount_place, purge_config, rank, renumbered}
use Rattle.sys_state.specs.Guests.{with_no_queue}
use Rattle.sys_state.specs.State.{SystemState}
use Rattle.sys_state.specs.Transfers.{AllServed, Move, Packet, Prints, Reads, Refused, Served, Writes, all_served, move_of, moved, packet_at, refused_block, served, served_one, to_print, to_read, to_write, transfers, unless_refused}
use Rattle.sys_store.specs.Blocks.{with_block}
use Rattle.vm_state.specs.Outside.{bytes_at}
use Rattle.vm_state.specs.State.{Guest}

abbrev pub Volumes : Type 0
Volumes = List (List (List ℕ))

module _ (c : Config) (to : AccessClass) where
  abbrev pub seen_volumes : Volumes → Volumes
  seen_volumes vs = beside (volume_kept c to) c.volumes vs

  abbrev pub volume_rank : ℕ → ℕ
  volume_rank k = rank (volume_kept c to) c.volumes k

  -- a volume that a guest may mount is seen where the guest is, and one that it writes is hidden where it is
  mountable_seen : (class : AccessClass) → does_flow class to ≡ true → (write : Bool) (k : ℕ) (o : Option VolumeRow) → slice_get c.volumes k ≡ o → is_mountable class write o ≡ true → passes_at (volume_kept c to) c.volumes k ≡ true
  mountable_seen class e write k None at h = absurd (false≢true h)
  mountable_seen class e write k (Some v) at h = passes_row (volume_kept c to) c.volumes k v at ∙ flows_on v.class class to (and_parts _ _ h).0 e

  written_hidden : (class : AccessClass) → does_flow class to ≡ false → (k : ℕ) (o : Option VolumeRow) → slice_get c.volumes k ≡ o → is_mountable class true o ≡ true → passes_at (volume_kept c to) c.volumes k ≡ false
  written_hidden class e k None at h = absurd (false≢true h)
  written_hidden class e k (Some v) at h = passes_row (volume_kept c to) c.volumes k v at ∙ ap (λ d. does_flow d to) (same_is v.class class (and_parts _ _ h).1) ∙ e

  -- a move's volume is one that the guest may mount so
  abbrev MoveFits : AccessClass → Move → Type 0
  MoveFits class (Refused status) = Unit {0}
  MoveFits class (Reads v) = is_mountable class false (slice_get c.volumes v) ≡ true
  MoveFits class (Writes v) = is_mountable class true (slice_get c.volumes v) ≡ true
  MoveFits class Prints = Unit {0}

  weaker : (class : AccessClass) (write : Bool) (o : Option VolumeRow) → is_mountable class write o ≡ true → is_mountable class false o ≡ true
  weaker class write None h = absurd (false≢true h)
  weaker class write (Some v) h = let flow : does_flow v.class class ≡ true = (and_parts _ _ h).0 in rw flow refl

  fits_unless : (class : AccessClass) (o : Option ℕ) (move : Move) → (o ≡ None → MoveFits class move) → MoveFits class (unless_refused o move)
  fits_unless class None move h = h refl
  fits_unless class (Some status) move h = tt

  read_fits : (class : AccessClass) (space : ℕ) (vs : Volumes) (m : Option Mount) (p : Packet) → MountFits c class m → MoveFits class (to_read space vs m p)
  read_fits class space vs None p h = tt
  read_fits class space vs (Some m) p h = fits_unless class (refused_block space vs m false p) (Reads m.volume) (λ e. weaker class m.write (slice_get c.volumes m.volume) h)

  may_write : (space : ℕ) (vs : Volumes) (m : Mount) (p : Packet) → refused_block space vs m true p ≡ None → m.write ≡ true
  may_write space vs m p h = both m.write (λ e. e) (λ e. let bad : Some 4 ≡ None = rw e at h in cc)

  write_fits : (class : AccessClass) (space : ℕ) (vs : Volumes) (m : Option Mount) (p : Packet) → MountFits c class m → MoveFits class (to_write space vs m p)
  write_fits class space vs None p h = tt
  write_fits class space vs (Some m) p h = fits_unless class (refused_block space vs m true p) (Writes m.volume)
      (λ e. subst (λ b. is_mountable class b (slice_get c.volumes m.volume) ≡ true) (may_write space vs m p e) h)

  print_fits : (class : AccessClass) (space : ℕ) (p : Packet) → MoveFits class (to_print space p)
  print_fits class space p = both (nat_lt 132 p.size) (λ a. rw a tt) (λ a. both (is_past space p.buffer p.size) (λ b. rw (a, b) tt) (λ b. rw (a, b) tt))

  move_fits : (class : AccessClass) (space : ℕ) (vs : Volumes) (ms : List (Option Mount)) (p : Packet) → Each (MountFits c class) ms → MoveFits class (move_of space vs ms p)
  move_fits class space vs ms p each =
      let m : Option Mount = slice_index_or ms p.unit None in
      let fm : MountFits c class m = each_at (MountFits c class) ms p.unit None refl each in
      both (p.function == 1)
      (λ a. rw a (read_fits class space vs m p fm))
      (λ a. both (p.function == 2)
      (λ b. rw (a, b) (write_fits class space vs m p fm))
      (λ b. both (p.function == 3)
      (λ d. rw (a, b, d) (print_fits class space p))
      (λ d. rw (a, b, d) tt)))

  -- the move of the purge: the same, with the place of its volume among those that are kept
  abbrev pub moved_move : Move → Move
  moved_move (Refused status) = Refused status
  moved_move (Reads v) = Reads (volume_rank v)
  moved_move (Writes v) = Writes (volume_rank v)
  moved_move Prints = Prints

  same_unless : (o : Option ℕ) (move : Move) → unless_refused o (moved_move move) ≡ moved_move (unless_refused o move)
  same_unless None move = refl
  same_unless (Some status) move = refl

  same_refused : (class : AccessClass) → does_flow class to ≡ true → (space : ℕ) (vs : Volumes) (m : Mount) (writes : Bool) (p : Packet) → MountFits c class (Some m)
      → refused_block space (seen_volumes vs) (record { volume = volume_rank m.volume; write = m.write }) writes p ≡ refused_block space vs m writes p
  same_refused class e space vs m writes p h =
      let blocks = index_beside (volume_kept c to) c.volumes vs m.volume [] (mountable_seen class e m.write m.volume (slice_get c.volumes m.volume) refl h) in
      ap (λ (bs : List (List ℕ)). if writes && not m.write then Some 4 else if nat_le (length bs) p.block then Some 5 else if is_past space p.buffer 512 then Some 6 else None) blocks

  same_read : (class : AccessClass) → does_flow class to ≡ true → (space : ℕ) (vs : Volumes) (m : Option Mount) (p : Packet) → MountFits c class m → to_read space (seen_volumes vs) (mount_place to c.volumes m) p ≡ moved_move (to_read space vs m p)
  same_read class e space vs None p h = refl
  same_read class e space vs (Some m) p h = ap (λ o. unless_refused o (Reads (volume_rank m.volume))) (same_refused class e space vs m false p h) ∙ same_unless (refused_block space vs m false p) (Reads m.volume)

  same_write : (class : AccessClass) → does_flow class to ≡ true → (space : ℕ) (vs : Volumes) (m : Option Mount) (p : Packet) → MountFits c class m → to_write space (seen_volumes vs) (mount_place to c.volumes m) p ≡ moved_move (to_write space vs m p)
  same_write class e space vs None p h = refl
  same_write class e space vs (Some m) p h = ap (λ o. unless_refused o (Writes (volume_rank m.volume))) (same_refused class e space vs m true p h) ∙ same_unless (refused_block space vs m true p) (Writes m.volume)

  same_print : (space : ℕ) (p : Packet) → to_print space p ≡ moved_move (to_print space p)
  same_print space p = both (nat_lt 132 p.size) (λ a. rw a refl) (λ a. both (is_past space p.buffer p.size) (λ b. rw (a, b) refl) (λ b. rw (a, b) refl))

  pub same_move : (class : AccessClass) → does_flow class to ≡ true → (space : ℕ) (vs : Volumes) (ms : List (Option Mount)) (p : Packet) → Each (MountFits c class) ms
      → move_of space (seen_volumes vs) (map (mount_place to c.volumes) ms) p ≡ moved_move (move_of space vs ms p)
  same_move class e space vs ms p each =
      let m : Option Mount = slice_index_or ms p.unit None in
      let fm : MountFits c class m = each_at (MountFits c class) ms p.unit None refl each in
      let unit : slice_index_or (map (mount_place to c.volumes) ms) p.unit None ≡ mount_place to c.volumes m = index_map (mount_place to c.volumes) ms p.unit None None refl in
      both (p.function == 1)
      (λ a. rw (a, unit) (same_read class e space vs m p fm))
      (λ a. both (p.function == 2)
      (λ b. rw (a, b, unit) (same_write class e space vs m p fm))
      (λ b. both (p.function == 3)
      (λ d. rw (a, b, d) (same_print space p))
      (λ d. rw (a, b, d) refl)))

  -- what is left of a guest and of the volumes that are seen
  pub record IsSame (a b : Served) : Type 0 where
    pub guest : a.guest ≡ b.guest
    pub volumes : a.volumes ≡ seen_volumes b.volumes

  same_written : (v block : ℕ) (bytes : List ℕ) (vs : Volumes) → passes_at (volume_kept c to) c.volumes v ≡ true → with_block (seen_volumes vs) (volume_rank v) block bytes ≡ seen_volumes (with_block vs v block bytes)
  same_written v block bytes vs p =
      let change : List (List ℕ) → List (List ℕ) = λ bs. slice_set bs block bytes in
      set_is_changed change (seen_volumes vs) (volume_rank v) []
      ∙ sym (beside_changed (volume_kept c to) change c.volumes vs v p)
      ∙ ap seen_volumes (sym (set_is_changed change vs v []))

  unseen_written : (v block : ℕ) (bytes : List ℕ) (vs : Volumes) → passes_at (volume_kept c to) c.volumes v ≡ false → seen_volumes (with_block vs v block bytes) ≡ seen_volumes vs
  unseen_written v block bytes vs p =
      let change : List (List ℕ) → List (List ℕ) = λ bs. slice_set bs block bytes in
      ap seen_volumes (set_is_changed change vs v []) ∙ beside_unchanged (volume_kept c to) change c.volumes vs v p

  same_moved : (row : GuestRow) → does_flow row.class to ≡ true → (g : Guest) (at : ℕ) (p : Packet) (vs : Volumes) (move : Move) → MoveFits row.class move
      → IsSame (moved (purge_config c to) (renumbered to c row) g at p (seen_volumes vs) (moved_move move)) (moved c row g at p vs move)
  same_moved row e g at p vs (Refused status) h = record { guest = refl; volumes = refl }
  same_moved row e g at p vs (Reads v) h =
      let blocks = index_beside (volume_kept c to) c.volumes vs v [] (mountable_seen row.class e false v (slice_get c.volumes v) refl h) in
      record { guest = ap (λ (bs : List (List ℕ)). (moved c row g at p (bs ∷ []) (Reads 0)).guest) blocks; volumes = refl }
  same_moved row e g at p vs (Writes v) h =
      record { guest = refl; volumes = same_written v p.block (bytes_at g p.buffer 512) vs (mountable_seen row.class e true v (slice_get c.volumes v) refl h) }
  same_moved row e g at p vs Prints h = record { guest = refl; volumes = refl }

  pub same_one : (row : GuestRow) → does_flow row.class to ≡ true → (ms : List (Option Mount)) → Each (MountFits c row.class) ms → (g : Guest) (at : ℕ) (vs : Volumes)
      → IsSame (served_one (purge_config c to) (renumbered to c row) (map (mount_place to c.volumes) ms) g at (seen_volumes vs)) (served_one c row ms g at vs)
  same_one row e ms each g at vs =
      let p : Packet = packet_at g.memory at in
      let move : Move = move_of (length g.memory) vs ms p in
      subst (λ v. IsSame (moved (purge_config c to) (renumbered to c row) g at p (seen_volumes vs) v) (moved c row g at p vs move)) (sym (same_move row.class e (length g.memory) vs ms p each))
      (same_moved row e g at p vs move (move_fits row.class (length g.memory) vs ms p each))

  pub same_served : (row : GuestRow) → does_flow row.class to ≡ true → (ms : List (Option Mount)) → Each (MountFits c row.class) ms → (g : Guest) (queue : List ℕ) (vs : Volumes)
      → IsSame (served (purge_config c to) (renumbered to c row) (map (mount_place to c.volumes) ms) g queue (seen_volumes vs)) (served c row ms g queue vs)
  same_served row e ms each g [] vs = record { guest = refl; volumes = refl }
  same_served row e ms each g (at ∷ queue) vs =
      let one : Served = served_one c row ms g at vs in
      let first = same_one row e ms each g at vs in
      let rest = same_served row e ms each one.guest queue one.volumes in
      let later : Guest → Volumes → Served = λ h us. served (purge_config c to) (renumbered to c row) (map (mount_place to c.volumes) ms) h queue us in
      record {
        guest = (λ i. (later (first.guest i) (first.volumes i)).guest) ∙ rest.guest;
        volumes = (λ i. (later (first.guest i) (first.volumes i)).volumes) ∙ rest.volumes;
      }

  -- a guest that isn't seen changes no volume that is
  unseen_moved : (row : GuestRow) → does_flow row.class to ≡ false → (g : Guest) (at : ℕ) (p : Packet) (vs : Volumes) (move : Move) → MoveFits row.class move → seen_volumes (moved c row g at p vs move).volumes ≡ seen_volumes vs
  unseen_moved row e g at p vs (Refused status) h = refl
  unseen_moved row e g at p vs (Reads v) h = refl
  unseen_moved row e g at p vs (Writes v) h = unseen_written v p.block (bytes_at g p.buffer 512) vs (written_hidden row.class e v (slice_get c.volumes v) refl h)
  unseen_moved row e g at p vs Prints h = refl

  pub unseen_served : (row : GuestRow) → does_flow row.class to ≡ false → (ms : List (Option Mount)) → Each (MountFits c row.class) ms → (g : Guest) (queue : List ℕ) (vs : Volumes) → seen_volumes (served c row ms g queue vs).volumes ≡ seen_volumes vs
  unseen_served row e ms each g [] vs = refl
  unseen_served row e ms each g (at ∷ queue) vs =
      let p : Packet = packet_at g.memory at in
      let one : Served = served_one c row ms g at vs in
      unseen_served row e ms each one.guest queue one.volumes
      ∙ unseen_moved row e g at p vs (move_of (length g.memory) vs ms p) (move_fits row.class (length g.memory) vs ms p each)

  -- all guests
  record AreSame (a b : AllServed) (rows : List GuestRow) : Type 0 where
    pub guests : a.guests ≡ beside (is_kept to) rows b.guests
    pub volumes : a.volumes ≡ seen_volumes b.volumes

  abbrev pub seen_mss : List GuestRow → List (List (Option Mount)) → List (List (Option Mount))
  seen_mss rows mss = map (map (mount_place to c.volumes)) (beside (is_kept to) rows mss)

  pub no_mounts : (rows : List GuestRow) (gs : List Guest) (vs : Volumes) → all_served (purge_config c to) rows [] gs vs ≡ record { guests = []; volumes = vs; puts = [] }
  no_mounts [] gs vs = refl
  no_mounts (row ∷ rows) gs vs = refl

  pub no_guests : (rows : List GuestRow) (mss : List (List (Option Mount))) (vs : Volumes) → all_served (purge_config c to) rows mss [] vs ≡ record { guests = []; volumes = vs; puts = [] }
  no_guests [] mss vs = refl
  no_guests (row ∷ rows) [] vs = refl
  no_guests (row ∷ rows) (ms ∷ mss) vs = refl

  abbrev pub purged_all : List GuestRow → List (List (Option Mount)) → List Guest → Volumes → AllServed
  purged_all rows mss gs vs = all_served (purge_config c to) (seen_rows c to rows) (seen_mss rows mss) (beside (is_kept to) rows gs) (seen_volumes vs)

  same_all : (rows : List GuestRow) (mss : List (List (Option Mount))) → Pairs (MountsFit c) rows mss → (gs : List Guest) (vs : Volumes) → AreSame (purged_all rows mss gs vs) (all_served c rows mss gs vs) rows
  same_all [] mss f gs vs = record { guests = refl; volumes = refl }
  same_all (row ∷ rows) [] f gs vs =
      let none = no_mounts (seen_rows c to (row ∷ rows)) (beside (is_kept to) (row ∷ rows) gs) (seen_volumes vs) in
      record { guests = ap (λ (a : AllServed). a.guests) none; volumes = ap (λ (a : AllServed). a.volumes) none }
  same_all (row ∷ rows) (ms ∷ mss) f [] vs =
      let none = no_guests (seen_rows c to (row ∷ rows)) (seen_mss (row ∷ rows) (ms ∷ mss)) (seen_volumes vs) in
      record { guests = ap (λ (a : AllServed). a.guests) none; volumes = ap (λ (a : AllServed). a.volumes) none }
  same_all (row ∷ rows) (ms ∷ mss) f (g ∷ gs) vs =
      let one : Served = served c row ms (with_no_queue g) g.state.queue vs in
      let rest = same_all rows mss f.1 gs one.volumes in
      let later : Volumes → AllServed = λ us. all_served (purge_config c to) (seen_rows c to rows) (seen_mss rows mss) (beside (is_kept to) rows gs) us in
      both (is_kept to row)
      (λ e.
      let first = same_served row e ms f.0 (with_no_queue g) g.state.queue vs in
      let beyond = ap (λ us. (later us).guests) first.volumes ∙ rest.guests in
      let guest = first.guest in
      record {
        guests = rw e (λ i. guest i ∷ beyond i);
        volumes = rw e (ap (λ us. (later us).volumes) first.volumes ∙ rest.volumes);
      })
      (λ e.
      let first = unseen_served row e ms f.0 (with_no_queue g) g.state.queue vs in
      record {
        guests = rw e (ap (λ us. (later us).guests) (sym first) ∙ rest.guests);
        volumes = rw e (ap (λ us. (later us).volumes) (sym first) ∙ rest.volumes);
      })

  pub transfers_now : (s : SystemState) → Fits c s → (transfers (purge_config c to) (seen c to s)).now ≡ seen c to (transfers c s).now
  transfers_now s f =
      let all = same_all c.guests s.mounts f.mounts s.guests s.volumes in
      λ i. record (seen c to s) { guests = all.guests i; volumes = all.volumes i }
