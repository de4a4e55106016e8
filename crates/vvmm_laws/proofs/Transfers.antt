-- Transfers in states that agree at far objects.
use Rattle.std.proofs.Common.{◌≡◌, ◌==◌, ℕ, suc, List, [], ◌∷◌, ◌++◌, length, Bool, true, false, not, ◌&&◌, refl, sym, ap, ◌∙◌, subst, Option, Some, None, slice_get, slice_index_or, slice_set, if◌then◌else◌, true≢false}
use Rattle.std.specs.Prelude.{nat_le, nat_lt}
use Rattle.sys_flow.specs.Reach.{IsPrinterAt, ObjectPlace}
use Rattle.vvmm_laws.proofs.Agree.{AgreeFrom, agree_changed, agree_index, agree_refl, agree_sym, agree_trans, agree_unchanged}
use Rattle.vvmm_laws.proofs.Connected.{other_line}
use Rattle.vvmm_laws.proofs.Far.{IsFarLine, MountLeads, MountsLead, far_guest, far_volume, mounted_far, printer_near, written_near}
use Rattle.vvmm_laws.specs.Reach.{IsClosed}
use Rattle.sys_objects.specs.declared.records.Config.{Config}
use Rattle.sys_objects.specs.declared.records.GuestRow.{GuestRow}
use Rattle.sys_objects.specs.declared.records.Mount.{Mount}
use Rattle.sys_objects.specs.declared.records.PrinterRow.{PrinterRow}
use Rattle.sys_purge.proofs.Beside.{set_is_changed}
use Rattle.sys_purge.proofs.Fits.{Each, Pairs, each_at}
use Rattle.sys_purge.proofs.Kept.{both}
use Rattle.sys_purge.proofs.Places.{StandFrom}
use Rattle.sys_purge.proofs.SeenTransfers.{Volumes}
use Rattle.sys_state.proofs.Consoles.{bytes_append}
use Rattle.sys_state.specs.Guests.{with_no_queue}
use Rattle.sys_state.specs.Places.{changed}
use Rattle.sys_state.specs.State.{bytes_on}
use Rattle.sys_state.specs.Transfers.{AllServed, Move, Packet, Prints, Reads, Refused, Served, Writes, all_served, move_of, moved, packet_at, printed, printer_of, refused_block, served, served_one, to_print, to_read, to_write, unless_refused}
use Rattle.sys_store.specs.Blocks.{with_block}
use Rattle.sys_store.specs.Job.{job_text}
use Rattle.vax_arch.specs.Walk.{is_past}
use Rattle.vm_state.specs.Outside.{bytes_at}
use Rattle.vm_state.specs.State.{Guest}

-- what is so of the volumes of mounts is so of moves
module _ (R W : ℕ → Type 0) where
  abbrev pub MoveHas : Move → Type 0
  MoveHas (Refused status) = Unit {0}
  MoveHas (Reads v) = R v
  MoveHas (Writes v) = W v
  MoveHas Prints = Unit {0}

  abbrev pub MountHas : Option Mount → Type 0
  MountHas None = Unit {0}
  MountHas (Some m) = R m.volume × (m.write ≡ true → W m.volume)

  has_unless : (o : Option ℕ) (move : Move) → (o ≡ None → MoveHas move) → MoveHas (unless_refused o move)
  has_unless None move h = h refl
  has_unless (Some status) move h = tt

  read_has : (space : ℕ) (vs : Volumes) (m : Option Mount) (p : Packet) → MountHas m → MoveHas (to_read space vs m p)
  read_has space vs None p h = tt
  read_has space vs (Some m) p h = has_unless (refused_block space vs m false p) (Reads m.volume) (λ e. h.0)

  may_write : (space : ℕ) (vs : Volumes) (m : Mount) (p : Packet) → refused_block space vs m true p ≡ None → m.write ≡ true
  may_write space vs m p h = both m.write (λ e. e) (λ e. let bad : Some 4 ≡ None = rw e at h in cc)

  write_has : (space : ℕ) (vs : Volumes) (m : Option Mount) (p : Packet) → MountHas m → MoveHas (to_write space vs m p)
  write_has space vs None p h = tt
  write_has space vs (Some m) p h = has_unless (refused_block space vs m true p) (Writes m.volume) (λ e. h.1 (may_write space vs m p e))

  print_has : (space : ℕ) (p : Packet) → MoveHas (to_print space p)
  print_has space p = both (nat_lt 132 p.size) (λ a. rw a tt) (λ a. both (is_past space p.buffer p.size) (λ b. rw (a, b) tt) (λ b. rw (a, b) tt))

  pub move_has : (space : ℕ) (vs : Volumes) (ms : List (Option Mount)) (p : Packet) → Each MountHas ms → MoveHas (move_of space vs ms p)
  move_has space vs ms p each =
      let m : Option Mount = slice_index_or ms p.unit None in
      let h : MountHas m = each_at MountHas ms p.unit None tt each in
      both (p.function == 1)
      (λ a. rw a (read_has space vs m p h))
      (λ a. both (p.function == 2)
      (λ b. rw (a, b) (write_has space vs m p h))
      (λ b. both (p.function == 3)
      (λ d. rw (a, b, d) (print_has space p))
      (λ d. rw (a, b, d) tt)))

pub each_weaker : {X : Type 0} (P Q : X → Type 0) → ((x : X) → P x → Q x) → (xs : List X) → Each P xs → Each Q xs
each_weaker P Q h [] e = tt
each_weaker P Q h (x ∷ xs) e = (h x e.0, each_weaker P Q h xs e.1)

module _ (c : Config) (far : ObjectPlace → Bool) (closed : IsClosed c far) where
  abbrev Agree : Volumes → Volumes → Type 0
  Agree vs us = AgreeFrom (far_volume c far) 0 vs us

  abbrev IsFarVolume : ℕ → Type 0
  IsFarVolume v = far_volume c far v ≡ true

  abbrev IsNearVolume : ℕ → Type 0
  IsNearVolume v = far_volume c far v ≡ false

  abbrev Any : ℕ → Type 0
  Any v = Unit {0}

  far_mount : (g : ℕ) (row : GuestRow) → slice_get c.guests g ≡ Some row → far_guest c far g ≡ true → (m : Option Mount) → MountLeads c far row m → MountHas IsFarVolume Any m
  far_mount g row at f None h = tt
  far_mount g row at f (Some m) h = (mounted_far c far closed g row at m h f, λ w. tt)

  near_mount : (g : ℕ) (row : GuestRow) → slice_get c.guests g ≡ Some row → far_guest c far g ≡ false → (m : Option Mount) → MountLeads c far row m → MountHas Any IsNearVolume m
  near_mount g row at n None h = tt
  near_mount g row at n (Some m) h = (tt, λ w. written_near c far closed g row at m h w n)

  -- writing a block of both, and of one
  written_alike : (v block : ℕ) (bytes : List ℕ) (vs us : Volumes) → Agree vs us → Agree (with_block vs v block bytes) (with_block us v block bytes)
  written_alike v block bytes vs us a =
      let change : List (List ℕ) → List (List ℕ) = λ bs. slice_set bs block bytes in
      let left = sym (set_is_changed change vs v []) in
      let right = sym (set_is_changed change us v []) in
      subst (λ xs. Agree xs (with_block us v block bytes)) left (subst (λ ys. Agree (changed change vs v) ys) right (agree_changed (far_volume c far) 0 change vs us a v))

  written_quiet : (v block : ℕ) (bytes : List ℕ) (vs : Volumes) → far_volume c far v ≡ false → Agree vs (with_block vs v block bytes)
  written_quiet v block bytes vs n =
      let change : List (List ℕ) → List (List ℕ) = λ bs. slice_set bs block bytes in
      subst (Agree vs) (sym (set_is_changed change vs v [])) (agree_unchanged (far_volume c far) change vs v n)

  -- the moves of a far guest are the same
  same_refused : (space : ℕ) (vs us : Volumes) (m : Mount) (writes : Bool) (p : Packet) → Agree vs us → IsFarVolume m.volume → refused_block space vs m writes p ≡ refused_block space us m writes p
  same_refused space vs us m writes p a f =
      ap (λ (bs : List (List ℕ)). if writes && not m.write then Some 4 else if nat_le (length bs) p.block then Some 5 else if is_past space p.buffer 512 then Some 6 else None)
      (agree_index (far_volume c far) vs us a m.volume [] f)

  same_read : (space : ℕ) (vs us : Volumes) (m : Option Mount) (p : Packet) → Agree vs us → MountHas IsFarVolume Any m → to_read space vs m p ≡ to_read space us m p
  same_read space vs us None p a h = refl
  same_read space vs us (Some m) p a h = ap (λ (o : Option ℕ). unless_refused o (Reads m.volume)) (same_refused space vs us m false p a h.0)

  same_write : (space : ℕ) (vs us : Volumes) (m : Option Mount) (p : Packet) → Agree vs us → MountHas IsFarVolume Any m → to_write space vs m p ≡ to_write space us m p
  same_write space vs us None p a h = refl
  same_write space vs us (Some m) p a h = ap (λ (o : Option ℕ). unless_refused o (Writes m.volume)) (same_refused space vs us m true p a h.0)

  same_move : (space : ℕ) (vs us : Volumes) (ms : List (Option Mount)) (p : Packet) → Agree vs us → Each (MountHas IsFarVolume Any) ms → move_of space vs ms p ≡ move_of space us ms p
  same_move space vs us ms p a each =
      let m : Option Mount = slice_index_or ms p.unit None in
      let h : MountHas IsFarVolume Any m = each_at (MountHas IsFarVolume Any) ms p.unit None tt each in
      let read = same_read space vs us m p a h in
      let write = same_write space vs us m p a h in
      λ i. if p.function == 1 then read i else if p.function == 2 then write i else if p.function == 3 then to_print space p else Refused 7

  -- what is left of a guest and of far volumes, and what is shown
  record IsSame (x y : Served) : Type 0 where
    pub guest : x.guest ≡ y.guest
    pub volumes : Agree x.volumes y.volumes
    pub puts : x.puts ≡ y.puts

  same_moved : (row : GuestRow) (g : Guest) (at : ℕ) (p : Packet) (vs us : Volumes) → Agree vs us → (move : Move) → MoveHas IsFarVolume Any move → IsSame (moved c row g at p vs move) (moved c row g at p us move)
  same_moved row g at p vs us a (Refused status) h = record { guest = refl; volumes = a; puts = refl }
  same_moved row g at p vs us a (Reads v) h =
      let blocks = agree_index (far_volume c far) vs us a v [] h in
      record { guest = ap (λ (bs : List (List ℕ)). (moved c row g at p (bs ∷ []) (Reads 0)).guest) blocks; volumes = a; puts = refl }
  same_moved row g at p vs us a (Writes v) h = record { guest = refl; volumes = written_alike v p.block (bytes_at g p.buffer 512) vs us a; puts = refl }
  same_moved row g at p vs us a Prints h = record { guest = refl; volumes = a; puts = refl }

  same_one : (row : GuestRow) (ms : List (Option Mount)) → Each (MountHas IsFarVolume Any) ms → (g : Guest) (at : ℕ) (vs us : Volumes) → Agree vs us → IsSame (served_one c row ms g at vs) (served_one c row ms g at us)
  same_one row ms each g at vs us a =
      let p : Packet = packet_at g.memory at in
      let move : Move = move_of (length g.memory) vs ms p in
      subst (λ (v : Move). IsSame (moved c row g at p vs move) (moved c row g at p us v)) (same_move (length g.memory) vs us ms p a each)
      (same_moved row g at p vs us a move (move_has IsFarVolume Any (length g.memory) vs ms p each))

  same_served : (row : GuestRow) (ms : List (Option Mount)) → Each (MountHas IsFarVolume Any) ms → (g : Guest) (queue : List ℕ) (vs us : Volumes) → Agree vs us → IsSame (served c row ms g queue vs) (served c row ms g queue us)
  same_served row ms each g [] vs us a = record { guest = refl; volumes = a; puts = refl }
  same_served row ms each g (at ∷ queue) vs us a =
      let one : Served = served_one c row ms g at vs in
      let two : Served = served_one c row ms g at us in
      let first = same_one row ms each g at vs us a in
      let rest : IsSame (served c row ms one.guest queue one.volumes) (served c row ms two.guest queue two.volumes) =
      subst (λ (x : Guest). IsSame (served c row ms one.guest queue one.volumes) (served c row ms x queue two.volumes)) first.guest (same_served row ms each one.guest queue one.volumes two.volumes first.volumes) in
      let shown = first.puts in
      let later = rest.puts in
      record { guest = rest.guest; volumes = rest.volumes; puts = λ i. shown i ++ later i }

  -- a guest that isn't far changes no far volume
  quiet_moved : (row : GuestRow) (g : Guest) (at : ℕ) (p : Packet) (vs : Volumes) (move : Move) → MoveHas Any IsNearVolume move → Agree vs (moved c row g at p vs move).volumes
  quiet_moved row g at p vs (Refused status) h = agree_refl (far_volume c far) 0 vs
  quiet_moved row g at p vs (Reads v) h = agree_refl (far_volume c far) 0 vs
  quiet_moved row g at p vs (Writes v) h = written_quiet v p.block (bytes_at g p.buffer 512) vs h
  quiet_moved row g at p vs Prints h = agree_refl (far_volume c far) 0 vs

  quiet_served : (row : GuestRow) (ms : List (Option Mount)) → Each (MountHas Any IsNearVolume) ms → (g : Guest) (queue : List ℕ) (vs : Volumes) → Agree vs (served c row ms g queue vs).volumes
  quiet_served row ms each g [] vs = agree_refl (far_volume c far) 0 vs
  quiet_served row ms each g (at ∷ queue) vs =
      let p : Packet = packet_at g.memory at in
      let one : Served = served_one c row ms g at vs in
      agree_trans (far_volume c far) 0 vs one.volumes (served c row ms one.guest queue one.volumes).volumes
      (quiet_moved row g at p vs (move_of (length g.memory) vs ms p) (move_has Any IsNearVolume (length g.memory) vs ms p each))
      (quiet_served row ms each one.guest queue one.volumes)

  module _ (line : ℕ) (silent : IsFarLine c far line) where
    -- nor does it show anything on a far line
    near_job : (p : ℕ) → far (IsPrinterAt p) ≡ false → (o : Option PrinterRow) → slice_get c.printers p ≡ o → (job : List ℕ) → bytes_on line (printed o job) ≡ []
    near_job p n None at job = refl
    near_job p n (Some q) at job = let off = other_line q.line line (far (IsPrinterAt p)) (silent.printers p q at) n in rw off refl

    near_print : (g : ℕ) (row : GuestRow) → slice_get c.guests g ≡ Some row → far_guest c far g ≡ false → (o : Option ℕ) → row.printer ≡ o → (job : List ℕ) → bytes_on line (printed (printer_of c o) job) ≡ []
    near_print g row at n None e job = refl
    near_print g row at n (Some p) e job = near_job p (printer_near c far closed g row at p e n) (slice_get c.printers p) refl job

    nothing_moved : (i : ℕ) (row : GuestRow) → slice_get c.guests i ≡ Some row → far_guest c far i ≡ false → (g : Guest) (at : ℕ) (p : Packet) (vs : Volumes) (move : Move) → bytes_on line (moved c row g at p vs move).puts ≡ []
    nothing_moved i row stand n g at p vs (Refused status) = refl
    nothing_moved i row stand n g at p vs (Reads v) = refl
    nothing_moved i row stand n g at p vs (Writes v) = refl
    nothing_moved i row stand n g at p vs Prints = near_print i row stand n row.printer refl (job_text row.class row.name (bytes_at g p.buffer p.size))

    nothing_served : (i : ℕ) (row : GuestRow) → slice_get c.guests i ≡ Some row → far_guest c far i ≡ false → (ms : List (Option Mount)) (g : Guest) (queue : List ℕ) (vs : Volumes) → bytes_on line (served c row ms g queue vs).puts ≡ []
    nothing_served i row stand n ms g [] vs = refl
    nothing_served i row stand n ms g (at ∷ queue) vs =
        let p : Packet = packet_at g.memory at in
        let one : Served = served_one c row ms g at vs in
        let first = nothing_moved i row stand n g at p vs (move_of (length g.memory) vs ms p) in
        let rest = nothing_served i row stand n ms one.guest queue one.volumes in
        bytes_append line one.puts (served c row ms one.guest queue one.volumes).puts ∙ (λ j. first j ++ rest j)

    -- all guests
    pub record AreAlike (i : ℕ) (x y : AllServed) : Type 0 where
      pub guests : AgreeFrom (far_guest c far) i x.guests y.guests
      pub volumes : Agree x.volumes y.volumes
      pub bytes : bytes_on line x.puts ≡ bytes_on line y.puts

    -- what one guest leaves
    record IsAlike (i : ℕ) (x y : Served) : Type 0 where
      pub guest : far_guest c far i ≡ true → x.guest ≡ y.guest
      pub volumes : Agree x.volumes y.volumes
      pub bytes : bytes_on line x.puts ≡ bytes_on line y.puts

    abbrev whole : GuestRow → List (Option Mount) → Guest → Volumes → Served
    whole row ms g vs = served c row ms (with_no_queue g) g.state.queue vs

    far_one : (i : ℕ) (row : GuestRow) → slice_get c.guests i ≡ Some row → far_guest c far i ≡ true → (ms ns : List (Option Mount)) → MountsLead c far row ms → ms ≡ ns → (g h : Guest) → g ≡ h → (vs us : Volumes) → Agree vs us
        → IsAlike i (whole row ms g vs) (whole row ns h us)
    far_one i row stand f ms ns lead same_ms g h same_g vs us a =
        let each = each_weaker (MountLeads c far row) (MountHas IsFarVolume Any) (far_mount i row stand f) ms lead in
        let here : IsSame (whole row ms g vs) (whole row ms g us) = same_served row ms each (with_no_queue g) g.state.queue vs us a in
        let there : IsSame (whole row ms g vs) (whole row ns h us) =
        subst (λ (x : Guest). IsSame (whole row ms g vs) (whole row ns x us)) same_g (subst (λ (xs : List (Option Mount)). IsSame (whole row ms g vs) (whole row xs g us)) same_ms here) in
        record { guest = λ t. there.guest; volumes = there.volumes; bytes = ap (bytes_on line) there.puts }

    near_one : (i : ℕ) (row : GuestRow) → slice_get c.guests i ≡ Some row → far_guest c far i ≡ false → (ms ns : List (Option Mount)) → MountsLead c far row ms → MountsLead c far row ns → (g h : Guest) (vs us : Volumes) → Agree vs us
        → IsAlike i (whole row ms g vs) (whole row ns h us)
    near_one i row stand n ms ns lead lead' g h vs us a =
        let left = quiet_served row ms (each_weaker (MountLeads c far row) (MountHas Any IsNearVolume) (near_mount i row stand n) ms lead) (with_no_queue g) g.state.queue vs in
        let right = quiet_served row ns (each_weaker (MountLeads c far row) (MountHas Any IsNearVolume) (near_mount i row stand n) ns lead') (with_no_queue h) h.state.queue us in
        let x : Volumes = (whole row ms g vs).volumes in
        let y : Volumes = (whole row ns h us).volumes in
        record {
          guest = λ t. absurd (true≢false (sym t ∙ n));
          volumes = agree_trans (far_volume c far) 0 x vs y (agree_sym (far_volume c far) 0 vs x left) (agree_trans (far_volume c far) 0 vs us y a right);
          bytes = nothing_served i row stand n ms (with_no_queue g) g.state.queue vs ∙ sym (nothing_served i row stand n ns (with_no_queue h) h.state.queue us);
        }

    pub all_alike : (i : ℕ) (rows : List GuestRow) → StandFrom c.guests i rows → (mss nss : List (List (Option Mount))) → Pairs (MountsLead c far) rows mss → Pairs (MountsLead c far) rows nss → AgreeFrom (far_guest c far) i mss nss
        → (gs hs : List Guest) → AgreeFrom (far_guest c far) i gs hs → (vs us : Volumes) → Agree vs us → AreAlike i (all_served c rows mss gs vs) (all_served c rows nss hs us)
    all_alike i [] stand mss nss p q a gs hs b vs us v = record { guests = tt; volumes = v; bytes = refl }
    all_alike i (row ∷ rows) stand [] [] p q a gs hs b vs us v = record { guests = tt; volumes = v; bytes = refl }
    all_alike i (row ∷ rows) stand [] (ns ∷ nss) p q a gs hs b vs us v = absurd a
    all_alike i (row ∷ rows) stand (ms ∷ mss) [] p q a gs hs b vs us v = absurd a
    all_alike i (row ∷ rows) stand (ms ∷ mss) (ns ∷ nss) p q a [] [] b vs us v = record { guests = tt; volumes = v; bytes = refl }
    all_alike i (row ∷ rows) stand (ms ∷ mss) (ns ∷ nss) p q a [] (h ∷ hs) b vs us v = absurd b
    all_alike i (row ∷ rows) stand (ms ∷ mss) (ns ∷ nss) p q a (g ∷ gs) [] b vs us v = absurd b
    all_alike i (row ∷ rows) stand (ms ∷ mss) (ns ∷ nss) p q a (g ∷ gs) (h ∷ hs) b vs us v =
        let one : Served = whole row ms g vs in
        let two : Served = whole row ns h us in
        let first : IsAlike i one two = both (far_guest c far i)
        (λ f. far_one i row stand.0 f ms ns p.0 (a.0 f) g h (b.0 f) vs us v)
        (λ n. near_one i row stand.0 n ms ns p.0 q.0 g h vs us v) in
        let rest = all_alike (suc i) rows stand.1 mss nss p.1 q.1 a.1 gs hs b.1 one.volumes two.volumes first.volumes in
        let shown = first.bytes in
        let later = rest.bytes in
        record {
          guests = (first.guest, rest.guests);
          volumes = rest.volumes;
          bytes = bytes_append line one.puts (all_served c rows mss gs one.volumes).puts ∙ (λ j. shown j ++ later j) ∙ sym (bytes_append line two.puts (all_served c rows nss hs two.volumes).puts);
        }
