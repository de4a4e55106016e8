-- What transfers show a line that flows into a class.
use Rattle.std.proofs.Common.{◌≡◌, ℕ, List, [], ◌∷◌, ◌++◌, length, map, true, false, refl, sym, ap, ◌∙◌, All, Option, Some, None, slice_get, true≢false, ◌==◌}
use Rattle.std.proofs.lemmas.Bool.{ne_eqb}
use Rattle.vv_class.specs.Class.{does_flow}
use Rattle.vv_class.specs.declared.class.AccessClass.{AccessClass}
use Rattle.sys_objects.specs.Rules.{flows_into, may_print}
use Rattle.sys_objects.specs.declared.records.Config.{Config}
use Rattle.sys_objects.specs.declared.records.GuestRow.{GuestRow}
use Rattle.sys_objects.specs.declared.records.Mount.{Mount}
use Rattle.sys_objects.specs.declared.records.PrinterRow.{PrinterRow}
use Rattle.sys_purge.proofs.Accepted.{flows_on, printer_kept}
use Rattle.sys_purge.proofs.Fits.{Each, Fits, MountFits, MountsFit, Pairs, all_get}
use Rattle.sys_purge.proofs.Kept.{both, get_kept}
use Rattle.sys_purge.proofs.Seen.{seen}
use Rattle.sys_purge.proofs.SeenTransfers.{Volumes, moved_move, no_guests, no_mounts, purged_all, same_move, same_one, same_served, seen_mss, seen_volumes, unseen_served}
use Rattle.sys_purge.proofs.SeenTurns.{seen_rows}
use Rattle.sys_purge.specs.Input.{beside, is_kept}
use Rattle.sys_purge.specs.Purge.{mount_place, place_if_kept, printer_place, purge_config, rank, renumbered}
use Rattle.sys_state.proofs.Consoles.{bytes_append}
use Rattle.sys_state.specs.Guests.{with_no_queue}
use Rattle.sys_state.specs.State.{Put, SystemState, bytes_on}
use Rattle.sys_state.specs.Transfers.{AllServed, Move, Packet, Prints, Reads, Refused, Served, Writes, all_served, move_of, moved, packet_at, printed, printer_of, served, served_one, transfers}
use Rattle.sys_store.specs.Job.{job_text}
use Rattle.vm_state.specs.Outside.{bytes_at}
use Rattle.vm_state.specs.State.{Guest}

-- each printer on the line flows into the class
abbrev pub PrintersFlow : ℕ → AccessClass → List PrinterRow → Type 0
PrintersFlow line to ps = All (λ (p : PrinterRow). p.line ≡ line → does_flow p.class to ≡ true) ps

-- a line with something that doesn't flow into the class is another
pub other_line : (own line : ℕ) (class to : AccessClass) → (own ≡ line → does_flow class to ≡ true) → does_flow class to ≡ false → (own == line) ≡ false
other_line own line class to flow e = ne_eqb own line (λ same. true≢false (sym (flow same) ∙ e))

module _ (c : Config) (to : AccessClass) (line : ℕ) (flow : PrintersFlow line to c.printers) where
  -- what a print job shows
  same_job : (class : AccessClass) (job : List ℕ) (k : ℕ) (o : Option PrinterRow) → slice_get c.printers k ≡ o → flows_into class o ≡ true
      → bytes_on line (printed (printer_of (purge_config c to) (place_if_kept to (rank (printer_kept c to) c.printers k) o)) job) ≡ bytes_on line (printed o job)
  same_job class job k None at h = refl
  same_job class job k (Some q) at h = both (does_flow q.class to)
      (λ e. let new = get_kept (printer_kept c to) q e c.printers k at in rw (e, new) refl)
      (λ e. let off = other_line q.line line q.class to (all_get (λ (p : PrinterRow). p.line ≡ line → does_flow p.class to ≡ true) c.printers k q flow at) e in rw (e, off) refl)

  same_print : (class : AccessClass) (job : List ℕ) (o : Option ℕ) → may_print c.printers class o ≡ true
      → bytes_on line (printed (printer_of (purge_config c to) (printer_place to c.printers o)) job) ≡ bytes_on line (printed (printer_of c o) job)
  same_print class job None h = refl
  same_print class job (Some k) h = same_job class job k (slice_get c.printers k) refl h

  hidden_job : (class : AccessClass) → does_flow class to ≡ false → (job : List ℕ) (k : ℕ) (o : Option PrinterRow) → slice_get c.printers k ≡ o → flows_into class o ≡ true → bytes_on line (printed o job) ≡ []
  hidden_job class e job k None at h = refl
  hidden_job class e job k (Some q) at h =
      let hidden : does_flow q.class to ≡ false = both (does_flow q.class to) (λ f. absurd (true≢false (sym (flows_on class q.class to h f) ∙ e))) (λ f. f) in
      let off = other_line q.line line q.class to (all_get (λ (p : PrinterRow). p.line ≡ line → does_flow p.class to ≡ true) c.printers k q flow at) hidden in
      rw off refl

  hidden_print : (class : AccessClass) → does_flow class to ≡ false → (job : List ℕ) (o : Option ℕ) → may_print c.printers class o ≡ true → bytes_on line (printed (printer_of c o) job) ≡ []
  hidden_print class e job None h = refl
  hidden_print class e job (Some k) h = hidden_job class e job k (slice_get c.printers k) refl h

  abbrev pub PrintFits : GuestRow → Type 0
  PrintFits row = may_print c.printers row.class row.printer ≡ true

  -- a guest that is seen
  moved_bytes : (row : GuestRow) → PrintFits row → (g : Guest) (at : ℕ) (p : Packet) (vs : Volumes) (move : Move)
      → bytes_on line (moved (purge_config c to) (renumbered to c row) g at p (seen_volumes c to vs) (moved_move c to move)).puts ≡ bytes_on line (moved c row g at p vs move).puts
  moved_bytes row h g at p vs (Refused status) = refl
  moved_bytes row h g at p vs (Reads v) = refl
  moved_bytes row h g at p vs (Writes v) = refl
  moved_bytes row h g at p vs Prints = same_print row.class (job_text row.class row.name (bytes_at g p.buffer p.size)) row.printer h

  one_bytes : (row : GuestRow) → PrintFits row → does_flow row.class to ≡ true → (ms : List (Option Mount)) → Each (MountFits c row.class) ms → (g : Guest) (at : ℕ) (vs : Volumes)
      → bytes_on line (served_one (purge_config c to) (renumbered to c row) (map (mount_place to c.volumes) ms) g at (seen_volumes c to vs)).puts ≡ bytes_on line (served_one c row ms g at vs).puts
  one_bytes row h e ms each g at vs =
      let p : Packet = packet_at g.memory at in
      ap (λ (move : Move). bytes_on line (moved (purge_config c to) (renumbered to c row) g at p (seen_volumes c to vs) move).puts) (same_move c to row.class e (length g.memory) vs ms p each)
      ∙ moved_bytes row h g at p vs (move_of (length g.memory) vs ms p)

  served_bytes : (row : GuestRow) → PrintFits row → does_flow row.class to ≡ true → (ms : List (Option Mount)) → Each (MountFits c row.class) ms → (g : Guest) (queue : List ℕ) (vs : Volumes)
      → bytes_on line (served (purge_config c to) (renumbered to c row) (map (mount_place to c.volumes) ms) g queue (seen_volumes c to vs)).puts ≡ bytes_on line (served c row ms g queue vs).puts
  served_bytes row h e ms each g [] vs = refl
  served_bytes row h e ms each g (at ∷ queue) vs =
      let one : Served = served_one c row ms g at vs in
      let one' : Served = served_one (purge_config c to) (renumbered to c row) (map (mount_place to c.volumes) ms) g at (seen_volumes c to vs) in
      let same = same_one c to row e ms each g at vs in
      let later : Guest → Volumes → List Put = λ x us. (served (purge_config c to) (renumbered to c row) (map (mount_place to c.volumes) ms) x queue us).puts in
      let first = one_bytes row h e ms each g at vs in
      let rest : bytes_on line (later one'.guest one'.volumes) ≡ bytes_on line (served c row ms one.guest queue one.volumes).puts =
      (λ i. bytes_on line (later (same.guest i) (same.volumes i))) ∙ served_bytes row h e ms each one.guest queue one.volumes in
      bytes_append line one'.puts (later one'.guest one'.volumes)
      ∙ (λ i. first i ++ rest i)
      ∙ sym (bytes_append line one.puts (served c row ms one.guest queue one.volumes).puts)

  -- one that isn't
  moved_nothing : (row : GuestRow) → PrintFits row → does_flow row.class to ≡ false → (g : Guest) (at : ℕ) (p : Packet) (vs : Volumes) (move : Move) → bytes_on line (moved c row g at p vs move).puts ≡ []
  moved_nothing row h e g at p vs (Refused status) = refl
  moved_nothing row h e g at p vs (Reads v) = refl
  moved_nothing row h e g at p vs (Writes v) = refl
  moved_nothing row h e g at p vs Prints = hidden_print row.class e (job_text row.class row.name (bytes_at g p.buffer p.size)) row.printer h

  served_nothing : (row : GuestRow) → PrintFits row → does_flow row.class to ≡ false → (ms : List (Option Mount)) (g : Guest) (queue : List ℕ) (vs : Volumes) → bytes_on line (served c row ms g queue vs).puts ≡ []
  served_nothing row h e ms g [] vs = refl
  served_nothing row h e ms g (at ∷ queue) vs =
      let p : Packet = packet_at g.memory at in
      let one : Served = served_one c row ms g at vs in
      let first = moved_nothing row h e g at p vs (move_of (length g.memory) vs ms p) in
      let rest = served_nothing row h e ms one.guest queue one.volumes in
      bytes_append line one.puts (served c row ms one.guest queue one.volumes).puts ∙ (λ i. first i ++ rest i)

  all_bytes : (rows : List GuestRow) → Each PrintFits rows → (mss : List (List (Option Mount))) → Pairs (MountsFit c) rows mss → (gs : List Guest) (vs : Volumes)
      → bytes_on line (purged_all c to rows mss gs vs).puts ≡ bytes_on line (all_served c rows mss gs vs).puts
  all_bytes [] h mss f gs vs = refl
  all_bytes (row ∷ rows) h [] f gs vs = ap (λ (a : AllServed). bytes_on line a.puts) (no_mounts c to (seen_rows c to (row ∷ rows)) (beside (is_kept to) (row ∷ rows) gs) (seen_volumes c to vs))
  all_bytes (row ∷ rows) h (ms ∷ mss) f [] vs = ap (λ (a : AllServed). bytes_on line a.puts) (no_guests c to (seen_rows c to (row ∷ rows)) (seen_mss c to (row ∷ rows) (ms ∷ mss)) (seen_volumes c to vs))
  all_bytes (row ∷ rows) h (ms ∷ mss) f (g ∷ gs) vs =
      let one : Served = served c row ms (with_no_queue g) g.state.queue vs in
      let one' : Served = served (purge_config c to) (renumbered to c row) (map (mount_place to c.volumes) ms) (with_no_queue g) g.state.queue (seen_volumes c to vs) in
      let more : List Put = (all_served c rows mss gs one.volumes).puts in
      let rest = all_bytes rows h.1 mss f.1 gs one.volumes in
      let later : Volumes → List Put = λ us. (all_served (purge_config c to) (seen_rows c to rows) (seen_mss c to rows mss) (beside (is_kept to) rows gs) us).puts in
      both (is_kept to row)
      (λ e.
      let same = same_served c to row e ms f.0 (with_no_queue g) g.state.queue vs in
      let first = served_bytes row h.0 e ms f.0 (with_no_queue g) g.state.queue vs in
      let beyond : bytes_on line (later one'.volumes) ≡ bytes_on line more = ap (λ us. bytes_on line (later us)) same.volumes ∙ rest in
      rw e (bytes_append line one'.puts (later one'.volumes) ∙ (λ i. first i ++ beyond i) ∙ sym (bytes_append line one.puts more)))
      (λ e.
      let same = unseen_served c to row e ms f.0 (with_no_queue g) g.state.queue vs in
      let none = served_nothing row h.0 e ms (with_no_queue g) g.state.queue vs in
      rw e (ap (λ us. bytes_on line (later us)) (sym same) ∙ rest ∙ sym (bytes_append line one.puts more ∙ ap (λ (bytes : List ℕ). bytes ++ bytes_on line more) none)))

  pub transfers_bytes : (s : SystemState) → Fits c s → Each PrintFits c.guests → bytes_on line (transfers (purge_config c to) (seen c to s)).puts ≡ bytes_on line (transfers c s).puts
  transfers_bytes s f h = all_bytes c.guests h s.mounts f.mounts s.guests s.volumes
