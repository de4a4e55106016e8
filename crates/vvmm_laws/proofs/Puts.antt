-- What is shown on other lines than the audit's.
use Rattle.std.proofs.Common.{◌≡◌, ℕ, zero, suc, ◌==◌, List, [], ◌∷◌, ◌++◌, map, false, refl, Option, Some, None, slice_get, slice_set}
use Rattle.std.proofs.lemmas.Bool.{cond_both}
use Rattle.sys_objects.specs.declared.records.Config.{Config}
use Rattle.sys_objects.specs.declared.records.GuestRow.{GuestRow}
use Rattle.sys_objects.specs.declared.records.Mount.{Mount}
use Rattle.sys_objects.specs.declared.records.PrinterRow.{PrinterRow}
use Rattle.sys_objects.specs.declared.records.Terminal.{Terminal}
use Rattle.sys_state.specs.Bytes.{dump_on}
use Rattle.sys_state.specs.Consoles.{console_of, on_console}
use Rattle.sys_purge.proofs.EventBytes.{told}
use Rattle.sys_state.specs.Events.{after_verdict, message_of}
use Rattle.sys_state.specs.Guests.{alone, with_no_queue}
use Rattle.sys_objects.specs.Places.{is_at}
use Rattle.sys_state.specs.State.{Put, SystemState, bytes_on}
use Rattle.sys_state.specs.Transfers.{Move, Packet, Prints, Reads, Refused, Writes, all_served, moved, move_of, packet_at, printed, printer_of, served, served_one}
use Rattle.sys_state.specs.Turns.{turn_puts}
use Rattle.sys_server.specs.declared.command.Command.TheVariants.{Connect, Start, Halt, MountAt, Dismount, Show}
use Rattle.sys_server.specs.declared.command.Verdict.{Verdict}
use Rattle.sys_server.specs.declared.command.Verdict.TheVariants.{Granted, BadCommand, NoSuchObject, Denied}
use Rattle.vm_state.specs.State.{Guest}

abbrev pub Each : {X : Type 0} → (X → Type 0) → List X → Type 0
Each P [] = Unit {0}
Each P (x ∷ xs) = P x × Each P xs

-- no put is on the line
abbrev pub Elsewhere : ℕ → List Put → Type 0
Elsewhere line [] = Unit {0}
Elsewhere line (q ∷ qs) = ((q.line == line) ≡ false) × Elsewhere line qs

pub nothing_on : (line : ℕ) (qs : List Put) → Elsewhere line qs → bytes_on line qs ≡ []
nothing_on line [] h = refl
nothing_on line (q ∷ qs) h = rw h.0 (nothing_on line qs h.1)

pub elsewhere_append : (line : ℕ) (a b : List Put) → Elsewhere line a → Elsewhere line b → Elsewhere line (a ++ b)
elsewhere_append line [] b h k = k
elsewhere_append line (q ∷ a) b h k = (h.0, elsewhere_append line a b h.1 k)

-- the line isn't that of a terminal, of a printer or of a dump
pub record IsApart (c : Config) (line : ℕ) : Type 0 where
  pub terminals : Each (λ t. (t.line == line) ≡ false) c.terminals
  pub printers : Each (λ p. (p.line == line) ≡ false) c.printers
  pub dumps : Each (λ row. is_at line row.dump ≡ false) c.guests

module _ (line : ℕ) where
  abbrev FarLine : Option ℕ → Type 0
  FarLine None = Unit {0}
  FarLine (Some l) = (l == line) ≡ false

  console_far : (ts : List Terminal) (os : List (Option ℕ)) (g : ℕ) → Each (λ t. (t.line == line) ≡ false) ts → FarLine (console_of ts os g)
  console_far [] os g h = tt
  console_far (t ∷ ts) [] g h = tt
  console_far (t ∷ ts) (o ∷ os) g h = cond_both (is_at g o) (Some t.line) (console_of ts os g) FarLine (λ is. h.0) (λ other. console_far ts os g h.1)

  bytes_elsewhere : (l : ℕ) → (l == line) ≡ false → (bytes : List ℕ) → Elsewhere line (on_console (Some l) bytes)
  bytes_elsewhere l h [] = tt
  bytes_elsewhere l h (b ∷ bytes) = (h, bytes_elsewhere l h bytes)

  on_far : (o : Option ℕ) (bytes : List ℕ) → FarLine o → Elsewhere line (on_console o bytes)
  on_far None bytes h = tt
  on_far (Some l) bytes h = bytes_elsewhere l h bytes

  lines_elsewhere : (l : ℕ) → (l == line) ≡ false → (texts : List (List ℕ)) → Elsewhere line (map (λ text. record { line = l; bytes = text }) texts)
  lines_elsewhere l h [] = tt
  lines_elsewhere l h (text ∷ texts) = (h, lines_elsewhere l h texts)

  told_far : (o : Option ℕ) → FarLine o → Elsewhere line (told o)
  told_far None h = tt
  told_far (Some l) h = (h, tt)

  printer_far : (ps : List PrinterRow) (k : ℕ) (job : List ℕ) → Each (λ p. (p.line == line) ≡ false) ps → Elsewhere line (printed (slice_get ps k) job)
  printer_far [] k job h = tt
  printer_far (p ∷ ps) zero job h = (h.0, tt)
  printer_far (p ∷ ps) (suc k) job h = printer_far ps k job h.1

  module _ (c : Config) (apart : IsApart c line) where
    pub before_elsewhere : (s : SystemState) (n : ℕ) (t : Terminal) (v : Verdict) → (t.line == line) ≡ false → Elsewhere line (after_verdict c s n t v).before
    before_elsewhere s n t (Granted Show) far = lines_elsewhere t.line far _
    before_elsewhere s n t (Granted (Halt g)) far = on_far (console_of c.terminals s.connected g) (message_of (slice_get s.guests g)) (console_far c.terminals s.connected g apart.terminals)
    before_elsewhere s n t (Granted (Start g)) far = tt
    before_elsewhere s n t (Granted (Connect g)) far = tt
    before_elsewhere s n t (Granted (MountAt g unit mount)) far = tt
    before_elsewhere s n t (Granted (Dismount g unit)) far = tt
    before_elsewhere s n t BadCommand far = tt
    before_elsewhere s n t NoSuchObject far = tt
    before_elsewhere s n t (Denied rule) far = tt

    pub after_elsewhere : (s : SystemState) (n : ℕ) (t : Terminal) (v : Verdict) → Elsewhere line (after_verdict c s n t v).later
    after_elsewhere s n t (Granted (Connect g)) =
        let os : List (Option ℕ) = slice_set s.connected n None in
        told_far (console_of c.terminals os g) (console_far c.terminals os g apart.terminals)
    after_elsewhere s n t (Granted (Start g)) = tt
    after_elsewhere s n t (Granted (Halt g)) = tt
    after_elsewhere s n t (Granted (MountAt g unit mount)) = tt
    after_elsewhere s n t (Granted (Dismount g unit)) = tt
    after_elsewhere s n t (Granted Show) = tt
    after_elsewhere s n t BadCommand = tt
    after_elsewhere s n t NoSuchObject = tt
    after_elsewhere s n t (Denied rule) = tt

    pub turns_elsewhere : (os : List (Option ℕ)) (i : ℕ) (rows : List GuestRow) (gs : List Guest) → Elsewhere line (turn_puts c.terminals os i rows gs)
    turns_elsewhere os i [] gs = tt
    turns_elsewhere os i (row ∷ rows) [] = tt
    turns_elsewhere os i (row ∷ rows) (g ∷ gs) =
        elsewhere_append line (on_console (console_of c.terminals os i) (alone row.quantum g).shown) (turn_puts c.terminals os (suc i) rows gs)
        (on_far (console_of c.terminals os i) (alone row.quantum g).shown (console_far c.terminals os i apart.terminals))
        (turns_elsewhere os (suc i) rows gs)

    job_elsewhere : (o : Option ℕ) (job : List ℕ) → Elsewhere line (printed (printer_of c o) job)
    job_elsewhere None job = tt
    job_elsewhere (Some k) job = printer_far c.printers k job apart.printers

    moved_elsewhere : (row : GuestRow) (g : Guest) (at : ℕ) (p : Packet) (vs : List (List (List ℕ))) (m : Move) → Elsewhere line (moved c row g at p vs m).puts
    moved_elsewhere row g at p vs (Refused status) = tt
    moved_elsewhere row g at p vs (Reads v) = tt
    moved_elsewhere row g at p vs (Writes v) = tt
    moved_elsewhere row g at p vs Prints = job_elsewhere row.printer _

    served_elsewhere : (row : GuestRow) (ms : List (Option Mount)) (g : Guest) (queue : List ℕ) (vs : List (List (List ℕ))) → Elsewhere line (served c row ms g queue vs).puts
    served_elsewhere row ms g [] vs = tt
    served_elsewhere row ms g (at ∷ queue) vs =
        let p = packet_at g.memory at in
        let one = served_one c row ms g at vs in
        elsewhere_append line one.puts (served c row ms one.guest queue one.volumes).puts (moved_elsewhere row g at p vs (move_of _ vs ms p)) (served_elsewhere row ms one.guest queue one.volumes)

    pub all_elsewhere : (rows : List GuestRow) (mss : List (List (Option Mount))) (gs : List Guest) (vs : List (List (List ℕ))) → Elsewhere line (all_served c rows mss gs vs).puts
    all_elsewhere [] mss gs vs = tt
    all_elsewhere (row ∷ rows) [] gs vs = tt
    all_elsewhere (row ∷ rows) (ms ∷ mss) [] vs = tt
    all_elsewhere (row ∷ rows) (ms ∷ mss) (g ∷ gs) vs =
        let one = served c row ms (with_no_queue g) g.state.queue vs in
        elsewhere_append line one.puts (all_served c rows mss gs one.volumes).puts (served_elsewhere row ms (with_no_queue g) g.state.queue vs) (all_elsewhere rows mss gs one.volumes)

    dump_elsewhere : (rows : List GuestRow) (gs : List Guest) → Each (λ row. is_at line row.dump ≡ false) rows → dump_on line rows gs ≡ []
    dump_elsewhere [] gs h = refl
    dump_elsewhere (row ∷ rows) [] h = refl
    dump_elsewhere (row ∷ rows) (g ∷ gs) h = rw h.0 (dump_elsewhere rows gs h.1)

    pub no_dump : (gs : List Guest) → dump_on line c.guests gs ≡ []
    no_dump gs = dump_elsewhere c.guests gs apart.dumps
