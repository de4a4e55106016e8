-- A run whose events were typed, after power went down.
use Rattle.std.proofs.Common.{ℕ, zero, suc, ◌≡◌, ◌≢◌, ◌<◌, ◌≤◌, ◌+◌, List, [], ◌∷◌, ◌++◌, length, map, slice_index_or, refl, sym, ◌∙◌, ap, subst, arith, append_assoc, length-append, All, Bool, false, Option, Some, None, ◌==◌}
use Rattle.sys_runs.specs.Besides.{MissesArePaid}
use Rattle.std.proofs.Math.ListN.{get_or-append}
use Rattle.std.proofs.lemmas.Bool.{ne_eqb}
use Rattle.std.proofs.lemmas.List.{get_or-append-add, get_or_default, length-map}
use Rattle.std.proofs.lemmas.List.Elements.{All-head, All-tail}
use Rattle.std.specs.List.{AllPairs, filter_map}
use Rattle.vax_hw.specs.Machine.{Machine}
use Rattle.vv_io.specs.Blocks.{SeenDrive}
use Rattle.vv_io.specs.Lines.{Seen}
use Rattle.sys_devices.specs.Rounds.{echo_rounds, taken_next}
use Rattle.sys_devices.specs.Screens.{IsLineKnown, more_on}
use Rattle.sys_guests.specs.Layout.{guests_in}
use Rattle.sys_guests.specs.Loads.{MemoryAlone}
use Rattle.sys_guests.specs.Present.{HavePresent}
use Rattle.sys_devices.specs.Shows.{Shows}
use Rattle.sys_objects.specs.Condition.{IsConfig}
use Rattle.sys_objects.specs.Rules.{audit_line, lines_of}
use Rattle.sys_objects.specs.declared.records.Config.{Config}
use Rattle.sys_objects.specs.declared.records.GuestRow.{GuestRow}
use Rattle.sys_objects.specs.declared.records.PrinterRow.{PrinterRow}
use Rattle.sys_objects.specs.declared.records.Terminal.{Terminal}
use Rattle.sys_state.specs.Bytes.{dump_on}
use Rattle.sys_state.specs.FirstTouches.{none_touched}
use Rattle.sys_state.specs.Run.{Input, Moment, first_moment}
use Rattle.sys_runs.proofs.Whole.{made_at_once}
use Rattle.sys_runs.specs.Ran.{RunOutside}
use Rattle.sys_runs.specs.declared.running.Ran.{Ran}
use Rattle.sys_script.specs.Typed.{MeansTyped, events_typed, rounds_ended, rounds_typed}
use Rattle.sys_script.specs.declared.event.Event.{Event}
use Rattle.sys_system.specs.Calls.{PowersDown}
use Rattle.sys_system.specs.Devices.{first_failed}
use Rattle.sys_system.specs.Faults.{HasPower}
use Rattle.sys_system.specs.System.{IsSystem, System, moment_of}
use Rattle.vm_state.specs.State.{Guest}
use Rattle.vm_stepping.specs.Made.{steps_in}
use Rattle.sys_live.proofs.Asking.{still_in_order, still_known}
use Rattle.sys_live.proofs.Echoing.{at, echo_alike, more}
use Rattle.sys_live.specs.Lives.{AreSeen, Lives}
use Rattle.sys_live.specs.Made.{MakesTyped}
use Rattle.sys_live.specs.Operator.{Operator}
use Rattle.sys_live.specs.declared.session.Lived.{Lived}
use Rattle.sys_live.specs.declared.session.Went.{Went}

-- no number of these is that one
abbrev pub Lacks : ℕ → List ℕ → Type 0
Lacks n xs = All (λ x. x ≢ n) xs

lacks_front : (n : ℕ) (xs ys : List ℕ) → Lacks n (xs ++ ys) → Lacks n xs
lacks_front n xs ys lacks k d within = subst (λ x. x ≢ n) (get_or-append xs ys d k within) (lacks k d (omega (arith, within, length-append xs ys)))

lacks_back : (n : ℕ) (xs ys : List ℕ) → Lacks n (xs ++ ys) → Lacks n ys
lacks_back n xs ys lacks k d within = subst (λ x. x ≢ n) (get_or-append-add xs ys k d) (lacks (length xs + k) d (omega (arith, within, length-append xs ys)))

line_of : (ts : List Terminal) (rest : List ℕ) (k : ℕ) (d : Terminal) → k < length ts → slice_index_or (map (λ t. t.line) ts ++ rest) k 0 ≡ (slice_index_or ts k d).line
line_of [] rest k d l = absurd (omega (arith, l))
line_of (t ∷ ts) rest zero d l = refl
line_of (t ∷ ts) rest (suc k) d l = line_of ts rest k d (omega (arith, l))

-- no line of a terminal comes after them
apart : (ts : List Terminal) (rest : List ℕ) → AllPairs (λ x y. x ≢ y) (map (λ (t : Terminal). t.line) ts ++ rest) → All (λ t. Lacks t.line rest) ts
apart ts rest distinct i d l j e m same =
    let lines : List ℕ = map (λ (t : Terminal). t.line) ts in
    let size : length lines ≡ length ts = length-map ts (λ (t : Terminal). t.line) in
    let long : length (lines ++ rest) ≡ length lines + length rest = length-append lines rest in
    let there : slice_index_or (lines ++ rest) (length lines + j) 0 ≡ slice_index_or rest j e = get_or-append-add lines rest j 0 ∙ get_or_default rest j 0 e m in
    distinct i (length lines + j) 0 (omega (arith, l, size)) (omega (arith, m, long)) (line_of ts rest i d l ∙ sym same ∙ sym there)

dumped_by : (line : ℕ) (row : GuestRow) (rows : List GuestRow) (g : Guest) (gs : List Guest) → (Lacks line (filter_map (λ (x : GuestRow). x.dump) rows) → dump_on line rows gs ≡ []) → (o : Option ℕ) → row.dump ≡ o → Lacks line (filter_map (λ (x : GuestRow). x.dump) (row ∷ rows)) → dump_on line (row ∷ rows) (g ∷ gs) ≡ []
dumped_by line row rows g gs rest None is lacks = rw is (rest (rw is at lacks))
dumped_by line row rows g gs rest (Some n) is lacks =
    let dumps : List ℕ = filter_map (λ (x : GuestRow). x.dump) rows in
    let all : Lacks line (n ∷ dumps) = rw is at lacks in
    let other : (n == line) ≡ false = ne_eqb n line (All-head (λ x. x ≢ line) n dumps all) in
    rw (is, other) (rest (All-tail (λ x. x ≢ line) n dumps all))

-- a line of no guest's dump gets none
none_dumped : (line : ℕ) (rows : List GuestRow) (gs : List Guest) → Lacks line (filter_map (λ (g : GuestRow). g.dump) rows) → dump_on line rows gs ≡ []
none_dumped line [] gs lacks = refl
none_dumped line (row ∷ rows) [] lacks = refl
none_dumped line (row ∷ rows) (g ∷ gs) lacks = dumped_by line row rows g gs (none_dumped line rows gs) row.dump refl lacks

-- nor does a terminal's line, in an accepted configuration
pub no_dump : (c : Config) → IsConfig c → All (λ t. (gs : List Guest) → dump_on t.line c.guests gs ≡ []) c.terminals
no_dump c accepted k d within gs =
    let ts : List ℕ = map (λ (t : Terminal). t.line) c.terminals in
    let ps : List ℕ = map (λ (p : PrinterRow). p.line) c.printers in
    let ds : List ℕ = filter_map (λ (g : GuestRow). g.dump) c.guests in
    let rest : List ℕ = ps ++ (ds ++ audit_line c.audit) in
    let parted : lines_of c ≡ ts ++ rest = append_assoc (ts ++ ps) ds (audit_line c.audit) ∙ append_assoc ts ps (ds ++ audit_line c.audit) in
    let line = (slice_index_or c.terminals k d).line in
    let lacks : Lacks line rest = apart c.terminals rest (subst (λ xs. AllPairs (λ x y. x ≢ y) xs) parted accepted.lines) k d within in
    none_dumped line c.guests gs (lacks_front line ds (audit_line c.audit) (lacks_back line ps (ds ++ audit_line c.audit) lacks))

-- the dumps leave the terminals' lines as they are
module _ (c : Config) (accepted : IsConfig c) (marks marks' : List Bool) (lines lines1 lines2 : List Seen) (gs : List Guest) (dumps : Shows marks marks' lines1 lines2 (λ k. dump_on k c.guests gs)) where
  kept : All (λ t. at lines2 t.line ≡ at lines1 t.line) c.terminals
  kept k d within = (dumps.others (slice_index_or c.terminals k d).line (no_dump c accepted k d within gs)).1

  pub seen_before : AreSeen c.terminals lines2 → AreSeen c.terminals lines1
  seen_before are k d within = subst IsLineKnown (kept k d within) (are k d within)

  pub echo_kept : (m : Moment) (es : List Event) (n : ℕ) → m.config ≡ c → echo_rounds (more_on lines lines1) m es n ≡ echo_rounds (more_on lines lines2) m es n
  echo_kept m es n of =
      let same : All (λ t. at lines2 t.line ≡ at lines1 t.line) m.config.terminals = subst (λ (y : Config). All (λ t. at lines2 t.line ≡ at lines1 t.line) y.terminals) (sym of) kept in
      echo_alike (more_on lines lines1) (more_on lines lines2) m es es n (λ i low. λ k d within.
      let line = (slice_index_or m.config.terminals k d).line in
      ap (λ (s : Seen). taken_next (more (at lines line) s) m es i line) (sym (same k d within)))

-- such a run was made
pub run_lived : (c : Config) (images : List (List ℕ)) (most : ℕ) (went : Went) (ran : Ran) (rounds : ℕ) (p : Operator) (out out' : Seen) (m0 m1 m2 : Machine) (s0 s1 s2 : System) (lines lines1 lines2 : List Seen) (drives drives1 drives2 : List SeenDrive) → IsConfig c → (power : HasPower c images drives drives1 m1 s0) → MemoryAlone m0 m1
    → (t : MakesTyped most went p out out' m1 s0 lines m2 s1 lines1) → PowersDown m2 s1 lines1 drives1 s2 lines2 drives2 → HavePresent s0.guests (map none_touched (guests_in m1.memory s0.guests)) → IsSystem s1 → ran.counts ≡ s2.counts → ran.failed ≡ first_failed s2.marks s2.drives
    → length lines2 ≡ length lines → length drives2 ≡ length drives → rounds ≡ s1.rounds → most ≤ 1000000 → MeansTyped
    → Lives MissesArePaid (record { config = c; images = images; volumes = power.volumes; events = events_typed 1 t.typed; rounds = rounds_typed false t.typed }) most (record { ran = ran; rounds = rounds; is_cut = went.is_cut; typing = went.typing })
    (record { machine = m0; machine' = m2; lines = lines; lines' = lines2; drives = drives; drives' = drives2 }) p out out'
run_lived c images most went ran rounds p out out' m0 m1 m2 s0 s1 s2 lines lines1 lines2 drives drives1 drives2 accepted power alone t down present holds counts failed lines_size drives_size made few law =
    let es : List Event = events_typed 1 t.typed in
    let n : ℕ = rounds_typed false t.typed in
    let m : Moment = first_moment c images power.volumes in
    let config0 : s0.config ≡ c = ap (λ (s : System). s.config) power.powered.system in
    let rounds0 : s0.rounds ≡ 0 = ap (λ (s : System). s.rounds) power.powered.system in
    let config1 : s1.config ≡ c = ap (λ (s : System). s.config) t.makes.system ∙ config0 in
    let rounds1 : s1.rounds ≡ s0.rounds + n = ap (λ (s : System). s.rounds) t.makes.system in
    let begins : moment_of m1.memory s0 ≡ m = λ i. record { config = config0 i; made = rounds0 i; state = power.powered.state i } in
    let gs : List Guest = guests_in m2.memory s1.guests in
    let dumps : Shows s1.marks s2.marks lines1 lines2 (λ k. dump_on k c.guests gs) = subst (λ (y : Config). Shows s1.marks s2.marks lines1 lines2 (λ k. dump_on k y.guests gs)) config1 down.shows in
    let before : ℕ → List ℕ = echo_rounds (more_on lines lines1) (moment_of m1.memory s0) es in
    let after : ℕ → List ℕ = echo_rounds (more_on lines lines2) m es in
    let earlier : AreSeen c.terminals lines2 → AreSeen s0.config.terminals lines1 = λ seen. subst (λ (y : Config). AreSeen y.terminals lines1) (sym config0) (seen_before c accepted s1.marks s2.marks lines lines1 lines2 gs dumps seen) in
    let same : (j : ℕ) → AreSeen c.terminals lines2 → before j ≡ after j = λ j seen. ap (λ (k : Moment). echo_rounds (more_on lines lines1) k es j) begins ∙ echo_kept c accepted s1.marks s2.marks lines lines1 lines2 gs dumps m es j refl in
    record {
      makes = made_at_once c images m1 s0 drives drives1 power es n m0 m2 s1 s2 lines lines1 lines2 drives2 accepted alone t.makes down present ran holds counts failed lines_size drives_size;
      typed = t.typed;
      ends = t.ends;
      events = refl;
      means = law t.typed (omega (arith, t.few, few));
      rounds = refl;
      few = t.few;
      made = omega (arith, made, rounds0, rounds1);
      cut = t.cut;
      told = t.told;
      shown = still_known went.is_cut (AreSeen s0.config.terminals lines1) (AreSeen c.terminals lines2) (before n) (after n) out out' earlier (same n) t.shown;
      asked = still_in_order (AreSeen s0.config.terminals lines1) (AreSeen c.terminals lines2) before after out went.typing (rounds_ended t.typed) t.typed p.keys p.keys' earlier (λ j low. same j) (omega arith) t.asked;
    }

-- its steps are few
pub few_steps : (x : Input) (most : ℕ) (lived : Lived) (o : RunOutside) (p : Operator) (out out' : Seen) → Lives MissesArePaid x most lived o p out out' → most ≤ 1000000 → steps_in lived.ran.counts ≤ 3200000000000
few_steps x most lived o p out out' l few = omega (arith, l.makes.makes.few, l.few, few)
