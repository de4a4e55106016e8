-- A guest's turn in the machine is its own; so are a command and a typed line.
use Rattle.std.proofs.Common.{ℕ, zero, suc, ◌≡◌, ◌<◌, ◌≤◌, ◌+◌, ◌%◌, ◌^◌, List, [], length, slice_index_or, slice_set, refl, sym, ◌∙◌, ap, subst, arith, Option, None, Some}
use Rattle.std.specs.List.{All, slice_get}
use Rattle.std.specs.Prelude.{IfSome}
use Rattle.vax_hw.specs.Machine.{Machine}
use Rattle.sys_guests.proofs.Lists.{get_map}
use Rattle.sys_guests.proofs.One.{one_became, one_turns}
use Rattle.sys_guests.specs.Changes.{AdvancesOne, StopShows, TakesStateAt, shown_in}
use Rattle.sys_guests.specs.Layout.{guests_in}
use Rattle.sys_state.specs.Counts.{tally_by}
use Rattle.sys_state.specs.Events.{message_of}
use Rattle.sys_state.specs.Guests.{alone, stopped_by_command, typed}
use Rattle.sys_state.specs.Slices.{Slice}
use Rattle.vm_console.proofs.Kept.{kept_whole}
use Rattle.vm_console.specs.Appends.{Appends}
use Rattle.vm_console.specs.Kept.{KeptOutput, MayKeep, empty}
use Rattle.vm_guest.specs.Kept.{IsShadowedIn, Kept, TakesState, guest_in}
use Rattle.vm_state.proofs.Steps.{shows_few, steps_keep}
use Rattle.vm_state.specs.Outside.{commanded_to_stop, stop_message, with_line}
use Rattle.vm_state.specs.Run.{Run, after_step, after_steps, no_steps}
use Rattle.vm_state.specs.State.{Guest, State, state_of}
use Rattle.vm_state.specs.Step.{step}
use Rattle.vm_stepping.specs.Advances.{Advances}
use Rattle.vm_stepping.specs.Made.{run_of}
use Rattle.vm_stepping.specs.declared.counts.Counts.{Counts}

-- what n steps show
few_shown : (n : ℕ) (g : Guest) → n ≤ 100000 → length (alone n g).shown ≤ 1400000
few_shown n g few = let most = shows_few n (record { guest = g; shown = []; tally = no_steps }) in omega (arith, most)

-- whether there are modify faults stays
steps_keep_faults : (n : ℕ) (run : Run) → (after_steps n run).guest.state.modify_faults ≡ run.guest.state.modify_faults
steps_keep_faults zero run = refl
steps_keep_faults (suc n) run = steps_keep_faults n (after_step run (step run.guest)) ∙ (steps_keep run.guest).modify_faults

pub advanced : (ks : List Kept) (k k' : Kept) (m m' : Machine) (old new : KeptOutput) (x : Slice) (c : Counts) → x.guest < length ks → k ≡ slice_index_or ks x.guest k → All (λ (y : Kept). IsShadowedIn m.memory y) ks → x.steps ≤ 100000 → old ≡ empty
    → Advances (MayKeep 1400000) x.steps old new m k.shadow k.state m' k'.shadow k'.state c → AdvancesOne x m ks m' (slice_set ks x.guest k') new.bytes c
advanced ks k k' m m' old new x c there read stand few is_empty a =
    let n = x.steps in
    let before : Guest = guest_in m.memory k in
    let run : alone n before ≡ run_of m'.memory k'.state c a.text = a.run in
    let now : guest_in m'.memory k' ≡ (alone n before).guest = ap (λ (r : Run). r.guest) (sym run) in
    let shown : (alone n before).shown ≡ a.text = ap (λ (r : Run). r.shown) run in
    let fits : length a.text ≤ 1400000 = subst (λ (xs : List ℕ). length xs ≤ 1400000) shown (few_shown n before few) in
    let here : slice_get (guests_in m.memory ks) x.guest ≡ Some before = get_map (guest_in m.memory) ks x.guest k there read in
    let faults : (alone n before).guest.state.modify_faults ≡ k.state.modify_faults = steps_keep_faults n (record { guest = before; shown = []; tally = no_steps }) in
    record {
      changes = λ rows placed. one_became rows x.guest (λ g. (alone n g).guest) ks k k' m m' there read placed faults (record { guest = now; stands = a.goes.stands; only = a.goes.only; place = a.goes.place; tables = a.goes.tables });
      shown = kept_whole 1400000 old new a.text is_empty a.shows fits ∙ sym shown ∙ ap (shown_in n) (sym here);
      counts = sym (ap (λ (r : Run). r.tally) run) ∙ ap (tally_by n) (sym here);
      steps = a.kinds;
      retires = record { retired = retires m'.retired m.retired c.plain a.retired.retired; trail = retires m'.trail m.trail c.trail a.retired.trail };
    }
  where
    retires : (x y n : ℕ) → (x + 0) % 2 ^ 64 ≡ (y + n) % 2 ^ 64 → x % 2 ^ 64 ≡ (y + n) % 2 ^ 64
    retires x y n e = omega (arith, e)

-- what holds of the guest that is there
pub of_one : (ks : List Kept) (place : ℕ) (k : Kept) (memory : List ℕ) (P : Guest → Type 0) → place < length ks → k ≡ slice_index_or ks place k → P (guest_in memory k) → IfSome (slice_get (guests_in memory ks) place) P
of_one ks place k memory P there read holds = subst (λ (o : Option Guest). IfSome o P) (sym (get_map (guest_in memory) ks place k there read)) holds

-- a command to stop it leaves its choice of modify faults
stop_keeps_faults : (s : State) → (commanded_to_stop s).modify_faults ≡ s.modify_faults
stop_keeps_faults s = by s.halt refl
  where
    by : (o : Option ℕ) → s.halt ≡ o → (commanded_to_stop s).modify_faults ≡ s.modify_faults
    by None e = rw e refl
    by (Some code) e = rw e refl

pub stopped : (ks : List Kept) (place : ℕ) (k k' : Kept) → place < length ks → k ≡ slice_index_or ks place k → TakesState (commanded_to_stop (state_of k.state)) k k' → TakesStateAt place stopped_by_command ks (slice_set ks place k')
stopped ks place k k' there read t = one_turns place stopped_by_command (λ (y : Kept). commanded_to_stop (state_of y.state)) ks k k' there read (λ memory. refl) (stop_keeps_faults (state_of k.state)) t

-- what it says fits the port
few_said : (s : State) → length (stop_message s) ≤ 1400000
few_said s = by s.halt refl
  where
    by : (o : Option ℕ) → s.halt ≡ o → length (stop_message s) ≤ 1400000
    by None e = rw e (omega arith)
    by (Some code) e = rw e (omega arith)

pub said : (ks : List Kept) (place : ℕ) (k : Kept) (old new : KeptOutput) → place < length ks → k ≡ slice_index_or ks place k → old ≡ empty → Appends (MayKeep 1400000) old new (stop_message (state_of k.state)) → StopShows place ks new.bytes
said ks place k old new there read is_empty appends memory =
    let here : slice_get (guests_in memory ks) place ≡ Some (guest_in memory k) = get_map (guest_in memory) ks place k there read in
    kept_whole 1400000 old new (stop_message (state_of k.state)) is_empty appends (few_said (state_of k.state)) ∙ ap message_of (sym here)

pub line_typed : (ks : List Kept) (place : ℕ) (text : List ℕ) (k k' : Kept) → place < length ks → k ≡ slice_index_or ks place k → TakesState (with_line text (state_of k.state)) k k' → TakesStateAt place (typed text) ks (slice_set ks place k')
line_typed ks place text k k' there read t =
    one_turns place (typed text) (λ (y : Kept). with_line text (state_of y.state)) ks k k' there read (λ memory. refl) refl t
