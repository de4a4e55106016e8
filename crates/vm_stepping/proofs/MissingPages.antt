-- A byte that the machine has no place for.
use Rattle.std.proofs.Common.{◌≡◌, ◌≢◌, ℕ, ◌<◌, not, List, [], Option, Some, None, Result, Ok, Err, is_some, refl, ap, ◌∙◌, sym, subst, arith}
use Rattle.std.specs.Prelude.{slice_index_or}
use Rattle.vax_arch.specs.Fields.{current_of}
use Rattle.vax_arch.specs.Walk.{page_of}
use Rattle.vax_arch.specs.declared.mode.Intent.{Intent}
use Rattle.vax_hw.specs.Machine.{Machine}
use Rattle.vax_table.specs.Interaction.{At, Cause, cause_of}
use Rattle.vax_table.specs.Interaction as interaction
use Rattle.vax_table.specs.Tries.{Stopped}
use Rattle.vm_stepping.proofs.Completing.{only_both as tables_both, own_same}
use Rattle.vm_stepping.proofs.Tried.{count_less}
use Rattle.vm_shadow.specs.Layout.{all_entries}
use Rattle.vm_shadow.specs.Laws.{guest_place}
use Rattle.vm_shadow.specs.Shadowed.{Shadowed, read_at}
use Rattle.vm_shadow.specs.StandsFor.{Fills, FillsPage, IsPresent, StandsFor, own_number}
use Rattle.vm_shadow.proofs.Covering.{present_covered}
use Rattle.vm_shadow.proofs.Entries.{read_here, read_other}
use Rattle.vm_shadow.proofs.Hearing.{number_is_small, size_is}
use Rattle.vm_shadow.proofs.Present.{walk_present}
use Rattle.vm_simulation_laws.specs.Laws.{IsDenied, IsMissed, place_here}
use Rattle.vm_simulation_laws.specs.Loaded.{guest_try}
use Rattle.vm_state.specs.Partition.{guest_of}
use Rattle.vm_state.specs.Sensed.{fault_of}
use Rattle.vm_state.specs.State.{Guest}
use Rattle.vm_state.specs.Step.{Fault, Stepped, by_try, faulted, sensed_as, stopped}
use Rattle.vm_state.specs.Stops.{PastMemory}
use Rattle.vm_state.specs.Translation.{look, walk_of}
use Rattle.vm_state.specs.declared.exception.Exc.TheVariants as excs
use Rattle.vm_state.specs.declared.guest_state.GuestState.{GuestState}
use Rattle.vm_state.specs.declared.walk.MemFault.{MemFault}
use Rattle.vm_state.specs.declared.walk.Walk.{Walk}
use Rattle.vm_state.specs.declared.walk.Walk.TheVariants as walks
use Rattle.vm_stepping.specs.Made.{Made, Refills, unfilled, underway}
use Rattle.vm_stepping.specs.declared.counts.Counts.{Counts}

-- where memory alone changed
pub more_may_change : (m m' : Machine) → m' ≡ record m { memory = m'.memory } → m' ≡ record m { memory = m'.memory; world = m'.world; misses = m'.misses }
more_may_change m m' e = e ∙ (λ i. record m { memory = m'.memory; world = sym (ap (λ (x : Machine). x.world) e) i; misses = sym (ap (λ (x : Machine). x.misses) e) i })

-- a byte that was refused is one that the guest has no place for
denied_by : (r : Result ℕ Cause) (c d : Cause) → r ≡ Err c → r ≡ Err d → c ≡ d
denied_by r c d e f = cc

no_place : (r : Result ℕ Cause) (c : Cause) (pa : ℕ) → r ≡ Err c → r ≡ Ok pa → ⊥
no_place r c pa e f = cc

pub denied_missed : (i : Intent) (va : ℕ) (memory : List ℕ) (s : Shadowed) (g : GuestState) → IsDenied i va memory g → IsMissed i va memory s g
denied_missed i va memory s g k = record {
  small = k.small;
  fault = λ c e. subst (λ x. guest_try (guest_of memory g) ≡ Stopped (At x i va)) (denied_by (place_here memory g i va) k.cause c k.none e) k.try;
  empty = λ pa e. absurd (no_place (place_here memory g i va) k.cause pa k.none e);
}

module _ (m : Machine) (s : Shadowed) (g : GuestState) (va : ℕ) (i : Intent) (stands : StandsFor m.memory s g) (k : IsMissed i va m.memory s g) where
  abbrev here : Guest
  here = guest_of m.memory g

  abbrev pub walked : Walk
  walked = walk_of here va (current_of g.psl.0) i

  pub present : (pa : ℕ) (entry table : Option ℕ) → walks.Frame pa entry table ≡ walked → IsPresent here (page_of va)
  present pa entry table e = walk_present here va (current_of g.psl.0) i pa entry table (omega (arith, size_is [] m.memory s g stands.keeps stands.serves, stands.keeps.fits.small)) (sym e)

  abbrev n : ℕ
  n = own_number s (page_of va)

  pub refilled : (pa : ℕ) (entry table : Option ℕ) → walks.Frame pa entry table ≡ walked → (m' : Machine) (s' : Shadowed) → FillsPage (page_of va) g m s m' s' → Refills m s g m' s' g
  unfolding unfilled
  refilled pa entry table e m' s' f =
      let f0 = f.fills in
      let covered = present_covered m.memory s g (page_of va) stands.keeps.fits stands.serves (present pa entry table e) in
      let small = number_is_small [] m.memory s g stands.keeps stands.serves va covered in
      let empty : read_at s n ≡ None = k.empty pa (ap guest_place (sym e)) in
      record {
        guest = refl;
        stands = f.stands;
        own = own_same m m' s g stands.keeps.fits stands.serves f.only;
        machine = more_may_change m m' f.only.rest;
        only = tables_both s m m' f.only;
        tables = ap (λ (x : Shadowed). x.at) f0.rest;
        fewer = fewer_now m' s' f0 small empty;
      }
    where
      fewer_now : (m' : Machine) (s' : Shadowed) → Fills (look here (page_of va)) n s s' → n < all_entries → read_at s n ≡ None → unfilled s' < unfilled s
      fewer_now m' s' f0 small empty =
          let now : read_at s' n ≡ Some f0.source = ap (λ r. slice_index_or r n None) f0.reads ∙ read_here s n (Some f0.source) stands.keeps.remembers.whole small in
          let others : (j : ℕ) → j ≢ n → read_at s' j ≡ read_at s j = λ j differ. ap (λ r. slice_index_or r j None) f0.reads ∙ read_other s n j (Some f0.source) differ in
          count_less (λ j. not (is_some (read_at s j))) (λ j. not (is_some (read_at s' j))) n all_entries small (ap (λ x. not (is_some x)) empty) (ap (λ x. not (is_some x)) now) (λ j differ. ap (λ x. not (is_some x)) (others j differ))

  -- the guest's own fault
  faults_by : (c : Cause) → guest_place walked ≡ Err c → by_try here (guest_try here) ≡ sensed_as here (fault_of walked)
  faults_by c e = ap (by_try here) (k.fault c e)

  pub faults : (f : MemFault) → walks.Fault f ≡ walked → by_try here (guest_try here) ≡ faulted here (excs.Memory f)
  faults f e = faults_by (cause_of f.not_valid) (ap guest_place (sym e)) ∙ ap (λ w. sensed_as here (fault_of w)) (sym e)

  pub stops : walks.Beyond ≡ walked → by_try here (guest_try here) ≡ stopped here PastMemory Fault
  stops e = faults_by interaction.Past (ap guest_place (sym e)) ∙ ap (λ w. sensed_as here (fault_of w)) (sym e)

-- the step that is made is the instruction's
pub made_as : {Port : Type 0} (may : Port → List ℕ → Type 0) (x y : Stepped) (port port' : Port) (m : Machine) (s : Shadowed) (g : GuestState) (c : Counts) (m' : Machine) (s' : Shadowed) (g' : GuestState) (c' : Counts) → x ≡ y → Made may y (underway port m s g c) (underway port' m' s' g' c') → Made may x (underway port m s g c) (underway port' m' s' g' c')
made_as may x y port port' m s g c m' s' g' c' e k = subst (λ z. Made may z (underway port m s g c) (underway port' m' s' g' c')) (sym e) k
