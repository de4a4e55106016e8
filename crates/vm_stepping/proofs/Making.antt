-- A step that the kernel makes, counted.
use Rattle.std.proofs.Common.{◌≡◌, ℕ, ◌+◌, ◌%◌, ◌^◌, false, List, [], ◌++◌, Some, refl, ap, sym, subst, arith, if◌then◌else◌}
use Rattle.vax_arch.specs.Walk.{page_of}
use Rattle.vax_arch.specs.declared.walk.Lookup.{Lookup}
use Rattle.vax_arch.specs.declared.walk.Lookup.TheVariants.{Beyond, Direct, Fails, Found}
use Rattle.vax_hw.specs.Machine.{Machine}
use Rattle.vm_stepping.specs.Guarded.{OnlyBoth}
use Rattle.vm_console.specs.Appends.{Appends}
use Rattle.vm_console.proofs.Composes.{Appends-nil}
use Rattle.vm_exception.specs.Made.{MakesStep, interrupted_by}
use Rattle.vm_shadow.specs.Shadowed.{Shadowed}
use Rattle.vm_shadow.specs.StandsFor.{DropsMarked, Marks, OnlyGuest, StandsFor}
use Rattle.vm_state.specs.Initiate.{Initiation, KernelStackBad, StopsGuest, Taken, initiate}
use Rattle.vm_state.specs.Interrupts.{Source, interrupt_of}
use Rattle.vm_state.specs.Partition.{guest_of}
use Rattle.vm_state.specs.Run.{tallied}
use Rattle.vm_state.specs.State.{Guest, pc_of, state_of}
use Rattle.vm_state.specs.Step.{Kind, Fault, Interrupt, SetModify, Stepped, clear_met, faulted, initiated_in, interrupted, stepped, stopped}
use Rattle.vm_state.specs.Stops.{PastMemory, stop_text}
use Rattle.vm_state.specs.Translation.{look, marked_by, marks_by}
use Rattle.vm_state.specs.declared.exception.Exc.{Exc}
use Rattle.vm_state.specs.declared.exception.Exc.TheVariants as excs
use Rattle.vm_state.specs.declared.guest_state.GuestState.{GuestState}
use Rattle.vm_stepping.specs.Made.{CountsRetired, KeepsRefinement, Made, steps_in, tally_of, underway}
use Rattle.vm_stepping.specs.declared.counts.Counts.{Counts}
use Rattle.vm_stepping.proofs.Paying.{makes_moves, marks_moves, nothing_moves}

pub only_both : (s : Shadowed) (m m' : Machine) → OnlyGuest s m m' → OnlyBoth s m.memory m'.memory
only_both s m m' o = record { size = o.size; other = o.other }

-- of the machine memory alone changed, and nothing plain is counted
pub same_counts : (m m' : Machine) (c c' : Counts) → m' ≡ record m { memory = m'.memory } → c'.plain ≡ c.plain → c'.trail ≡ c.trail → CountsRetired m c m' c'
same_counts m m' c c' e p t = record {
  retired = (λ i. (ap (λ (x : Machine). x.retired) e i + sym p i) % 2 ^ 64);
  trail = (λ i. (ap (λ (x : Machine). x.trail) e i + sym t i) % 2 ^ 64);
}

-- where the kernel's step leaves the real tables in place
pub makes_goes : (x : Stepped) (m : Machine) (s : Shadowed) (g : GuestState) (m' : Machine) (s' : Shadowed) (g' : GuestState) → MakesStep x m s g m' s' g' → KeepsRefinement m s g m' s' g'
makes_goes x m s g m' s' g' k = record { stands = k.stands; only = only_both s m m' k.only; place = k.place; tables = ap (λ (y : Shadowed). y.at) k.drops.rest }

pub made_by : {Port : Type 0} (may : Port → List ℕ → Type 0) (x : Stepped) (port port' : Port) (m : Machine) (s : Shadowed) (g : GuestState) (c : Counts) (m' : Machine) (s' : Shadowed) (g' : GuestState) (c' : Counts) →
    MakesStep x m s g m' s' g' → Appends may port port' x.shown → tally_of c' ≡ tallied x.kind (tally_of c) → steps_in c' ≡ steps_in c + 1 → c'.plain ≡ c.plain → c'.trail ≡ c.trail → Made may x (underway port m s g c) (underway port' m' s' g' c')
made_by may x port port' m s g c m' s' g' c' k shows tally one plain trail = record {
  run = λ shown i. record { guest = sym k.guest i; shown = shown ++ x.shown; tally = sym tally i };
  shows = shows;
  goes = makes_goes x m s g m' s' g' k;
  one = one;
  retired = same_counts m m' c c' k.only.rest plain trail;
  misses = ap (λ (y : Machine). y.misses) k.only.rest;
  moves = makes_moves x m s g m' s' g' k;
}

pub kind_in : (kind : Kind) (g : Guest) (i : Initiation) → (initiated_in kind g i).kind ≡ kind
kind_in kind g (Taken h written) = refl
kind_in kind g (KernelStackBad h written) = refl
kind_in kind g (StopsGuest stop) = refl

module _ {Port : Type 0} (may : Port → List ℕ → Type 0) (port port' : Port) (m : Machine) (s : Shadowed) (g : GuestState) (c : Counts) (m' : Machine) (s' : Shadowed) (g' : GuestState) where
  pub made_fault : (e : Exc) → ((kind : Kind) → MakesStep (initiated_in kind (guest_of m.memory g) (initiate (guest_of m.memory g) e)) m s g m' s' g') → ((kind : Kind) → Appends may port port' (initiated_in kind (guest_of m.memory g) (initiate (guest_of m.memory g) e)).shown) → Made may (faulted (guest_of m.memory g) e) (underway port m s g c) (underway port' m' s' g' (record c { faults = c.faults + 1 }))
  made_fault e makes shows =
      made_by may (faulted (guest_of m.memory g) e) port port' m s g c m' s' g' (record c { faults = c.faults + 1 }) (makes Fault) (shows Fault)
      (ap (λ k. tallied k (tally_of c)) (sym (kind_in Fault (guest_of m.memory g) (initiate (guest_of m.memory g) e)))) (omega arith) refl refl

  kind_taken : (source : Source) (i : Initiation) → (interrupted (guest_of m.memory g) source i).kind ≡ Interrupt
  kind_taken source (Taken h written) = refl
  kind_taken source (KernelStackBad h written) = refl
  kind_taken source (StopsGuest stop) = refl

  pub made_interrupt : (source : Source) → let x = interrupted_by (guest_of m.memory g) source in MakesStep x m s g m' s' g' → Appends may port port' x.shown → Made may x (underway port m s g c) (underway port' m' s' g' (record c { interrupts = c.interrupts + 1 }))
  made_interrupt source makes shows =
      let x = interrupted_by (guest_of m.memory g) source in
      made_by may x port port' m s g c m' s' g' (record c { interrupts = c.interrupts + 1 }) makes shows
      (ap (λ k. tallied k (tally_of c)) (sym (kind_taken source (initiate (guest_of m.memory g) (interrupt_of source))))) (omega arith) refl refl

-- a reference beyond memory stops the guest
pub made_past : {Port : Type 0} (may : Port → List ℕ → Type 0) (port port' : Port) (m : Machine) (s : Shadowed) (g : GuestState) (c : Counts) → StandsFor m.memory s g → Appends may port port' (stop_text 0x10 (pc_of (state_of g))) →
    Made may (stopped (guest_of m.memory g) PastMemory Fault) (underway port m s g c) (underway port' m s (record g { halt = Some 0x10 }) (record c { faults = c.faults + 1 }))
made_past may port port' m s g c stands shows = record {
  run = λ shown. refl;
  shows = shows;
  goes = record {
    stands = record {
      keeps = stands.keeps;
      serves = record { pages = stands.serves.pages; base = stands.serves.base; told = stands.serves.told };
      allowed = let a = stands.allowed in record { p0br = a.p0br; p0lr = a.p0lr; p1br = a.p1br; p1lr = a.p1lr; sbr = a.sbr; slr = a.slr; pcbb = a.pcbb; scbb = a.scbb; astlvl = a.astlvl; sisr = a.sisr; psl = a.psl; packets = a.packets; few = a.few };
    };
    only = record { size = refl; other = λ p own tables. refl };
    place = record { pages = refl; base = refl; start = refl };
    tables = refl;
  };
  one = omega arith;
  retired = record { retired = refl; trail = refl };
  misses = refl;
  moves = nothing_moves [] m.memory s g stands;
}

-- a clear modify bit is set
marked_at : (seen : Lookup) (s s' : Shadowed) → DropsMarked seen s s' → s'.at ≡ s.at
marked_at (Found place table) s s' d = ap (λ (x : Shadowed). x.at) d.rest
marked_at (Direct frame) s s' d = ap (λ (x : Shadowed). x.at) d
marked_at (Fails not_valid parameter) s s' d = ap (λ (x : Shadowed). x.at) d
marked_at Beyond s s' d = ap (λ (x : Shadowed). x.at) d

clear_set : (h : Guest) (va : ℕ) → h.state.modify_faults ≡ false → clear_met h va ≡ stepped (record h { memory = marked_by (look h (page_of va)) h.memory }) [] SetModify (marks_by (look h (page_of va)))
clear_set h va e = ap (λ b. if b then faulted h (excs.ModifyFault va) else stepped (record h { memory = marked_by (look h (page_of va)) h.memory }) [] SetModify (marks_by (look h (page_of va)))) e

pub made_marked : {Port : Type 0} (may : Port → List ℕ → Type 0) (port : Port) (m : Machine) (s : Shadowed) (g : GuestState) (c : Counts) (m' : Machine) (s' : Shadowed) (va : ℕ) → StandsFor m.memory s g → g.modify_faults ≡ false → Marks (page_of va) g m s m' s' →
    Made may (clear_met (guest_of m.memory g) va) (underway port m s g c) (underway port m' s' g (record c { modify = c.modify + 1 }))
made_marked may port m s g c m' s' va stands off k =
    let c2 : Counts = record c { modify = c.modify + 1 } in
    subst (λ x. Made may x (underway port m s g c) (underway port m' s' g c2)) (sym (clear_set (guest_of m.memory g) va off)) (record {
      run = λ shown i. record { guest = record { memory = sym k.memory i; state = state_of g }; shown = shown ++ []; tally = tally_of c2 };
      shows = Appends-nil may port;
      goes = record { stands = k.stands; only = only_both s m m' k.only; place = record { pages = refl; base = refl; start = refl }; tables = marked_at (look (guest_of m.memory g) (page_of va)) s s' k.drops };
      one = omega arith;
      retired = same_counts m m' c c2 k.only.rest refl refl;
      misses = ap (λ (y : Machine). y.misses) k.only.rest;
      moves = marks_moves (page_of va) m s g m' s' k;
    })
