-- A guarded instruction, with what is loaded and taken back.
use Rattle.std.proofs.Common.{◌≡◌, ℕ, ◌+◌, ◌*◌, ◌/◌, ◌%◌, ◌^◌, ◌<◌, Bool, List, [], ◌++◌, append-nil, Option, Some, None, refl, ap, ◌∙◌, sym, subst, arith}
use Rattle.vax_hw.specs.Machine.{Machine}
use Rattle.vax_hw.specs.Real.{misses_after}
use Rattle.vax_hw.specs.declared.world.Exit.{Exit}
use Rattle.vax_hw.specs.declared.world.Exit.TheVariants.{Arithmetic, Budget, Denied, Emulate, Modify, NotValid, Refused}
use Rattle.vax_hw.specs.declared.world.World.{World}
use Rattle.vm_exception.specs.Standing.{standing}
use Rattle.vm_stepping.specs.Guarded.{CanAllow, IsCompleted, IsGuarded, IsTried, IsUnfinished, RunsSome, StaysGuarded, StepsGuarded, with_trap_of}
use Rattle.vm_stepping.specs.Ran.{rise}
use Rattle.vm_stepping.proofs.Bursting.{loaded, loads_world, rise_is, zero_bits}
use Rattle.vm_shadow.specs.Shadowed.{Shadowed}
use Rattle.vm_shadow.specs.StandsFor.{Serves, StandsFor, world_of}
use Rattle.vm_shadow.specs.declared.source.Source.{Source}
use Rattle.vm_simulation_laws.specs.Bursts.{with_plain_steps}
use Rattle.vm_simulation_laws.specs.Laws.{Leaves, frames_claimed}
use Rattle.vm_simulation_laws.specs.Loaded.{RunsGuest, as_run, guest_try}
use Rattle.vm_state.specs.Allowed.{AreAllowed}
use Rattle.vm_state.specs.Initiate.{Initiation, KernelStackBad, StopsGuest, Taken, initiate}
use Rattle.vm_state.specs.Partition.{guest_of}
use Rattle.vm_state.specs.Run.{Run, after_step}
use Rattle.vm_state.specs.State.{Guest, state_of}
use Rattle.vm_state.specs.Step as steps
use Rattle.vm_state.specs.Step.{Stepped, by_try, executed, initiated_in, trapped_in}
use Rattle.vm_state.specs.declared.exception.Exc.TheVariants as excs
use Rattle.vm_state.specs.declared.guest_state.GuestState.{GuestState}
use Rattle.vm_simulation_laws.specs.Touched.{touches_now}

-- the run after one plain step
executed_as : (h : Guest) (run : Run) (x : Stepped) → run.guest ≡ h → by_try h (guest_try h) ≡ x → after_step run (executed run.guest) ≡ after_step run x
unfolding executed
executed_as h run x own e =
    ap (λ y. after_step run (executed y)) own ∙ ap (after_step run) (ap (λ (y : Stepped). record y { touched = steps.touched_by h (steps.instruction_of h.state) }) e)

executed_is : (h : Guest) (x : Stepped) → by_try h (guest_try h) ≡ x → executed h ≡ record x { touched = touches_now h }
unfolding executed
executed_is h x e = ap (λ (y : Stepped). record y { touched = touches_now h }) e

trap_by : (run : Run) (h : Guest) (term kind : ℕ) (i : Initiation) → i ≡ initiate h (excs.Arithmetic kind) → after_step run (initiated_in (steps.Plain term) h i) ≡ record (with_plain_steps run h 1 term) { guest = (initiated_in steps.Idle h i).guest; shown = run.shown ++ (initiated_in steps.Idle h i).shown }
trap_by run h term kind (Taken x w) e = refl
trap_by run h term kind (KernelStackBad x w) e = refl
trap_by run h term kind (StopsGuest stop) e = refl

later : (run : Run) (h : Guest) (term : ℕ) (written : List ℕ) (trap : Option ℕ) → after_step run (trapped_in (steps.Plain term) written h trap) ≡ with_trap_of trap (with_plain_steps run h 1 term)
later run h term written None = λ i. record { guest = h; shown = append-nil run.shown i; tally = record run.tally { plain = run.tally.plain + 1; trail = (run.tally.trail + term) % 2 ^ 64 } }
later run h term written (Some kind) = trap_by run h term kind (initiate h (excs.Arithmetic kind)) refl

same_sum : (t a b : ℕ) → a ≡ b % 2 ^ 64 → (t + b) % 2 ^ 64 ≡ (t + a) % 2 ^ 64
same_sum t a b e = low t b ∙ ap (λ z. (t + z) % 2 ^ 64) (sym e)
  where
    low : (t b : ℕ) → (t + b) % 2 ^ 64 ≡ (t + b % 2 ^ 64) % 2 ^ 64
    low t b = grind arith

allowed_run : (n : ℕ) (g : GuestState) (w : World) → (as_run w g).psl.0 / 2 ^ 8 ≡ g.psl.0 / 2 ^ 8 → AreAllowed n (state_of g) → AreAllowed n (state_of (as_run w g))
allowed_run n g w high a = record { p0br = a.p0br; p0lr = a.p0lr; p1br = a.p1br; p1lr = a.p1lr; sbr = a.sbr; slr = a.slr; pcbb = a.pcbb; scbb = a.scbb; astlvl = a.astlvl; sisr = a.sisr; psl = zero_bits (as_run w g).psl.0 g.psl.0 high ∙ a.psl; packets = a.packets; few = a.few }

serves_on : (s s2 : Shadowed) (g : GuestState) (r : List (Option Source)) (c w : List Bool) → s2 ≡ record s { reads = r; consulted = c; writable = w } → Serves g s → Serves g s2
serves_on s s2 g r c w e v = record { pages = ap (λ (x : Shadowed). x.pages) e ∙ v.pages; base = ap (λ (x : Shadowed). x.base) e ∙ v.base; told = ap (λ (x : Shadowed). x.told) e ∙ v.told }

twice : (n : ℕ) → n % 2 ^ 64 % 2 ^ 64 ≡ n % 2 ^ 64
twice n = omega arith

module _ (m : Machine) (s : Shadowed) (g : GuestState) (x : Exit) (risen : ℕ) (w : World) (m2 : Machine) (s2 : Shadowed) (g2 : GuestState) (k : StandsFor m.memory s g) (is : w ≡ world_of s g)
    (tried : (opened : List ℕ) → RunsGuest opened (record m { world = w }) s g → IsTried x opened (standing (record m { world = w }) s g) m2 s2)
    (rises : risen ≡ rise m.trail m2.trail) (small : m.trail < 2 ^ 64) (back_is : g2 ≡ as_run m2.world g) where
  abbrev first : Machine
  first = record m { world = world_of s g }

  steps_on : (trap : Option ℕ) → IsCompleted [] first s g trap m2 s2 → StepsGuarded m s g risen trap m2 s2 g2
  steps_on trap c =
      let terms : risen ≡ c.term % 2 ^ 64 = rises ∙ rise_is m.trail m2.trail c.term small (ap (λ n. n % 2 ^ 64) c.trail ∙ twice (m.trail + c.term)) in
      record {
        steps = λ run own low.
            executed_as (guest_of m.memory g) run (trapped_in (steps.Plain c.term) (frames_claimed (guest_of m.memory g)) (guest_of m2.memory (as_run m2.world g)) trap) own c.plain
            ∙ later run (guest_of m2.memory (as_run m2.world g)) c.term (frames_claimed (guest_of m.memory g)) trap
            ∙ ap (with_trap_of trap) (λ i. record { guest = guest_of m2.memory (sym back_is i); shown = run.shown; tally = record run.tally { plain = run.tally.plain + 1; trail = same_sum run.tally.trail risen c.term terms i } });
        term = c.term;
        leaves = subst (λ (h : GuestState). Leaves (guest_of m.memory g) (guest_of m2.memory h) trap) (sym back_is) c.leaves;
        step = executed_is (guest_of m.memory g) _ c.plain ∙ (λ i. record (trapped_in (steps.Plain c.term) (frames_claimed (guest_of m.memory g)) (guest_of m2.memory (sym back_is i)) trap) { touched = touches_now (guest_of m.memory g) });
        is = back_is;
        stands = subst (StandsFor m2.memory s2) (sym back_is) (record {
          keeps = c.keeps;
          serves = (let v = serves_on s s2 g s2.reads s2.consulted s2.writable c.rest k.serves in record { pages = v.pages; base = v.base; told = v.told });
          allowed = allowed_run (512 * g.pages) g m2.world c.high k.allowed;
        });
        high = ap (λ (h : GuestState). h.psl.0 / 2 ^ 8) back_is ∙ c.high;
        each = c.each;
        rest = c.rest;
        only = c.only;
        retired = ap (λ n. n % 2 ^ 64) c.retired ∙ twice (m.retired + 1);
        trail = ap (λ n. n % 2 ^ 64) c.trail ∙ twice (m.trail + c.term) ∙ same_sum m.trail risen c.term terms;
        misses = c.misses;
        found = c.found;
      }

  stays_on : (e : Exit) → IsUnfinished [] first s g e m2 s2 → StaysGuarded m s g e m2 s2 g2
  stays_on e u =
      let world : m2.world ≡ world_of s g = ap (λ (y : Machine). y.world) u.machine in
      let same : as_run (world_of s g) g ≡ g = λ i. record g { psl = record { 0 = (loads_world s g).psl i } } in
      let v : Serves g s2 = record { pages = ap (λ (y : Shadowed). y.pages) u.rest ∙ k.serves.pages; base = ap (λ (y : Shadowed). y.base) u.rest ∙ k.serves.base; told = ap (λ (y : Shadowed). y.told) u.rest ∙ k.serves.told } in
      record {
        guest = back_is ∙ ap (λ y. as_run y g) world ∙ same;
        stands = record { keeps = u.keeps; serves = v; allowed = k.allowed };
        own = u.own;
        machine = u.machine ∙ (λ i. record m { memory = m2.memory; world = sym world i; misses = misses_after m.misses e });
        rest = u.rest;
        only = u.only;
        tells = u.tells;
        reaches = u.reaches;
      }

  tried_is : IsTried x [] (standing first s g) m2 s2
  tried_is = subst (λ v. IsTried x [] (standing (record m { world = v }) s g) m2 s2) is (tried [] (subst (λ v. RunsGuest [] (record m { world = v }) s g) (sym is) (loaded m s g k)))

  by_exit : (e : Exit) → IsTried e [] (standing first s g) m2 s2 → IsGuarded e risen (standing m s g) (standing m2 s2 g2)
  by_exit Budget t = steps_on None t
  by_exit (Arithmetic kind) t = steps_on (Some kind) t
  by_exit (NotValid va write) t = stays_on (NotValid va write) t
  by_exit (Denied va write) t = stays_on (Denied va write) t
  by_exit (Modify va) t = stays_on (Modify va) t
  by_exit (Emulate trap) t = stays_on (Emulate trap) t
  by_exit (Refused refusal) t = stays_on (Refused refusal) t

  pub is_guarded : IsGuarded x risen (standing m s g) (standing m2 s2 g2)
  is_guarded = by_exit x tried_is

-- the machine runs the guest, once that is loaded
pub runs_loaded : (m : Machine) (s : Shadowed) (g : GuestState) (w : World) → StandsFor m.memory s g → w ≡ world_of s g → RunsSome (record m { world = w }) s g
runs_loaded m s g w k is = record { opened = []; runs = subst (λ v. RunsGuest [] (record m { world = v }) s g) (sym is) (loaded m s g k) }

-- a page may be made writable whatever is loaded
pub written_loaded : (va : ℕ) (m : Machine) (w : World) (s : Shadowed) (g : GuestState) → CanAllow va m s g → CanAllow va (record m { world = w }) s g
written_loaded va m w s g a = record { fits = a.fits; partition = a.partition; unwritten = a.unwritten; set = a.set }
