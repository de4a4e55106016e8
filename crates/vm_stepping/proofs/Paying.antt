-- What the kernel's work drops, and the misses that first touches count.
use Rattle.std.proofs.Common.{◌≡◌, ℕ, ◌+◌, ◌%◌, ◌^◌, ◌≤◌, ◌⊎◌, inl, inr, true, List, [], ◌++◌, Option, None, is_some, ap, ◌∙◌, sym, subst, arith}
use Rattle.vax_arch.specs.Walk.{Tables, page_of}
use Rattle.vax_hw.specs.Machine.{Machine}
use Rattle.vax_table.specs.Interaction.{IsIn}
use Rattle.vm_emulate.specs.Followed.{Follows}
use Rattle.vm_exception.specs.Made.{MakesStep}
use Rattle.vm_exception.specs.Initiated.{StopsWith}
use Rattle.vm_exception.specs.Wrote.{DropsAmong}
use Rattle.vm_exception.proofs.Marking.{pending_append}
use Rattle.vm_simulation_laws.specs.Misses.{KeepsFilled}
use Rattle.vm_simulation_laws.specs.Moves.{Drops, Moves}
use Rattle.vm_simulation_laws.specs.Paid.{IsSettled, Misses, Owes}
use Rattle.vm_simulation_laws.specs.Present.{HasEntry, after_touches, is_filled, pages_of, to_miss}
use Rattle.vm_simulation_laws.specs.Runs.{MissesThere}
use Rattle.vm_simulation_laws.proofs.Counting.{some_unfilled}
use Rattle.vm_simulation_laws.proofs.Fitting.{filled_stay, in_pages, steps_keep}
use Rattle.vm_simulation_laws.proofs.Found.{found_entries}
use Rattle.vm_simulation_laws.proofs.Own.{moves_alone, none_dropped}
use Rattle.vm_simulation_laws.proofs.Working.{marks_dropped}
use Rattle.vm_shadow.specs.Shadowed.{Shadowed, is_pending, read_at}
use Rattle.vm_shadow.specs.StandsFor.{Marks, StandsFor}
use Rattle.vm_shadow.specs.declared.source.Source.{Source}
use Rattle.vm_state.specs.Partition.{guest_of}
use Rattle.vm_state.specs.State.{Guest, tables_of}
use Rattle.vm_state.specs.Step.{Stepped, Touched, executed}
use Rattle.vm_state.specs.Touches.{Touching, touching_step}
use Rattle.vm_state.specs.Translation.{look, marks_by}
use Rattle.vm_state.specs.declared.guest_state.GuestState.{GuestState}
use Rattle.vm_stepping.specs.Pays.{OwesStill, Settles}
use Rattle.vm_simulation_laws.specs.Touched.{AreFilled, touches_now}

-- What is dropped.

pub among_dropped : (frames : List ℕ) (s s' : Shadowed) → DropsAmong frames s s' → Drops frames s s'
among_dropped frames s s' d = record { each = d.each; told = ap (λ (x : Shadowed). x.told) d.rest; held = ap (λ (x : Shadowed). x.held) d.rest }

-- one after another
dropped_each : (a b : List ℕ) (x y z : Option Source) → (y ≡ x) ⊎ ((y ≡ None) × (is_pending a x ≡ true)) → (z ≡ y) ⊎ ((z ≡ None) × (is_pending b y ≡ true)) → (z ≡ x) ⊎ ((z ≡ None) × (is_pending (a ++ b) x ≡ true))
dropped_each a b x y z (inl same) (inl still) = inl (still ∙ same)
dropped_each a b x y z (inl same) (inr gone) = inr (gone.0, pending_append a b x (inr (subst (λ w. is_pending b w ≡ true) same gone.1)))
dropped_each a b x y z (inr gone) (inl still) = inr (still ∙ gone.0, pending_append a b x (inl gone.1))
dropped_each a b x y z (inr gone) (inr again) = inr (again.0, pending_append a b x (inl gone.1))

pub dropped_then : (a b : List ℕ) (s s1 s2 : Shadowed) → Drops a s s1 → Drops b s1 s2 → Drops (a ++ b) s s2
dropped_then a b s s1 s2 x y = record {
  each = λ n. dropped_each a b (read_at s n) (read_at s1 n) (read_at s2 n) (x.each n) (y.each n);
  told = y.told ∙ x.told;
  held = y.held ∙ x.held;
}

pub makes_moves : (x : Stepped) (m : Machine) (s : Shadowed) (g : GuestState) (m' : Machine) (s' : Shadowed) (g' : GuestState) → MakesStep x m s g m' s' g' → Moves x.written x.guest.state.tables s s'
makes_moves x m s g m' s' g' k = moves_alone x.written m'.memory s s' x.guest.state.tables k.stands.keeps.fits (k.stands.serves.told ∙ ap (λ (h : Guest). h.state.tables) k.guest) (among_dropped x.written s s' k.drops)

pub follows_moves : (frames : List ℕ) (t : Tables) (s s' : Shadowed) → Follows frames t s s' → Moves frames t s s'
follows_moves frames t s s' f = record {
  between = f.between;
  drops = among_dropped frames s f.between f.drops;
  retells = f.retells;
}

pub nothing_moves : (frames memory : List ℕ) (s : Shadowed) (g : GuestState) → StandsFor memory s g → Moves frames (tables_of g) s s
nothing_moves frames memory s g k = moves_alone frames memory s s (tables_of g) k.keeps.fits k.serves.told (none_dropped frames s)

pub stops_moves : (code : ℕ) (m : Machine) (s : Shadowed) (g : GuestState) (m' : Machine) (s' : Shadowed) (g' : GuestState) → StandsFor m.memory s g → StopsWith code m s g m' s' g' → Moves [] (tables_of g) s s'
stops_moves code m s g m' s' g' k w = subst (Moves [] (tables_of g) s) (sym w.shadow) (nothing_moves [] m.memory s g k)

pub marks_moves : (page : ℕ) (m : Machine) (s : Shadowed) (g : GuestState) (m' : Machine) (s' : Shadowed) → Marks page g m s m' s' → Moves (marks_by (look (guest_of m.memory g) page)) (tables_of g) s s'
marks_moves page m s g m' s' k = moves_alone (marks_by (look (guest_of m.memory g) page)) m'.memory s s' (tables_of g) k.stands.keeps.fits k.stands.serves.told (marks_dropped (look (guest_of m.memory g) page) s s' k.drops)

-- Misses that are counted.

pub no_more : (m m' : Machine) → m'.misses ≡ m.misses → Misses 0 m m'
no_more m m' e = ap (λ (n : ℕ). n % 2 ^ 64) (omega (arith, e))

-- a page that is touched and isn't filled may be missed
pub missed_there : (va : ℕ) (s : Shadowed) (h : Guest) → MissesThere va s h → 1 ≤ to_miss s (touches_now h)
missed_there va s h k = some_unfilled (pages_of (touches_now h)) (page_of va) (is_filled s) (in_pages (page_of va) (touches_now h) k.touched) (ap is_some k.empty)

-- the step of a counted guest's instruction
module _ (missed : ℕ) (m : Machine) (s : Shadowed) (g : GuestState) (m' : Machine) (s' : Shadowed) (x : Stepped) (stands : StandsFor m.memory s g) (is : executed (guest_of m.memory g) ≡ x) (touched : x.touched ≡ touches_now (guest_of m.memory g)) (filled : AreFilled s (touches_now (guest_of m.memory g)).found)
    (moves : Moves x.written x.guest.state.tables s s') (within : missed ≤ to_miss s (touches_now (guest_of m.memory g))) where
  abbrev h : Guest
  h = guest_of m.memory g

  found : (page : ℕ) → IsIn page x.touched.found → HasEntry s s.slot page
  found page j = found_entries [] m.memory s g stands.keeps stands.serves filled page (subst (λ (y : Touched). IsIn page y.found) touched j)

  settled : (owed : ℕ) (t : Touching) → Owes owed (touches_now h) s t → IsSettled owed (missed + 0) t (touching_step h (executed h) t) s'
  settled owed t o =
      let counted : t.count + owed + to_miss s (touches_now h) ≤ (after_touches (touches_now h) t).count = o.within in
      subst (λ (y : Stepped). IsSettled owed (missed + 0) t (touching_step h y t) s') (sym is) (record {
        has = steps_keep m.memory s g x t s' stands.keeps stands.serves found moves o.has;
        counts = subst (λ (y : Touched). t.count + owed + (missed + 0) ≤ (after_touches y t).count) (sym touched) (omega (arith, counted, within));
      })

  pub step_settles : m'.misses ≡ m.misses → Settles missed m s g m' s'
  step_settles same = record { more = 0; misses = no_more m m' same; settles = settled }

-- pages that are filled may not be missed any more
pub fills_owe : (missed : ℕ) (m : Machine) (s : Shadowed) (g : GuestState) (m' : Machine) (s' : Shadowed) → KeepsFilled s s' → missed + to_miss s' (touches_now (guest_of m.memory g)) ≤ to_miss s (touches_now (guest_of m.memory g)) → m'.misses ≡ m.misses → OwesStill missed m s g m' s'
fills_owe missed m s g m' s' kept fewer same = record {
  more = 0;
  misses = no_more m m' same;
  owes = λ owed t o.
      let within : t.count + owed + to_miss s (touches_now (guest_of m.memory g)) ≤ (after_touches (touches_now (guest_of m.memory g)) t).count = o.within in
      record { has = (filled_stay s s' t.present kept).has o.has; within = omega (arith, within, fewer) };
}

-- where none was missed, it is enough that none is emptied
pub kept_owe : (m : Machine) (s : Shadowed) (g : GuestState) (m' : Machine) (s' : Shadowed) → KeepsFilled s s' → m'.misses ≡ m.misses → OwesStill 0 m s g m' s'
kept_owe m s g m' s' kept same =
    let less : to_miss s' (touches_now (guest_of m.memory g)) ≤ to_miss s (touches_now (guest_of m.memory g)) = (filled_stay s s' (record { system = []; processes = [] }) kept).fewer (touches_now (guest_of m.memory g)) in
    fills_owe 0 m s g m' s' kept (omega (arith, less)) same
