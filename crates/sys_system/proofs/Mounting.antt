-- Mounts at power-up, and the parts of a system that begins.
use Rattle.std.proofs.Common.{ℕ, zero, suc, ◌≡◌, ◌<◌, ◌≤◌, ◌+◌, ◌-◌, List, [], ◌∷◌, ◌++◌, length, map, take, drop, replicate, slice_set, slice_index_or, refl, sym, ◌∙◌, ap, subst, arith, length-append, Option, None}
use Rattle.std.proofs.Math.Seq.{drop-append_seam, take-append_seam}
use Rattle.std.proofs.lemmas.List.{length-drop, length-map, length-replicate, take-append-drop, take_all}
use Rattle.std.proofs.lemmas.List.Elements.{All-append, All-drop, All-map, All-replicate}
use Rattle.std.proofs.lemmas.List.Sums.{sum_by-cons}
use Rattle.std.specs.List.{All}
use Rattle.std.specs.Prelude.{IfSome, sum}
use Rattle.sys_guests.specs.Kernel.{AreUnits}
use Rattle.sys_guests.specs.Layout.{AreInMachine}
use Rattle.sys_objects.specs.Condition.{IsConfig, IsGuest, NamesObjects}
use Rattle.sys_objects.specs.declared.records.Config.{Config}
use Rattle.sys_objects.specs.declared.records.GuestRow.{GuestRow}
use Rattle.sys_objects.specs.declared.records.Mount.{Mount}
use Rattle.sys_objects.specs.declared.records.VolumeRow.{VolumeRow}
use Rattle.sys_server.specs.declared.command.ServerState.{ServerState}
use Rattle.sys_system.proofs.Insides.{inside_of}
use Rattle.sys_system.specs.Held.{AreSystemParts, turns_of}
use Rattle.sys_system.specs.Powers.{no_turns}
use Rattle.sys_system.specs.Seats.{AreMounted, IsInitialServer, no_units}
use Rattle.sys_system.specs.System.{Turns}
use Rattle.sys_system.specs.declared.parts.Parts.{Parts}
use Rattle.vm_stepping.specs.Made.{no_counts, steps_in}
use Rattle.vm_stepping.specs.declared.counts.Counts.{Counts}

-- all before a place are written, and then the one there
pub written_at : {X Y : Type 0} (f : X → Y) (rows : List X) (left : List Y) (i : ℕ) (row : X) → i < length rows → i < length left → row ≡ slice_index_or rows i row → slice_set (map f (take i rows) ++ drop i left) i (f row) ≡ map f (take (i + 1) rows) ++ drop (i + 1) left
written_at f [] left i row h k read = absurd (omega (arith, h))
written_at f (r ∷ rows) [] i row h k read = absurd (omega (arith, k))
written_at f (r ∷ rows) (y ∷ left) zero row h k read = ap (λ x. f x ∷ left) read
written_at f (r ∷ rows) (y ∷ left) (suc i) row h k read =
    let e : suc i + 1 ≡ suc (i + 1) = omega arith in
    rw e (ap (λ ys. f r ∷ ys) (written_at f rows left i row (omega (arith, h)) (omega (arith, k)) read))

abbrev pub empty : List (List (Option Mount))
empty = replicate 16 no_units

pub are_mounted : (rows : List GuestRow) (n : ℕ) (mounts : List (List (Option Mount))) → length rows ≡ n → n ≤ 16 → mounts ≡ map (λ row. row.mounts) (take n rows) ++ drop n empty → AreMounted rows mounts
are_mounted rows n mounts long few is =
    let f : GuestRow → List (Option Mount) = λ row. row.mounts in
    let all : take n rows ≡ rows = take_all n rows (omega (arith, long)) in
    let here : mounts ≡ map f rows ++ drop n empty = is ∙ ap (λ xs. map f xs ++ drop n empty) all in
    let size : length (map f rows) ≡ length rows = length-map rows f in
    let rest : length (drop n empty) ≡ 16 - n = length-drop n empty in
    record {
      mounted = ap (take (length rows)) here ∙ ap (λ k. take k (map f rows ++ drop n empty)) (sym size) ∙ take-append_seam (map f rows) (drop n empty);
      beyond = subst (λ xs. All (λ units. units ≡ no_units) xs) (sym (ap (drop (length rows)) here ∙ ap (λ k. drop k (map f rows ++ drop n empty)) (sym size) ∙ drop-append_seam (map f rows) (drop n empty))) (All-drop (λ units. units ≡ no_units) n empty (All-replicate (λ units. units ≡ no_units) 16 no_units refl));
      size = omega (arith, ap length here, length-append (map f rows) (drop n empty), size, rest, long, few);
    }

-- nothing is mounted, or volumes of the configuration
pub none_mounted : (volumes : ℕ) → AreUnits volumes no_units
none_mounted volumes = record { four = refl; mounted = All-replicate (λ (m : Option Mount). IfSome m (λ n. n.volume < volumes)) 4 None tt }

units_of : (c : Config) → IsConfig c → All (AreUnits (length c.volumes)) (map (λ row. row.mounts) c.guests)
units_of c accepted = All-map (AreUnits (length c.volumes)) (λ (row : GuestRow). row.mounts) c.guests (λ i d h.
    let one : IsGuest (slice_index_or c.guests i d) = accepted.guests i d h in
    let names : NamesObjects c (slice_index_or c.guests i d) = accepted.numbers i d h in
    record { four = one.units; mounted = names.mounts })

pub all_units : (c : Config) (mounts : List (List (Option Mount))) → IsConfig c → AreMounted c.guests mounts → All (AreUnits (length c.volumes)) mounts
all_units c mounts accepted m =
    let n : ℕ = length c.guests in
    let volumes : ℕ = length c.volumes in
    let back : All (AreUnits volumes) (drop n mounts) = λ i d h. subst (AreUnits volumes) (sym (m.beyond i d h)) (none_mounted volumes) in
    subst (λ xs. All (AreUnits volumes) xs) (take-append-drop n mounts) (All-append (AreUnits volumes) (take n mounts) (drop n mounts) (subst (λ xs. All (AreUnits volumes) xs) (sym m.mounted) (units_of c accepted)) back)

sum_zero : (n : ℕ) → sum (replicate n 0) ≡ 0
sum_zero zero = refl
sum_zero (suc n) = let rest : sum (replicate n 0) ≡ 0 = sum_zero n in omega (arith, rest, sum_by-cons (λ (x : ℕ). x) 0 (replicate n 0))

-- what the server keeps has its size, and names guests and volumes of the configuration alone
pub record IsSeated (c : Config) (server : ServerState) : Type 0 where
  pub terminals : length server.at ≡ 32
  pub guests : length server.mounts ≡ 16
  pub consoles : All (λ o. IfSome o (λ g. g < length c.guests)) server.at
  pub beyond : All (λ o. o ≡ None) (drop (length c.terminals) server.at)
  pub mounts : All (AreUnits (length c.volumes)) server.mounts

pub seated_at_first : (c : Config) (server : ServerState) → IsConfig c → IsInitialServer c server → IsSeated c server
seated_at_first c server accepted is = record {
  terminals = is.seated.size;
  guests = is.mounted.size;
  consoles = is.seated.consoles;
  beyond = is.seated.beyond;
  mounts = all_units c server.mounts accepted is.mounted;
}

-- the parts of a system between two rounds
pub assembled : (memory : List ℕ) (s : Parts) (rows : List GuestRow) → IsConfig s.kernel.config → rows ≡ s.kernel.config.guests → AreInMachine rows memory s.kernel.guests.items → IsSeated s.kernel.config s.kernel.server → map length s.volumes ≡ map (λ (v : VolumeRow). v.blocks) s.kernel.config.volumes → turns_of s.turns ≡ no_turns (length rows) → s.rounds ≤ 4000000000 → s.counts ≡ no_counts → AreSystemParts s
assembled memory s rows accepted same placed seated sized turns few counts =
    let left : s.turns.left.items ≡ replicate (length rows) 0 = ap (λ (t : Turns). t.left) turns in
    inside_of memory s (record {
      accepted = accepted;
      placed = subst (λ (xs : List GuestRow). AreInMachine xs memory s.kernel.guests.items) same placed;
      terminals = seated.terminals;
      guests = seated.guests;
      consoles = seated.consoles;
      beyond = seated.beyond;
      mounts = seated.mounts;
    }) sized (record {
      beside = ap length left ∙ length-replicate (length rows) 0 ∙ ap length same;
      from = omega (arith, ap (λ (t : Turns). t.from) turns);
      few = subst (λ xs. All (λ n. n ≤ 100000) xs) (sym left) (All-replicate (λ n. n ≤ 100000) (length rows) 0 (omega arith));
      counted = omega (arith, ap steps_in counts, ap sum left, sum_zero (length rows));
      trail = omega (arith, ap (λ (x : Counts). x.trail) counts);
      few_rounds = few;
    })
