-- The parts of a system, and the system that they stand for.
use Rattle.std.proofs.Common.{ℕ, zero, suc, ◌≡◌, ◌<◌, ◌≤◌, ◌+◌, ◌-◌, ◌*◌, ◌^◌, List, [], ◌∷◌, length, map, sym, ◌∙◌, ap, subst, arith}
use Rattle.std.proofs.lemmas.List.{length-map, length-take-le}
use Rattle.std.proofs.lemmas.List.Elements.{All-take}
use Rattle.std.proofs.lemmas.List.Sums.{sum_by-cons}
use Rattle.std.specs.List.{All, sum_by}
use Rattle.std.specs.Prelude.{IfSome, sum}
use Rattle.vax_hw.specs.Machine.{Machine}
use Rattle.vv_io.specs.Lines.{Seen}
use Rattle.sys_events.specs.Happens.{Happen}
use Rattle.sys_guests.proofs.LaidOut.{placed_long}
use Rattle.sys_guests.specs.Kernel as kernels
use Rattle.sys_guests.specs.Kernel.{AreUnits, IsKernel, Leads, scene}
use Rattle.sys_guests.specs.Layout.{guests_in}
use Rattle.sys_objects.specs.Condition.{IsGuest}
use Rattle.sys_objects.specs.declared.records.Config.{Config}
use Rattle.sys_objects.specs.declared.records.GuestRow.{GuestRow}
use Rattle.sys_objects.specs.declared.records.VolumeRow.{VolumeRow}
use Rattle.sys_system.specs.Calls.{BeginsRound, EndsRound}
use Rattle.sys_system.specs.Held.{AreSystemParts, system_of, turns_of}
use Rattle.sys_system.specs.System.{IsInMachine, Turns, all_turns, no_round}
use Rattle.sys_system.specs.declared.parts.Parts.{Parts}
use Rattle.sys_state.specs.State.{SystemState}
use Rattle.sys_state.specs.Transfers.{transfers}
use Rattle.sys_script.specs.declared.event.Event.{Event}
use Rattle.vm_stepping.specs.Made.{steps_in}

-- the kernel of a system that is in the machine
pub kernel_holds : (memory : List ℕ) (s : Parts) → AreSystemParts s → IsInMachine memory (system_of s) → IsKernel memory s.kernel
kernel_holds memory s h stands = record {
  accepted = h.system.accepted;
  placed = stands;
  terminals = h.terminals;
  guests = h.guests;
  consoles = h.consoles;
  beyond = h.beyond;
  mounts = h.mounts;
}

-- the sizes of the volumes are those of their rows
abbrev pub AreSized : Config → List (List (List ℕ)) → Type 0
AreSized c volumes = map length volumes ≡ map (λ (v : VolumeRow). v.blocks) c.volumes

-- what holds of turns and counts
pub record AreCounted (s : Parts) : Type 0 where
  pub beside : length s.turns.left.items ≡ length s.kernel.config.guests
  pub from : s.turns.from ≤ length s.turns.left.items
  pub few : All (λ n. n ≤ 100000) s.turns.left.items
  pub counted : steps_in s.counts + sum s.turns.left.items ≤ 1600000 * s.rounds
  pub trail : s.counts.trail < 2 ^ 64
  pub few_rounds : s.rounds ≤ 4000000000

pub counted_in : (s : Parts) → AreSystemParts s → AreCounted s
counted_in s h = record { beside = h.system.beside; from = h.system.from; few = h.system.few; counted = h.system.counted; trail = h.system.trail; few_rounds = h.system.few_rounds }

pub inside_of : (memory : List ℕ) (s : Parts) → IsKernel memory s.kernel → AreSized s.kernel.config s.volumes → AreCounted s → AreSystemParts s
inside_of memory s k sized c =
    let n : ℕ = length s.kernel.config.terminals in
    let rows = s.kernel.config.guests in
    record {
      system = record {
        accepted = k.accepted;
        consoles = length-take-le n s.kernel.server.at (omega (arith, k.accepted.few_terminals, k.terminals));
        seats = All-take (λ o. IfSome o (λ g. g < length rows)) n s.kernel.server.at k.consoles;
        units = length-take-le (length rows) s.kernel.server.mounts (omega (arith, k.accepted.few_guests, k.guests));
        mounted = All-take (AreUnits (length s.kernel.config.volumes)) (length rows) s.kernel.server.mounts k.mounts;
        volumes = sized;
        many = placed_long 0 (sum_by (λ (row : GuestRow). row.pages) rows) rows s.kernel.guests.items k.placed.laid_out;
        beside = c.beside;
        from = c.from;
        few = c.few;
        counted = c.counted;
        trail = c.trail;
        few_rounds = c.few_rounds;
      };
      terminals = k.terminals;
      guests = k.guests;
      consoles = k.consoles;
      beyond = k.beyond;
      mounts = k.mounts;
    }

tail_of : {X : Type 0} (P : X → Type 0) (x : X) (xs : List X) → All P (x ∷ xs) → All P xs
tail_of P x xs all i d h = all (suc i) d (omega (arith, h))

-- quanta are few steps
few_quanta : (rows : List GuestRow) → All IsGuest rows → All (λ n. n ≤ 100000) (map (λ row. row.quantum) rows)
few_quanta [] all i d h = absurd (omega (arith, h))
few_quanta (row ∷ rows) all zero d h = let one : IsGuest row = all 0 row (omega arith) in one.few_steps
few_quanta (row ∷ rows) all (suc i) d h = few_quanta rows (tail_of IsGuest row rows all) i d (omega (arith, h))

sum_of_quanta : (rows : List GuestRow) → All IsGuest rows → sum (map (λ row. row.quantum) rows) ≤ 100000 * length rows
sum_of_quanta [] all = omega arith
sum_of_quanta (row ∷ rows) all =
    let one : IsGuest row = all 0 row (omega arith) in
    let rest : sum (map (λ r. r.quantum) rows) ≤ 100000 * length rows = sum_of_quanta rows (tail_of IsGuest row rows all) in
    omega (arith, one.few_steps, rest, sum_by-cons (λ (n : ℕ). n) row.quantum (map (λ r. r.quantum) rows))

-- a round begins with all quanta
pub counted_begun : (s s' : Parts) → AreSystemParts s → s.rounds < 4000000000 → s'.kernel.config ≡ s.kernel.config → turns_of s'.turns ≡ all_turns s.kernel.config.guests → s'.rounds ≡ s.rounds + 1 → s'.counts ≡ s.counts → AreCounted s'
counted_begun s s' h more config turns rounds counts =
    let rows = s.kernel.config.guests in
    let left : s'.turns.left.items ≡ map (λ row. row.quantum) rows = ap (λ (x : Turns). x.left) turns in
    let long : length (map (λ (row : GuestRow). row.quantum) rows) ≡ length rows = length-map rows (λ (row : GuestRow). row.quantum) in
    record {
      beside = ap length left ∙ long ∙ ap (λ (c : Config). length c.guests) (sym config);
      from = omega (arith, ap (λ (x : Turns). x.from) turns);
      few = subst (λ xs. All (λ n. n ≤ 100000) xs) (sym left) (few_quanta rows h.system.accepted.guests);
      counted = omega (arith, h.system.counted, rounds, ap steps_in counts, ap sum left, sum_of_quanta rows h.system.accepted.guests, h.system.accepted.few_guests);
      trail = omega (arith, h.system.trail, ap (λ x. x.trail) counts);
      few_rounds = omega (arith, more, rounds);
    }

-- its events have happened
pub begun : (es : List Event) (m m' : Machine) (s s' : Parts) (lines lines' : List Seen) → AreSystemParts s → s.rounds < 4000000000 → turns_of s'.turns ≡ all_turns s.kernel.config.guests → s'.rounds ≡ s.rounds + 1 → s'.counts ≡ s.counts → s'.volumes ≡ s.volumes → s'.drives ≡ s.drives → Happen (s.rounds + 1) es (scene m s.kernel lines) (scene m' s'.kernel lines')
    → BeginsRound es m (system_of s) lines m' (system_of s') lines' × AreSystemParts s'
begun es m m' s s' lines lines' h more turns rounds counts volumes drives happened =
    let l = happened s.volumes in
    let sized : AreSized s'.kernel.config s'.volumes = ap (λ vs. map length vs) volumes ∙ h.system.volumes ∙ ap (λ (c : Config). map (λ (v : VolumeRow). v.blocks) c.volumes) (sym l.config) in (
      record {
        system = λ i. record { config = l.config i; connected = (system_of s').connected; mounts = (system_of s').mounts; guests = (system_of s').guests; volumes = volumes i; turns = turns i; rounds = rounds i; counts = counts i; marks = (system_of s').marks; drives = drives i };
        goes = record {
          state = (λ i. record { connected = (system_of s').connected; mounts = (system_of s').mounts; guests = guests_in m'.memory s'.kernel.guests.items; volumes = volumes i }) ∙ l.state;
          shows = l.shows;
          stands = l.holds.placed;
          only = l.only;
          size = l.size;
        };
        machine = l.machine;
      },
      inside_of m'.memory s' l.holds sized (counted_begun s s' h more l.config turns rounds counts),
    )

-- its transfers are made
pub ended : (m m' : Machine) (s s' : Parts) (lines lines' : List Seen) → AreSystemParts s → turns_of s'.turns ≡ no_round (turns_of s.turns) → s'.rounds ≡ s.rounds → s'.counts ≡ s.counts → s'.drives ≡ s.drives → map length s'.volumes ≡ map length s.volumes
    → Leads (transfers s.kernel.config (kernels.kernel_state m.memory s.kernel s.volumes)) (scene m s.kernel lines) (scene m' s'.kernel lines') s'.volumes → EndsRound m (system_of s) lines m' (system_of s') lines' × AreSystemParts s'
ended m m' s s' lines lines' h turns rounds counts drives sizes l =
    let left : s'.turns.left.items ≡ s.turns.left.items = ap (λ (x : Turns). x.left) turns in
    let sized : AreSized s'.kernel.config s'.volumes = sizes ∙ h.system.volumes ∙ ap (λ (c : Config). map (λ (v : VolumeRow). v.blocks) c.volumes) (sym l.config) in (
      record {
        system = λ i. record { config = l.config i; connected = same_connected i; mounts = same_mounts i; guests = (system_of s').guests; volumes = s'.volumes; turns = turns i; rounds = rounds i; counts = counts i; marks = (system_of s').marks; drives = drives i };
        goes = record { state = l.state; shows = l.shows; stands = l.holds.placed; only = l.only; size = l.size };
        machine = l.machine;
      },
      inside_of m'.memory s' l.holds sized (record {
        beside = ap length left ∙ h.system.beside ∙ ap (λ (c : Config). length c.guests) (sym l.config);
        from = omega (arith, h.system.from, ap (λ (x : Turns). x.from) turns, ap length left);
        few = subst (λ xs. All (λ n. n ≤ 100000) xs) (sym left) h.system.few;
        counted = omega (arith, h.system.counted, rounds, ap steps_in counts, ap sum left);
        trail = omega (arith, h.system.trail, ap (λ x. x.trail) counts);
        few_rounds = omega (arith, h.system.few_rounds, rounds);
      }),
    )
  where
    same_connected : (system_of s').connected ≡ (system_of s).connected
    same_connected = ap (λ (x : SystemState). x.connected) l.state

    same_mounts : (system_of s').mounts ≡ (system_of s).mounts
    same_mounts = ap (λ (x : SystemState). x.mounts) l.state
