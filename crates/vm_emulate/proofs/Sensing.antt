-- What a sensitive instruction does, from what its parts did.
use Rattle.std.proofs.Common.{◌≡◌, ℕ, ◌*◌, List, [], length, Some, refl, ap, ◌∙◌, sym, subst}
use Rattle.vax_hw.specs.Machine.{Machine}
use Rattle.vax_table.specs.declared.act.Sens.{Sens}
use Rattle.vax_table.specs.declared.act.Trapped.{Trapped}
use Rattle.vm_emulate.specs.Emulated.{IsSensed, Senses}
use Rattle.vm_emulate.specs.declared.emulated.Emulated.{Emulated}
use Rattle.vm_emulate.specs.declared.emulated.Emulated.TheVariants as outcomes
use Rattle.vm_emulate.proofs.Telling.{follows_none}
use Rattle.vm_exception.proofs.Arriving.{stopped_stands}
use Rattle.vm_exception.specs.Attempted.{Stays}
use Rattle.vm_exception.specs.Initiated.{StopsWith}
use Rattle.vm_shadow.specs.Shadowed.{Keeps, Shadowed}
use Rattle.vm_shadow.specs.StandsFor.{OnlyGuest, StandsFor}
use Rattle.vm_shadow.proofs.Covering.{own_is, own_length}
use Rattle.vm_state.specs.Allowed.{AreAllowed}
use Rattle.vm_state.specs.Partition.{guest_of, part, partition_of}
use Rattle.vm_state.specs.Sensed.{Does, Faults, LacksMemory, Sensed, StopsThere}
use Rattle.vm_state.specs.Sensitive.{sensed}
use Rattle.vm_state.specs.State.{Guest, HasPlace, State, state_of, tables_of}
use Rattle.vm_state.specs.Stops.{Stop, stop_code}
use Rattle.vm_state.specs.declared.exception.Exc.{Exc}
use Rattle.vm_state.specs.declared.guest_state.GuestState.{GuestState}
use Rattle.vm_state.proofs.Initiations.{Holds}
use Rattle.vm_state.proofs.Kept.{Sensible, sensed_sensible}

pub memory_size : (m : Machine) (s : Shadowed) (g : GuestState) → StandsFor m.memory s g → length (partition_of m.memory g) ≡ 512 * g.pages
memory_size m s g stands = ap length (sym (own_is m.memory s g stands.serves)) ∙ own_length m.memory s stands.keeps.fits ∙ ap (λ n. 512 * n) stands.serves.pages

pub nothing_else : (s : Shadowed) (m : Machine) → OnlyGuest s m m
nothing_else s m = record { rest = refl; size = refl; other = λ p h k. refl }

pub same_place : (g : GuestState) → HasPlace g.pages g.base g.start g
same_place g = record { pages = refl; base = refl; start = refl }

-- nothing happened
pub stays : (x : Sensed) (result : Emulated) (m : Machine) (s : Shadowed) (g : GuestState) → StandsFor m.memory s g → IsSensed x result m s g m s g → Senses x m s g result m s g
stays x result m s g stands is = record { is = is; stands = stands; place = same_place g; only = nothing_else s m }

pub stay : (m : Machine) (s : Shadowed) (g : GuestState) → Stays m s g m s g
stay m s g = record { machine = refl; shadow = refl; guest = refl }

pub faults : (x : Sensed) (e : Exc) (m : Machine) (s : Shadowed) (g : GuestState) → StandsFor m.memory s g → x ≡ Faults e → Senses x m s g (outcomes.Fault e) m s g
faults x e m s g stands is = stays x (outcomes.Fault e) m s g stands (rw is (refl, stay m s g))

stops_with : (code : ℕ) (m : Machine) (s : Shadowed) (g g' : GuestState) → state_of g' ≡ record (state_of g) { halt = Some code } → StopsWith code m s g m s g'
stops_with code m s g g' state = record { state = state; machine = refl; shadow = refl }

pub stops_there : (x : Sensed) (stop : Stop) (code : ℕ) (m : Machine) (s : Shadowed) (g g' : GuestState) → StandsFor m.memory s g → x ≡ StopsThere stop → code ≡ stop_code stop → state_of g' ≡ record (state_of g) { halt = Some code } → HasPlace g.pages g.base g.start g' → Senses x m s g (outcomes.Stopped code) m s g'
stops_there x stop code m s g g' stands is c state place =
    record { is = rw is (c, stops_with code m s g g' state); stands = stopped_stands m.memory s g g' code stands state place; place = place; only = nothing_else s m }

pub lacks : (x : Sensed) (m : Machine) (s : Shadowed) (g g' : GuestState) → StandsFor m.memory s g → x ≡ LacksMemory → state_of g' ≡ record (state_of g) { halt = Some 0x10 } → HasPlace g.pages g.base g.start g' → Senses x m s g outcomes.PastMemory m s g'
lacks x m s g g' stands is state place =
    record { is = rw is (stops_with 0x10 m s g g' state); stands = stopped_stands m.memory s g g' 0x10 stands state place; place = place; only = nothing_else s m }

-- It is done. What the guest becomes is allowed, since every instruction keeps that.
does_holds : (g : Guest) (t : Trapped) (op : Sens) (h : Guest) (shown frames : List ℕ) → sensed g t op ≡ Does h shown frames → Holds g h
does_holds g t op h shown frames e = (subst (Sensible g) e (sensed_sensible g t op)).0

module _ (t : Trapped) (op : Sens) (h : Guest) (shown frames : List ℕ) (m : Machine) (s : Shadowed) (g : GuestState) (stands : StandsFor m.memory s g) (is : sensed (guest_of m.memory g) t op ≡ Does h shown frames) where
  pub done_allowed : (g' : GuestState) → state_of g' ≡ h.state → HasPlace g.pages g.base g.start g' → AreAllowed (512 * g'.pages) (state_of g')
  done_allowed g' state place =
      let hold = does_holds (guest_of m.memory g) t op h shown frames is in
      let size : length (partition_of m.memory g) ≡ 512 * g'.pages = memory_size m s g stands ∙ ap (λ n. 512 * n) (sym place.pages) in
      subst (λ n. AreAllowed n (state_of g')) size (subst (AreAllowed (length (partition_of m.memory g))) (sym state) (hold.keeps.allowed (subst (λ n. AreAllowed n (state_of g)) (sym (memory_size m s g stands)) stands.allowed)))

  pub done_stands : (m' : Machine) (s' : Shadowed) (g' : GuestState) → guest_of m'.memory g' ≡ h → HasPlace g.pages g.base g.start g' → Keeps [] [] m'.memory s' → s'.pages ≡ s.pages → s'.base ≡ s.base → s'.told ≡ h.state.tables → StandsFor m'.memory s' g'
  done_stands m' s' g' guest place keeps pages base told =
      let state : state_of g' ≡ h.state = ap (λ (x : Guest). x.state) guest in
      record {
        keeps = keeps;
        serves = record { pages = pages ∙ stands.serves.pages ∙ sym place.pages; base = base ∙ stands.serves.base ∙ sym place.base; told = told ∙ sym (ap (λ (x : State). x.tables) state) };
        allowed = done_allowed g' state place;
      }

-- of an instruction that changes the guest's state alone, and no register of its page tables
pub alone : (t : Trapped) (op : Sens) (u : State) (shown : List ℕ) (m : Machine) (s : Shadowed) (g g' : GuestState) → StandsFor m.memory s g → sensed (guest_of m.memory g) t op ≡ Does (record { memory = partition_of m.memory g; state = u }) shown []
    → state_of g' ≡ u → HasPlace g.pages g.base g.start g' → u.tables ≡ tables_of g → Senses (sensed (guest_of m.memory g) t op) m s g outcomes.Done m s g'
alone t op u shown m s g g' stands is state place tables =
    let h : Guest = record { memory = partition_of m.memory g; state = u } in
    let told : s.told ≡ u.tables = stands.serves.told ∙ sym tables in
    let memory : partition_of m.memory g' ≡ partition_of m.memory g = λ i. part m.memory (512 * place.base i) (512 * place.pages i) in
    let guest : guest_of m.memory g' ≡ h = λ i. record { memory = memory i; state = state i } in
    record {
      is = rw is (record { guest = guest; follows = follows_none m.memory s u.tables stands.keeps.fits told });
      stands = done_stands t op h shown [] m s g stands is m s g' guest place stands.keeps refl refl told;
      place = place;
      only = nothing_else s m;
    }
