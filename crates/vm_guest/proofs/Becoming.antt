-- A guest that changed from outside.
use Rattle.std.proofs.Common.{◌≡◌, ℕ, ◌*◌, inl, Bool, List, [], ◌∷◌, ◌++◌, refl, ap, ◌∙◌, sym, subst, arith}
use Rattle.std.proofs.lemmas.List.Elements.{All-nil}
use Rattle.vax_hw.specs.Machine.{Machine}
use Rattle.vm_stepping.proofs.Completing.{only_both, own_same}
use Rattle.vm_simulation_laws.proofs.Fitting.{resets_keep, writes_keep}
use Rattle.vm_simulation_laws.proofs.Own.{moves_alone, none_dropped}
use Rattle.vm_simulation_laws.proofs.Working.{switches_retell}
use Rattle.vm_guest.specs.Kept.{Becomes, IsNew, IsResumed, IsShadowedIn, KeepsPresent, Kept, frames_from, guest_in}
use Rattle.vm_console.specs.Console.{ConsoleState, after_typed}
use Rattle.vm_guest.specs.Stores.{StoresBytes}
use Rattle.vm_shadow.specs.Shadowed.{Shadowed}
use Rattle.vm_shadow.specs.StandsFor.{MakesTables, Retells, Switches}
use Rattle.vm_state.specs.Allowed.{AreAllowed, IsPacket}
use Rattle.vm_state.specs.Outside.{all_typed}
use Rattle.vm_state.specs.Partition.{part, partition_of}
use Rattle.vm_state.specs.Start.{started, stopped_at_first}
use Rattle.vm_state.specs.State.{HasPlace, State, state_of, tables_of}
use Rattle.vm_state.specs.Touches.{touching_reset, touching_write}
use Rattle.vm_state.specs.declared.guest_state.GuestState.{GuestState}

-- a guest that goes on with the registers of a new one is new
pub resumed_new : (pages base tables start : ℕ) (faults : Bool) (given : GuestState) (m m' : Machine) (k : Kept) → state_of given ≡ stopped_at_first start faults → HasPlace pages base start given → IsResumed given tables m m' k → IsNew pages base tables start faults m m' k
resumed_new pages base tables start faults given m m' k is place resumed = record {
  state = ap state_of resumed.state ∙ is;
  place = subst (HasPlace pages base start) (sym resumed.state) place;
  made = subst (λ g. MakesTables g tables m m' k.shadow) (sym resumed.state) resumed.made;
  present = resumed.present;
}

-- a guest that starts has allowed registers
pub start_allowed : (size start : ℕ) (faults : Bool) → AreAllowed size (started start faults)
start_allowed size start faults = record {
  p0br = inl refl;
  p0lr = refl;
  p1br = refl;
  p1lr = refl;
  sbr = refl;
  slr = refl;
  pcbb = refl;
  scbb = refl;
  astlvl = refl;
  sisr = refl;
  psl = refl;
  packets = All-nil (IsPacket size);
  few = omega arith;
}

-- with other registers, to which its shadow page tables switch
pub becomes_switched : (m : Machine) (k : Kept) (x : State) (g : GuestState) (m' : Machine) (s' : Shadowed) → IsShadowedIn m.memory k → HasPlace k.state.pages k.state.base k.state.start g → state_of g ≡ x → AreAllowed (512 * g.pages) x → Switches g m k.shadow m' s' →
    Becomes (record (guest_in m.memory k) { state = x }) m k m' (record { state = g; shadow = s' })
becomes_switched m k x g m' s' stands place state allowed w = record {
  guest = λ i. record { memory = memory i; state = state i };
  stands = record { keeps = w.keeps; serves = w.serves; allowed = subst (AreAllowed (512 * g.pages)) (sym state) allowed };
  rest = w.only.rest;
  only = only_both k.shadow m m' w.only;
  place = place;
  tables = ap (λ (y : Shadowed). y.at) w.rest;
}
  where
    memory : partition_of m'.memory g ≡ partition_of m.memory k.state
    memory = (λ i. part m'.memory (512 * place.base i) (512 * place.pages i)) ∙ own_same m m' k.shadow k.state stands.keeps.fits stands.serves w.only

-- what is present after a reset has entries
pub reset_present : (m : Machine) (k : Kept) (x : State) (g : GuestState) (m' : Machine) (s' : Shadowed) → state_of g ≡ x → Switches g m k.shadow m' s' → KeepsPresent (touching_reset (record (guest_in m.memory k) { state = x })) k (record { state = g; shadow = s' })
reset_present m k x g m' s' is w p all =
    let told : tables_of g ≡ x.tables = ap (λ (y : State). y.tables) is in
    resets_keep k.shadow (record (guest_in m.memory k) { state = x }) [] p s' (record {
      between = k.shadow;
      drops = none_dropped [] k.shadow;
      retells = subst (λ t. Retells t k.shadow s') told (switches_retell g m m' k.shadow s' w);
    }) all

-- and so has what is present after a write
pub stored_present : (m : Machine) (k : Kept) (pa : ℕ) (bytes : List ℕ) (m' : Machine) (s' : Shadowed) → IsShadowedIn m.memory k → StoresBytes pa bytes m k.shadow k.state m' s' → KeepsPresent (touching_write (guest_in m.memory k) (frames_from pa bytes)) k (record { state = k.state; shadow = s' })
stored_present m k pa bytes m' s' stands w p all =
    writes_keep m.memory k.shadow k.state (frames_from pa bytes) p s' stands.keeps stands.serves (moves_alone (frames_from pa bytes) m'.memory k.shadow s' (tables_of k.state) w.stands.keeps.fits w.stands.serves.told w.drops) all

-- a line is typed in two parts
pub typed_more : (xs ys : List ℕ) (c : ConsoleState) → all_typed ys (all_typed xs c) ≡ all_typed (xs ++ ys) c
typed_more [] ys c = refl
typed_more (x ∷ xs) ys c = typed_more xs ys (after_typed c x)
