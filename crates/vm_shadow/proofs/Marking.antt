-- The modify bit of an entry of the guest is set.
use Rattle.std.proofs.Common.{◌≡◌, ℕ, ◌+◌, ◌*◌, ◌%◌, List, [], length, Option, refl, ap, ◌∙◌, sym, subst}
use Rattle.vv_base.specs.Bytes.{long_at}
use Rattle.vax_arch.specs.Walk.{with_modify}
use Rattle.vax_arch.specs.WalkLaws.{IsAligned, IsInside}
use Rattle.vax_arch.specs.declared.walk.Lookup.{Lookup}
use Rattle.vax_arch.specs.declared.walk.Lookup.TheVariants.{Beyond, Direct, Fails, Found}
use Rattle.vax_arch.proofs.Walks.{looks_aligned}
use Rattle.vax_hw.specs.Machine.{Machine}
use Rattle.vm_shadow.specs.Shadowed.{CanBeShadowed, Shadowed, own}
use Rattle.vm_shadow.specs.StandsFor.{DropsMarked, Marks, Serves, StandsFor, Stores}
use Rattle.vm_shadow.proofs.Contexts.{aligned_of}
use Rattle.vm_shadow.proofs.Covering.{own_is}
use Rattle.vm_state.specs.Partition.{guest_of, partition_of}
use Rattle.vm_state.specs.State.{tables_of}
use Rattle.vm_state.specs.Translation.{long_stored, look, marked_by}
use Rattle.vm_state.specs.declared.guest_state.GuestState.{GuestState}
use Rattle.vm_state.proofs.Parts.{part_long}

-- an entry that is found is at a multiple of 4
pub found_aligned : (memory : List ℕ) (s : Shadowed) (g : GuestState) (page place : ℕ) (table : Option ℕ) → StandsFor memory s g → Found place table ≡ look (guest_of memory g) page → place % 4 ≡ 0
found_aligned memory s g page place table stands e =
    let can : CanBeShadowed (tables_of g) = subst CanBeShadowed stands.serves.told stands.keeps.fits.told in
    let a : IsAligned (Found place table) = subst IsAligned (sym e) (looks_aligned (length (partition_of memory g)) (partition_of memory g) (tables_of g) page (aligned_of (tables_of g) can)) in
    a.0

serves_still : (g : GuestState) (s s1 : Shadowed) → Serves g s → s1 ≡ record s { reads = s1.reads; consulted = s1.consulted } → Serves g s1
serves_still g s s1 v e = record { pages = ap (λ (x : Shadowed). x.pages) e ∙ v.pages; base = ap (λ (x : Shadowed). x.base) e ∙ v.base; told = ap (λ (x : Shadowed). x.told) e ∙ v.told }

pub marks_found : (page : ℕ) (g : GuestState) (m m' : Machine) (s s' : Shadowed) (place long : ℕ) (table : Option ℕ) → StandsFor m.memory s g → Found place table ≡ look (guest_of m.memory g) page → IsInside (512 * g.pages) (Found place table) → long ≡ with_modify (long_at m.memory (512 * g.base + place)) → Stores place (long_stored place long (own m.memory s)) m s m' s' → Marks page g m s m' s'
marks_found page g m m' s s' place long table stands e inside is st =
    let v = stands.serves in
    let v' = serves_still g s s' v st.drops.rest in
    let entry : long ≡ with_modify (long_at (partition_of m.memory g) place) = is ∙ ap with_modify (sym (part_long m.memory (512 * g.base) (512 * g.pages) place inside.0)) in
    let memory : partition_of m'.memory g ≡ marked_by (Found place table) (partition_of m.memory g) =
    sym (own_is m'.memory s' g v') ∙ st.own ∙ (λ i. long_stored place (entry i) (own_is m.memory s g v i)) in
    record {
      stands = record { keeps = st.keeps [] [] stands.keeps; serves = v'; allowed = stands.allowed };
      memory = memory ∙ ap (λ x. marked_by x (partition_of m.memory g)) e;
      drops = subst (λ x. DropsMarked x s s') e st.drops;
      only = st.only;
    }

pub marks_none : (page : ℕ) (g : GuestState) (m : Machine) (s : Shadowed) (x : Lookup) → StandsFor m.memory s g → x ≡ look (guest_of m.memory g) page → ((place : ℕ) (table : Option ℕ) → x ≡ Found place table → ⊥) → Marks page g m s m s
marks_none page g m s x stands e no_ = record {
  stands = stands;
  memory = unmarked x no_ ∙ ap (λ y. marked_by y (partition_of m.memory g)) e;
  drops = subst (λ y. DropsMarked y s s) e (undropped x no_);
  only = record { rest = refl; size = refl; other = λ p h k. refl };
}
  where
    unmarked : (x : Lookup) → ((place : ℕ) (table : Option ℕ) → x ≡ Found place table → ⊥) → partition_of m.memory g ≡ marked_by x (partition_of m.memory g)
    unmarked (Found place table) n = absurd (n place table refl)
    unmarked (Direct frame) n = refl
    unmarked (Fails v p) n = refl
    unmarked Beyond n = refl

    undropped : (x : Lookup) → ((place : ℕ) (table : Option ℕ) → x ≡ Found place table → ⊥) → DropsMarked x s s
    undropped (Found place table) n = absurd (n place table refl)
    undropped (Direct frame) n = refl
    undropped (Fails v p) n = refl
    undropped Beyond n = refl
