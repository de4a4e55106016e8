-- A store where its place was found.
use Rattle.std.proofs.Common.{◌≡◌, ℕ, List, [], ◌∷◌, Option, Some, None, Ok, ap, sym, subst}
use Rattle.std.specs.Prelude.{IfSome}
use Rattle.vv_base.specs.declared.width.Width.{Width}
use Rattle.vv_base.specs.Width.{size_of}
use Rattle.vax_arch.specs.declared.mode.Intent.TheVariants.{Write}
use Rattle.vax_hw.specs.declared.world.World.{World}
use Rattle.vax_table.specs.Effects.{store}
use Rattle.vax_table.specs.Interaction.{number_at}
use Rattle.vax_table.specs.PlanLaws.{bytes_of_stores}
use Rattle.vax_table.specs.Tries.{first_clear}
use Rattle.vax_table.specs.declared.effect.Store.{Store}
use Rattle.vax_normal.specs.InMemory.{reach_address, stored}
use Rattle.vax_normal.specs.declared.shape.Reach.{Reach}
use Rattle.vax_paged.specs.InPage.{IsOpenAt, IsStoreInPage, number_from}
use Rattle.vax_paged.specs.Known.{known_space}
use Rattle.vax_paged.specs.Paged.{is_clear_for}
use Rattle.vax_paged.specs.declared.known.Known.{Known}

pub open_store : (memory : List ℕ) (w : World) (ks : List Known) (q : Option Reach) (r : List ℕ) (width : Width) (v place : ℕ) (x : Store) →
    IfSome q (λ p. IsOpenAt memory w ks (reach_address p r) width place) → stored q r width v ≡ x ∷ [] → IsStoreInPage memory w x place
open_store memory w ks None r width v place x h e = cc
open_store memory w ks (Some p) r width v place x h e =
    let is : store (reach_address p r) width v ≡ x = cc in
    subst (λ (y : Store). IsStoreInPage memory w y place) is (h.whole v)

-- and its modify bit is set
pub modified_store : (memory : List ℕ) (w : World) (ks : List Known) (q : Option Reach) (r : List ℕ) (width : Width) (v place : ℕ) (x : Store) →
    IfSome q (λ p. IsOpenAt memory w ks (reach_address p r) width place) → stored q r width v ≡ x ∷ [] → None ≡ first_clear (is_clear_for memory w) (bytes_of_stores (x ∷ []))
modified_store memory w ks None r width v place x h e = cc
modified_store memory w ks (Some p) r width v place x h e =
    let is : store (reach_address p r) width v ≡ x = cc in
    sym (subst (λ (y : Store). first_clear (is_clear_for memory w) (bytes_of_stores (y ∷ [])) ≡ None) is (h.modified v))

-- ---- a store that isn't by a reference

opened : (memory : List ℕ) (w : World) (ks : List Known) (width : Width) (at v place : ℕ) (x : Store) → IsOpenAt memory w ks x.va width place → x ≡ store at width v → IsOpenAt memory w ks at width place
opened memory w ks width at v place x h e = subst (λ (a : ℕ). IsOpenAt memory w ks a width place) (ap (λ (y : Store). y.va) e) h

pub open_at : (memory : List ℕ) (w : World) (ks : List Known) (width : Width) (at v place : ℕ) (x : Store) → IsOpenAt memory w ks x.va width place → x ≡ store at width v → IsStoreInPage memory w x place
open_at memory w ks width at v place x h e = subst (λ (y : Store). IsStoreInPage memory w y place) (sym e) ((opened memory w ks width at v place x h e).whole v)

pub modified_at : (memory : List ℕ) (w : World) (ks : List Known) (width : Width) (at v place : ℕ) (x : Store) → IsOpenAt memory w ks x.va width place → x ≡ store at width v → None ≡ first_clear (is_clear_for memory w) (bytes_of_stores (x ∷ []))
modified_at memory w ks width at v place x h e = sym (subst (λ (y : Store). first_clear (is_clear_for memory w) (bytes_of_stores (y ∷ [])) ≡ None) (sym e) ((opened memory w ks width at v place x h e).modified v))

pub claimed_at : (memory : List ℕ) (w : World) (ks : List Known) (width : Width) (at v place : ℕ) (x : Store) → IsOpenAt memory w ks x.va width place → x ≡ store at width v →
    number_at (known_space memory ks) Write (size_of width) at ≡ Ok (number_from memory (size_of width) place)
claimed_at memory w ks width at v place x h e = (opened memory w ks width at v place x h e).claimed
