-- What an operation with an index in normal form stores, where its place was found.
use Rattle.std.proofs.Common.{◌≡◌, ℕ, List, [], ◌∷◌, None, refl, ap, ◌∙◌, sym, subst}
use Rattle.vv_base.specs.declared.width.Width.{Width}
use Rattle.vax_arch.specs.declared.mode.Intent.{Intent}
use Rattle.vax_arch.specs.declared.mode.Intent.TheVariants.{Read, Write}
use Rattle.vax_hw.specs.declared.world.World.{World}
use Rattle.vax_table.specs.Effects.{Effect, store}
use Rattle.vax_table.specs.PlanLaws.{bytes_of_stores}
use Rattle.vax_table.specs.Tries.{first_clear}
use Rattle.vax_table.specs.declared.effect.Store.{Store}
use Rattle.vax_normal.specs.declared.in_memory.Found.{Found}
use Rattle.vax_paged.specs.InPage.{IsOpenAt, IsStoreInPage}
use Rattle.vax_paged.specs.Paged.{is_clear_for}
use Rattle.vax_paged.specs.declared.known.Known.{Known}
use Rattle.vax_normal.specs.Indexed.{indexed_finished, indexed_found, indexed_stored, stored_for}
use Rattle.vax_normal.specs.declared.rarer_shape.Indexed.{Indexed}

pub open_for : (memory : List ℕ) (w : World) (ks : List Known) (i : Intent) (at : ℕ) (width : Width) (v place : ℕ) (x : Store) →
    (i ≡ Write → IsOpenAt memory w ks at width place) → stored_for i at width v ≡ x ∷ [] → IsStoreInPage memory w x place
open_for memory w ks Read at width v place x h e = cc
open_for memory w ks Write at width v place x h e =
    let is : store at width v ≡ x = cc in
    subst (λ (y : Store). IsStoreInPage memory w y place) is ((h refl).whole v)

-- and its modify bit is set
pub modified_for : (memory : List ℕ) (w : World) (ks : List Known) (i : Intent) (at : ℕ) (width : Width) (v place : ℕ) (x : Store) →
    (i ≡ Write → IsOpenAt memory w ks at width place) → stored_for i at width v ≡ x ∷ [] → None ≡ first_clear (is_clear_for memory w) (bytes_of_stores (x ∷ []))
modified_for memory w ks Read at width v place x h e = cc
modified_for memory w ks Write at width v place x h e =
    let is : store at width v ≡ x = cc in
    sym (subst (λ (y : Store). first_clear (is_clear_for memory w) (bytes_of_stores (y ∷ [])) ≡ None) is ((h refl).modified v))

-- what was found of it, with the registers after it
pub indexed_effect : (n : Indexed) (r q : List ℕ) (x : Found) (ws : List Store) → q ≡ indexed_finished n x.value r → indexed_stored n r x.value ≡ ws →
    (let e : Effect = record { r = q; psw = x.psw; writes = ws; trap = None } in indexed_found n r x ≡ e)
indexed_effect n r q x ws e f =
    ap (λ (ys : List Store). let z : Effect = record { r = indexed_finished n x.value r; psw = x.psw; writes = ys; trap = None } in z) f
    ∙ ap (λ (xs : List ℕ). let z : Effect = record { r = xs; psw = x.psw; writes = ws; trap = None } in z) (sym e)
