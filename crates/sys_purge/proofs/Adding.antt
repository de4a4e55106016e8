-- A guest that doesn't flow into a class changes nothing of the purge to it.
use Rattle.std.proofs.Common.{◌≡◌, ℕ, List, [], ◌∷◌, ◌++◌, map, filter, length, refl, sym, ap, get_or, Bool, false, arith}
use Rattle.vv_class.specs.Class.{does_flow}
use Rattle.vv_class.specs.declared.class.AccessClass.{AccessClass}
use Rattle.sys_objects.specs.declared.records.GuestRow.{GuestRow}
use Rattle.sys_purge.proofs.Depends.{devices_depend, volumes_depend}
use Rattle.sys_purge.proofs.Devices.{flows_itself}
use Rattle.sys_purge.proofs.Kept.{both}
use Rattle.sys_purge.specs.Adding.{GuestsAddNoBlocks, GuestsAddNothing, with_guest}
use Rattle.sys_purge.specs.Input.{beside, is_kept, purged}
use Rattle.sys_purge.specs.Purge.{purge_config, renumbered}
use Rattle.sys_state.specs.Bytes.{devices_of}
use Rattle.sys_state.specs.Run.{Input}

dropped_last : {X : Type 0} (test : X → Bool) (x : X) → test x ≡ false → (xs : List X) → filter test (xs ++ x ∷ []) ≡ filter test xs
dropped_last test x e [] = rw e refl
dropped_last test x e (y ∷ ys) = let rest = dropped_last test x e ys in both (test y) (λ k. rw k (ap (λ zs. y ∷ zs) rest)) (λ k. rw k rest)

beside_last : {X Y : Type 0} (test : X → Bool) (x : X) (y : Y) → test x ≡ false → (xs : List X) (ys : List Y) → length ys ≡ length xs → beside test (xs ++ x ∷ []) (ys ++ y ∷ []) ≡ beside test xs ys
beside_last test x y e [] [] h = rw e refl
beside_last test x y e [] (z ∷ zs) h = absurd (omega (arith, h))
beside_last test x y e (w ∷ ws) [] h = absurd (omega (arith, h))
beside_last test x y e (w ∷ ws) (z ∷ zs) h = let rest = beside_last test x y e ws zs (omega (arith, h)) in both (test w) (λ k. rw k (ap (λ us. z ∷ us) rest)) (λ k. rw k rest)

same_purge : (x : Input) (row : GuestRow) (image : List ℕ) (to : AccessClass) → length x.images ≡ length x.config.guests → does_flow row.class to ≡ false → purged x to ≡ purged (with_guest x row image) to
same_purge x row image to long e =
    let rows = ap (map (renumbered to x.config)) (sym (dropped_last (is_kept to) row e x.config.guests)) in
    let images = sym (beside_last (is_kept to) row image e x.config.guests x.images long) in
    λ i. record (purged x to) { config = record (purge_config x.config to) { guests = rows i }; images = images i }

pub guests_add_nothing : GuestsAddNothing
guests_add_nothing x row image is more long k d within hidden =
    let class : AccessClass = (get_or (devices_of x.config) k d).class in
    sym (devices_depend x (with_guest x row image) class is more (same_purge x row image class long hidden) k d within (flows_itself class))

pub guests_add_no_blocks : GuestsAddNoBlocks
guests_add_no_blocks x row image is more long k d within hidden =
    let class : AccessClass = (get_or x.config.volumes k d).class in
    sym (volumes_depend x (with_guest x row image) class is more (same_purge x row image class long hidden) k d within (flows_itself class))
