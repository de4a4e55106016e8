-- Stores in one page that is known.
use Rattle.std.proofs.Common.{◌≡◌, ℕ, zero, suc, drop, ◌+◌, ◌*◌, ◌/◌, ◌%◌, ◌^◌, ◌<◌, ◌≤◌, true, List, [], ◌∷◌, length, Ok, ap, sym, ◌∙◌, arith}
use Rattle.std.specs.Prelude.{◌==◌, ◌&&◌, nat_lt, slice_index_or, All}
use Rattle.std.proofs.lemmas.List.{at_drop_more}
use Rattle.vv_base.specs.Width.{size_of}
use Rattle.vax_arch.specs.Fields.{current_of}
use Rattle.vax_arch.specs.declared.mode.Intent.TheVariants.{Write}
use Rattle.vax_hw.specs.Machine.{machine_tables}
use Rattle.vax_hw.specs.declared.world.World.{World}
use Rattle.vax_table.specs.Stores.{all_stored}
use Rattle.vax_table.specs.declared.effect.Store.{Store}
use Rattle.vax_table.proofs.Tests.{eq_of}
use Rattle.vax_paged.specs.InPage.{IsStoreInPage, all_lie_in, lies_in, stored_from}
use Rattle.vax_paged.specs.Known.{AreKnown, IsSameBut, place_known}
use Rattle.vax_paged.specs.Paged.{written_place}
use Rattle.vax_paged.specs.declared.known.Known.{Known}
use Rattle.vax_paged.proofs.InPage.{placed_frame, stored_there}
use Rattle.vax_paged.proofs.Knowing.{below_of, both_are, page_placed}
use Rattle.vax_paged.proofs.Watching.{stored_elsewhere}

-- a store that lies in a known page
pub store_in_frame : (memory : List ℕ) (w : World) (ks : List Known) (page base : ℕ) (x : Store) → AreKnown memory w ks → place_known ks Write (512 * page) ≡ Ok base → base + 512 ≤ length memory →
    lies_in page x ≡ true → IsStoreInPage memory w x (base + x.va % 512)
store_in_frame memory w ks page base x all at room t =
    let (there, more) = both_are (x.va / 512 == page) (nat_lt x.va (2 ^ 32) && nat_lt (x.va % 512 + size_of x.width) 513) t in
    let (small, whole) = both_are (nat_lt x.va (2 ^ 32)) (nat_lt (x.va % 512 + size_of x.width) 513) more in
    let low : x.va < 2 ^ 32 = below_of x.va (2 ^ 32) small in
    let fits : x.va % 512 + size_of x.width < 513 = below_of (x.va % 512 + size_of x.width) 513 whole in
    record {
      placed_at = page_placed memory (machine_tables w) (current_of w.psl.0) ks Write page base x.va all at low (eq_of (x.va / 512) page there);
      small = low;
      in_page = omega (arith, fits);
      in_memory = omega (arith, fits, room);
    }

-- and so each of stores
lies_at : (page : ℕ) (xs : List Store) (n : ℕ) (d : Store) → n < length xs → all_lie_in page xs ≡ true → lies_in page (slice_index_or xs n d) ≡ true
lies_at page [] n d h t = absurd (omega arith)
lies_at page (x ∷ xs) zero d h t = let (one, rest) = both_are (lies_in page x) (all_lie_in page xs) t in one
lies_at page (x ∷ xs) (suc n) d h t = let (one, rest) = both_are (lies_in page x) (all_lie_in page xs) t in lies_at page xs n d (omega arith) rest

pub stores_in_frame : (memory : List ℕ) (w : World) (page base : ℕ) (xs : List Store) → ((x : Store) → lies_in page x ≡ true → IsStoreInPage memory w x (base + x.va % 512)) →
    all_lie_in page xs ≡ true → All (λ x. IsStoreInPage memory w x (base + x.va % 512)) xs
stores_in_frame memory w page base xs h t = λ n d small. h (slice_index_or xs n d) (lies_at page xs n d small t)

-- one more of them is made
pub one_more : (before memory new : List ℕ) (w : World) (base i : ℕ) (xs : List Store) (d : Store) → i < length xs → IsStoreInPage before w (slice_index_or xs i d) (base + (slice_index_or xs i d).va % 512) →
    new ≡ stored_from (size_of (slice_index_or xs i d).width) (base + (slice_index_or xs i d).va % 512) (slice_index_or xs i d).value memory →
    all_stored (written_place before w) (drop i xs) memory ≡ all_stored (written_place before w) xs before → all_stored (written_place before w) (drop (i + 1) xs) new ≡ all_stored (written_place before w) xs before
one_more before memory new w base i xs d small h e all =
    let x = slice_index_or xs i d in
    let rest = drop (i + 1) xs in
    ap (λ (m : List ℕ). all_stored (written_place before w) rest m) (e ∙ sym (stored_there before w (size_of x.width) x.va (base + x.va % 512) x.value memory h.small h.in_page h.placed_at))
    ∙ sym (at_drop_more (λ (ys : List Store). all_stored (written_place before w) ys memory) xs i d small)
    ∙ all

-- in the same frame
pub one_more_elsewhere : (before memory new : List ℕ) (w : World) (x : Store) (base : ℕ) → IsStoreInPage before w x (base + x.va % 512) → new ≡ stored_from (size_of x.width) (base + x.va % 512) x.value memory →
    IsSameBut base base before memory → IsSameBut base base before new
one_more_elsewhere before memory new w x base h e same = λ at away again.
    let frame : (base + x.va % 512) % 512 ≡ x.va % 512 = placed_frame before w Write x.va (base + x.va % 512) h.placed_at in
    let here : (base + x.va % 512) / 512 ≡ base / 512 = omega (arith, frame) in
    stored_elsewhere before memory new w x (base + x.va % 512) h e at (λ s. away (s ∙ here)) (λ s. again (s ∙ here)) ∙ same at away again
