-- Bytes over a page's end: those before it, and those after it.
use Rattle.std.proofs.Common.{◌≡◌, ℕ, zero, suc, ◌+◌, ◌-◌, ◌/◌, ◌%◌, ◌^◌, ◌<◌, ◌≤◌, false, List, [], ◌∷◌, ◌++◌, slice_set, Option, None, refl, ap, sym, ◌∙◌, arith}
use Rattle.vv_base.specs.Width.{size_of}
use Rattle.vax_hw.specs.declared.world.World.{World}
use Rattle.vax_table.specs.Claims.{addresses}
use Rattle.vax_table.specs.Stores.{all_stored, bytes_stored}
use Rattle.vax_table.specs.Tries.{first_clear}
use Rattle.vax_table.specs.declared.effect.Store.{Store}
use Rattle.vax_table.proofs.Bytes.{size_most}
use Rattle.vax_paged.specs.InPage.{IsStoreOverEnd, above_bytes, stored_from}
use Rattle.vax_paged.specs.Known.{IsSameBut}
use Rattle.vax_paged.specs.Paged.{is_clear_for, written_place}
use Rattle.vax_paged.proofs.InPage.{one_clear, stored_there}
use Rattle.vax_paged.proofs.Puts.{clear_both, or_else, same_addresses}
use Rattle.vax_paged.proofs.Watching.{parts_elsewhere}

addresses_both : (a b va : ℕ) → addresses (a + b) va ≡ addresses a va ++ addresses b (va + a)
addresses_both zero b va =
    let left : zero + b ≡ b = omega arith in
    let right : va + zero ≡ va = omega arith in
    ap (λ (n : ℕ). addresses n va) left ∙ ap (addresses b) (sym right)
addresses_both (suc a) b va =
    let left : suc a + b ≡ suc (a + b) = omega arith in
    let right : va + suc a ≡ va + 1 + a = omega arith in
    ap (λ (n : ℕ). addresses n va) left
    ∙ ap (λ (xs : List ℕ). va % 2 ^ 32 ∷ xs) (addresses_both a b (va + 1))
    ∙ ap (λ (n : ℕ). addresses (suc a) va ++ addresses b n) (sym right)

-- the two parts of some bytes over a page's end
record Parts (va next a b size : ℕ) : Type 0 where
  whole : size ≡ a + b
  low_fits : va % 512 + a ≤ 512
  high_fits : next % 512 + b ≤ 512
  below : next < 2 ^ 32
  wrap : (va + a) % 2 ^ 32 ≡ next % 2 ^ 32

parts : (va size : ℕ) → va < 2 ^ 32 → 512 < va % 512 + size → size ≤ 8 → Parts va ((va + (512 - va % 512)) % 2 ^ 32) (512 - va % 512) (size - (512 - va % 512)) size
parts va size small over few = record { whole = omega (arith, over); low_fits = omega arith; high_fits = omega (arith, over, few); below = omega arith; wrap = omega arith }

-- no modify bit is clear, by those of two pages
neither_clear : (memory : List ℕ) (w : World) (k a b va next : ℕ) → k ≡ a + b → va < 2 ^ 32 → va % 512 + a ≤ 512 → next ≡ (va + a) % 2 ^ 32 → next % 512 + b ≤ 512 →
    is_clear_for memory w va ≡ false → is_clear_for memory w next ≡ false → first_clear (is_clear_for memory w) (addresses k va) ≡ None
neither_clear memory w k a b va next whole small low_fits is high_fits low high =
    let below : next < 2 ^ 32 = omega (arith, is) in
    let wrap : (va + a) % 2 ^ 32 ≡ next % 2 ^ 32 = omega (arith, is) in
    let one : first_clear (is_clear_for memory w) (addresses a va) ≡ None = sym (one_clear memory w a va small low_fits low) in
    let two : first_clear (is_clear_for memory w) (addresses b (va + a)) ≡ None =
    ap (first_clear (is_clear_for memory w)) (same_addresses b (va + a) next wrap) ∙ sym (one_clear memory w b next below high_fits high)
    in
    ap (λ (n : ℕ). first_clear (is_clear_for memory w) (addresses n va)) whole
    ∙ ap (first_clear (is_clear_for memory w)) (addresses_both a b va)
    ∙ clear_both (is_clear_for memory w) (addresses a va) (addresses b (va + a))
    ∙ ap (λ (x : Option ℕ). or_else x (first_clear (is_clear_for memory w) (addresses b (va + a)))) one
    ∙ two

pub over_end_clear : (memory : List ℕ) (w : World) (k va : ℕ) → va < 2 ^ 32 → 512 < va % 512 + k → k ≤ 8 → is_clear_for memory w va ≡ false → is_clear_for memory w ((va + (512 - va % 512)) % 2 ^ 32) ≡ false → first_clear (is_clear_for memory w) (addresses k va) ≡ None
over_end_clear memory w k va small over few low high =
    let p = parts va k small over few in
    neither_clear memory w k (512 - va % 512) (k - (512 - va % 512)) va ((va + (512 - va % 512)) % 2 ^ 32) p.whole small p.low_fits refl p.high_fits low high

both_stored : (place : ℕ → ℕ) (a b va v : ℕ) (memory : List ℕ) → bytes_stored place (a + b) va v memory ≡ bytes_stored place b (va + a) (above_bytes a v) (bytes_stored place a va v memory)
both_stored place zero b va v memory =
    let left : zero + b ≡ b = omega arith in
    let right : va + zero ≡ va = omega arith in
    ap (λ (n : ℕ). bytes_stored place n va v memory) left ∙ ap (λ (n : ℕ). bytes_stored place b n v memory) (sym right)
both_stored place (suc a) b va v memory =
    let left : suc a + b ≡ suc (a + b) = omega arith in
    let right : va + suc a ≡ va + 1 + a = omega arith in
    ap (λ (n : ℕ). bytes_stored place n va v memory) left
    ∙ both_stored place a b (va + 1) (v / 256) (slice_set memory (place (va % 2 ^ 32)) (v % 256))
    ∙ ap (λ (n : ℕ). bytes_stored place b n (above_bytes (suc a) v) (bytes_stored place (suc a) va v memory)) (sym right)

same_stored : (place : ℕ → ℕ) (k a b v : ℕ) (memory : List ℕ) → a % 2 ^ 32 ≡ b % 2 ^ 32 → bytes_stored place k a v memory ≡ bytes_stored place k b v memory
same_stored place zero a b v memory e = refl
same_stored place (suc k) a b v memory e =
    let next : (a + 1) % 2 ^ 32 ≡ (b + 1) % 2 ^ 32 = omega arith in
    ap (λ (n : ℕ). bytes_stored place k (a + 1) (v / 256) (slice_set memory (place n) (v % 256))) e
    ∙ same_stored place k (a + 1) (b + 1) (v / 256) (slice_set memory (place (b % 2 ^ 32)) (v % 256)) next

pub over_end_stored : (memory middle new : List ℕ) (w : World) (x : Store) (low high : ℕ) → IsStoreOverEnd memory w x low high → middle ≡ stored_from (512 - x.va % 512) low x.value memory →
    new ≡ stored_from (size_of x.width - (512 - x.va % 512)) high (above_bytes (512 - x.va % 512) x.value) middle → new ≡ all_stored (written_place memory w) (x ∷ []) memory
over_end_stored memory middle new w x low high h one two =
    let a = 512 - x.va % 512 in
    let b = size_of x.width - a in
    let next = (x.va + a) % 2 ^ 32 in
    let rest = above_bytes a x.value in
    let place = written_place memory w in
    let p = parts x.va (size_of x.width) h.small h.over_end (size_most x.width) in
    two
    ∙ ap (stored_from b high rest) (one ∙ sym (stored_there memory w a x.va low x.value memory h.small p.low_fits h.placed_at))
    ∙ sym (stored_there memory w b next high rest (bytes_stored place a x.va x.value memory) p.below p.high_fits h.next_at)
    ∙ sym (same_stored place b (x.va + a) next rest (bytes_stored place a x.va x.value memory) p.wrap)
    ∙ sym (both_stored place a b x.va x.value memory)
    ∙ ap (λ (n : ℕ). bytes_stored place n x.va x.value memory) (sym p.whole)

pub over_end_elsewhere : (memory middle new : List ℕ) (w : World) (x : Store) (low high : ℕ) → IsStoreOverEnd memory w x low high → middle ≡ stored_from (512 - x.va % 512) low x.value memory →
    new ≡ stored_from (size_of x.width - (512 - x.va % 512)) high (above_bytes (512 - x.va % 512) x.value) middle → IsSameBut low high memory new
over_end_elsewhere memory middle new w x low high h one two =
    let a = 512 - x.va % 512 in
    let p = parts x.va (size_of x.width) h.small h.over_end (size_most x.width) in
    parts_elsewhere memory middle new w x.va ((x.va + a) % 2 ^ 32) low high a (size_of x.width - a) x.value (above_bytes a x.value) h.placed_at h.next_at p.low_fits p.high_fits one two
