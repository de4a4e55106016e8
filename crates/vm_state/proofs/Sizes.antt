-- What is stored leaves the size of memory.
use Rattle.std.proofs.Common.{◌≡◌, ℕ, zero, suc, ◌+◌, ◌/◌, ◌%◌, ◌^◌, List, [], ◌∷◌, length, Option, Some, None, refl, ◌∙◌, slice_set}
use Rattle.std.proofs.lemmas.List.{length-set}
use Rattle.vv_base.specs.Bytes.{long_at}
use Rattle.vv_base.specs.Width.{size_of}
use Rattle.vax_arch.specs.Walk.{with_modify}
use Rattle.vax_arch.specs.declared.walk.Lookup.{Lookup}
use Rattle.vax_arch.specs.declared.walk.Lookup.TheVariants.{Beyond, Direct, Fails, Found}
use Rattle.vax_table.specs.Stores.{all_stored, bytes_stored}
use Rattle.vax_table.specs.declared.effect.Store.{Store}
use Rattle.vm_state.specs.Contexts.{longs_stored}
use Rattle.vm_state.specs.Pushes.{Home, all_marked, all_put, marked_at, pushed}
use Rattle.vm_state.specs.Translation.{long_stored, marked, marked_by}

pub bytes_size : (place : ℕ → ℕ) (k a v : ℕ) (memory : List ℕ) → length (bytes_stored place k a v memory) ≡ length memory
bytes_size place zero a v memory = refl
bytes_size place (suc k) a v memory = bytes_size place k (a + 1) (v / 256) (slice_set memory (place (a % 2 ^ 32)) (v % 256)) ∙ length-set memory (place (a % 2 ^ 32)) (v % 256)

pub stores_size : (place : ℕ → ℕ) (xs : List Store) (memory : List ℕ) → length (all_stored place xs memory) ≡ length memory
stores_size place [] memory = refl
stores_size place (x ∷ xs) memory = stores_size place xs (bytes_stored place (size_of x.width) x.va x.value memory) ∙ bytes_size place (size_of x.width) x.va x.value memory

pub long_size : (at v : ℕ) (memory : List ℕ) → length (long_stored at v memory) ≡ length memory
long_size at v memory = bytes_size (λ p. p) 4 at v memory

pub marked_size : (place : ℕ) (memory : List ℕ) → length (marked place memory) ≡ length memory
marked_size place memory = long_size place (with_modify (long_at memory place)) memory

pub marked_by_size : (x : Lookup) (memory : List ℕ) → length (marked_by x memory) ≡ length memory
marked_by_size (Found place table) memory = marked_size place memory
marked_by_size (Direct frame) memory = refl
marked_by_size (Fails not_valid parameter) memory = refl
marked_by_size Beyond memory = refl

marked_at_size : (entry : Option ℕ) (memory : List ℕ) → length (marked_at entry memory) ≡ length memory
marked_at_size None memory = refl
marked_at_size (Some place) memory = marked_size place memory

all_marked_size : (hs : List Home) (memory : List ℕ) → length (all_marked hs memory) ≡ length memory
all_marked_size [] memory = refl
all_marked_size (h ∷ hs) memory = all_marked_size hs (marked_at h.entry memory) ∙ marked_at_size h.entry memory

all_put_size : (hs : List Home) (memory : List ℕ) → length (all_put hs memory) ≡ length memory
all_put_size [] memory = refl
all_put_size (h ∷ hs) memory = all_put_size hs (slice_set memory h.place h.value) ∙ length-set memory h.place h.value

pub pushed_size : (hs : List Home) (memory : List ℕ) → length (pushed hs memory) ≡ length memory
unfolding pushed
pushed_size hs memory = all_put_size hs (all_marked hs memory) ∙ all_marked_size hs memory

pub longs_size : (at : ℕ) (vs memory : List ℕ) → length (longs_stored at vs memory) ≡ length memory
longs_size at [] memory = refl
longs_size at (v ∷ vs) memory = longs_size (at + 4) vs (long_stored at v memory) ∙ long_size at v memory
