-- The law of ring compression, by computation over the sixteen codes.
use Rattle.std.specs.List.{range_with_len}
use Rattle.std.proofs.Common.{◌≡◌, ◌≢◌, ℕ, ◌<◌, true, ltb, ltb-true, map, get_or, refl, sym, ap, ◌∙◌, arith}
use Rattle.std.proofs.lemmas.List.FromFn.{get_or-map-range_with_len}
use Rattle.vax_arch.specs.declared.mode.Mode.{Mode}
use Rattle.vax_arch.specs.declared.mode.Mode.TheVariants.{Kernel, Executive, Supervisor, User}
use Rattle.vax_arch.specs.declared.mode.Intent.TheVariants.{Read, Write}
use Rattle.vax_arch.specs.Protection.{may_of}
use Rattle.vax_arch.specs.Ring.{ring_of, compressed_of, open_of, Compresses, SharesExecutive}

-- two functions that agree on the list of the numbers below n agree below n
pub by_table : {X : Type 0} (f g : ℕ → X) (n : ℕ) → map f (range_with_len 0 n) ≡ map g (range_with_len 0 n) → (k : ℕ) → k < n → f k ≡ g k
by_table f g n e k h =
    sym (get_or-map-range_with_len f 0 n k k (f k) h (omega arith)) ∙ ap (λ xs. get_or xs k (f k)) e ∙ get_or-map-range_with_len g 0 n k k (f k) h (omega arith)

pub compressed_code : (code : ℕ) → code < 16 → compressed_of code < 16
compressed_code code h = ltb-true (compressed_of code) 16 (by_table (λ c. ltb (compressed_of c) 16) (λ c. true) 16 refl code h)

pub shares_executive : SharesExecutive
shares_executive = (refl, itself)
  where
    itself : (m : Mode) → m ≢ Kernel → ring_of m ≡ m
    itself Kernel other = absurd (other refl)
    itself Executive other = refl
    itself Supervisor other = refl
    itself User other = refl

pub compresses : Compresses
compresses code h Kernel Read = by_table (λ c. may_of (compressed_of c) (ring_of Kernel) Read) (λ c. open_of c Kernel Read) 16 refl code h
compresses code h Kernel Write = by_table (λ c. may_of (compressed_of c) (ring_of Kernel) Write) (λ c. open_of c Kernel Write) 16 refl code h
compresses code h Executive Read = by_table (λ c. may_of (compressed_of c) (ring_of Executive) Read) (λ c. open_of c Executive Read) 16 refl code h
compresses code h Executive Write = by_table (λ c. may_of (compressed_of c) (ring_of Executive) Write) (λ c. open_of c Executive Write) 16 refl code h
compresses code h Supervisor Read = by_table (λ c. may_of (compressed_of c) (ring_of Supervisor) Read) (λ c. open_of c Supervisor Read) 16 refl code h
compresses code h Supervisor Write = by_table (λ c. may_of (compressed_of c) (ring_of Supervisor) Write) (λ c. open_of c Supervisor Write) 16 refl code h
compresses code h User Read = by_table (λ c. may_of (compressed_of c) (ring_of User) Read) (λ c. open_of c User Read) 16 refl code h
compresses code h User Write = by_table (λ c. may_of (compressed_of c) (ring_of User) Write) (λ c. open_of c User Write) 16 refl code h
