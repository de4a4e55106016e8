-- The page of the last instruction.
use Rattle.std.proofs.Common.{◌≡◌, ℕ, ◌+◌, ◌*◌, ◌/◌, ◌%◌, ◌^◌, List, Ok, ap, sym, ◌∙◌, subst, arith}
use Rattle.vax_arch.specs.Fields.{current_of, mode_of}
use Rattle.vax_arch.specs.Walk.{Tables, page_of}
use Rattle.vax_arch.specs.declared.mode.Intent.TheVariants.{Read}
use Rattle.vax_arch.specs.declared.mode.Mode.{Mode}
use Rattle.vax_hw.specs.RealTables.{place_in}
use Rattle.vax_paged.specs.Known.{Agrees, AreAllKnown, AreKnownIn, IsHere, place_known}
use Rattle.vax_paged.specs.declared.known.Known.{Known}
use Rattle.vax_paged.specs.declared.modes.Here.{Here}
use Rattle.vax_paged.specs.declared.modes.KnownPages.{KnownPages}
use Rattle.vax_paged.proofs.Knowing.{page_placed}

-- no page is it
pub nowhere_is : (memory : List ℕ) (t : Tables) (h : Here) → h.start ≡ 0 → h.high ≡ 256 → IsHere memory t h
nowhere_is memory t h at e = (omega (arith, at), λ psl va low small start high. absurd (omega (arith, e, low)))

-- a known page is it
pub known_is : (memory : List ℕ) (t : Tables) (m : Mode) (ks : List Known) (psl va : ℕ) (h : Here) → AreKnownIn memory t m ks → m ≡ current_of psl → place_known ks Read (512 * (va / 512)) ≡ Ok h.first → h.start ≡ 512 * page_of va → h.high ≡ psl / 2 ^ 24 →
    IsHere memory t h
known_is memory t m ks psl va h all mode at here bits = (
  omega (arith, here),
  λ other b low small start high.
      let number : psl / 2 ^ 24 ≡ other / 2 ^ 24 = sym bits ∙ high in
      let same : m ≡ current_of other = mode ∙ ap mode_of number in
      let there : b / 512 ≡ va / 512 = omega (arith, here, start) in
      subst (λ (x : Mode). place_in memory t x Read b ≡ Ok (h.first + b % 512)) same (page_placed memory t m ks Read (va / 512) h.first b all at small there),
)

-- what is known in a memory is known in one that agrees with it
pub known_where_agrees : (memory other : List ℕ) (t : Tables) (p : KnownPages) → AreAllKnown memory t p → Agrees p memory other → AreAllKnown other t p
known_where_agrees memory other t p all agrees = λ third more. all third (λ at holds. more at holds ∙ agrees at holds)
