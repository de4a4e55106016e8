-- MFPR's parts: the places of its destination's bytes, and the read of its register.
use Rattle.std.proofs.Common.{◌≡◌, ℕ, zero, suc, ◌+◌, ◌*◌, ◌%◌, ◌/◌, ◌^◌, ◌<◌, Bool, List, [], ◌∷◌, ◌++◌, length, map, drop, Option, Result, Ok, Err, refl, ap, ◌∙◌, sym, subst, arith}
use Rattle.std.specs.Prelude.{All, slice_index}
use Rattle.std.proofs.lemmas.List.Elements.{All-cons}
use Rattle.vax_arch.specs.WalkLaws.{AreAligned}
use Rattle.vax_arch.specs.declared.mode.Intent.TheVariants.{Write}
use Rattle.vax_table.specs.Claims.{addresses}
use Rattle.vax_table.specs.Interaction.{At, cause_of, number_at, with_byte}
use Rattle.vax_table.specs.Stores.{bytes_stored}
use Rattle.vax_table.specs.Tries.{first_clear}
use Rattle.vax_table.specs.declared.act.Trapped.{Trapped}
use Rattle.vm_emulate.specs.Fetched.{ArePlaces, IsPlace, MovesFromRegister, bytes_placed}
use Rattle.vm_emulate.specs.declared.reading.Unread.{Unread}
use Rattle.vm_emulate.specs.declared.reading.Unread.TheVariants as reasons
use Rattle.vm_exception.specs.Wrote.{AreHomes, frames_of}
use Rattle.vm_exception.proofs.Homes.{FindsInside, finds_inside}
use Rattle.vm_ipr.specs.Outcomes.{ReadsRegister}
use Rattle.vm_state.specs.Pushes.{all_put}
use Rattle.vm_state.specs.Registers.{read}
use Rattle.vm_state.specs.Sensed.{fault_of}
use Rattle.vm_state.specs.Sensitive.{frames_of_bytes, with_codes}
use Rattle.vm_state.specs.State.{Guest, mode_of_state, state_of}
use Rattle.vm_state.specs.Translation.{frame_at, guest_write_place, space_of, walk_of, walked_byte, walked_place}
use Rattle.vm_state.specs.declared.guest_state.GuestState.{GuestState}
use Rattle.vm_state.specs.declared.register.ReservedOperand.{ReservedOperand}
use Rattle.vm_state.specs.declared.walk.MemFault.{MemFault}
use Rattle.vm_state.specs.declared.walk.Walk.TheVariants as walks

-- what a walk finds
pub found_place : (g : Guest) (va pa : ℕ) (entry table : Option ℕ) → AreAligned g.state.tables → walks.Frame pa entry table ≡ walk_of g va (mode_of_state g.state) Write → IsPlace g va (Ok pa)
found_place g va pa entry table a e =
    ((slice_index g.memory pa, ap (walked_byte g.memory) (sym e)), ap (walked_place g.memory) e, (subst (FindsInside (length g.memory)) (sym e) (finds_inside g va (mode_of_state g.state) Write a)).0)

pub faulty_place : (g : Guest) (va : ℕ) (f : MemFault) → walks.Fault f ≡ walk_of g va (mode_of_state g.state) Write → IsPlace g va (Err (reasons.Faulty f))
faulty_place g va f e = ((cause_of f.not_valid, ap (walked_byte g.memory) (sym e)), ap fault_of (sym e))

-- the places of no bytes, and of one byte before others
pub places_none : (g : Guest) (at : ℕ) → ArePlaces g 0 at (Ok [])
places_none g at = ((0, refl), refl, λ k d l. absurd (omega arith))

pub places_more : (g : Guest) (k at p : ℕ) (ps : List ℕ) → IsPlace g (at % 2 ^ 32) (Ok p) → ArePlaces g k (at + 1) (Ok ps) → ArePlaces g (suc k) at (Ok (p ∷ ps))
places_more g k at p ps one rest =
    ((one.0.0 + 256 * rest.0.0, λ i. with_byte Write (at % 2 ^ 32) (one.0.1 i) (rest.0.1 i)), (λ i. one.1 i ∷ rest.1 i), All-cons (λ x. x < length g.memory) p ps one.2 rest.2)

pub places_after : (g : Guest) (k at p : ℕ) (u : Unread) → IsPlace g (at % 2 ^ 32) (Ok p) → ArePlaces g k (at + 1) (Err u) → ArePlaces g (suc k) at (Err u)
places_after g k at p u one rest = (rest.0, (λ i. with_byte Write (at % 2 ^ 32) (one.0.1 i) (rest.1 i)), rest.2)

pub no_place : (g : Guest) (k at : ℕ) (u : Unread) → IsPlace g (at % 2 ^ 32) (Err u) → ArePlaces g (suc k) at (Err u)
no_place g k at u one = (At one.0.0 Write (at % 2 ^ 32), ap (λ r. with_byte Write (at % 2 ^ 32) r (number_at (space_of g) Write k (at + 1))) one.0.1, one.1)

-- the first of the four bytes of a longword that has trouble
module _ (g : Guest) (at : ℕ) (small : at < 2 ^ 32) where
  pub fails_first : (u : Unread) → IsPlace g at (Err u) → ArePlaces g 4 at (Err u)
  fails_first u h = no_place g 3 at u (subst (λ x. IsPlace g x (Err u)) (omega arith) h)

  after_first : (a : ℕ) (u : Unread) → IsPlace g at (Ok a) → ArePlaces g 3 (at + 1) (Err u) → ArePlaces g 4 at (Err u)
  after_first a u h rest = places_after g 3 at a u (subst (λ x. IsPlace g x (Ok a)) (omega arith) h) rest

  pub fails_second : (a : ℕ) (u : Unread) → IsPlace g at (Ok a) → IsPlace g ((at + 1) % 2 ^ 32) (Err u) → ArePlaces g 4 at (Err u)
  fails_second a u h k = after_first a u h (no_place g 2 (at + 1) u k)

  pub fails_third : (a b : ℕ) (u : Unread) → IsPlace g at (Ok a) → IsPlace g ((at + 1) % 2 ^ 32) (Ok b) → IsPlace g ((at + 2) % 2 ^ 32) (Err u) → ArePlaces g 4 at (Err u)
  fails_third a b u h k l = after_first a u h (places_after g 2 (at + 1) b u k (no_place g 1 (at + 1 + 1) u (subst (λ x. IsPlace g x (Err u)) (omega arith) l)))

  pub fails_fourth : (a b d : ℕ) (u : Unread) → IsPlace g at (Ok a) → IsPlace g ((at + 1) % 2 ^ 32) (Ok b) → IsPlace g ((at + 2) % 2 ^ 32) (Ok d) → IsPlace g ((at + 3) % 2 ^ 32) (Err u) → ArePlaces g 4 at (Err u)
  fails_fourth a b d u h k l n =
      after_first a u h (places_after g 2 (at + 1) b u k (places_after g 1 (at + 1 + 1) d u (subst (λ x. IsPlace g x (Ok d)) (omega arith) l) (no_place g 0 (at + 1 + 1 + 1) u (subst (λ x. IsPlace g x (Err u)) (omega arith) n))))

  pub all_four : (a b d e : ℕ) → IsPlace g at (Ok a) → IsPlace g ((at + 1) % 2 ^ 32) (Ok b) → IsPlace g ((at + 2) % 2 ^ 32) (Ok d) → IsPlace g ((at + 3) % 2 ^ 32) (Ok e) → ArePlaces g 4 at (Ok (a ∷ b ∷ d ∷ e ∷ []))
  all_four a b d e h k l n =
      places_more g 3 at a (b ∷ d ∷ e ∷ []) (subst (λ x. IsPlace g x (Ok a)) (omega arith) h)
      (places_more g 2 (at + 1) b (d ∷ e ∷ []) k
      (places_more g 1 (at + 1 + 1) d (e ∷ []) (subst (λ x. IsPlace g x (Ok d)) (omega arith) l)
      (places_more g 0 (at + 1 + 1 + 1) e [] (subst (λ x. IsPlace g x (Ok e)) (omega arith) n) (places_none g (at + 1 + 1 + 1 + 1)))))

-- the first clear bit among the addresses from one on
pub record Searching (is_clear : ℕ → Bool) (vas : List ℕ) (n : ℕ) : Type 0 where
  pub is : first_clear is_clear vas ≡ first_clear is_clear (drop n vas)

-- the bytes at their places
pub bytes_inside : (size v : ℕ) (places : List ℕ) → All (λ pa. pa < size) places → AreHomes size (bytes_placed places v)
bytes_inside size v [] h = tt
bytes_inside size v (pa ∷ places) h = ((h 0 pa (omega arith), tt), bytes_inside size (v / 256) places (λ k d l. h (suc k) d (omega arith)))

pub bytes_put : (place : ℕ → ℕ) (k at v : ℕ) (memory : List ℕ) → all_put (bytes_placed (map place (addresses k at)) v) memory ≡ bytes_stored place k at v memory
bytes_put place zero at v memory = refl
bytes_put place (suc k) at v memory = bytes_put place k (at + 1) (v / 256) _

pub frames_put : (g : Guest) (vas : List ℕ) (v : ℕ) → frames_of (bytes_placed (map (guest_write_place g) vas) v) ≡ frames_of_bytes g vas
frames_put g [] v = refl
frames_put g (va ∷ vas) v = ap (λ fs. frame_at (guest_write_place g va) ∷ fs) (frames_put g vas (v / 256))

-- the read of a register
pub is_fetched : (g g2 g3 : GuestState) (t : Trapped) (r : List ℕ) (x : Result ℕ ReservedOperand) (v : ℕ) → r ≡ t.regs ++ t.next_pc ∷ [] → x ≡ Ok v → ReadsRegister (record g { r = r }) g2 t.a x → state_of g3 ≡ with_codes v (state_of g2) → MovesFromRegister g t (Ok v) g3
is_fetched g g2 g3 t r x v is e w codes =
    (state_of g2, ap (λ (y : List ℕ). read (512 * g.pages) (record (state_of g) { r = y }) t.a) (sym is) ∙ subst (ReadsRegister (record g { r = r }) g2 t.a) e w, codes)
