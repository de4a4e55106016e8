-- Bytes of one page: their places are one after the other, and one test is that of all.
use Rattle.std.proofs.Common.{◌≡◌, ℕ, zero, suc, ◌+◌, ◌-◌, ◌*◌, ◌/◌, ◌%◌, ◌^◌, ◌<◌, ◌≤◌, Bool, true, false, List, [], ◌∷◌, ◌++◌, Option, Some, None, Result, Ok, Err, refl, ap, sym, ◌∙◌, arith, slice_set}
use Rattle.std.specs.Prelude.{if◌then◌else◌, slice_index, IfSome}
use Rattle.std.proofs.lemmas.List.{append-nil}
use Rattle.vax_arch.specs.declared.mode.Intent.{Intent}
use Rattle.vax_arch.specs.declared.mode.Intent.TheVariants.{Write}
use Rattle.vax_arch.specs.declared.mode.Mode.{Mode}
use Rattle.vax_arch.specs.declared.walk.Grant.{Grant}
use Rattle.vax_arch.specs.declared.walk.Grant.TheVariants.{Absent, Granted, Past, Refused}
use Rattle.vax_arch.specs.declared.walk.Lookup.{Lookup}
use Rattle.vax_arch.specs.declared.walk.Lookup.TheVariants.{Beyond, Direct, Fails, Found}
use Rattle.vax_arch.specs.Fields.{current_of}
use Rattle.vax_arch.specs.Protection.{may_of}
use Rattle.vax_arch.specs.Walk.{granted, is_clear_at, page_of}
use Rattle.vax_hw.specs.Machine.{machine_tables}
use Rattle.vax_hw.specs.RealTables.{byte_by, everywhere, place_by, place_in, place_or_end, placed_by, real_look}
use Rattle.vax_hw.specs.declared.world.World.{World}
use Rattle.vv_base.specs.Bytes.{long_at}
use Rattle.vv_base.specs.Width.{size_of}
use Rattle.vax_table.specs.Claims.{addresses}
use Rattle.vax_table.specs.Interaction.{At, Cause, Space, Trouble, number_at, with_byte}
use Rattle.vax_table.specs.Stores.{all_stored, bytes_stored}
use Rattle.vax_table.specs.Tries.{first_clear}
use Rattle.vax_table.specs.declared.effect.Store.{Store}
use Rattle.vax_paged.specs.InPage.{IsOpenAt, IsStoreInPage, number_at_place, number_from, number_over, stored_from}
use Rattle.vax_paged.specs.Known.{known_space, place_known}
use Rattle.vax_paged.specs.Paged.{at_byte, byte_at, is_clear_for, paged, placed, written_place}
use Rattle.vax_paged.specs.declared.known.Known.{Known}
use Rattle.vax_paged.proofs.Knowing.{next_known}
use Rattle.vax_paged.proofs.Puts.{last_stored}

same_page : (va : ℕ) → va % 512 + 1 < 512 → page_of (va + 1) ≡ page_of va
same_page va h = omega arith

next_by : (va p : ℕ) (g : Grant) → va % 512 + 1 < 512 → place_by va g ≡ Ok p → place_by (va + 1) g ≡ Ok (p + 1)
next_by va p (Granted frame) h e =
    let same : 512 * frame + va % 512 ≡ p = cc in
    let one : 512 * frame + (va + 1) % 512 ≡ p + 1 = omega arith in
    ap (λ (n : ℕ). Ok n) one
next_by va p Refused h e = cc
next_by va p Absent h e = cc
next_by va p Past h e = cc

next_in : (memory : List ℕ) (va p : ℕ) (m : Mode) (i : Intent) (l : Lookup) → va % 512 + 1 < 512 → placed_by memory va m i l ≡ Ok p → placed_by memory (va + 1) m i l ≡ Ok (p + 1)
next_in memory va p m i (Found place table) h e = next_by va p (granted may_of everywhere (long_at memory place) m i) h e
next_in memory va p m i (Direct frame) h e =
    let same : va ≡ p = cc in
    ap (λ (n : ℕ). Ok (n + 1)) same
next_in memory va p m i (Fails not_valid parameter) h e = cc
next_in memory va p m i Beyond h e = cc

-- the next byte of a page has the next place
pub next_place : (memory : List ℕ) (w : World) (i : Intent) (va p : ℕ) → va % 512 + 1 < 512 → placed memory w i va ≡ Ok p → placed memory w i (va + 1) ≡ Ok (p + 1)
unfolding place_in
next_place memory w i va p h e =
    ap (λ (page : ℕ). placed_by memory (va + 1) (current_of w.psl.0) i (real_look memory (machine_tables w) page)) (same_page va h)
    ∙ next_in memory va p (current_of w.psl.0) i (real_look memory (machine_tables w) (page_of va)) h e

-- the next byte of a page has the next place, if the first has one
abbrev GoesOn : (ℕ → Result ℕ Cause) → Type 0
GoesOn places = (va p : ℕ) → va % 512 + 1 < 512 → places va ≡ Ok p → places (va + 1) ≡ Ok (p + 1)

-- one byte and the number of those after it
one_byte : (memory : List ℕ) (places : Intent → ℕ → Result ℕ Cause) (i : Intent) (k va p n : ℕ) → va < 2 ^ 32 → places i va ≡ Ok p → number_at (byte_at memory places) i k (va + 1) ≡ Ok n → number_at (byte_at memory places) i (suc k) va ≡ Ok (slice_index memory p + 256 * n)
one_byte memory places i k va p n small e rest =
    let same : va % 2 ^ 32 ≡ va = omega arith in
    ap (λ (a : ℕ). with_byte i a (byte_at memory places i a) (number_at (byte_at memory places) i k (va + 1))) same
    ∙ ap (λ (x : Result ℕ Cause). with_byte i va (byte_by memory x) (number_at (byte_at memory places) i k (va + 1))) e
    ∙ ap (λ (x : Result ℕ Trouble). with_byte i va (byte_by memory (Ok p)) x) rest

there : (memory : List ℕ) (places : Intent → ℕ → Result ℕ Cause) (i : Intent) → GoesOn (places i) → (k va p : ℕ) → va < 2 ^ 32 → va % 512 + k ≤ 512 → places i va ≡ Ok p → number_at (byte_at memory places) i k va ≡ Ok (number_from memory k p)
there memory places i next zero va p small h e = refl
there memory places i next (suc zero) va p small h e = one_byte memory places i 0 va p 0 small e refl
there memory places i next (suc (suc k)) va p small h e =
    one_byte memory places i (suc k) va p (number_from memory (suc k) (p + 1)) small e
    (there memory places i next (suc k) (va + 1) (p + 1) (omega arith) (omega arith) (next va p (omega arith) e))

troubled : (memory : List ℕ) (places : Intent → ℕ → Result ℕ Cause) (i : Intent) (k va : ℕ) (c : Cause) → va < 2 ^ 32 → 0 < k → places i va ≡ Err c → number_at (byte_at memory places) i k va ≡ Err (At c i va)
troubled memory places i zero va c small some e = absurd (omega arith)
troubled memory places i (suc k) va c small some e =
    let same : va % 2 ^ 32 ≡ va = omega arith in
    ap (λ (a : ℕ). with_byte i a (byte_at memory places i a) (number_at (byte_at memory places) i k (va + 1))) same
    ∙ ap (λ (x : Result ℕ Cause). with_byte i va (byte_by memory x) (number_at (byte_at memory places) i k (va + 1))) e

by_place : (memory : List ℕ) (places : Intent → ℕ → Result ℕ Cause) (i : Intent) → GoesOn (places i) → (k va : ℕ) (x : Result ℕ Cause) → va < 2 ^ 32 → 0 < k → va % 512 + k ≤ 512 → places i va ≡ x → number_at (byte_at memory places) i k va ≡ number_at_place memory k (at_byte i va x)
by_place memory places i next k va (Ok p) small some h e = there memory places i next k va p small h e
by_place memory places i next k va (Err c) small some h e = troubled memory places i k va c small some e

-- a number of one page is read at the place of its first byte, whose trouble is the number's
number_by : (memory : List ℕ) (places : Intent → ℕ → Result ℕ Cause) (i : Intent) → GoesOn (places i) → (k va : ℕ) (r : Result ℕ Trouble) → va < 2 ^ 32 → 0 < k → va % 512 + k ≤ 512 → r ≡ at_byte i va (places i va) → number_at_place memory k r ≡ number_at (byte_at memory places) i k va
number_by memory places i next k va r small some h e =
    ap (number_at_place memory k) e ∙ sym (by_place memory places i next k va (places i va) small some h refl)

pub number_there : (memory : List ℕ) (w : World) (i : Intent) (k va : ℕ) (r : Result ℕ Trouble) → va < 2 ^ 32 → 0 < k → va % 512 + k ≤ 512 → r ≡ at_byte i va (placed memory w i va) → number_at_place memory k r ≡ number_at (paged memory w) i k va
number_there memory w i k va r small some h e = number_by memory (placed memory w) i (next_place memory w i) k va r small some h e

-- and so is one of a known page
pub number_known : (memory : List ℕ) (ks : List Known) (i : Intent) (k va : ℕ) (r : Result ℕ Trouble) → va < 2 ^ 32 → 0 < k → va % 512 + k ≤ 512 → r ≡ at_byte i va (place_known ks i va) → number_at_place memory k r ≡ number_at (known_space memory ks) i k va
number_known memory ks i k va r small some h e = number_by memory (place_known ks) i (next_known ks i) k va r small some h e

-- a number is the same at addresses that are alike modulo 2 ^ 32
number_around : (s : Space) (i : Intent) (k a b : ℕ) → a % 2 ^ 32 ≡ b % 2 ^ 32 → number_at s i k a ≡ number_at s i k b
number_around s i zero a b e = refl
number_around s i (suc k) a b e =
    let next : (a + 1) % 2 ^ 32 ≡ (b + 1) % 2 ^ 32 = omega arith in
    ap (λ (n : ℕ). with_byte i n (s i n) (number_at s i k (a + 1))) e
    ∙ ap (with_byte i (b % 2 ^ 32) (s i (b % 2 ^ 32))) (number_around s i k (a + 1) (b + 1) next)

-- a number over a page's end: its first bytes are from the one place, and the others from that of the next page
over_end : (memory : List ℕ) (places : Intent → ℕ → Result ℕ Cause) (i : Intent) → GoesOn (places i) → (first k va low high : ℕ) → va < 2 ^ 32 → va % 512 + first ≡ 512 → first < k → k ≤ 8 → places i va ≡ Ok low → places i ((va + first) % 2 ^ 32) ≡ Ok high →
    number_at (byte_at memory places) i k va ≡ Ok (number_over memory first k low high)
over_end memory places i next first zero va low high small h some few e g = absurd (omega arith)
over_end memory places i next zero (suc k) va low high small h some few e g = absurd (omega arith)
over_end memory places i next (suc zero) (suc k) va low high small h some few e g =
    let around = number_around (byte_at memory places) i k (va + 1) ((va + 1) % 2 ^ 32) (omega arith) in
    one_byte memory places i k va low (number_from memory k high) small e (around ∙ there memory places i next k ((va + 1) % 2 ^ 32) high (omega arith) (omega arith) g)
over_end memory places i next (suc (suc first)) (suc k) va low high small h some few e g =
    let same : va + suc (suc first) ≡ va + 1 + suc first = omega arith in
    one_byte memory places i k va low (number_over memory (suc first) k (low + 1) high) small e
    (over_end memory places i next (suc first) k (va + 1) (low + 1) high (omega arith) (omega arith) (omega arith) (omega arith) (next va low (omega arith) e) (rw same at g))

pub over_end_known : (memory : List ℕ) (ks : List Known) (i : Intent) (k va low high : ℕ) → va < 2 ^ 32 → 512 < va % 512 + k → k ≤ 8 → Ok low ≡ place_known ks i va → Ok high ≡ place_known ks i ((va + (512 - va % 512)) % 2 ^ 32) →
    Ok (number_over memory (512 - va % 512) k low high) ≡ number_at (known_space memory ks) i k va
over_end_known memory ks i k va low high small over few e g =
    sym (over_end memory (place_known ks) i (next_known ks i) (512 - va % 512) k va low high small (omega arith) (omega (arith, over)) few (sym e) (sym g))

-- an address that has a place has it by the walk
pub placed_ok : (i : Intent) (va p : ℕ) (x : Result ℕ Cause) → Ok p ≡ at_byte i va x → x ≡ Ok p
placed_ok i va p (Ok q) e = let same : q ≡ p = cc in ap (λ (n : ℕ). Ok n) same
placed_ok i va p (Err c) e = cc

next_clear : (memory : List ℕ) (w : World) (va : ℕ) → va % 512 + 1 < 512 → is_clear_for memory w (va + 1) ≡ is_clear_for memory w va
next_clear memory w va h = ap (λ (page : ℕ). is_clear_at memory (real_look memory (machine_tables w) page)) (same_page va h)

chosen_false : (a : ℕ) (t : Bool) (rest : Option ℕ) → t ≡ false → (if t then Some a else rest) ≡ rest
chosen_false a true rest e = cc
chosen_false a false rest e = refl

chosen_true : (a : ℕ) (t : Bool) (rest : Option ℕ) → t ≡ true → (if t then Some a else rest) ≡ Some a
chosen_true a true rest e = refl
chosen_true a false rest e = cc

one_address : (c : ℕ → Bool) (k va : ℕ) → va < 2 ^ 32 → first_clear c (addresses (suc k) va) ≡ (if c va then Some va else first_clear c (addresses k (va + 1)))
one_address c k va small =
    let same : va % 2 ^ 32 ≡ va = omega arith in
    ap (λ (a : ℕ). if c a then Some a else first_clear c (addresses k (va + 1))) same

none_clear : (memory : List ℕ) (w : World) (k va : ℕ) → va < 2 ^ 32 → va % 512 + k ≤ 512 → is_clear_for memory w va ≡ false → first_clear (is_clear_for memory w) (addresses k va) ≡ None
none_clear memory w zero va small h e = refl
none_clear memory w (suc zero) va small h e = one_address (is_clear_for memory w) 0 va small ∙ chosen_false va (is_clear_for memory w va) None e
none_clear memory w (suc (suc k)) va small h e =
    one_address (is_clear_for memory w) (suc k) va small
    ∙ chosen_false va (is_clear_for memory w va) (first_clear (is_clear_for memory w) (addresses (suc k) (va + 1))) e
    ∙ none_clear memory w (suc k) (va + 1) (omega arith) (omega arith) (next_clear memory w va (omega arith) ∙ e)

-- bytes of one page have one modify bit
pub one_clear : (memory : List ℕ) (w : World) (k va : ℕ) → va < 2 ^ 32 → va % 512 + k ≤ 512 → is_clear_for memory w va ≡ false → None ≡ first_clear (is_clear_for memory w) (addresses k va)
one_clear memory w k va small h e = sym (none_clear memory w k va small h e)

-- nor has one store there
pub one_store_clear : (memory : List ℕ) (w : World) (k va : ℕ) → va < 2 ^ 32 → va % 512 + k ≤ 512 → is_clear_for memory w va ≡ false → first_clear (is_clear_for memory w) (addresses k va ++ []) ≡ None
one_store_clear memory w k va small h e = ap (first_clear (is_clear_for memory w)) (append-nil (addresses k va)) ∙ none_clear memory w k va small h e

pub first_of_them : (memory : List ℕ) (w : World) (k va : ℕ) → va < 2 ^ 32 → 0 < k → is_clear_for memory w va ≡ true → Some va ≡ first_clear (is_clear_for memory w) (addresses k va)
first_of_them memory w zero va small some e = absurd (omega arith)
first_of_them memory w (suc k) va small some e =
    sym (one_address (is_clear_for memory w) k va small ∙ chosen_true va (is_clear_for memory w va) (first_clear (is_clear_for memory w) (addresses k (va + 1))) e)

byte_stored : (place : ℕ → ℕ) (k va p v : ℕ) (memory : List ℕ) → va < 2 ^ 32 → place va ≡ p → bytes_stored place (suc k) va v memory ≡ bytes_stored place k (va + 1) (v / 256) (slice_set memory p (v % 256))
byte_stored place k va p v memory small e =
    let same : va % 2 ^ 32 ≡ va = omega arith in
    ap (λ (a : ℕ). bytes_stored place k (va + 1) (v / 256) (slice_set memory (place a) (v % 256))) same
    ∙ ap (λ (a : ℕ). bytes_stored place k (va + 1) (v / 256) (slice_set memory a (v % 256))) e

found_place : (before : List ℕ) (w : World) (va p : ℕ) → placed before w Write va ≡ Ok p → written_place before w va ≡ p
found_place before w va p e = ap (place_or_end before) e

-- a store of one page is made at the place of its first byte
pub stored_there : (before : List ℕ) (w : World) (k va p v : ℕ) (memory : List ℕ) → va < 2 ^ 32 → va % 512 + k ≤ 512 → placed before w Write va ≡ Ok p → bytes_stored (written_place before w) k va v memory ≡ stored_from k p v memory
stored_there before w zero va p v memory small h e = refl
stored_there before w (suc zero) va p v memory small h e = byte_stored (written_place before w) 0 va p v memory small (found_place before w va p e)
stored_there before w (suc (suc k)) va p v memory small h e =
    byte_stored (written_place before w) (suc k) va p v memory small (found_place before w va p e)
    ∙ stored_there before w (suc k) (va + 1) (p + 1) (v / 256) (slice_set memory p (v % 256)) (omega arith) (omega arith) (next_place before w Write va p (omega arith) e)

-- an address's place in its frame is that in its page
frame_by : (va p : ℕ) (g : Grant) → place_by va g ≡ Ok p → p % 512 ≡ va % 512
frame_by va p (Granted frame) e = let same : 512 * frame + va % 512 ≡ p = cc in omega (arith, same)
frame_by va p Refused e = cc
frame_by va p Absent e = cc
frame_by va p Past e = cc

frame_in : (memory : List ℕ) (va p : ℕ) (m : Mode) (i : Intent) (l : Lookup) → placed_by memory va m i l ≡ Ok p → p % 512 ≡ va % 512
frame_in memory va p m i (Found place table) e = frame_by va p (granted may_of everywhere (long_at memory place) m i) e
frame_in memory va p m i (Direct frame) e = let same : va ≡ p = cc in ap (λ (n : ℕ). n % 512) (sym same)
frame_in memory va p m i (Fails not_valid parameter) e = cc
frame_in memory va p m i Beyond e = cc

pub placed_frame : (memory : List ℕ) (w : World) (i : Intent) (va p : ℕ) → placed memory w i va ≡ Ok p → p % 512 ≡ va % 512
unfolding place_in
placed_frame memory w i va p e = frame_in memory va p (current_of w.psl.0) i (real_look memory (machine_tables w) (page_of va)) e

-- a store of one page that is made after others, by the places of before
pub stored_after : (before middle new : List ℕ) (w : World) (x : Store) (p : ℕ) (xs all : List Store) → IsStoreInPage before w x p → all ≡ xs ++ x ∷ [] →
    middle ≡ all_stored (written_place before w) xs before → new ≡ stored_from (size_of x.width) p x.value middle → new ≡ all_stored (written_place before w) all before
stored_after before middle new w x p xs all h is others e =
    e
    ∙ sym (stored_there before w (size_of x.width) x.va p x.value middle h.small h.in_page h.placed_at)
    ∙ ap (λ (m : List ℕ). all_stored (written_place before w) (x ∷ []) m) others
    ∙ sym (last_stored (written_place before w) xs x before)
    ∙ ap (λ (ys : List Store). all_stored (written_place before w) ys before) (sym is)

-- a store that lies whole in one page
pub whole_stored : (memory new : List ℕ) (w : World) (x : Store) (p : ℕ) → IsStoreInPage memory w x p → new ≡ stored_from (size_of x.width) p x.value memory → new ≡ all_stored (written_place memory w) (x ∷ []) memory
whole_stored memory new w x p h e = e ∙ sym (stored_there memory w (size_of x.width) x.va p x.value memory h.small h.in_page h.placed_at)

-- one where its bytes may be stored
pub store_opened : (memory : List ℕ) (w : World) (ks : List Known) (x : Store) (place : Option ℕ) → IfSome place (IsOpenAt memory w ks x.va x.width) → IfSome place (λ p. IsStoreInPage memory w x p)
store_opened memory w ks x None h = h
store_opened memory w ks x (Some p) h = h.whole x.value
