-- A page that is known gives an address the place that the tables give it.
use Rattle.std.proofs.Common.{◌≡◌, ℕ, ◌+◌, ◌*◌, ◌/◌, ◌%◌, ◌^◌, ◌<◌, Bool, true, false, List, Option, Some, None, Result, Ok, Err, refl, ap, sym, ◌∙◌, subst, arith}
use Rattle.std.specs.Prelude.{if◌then◌else◌, ◌==◌, ◌&&◌, not, nat_lt}
use Rattle.std.specs.List.{slice_get}
use Rattle.std.proofs.lemmas.Bool.Decides.{nat_tests}
use Rattle.std.proofs.lemmas.Option.{get_or_from_slice_get, slice_get_within}
use Rattle.vv_base.specs.Bytes.{long_at}
use Rattle.vax_arch.specs.Fields.{current_of, frame_of, is_modified}
use Rattle.vax_arch.specs.Protection.{may_of}
use Rattle.vax_arch.specs.Walk.{Tables, granted, is_clear_at, page_of}
use Rattle.vax_arch.specs.WalkLaws.{table_place}
use Rattle.vax_arch.specs.declared.mode.Intent.{Intent}
use Rattle.vax_arch.specs.declared.mode.Intent.TheVariants.{Read, Write}
use Rattle.vax_arch.specs.declared.mode.Mode.{Mode}
use Rattle.vax_arch.specs.declared.walk.Lookup.{Lookup}
use Rattle.vax_arch.specs.declared.walk.Lookup.TheVariants.{Beyond, Direct, Fails, Found}
use Rattle.vax_arch.proofs.Walks.{looks_at_one}
use Rattle.vax_hw.specs.Machine.{machine_tables}
use Rattle.vax_hw.specs.RealTables.{byte_by, everywhere, place_by, place_in, placed_by, real_look}
use Rattle.vax_hw.specs.declared.world.World.{World}
use Rattle.vax_table.specs.Interaction.{Below, Cause}
use Rattle.vax_table.specs.Interaction as interaction
use Rattle.vax_table.proofs.Tests.{eq_of}
use Rattle.vax_paged.specs.Known.{AreKnown, AreKnownIn, IsKnownIn, known_space, page_for, place_in_known, place_known}
use Rattle.vax_paged.specs.Paged.{is_clear_for, look_of, paged, placed}
use Rattle.vax_paged.specs.declared.entries.Look.TheVariants as looks
use Rattle.vax_paged.specs.declared.known.Known.{Known}

-- What is looked up is known.

found_in : (place : ℕ) (l : Lookup) → looks.Found place ≡ look_of l → (table : Option ℕ) × (l ≡ Found place table)
found_in place (Found p table) e = let same : p ≡ place = cc in (table, ap (λ (n : ℕ). Found n table) same)
found_in place (Direct frame) e = cc
found_in place (Fails true parameter) e = cc
found_in place (Fails false parameter) e = cc
found_in place Beyond e = cc

looked_again : (memory other : List ℕ) (w : World) (page place : ℕ) → looks.Found place ≡ look_of (real_look memory (machine_tables w) page) →
    long_at other (table_place (machine_tables w) page) ≡ long_at memory (table_place (machine_tables w) page) → (table : Option ℕ) × (real_look other (machine_tables w) page ≡ Found place table)
unfolding real_look
looked_again memory other w page place found same =
    let (table, is) = found_in place (real_look memory (machine_tables w) page) found in
    (table, looks_at_one everywhere memory other (machine_tables w) page same ∙ is)

-- a page that is open
opened : (t : Bool) (page p : ℕ) → p < 2 ^ 23 → (if t then page else 4294967295) ≡ p → (t ≡ true) × (page ≡ p)
opened true page p h e = (refl, e)
opened false page p h e = absurd (omega (arith, e))

-- an entry that opens its page so
abbrev Opens : (entry : ℕ) → Mode → Intent → Type 0
Opens entry m i = (va : ℕ) → place_by va (granted may_of everywhere entry m i) ≡ Ok (512 * frame_of entry + va % 512)

-- its pages for reading and for writing, and what its modify bit says
record Entry (entry : ℕ) (m : Mode) (r x : Bool) : Type 0 where
  reads : r ≡ true → Opens entry m Read
  writes : x ≡ true → Opens entry m Write
  modified : x ≡ true → is_modified entry ≡ true

-- what was found of a page
record Looked (memory other : List ℕ) (w : World) (page table place entry : ℕ) : Type 0 where
  found : looks.Found place ≡ look_of (real_look memory (machine_tables w) page)
  at : table ≡ table_place (machine_tables w) page
  is : entry ≡ long_at memory place
  same_table : long_at other table ≡ long_at memory table
  same_entry : long_at other place ≡ long_at memory place

found_again : (memory other : List ℕ) (w : World) (page table place entry : ℕ) → Looked memory other w page table place entry → (x : Option ℕ) × (real_look other (machine_tables w) page ≡ Found place x)
found_again memory other w page table place entry l =
    looked_again memory other w page place l.found (ap (long_at other) (sym l.at) ∙ l.same_table ∙ ap (long_at memory) l.at)

entry_again : (memory other : List ℕ) (w : World) (page table place entry : ℕ) → Looked memory other w page table place entry → long_at other place ≡ entry
entry_again memory other w page table place entry l = l.same_entry ∙ sym l.is

placed_again : (memory other : List ℕ) (w : World) (page table place entry va : ℕ) (m : Mode) (i : Intent) → Looked memory other w page table place entry → page ≡ page_of va → Opens entry m i → place_in other (machine_tables w) m i va ≡ Ok (512 * frame_of entry + va % 512)
unfolding place_in
placed_again memory other w page table place entry va m i l here opens =
    let (x, is) = found_again memory other w page table place entry l in
    ap (λ (n : ℕ). placed_by other va m i (real_look other (machine_tables w) n)) (sym here)
    ∙ ap (placed_by other va m i) is
    ∙ ap (λ (n : ℕ). place_by va (granted may_of everywhere n m i)) (entry_again memory other w page table place entry l)
    ∙ opens va

placed_open : (memory other : List ℕ) (w : World) (page table place entry va : ℕ) (m : Mode) (i : Intent) (t : Bool) → Looked memory other w page table place entry → va < 2 ^ 32 → (t ≡ true → Opens entry m i) → (if t then page else 4294967295) ≡ page_of va → place_in other (machine_tables w) m i va ≡ Ok (512 * frame_of entry + va % 512)
placed_open memory other w page table place entry va m i t l small opens e =
    let (holds, here) = opened t page (page_of va) (omega arith) e in
    placed_again memory other w page table place entry va m i l here (opens holds)

clear_open : (memory other : List ℕ) (w : World) (page table place entry va : ℕ) (t : Bool) → Looked memory other w page table place entry → va < 2 ^ 32 → (t ≡ true → is_modified entry ≡ true) → (if t then page else 4294967295) ≡ page_of va → is_clear_for other w va ≡ false
clear_open memory other w page table place entry va t l small modified e =
    let (holds, here) = opened t page (page_of va) (omega arith) e in
    let (x, is) = found_again memory other w page table place entry l in
    ap (λ (n : ℕ). is_clear_at other (real_look other (machine_tables w) n)) (sym here)
    ∙ ap (is_clear_at other) is
    ∙ ap (λ (n : ℕ). not (is_modified n)) (entry_again memory other w page table place entry l)
    ∙ ap not (modified holds)

placed_as : (memory other : List ℕ) (w : World) (page table place entry : ℕ) (m : Mode) (r x : Bool) → Looked memory other w page table place entry → Entry entry m r x →
    (i : Intent) (va : ℕ) → va < 2 ^ 32 → page_for i (record { read_page = if r then page else 4294967295; write_page = if x then page else 4294967295; base = 512 * frame_of entry }) ≡ page_of va → place_in other (machine_tables w) m i va ≡ Ok (512 * frame_of entry + va % 512)
placed_as memory other w page table place entry m r x l e Read va small here = placed_open memory other w page table place entry va m Read r l small e.reads here
placed_as memory other w page table place entry m r x l e Write va small here = placed_open memory other w page table place entry va m Write x l small e.writes here

known_as : (memory other : List ℕ) (w : World) (page table place entry : ℕ) (m : Mode) (r x : Bool) → Looked memory other w page table place entry → Entry entry m r x →
    IsKnownIn other (machine_tables w) m (record { read_page = if r then page else 4294967295; write_page = if x then page else 4294967295; base = 512 * frame_of entry })
known_as memory other w page table place entry m r x l e = record {
  placed = λ i va small here. placed_as memory other w page table place entry m r x l e i va small here;
  modified = λ va small here. clear_open memory other w page table place entry va x l small e.modified here;
}

pub known_by : (memory : List ℕ) (w : World) (page table place entry read_page write_page base : ℕ) (m : Mode) (r x : Bool) →
    looks.Found place ≡ look_of (real_look memory (machine_tables w) page) → table ≡ table_place (machine_tables w) page → entry ≡ long_at memory place → m ≡ current_of w.psl.0 →
    (r ≡ true → Opens entry m Read) → (x ≡ true → Opens entry m Write) → (x ≡ true → is_modified entry ≡ true) →
    read_page ≡ (if r then page else 4294967295) → write_page ≡ (if x then page else 4294967295) → base ≡ 512 * frame_of entry →
    (other : List ℕ) → long_at other table ≡ long_at memory table → long_at other place ≡ long_at memory place →
    IsKnownIn other (machine_tables w) (current_of w.psl.0) (record { read_page = read_page; write_page = write_page; base = base })
known_by memory w page table place entry read_page write_page base m r x found at is mode reads writes modified read_is write_is base_is other same_table same_entry =
    let l : Looked memory other w page table place entry = record { found = found; at = at; is = is; same_table = same_table; same_entry = same_entry } in
    let e : Entry entry m r x = record { reads = reads; writes = writes; modified = modified } in
    rw (read_is, write_is, base_is, ← mode) (known_as memory other w page table place entry m r x l e)

-- What is known gives a place.

pub both_are : (a b : Bool) → (a && b) ≡ true → (a ≡ true) × (b ≡ true)
both_are true b h = (refl, h)
both_are false b h = cc

chosen : (t : Bool) (a p : ℕ) (c : Cause) → (let y : Result ℕ Cause = if t then Ok a else Err c in y ≡ Ok p) → (t ≡ true) × (a ≡ p)
chosen true a p c h = let same : a ≡ p = cc in (refl, same)
chosen false a p c h = cc

pub below_of : (a b : ℕ) → nat_lt a b ≡ true → a < b
below_of a b h = grind (arith, nat_tests)

-- a known page by which an address has a place
record Gives (memory : List ℕ) (t : Tables) (m : Mode) (i : Intent) (va p : ℕ) (k : Known) : Type 0 where
  known : IsKnownIn memory t m k
  page : page_for i k ≡ page_of va
  small : va < 2 ^ 32
  place : k.base + va % 512 ≡ p

given_in : (memory : List ℕ) (t : Tables) (m : Mode) (i : Intent) (va p : ℕ) (o : Option Known) → ((k : Known) → o ≡ Some k → IsKnownIn memory t m k) → place_in_known i va o ≡ Ok p → (k : Known) × Gives memory t m i va p k
given_in memory t m i va p None all h = cc
given_in memory t m i va p (Some k) all h =
    let (holds, place) = chosen ((page_for i k == page_of va) && nat_lt va (2 ^ 32)) (k.base + va % 512) p interaction.Absent h in
    let (page, small) = both_are (page_for i k == page_of va) (nat_lt va (2 ^ 32)) holds in
    (k, record { known = all k refl; page = eq_of (page_for i k) (page_of va) page; small = below_of va (2 ^ 32) small; place = place })

is_known : (memory : List ℕ) (t : Tables) (m : Mode) (ks : List Known) (n : ℕ) → AreKnownIn memory t m ks → (k : Known) → slice_get ks n ≡ Some k → IsKnownIn memory t m k
is_known memory t m ks n all k e = subst (IsKnownIn memory t m) (get_or_from_slice_get ks n k k e) (all n k (slice_get_within ks n k e))

given : (memory : List ℕ) (t : Tables) (m : Mode) (ks : List Known) (i : Intent) (va p : ℕ) → AreKnownIn memory t m ks → place_known ks i va ≡ Ok p → (k : Known) × Gives memory t m i va p k
given memory t m ks i va p all h = given_in memory t m i va p (slice_get ks (page_of va % 2048)) (is_known memory t m ks (page_of va % 2048) all) h

pub known_placed : (memory : List ℕ) (w : World) (ks : List Known) (i : Intent) (va p : ℕ) → AreKnown memory w ks → place_known ks i va ≡ Ok p → placed memory w i va ≡ Ok p
known_placed memory w ks i va p all h =
    let (k, g) = given memory (machine_tables w) (current_of w.psl.0) ks i va p all h in
    g.known.placed i va g.small g.page ∙ ap (λ (n : ℕ). Ok n) g.place

-- and so each address of its page
pub page_placed : (memory : List ℕ) (t : Tables) (m : Mode) (ks : List Known) (i : Intent) (page p va : ℕ) → AreKnownIn memory t m ks → place_known ks i (512 * page) ≡ Ok p → va < 2 ^ 32 → va / 512 ≡ page → place_in memory t m i va ≡ Ok (p + va % 512)
page_placed memory t m ks i page p va all h small there =
    let (k, g) = given memory t m ks i (512 * page) p all h in
    let same : page_of (512 * page) ≡ page_of va = omega (arith, there) in
    let base : k.base + (512 * page) % 512 ≡ p = g.place in
    let place : k.base + va % 512 ≡ p + va % 512 = omega (arith, base) in
    g.known.placed i va small (g.page ∙ same) ∙ ap (λ (n : ℕ). Ok n) place

-- and a page that may be written is modified
pub known_clear : (memory : List ℕ) (w : World) (ks : List Known) (va p : ℕ) → AreKnown memory w ks → place_known ks Write va ≡ Ok p → is_clear_for memory w va ≡ false
known_clear memory w ks va p all h =
    let (k, g) = given memory (machine_tables w) (current_of w.psl.0) ks Write va p all h in
    g.known.modified va g.small g.page

below_on : (memory : List ℕ) (b : ℕ) (x y : Result ℕ Cause) → ((p : ℕ) → x ≡ Ok p → y ≡ Ok p) → byte_by memory x ≡ Ok b → byte_by memory y ≡ Ok b
below_on memory b (Ok p) y same h = ap (byte_by memory) (same p refl) ∙ h
below_on memory b (Err c) y same h = cc

-- where known pages have a byte, the machine has it
pub known_below : (memory : List ℕ) (w : World) (ks : List Known) → AreKnown memory w ks → Below (known_space memory ks) (paged memory w)
known_below memory w ks all = λ i va b h. below_on memory b (place_known ks i va) (placed memory w i va) (λ p e. known_placed memory w ks i va p all e) h

-- The next byte of a page.

next_on : (t : Bool) (a b p : ℕ) (c : Cause) → b ≡ a + 1 → (let y : Result ℕ Cause = if t then Ok a else Err c in y ≡ Ok p) → (let y : Result ℕ Cause = if t then Ok b else Err c in y ≡ Ok (p + 1))
next_on true a b p c e h = let same : a ≡ p = cc in ap (λ (n : ℕ). Ok n) (e ∙ ap (λ (n : ℕ). n + 1) same)
next_on false a b p c e h = cc

one_below_by : (va : ℕ) (a b : Bool) → va % 512 + 1 < 512 → nat_lt (va + 1) (2 ^ 32) ≡ a → nat_lt va (2 ^ 32) ≡ b → nat_lt (va + 1) (2 ^ 32) ≡ nat_lt va (2 ^ 32)
one_below_by va true true h e f = e ∙ sym f
one_below_by va false false h e f = e ∙ sym f
one_below_by va true false h e f = absurd (grind (arith, nat_tests, e, f, h))
one_below_by va false true h e f = absurd (grind (arith, nat_tests, e, f, h))

one_below : (va : ℕ) → va % 512 + 1 < 512 → nat_lt (va + 1) (2 ^ 32) ≡ nat_lt va (2 ^ 32)
one_below va h = one_below_by va (nat_lt (va + 1) (2 ^ 32)) (nat_lt va (2 ^ 32)) h refl refl

next_in : (i : Intent) (va p : ℕ) (o : Option Known) → va % 512 + 1 < 512 → place_in_known i va o ≡ Ok p → place_in_known i (va + 1) o ≡ Ok (p + 1)
next_in i va p None h e = cc
next_in i va p (Some k) h e =
    let same : page_of (va + 1) ≡ page_of va = omega arith in
    let more : k.base + (va + 1) % 512 ≡ k.base + va % 512 + 1 = omega arith in
    let small : nat_lt (va + 1) (2 ^ 32) ≡ nat_lt va (2 ^ 32) = one_below va h in
    let test : ℕ → Bool = λ page. (page_for i k == page) && nat_lt va (2 ^ 32) in
    ap (λ (t : Bool). let y : Result ℕ Cause = if (page_for i k == page_of (va + 1)) && t then Ok (k.base + (va + 1) % 512) else Err interaction.Absent in y) small
    ∙ ap (λ (page : ℕ). let y : Result ℕ Cause = if test page then Ok (k.base + (va + 1) % 512) else Err interaction.Absent in y) same
    ∙ next_on (test (page_of va)) (k.base + va % 512) (k.base + (va + 1) % 512) p interaction.Absent more e

pub next_known : (ks : List Known) (i : Intent) (va p : ℕ) → va % 512 + 1 < 512 → place_known ks i va ≡ Ok p → place_known ks i (va + 1) ≡ Ok (p + 1)
next_known ks i va p h e =
    let same : page_of (va + 1) ≡ page_of va = omega arith in
    ap (λ (page : ℕ). place_in_known i (va + 1) (slice_get ks (page % 2048))) same
    ∙ next_in i va p (slice_get ks (page_of va % 2048)) h e
