-- The bytes that a guest can read from its PC on, page by page.
use Rattle.std.proofs.Common.{ℕ, zero, suc, ◌≡◌, ◌<◌, ◌≤◌, ◌+◌, ◌-◌, ◌*◌, ◌%◌, ◌^◌, List, [], ◌∷◌, ◌++◌, length, take, drop, refl, sym, ◌∙◌, ap, subst, arith, append_assoc, append-nil, Bool, true, false, not}
use Rattle.std.proofs.lemmas.Bool.{ltb-false}
use Rattle.std.proofs.lemmas.List.{at_drop_more, length-append, length-drop, length-take-le}
use Rattle.std.specs.Prelude.{Option, Ok, Err, slice_index}
use Rattle.sys_trace.specs.TraceLine.{if_read, readable}
use Rattle.vax_arch.proofs.Walks.{looks_inside}
use Rattle.vax_arch.specs.Fields.{current_of, frame_of, is_valid, protection_of}
use Rattle.vax_arch.specs.Ring.{open_of}
use Rattle.vax_arch.specs.Walk.{granted, is_past, page_of}
use Rattle.vax_arch.specs.WalkLaws.{IsInside}
use Rattle.vax_arch.specs.declared.mode.Intent.{Intent}
use Rattle.vax_arch.specs.declared.mode.Intent.TheVariants.{Read}
use Rattle.vax_arch.specs.declared.mode.Mode.{Mode}
use Rattle.vax_arch.specs.declared.walk.Grant.{Grant}
use Rattle.vax_arch.specs.declared.walk.Grant.TheVariants.{Absent, Granted, Past, Refused}
use Rattle.vax_arch.specs.declared.walk.Lookup.{Lookup}
use Rattle.vax_arch.specs.declared.walk.Lookup.TheVariants.{Beyond, Direct, Fails, Found}
use Rattle.vasm_text.specs.Front.{front_text}
use Rattle.vax_table.specs.Interaction.{Cause, cause_of}
use Rattle.vax_table.specs.Interaction as interaction
use Rattle.vv_base.specs.Bytes.{long_at}
use Rattle.vm_guest.specs.Kept.{IsShadowedIn, Kept, guest_in}
use Rattle.vm_shadow.proofs.Lookups.{IsBy, looks_by}
use Rattle.vm_state.proofs.Parts.{part_length}
use Rattle.vm_state.specs.Outside.{bytes_at}
use Rattle.vm_state.specs.Partition.{guest_of}
use Rattle.vm_state.specs.State.{Guest, mode_of_state, pc_of}
use Rattle.vm_state.specs.declared.guest_state.GuestState.{GuestState}
use Rattle.vm_state.specs.Translation.{at_entry, look, space_of, walk_by, walk_of, walked_byte}
use Rattle.vm_state.specs.declared.walk.MemFault.{MemFault}
use Rattle.vm_state.specs.declared.walk.Walk.{Walk}
use Rattle.vm_state.specs.declared.walk.Walk.TheVariants as walks

-- the guest's memory lies in the machine's
pub partition_in : (memory : List ℕ) (k : Kept) → IsShadowedIn memory k → 512 * (k.state.base + k.state.pages) ≤ length memory
partition_in memory k stands = omega (arith, stands.keeps.fits.partition, stands.serves.base, stands.serves.pages)

pub memory_long : (memory : List ℕ) (k : Kept) → IsShadowedIn memory k → length (guest_in memory k).memory ≡ 512 * k.state.pages
memory_long memory k stands = part_length memory (512 * k.state.base) (512 * k.state.pages) (omega (arith, partition_in memory k stands))

-- what a frame that is granted lies in
Fits : ℕ → Grant → Type 0
Fits size (Granted frame) = 512 * frame + 512 ≤ size
Fits size Refused = Unit {0}
Fits size Absent = Unit {0}
Fits size Past = Unit {0}

granted_at : (may : ℕ → Mode → Intent → Bool) (size entry : ℕ) (m : Mode) (i : Intent) (a b c : Bool) → not (may (protection_of entry) m i) ≡ a → not (is_valid entry) ≡ b → is_past size (512 * frame_of entry) 512 ≡ c → Fits size (granted may size entry m i)
unfolding granted Fits
granted_at may size entry m i true b c p q r = rw p tt
granted_at may size entry m i false true c p q r = rw (p, q) tt
granted_at may size entry m i false false true p q r = rw (p, q, r) tt
granted_at may size entry m i false false false p q r = rw (p, q, r) (ltb-false size (512 * frame_of entry + 512) r)

granted_fits : (may : ℕ → Mode → Intent → Bool) (size entry : ℕ) (m : Mode) (i : Intent) → Fits size (granted may size entry m i)
granted_fits may size entry m i = granted_at may size entry m i _ _ _ refl refl refl

-- Places of one page lie one after another, and all in memory.
record IsPaged (g : Guest) (m : Mode) (i : Intent) (va pa : ℕ) (x : Lookup) : Type 0 where
  next : (k : ℕ) → va % 512 + k < 512 → walked_byte g.memory (walk_by g (va + k) m i x) ≡ Ok (slice_index g.memory (pa + k))
  inside : (k : ℕ) → va % 512 + k ≤ 512 → pa + k ≤ length g.memory

by_entry : (g : Guest) (m : Mode) (i : Intent) (va pa place : ℕ) (entry table above : Option ℕ) (x : Grant) → Fits (length g.memory) x → at_entry va i place above x ≡ walks.Frame pa entry table
    → ((k : ℕ) → va % 512 + k < 512 → walked_byte g.memory (at_entry (va + k) i place above x) ≡ Ok (slice_index g.memory (pa + k))) × ((k : ℕ) → va % 512 + k ≤ 512 → pa + k ≤ length g.memory)
unfolding Fits
by_entry g m i va pa place entry table above (Granted frame) fits e =
    let at : 512 * frame + va % 512 ≡ pa = cc in
    (λ k low. let same : 512 * frame + (va + k) % 512 ≡ pa + k = omega (arith, at, low) in ap (λ p. Ok (slice_index g.memory p)) same, λ k low. omega (arith, at, low, fits))
by_entry g m i va pa place entry table above Refused fits e = absurd cc
by_entry g m i va pa place entry table above Absent fits e = absurd cc
by_entry g m i va pa place entry table above Past fits e = absurd cc

by_look : (g : Guest) (m : Mode) (i : Intent) (va pa : ℕ) (entry table : Option ℕ) (x : Lookup) → IsInside (length g.memory) x → IsBy (length g.memory) g.state.tables (page_of va) x → walk_by g va m i x ≡ walks.Frame pa entry table → IsPaged g m i va pa x
by_look g m i va pa entry table (Found place above) inside by e =
    let both = by_entry g m i va pa place entry table above _ (granted_fits open_of (length g.memory) (long_at g.memory place) m i) e in
    record { next = both.0; inside = both.1 }
by_look g m i va pa entry table (Direct frame) inside by e =
    let at : va ≡ pa = cc in
    record { next = λ k low. ap (λ p. Ok (slice_index g.memory (p + k))) at; inside = λ k low. omega (arith, at, low, inside, by.0) }
by_look g m i va pa entry table (Fails not_valid parameter) inside by e = absurd cc
by_look g m i va pa entry table Beyond inside by e = absurd cc

-- where a byte of a page can be read, those after it in the page are read from the places after it
pub record ReadsOn (g : Guest) (va pa count : ℕ) : Type 0 where
  pub next : (k : ℕ) → k < count → space_of g Read ((va + k) % 2 ^ 32) ≡ Ok (slice_index g.memory (pa + k))
  pub inside : pa + count ≤ length g.memory

pub reads_on : (g : Guest) (va pa count : ℕ) (entry table : Option ℕ) → va < 2 ^ 32 → va % 512 + count ≤ 512 → walk_of g va (mode_of_state g.state) Read ≡ walks.Frame pa entry table → ReadsOn g va pa count
unfolding walk_of
reads_on g va pa count entry table small low e =
    let m = mode_of_state g.state in
    let paged = by_look g m Read va pa entry table (look g (page_of va)) (looks_inside (length g.memory) g.memory g.state.tables (page_of va)) (looks_by (length g.memory) g.memory g.state.tables (page_of va)) e in
    record {
      next = λ k few.
          let page : page_of ((va + k) % 2 ^ 32) ≡ page_of va = omega (arith, few, low, small) in
          let at : (va + k) % 2 ^ 32 ≡ va + k = omega (arith, few, low, small) in
          (λ j. walked_byte g.memory (walk_by g (at j) m Read (look g (page j)))) ∙ paged.next k (omega (arith, few, low));
      inside = paged.inside count low;
    }

byte_first : (memory : List ℕ) (pa count : ℕ) → pa < length memory → take (suc count) (drop pa memory) ≡ slice_index memory pa ∷ take count (drop (pa + 1) memory)
byte_first memory pa count inside = at_drop_more (take (suc count)) memory pa 0 inside

-- `count` bytes are read, and then the rest
pub readable_more : (g : Guest) (count rest n va pa : ℕ) → n ≡ count + rest → va < 2 ^ 32 → ReadsOn g va pa count → readable n g va ≡ bytes_at g pa count ++ readable rest g ((va + count) % 2 ^ 32)
unfolding readable
readable_more g zero rest n va pa is small on =
    let same : n ≡ rest = omega (arith, is) in
    let here : va ≡ (va + 0) % 2 ^ 32 = omega (arith, small) in
    λ j. readable (same j) g (here j)
readable_more g (suc count) rest zero va pa is small on = absurd (omega (arith, is))
readable_more g (suc count) rest (suc n) va pa is small on =
    let here : va ≡ (va + 0) % 2 ^ 32 = omega (arith, small) in
    let place : pa + 0 ≡ pa = omega arith in
    let first : space_of g Read va ≡ Ok (slice_index g.memory pa) = ap (space_of g Read) here ∙ on.next 0 (omega arith) ∙ ap (λ p. Ok (slice_index g.memory p)) place in
    let va1 = (va + 1) % 2 ^ 32 in
    let later : ReadsOn g va1 (pa + 1) count = record {
      next = λ k few.
          let at : (va1 + k) % 2 ^ 32 ≡ (va + suc k) % 2 ^ 32 = omega arith in
          let to : pa + suc k ≡ pa + 1 + k = omega arith in
          ap (space_of g Read) at ∙ on.next (suc k) (omega (arith, few)) ∙ ap (λ p. Ok (slice_index g.memory p)) to;
      inside = omega (arith, on.inside);
    } in
    let end : (va1 + count) % 2 ^ 32 ≡ (va + suc count) % 2 ^ 32 = omega arith in
    let others = readable n g va1 in
    let all = readable_more g count rest n va1 (pa + 1) (omega (arith, is)) (omega arith) later in
    ap (λ r. if_read r others) first
    ∙ ap (λ bs. slice_index g.memory pa ∷ bs) (all ∙ ap (λ v. bytes_at g (pa + 1) count ++ readable rest g v) end)
    ∙ ap (λ bs. bs ++ readable rest g ((va + suc count) % 2 ^ 32)) (sym (byte_first g.memory pa count (omega (arith, on.inside))))

-- where none can be read there are no more
pub readable_ends : (g : Guest) (n va : ℕ) (c : Cause) → space_of g Read va ≡ Err c → readable n g va ≡ []
unfolding readable
readable_ends g zero va c none = refl
readable_ends g (suc n) va c none = ap (λ r. if_read r (readable n g ((va + 1) % 2 ^ 32))) none

-- `left` of the bytes are still to be read.
pub record IsRead (h : Guest) (left : ℕ) (bytes : List ℕ) : Type 0 where
  pub few : left ≤ 21
  pub long : length bytes + left ≡ 21
  pub read : readable 21 h (pc_of h.state) ≡ bytes ++ readable left h ((pc_of h.state + (21 - left)) % 2 ^ 32)

pub first_read : (h : Guest) (bytes : List ℕ) → bytes ≡ [] → pc_of h.state < 2 ^ 32 → IsRead h 21 bytes
first_read h bytes none small =
    let here : pc_of h.state ≡ (pc_of h.state + (21 - 21)) % 2 ^ 32 = omega (arith, small) in
    record { few = omega arith; long = let long : length bytes ≡ 0 = ap length none in omega (arith, long); read = ap (readable 21 h) here ∙ ap (λ bs. bs ++ readable 21 h ((pc_of h.state + (21 - 21)) % 2 ^ 32)) (sym none) }

bytes_long : (h : Guest) (pa count : ℕ) → pa + count ≤ length h.memory → length (bytes_at h pa count) ≡ count
bytes_long h pa count inside =
    let rest : length (drop pa h.memory) ≡ length h.memory - pa = length-drop pa h.memory in
    length-take-le count (drop pa h.memory) (omega (arith, rest, inside))

pub goes_on : (h : Guest) (left count pa : ℕ) (bytes bytes' : List ℕ) → IsRead h left bytes → count ≤ left → ReadsOn h ((pc_of h.state + (21 - left)) % 2 ^ 32) pa count → bytes' ≡ bytes ++ bytes_at h pa count → IsRead h (left - count) bytes'
goes_on h left count pa bytes bytes' before some on is =
    let va = (pc_of h.state + (21 - left)) % 2 ^ 32 in
    let rest = left - count in
    let more = readable_more h count rest left va pa (omega (arith, some)) (omega arith) on in
    let next : (va + count) % 2 ^ 32 ≡ (pc_of h.state + (21 - rest)) % 2 ^ 32 = omega (arith, some, before.few) in
    let long : length bytes' ≡ length bytes + length (bytes_at h pa count) = ap length is ∙ length-append bytes (bytes_at h pa count) in
    let own = bytes_long h pa count on.inside in
    record {
      few = omega (arith, before.few);
      long = omega (arith, before.long, long, own, some);
      read = before.read ∙ ap (λ bs. bytes ++ bs) more ∙ sym (append_assoc bytes (bytes_at h pa count) (readable rest h ((va + count) % 2 ^ 32))) ∙ (λ j. sym is j ++ readable rest h (next j));
    }

ends_by : (h : Guest) (left : ℕ) (bytes : List ℕ) (c : Cause) → IsRead h left bytes → space_of h Read ((pc_of h.state + (21 - left)) % 2 ^ 32) ≡ Err c → bytes ≡ readable 21 h (pc_of h.state)
ends_by h left bytes c before none =
    let va = (pc_of h.state + (21 - left)) % 2 ^ 32 in
    sym (before.read ∙ ap (λ bs. bytes ++ bs) (readable_ends h left va c none) ∙ append-nil bytes)

pub none_read : (h : Guest) (left : ℕ) (bytes : List ℕ) (f : MemFault) → IsRead h left bytes → walk_of h ((pc_of h.state + (21 - left)) % 2 ^ 32) (mode_of_state h.state) Read ≡ walks.Fault f → bytes ≡ readable 21 h (pc_of h.state)
none_read h left bytes f before is = ends_by h left bytes (cause_of f.not_valid) before (ap (walked_byte h.memory) is)

pub none_beyond : (h : Guest) (left : ℕ) (bytes : List ℕ) → IsRead h left bytes → walk_of h ((pc_of h.state + (21 - left)) % 2 ^ 32) (mode_of_state h.state) Read ≡ walks.Beyond → bytes ≡ readable 21 h (pc_of h.state)
none_beyond h left bytes before is = ends_by h left bytes interaction.Past before (ap (walked_byte h.memory) is)

none_more : (h : Guest) (n va : ℕ) → n ≡ 0 → readable n h va ≡ []
unfolding readable
none_more h zero va none = refl
none_more h (suc n) va none = absurd (omega (arith, none))

pub all_read : (h : Guest) (left : ℕ) (bytes : List ℕ) → IsRead h left bytes → left ≡ 0 → bytes ≡ readable 21 h (pc_of h.state)
all_read h left bytes before none =
    let va = (pc_of h.state + (21 - left)) % 2 ^ 32 in
    sym (before.read ∙ ap (λ bs. bytes ++ bs) (none_more h left va none) ∙ append-nil bytes)

-- what the code's walk found
pub walked : (memory : List ℕ) (k : Kept) (state : GuestState) (m : Mode) (at va : ℕ) (w : Walk) → state ≡ k.state → m ≡ current_of state.psl.0 → at ≡ va → w ≡ walk_of (guest_of memory state) at m Read → walk_of (guest_in memory k) va (mode_of_state (guest_in memory k).state) Read ≡ w
walked memory k state m at va w same mode here is =
    let modes : m ≡ mode_of_state (guest_in memory k).state = mode ∙ ap (λ (s : GuestState). current_of s.psl.0) same in
    sym (is ∙ (λ j. walk_of (guest_of memory (same j)) (here j) (modes j) Read))

pub page_read : (h : Guest) (at va pa count : ℕ) (entry table : Option ℕ) → at ≡ va → va < 2 ^ 32 → at % 512 + count ≤ 512 → walk_of h va (mode_of_state h.state) Read ≡ walks.Frame pa entry table → ReadsOn h va pa count
page_read h at va pa count entry table here small low found = reads_on h va pa count entry table small (subst (λ v. v % 512 + count ≤ 512) here low) found

-- no bytes have no text
pub front_none : (bytes : List ℕ) → length bytes ≡ 0 → [] ≡ front_text bytes
unfolding front_text
front_none [] none = refl
front_none (b ∷ bs) none = absurd (omega (arith, none))
