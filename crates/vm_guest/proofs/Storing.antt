-- Bytes of a guest's memory, one after another.
use Rattle.std.proofs.Common.{◌≡◌, ℕ, suc, ◌+◌, ◌*◌, ◌<◌, ◌≤◌, ◌⊎◌, List, [], ◌∷◌, ◌++◌, length, take, drop, slice_set, refl, ap, ◌∙◌, sym, subst, arith}
use Rattle.std.specs.Prelude.{slice_index}
use Rattle.std.proofs.lemmas.List.{append-nil, append_assoc, drop_all, drop_more, drop-set-lt, get_or-drop, length-drop, length-set, take-append-drop, take_more, take_more_set}
use Rattle.vv_base.specs.Bytes.{overwritten}
use Rattle.vax_hw.specs.Machine.{Machine}
use Rattle.vm_simulation_laws.specs.Moves.{Drops}
use Rattle.vm_simulation_laws.proofs.Own.{none_dropped}
use Rattle.vm_simulation_laws.proofs.Working.{one_dropped}
use Rattle.vm_guest.specs.Kept.{frames_from}
use Rattle.vm_shadow.specs.Shadowed.{Fits, Shadowed, own}
use Rattle.vm_shadow.specs.StandsFor.{OnlyGuest, Serves, StandsFor, Stores}
use Rattle.vm_shadow.proofs.Covering.{own_is, own_length}
use Rattle.vm_state.specs.Partition.{partition_of}
use Rattle.vm_state.specs.Translation.{frame_at}
use Rattle.vm_stepping.proofs.Paying.{dropped_then}
use Rattle.vm_state.specs.declared.guest_state.GuestState.{GuestState}
use Rattle.vm_state.proofs.Parts.{part_byte, part_length}
use Rattle.vm_guest.specs.Stores.{StoresBytes}

-- bytes stored in order
abbrev pub all_set : ℕ → List ℕ → List ℕ → List ℕ
all_set at [] memory = memory
all_set at (b ∷ bs) memory = all_set (at + 1) bs (slice_set memory at b)

pub sets_overwrite : (at : ℕ) (bs memory : List ℕ) → at + length bs ≤ length memory → all_set at bs memory ≡ overwritten memory at bs
sets_overwrite at [] memory room = let is : at ≡ at + 0 = omega arith in sym (take-append-drop at memory) ∙ ap (λ n. take at memory ++ drop n memory) is ∙ ap (λ ys. ys ++ drop (at + 0) memory) (sym (append-nil (take at memory)))
sets_overwrite at (b ∷ bs) memory room =
    let here : at < length memory = omega (arith, room) in
    let long = length-set memory at b in
    let on : at + 1 + length bs ≡ at + suc (length bs) = omega arith in
    sets_overwrite (at + 1) bs (slice_set memory at b) (omega (arith, room, long))
    ∙ (λ i. take_more_set memory at b here i ++ bs ++ drop-set-lt (at + 1 + length bs) memory at b (omega arith) i)
    ∙ ap (λ ys. ys ++ drop (at + 1 + length bs) memory) (append_assoc (take at memory) (b ∷ []) bs)
    ∙ ap (λ n. take at memory ++ (b ∷ bs) ++ drop n memory) on

only_then : (m m1 m2 : Machine) (s s1 : Shadowed) → s1.base ≡ s.base → s1.pages ≡ s.pages → s1.at ≡ s.at → OnlyGuest s m m1 → OnlyGuest s1 m1 m2 → OnlyGuest s m m2
only_then m m1 m2 s s1 base pages at x y = record {
  rest = y.rest ∙ (λ i. record (x.rest i) { memory = m2.memory });
  size = y.size ∙ x.size;
  other = λ p own tables. y.other p (subst (λ n. (p < 512 * n) ⊎ (512 * (n + s1.pages) ≤ p)) (sym base) (subst (λ n. (p < 512 * s.base) ⊎ (512 * (s.base + n) ≤ p)) (sym pages) own)) (subst (λ n. (p < 512 * n) ⊎ (512 * (n + 580) ≤ p)) (sym at) tables) ∙ x.other p own tables;
}

serves_still : (g : GuestState) (s s' : Shadowed) → s'.pages ≡ s.pages → s'.base ≡ s.base → s'.told ≡ s.told → Serves g s → Serves g s'
serves_still g s s' pages base told v = record { pages = pages ∙ v.pages; base = base ∙ v.base; told = told ∙ v.told }

-- as far as the bytes before this one
pub record Storing (pa : ℕ) (bytes : List ℕ) (place k : ℕ) (m : Machine) (s : Shadowed) (g : GuestState) (m' : Machine) (s' : Shadowed) : Type 0 where
  pub stands : StandsFor m'.memory s' g
  pub rest : all_set place (drop k bytes) (partition_of m'.memory g) ≡ all_set pa bytes (partition_of m.memory g)
  pub reached : place ≡ pa + k
  pub only : OnlyGuest s m m'
  pub tables : s'.at ≡ s.at
  -- the frames of the bytes that are written
  pub frames : List ℕ
  pub drops : Drops frames s s'
  pub whole : frames ++ frames_from place (drop k bytes) ≡ frames_from pa bytes

pub none_stored : (pa : ℕ) (bytes : List ℕ) (m : Machine) (s : Shadowed) (g : GuestState) → StandsFor m.memory s g → Storing pa bytes pa 0 m s g m s
none_stored pa bytes m s g k = record { stands = k; rest = refl; reached = omega arith; only = record { rest = refl; size = refl; other = λ p own tables. refl }; tables = refl; frames = []; drops = none_dropped [] s; whole = refl }

module _ (pa : ℕ) (bytes : List ℕ) (place k : ℕ) (m : Machine) (s : Shadowed) (g : GuestState) (m1 : Machine) (s1 : Shadowed) (stands : StandsFor m.memory s g) (inside : pa + length bytes ≤ 512 * g.pages) (x : Storing pa bytes place k m s g m1 s1) where
  pub place_inside : k < length bytes → place < 512 * s1.pages
  place_inside h = omega (arith, h, inside, x.reached, x.stands.serves.pages)

  pub fits_so_far : Fits m1.memory s1
  fits_so_far = x.stands.keeps.fits

  pub one_stored : (b : ℕ) (m2 : Machine) (s2 : Shadowed) → k < length bytes → b ≡ slice_index bytes k → Stores place (slice_set (own m1.memory s1) place b) m1 s1 m2 s2 → Storing pa bytes (place + 1) (k + 1) m s g m2 s2
  one_stored b m2 s2 h is w =
      let pages : s2.pages ≡ s1.pages = ap (λ (y : Shadowed). y.pages) w.drops.rest in
      let base : s2.base ≡ s1.base = ap (λ (y : Shadowed). y.base) w.drops.rest in
      let serves = serves_still g s1 s2 pages base (ap (λ (y : Shadowed). y.told) w.drops.rest) x.stands.serves in
      let memory : partition_of m2.memory g ≡ slice_set (partition_of m1.memory g) place b = sym (own_is m2.memory s2 g serves) ∙ w.own ∙ ap (λ ys. slice_set ys place b) (own_is m1.memory s1 g x.stands.serves) in
      let here : drop k bytes ≡ b ∷ drop (k + 1) bytes = drop_more bytes k 0 h ∙ ap (λ y. y ∷ drop (k + 1) bytes) (sym is) in
      let at = x.reached in
      record {
        stands = record { keeps = w.keeps [] [] x.stands.keeps; serves = serves; allowed = x.stands.allowed };
        rest = ap (all_set (place + 1) (drop (k + 1) bytes)) memory ∙ ap (λ ys. all_set place ys (partition_of m1.memory g)) (sym here) ∙ x.rest;
        reached = omega (arith, at);
        only = only_then m m1 m2 s s1 (x.stands.serves.base ∙ sym stands.serves.base) (x.stands.serves.pages ∙ sym stands.serves.pages) x.tables x.only w.only;
        tables = ap (λ (y : Shadowed). y.at) w.drops.rest ∙ x.tables;
        frames = x.frames ++ frame_at place ∷ [];
        drops = dropped_then x.frames (frame_at place ∷ []) s s1 s2 x.drops (one_dropped (frame_at place) s1 s2 w.drops);
        whole = append_assoc x.frames (frame_at place ∷ []) (frames_from (place + 1) (drop (k + 1) bytes)) ∙ ap (λ ys. x.frames ++ frames_from place ys) (sym here) ∙ x.whole;
      }

  none_left : k ≡ length bytes → drop k bytes ≡ []
  none_left e = ap (λ n. drop n bytes) e ∙ drop_all (length bytes) bytes (omega arith)

  pub all_stored : k ≡ length bytes → StoresBytes pa bytes m s g m1 s1
  all_stored e =
      let size : length (partition_of m.memory g) ≡ 512 * g.pages = ap length (sym (own_is m.memory s g stands.serves)) ∙ own_length m.memory s stands.keeps.fits ∙ ap (λ n. 512 * n) stands.serves.pages in
      record {
        stands = x.stands;
        memory = ap (λ ys. all_set place ys (partition_of m1.memory g)) (sym (none_left e)) ∙ x.rest ∙ sets_overwrite pa bytes (partition_of m.memory g) (omega (arith, inside, size));
        only = x.only;
        tables = x.tables;
        drops = subst (λ frames. Drops frames s s1) (sym (append-nil x.frames) ∙ ap (λ ys. x.frames ++ frames_from place ys) (sym (none_left e)) ∙ x.whole) x.drops;
      }

-- Bytes that are read.
pub byte_here : (memory : List ℕ) (g : GuestState) (pa k : ℕ) → pa + k < 512 * g.pages → slice_index memory (512 * g.base + pa + k) ≡ slice_index (drop pa (partition_of memory g)) k
byte_here memory g pa k h =
    let on : 512 * g.base + pa + k ≡ 512 * g.base + (pa + k) = omega arith in
    ap (slice_index memory) on ∙ sym (part_byte memory (512 * g.base) (512 * g.pages) (pa + k) h) ∙ sym (get_or-drop pa (partition_of memory g) k 0)

pub byte_read : (memory : List ℕ) (g : GuestState) (pa k b : ℕ) (bytes : List ℕ) → pa + k < 512 * g.pages → 512 * (g.base + g.pages) ≤ length memory → k < length bytes → b ≡ slice_index memory (512 * g.base + pa + k) →
    take k bytes ≡ take k (drop pa (partition_of memory g)) → take (k + 1) (slice_set bytes k b) ≡ take (k + 1) (drop pa (partition_of memory g))
byte_read memory g pa k b bytes h room here is before =
    let rest = drop pa (partition_of memory g) in
    let size = part_length memory (512 * g.base) (512 * g.pages) (omega (arith, room)) in
    let long = length-drop pa (partition_of memory g) in
    take_more_set bytes k b here ∙ (λ i. before i ++ (is ∙ byte_here memory g pa k h) i ∷ []) ∙ sym (take_more rest k 0 (omega (arith, size, long, h)))
