-- What is known stays so where no watched frame is stored to.
use Rattle.std.proofs.Common.{◌≡◌, ℕ, zero, suc, ◌+◌, ◌/◌, ◌%◌, ◌^◌, ◌<◌, ◌≤◌, ◌==◌, Bool, true, false, List, [], ◌∷◌, length, get_or, set, slice_set, Ok, refl, ap, sym, ◌∙◌, subst, arith}
use Rattle.std.specs.Prelude.{slice_index}
use Rattle.std.proofs.lemmas.List.{get_or-set_other}
use Rattle.std.proofs.lemmas.Bool.Decides.{nat_tests}
use Rattle.vv_base.specs.Bytes.{long_at, long_bytes, overwritten}
use Rattle.vv_base.specs.Width.{size_of}
use Rattle.vax_arch.specs.Walk.{Tables}
use Rattle.vax_arch.specs.declared.mode.Intent.TheVariants.{Write}
use Rattle.vax_hw.specs.declared.world.World.{World}
use Rattle.vax_table.specs.declared.effect.Store.{Store}
use Rattle.vax_table.proofs.Tests.{eq_of}
use Rattle.vax_paged.specs.InPage.{IsStoreInPage, stored_from}
use Rattle.vax_paged.specs.Known.{Agrees, AreAllIn, AreAllKnown, IsSameBut, watches}
use Rattle.vax_paged.specs.Paged.{placed}
use Rattle.vax_paged.specs.declared.modes.KnownPages.{KnownPages}
use Rattle.vax_paged.proofs.InPage.{placed_frame}
use Rattle.vax_paged.proofs.Widths.{long_over}

-- bytes that are not stored
elsewhere : (k p v : ℕ) (memory : List ℕ) (at : ℕ) → ((j : ℕ) → j < k → p + j ≡ at → ⊥) → slice_index (stored_from k p v memory) at ≡ slice_index memory at
elsewhere zero p v memory at h = refl
elsewhere (suc k) p v memory at h =
    elsewhere k (p + 1) (v / 256) (slice_set memory p (v % 256)) at (λ j small e. h (suc j) (omega arith) (omega (arith, e)))
    ∙ get_or-set_other memory p at (v % 256) 0 (λ e. h 0 (omega arith) (omega (arith, e)))

in_frame : (va p size j at : ℕ) → p % 512 ≡ va % 512 → va % 512 + size ≤ 512 → j < size → p + j ≡ at → at / 512 ≡ p / 512
in_frame va p size j at same fits small here = omega (arith, same, fits, small, here)

pub stored_elsewhere : (before memory new : List ℕ) (w : World) (x : Store) (p : ℕ) → IsStoreInPage before w x p → new ≡ stored_from (size_of x.width) p x.value memory → IsSameBut p p memory new
stored_elsewhere before memory new w x p h e = λ at away again.
    ap (λ (m : List ℕ). slice_index m at) e
    ∙ elsewhere (size_of x.width) p x.value memory at (λ j small here. away (in_frame x.va p (size_of x.width) j at (placed_frame before w Write x.va p h.placed_at) h.in_page small here))

pub whole_elsewhere : (memory new : List ℕ) (w : World) (x : Store) (p : ℕ) → IsStoreInPage memory w x p → new ≡ stored_from (size_of x.width) p x.value memory → IsSameBut p p memory new
whole_elsewhere memory new w x p h e = stored_elsewhere memory memory new w x p h e

-- nor those that are beside a store's two parts
pub parts_elsewhere : (memory middle new : List ℕ) (w : World) (va next low high a b v rest : ℕ) → placed memory w Write va ≡ Ok low → placed memory w Write next ≡ Ok high → va % 512 + a ≤ 512 → next % 512 + b ≤ 512 →
    middle ≡ stored_from a low v memory → new ≡ stored_from b high rest middle → IsSameBut low high memory new
parts_elsewhere memory middle new w va next low high a b v rest low_at high_at low_fits high_fits one two = λ at away again.
    ap (λ (m : List ℕ). slice_index m at) two
    ∙ elsewhere b high rest middle at (λ j small here. again (in_frame next high b j at (placed_frame memory w Write next high high_at) high_fits small here))
    ∙ ap (λ (m : List ℕ). slice_index m at) one
    ∙ elsewhere a low v memory at (λ j small here. away (in_frame va low a j at (placed_frame memory w Write va low low_at) low_fits small here))

-- one of two frames has each byte of a longword
one_of_two : (p j at : ℕ) (b : Bool) → (at / 512 == p / 512) ≡ b → j < 4 → p + j ≡ at → (at / 512 ≡ p / 512 → ⊥) → (at / 512 ≡ (p + 3) / 512 → ⊥) → ⊥
one_of_two p j at true e small here away again = away (eq_of (at / 512) (p / 512) e)
one_of_two p j at false e small here away again = again (grind (arith, nat_tests, e, small, here))

pub written_elsewhere : (memory : List ℕ) (p v : ℕ) → p + 4 ≤ length memory → v < 2 ^ 32 → IsSameBut p (p + 3) memory (overwritten memory p (long_bytes v))
written_elsewhere memory p v room small = λ at away again.
    let low : v ≡ v % 2 ^ 32 = omega arith in
    ap (λ (n : ℕ). slice_index (overwritten memory p (long_bytes n)) at) low
    ∙ ap (λ (m : List ℕ). slice_index m at) (long_over memory p v room)
    ∙ elsewhere 4 p v memory at (λ j few here. one_of_two p j at (at / 512 == p / 512) refl few here away again)

apart : (marks : List ℕ) (mark at place : ℕ) → watches marks mark at ≡ true → watches marks mark place ≡ false → at / 512 ≡ place / 512 → ⊥
apart marks mark at place holds lacks e =
    let same : watches marks mark at ≡ watches marks mark place = ap (λ (n : ℕ). get_or marks n mark == mark) e in
    cc

pub still : (memory other : List ℕ) (t : Tables) (p : KnownPages) (first last : ℕ) → watches p.marks.items p.mark first ≡ false → watches p.marks.items p.mark last ≡ false → AreAllKnown memory t p → IsSameBut first last memory other → AreAllKnown other t p
still memory other t p first last one two all same = λ third agrees. all third (λ at holds. agrees at holds ∙ same at (apart p.marks.items p.mark at first holds one) (apart p.marks.items p.mark at last holds two))

pub still_known : (memory other : List ℕ) (t : Tables) (old new : KnownPages) (first last : ℕ) → new ≡ old → watches old.marks.items old.mark first ≡ false → watches old.marks.items old.mark last ≡ false → AreAllKnown memory t old → IsSameBut first last memory other → AreAllKnown other t new
still_known memory other t old new first last is one two all same = subst (AreAllKnown other t) (sym is) (still memory other t old first last one two all same)

-- Frames that are marked.

itself : (m : ℕ) → (m == m) ≡ true
itself m = grind (arith, nat_tests)

marked : (l : List ℕ) (i j m : ℕ) → (get_or l j m == m) ≡ true → (get_or (set l i m) j m == m) ≡ true
marked [] i j m h = h
marked (x ∷ l) zero zero m h = itself m
marked (x ∷ l) zero (suc j) m h = h
marked (x ∷ l) (suc i) zero m h = h
marked (x ∷ l) (suc i) (suc j) m h = marked l i j m h

marked_there : (l : List ℕ) (i m : ℕ) → (get_or (set l i m) i m == m) ≡ true
marked_there [] i m = itself m
marked_there (x ∷ l) zero m = itself m
marked_there (x ∷ l) (suc i) m = marked_there l i m

pub more_watched : (marks : List ℕ) (mark a b at : ℕ) → watches marks mark at ≡ true → watches (slice_set (slice_set marks a mark) b mark) mark at ≡ true
more_watched marks mark a b at h = marked (slice_set marks a mark) b (at / 512) mark (marked marks a (at / 512) mark h)

watched_by : (marks : List ℕ) (mark place i : ℕ) (b : Bool) → i < 4 → ((place + i) / 512 == place / 512) ≡ b → watches (slice_set (slice_set marks (place / 512) mark) ((place + 3) / 512) mark) mark (place + i) ≡ true
watched_by marks mark place i true small e =
    let here : (place + i) / 512 ≡ place / 512 = eq_of ((place + i) / 512) (place / 512) e in
    marked (slice_set marks (place / 512) mark) ((place + 3) / 512) ((place + i) / 512) mark
    (subst (λ (n : ℕ). (get_or (slice_set marks (place / 512) mark) n mark == mark) ≡ true) (sym here) (marked_there marks (place / 512) mark))
watched_by marks mark place i false small e =
    let here : (place + i) / 512 ≡ (place + 3) / 512 = grind (arith, nat_tests, e, small) in
    subst (λ (n : ℕ). (get_or (slice_set (slice_set marks (place / 512) mark) ((place + 3) / 512) mark) n mark == mark) ≡ true) (sym here) (marked_there (slice_set marks (place / 512) mark) ((place + 3) / 512) mark)

pub both_watched : (marks : List ℕ) (mark place i : ℕ) → i < 4 → watches (slice_set (slice_set marks (place / 512) mark) ((place + 3) / 512) mark) mark (place + i) ≡ true
both_watched marks mark place i small = watched_by marks mark place i ((place + i) / 512 == place / 512) small refl

-- a longword whose bytes are watched
pub long_same : (p : KnownPages) (memory other : List ℕ) (n : ℕ) → Agrees p memory other → ((i : ℕ) → i < 4 → watches p.marks.items p.mark (n + i) ≡ true) → long_at other n ≡ long_at memory n
long_same p memory other n agrees watched =
    let at : n + 0 ≡ n = omega arith in
    let first : slice_index other n ≡ slice_index memory n = subst (λ (k : ℕ). slice_index other k ≡ slice_index memory k) at (agrees (n + 0) (watched 0 (omega arith))) in
    let second : slice_index other (n + 1) ≡ slice_index memory (n + 1) = agrees (n + 1) (watched 1 (omega arith)) in
    let third : slice_index other (n + 2) ≡ slice_index memory (n + 2) = agrees (n + 2) (watched 2 (omega arith)) in
    let last : slice_index other (n + 3) ≡ slice_index memory (n + 3) = agrees (n + 3) (watched 3 (omega arith)) in
    rw (first, second, third, last) refl

-- what is known rests on the marks alone
pub agrees_before : (memory other : List ℕ) (a b : KnownPages) → b.marks ≡ a.marks → b.mark ≡ a.mark → Agrees b memory other → Agrees a memory other
agrees_before memory other a b marks mark agrees = λ at holds.
    let same : watches b.marks.items b.mark at ≡ watches a.marks.items a.mark at = rw (marks, mark) refl in
    agrees at (same ∙ holds)

pub all_same : (memory : List ℕ) (t : Tables) (a b : KnownPages) → b ≡ (record a { marks = b.marks }) → AreAllIn memory t a → AreAllIn memory t b
all_same memory t a b same h = subst (AreAllIn memory t) (sym same) (record { kernel = h.kernel; executive = h.executive; supervisor = h.supervisor; user = h.user; here = h.here })

-- one byte that is stored
pub byte_elsewhere : (memory new : List ℕ) (p byte : ℕ) → new ≡ slice_set memory p byte → IsSameBut p p memory new
byte_elsewhere memory new p byte e = λ at away again.
    ap (λ (m : List ℕ). slice_index m at) e ∙ get_or-set_other memory p at byte 0 (λ same. away (ap (λ (n : ℕ). n / 512) same))
