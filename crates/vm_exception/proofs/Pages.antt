-- Walks of addresses in one page differ in the byte alone.
use Rattle.std.proofs.Common.{◌≡◌, ℕ, suc, ◌+◌, ◌*◌, ◌/◌, ◌%◌, ◌^◌, ◌<◌, ◌≤◌, List, [], ◌∷◌, ◌++◌, map, Option, length, refl, sym, ap, ◌∙◌, subst, arith}
use Rattle.vv_base.specs.Bytes.{long_at}
use Rattle.vax_arch.specs.Ring.{open_of}
use Rattle.vax_arch.specs.Walk.{granted, page_of}
use Rattle.vax_arch.specs.declared.mode.Intent.{Intent}
use Rattle.vax_arch.specs.declared.mode.Intent.TheVariants.{Write}
use Rattle.vax_arch.specs.declared.mode.Mode.{Mode}
use Rattle.vax_arch.specs.declared.walk.Grant.{Grant}
use Rattle.vax_arch.specs.declared.walk.Grant.TheVariants as grants
use Rattle.vax_arch.specs.declared.walk.Lookup.{Lookup}
use Rattle.vax_arch.specs.declared.walk.Lookup.TheVariants.{Beyond, Direct, Fails, Found}
use Rattle.vax_table.specs.Operand.{minus}
use Rattle.vm_exception.specs.Pushed.{home_in}
use Rattle.vm_state.specs.Pushes as pushes
use Rattle.vm_state.specs.Pushes.{Faulty, Homes, PastMemory, bytes_from, pushed_bytes, walked, with_home}
use Rattle.vm_state.specs.State.{Guest}
use Rattle.vm_state.specs.Translation.{at_entry, look, walk_by, walk_of}
use Rattle.vm_state.specs.declared.walk.MemFault.{MemFault}
use Rattle.vm_state.specs.declared.walk.Walk.{Walk}
use Rattle.vm_state.specs.declared.walk.Walk.TheVariants as walks

abbrev IsFrame : Walk → Type 0
IsFrame (walks.Frame pa entry table) = Unit {0}
IsFrame (walks.Fault f) = ⊥
IsFrame walks.Beyond = ⊥

abbrev place_in : Walk → ℕ
place_in (walks.Frame pa entry table) = pa
place_in (walks.Fault f) = 0
place_in walks.Beyond = 0

abbrev with_place : ℕ → Walk → Walk
with_place n (walks.Frame pa entry table) = walks.Frame n entry table
with_place n (walks.Fault f) = walks.Fault f
with_place n walks.Beyond = walks.Beyond

by_grant : (va other : ℕ) (i : Intent) (place : ℕ) (above : Option ℕ) (x : Grant) (pa : ℕ) (entry table : Option ℕ) → va / 512 ≡ other / 512 → walks.Frame pa entry table ≡ at_entry other i place above x → walks.Frame (pa / 512 * 512 + va % 512) entry table ≡ at_entry va i place above x
by_grant va other i place above (grants.Granted frame) pa entry table same e =
    let p : pa ≡ 512 * frame + other % 512 = ap place_in e in
    let n : pa / 512 * 512 + va % 512 ≡ 512 * frame + va % 512 = omega (arith, p) in
    ap (with_place (pa / 512 * 512 + va % 512)) e ∙ ap (λ k. with_place k (at_entry other i place above (grants.Granted frame))) n
by_grant va other i place above grants.Refused pa entry table same e = absurd (subst IsFrame e tt)
by_grant va other i place above grants.Absent pa entry table same e = absurd (subst IsFrame e tt)
by_grant va other i place above grants.Past pa entry table same e = absurd (subst IsFrame e tt)

by_look : (g : Guest) (va other : ℕ) (m : Mode) (i : Intent) (x : Lookup) (pa : ℕ) (entry table : Option ℕ) → va / 512 ≡ other / 512 → walks.Frame pa entry table ≡ walk_by g other m i x → walks.Frame (pa / 512 * 512 + va % 512) entry table ≡ walk_by g va m i x
by_look g va other m i (Found place above) pa entry table same e = by_grant va other i place above (granted open_of (length g.memory) (long_at g.memory place) m i) pa entry table same e
by_look g va other m i (Direct frame) pa entry table same e =
    let p : pa ≡ other = ap place_in e in
    let n : pa / 512 * 512 + va % 512 ≡ va = omega (arith, p, same) in
    ap (with_place (pa / 512 * 512 + va % 512)) e ∙ ap (λ k. with_place k (walk_by g other m i (Direct frame))) n
by_look g va other m i (Fails n p) pa entry table same e = absurd (subst IsFrame e tt)
by_look g va other m i Beyond pa entry table same e = absurd (subst IsFrame e tt)

-- the walk of an address by that of another one in its page
pub beside : (g : Guest) (va other : ℕ) (m : Mode) (i : Intent) (pa : ℕ) (entry table : Option ℕ) → va / 512 ≡ other / 512 → walks.Frame pa entry table ≡ walk_of g other m i → walks.Frame (pa / 512 * 512 + va % 512) entry table ≡ walk_of g va m i
unfolding walk_of
beside g va other m i pa entry table same e =
    by_look g va other m i (look g (page_of other)) pa entry table same e ∙ ap (λ p. walk_by g va m i (look g p)) (sym same)

-- Longwords that are pushed in one page.

-- all bytes lie in a page
abbrev InPage : ℕ → List pushes.PushedByte → Type 0
InPage page [] = Unit {0}
InPage page (b ∷ bs) = (b.at / 512 ≡ page) × InPage page bs

in_both : (page : ℕ) (bs cs : List pushes.PushedByte) → InPage page bs → InPage page cs → InPage page (bs ++ cs)
in_both page [] cs h k = k
in_both page (b ∷ bs) cs h k = (h.0, in_both page bs cs h.1 k)

pushed_in : (low sp : ℕ) (vs : List ℕ) → low < 2 ^ 32 → low % 512 + 4 * length vs ≤ 512 → sp ≡ (low + 4 * length vs) % 2 ^ 32 → InPage (low / 512) (pushed_bytes sp vs)
pushed_in low sp [] small room e = tt
pushed_in low sp (v ∷ vs) small room e =
    let n : ℕ = length vs in
    let top : minus sp 4 ≡ low + 4 * n = below low n sp small room e in
    let left : minus sp 4 ≡ (low + 4 * n) % 2 ^ 32 = omega (arith, top, small, room) in
    in_both (low / 512) (bytes_from 4 (minus sp 4) v) (pushed_bytes (minus sp 4) vs)
    (at_byte low n (minus sp 4) (minus sp 4) 0 small room top (omega arith) (omega arith), (at_byte low n (minus sp 4) (minus sp 4 + 1) 1 small room top (omega arith) (omega arith), (at_byte low n (minus sp 4) (minus sp 4 + 1 + 1) 2 small room top (omega arith) (omega arith), (at_byte low n (minus sp 4) (minus sp 4 + 1 + 1 + 1) 3 small room top (omega arith) (omega arith), tt))))
    (pushed_in low (minus sp 4) vs small (omega (arith, room)) left)
  where
    below : (low n sp : ℕ) → low < 2 ^ 32 → low % 512 + 4 * suc n ≤ 512 → sp ≡ (low + 4 * suc n) % 2 ^ 32 → minus sp 4 ≡ low + 4 * n
    below low n sp small room e = omega (arith, small, room, e)

    at_byte : (low n at x k : ℕ) → low < 2 ^ 32 → low % 512 + 4 * suc n ≤ 512 → at ≡ low + 4 * n → k < 4 → x ≡ at + k → x % 2 ^ 32 / 512 ≡ low / 512
    at_byte low n at x k small room e h is = omega (arith, small, room, e, h, is)

framed_all : (g : Guest) (m : Mode) (other pa : ℕ) (entry table : Option ℕ) (bs : List pushes.PushedByte) → walks.Frame pa entry table ≡ walk_of g other m Write → InPage (other / 512) bs → walked g m bs ≡ Homes (map (home_in (pa / 512 * 512) entry) bs)
framed_all g m other pa entry table [] e h = refl
framed_all g m other pa entry table (b ∷ bs) e h =
    ap (λ x. with_home b.value x (walked g m bs)) (sym (beside g b.at other m Write pa entry table h.0 e)) ∙ ap (with_home b.value (walks.Frame (pa / 512 * 512 + b.at % 512) entry table)) (framed_all g m other pa entry table bs e h.1)

module _ (sp : ℕ) (vs : List ℕ) (small : sp < 2 ^ 32) (few : length vs ≤ 4) (some : 1 ≤ length vs) (room : minus sp (4 * length vs) % 512 + 4 * length vs ≤ 512) where
  abbrev low : ℕ
  low = minus sp (4 * length vs)

  first_page : minus sp 4 / 512 ≡ low / 512
  first_page = omega (arith, small, few, some, room)

  pushed_here : InPage (minus sp 4 / 512) (pushed_bytes sp vs)
  pushed_here = subst (λ p. InPage p (pushed_bytes sp vs)) (sym first_page) (pushed_in low sp vs (omega arith) room (omega (arith, small, few)))

  -- all have homes
  pub homes_in_page : (g : Guest) (m : Mode) (pa : ℕ) (entry table : Option ℕ) → walks.Frame pa entry table ≡ walk_of g (minus sp 4) m Write → walked g m (pushed_bytes sp vs) ≡ Homes (map (home_in (pa / 512 * 512) entry) (pushed_bytes sp vs))
  homes_in_page g m pa entry table e = framed_all g m (minus sp 4) pa entry table (pushed_bytes sp vs) e pushed_here

-- the first has none
first_address : (sp : ℕ) → minus sp 4 % 2 ^ 32 ≡ minus sp 4
first_address sp = omega arith

pub faulty_first : (sp : ℕ) (vs : List ℕ) (g : Guest) (m : Mode) (f : MemFault) → 1 ≤ length vs → walks.Fault f ≡ walk_of g (minus sp 4) m Write → walked g m (pushed_bytes sp vs) ≡ Faulty f
faulty_first sp [] g m f some e = absurd (omega arith)
faulty_first sp (v ∷ vs) g m f some e =
    let rest : List pushes.PushedByte = bytes_from 3 (minus sp 4 + 1) (v / 256) ++ pushed_bytes (minus sp 4) vs in
    ap (λ a. with_home (v % 256) (walk_of g a m Write) (walked g m rest)) (first_address sp) ∙ ap (λ x. with_home (v % 256) x (walked g m rest)) (sym e)

pub past_first : (sp : ℕ) (vs : List ℕ) (g : Guest) (m : Mode) → 1 ≤ length vs → walks.Beyond ≡ walk_of g (minus sp 4) m Write → walked g m (pushed_bytes sp vs) ≡ PastMemory
past_first sp [] g m some e = absurd (omega arith)
past_first sp (v ∷ vs) g m some e =
    let rest : List pushes.PushedByte = bytes_from 3 (minus sp 4 + 1) (v / 256) ++ pushed_bytes (minus sp 4) vs in
    ap (λ a. with_home (v % 256) (walk_of g a m Write) (walked g m rest)) (first_address sp) ∙ ap (λ x. with_home (v % 256) x (walked g m rest)) (sym e)
