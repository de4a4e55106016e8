-- Pages of an earlier tag say nothing, and one that is put with the present tag is known.
use Rattle.std.proofs.Common.{◌≡◌, ℕ, ◌+◌, ◌-◌, ◌^◌, ◌<◌, ◌≤◌, Bool, true, false, List, All, map, replicate, slice_set, refl, ap, sym, subst, arith, true≢false}
use Rattle.std.specs.Prelude.{if◌then◌else◌, ◌&&◌, not, nat_lt}
use Rattle.std.proofs.lemmas.Bool.Decides.{nat_tests}
use Rattle.std.proofs.lemmas.List.{map-set}
use Rattle.std.proofs.lemmas.List.Elements.{All-map, All-replicate, All-set}
use Rattle.vax_arch.specs.Walk.{Tables, page_of}
use Rattle.vax_arch.specs.declared.mode.Intent.{Intent}
use Rattle.vax_arch.specs.declared.mode.Intent.TheVariants.{Read, Write}
use Rattle.vax_arch.specs.declared.mode.Mode.{Mode}
use Rattle.vax_paged.specs.Known.{AreKnownIn, IsKnownIn, page_for}
use Rattle.vax_paged.specs.Tagged.{MayHaveSome, AreTagged, HasEarlierTag, at_present, no_page, untagged, with_tag, with_tags}
use Rattle.vax_paged.specs.declared.known.Known.{Known}
use Rattle.vax_paged.specs.declared.pages.Tagged.{Tagged}

-- Of an earlier tag.

is_below : (n m : ℕ) → n < m → nat_lt n m ≡ true
is_below n m h = grind (arith, nat_tests, h)

earlier : (tag n : ℕ) → n < tag → untagged tag n ≡ 4294967295
earlier tag n h = ap (λ (b : Bool). let y : ℕ = if not b && nat_lt n (tag + 8388608) then n - tag else 4294967295 in y) (is_below n tag h)

nothing_there : (n va : ℕ) → n ≡ 4294967295 → n ≡ page_of va → va < 2 ^ 32 → ⊥
nothing_there n va e here small = omega (arith, e, here, small)

nothing_for : (i : Intent) (tag : ℕ) (k : Tagged) (va : ℕ) → HasEarlierTag tag k → va < 2 ^ 32 → page_for i (at_present tag k) ≡ page_of va → ⊥
nothing_for Read tag k va h small here = nothing_there (untagged tag k.read_page) va (earlier tag k.read_page h.read) here small
nothing_for Write tag k va h small here = nothing_there (untagged tag k.write_page) va (earlier tag k.write_page h.write) here small

forgotten : (memory : List ℕ) (t : Tables) (m : Mode) (tag : ℕ) (k : Tagged) → HasEarlierTag tag k → IsKnownIn memory t m (at_present tag k)
forgotten memory t m tag k h = record {
  placed = λ i va small here. absurd (nothing_for i tag k va h small here);
  modified = λ va small here. absurd (nothing_for Write tag k va h small here);
}

pub all_forgotten : (memory : List ℕ) (t : Tables) (m : Mode) (tag : ℕ) (ks : List Tagged) → All (HasEarlierTag tag) ks → AreKnownIn memory t m (map (at_present tag) ks)
all_forgotten memory t m tag ks h = All-map (IsKnownIn memory t m) (at_present tag) ks (λ i d small. forgotten memory t m tag _ (h i d small))

later : (next more : ℕ) (k : Tagged) → next ≤ more → HasEarlierTag next k → HasEarlierTag more k
later next more k le h = record { read = omega (arith, le, h.read); write = omega (arith, le, h.write) }

pub next_tagged : (tag : ℕ) (ks : List Tagged) → AreTagged tag ks → tag ≤ 4278190080 → AreTagged (tag + 8388608) ks
next_tagged tag ks h le = record {
  some = omega (arith, h.some);
  most = omega (arith, le);
  before = λ i d small. later (tag + 8388608) (tag + 8388608 + 8388608) _ (omega arith) (h.before i d small);
}

-- none by any tag
pub none_tagged : (n : ℕ) (x : Tagged) → x ≡ no_page → AreTagged 8388608 (replicate n x)
none_tagged n x e =
    let none : HasEarlierTag (8388608 + 8388608) no_page = record { read = omega arith; write = omega arith } in
    record {
      some = omega arith;
      most = omega arith;
      before = All-replicate (HasEarlierTag (8388608 + 8388608)) n x (subst (HasEarlierTag (8388608 + 8388608)) (sym e) none);
    }

pub none_known : (memory : List ℕ) (t : Tables) (m : Mode) (n : ℕ) (x : Tagged) → x ≡ no_page → AreKnownIn memory t m (map (at_present 8388608) (replicate n x))
none_known memory t m n x e =
    let none : HasEarlierTag 8388608 no_page = record { read = omega arith; write = omega arith } in
    all_forgotten memory t m 8388608 (replicate n x) (All-replicate (HasEarlierTag 8388608) n x (subst (HasEarlierTag 8388608) (sym e) none))

-- Of the present tag.

below_of : (n m : ℕ) → nat_lt n m ≡ true → n < m
below_of n m e = grind (arith, nat_tests)

above_of : (n m : ℕ) → nat_lt n m ≡ false → m ≤ n
above_of n m e = grind (arith, nat_tests)

untagged_by : (tag n p : ℕ) (a b : Bool) → nat_lt n tag ≡ a → (if not a && b then n - tag else 4294967295) ≡ p → p < 2 ^ 23 → n ≡ p + tag
untagged_by tag n p true b e is small = absurd (omega (arith, is, small))
untagged_by tag n p false false e is small = absurd (omega (arith, is, small))
untagged_by tag n p false true e is small = let above : tag ≤ n = above_of n tag e in omega (arith, above, is)

with_by : (tag page p : ℕ) (b : Bool) → 8388608 ≤ tag → (if b then page + tag else 0) ≡ p + tag → page ≡ p
with_by tag page p true some e = omega (arith, e)
with_by tag page p false some e = absurd (omega (arith, e, some))

as_put : (tag page p : ℕ) → 8388608 ≤ tag → p < 2 ^ 23 → untagged tag (with_tag page tag) ≡ p → page ≡ p
as_put tag page p some small e =
    with_by tag page p (nat_lt page 8388608) some
    (untagged_by tag (with_tag page tag) p (nat_lt (with_tag page tag) tag) (nat_lt (with_tag page tag) (tag + 8388608)) refl e small)

put_for : (i : Intent) (tag : ℕ) (k : Known) (va : ℕ) → 8388608 ≤ tag → va < 2 ^ 32 → page_for i (at_present tag (with_tags k tag)) ≡ page_of va → page_for i k ≡ page_of va
put_for Read tag k va some small here = as_put tag k.read_page (page_of va) some (omega (arith, small)) here
put_for Write tag k va some small here = as_put tag k.write_page (page_of va) some (omega (arith, small)) here

as_known : (memory : List ℕ) (t : Tables) (m : Mode) (tag : ℕ) (k : Known) → 8388608 ≤ tag → IsKnownIn memory t m k → IsKnownIn memory t m (at_present tag (with_tags k tag))
as_known memory t m tag k some h = record {
  placed = λ i va small here. h.placed i va small (put_for i tag k va some small here);
  modified = λ va small here. h.modified va small (put_for Write tag k va some small here);
}

pub put_known : (memory : List ℕ) (t : Tables) (m : Mode) (tag : ℕ) (ks : List Tagged) (at : ℕ) (k : Known) (x : Tagged) → x ≡ with_tags k tag → 8388608 ≤ tag →
    AreKnownIn memory t m (map (at_present tag) ks) → IsKnownIn memory t m k → AreKnownIn memory t m (map (at_present tag) (slice_set ks at x))
put_known memory t m tag ks at k x e some all h =
    let is : IsKnownIn memory t m (at_present tag x) = subst (λ (y : Tagged). IsKnownIn memory t m (at_present tag y)) (sym e) (as_known memory t m tag k some h) in
    subst (AreKnownIn memory t m) (sym (map-set (at_present tag) ks at x)) (All-set (IsKnownIn memory t m) (map (at_present tag) ks) at (at_present tag x) is all)

tag_below : (page tag : ℕ) (b : Bool) → nat_lt page 8388608 ≡ b → (if b then page + tag else 0) < tag + 8388608
tag_below page tag true e = let small : page < 8388608 = below_of page 8388608 e in omega (arith, small)
tag_below page tag false e = omega arith

pub put_tagged : (tag : ℕ) (ks : List Tagged) (at : ℕ) (k : Known) (x : Tagged) → x ≡ with_tags k tag → AreTagged tag ks → AreTagged tag (slice_set ks at x)
put_tagged tag ks at k x e h =
    let one : HasEarlierTag (tag + 8388608) (with_tags k tag) = record { read = tag_below k.read_page tag (nat_lt k.read_page 8388608) refl; write = tag_below k.write_page tag (nat_lt k.write_page 8388608) refl } in
    record {
      some = h.some;
      most = h.most;
      before = All-set (HasEarlierTag (tag + 8388608)) ks at x (subst (HasEarlierTag (tag + 8388608)) (sym e) one) h.before;
    }

-- And whether there is one of the present tag.

pub next_none : (tag : ℕ) (ks : List Tagged) → AreTagged tag ks → tag ≤ 4278190080 → MayHaveSome (tag + 8388608) false ks
next_none tag ks h le = record { tagged = next_tagged tag ks h le; none = λ e. h.before }

pub none_of : (n : ℕ) (x : Tagged) → x ≡ no_page → MayHaveSome 8388608 false (replicate n x)
none_of n x e =
    let none : HasEarlierTag 8388608 no_page = record { read = omega arith; write = omega arith } in
    record { tagged = none_tagged n x e; none = λ f. All-replicate (HasEarlierTag 8388608) n x (subst (HasEarlierTag 8388608) (sym e) none) }

pub put_some : (tag : ℕ) (some : Bool) (ks : List Tagged) (at : ℕ) (k : Known) (x : Tagged) → x ≡ with_tags k tag → MayHaveSome tag some ks → MayHaveSome tag true (slice_set ks at x)
put_some tag some ks at k x e h = record { tagged = put_tagged tag ks at k x e h.tagged; none = λ f. absurd (true≢false f) }
