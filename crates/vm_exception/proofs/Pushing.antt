-- Bytes that are pushed, and their walk.
use Rattle.std.proofs.Common.{◌≡◌, ℕ, ◌+◌, ◌*◌, ◌/◌, ◌%◌, ◌^◌, ◌<◌, ◌≤◌, List, [], ◌∷◌, ◌++◌, length, map, take, drop, get_or, Option, refl, ap, ◌∙◌, sym, arith}
use Rattle.std.proofs.lemmas.List.{append_assoc, append-nil, drop_more, map-append, take_more}
use Rattle.std.specs.Int.{to_le_bytes, w32}
use Rattle.vax_arch.specs.declared.mode.Mode.{Mode}
use Rattle.vax_arch.specs.declared.mode.Intent.TheVariants.{Write}
use Rattle.vax_table.specs.Operand.{minus}
use Rattle.vm_state.specs.Pushes as pushes
use Rattle.vm_state.specs.Pushes.{Faulty, Homes, PastMemory, Walked, bytes_from, pointer_after, pushed_bytes, walked, with_home}
use Rattle.vm_state.specs.State.{Guest}
use Rattle.vm_state.specs.Translation.{walk_of}
use Rattle.vm_state.specs.declared.walk.Walk.TheVariants as walks
use Rattle.vm_state.specs.declared.walk.MemFault.{MemFault}
use Rattle.vm_exception.specs.declared.pushes.PushedByte.{PushedByte}
use Rattle.vm_exception.specs.declared.pushes.Home.{Home}
use Rattle.vm_exception.specs.Pushed.{byte_of, home_in, home_of}

-- one longword more
pub pushed_more : (sp : ℕ) (xs : List ℕ) (x : ℕ) → pushed_bytes sp (xs ++ x ∷ []) ≡ pushed_bytes sp xs ++ bytes_from 4 (minus (pointer_after sp xs) 4) x
pushed_more sp [] x = append-nil (bytes_from 4 (minus sp 4) x)
pushed_more sp (y ∷ ys) x = ap (λ b. bytes_from 4 (minus sp 4) y ++ b) (pushed_more (minus sp 4) ys x) ∙ sym (append_assoc (bytes_from 4 (minus sp 4) y) (pushed_bytes (minus sp 4) ys) (bytes_from 4 (minus (pointer_after (minus sp 4) ys) 4) x))

pub pointer_more : (sp : ℕ) (xs : List ℕ) (x : ℕ) → pointer_after sp (xs ++ x ∷ []) ≡ minus (pointer_after sp xs) 4
pointer_more sp [] x = refl
pointer_more sp (y ∷ ys) x = pointer_more (minus sp 4) ys x

-- what has been pushed so far
pub record Pushing (sp : ℕ) (longs : List ℕ) (n at : ℕ) (bytes : List PushedByte) : Type 0 where
  pub bytes_are : map byte_of bytes ≡ pushed_bytes sp (take n longs)
  pub pointer : at ≡ pointer_after sp (take n longs)
  pub size : length bytes ≡ 4 * n

pub pushing_none : (sp : ℕ) (longs : List ℕ) → Pushing sp longs 0 sp []
pushing_none sp longs = record { bytes_are = refl; pointer = refl; size = refl }

pub pushing_next : (sp : ℕ) (longs : List ℕ) (n at at' long : ℕ) (bytes bytes' : List PushedByte) → n < length longs → long ≡ get_or longs n 0 → at' ≡ minus at 4 → map byte_of bytes' ≡ map byte_of bytes ++ bytes_from 4 at' long → length bytes' ≡ length bytes + 4 → Pushing sp longs n at bytes → Pushing sp longs (n + 1) at' bytes'
pushing_next sp longs n at at' long bytes bytes' h is next more size p =
    let all : take (n + 1) longs ≡ take n longs ++ long ∷ [] = take_more longs n 0 h ∙ ap (λ x. take n longs ++ x ∷ []) (sym is) in
    record {
      bytes_are = more ∙ (λ i. p.bytes_are i ++ bytes_from 4 (at_is i) long) ∙ sym (ap (pushed_bytes sp) all ∙ pushed_more sp (take n longs) long);
      pointer = at_is ∙ sym (ap (pointer_after sp) all ∙ pointer_more sp (take n longs) long);
      size = size ∙ ap (λ x. x + 4) p.size ∙ omega arith;
    }
  where
    at_is : at' ≡ minus (pointer_after sp (take n longs)) 4
    at_is = next ∙ ap (λ x. minus x 4) p.pointer

-- homes before others
abbrev pub onto : List pushes.Home → Walked → Walked
onto hs (Homes ks) = Homes (hs ++ ks)
onto hs (Faulty f) = Faulty f
onto hs PastMemory = PastMemory

onto_more : (hs : List pushes.Home) (h : pushes.Home) (w : Walked) → onto (hs ++ h ∷ []) w ≡ onto hs (onto (h ∷ []) w)
onto_more hs h (Homes ks) = ap Homes (append_assoc hs (h ∷ []) ks)
onto_more hs h (Faulty f) = refl
onto_more hs h PastMemory = refl

-- so far all bytes have homes
pub record Walking (g : Guest) (m : Mode) (bytes : List PushedByte) (n : ℕ) (homes : List Home) : Type 0 where
  pub is : walked g m (map byte_of bytes) ≡ onto (map home_of homes) (walked g m (map byte_of (drop n bytes)))
  pub size : length homes ≡ n

pub walking_none : (g : Guest) (m : Mode) (bytes : List PushedByte) → Walking g m bytes 0 []
walking_none g m bytes = record { is = by (walked g m (map byte_of bytes)); size = refl }
  where
    by : (w : Walked) → w ≡ onto [] w
    by (Homes ks) = refl
    by (Faulty f) = refl
    by PastMemory = refl

next_byte : (g : Guest) (m : Mode) (bytes : List PushedByte) (n : ℕ) (b : PushedByte) → n < length bytes → b ≡ get_or bytes n b → walked g m (map byte_of (drop n bytes)) ≡ with_home b.value (walk_of g b.at m Write) (walked g m (map byte_of (drop (n + 1) bytes)))
next_byte g m bytes n b h is = ap (λ (x : List PushedByte). walked g m (map byte_of x)) (drop_more bytes n b h ∙ ap (λ (x : PushedByte). x ∷ drop (n + 1) bytes) (sym is))

framed : (v pa : ℕ) (entry table : Option ℕ) (w : Walked) → with_home v (walks.Frame pa entry table) w ≡ onto ((record { place = pa; entry = entry; value = v }) ∷ []) w
framed v pa entry table (Homes ks) = refl
framed v pa entry table (Faulty f) = refl
framed v pa entry table PastMemory = refl

pub walking_next : (g : Guest) (m : Mode) (bytes : List PushedByte) (n pa : ℕ) (entry table : Option ℕ) (b : PushedByte) (homes : List Home) → n < length bytes → b ≡ get_or bytes n b → walks.Frame pa entry table ≡ walk_of g b.at m Write → Walking g m bytes n homes → Walking g m bytes (n + 1) (homes ++ (record { place = pa; entry = entry; value = b.value }) ∷ [])
walking_next g m bytes n pa entry table b homes h is found w =
    let home : Home = record { place = pa; entry = entry; value = b.value } in
    record {
      is = w.is ∙ ap (onto (map home_of homes)) (next_byte g m bytes n b h is ∙ ap (λ x. with_home b.value x (walked g m (map byte_of (drop (n + 1) bytes)))) (sym found) ∙ framed b.value pa entry table _)
          ∙ sym (onto_more (map home_of homes) (home_of home) (walked g m (map byte_of (drop (n + 1) bytes)))) ∙ ap (λ x. onto x (walked g m (map byte_of (drop (n + 1) bytes)))) (sym (map-append home_of homes (home ∷ [])));
      size = Rattle.std.proofs.lemmas.List.length-append homes (home ∷ []) ∙ ap (λ x. x + 1) w.size;
    }

pub walking_faulty : (g : Guest) (m : Mode) (bytes : List PushedByte) (n : ℕ) (f : MemFault) (b : PushedByte) (homes : List Home) → n < length bytes → b ≡ get_or bytes n b → walks.Fault f ≡ walk_of g b.at m Write → Walking g m bytes n homes → Faulty f ≡ walked g m (map byte_of bytes)
walking_faulty g m bytes n f b homes h is found w = sym (w.is ∙ ap (onto (map home_of homes)) (next_byte g m bytes n b h is ∙ ap (λ x. with_home b.value x (walked g m (map byte_of (drop (n + 1) bytes)))) (sym found)))

pub walking_past : (g : Guest) (m : Mode) (bytes : List PushedByte) (n : ℕ) (b : PushedByte) (homes : List Home) → n < length bytes → b ≡ get_or bytes n b → walks.Beyond ≡ walk_of g b.at m Write → Walking g m bytes n homes → PastMemory ≡ walked g m (map byte_of bytes)
walking_past g m bytes n b homes h is found w = sym (w.is ∙ ap (onto (map home_of homes)) (next_byte g m bytes n b h is ∙ ap (λ x. with_home b.value x (walked g m (map byte_of (drop (n + 1) bytes)))) (sym found)))

pub walking_all : (g : Guest) (m : Mode) (bytes : List PushedByte) (n : ℕ) (homes : List Home) → length bytes ≤ n → Walking g m bytes n homes → Homes (map home_of homes) ≡ walked g m (map byte_of bytes)
walking_all g m bytes n homes h w = sym (w.is ∙ ap (λ (x : List PushedByte). onto (map home_of homes) (walked g m (map byte_of x))) (Rattle.std.proofs.lemmas.List.drop_all n bytes h) ∙ ap Homes (append-nil (map home_of homes)))

-- four bytes pushed one after another
pub pushed_four : (old p1 p2 p3 p4 : List PushedByte) (x0 x1 x2 x3 : PushedByte) (bs : List ℕ) (at long : ℕ) → at < 2 ^ 32 → bs ≡ to_le_bytes w32 long → p1 ≡ old ++ x0 ∷ [] → p2 ≡ p1 ++ x1 ∷ [] → p3 ≡ p2 ++ x2 ∷ [] → p4 ≡ p3 ++ x3 ∷ [] →
    x0 ≡ record { at = at; value = get_or bs 0 0 } → x1 ≡ record { at = (at + 1) % 2 ^ 32; value = get_or bs 1 0 } → x2 ≡ record { at = (at + 2) % 2 ^ 32; value = get_or bs 2 0 } → x3 ≡ record { at = (at + 3) % 2 ^ 32; value = get_or bs 3 0 } →
    map byte_of p4 ≡ map byte_of old ++ bytes_from 4 at long
pushed_four old p1 p2 p3 p4 x0 x1 x2 x3 bs at long small is e1 e2 e3 e4 b0 b1 b2 b3 =
    let all : p4 ≡ old ++ (x0 ∷ x1 ∷ x2 ∷ x3 ∷ []) =
    e4 ∙ ap (λ y. y ++ x3 ∷ []) (e3 ∙ ap (λ y. y ++ x2 ∷ []) (e2 ∙ ap (λ y. y ++ x1 ∷ []) e1 ∙ append_assoc old (x0 ∷ []) (x1 ∷ [])) ∙ append_assoc old (x0 ∷ x1 ∷ []) (x2 ∷ [])) ∙ append_assoc old (x0 ∷ x1 ∷ x2 ∷ []) (x3 ∷ []) in
    let v0 : get_or bs 0 0 ≡ long % 256 = ap (λ x. get_or x 0 0) is ∙ omega arith in
    let v1 : get_or bs 1 0 ≡ long / 256 % 256 = ap (λ x. get_or x 1 0) is ∙ omega arith in
    let v2 : get_or bs 2 0 ≡ long / 256 / 256 % 256 = ap (λ x. get_or x 2 0) is ∙ omega arith in
    let v3 : get_or bs 3 0 ≡ long / 256 / 256 / 256 % 256 = ap (λ x. get_or x 3 0) is ∙ omega arith in
    let a0 : at ≡ at % 2 ^ 32 = omega arith in
    let a2 : (at + 2) % 2 ^ 32 ≡ (at + 1 + 1) % 2 ^ 32 = omega arith in
    let a3 : (at + 3) % 2 ^ 32 ≡ (at + 1 + 1 + 1) % 2 ^ 32 = omega arith in
    let c0 : byte_of x0 ≡ record { at = at % 2 ^ 32; value = long % 256 } = ap byte_of b0 ∙ (λ i. record { at = a0 i; value = v0 i }) in
    let c1 : byte_of x1 ≡ record { at = (at + 1) % 2 ^ 32; value = long / 256 % 256 } = ap byte_of b1 ∙ (λ i. record { at = (at + 1) % 2 ^ 32; value = v1 i }) in
    let c2 : byte_of x2 ≡ record { at = (at + 1 + 1) % 2 ^ 32; value = long / 256 / 256 % 256 } = ap byte_of b2 ∙ (λ i. record { at = a2 i; value = v2 i }) in
    let c3 : byte_of x3 ≡ record { at = (at + 1 + 1 + 1) % 2 ^ 32; value = long / 256 / 256 / 256 % 256 } = ap byte_of b3 ∙ (λ i. record { at = a3 i; value = v3 i }) in
    ap (map byte_of) all ∙ map-append byte_of old (x0 ∷ x1 ∷ x2 ∷ x3 ∷ []) ∙ (λ i. map byte_of old ++ (c0 i ∷ c1 i ∷ c2 i ∷ c3 i ∷ []))

-- Homes in one page.

-- what homes the bytes have that were pushed so far
pub record Placing (page : ℕ) (entry : Option ℕ) (sp : ℕ) (longs : List ℕ) (n at : ℕ) (homes : List Home) : Type 0 where
  pub homes_are : map home_of homes ≡ map (home_in page entry) (pushed_bytes sp (take n longs))
  pub pointer : at ≡ pointer_after sp (take n longs)
  pub size : length homes ≡ 4 * n

pub placing_none : (page : ℕ) (entry : Option ℕ) (sp : ℕ) (longs : List ℕ) → Placing page entry sp longs 0 sp []
placing_none page entry sp longs = record { homes_are = refl; pointer = refl; size = refl }

pub placing_next : (page : ℕ) (entry : Option ℕ) (sp : ℕ) (longs : List ℕ) (n at at' long : ℕ) (homes homes' : List Home) → n < length longs → long ≡ get_or longs n 0 → at' ≡ minus at 4 → map home_of homes' ≡ map home_of homes ++ map (home_in page entry) (bytes_from 4 at' long) → length homes' ≡ length homes + 4 → Placing page entry sp longs n at homes → Placing page entry sp longs (n + 1) at' homes'
placing_next page entry sp longs n at at' long homes homes' h is next more size p =
    let all : take (n + 1) longs ≡ take n longs ++ long ∷ [] = take_more longs n 0 h ∙ ap (λ x. take n longs ++ x ∷ []) (sym is) in
    record {
      homes_are = more ∙ (λ i. p.homes_are i ++ map (home_in page entry) (bytes_from 4 (at_is i) long))
          ∙ sym (ap (λ x. map (home_in page entry) (pushed_bytes sp x)) all ∙ ap (map (home_in page entry)) (pushed_more sp (take n longs) long) ∙ map-append (home_in page entry) (pushed_bytes sp (take n longs)) (bytes_from 4 (minus (pointer_after sp (take n longs)) 4) long));
      pointer = at_is ∙ sym (ap (pointer_after sp) all ∙ pointer_more sp (take n longs) long);
      size = size ∙ ap (λ x. x + 4) p.size ∙ omega arith;
    }
  where
    at_is : at' ≡ minus (pointer_after sp (take n longs)) 4
    at_is = next ∙ ap (λ x. minus x 4) p.pointer

-- four homes placed one after another
pub placed_four : (page : ℕ) (entry : Option ℕ) (old p1 p2 p3 p4 : List Home) (x0 x1 x2 x3 : Home) (bs : List ℕ) (at long : ℕ) → at < 2 ^ 32 → bs ≡ to_le_bytes w32 long → p1 ≡ old ++ x0 ∷ [] → p2 ≡ p1 ++ x1 ∷ [] → p3 ≡ p2 ++ x2 ∷ [] → p4 ≡ p3 ++ x3 ∷ [] →
    x0 ≡ record { place = page + at % 512; entry = entry; value = get_or bs 0 0 } → x1 ≡ record { place = page + (at + 1) % 2 ^ 32 % 512; entry = entry; value = get_or bs 1 0 } → x2 ≡ record { place = page + (at + 2) % 2 ^ 32 % 512; entry = entry; value = get_or bs 2 0 } → x3 ≡ record { place = page + (at + 3) % 2 ^ 32 % 512; entry = entry; value = get_or bs 3 0 } →
    map home_of p4 ≡ map home_of old ++ map (home_in page entry) (bytes_from 4 at long)
placed_four page entry old p1 p2 p3 p4 x0 x1 x2 x3 bs at long small is e1 e2 e3 e4 b0 b1 b2 b3 =
    let all : p4 ≡ old ++ (x0 ∷ x1 ∷ x2 ∷ x3 ∷ []) =
    e4 ∙ ap (λ y. y ++ x3 ∷ []) (e3 ∙ ap (λ y. y ++ x2 ∷ []) (e2 ∙ ap (λ y. y ++ x1 ∷ []) e1 ∙ append_assoc old (x0 ∷ []) (x1 ∷ [])) ∙ append_assoc old (x0 ∷ x1 ∷ []) (x2 ∷ [])) ∙ append_assoc old (x0 ∷ x1 ∷ x2 ∷ []) (x3 ∷ []) in
    let v0 : get_or bs 0 0 ≡ long % 256 = ap (λ x. get_or x 0 0) is ∙ omega arith in
    let v1 : get_or bs 1 0 ≡ long / 256 % 256 = ap (λ x. get_or x 1 0) is ∙ omega arith in
    let v2 : get_or bs 2 0 ≡ long / 256 / 256 % 256 = ap (λ x. get_or x 2 0) is ∙ omega arith in
    let v3 : get_or bs 3 0 ≡ long / 256 / 256 / 256 % 256 = ap (λ x. get_or x 3 0) is ∙ omega arith in
    let a0 : at % 512 ≡ at % 2 ^ 32 % 512 = omega (arith, small) in
    let a2 : (at + 2) % 2 ^ 32 % 512 ≡ (at + 1 + 1) % 2 ^ 32 % 512 = omega arith in
    let a3 : (at + 3) % 2 ^ 32 % 512 ≡ (at + 1 + 1 + 1) % 2 ^ 32 % 512 = omega arith in
    let c0 : home_of x0 ≡ record { place = page + at % 2 ^ 32 % 512; entry = entry; value = long % 256 } = ap home_of b0 ∙ (λ i. record { place = page + a0 i; entry = entry; value = v0 i }) in
    let c1 : home_of x1 ≡ record { place = page + (at + 1) % 2 ^ 32 % 512; entry = entry; value = long / 256 % 256 } = ap home_of b1 ∙ (λ i. record { place = page + (at + 1) % 2 ^ 32 % 512; entry = entry; value = v1 i }) in
    let c2 : home_of x2 ≡ record { place = page + (at + 1 + 1) % 2 ^ 32 % 512; entry = entry; value = long / 256 / 256 % 256 } = ap home_of b2 ∙ (λ i. record { place = page + a2 i; entry = entry; value = v2 i }) in
    let c3 : home_of x3 ≡ record { place = page + (at + 1 + 1 + 1) % 2 ^ 32 % 512; entry = entry; value = long / 256 / 256 / 256 % 256 } = ap home_of b3 ∙ (λ i. record { place = page + a3 i; entry = entry; value = v3 i }) in
    ap (map home_of) all ∙ map-append home_of old (x0 ∷ x1 ∷ x2 ∷ x3 ∷ []) ∙ (λ i. map home_of old ++ (c0 i ∷ c1 i ∷ c2 i ∷ c3 i ∷ []))
