-- Names and the texts of classes are ASCII, and so are texts.
use Rattle.std.proofs.Common.{◌≡◌, ◌≤◌, ◌<◌, ◌+◌, ℕ, zero, suc, Bool, true, false, ◌&&◌, ◌||◌, nat_le, List, [], ◌∷◌, length, codes, filter, decimal, IsUtf8, if◌then◌else◌, refl, arith}
use Rattle.std.specs.Str.{IsAscii}
use Rattle.std.specs.List.{list_all, range_with_len}
use Rattle.std.proofs.lemmas.Str.{IsUtf8-from_ascii, IsAscii-append}
use Rattle.std.proofs.lemmas.Str.Ascii.{IsAscii-nil}
use Rattle.std.proofs.lemmas.Fmt.{IsAscii-decimal}
use Rattle.std.proofs.lemmas.Bool.{leb-true}
use Rattle.vv_base.specs.Names.{is_letter, is_name_character, is_object_name, is_graphic, is_file_name}
use Rattle.vv_class.specs.declared.class.AccessClass.{AccessClass}
use Rattle.vv_class.specs.Class.{IsClass}
use Rattle.vv_base.specs.Bits.{is_set}
use Rattle.vv_class.specs.Text.{class_text, half_text, listed, categories_below}

one : (b : ℕ) → b < 128 → IsAscii (b ∷ [])
one b below zero = below
one b below (suc i) = omega arith

cons : (b : ℕ) (bytes : List ℕ) → b < 128 → IsAscii bytes → IsAscii (b ∷ bytes)
cons b bytes below rest = IsAscii-append (b ∷ []) bytes (one b below) rest

both : (x y : Bool) → (x && y) ≡ true → (x ≡ true) × (y ≡ true)
both true y e = (refl, e)
both false y e = cc

all_ascii : (test : ℕ → Bool) → ((b : ℕ) → test b ≡ true → b < 128) → (bytes : List ℕ) → list_all test bytes ≡ true → IsAscii bytes
all_ascii test low [] e = IsAscii-nil
all_ascii test low (b ∷ bytes) e = let parts = both (test b) (list_all test bytes) e in cons b bytes (low b parts.0) (all_ascii test low bytes parts.1)

letter : (b : ℕ) → is_letter b ≡ true → b < 128
letter b e = omega (arith, leb-true b 0x5a (both _ _ e).1)

either : (x y : Bool) (P : Type 0) → (x || y) ≡ true → (x ≡ true → P) → (y ≡ true → P) → P
either true y P e left right = left refl
either false y P e left right = right e

name_character : (b : ℕ) → is_name_character b ≡ true → b < 128
name_character b e = either (is_letter b) (nat_le 0x30 b && nat_le b 0x39) (b < 128) e (letter b) (λ d. omega (arith, leb-true b 0x39 (both _ _ d).1))

graphic : (b : ℕ) → is_graphic b ≡ true → b < 128
graphic b e = omega (arith, leb-true b 0x7e (both _ _ e).1)

pub name_utf8 : (name : List ℕ) → is_object_name name ≡ true → IsUtf8 name
name_utf8 [] e = cc
name_utf8 (b ∷ bytes) e =
    let parts = both (is_letter b && list_all is_name_character bytes) (nat_le (length bytes) 7) e in
    let front = both (is_letter b) (list_all is_name_character bytes) parts.0 in
    IsUtf8-from_ascii (b ∷ bytes) (cons b bytes (letter b front.0) (all_ascii is_name_character name_character bytes front.1))

pub file_utf8 : (name : List ℕ) → is_file_name name ≡ true → IsUtf8 name
file_utf8 name e = IsUtf8-from_ascii name (all_ascii is_graphic graphic name (both _ (list_all is_graphic name) e).1)

Below : List ℕ → Type 0
Below [] = Unit {0}
Below (k ∷ ks) = (k < 64) × Below ks

kept : (k : ℕ) (ks : List ℕ) → k < 64 → Below ks → (x : Bool) → Below (if x then k ∷ ks else ks)
unfolding Below
kept k ks below b true = (below, b)
kept k ks below b false = b

below_filter : (test : ℕ → Bool) (ks : List ℕ) → Below ks → Below (filter test ks)
unfolding Below
below_filter test [] b = tt
below_filter test (k ∷ ks) b = kept k (filter test ks) b.0 (below_filter test ks b.1) (test k)

below_range : (n a : ℕ) → a + n ≤ 64 → Below (range_with_len a n)
unfolding Below
below_range zero a h = tt
below_range (suc n) a h = (omega arith, below_range n (a + 1) (omega arith))

listed_ascii : (ks : List ℕ) → Below ks → IsAscii (listed ks)
unfolding Below
listed_ascii [] b = IsAscii-nil
listed_ascii (k ∷ []) b = IsAscii-decimal k (omega (arith, b.0))
listed_ascii (k ∷ j ∷ ks) b = IsAscii-append (decimal k) (44 ∷ listed (j ∷ ks)) (IsAscii-decimal k (omega (arith, b.0))) (cons 44 _ (omega arith) (listed_ascii (j ∷ ks) b.1))

half_ascii : (level cats : ℕ) → level < 256 → IsAscii (half_text level cats)
unfolding categories_below
half_ascii level cats below =
    let set : IsAscii (listed (categories_below 64 cats)) = listed_ascii _ (below_filter (is_set cats) (range_with_len 0 64) (below_range 64 0 (omega arith))) in
    IsAscii-append _ (codes "}") (IsAscii-append _ (listed (categories_below 64 cats)) (IsAscii-append (decimal level) (codes "{") (IsAscii-decimal level (omega arith)) (one 123 (omega arith))) set) (one 125 (omega arith))

pub class_utf8 : (c : AccessClass) → IsClass c → IsUtf8 (class_text c)
unfolding class_text
class_utf8 c is =
    IsUtf8-from_ascii _ (IsAscii-append _ (half_text c.integrity c.integrity_cats)
    (IsAscii-append (half_text c.secrecy c.secrecy_cats) (codes ";") (half_ascii c.secrecy c.secrecy_cats is.secrecy) (one 59 (omega arith)))
    (half_ascii c.integrity c.integrity_cats is.integrity))
