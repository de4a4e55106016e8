-- A reading that gives a value took the bytes that the value is written as.
use Rattle.std.proofs.Common.{ℕ, zero, suc, ◌≡◌, ◌≤◌, ◌<◌, ◌+◌, ◌-◌, ◌*◌, ◌/◌, ◌%◌, ◌^◌, ◌==◌, nat_le, List, [], ◌∷◌, ◌++◌, length, take, drop, replicate, refl, sym, ◌∙◌, ap, subst, arith, cond, Bool, true, false, Option, Some, None, append_assoc}
use Rattle.std.specs.Prelude.{Result, Ok, Err, IfOk, IfSome, flat_map, slice_index, All}
use Rattle.std.specs.List.{AllZip, list_all}
use Rattle.std.proofs.lemmas.Bool.{and_parts, cond_both, eqb-true, leb-true}
use Rattle.std.proofs.lemmas.List.{length-drop, length-take-le, take-append-drop}
use Rattle.std.proofs.lemmas.List.Elements.{All-cons, All-head, All-nil, All-tail, All-take}
use Rattle.vv_base.specs.Bytes.{long_at, long_bytes, word_at, word_bytes}
use Rattle.sys_snap.specs.Conditions.{any, is_packet}
use Rattle.sys_snap.specs.Reader.{halt_in, longs_in, packets_in, waiting_in}
use Rattle.sys_snap.specs.Reading.{Got, Reading, Rest, ◌>>=◌, done, each, fault_at, field, flag, flag_if, four, continued_by, field_meaning, number_if, one, times, two}
use Rattle.sys_snap.specs.Written.{flag_byte, longs, place_byte}
use Rattle.sys_snap.specs.declared.fault.SnapFault.{SnapFault}
use Rattle.vm_state.specs.Allowed.{IsPacket}
use Rattle.vm_state.specs.Stops.{IsHalt, is_stop_code}

abbrev pub AreBytes : List ℕ → Type 0
AreBytes bytes = All (λ b. b < 256) bytes

-- bytes were taken from the front, and go with the value
pub record Took {A : Type 0} (U : List ℕ → A → Type 0) (bytes : List ℕ) (g : Got A) : Type 0 where
  pub taken : List ℕ
  pub is : bytes ≡ taken ++ g.rest.bytes
  pub means : U taken g.value

-- where a reading gives a value, it took bytes that go with it
pub record Gives {A : Type 0} (p : Reading A) (U : List ℕ → A → Type 0) : Type 0 where
  pub gives : (r : Rest) → AreBytes r.bytes → IfOk (p r) (Took U r.bytes)

-- they are those that the value is written as, and it is allowed
abbrev pub By : {A : Type 0} → (A → List ℕ) → (A → Type 0) → List ℕ → A → Type 0
By write R w x = (w ≡ write x) × R x

-- one after another
pub left_are : (v w : List ℕ) → AreBytes (v ++ w) → AreBytes w
left_are [] w are = are
left_are (b ∷ v) w are = left_are v w (All-tail (λ b. b < 256) b (v ++ w) are)

further : {A B : Type 0} (V : List ℕ → A → Type 0) (U : List ℕ → B → Type 0) (bytes : List ℕ) (g : Got A) (t : Took V bytes g) (q : Result (Got B) SnapFault) → IfOk q (Took (λ w y. U (t.taken ++ w) y) g.rest.bytes) → IfOk q (Took U bytes)
further V U bytes g t (Err e) h = tt
further V U bytes g t (Ok k) h = record { taken = t.taken ++ h.taken; is = t.is ∙ ap (λ bs. t.taken ++ bs) h.is ∙ sym (append_assoc t.taken h.taken k.rest.bytes); means = h.means }

then_took : {A B : Type 0} (f : A → Reading B) (V : List ℕ → A → Type 0) (U : List ℕ → B → Type 0) (bytes : List ℕ) → AreBytes bytes → ((x : A) (v : List ℕ) → V v x → Gives (f x) (λ w y. U (v ++ w) y)) → (q : Result (Got A) SnapFault) → IfOk q (Took V bytes) → IfOk (continued_by f q) (Took U bytes)
then_took f V U bytes are next (Err e) t = tt
then_took f V U bytes are next (Ok g) t =
    let left : AreBytes g.rest.bytes = left_are t.taken g.rest.bytes (subst AreBytes t.is are) in
    further V U bytes g t (f g.value g.rest) ((next g.value t.taken t.means).gives g.rest left)

pub gives_then : {A B : Type 0} (p : Reading A) (f : A → Reading B) (V : List ℕ → A → Type 0) (U : List ℕ → B → Type 0) → Gives p V → ((x : A) (v : List ℕ) → V v x → Gives (f x) (λ w y. U (v ++ w) y)) → Gives (p >>= f) U
gives_then p f V U first next = record { gives = λ r are. then_took f V U r.bytes are next (p r) (first.gives r are) }

pub gives_next : {A B : Type 0} (p : Reading A) (f : A → Reading B) (write : A → List ℕ) (R : A → Type 0) (U : List ℕ → B → Type 0) → Gives p (By write R) → ((x : A) → R x → Gives (f x) (λ w y. U (write x ++ w) y)) → Gives (p >>= f) U
gives_next p f write R U first next = gives_then p f (By write R) U first (λ x v h. subst (λ bs. Gives (f x) (λ w y. U (bs ++ w) y)) (sym h.0) (next x h.1))

pub gives_done : {A : Type 0} (x : A) (U : List ℕ → A → Type 0) → U [] x → Gives (done x) U
gives_done x U means = record { gives = λ r are. record { taken = []; is = refl; means = means } }

-- the last of several
last_took : {A B : Type 0} (f : A → B) (V : List ℕ → A → Type 0) (U : List ℕ → B → Type 0) (bytes : List ℕ) → ((x : A) (v : List ℕ) → V v x → U v (f x)) → (q : Result (Got A) SnapFault) → IfOk q (Took V bytes) → IfOk (continued_by (λ y. done (f y)) q) (Took U bytes)
last_took f V U bytes last (Err e) t = tt
last_took f V U bytes last (Ok g) t = record { taken = t.taken; is = t.is; means = last g.value t.taken t.means }

pub gives_last : {A B : Type 0} (p : Reading A) (f : A → B) (write : A → List ℕ) (R : A → Type 0) (U : List ℕ → B → Type 0) → Gives p (By write R) → ((x : A) → R x → U (write x) (f x)) → Gives (p >>= λ y. done (f y)) U
gives_last p f write R U first last = record { gives = λ r are. last_took f (By write R) U r.bytes (λ x v h. subst (λ bs. U bs (f x)) (sym h.0) (last x h.1)) (p r) (first.gives r are) }

-- the same, in another form
weaker_took : {A : Type 0} (V U : List ℕ → A → Type 0) (bytes : List ℕ) → ((x : A) (v : List ℕ) → V v x → U v x) → (q : Result (Got A) SnapFault) → IfOk q (Took V bytes) → IfOk q (Took U bytes)
weaker_took V U bytes so (Err e) t = tt
weaker_took V U bytes so (Ok g) t = record { taken = t.taken; is = t.is; means = so g.value t.taken t.means }

pub gives_weaker : {A : Type 0} (p : Reading A) (V U : List ℕ → A → Type 0) → Gives p V → ((x : A) (v : List ℕ) → V v x → U v x) → Gives p U
gives_weaker p V U first so = record { gives = λ r are. weaker_took V U r.bytes so (p r) (first.gives r are) }

-- a field
meant_took : {A : Type 0} (size : ℕ) (U : List ℕ → A → Type 0) (r : Rest) (o : Option A) → IfSome o (U (take size r.bytes)) → IfOk (field_meaning size r o) (Took U r.bytes)
meant_took size U r None means = tt
meant_took size U r (Some x) means = record { taken = take size r.bytes; is = sym (take-append-drop size r.bytes); means = means }

pub gives_field : {A : Type 0} (size : ℕ) (meaning : List ℕ → Option A) (U : List ℕ → A → Type 0) → ((w : List ℕ) → length w ≡ size → AreBytes w → IfSome (meaning w) (U w)) → Gives (field size meaning) U
gives_field size meaning U means = record {
  gives = λ r are. cond_both (nat_le size (length r.bytes)) (field_meaning size r (meaning (take size r.bytes))) (fault_at r.at) (λ q. IfOk q (Took U r.bytes))
      (λ enough.
      let long : length (take size r.bytes) ≡ size = length-take-le size r.bytes (leb-true size (length r.bytes) enough) in
      meant_took size U r (meaning (take size r.bytes)) (means (take size r.bytes) long (All-take (λ b. b < 256) size r.bytes are)))
      (λ short. tt);
}

-- numbers of one, two and four bytes
one_is : (w : List ℕ) → length w ≡ 1 → w ≡ slice_index w 0 ∷ []
one_is [] long = absurd (omega (arith, long))
one_is (a ∷ []) long = refl
one_is (a ∷ b ∷ w) long = absurd (omega (arith, long))

two_is : (w : List ℕ) → length w ≡ 2 → AreBytes w → w ≡ word_bytes (word_at w 0)
two_is [] long are = absurd (omega (arith, long))
two_is (a ∷ []) long are = absurd (omega (arith, long))
two_is (a ∷ b ∷ []) long are =
    let short : a < 256 = All-head (λ b. b < 256) a (b ∷ []) are in
    let low : a ≡ (a + 256 * b) % 256 = omega arith in
    let high : b ≡ (a + 256 * b) / 256 = omega arith in
    λ i. low i ∷ high i ∷ []
two_is (a ∷ b ∷ c ∷ w) long are = absurd (omega (arith, long))

four_is : (w : List ℕ) → length w ≡ 4 → AreBytes w → (w ≡ long_bytes (long_at w 0)) × (long_at w 0 < 2 ^ 32)
four_is [] long are = absurd (omega (arith, long))
four_is (a ∷ []) long are = absurd (omega (arith, long))
four_is (a ∷ b ∷ []) long are = absurd (omega (arith, long))
four_is (a ∷ b ∷ c ∷ []) long are = absurd (omega (arith, long))
four_is (a ∷ b ∷ c ∷ d ∷ []) long are =
    let P : ℕ → Type 0 = λ n. n < 256 in
    let first : a < 256 = All-head P a (b ∷ c ∷ d ∷ []) are in
    let are1 : All P (b ∷ c ∷ d ∷ []) = All-tail P a (b ∷ c ∷ d ∷ []) are in
    let second : b < 256 = All-head P b (c ∷ d ∷ []) are1 in
    let are2 : All P (c ∷ d ∷ []) = All-tail P b (c ∷ d ∷ []) are1 in
    let third : c < 256 = All-head P c (d ∷ []) are2 in
    let fourth : d < 256 = All-head P d [] (All-tail P c (d ∷ []) are2) in
    of_four a b c d first second third fourth
  where
    of_four : (a b c d : ℕ) → a < 256 → b < 256 → c < 256 → d < 256 → (a ∷ b ∷ c ∷ d ∷ [] ≡ long_bytes (long_at (a ∷ b ∷ c ∷ d ∷ []) 0)) × (long_at (a ∷ b ∷ c ∷ d ∷ []) 0 < 2 ^ 32)
    of_four a b c d first second third fourth =
        let n : ℕ = a + 256 * b + 65536 * c + 16777216 * d in
        let e0 : a ≡ (a + 256 * b + 65536 * c + 16777216 * d) % 256 = omega arith in
        let e1 : b ≡ (a + 256 * b + 65536 * c + 16777216 * d) / 256 % 256 = omega arith in
        let e2 : c ≡ (a + 256 * b + 65536 * c + 16777216 * d) / 65536 % 256 = omega arith in
        let e3 : d ≡ (a + 256 * b + 65536 * c + 16777216 * d) / 16777216 = omega arith in
        (λ i. e0 i ∷ e1 i ∷ e2 i ∷ e3 i ∷ [], omega arith)
four_is (a ∷ b ∷ c ∷ d ∷ e ∷ w) long are = absurd (omega (arith, long))

abbrev pub Passes : (ℕ → Bool) → ℕ → Type 0
Passes ok n = ok n ≡ true

if_passes : (ok : ℕ → Bool) (n : ℕ) (P : ℕ → Type 0) → (ok n ≡ true → P n) → IfSome (number_if ok n) P
if_passes ok n P so = cond_both (ok n) (Some n) None (λ o. IfSome o P) so (λ fails. tt)

pub gives_one : (ok : ℕ → Bool) → Gives (one ok) (By (λ n. n ∷ []) (Passes ok))
gives_one ok = gives_field 1 (λ b. number_if ok (slice_index b 0)) (By (λ n. n ∷ []) (Passes ok))
    (λ w long are. if_passes ok (slice_index w 0) (By (λ n. n ∷ []) (Passes ok) w) (λ passes. (one_is w long, passes)))

pub gives_two : (ok : ℕ → Bool) → Gives (two ok) (By word_bytes (Passes ok))
gives_two ok = gives_field 2 (λ b. number_if ok (word_at b 0)) (By word_bytes (Passes ok))
    (λ w long are. if_passes ok (word_at w 0) (By word_bytes (Passes ok) w) (λ passes. (two_is w long are, passes)))

-- a longword that passes
pub record IsLong (ok : ℕ → Bool) (n : ℕ) : Type 0 where
  pub passes : ok n ≡ true
  pub short : n < 2 ^ 32

pub gives_four : (ok : ℕ → Bool) → Gives (four ok) (By long_bytes (IsLong ok))
gives_four ok = gives_field 4 (λ b. number_if ok (long_at b 0)) (By long_bytes (IsLong ok))
    (λ w long are. if_passes ok (long_at w 0) (By long_bytes (IsLong ok) w) (λ passes. let is = four_is w long are in (is.0, record { passes = passes; short = is.1 })))

-- a flag
flag_means : (ok : Bool → Bool) (n : ℕ) → IfSome (flag_if ok n) (λ f. (n ∷ [] ≡ flag_byte f) × (ok f ≡ true))
flag_means ok n =
    let U : Bool → Type 0 = λ f. (n ∷ [] ≡ flag_byte f) × (ok f ≡ true) in
    cond_both (n == 0) (cond (ok false) (Some false) None) (cond (n == 1) (cond (ok true) (Some true) None) None) (λ o. IfSome o U)
    (λ is. cond_both (ok false) (Some false) None (λ o. IfSome o U) (λ passes. (ap (λ b. b ∷ []) (eqb-true n 0 is), passes)) (λ fails. tt))
    (λ other. cond_both (n == 1) (cond (ok true) (Some true) None) None (λ o. IfSome o U)
    (λ is. cond_both (ok true) (Some true) None (λ o. IfSome o U) (λ passes. (ap (λ b. b ∷ []) (eqb-true n 1 is), passes)) (λ fails. tt))
    (λ none. tt))

pub gives_flag : (ok : Bool → Bool) → Gives (flag ok) (By flag_byte (λ f. ok f ≡ true))
gives_flag ok = gives_field 1 (λ b. flag_if ok (slice_index b 0)) (By flag_byte (λ f. ok f ≡ true))
    (λ w long are. subst (λ bs. IfSome (flag_if ok (slice_index w 0)) (λ f. (bs ≡ flag_byte f) × (ok f ≡ true))) (sym (one_is w long)) (flag_means ok (slice_index w 0)))

-- n of a kind, and one for each of a list
pub record AreSo {A : Type 0} (R : A → Type 0) (n : ℕ) (xs : List A) : Type 0 where
  pub many : length xs ≡ n
  pub each : All R xs

pub gives_times : {A : Type 0} (p : Reading A) (write : A → List ℕ) (R : A → Type 0) (n : ℕ) → Gives p (By write R) → Gives (times n p) (By (λ xs. flat_map write xs) (AreSo R n))
gives_times p write R zero first = gives_done [] _ (refl, record { many = refl; each = All-nil R })
gives_times p write R (suc n) first =
    gives_next p _ write R _ first (λ x is.
    gives_last (times n p) (λ xs. x ∷ xs) (λ xs. flat_map write xs) (AreSo R n) _ (gives_times p write R n first) (λ xs are.
    (refl, record { many = omega (arith, are.many); each = All-cons R x xs is are.each })))

pub gives_each : {A B : Type 0} (p : A → Reading B) (write : B → List ℕ) (R : A → B → Type 0) → ((x : A) → Gives (p x) (By write (R x))) → (xs : List A) → Gives (each p xs) (By (λ ys. flat_map write ys) (AllZip R xs))
gives_each p write R reads [] = gives_done [] _ (refl, tt)
gives_each p write R reads (x ∷ xs) =
    gives_next (p x) _ write (R x) _ (reads x) (λ y is.
    gives_last (each p xs) (λ ys. y ∷ ys) (λ ys. flat_map write ys) (AllZip R xs) _ (gives_each p write R reads xs) (λ ys are. (refl, (is, are))))

-- k longwords of any value
pub gives_longs : (k : ℕ) → Gives (longs_in k) (By longs (λ ns. length ns ≡ k))
unfolding longs_in
gives_longs k = gives_weaker (times k (four any)) (By longs (AreSo (IsLong any) k)) (By longs (λ ns. length ns ≡ k)) (gives_times (four any) long_bytes (IsLong any) k (gives_four any)) (λ ns v h. (h.0, h.1.many))

-- all of them are one number
pub all_are : (v : ℕ) (xs : List ℕ) → list_all (λ b. b == v) xs ≡ true → xs ≡ replicate (length xs) v
all_are v [] each = refl
all_are v (x ∷ xs) each =
    let parts : ((x == v) ≡ true) × (list_all (λ b. b == v) xs ≡ true) = and_parts (x == v) (list_all (λ b. b == v) xs) each in
    let first : x ≡ v = eqb-true x v parts.0 in
    let rest : xs ≡ replicate (length xs) v = all_are v xs parts.1 in
    λ i. first i ∷ rest i

-- bytes that wait, and zeros after them
pub gives_waiting : (n : ℕ) → n ≤ 256 → Gives (field 256 (waiting_in n)) (By (λ w. w ++ replicate (256 - n) 0) (λ w. length w ≡ n))
gives_waiting n few =
    let U : List ℕ → List ℕ → Type 0 = By (λ w. w ++ replicate (256 - n) 0) (λ w. length w ≡ n) in
    gives_field 256 (waiting_in n) U (λ w long are.
    cond_both (list_all (λ b. b == 0) (drop n w)) (Some (take n w)) None (λ o. IfSome o (U w))
    (λ zeros.
    let left : length (drop n w) ≡ 256 - n = length-drop n w ∙ ap (λ k. k - n) long in
    let back : drop n w ≡ replicate (256 - n) 0 = all_are 0 (drop n w) zeros ∙ ap (λ k. replicate k 0) left in
    let front : length (take n w) ≡ n = length-take-le n w (omega (arith, few, long)) in
    (sym (take-append-drop n w) ∙ ap (λ bs. take n w ++ bs) back, front))
    (λ others. tt))

-- packets that wait, and zeros after them
gives_no_packets : (size places : ℕ) → Gives (packets_in size 0 places) (By (λ ps. replicate (4 * places) 0) (λ ps. ps ≡ []))
gives_no_packets size zero = gives_done [] _ (refl, refl)
gives_no_packets size (suc places) =
    let more : suc (suc (suc (suc (4 * places)))) ≡ 4 * suc places = omega arith in
    gives_next (four (λ v. v == 0)) _ long_bytes (IsLong (λ v. v == 0)) _ (gives_four (λ v. v == 0)) (λ n is.
    gives_weaker (packets_in size 0 places) _ _ (gives_no_packets size places) (λ ps v h.
    (ap (λ k. long_bytes k ++ v) (eqb-true n 0 is.passes) ∙ ap (λ bs. long_bytes 0 ++ bs) h.0 ∙ ap (λ k. replicate k 0) more, h.1)))

packet_is : (size p : ℕ) → is_packet size p ≡ true → IsPacket size p
packet_is size p passes =
    let parts : ((p % 4 == 0) ≡ true) × (nat_le (p + 24) size ≡ true) = and_parts (p % 4 == 0) (nat_le (p + 24) size) passes in
    (eqb-true (p % 4) 0 parts.0, leb-true (p + 24) size parts.1)

pub gives_packets : (size count places : ℕ) → count ≤ places → Gives (packets_in size count places) (By (λ ps. longs ps ++ replicate (4 * (places - count)) 0) (AreSo (IsPacket size) count))
gives_packets size zero places few =
    let left : places ≡ places - 0 = omega arith in
    gives_weaker (packets_in size 0 places) (By (λ ps. replicate (4 * places) 0) (λ ps. ps ≡ [])) _ (gives_no_packets size places) (λ ps v h.
    subst (λ qs. By (λ xs. longs xs ++ replicate (4 * (places - 0)) 0) (AreSo (IsPacket size) 0) v qs) (sym h.1)
    (h.0 ∙ ap (λ k. replicate (4 * k) 0) left, record { many = refl; each = All-nil (IsPacket size) }))
gives_packets size (suc count) zero few = absurd (omega (arith, few))
gives_packets size (suc count) (suc places) few =
    let left : places - count ≡ suc places - suc count = omega arith in
    gives_next (four (is_packet size)) _ long_bytes (IsLong (is_packet size)) _ (gives_four (is_packet size)) (λ p is.
    gives_last (packets_in size count places) (λ ps. p ∷ ps) (λ ps. longs ps ++ replicate (4 * (places - count)) 0) (AreSo (IsPacket size) count) _ (gives_packets size count places (omega (arith, few))) (λ ps are.
    (ap (λ k. long_bytes p ++ (longs ps ++ replicate (4 * k) 0)) left, record { many = omega (arith, are.many); each = All-cons (IsPacket size) p ps (packet_is size p is.passes) are.each })))

-- a stop code, or FF
halt_means : (n : ℕ) → IfSome (cond (n == 255) (Some None) (cond (is_stop_code n) (Some (Some n)) None)) (λ halt. (n ∷ [] ≡ place_byte halt ∷ []) × IsHalt halt)
halt_means n =
    let U : Option ℕ → Type 0 = λ halt. (n ∷ [] ≡ place_byte halt ∷ []) × IsHalt halt in
    cond_both (n == 255) (Some None) (cond (is_stop_code n) (Some (Some n)) None) (λ o. IfSome o U)
    (λ is. (ap (λ b. b ∷ []) (eqb-true n 255 is), tt))
    (λ other. cond_both (is_stop_code n) (Some (Some n)) None (λ o. IfSome o U) (λ stops. (refl, stops)) (λ none. tt))

pub gives_halt : Gives (field 1 halt_in) (By (λ halt. place_byte halt ∷ []) IsHalt)
gives_halt = gives_field 1 halt_in (By (λ halt. place_byte halt ∷ []) IsHalt)
    (λ w long are. subst (λ bs. IfSome (halt_in w) (λ halt. (bs ≡ place_byte halt ∷ []) × IsHalt halt)) (sym (one_is w long)) (halt_means (slice_index w 0)))
