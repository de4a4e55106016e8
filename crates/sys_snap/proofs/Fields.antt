-- A reading of bytes that were written: it gives what they were written of.
use Rattle.std.proofs.Common.{ℕ, zero, suc, ◌≡◌, ◌≤◌, ◌+◌, ◌-◌, ◌*◌, ◌==◌, nat_le, List, [], ◌∷◌, ◌++◌, length, take, drop, replicate, refl, sym, ◌∙◌, ap, subst, arith, Bool, true, false, Option, Some, None, append_assoc}
use Rattle.std.specs.Prelude.{Result, Ok, slice_index, All, IfSome}
use Rattle.std.specs.List.{list_all}
use Rattle.std.proofs.lemmas.List.{take_at, drop_at, length-append, length-replicate}
use Rattle.std.proofs.lemmas.Bool.{false≢true, le-leb, ne_eqb}
use Rattle.std.proofs.lemmas.List.Elements.{All-head, All-tail}
use Rattle.vv_base.specs.Bytes.{long_at, long_bytes, word_at, word_bytes}
use Rattle.sys_snap.specs.Reading.{Got, Reading, Rest, ◌>>=◌, done, field, flag, flag_if, four, continued_by, number_if, one, times, two}
use Rattle.sys_snap.specs.Conditions.{any, is_packet}
use Rattle.sys_snap.specs.Reader.{halt_in, longs_in, packets_in, waiting_in}
use Rattle.sys_snap.specs.Written.{flag_byte, longs, place_byte}
use Rattle.sys_snap.specs.declared.fault.SnapFault.{SnapFault}
use Rattle.vm_state.specs.Allowed.{IsPacket}
use Rattle.vm_state.specs.Stops.{is_stop_code}

abbrev pub rest_at : ℕ → List ℕ → Rest
rest_at at bytes = record { at = at; bytes = bytes }

abbrev pub got : {A : Type 0} → A → ℕ → List ℕ → Result (Got A) SnapFault
got value at bytes = Ok (record { value = value; rest = rest_at at bytes })

-- bytes that are read as a value, wherever they are and whatever follows
pub record ReadsAs {A : Type 0} (p : Reading A) (w : List ℕ) (value : A) : Type 0 where
  pub reads : (at : ℕ) (rest : List ℕ) → p (rest_at at (w ++ rest)) ≡ got value (at + length w) rest

pub reads_then : {A B : Type 0} (p : Reading A) (f : A → Reading B) (v w : List ℕ) (x : A) (y : B) → ReadsAs p v x → ReadsAs (f x) w y → ReadsAs (p >>= f) (v ++ w) y
reads_then p f v w x y first second = record {
  reads = λ at rest.
      let place : (at + length v) + length w ≡ at + length (v ++ w) = omega (arith, length-append v w) in
      ap (λ bytes. (p >>= f) (rest_at at bytes)) (append_assoc v w rest)
      ∙ ap (continued_by f) (first.reads at (w ++ rest))
      ∙ second.reads (at + length v) rest
      ∙ ap (λ k. got y k rest) place;
}

-- the last of several
pub reads_last : {A B : Type 0} (p : Reading A) (f : A → B) (v : List ℕ) (x : A) → ReadsAs p v x → ReadsAs (p >>= λ y. done (f y)) v (f x)
reads_last p f v x first = record { reads = λ at rest. ap (continued_by (λ y. done (f y))) (first.reads at rest) }

pub reads_field : {A : Type 0} (size : ℕ) (meaning : List ℕ → Option A) (w : List ℕ) (value : A) → length w ≡ size → meaning w ≡ Some value → ReadsAs (field size meaning) w value
reads_field size meaning w value long means = record {
  reads = λ at rest.
      let all : length (w ++ rest) ≡ length w + length rest = length-append w rest in
      let enough : nat_le size (length (w ++ rest)) ≡ true = le-leb size (length (w ++ rest)) (omega (arith, all, long)) in
      let front : take size (w ++ rest) ≡ w = take_at w rest size long in
      let back : drop size (w ++ rest) ≡ rest = drop_at w rest size long in
      rw enough (rw front (rw means (rw back (rw long refl))));
}

-- numbers of one, two and four bytes
pub reads_one : (ok : ℕ → Bool) (n : ℕ) → ok n ≡ true → ReadsAs (one ok) (n ∷ []) n
reads_one ok n passes = reads_field 1 (λ b. number_if ok (slice_index b 0)) (n ∷ []) n refl (rw passes refl)

word_back : (n : ℕ) → word_at (word_bytes n) 0 ≡ n
word_back n = omega arith

long_back : (n : ℕ) → long_at (long_bytes n) 0 ≡ n
long_back n = omega arith

pub reads_two : (ok : ℕ → Bool) (n : ℕ) → ok n ≡ true → ReadsAs (two ok) (word_bytes n) n
reads_two ok n passes = reads_field 2 (λ b. number_if ok (word_at b 0)) (word_bytes n) n refl (ap (number_if ok) (word_back n) ∙ rw passes refl)

pub reads_four : (ok : ℕ → Bool) (n : ℕ) → ok n ≡ true → ReadsAs (four ok) (long_bytes n) n
reads_four ok n passes = reads_field 4 (λ b. number_if ok (long_at b 0)) (long_bytes n) n refl (ap (number_if ok) (long_back n) ∙ rw passes refl)

-- a flag
pub reads_flag : (ok : Bool → Bool) (f : Bool) → ok f ≡ true → ReadsAs (flag ok) (flag_byte f) f
reads_flag ok true passes = reads_field 1 (λ b. flag_if ok (slice_index b 0)) (flag_byte true) true refl (rw passes refl)
reads_flag ok false passes = reads_field 1 (λ b. flag_if ok (slice_index b 0)) (flag_byte false) false refl (rw passes refl)

-- nothing
pub reads_none : {A : Type 0} (value : A) → ReadsAs (done value) [] value
reads_none value = record { reads = λ at rest. let same : at ≡ at + 0 = omega arith in ap (λ k. got value k rest) same }

-- k longwords of any value
times_longs : (k : ℕ) (ns : List ℕ) → length ns ≡ k → ReadsAs (times k (four any)) (longs ns) ns
times_longs zero [] h = reads_none []
times_longs zero (n ∷ ns) h = absurd (omega (arith, h))
times_longs (suc k) [] h = absurd (omega (arith, h))
times_longs (suc k) (n ∷ ns) h =
    reads_then (four any) _ (long_bytes n) (longs ns) n (n ∷ ns) (reads_four any n refl)
    (reads_last (times k (four any)) (λ xs. n ∷ xs) (longs ns) ns (times_longs k ns (omega (arith, h))))

pub reads_longs : (k : ℕ) (ns : List ℕ) → length ns ≡ k → ReadsAs (longs_in k) (longs ns) ns
unfolding longs_in
reads_longs k ns h = times_longs k ns h

-- bytes that wait, and zeros after them
padded : (n k : ℕ) → list_all (λ b. b == 0) (replicate k 0) ≡ true
padded n zero = refl
padded n (suc k) = padded n k

waiting_means : (w : List ℕ) (k : ℕ) → waiting_in (length w) (w ++ replicate k 0) ≡ Some w
waiting_means w k =
    let front : take (length w) (w ++ replicate k 0) ≡ w = take_at w (replicate k 0) (length w) refl in
    let back : drop (length w) (w ++ replicate k 0) ≡ replicate k 0 = drop_at w (replicate k 0) (length w) refl in
    rw back (rw (padded 0 k) (ap Some front))

pub reads_waiting : (w : List ℕ) → length w ≤ 256 → ReadsAs (field 256 (waiting_in (length w))) (w ++ replicate (256 - length w) 0) w
reads_waiting w few =
    let long : length (w ++ replicate (256 - length w) 0) ≡ 256 = omega (arith, length-append w (replicate (256 - length w) 0), length-replicate {A = ℕ} (256 - length w) 0, few) in
    reads_field 256 (waiting_in (length w)) (w ++ replicate (256 - length w) 0) w long (waiting_means w (256 - length w))

-- packets that wait, and zeros after them
no_packets : (size places : ℕ) → ReadsAs (packets_in size 0 places) (replicate (4 * places) 0) []
no_packets size zero = reads_none []
no_packets size (suc places) =
    let more : 4 * suc places ≡ suc (suc (suc (suc (4 * places)))) = omega arith in
    subst (λ k. ReadsAs (packets_in size 0 (suc places)) (replicate k 0) []) (sym more)
    (reads_then (four (λ v. v == 0)) _ (long_bytes 0) (replicate (4 * places) 0) 0 [] (reads_four (λ v. v == 0) 0 refl) (no_packets size places))

packet_passes : (size p : ℕ) → IsPacket size p → is_packet size p ≡ true
packet_passes size p is = rw is.0 (le-leb (p + 24) size is.1)

pub reads_packets : (size places : ℕ) (ps : List ℕ) → length ps ≤ places → All (IsPacket size) ps → ReadsAs (packets_in size (length ps) places) (longs ps ++ replicate (4 * (places - length ps)) 0) ps
reads_packets size zero [] few are = reads_none []
reads_packets size (suc places) [] few are =
    let left : suc places - 0 ≡ suc places = omega arith in
    rw left (no_packets size (suc places))
reads_packets size zero (p ∷ ps) few are = absurd (omega (arith, few))
reads_packets size (suc places) (p ∷ ps) few are =
    let count : length (p ∷ ps) ≡ suc (length ps) = omega arith in
    let left : suc places - length (p ∷ ps) ≡ places - length ps = omega arith in
    let rest : List ℕ = replicate (4 * (places - length ps)) 0 in
    let read : ReadsAs (packets_in size (suc (length ps)) (suc places)) (long_bytes p ++ (longs ps ++ rest)) (p ∷ ps) =
    reads_then (four (is_packet size)) _ (long_bytes p) (longs ps ++ rest) p (p ∷ ps) (reads_four (is_packet size) p (packet_passes size p (All-head (IsPacket size) p ps are)))
    (reads_last (packets_in size (length ps) places) (λ xs. p ∷ xs) (longs ps ++ rest) ps (reads_packets size places ps (omega (arith, few)) (All-tail (IsPacket size) p ps are))) in
    rw count (rw left read)

-- a stop code, or FF
code_short : (code : ℕ) → is_stop_code code ≡ true → (code == 255) ≡ false
code_short code is = ne_eqb code 255 (λ same. false≢true (ap is_stop_code (sym same) ∙ is))

halt_means : (halt : Option ℕ) → IfSome halt (λ code. is_stop_code code ≡ true) → halt_in (place_byte halt ∷ []) ≡ Some halt
halt_means None is = refl
halt_means (Some code) is = rw (code_short code is) (rw is refl)

pub reads_halt : (halt : Option ℕ) → IfSome halt (λ code. is_stop_code code ≡ true) → ReadsAs (field 1 halt_in) (place_byte halt ∷ []) halt
reads_halt halt is = reads_field 1 halt_in (place_byte halt ∷ []) halt refl (halt_means halt is)
