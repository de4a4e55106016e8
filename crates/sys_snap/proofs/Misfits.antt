-- A reading tells its faults where the fields misfit.
use Rattle.std.proofs.Common.{ℕ, zero, suc, ◌≡◌, ◌+◌, ◌-◌, ◌*◌, ◌==◌, ◌&&◌, ◌||◌, nat_le, nat_lt, List, [], ◌∷◌, ◌++◌, length, map, take, drop, replicate, refl, sym, ◌∙◌, ap, subst, arith, cond, Bool, true, false, Option, Some, None, append_assoc, append-nil, is_some, unwrap_or}
use Rattle.std.specs.Prelude.{Result, Ok, Err, bytes_eq, flat_map, is_ok, slice_index}
use Rattle.std.specs.Int.{from_bool}
use Rattle.std.specs.List.{list_all, range_with_len}
use Rattle.std.proofs.lemmas.Bool.{false≢true, le-ltb, leb-true, lt-ltb, ne_eqb}
use Rattle.std.proofs.lemmas.List.{length-take-le}
use Rattle.vv_base.specs.Bits.{is_set}
use Rattle.vv_base.specs.Bytes.{long_at, word_at}
use Rattle.vv_class.specs.declared.class.AccessClass.{AccessClass}
use Rattle.sys_config.specs.Config.{config_of}
use Rattle.sys_objects.specs.Rules.{may_mount}
use Rattle.sys_objects.specs.declared.errors.ConfigFault.{ConfigFault}
use Rattle.sys_objects.specs.declared.records.Config.{Config}
use Rattle.sys_objects.specs.declared.records.GuestRow.{GuestRow}
use Rattle.sys_objects.specs.declared.records.VolumeRow.{VolumeRow}
use Rattle.sys_snap.proofs.Fields.{rest_at}
use Rattle.sys_snap.proofs.States.{reads_each_snapshot}
use Rattle.sys_snap.specs.Conditions.{any, is_iccs, is_p0br, is_packet, is_psl, may_all_sit, needs}
use Rattle.sys_snap.specs.Laws.{RefusedAreNone}
use Rattle.sys_snap.specs.Misfits.{SnapField, field_number, fields_after_text, flag_field, guest_fields, misfit_from, misfit_in, mount_field, numeric, numeric_after, packet_field, request_field, seats_field}
use Rattle.sys_snap.specs.Reader.{accepted_config, all_bytes, at_end, bases_in, clock_in, console_reading, cut_blocks, either, end_in, guest_reading, halt_in, head_in, is_count, levels_in, longs_in, moment_got, moment_in, mount_if, nothing, packets_in, pair_in, queue_in, record_in, registers_in, seated_guest, seats_in, snap_in, state_in, units_in, volume_in, waiting_in}
use Rattle.sys_snap.specs.Reading.{Got, Reading, Rest, ◌>>=◌, continued_by, done, each, fault_at, field, field_meaning, flag, flag_if, four, number_if, one, times, two}
use Rattle.sys_snap.specs.Written.{snap_head}
use Rattle.sys_snap.specs.declared.fault.SnapFault.{SnapFault}
use Rattle.sys_state.specs.Run.{Moment}
use Rattle.vm_state.specs.Registers.{allows}
use Rattle.vm_state.specs.Stops.{is_stop_code}
use Rattle.vm_state.specs.declared.register.Register.TheVariants.{Astlvl, P0lr, P1br, P1lr, Pcbb, Sbr, Scbb, Sisr, Slr}

-- where the fault is, or what comes after a reading that gives a value
abbrev Next : Type 0 → Type 0
Next A = A → ℕ → List ℕ → Option ℕ

abbrev ended : {A : Type 0} → Next A → Result (Got A) SnapFault → Option ℕ
ended c (Ok g) = c g.value g.rest.at g.rest.bytes
ended c (Err fault) = Some (fault.place)

ended_then : {A B : Type 0} (c : Next B) (f : A → Reading B) (q : Result (Got A) SnapFault) → ended c (continued_by f q) ≡ ended (λ x at left. ended c (f x (rest_at at left))) q
ended_then c f (Ok g) = refl
ended_then c f (Err fault) = refl

-- a field that is read, where what comes after it may depend on its number
step_by : {A : Type 0} (size : ℕ) (c : Next A) (more : Option ℕ) (r : Rest) (o : Option A) (allowed fits : Bool) → (fits ≡ true → is_some o ≡ allowed) → (fits ≡ true → (x : A) → o ≡ Some x → c x (r.at + size) (drop size r.bytes) ≡ more) → ended c (cond fits (field_meaning size r o) (fault_at r.at)) ≡ cond (fits && allowed) more (Some r.at)
step_by size c more r o allowed false same next = refl
step_by size c more r None false true same next = refl
step_by size c more r None true true same next = absurd (false≢true (same refl))
step_by size c more r (Some x) true true same next = next refl x refl
step_by size c more r (Some x) false true same next = absurd (false≢true (sym (same refl)))

step_at : {A : Type 0} (size : ℕ) (meaning : List ℕ → Option A) (may_be : List ℕ → List ℕ → Bool) (c : Next A) (more : List SnapField) (at : ℕ) (before bytes : List ℕ)
    → (length (take size bytes) ≡ size → is_some (meaning (take size bytes)) ≡ may_be before (take size bytes))
    → ((x : A) → length (take size bytes) ≡ size → meaning (take size bytes) ≡ Some x → c x (at + size) (drop size bytes) ≡ misfit_from (at + size) (field_number (take size bytes) ∷ before) more (drop size bytes))
    → ended c (field size meaning (rest_at at bytes)) ≡ misfit_from at before (record { size = size; may_be = may_be } ∷ more) bytes
step_at size meaning may_be c more at before bytes same next =
    let long : nat_le size (length bytes) ≡ true → length (take size bytes) ≡ size = λ fits. length-take-le size bytes (leb-true size (length bytes) fits) in
    step_by size c (misfit_from (at + size) (field_number (take size bytes) ∷ before) more (drop size bytes)) (rest_at at bytes) (meaning (take size bytes)) (may_be before (take size bytes)) (nat_le size (length bytes))
    (λ fits. same (long fits)) (λ fits x is. next x (long fits) is)

step : {A : Type 0} (size : ℕ) (meaning : List ℕ → Option A) (may_be : List ℕ → List ℕ → Bool) (c : Next A) (more : List SnapField) (at : ℕ) (before bytes : List ℕ)
    → ((own : List ℕ) → length own ≡ size → is_some (meaning own) ≡ may_be before own)
    → ((x : A) → length (take size bytes) ≡ size → meaning (take size bytes) ≡ Some x → c x (at + size) (drop size bytes) ≡ misfit_from (at + size) (field_number (take size bytes) ∷ before) more (drop size bytes))
    → ended c (field size meaning (rest_at at bytes)) ≡ misfit_from at before (record { size = size; may_be = may_be } ∷ more) bytes
step size meaning may_be c more at before bytes same next = step_at size meaning may_be c more at before bytes (same (take size bytes)) next

-- a test that gives a value
some_if : {A : Type 0} (b : Bool) (x : A) → is_some (cond b (Some x) None) ≡ b
some_if true x = refl
some_if false x = refl

value_if : {A : Type 0} (b : Bool) (x y : A) → cond b (Some x) None ≡ Some y → x ≡ y
value_if true x y e = ap (λ o. unwrap_or o x) e
value_if false x y e = absurd (false≢true (ap is_some e))

-- numbers of one, two and four bytes
one_number : (w : List ℕ) → length w ≡ 1 → field_number w ≡ slice_index w 0
one_number [] long = absurd (omega (arith, long))
one_number (a ∷ []) long = omega arith
one_number (a ∷ b ∷ w) long = absurd (omega (arith, long))

two_number : (w : List ℕ) → length w ≡ 2 → field_number w ≡ word_at w 0
two_number [] long = absurd (omega (arith, long))
two_number (a ∷ []) long = absurd (omega (arith, long))
two_number (a ∷ b ∷ []) long = omega arith
two_number (a ∷ b ∷ c ∷ w) long = absurd (omega (arith, long))

four_number : (w : List ℕ) → length w ≡ 4 → field_number w ≡ long_at w 0
four_number [] long = absurd (omega (arith, long))
four_number (a ∷ []) long = absurd (omega (arith, long))
four_number (a ∷ b ∷ []) long = absurd (omega (arith, long))
four_number (a ∷ b ∷ c ∷ []) long = absurd (omega (arith, long))
four_number (a ∷ b ∷ c ∷ d ∷ []) long = omega arith
four_number (a ∷ b ∷ c ∷ d ∷ e ∷ w) long = absurd (omega (arith, long))

step_number : (size : ℕ) (value : List ℕ → ℕ) (ok : ℕ → Bool) (may_be : List ℕ → ℕ → Bool) (c : Next ℕ) (more : List SnapField) (at : ℕ) (before bytes : List ℕ)
    → ((w : List ℕ) → length w ≡ size → field_number w ≡ value w)
    → ((n : ℕ) → ok n ≡ may_be before n)
    → ((n : ℕ) (left : List ℕ) → c n (at + size) left ≡ misfit_from (at + size) (n ∷ before) more left)
    → ended c (field size (λ b. number_if ok (value b)) (rest_at at bytes)) ≡ misfit_from at before (record { size = size; may_be = λ known own. may_be known (field_number own) } ∷ more) bytes
step_number size value ok may_be c more at before bytes number same next =
    step size (λ b. number_if ok (value b)) (λ known own. may_be known (field_number own)) c more at before bytes
    (λ own long. some_if (ok (value own)) (value own) ∙ same (value own) ∙ ap (may_be before) (sym (number own long)))
    (λ x long is. subst (λ n. c x (at + size) (drop size bytes) ≡ misfit_from (at + size) (n ∷ before) more (drop size bytes)) (sym (number (take size bytes) long ∙ value_if (ok (value (take size bytes))) (value (take size bytes)) x is)) (next x (drop size bytes)))

-- a number that is neither 0 nor 1
not_zero : (n : ℕ) → (suc (suc n) == 0) ≡ false
not_zero n = ne_eqb (suc (suc n)) 0 (λ same. omega (arith, same))

not_one : (n : ℕ) → (suc (suc n) == 1) ≡ false
not_one n = ne_eqb (suc (suc n)) 1 (λ same. omega (arith, same))

not_flag : (n : ℕ) → nat_lt (suc (suc n)) 2 ≡ false
not_flag n = le-ltb (suc (suc n)) 2 (omega arith)

-- flags, and requests that need an enable
either_some : (n : ℕ) → is_some (flag_if either n) ≡ nat_lt n 2
either_some zero = refl
either_some (suc zero) = refl
either_some (suc (suc n)) = rw (not_zero n) (rw (not_one n) (rw (not_flag n) refl))

needs_some : (enable : Bool) (n : ℕ) → is_some (flag_if (needs enable) n) ≡ (n == 0 || n == 1 && enable)
needs_some enable zero = refl
needs_some true (suc zero) = refl
needs_some false (suc zero) = refl
needs_some enable (suc (suc n)) = rw (not_zero n) (rw (not_one n) refl)

flag_number : (ok : Bool → Bool) (n : ℕ) (f : Bool) → flag_if ok n ≡ Some f → n ≡ from_bool f
flag_number ok zero f is = ap from_bool (value_if (ok false) false f is)
flag_number ok (suc zero) f is = ap from_bool (value_if (ok true) true f is)
flag_number ok (suc (suc n)) f is = absurd (false≢true (ap is_some (rw (not_zero n) at (rw (not_one n) at is))))

step_flag : (ok : Bool → Bool) (may_be : List ℕ → ℕ → Bool) (c : Next Bool) (more : List SnapField) (at : ℕ) (before bytes : List ℕ)
    → ((n : ℕ) → is_some (flag_if ok n) ≡ may_be before n)
    → ((f : Bool) (left : List ℕ) → c f (at + 1) left ≡ misfit_from (at + 1) (from_bool f ∷ before) more left)
    → ended c (flag ok (rest_at at bytes)) ≡ misfit_from at before (record { size = 1; may_be = λ known own. may_be known (field_number own) } ∷ more) bytes
step_flag ok may_be c more at before bytes same next =
    step 1 (λ b. flag_if ok (slice_index b 0)) (λ known own. may_be known (field_number own)) c more at before bytes
    (λ own long. same (slice_index own 0) ∙ ap (may_be before) (sym (one_number own long)))
    (λ f long is. subst (λ n. c f (at + 1) (drop 1 bytes) ≡ misfit_from (at + 1) (n ∷ before) more (drop 1 bytes)) (sym (one_number (take 1 bytes) long ∙ flag_number ok (slice_index (take 1 bytes) 0) f is)) (next f (drop 1 bytes)))

-- a reading of fields
record Follows {A : Type 0} (p : Reading A) (fields : List SnapField) : Type 0 where
  follows : (c : Next A) (more : List SnapField)
      → ((x : A) (at : ℕ) (before left : List ℕ) → c x at left ≡ misfit_from at before more left)
      → (at : ℕ) (before bytes : List ℕ) → ended c (p (rest_at at bytes)) ≡ misfit_from at before (fields ++ more) bytes

follows_field : {A : Type 0} (size : ℕ) (meaning : List ℕ → Option A) (may_be : List ℕ → List ℕ → Bool) → ((before own : List ℕ) → length own ≡ size → is_some (meaning own) ≡ may_be before own) → Follows (field size meaning) (record { size = size; may_be = may_be } ∷ [])
follows_field size meaning may_be same = record {
  follows = λ c more after at before bytes. step size meaning may_be c more at before bytes (same before) (λ x long is. after x (at + size) (field_number (take size bytes) ∷ before) (drop size bytes));
}

follows_one : (ok : ℕ → Bool) → Follows (one ok) (numeric 1 ok ∷ [])
follows_one ok = follows_field 1 (λ b. number_if ok (slice_index b 0)) (λ before own. ok (field_number own)) (λ before own long. some_if (ok (slice_index own 0)) (slice_index own 0) ∙ ap ok (sym (one_number own long)))

follows_two : (ok : ℕ → Bool) → Follows (two ok) (numeric 2 ok ∷ [])
follows_two ok = follows_field 2 (λ b. number_if ok (word_at b 0)) (λ before own. ok (field_number own)) (λ before own long. some_if (ok (word_at own 0)) (word_at own 0) ∙ ap ok (sym (two_number own long)))

follows_four : (ok : ℕ → Bool) → Follows (four ok) (numeric 4 ok ∷ [])
follows_four ok = follows_field 4 (λ b. number_if ok (long_at b 0)) (λ before own. ok (field_number own)) (λ before own long. some_if (ok (long_at own 0)) (long_at own 0) ∙ ap ok (sym (four_number own long)))

follows_flag : Follows (flag either) (flag_field ∷ [])
follows_flag = follows_field 1 (λ b. flag_if either (slice_index b 0)) (λ before own. nat_lt (field_number own) 2) (λ before own long. either_some (slice_index own 0) ∙ ap (λ n. nat_lt n 2) (sym (one_number own long)))

-- one after another
follows_then : {A B : Type 0} (p : Reading A) (f : A → Reading B) (fs gs : List SnapField) → Follows p fs → ((x : A) → Follows (f x) gs) → Follows (p >>= f) (fs ++ gs)
follows_then p f fs gs first next = record {
  follows = λ c more after at before bytes.
      ended_then c f (p (rest_at at bytes))
      ∙ first.follows (λ x k left. ended c (f x (rest_at k left))) (gs ++ more) (λ x k known left. (next x).follows c more after k known left) at before bytes
      ∙ ap (λ fields. misfit_from at before fields bytes) (sym (append_assoc fs gs more));
}

follows_next : {A B : Type 0} (p : Reading A) (g : A → Reading B) (f : SnapField) (gs : List SnapField) → Follows p (f ∷ []) → ((x : A) → Follows (g x) gs) → Follows (p >>= g) (f ∷ gs)
follows_next p g f gs first next = follows_then p g (f ∷ []) gs first next

follows_done : {A : Type 0} (x : A) → Follows (done x) []
follows_done x = record { follows = λ c more after at before bytes. after x at before bytes }

follows_last : {A B : Type 0} (p : Reading A) (f : A → B) (fs : List SnapField) → Follows p fs → Follows (p >>= λ y. done (f y)) fs
follows_last p f fs first = record {
  follows = λ c more after at before bytes.
      ended_then c (λ y. done (f y)) (p (rest_at at bytes))
      ∙ first.follows (λ x k left. c (f x) k left) more (λ x k known left. after (f x) k known left) at before bytes;
}

follows_times : {A : Type 0} (n : ℕ) (p : Reading A) (f : SnapField) → Follows p (f ∷ []) → Follows (times n p) (replicate n f)
follows_times zero p f first = follows_done []
follows_times (suc n) p f first = follows_next p _ f (replicate n f) first (λ x. follows_last (times n p) (λ xs. x ∷ xs) (replicate n f) (follows_times n p f first))

follows_each : {A B : Type 0} (p : A → Reading B) (fields : A → List SnapField) → ((x : A) → Follows (p x) (fields x)) → (xs : List A) → Follows (each p xs) (flat_map fields xs)
follows_each p fields first [] = follows_done []
follows_each p fields first (x ∷ xs) = follows_then (p x) _ (fields x) (flat_map fields xs) (first x) (λ y. follows_last (each p xs) (λ ys. y ∷ ys) (flat_map fields xs) (follows_each p fields first xs))

follows_each_one : {A B : Type 0} (p : A → Reading B) (f : A → SnapField) → ((x : A) → Follows (p x) (f x ∷ [])) → (xs : List A) → Follows (each p xs) (map f xs)
follows_each_one p f first [] = follows_done []
follows_each_one p f first (x ∷ xs) = follows_next (p x) _ (f x) (map f xs) (first x) (λ y. follows_last (each p xs) (λ ys. y ∷ ys) (map f xs) (follows_each_one p f first xs))

-- registers
follows_longs : (n : ℕ) → Follows (longs_in n) (replicate n (numeric 4 any))
unfolding longs_in
follows_longs n = follows_times n (four any) (numeric 4 any) (follows_four any)

abbrev register_fields : List SnapField
register_fields = replicate 16 (numeric 4 any) ++ numeric 4 is_psl ∷ replicate 5 (numeric 4 any)

follows_registers : Follows registers_in register_fields
follows_registers =
    follows_then (longs_in 16) _ (replicate 16 (numeric 4 any)) (numeric 4 is_psl ∷ replicate 5 (numeric 4 any)) (follows_longs 16) (λ r.
    follows_next (four is_psl) _ (numeric 4 is_psl) (replicate 5 (numeric 4 any)) (follows_four is_psl) (λ psl.
    follows_last (longs_in 5) _ (replicate 5 (numeric 4 any)) (follows_longs 5)))

abbrev base_fields : List SnapField
base_fields = numeric 4 is_p0br ∷ map (λ register. numeric 4 (allows register)) (P0lr ∷ P1br ∷ P1lr ∷ Sbr ∷ Slr ∷ Pcbb ∷ Scbb ∷ [])

follows_bases : Follows bases_in base_fields
follows_bases =
    follows_next (four is_p0br) _ _ _ (follows_four is_p0br) (λ p0br.
    follows_next (four (allows P0lr)) _ _ _ (follows_four (allows P0lr)) (λ p0lr.
    follows_next (four (allows P1br)) _ _ _ (follows_four (allows P1br)) (λ p1br.
    follows_next (four (allows P1lr)) _ _ _ (follows_four (allows P1lr)) (λ p1lr.
    follows_next (four (allows Sbr)) _ _ _ (follows_four (allows Sbr)) (λ sbr.
    follows_next (four (allows Slr)) _ _ _ (follows_four (allows Slr)) (λ slr.
    follows_next (four (allows Pcbb)) _ _ _ (follows_four (allows Pcbb)) (λ pcbb.
    follows_last (four (allows Scbb)) _ _ (follows_four (allows Scbb)))))))))

abbrev level_fields : List SnapField
level_fields = numeric 1 (allows Astlvl) ∷ numeric 2 (allows Sisr) ∷ flag_field ∷ []

follows_levels : Follows levels_in level_fields
follows_levels =
    follows_next (one (allows Astlvl)) _ _ _ (follows_one (allows Astlvl)) (λ astlvl.
    follows_next (two (allows Sisr)) _ _ _ (follows_two (allows Sisr)) (λ sisr.
    follows_last (flag either) _ _ follows_flag))

-- the clock
abbrev clock_fields : List SnapField
clock_fields = numeric 4 is_iccs ∷ numeric 4 any ∷ numeric 4 any ∷ request_field 6 2 ∷ []

follows_clock : Follows clock_in clock_fields
follows_clock = record {
  follows = λ c more after at before bytes.
      ended_then c _ (four is_iccs (rest_at at bytes))
      ∙ step_number 4 (λ b. long_at b 0) is_iccs (λ known. is_iccs) _ (numeric 4 any ∷ numeric 4 any ∷ request_field 6 2 ∷ more) at before bytes four_number (λ n. refl) (λ iccs left.
      ended_then c _ (four any (rest_at (at + 4) left))
      ∙ step_number 4 (λ b. long_at b 0) any (λ known. any) _ (numeric 4 any ∷ request_field 6 2 ∷ more) (at + 4) (iccs ∷ before) left four_number (λ n. refl) (λ nicr left.
      ended_then c _ (four any (rest_at (at + 4 + 4) left))
      ∙ step_number 4 (λ b. long_at b 0) any (λ known. any) _ (request_field 6 2 ∷ more) (at + 4 + 4) (nicr ∷ iccs ∷ before) left four_number (λ n. refl) (λ icr left.
      ended_then c _ (flag (needs (is_set iccs 6)) (rest_at (at + 4 + 4 + 4) left))
      ∙ step_flag (needs (is_set iccs 6)) (λ known n. n == 0 || n == 1 && is_set (slice_index known 2) 6) _ more (at + 4 + 4 + 4) (icr ∷ nicr ∷ iccs ∷ before) left (needs_some (is_set iccs 6)) (λ request left.
      after _ (at + 4 + 4 + 4 + 1) (from_bool request ∷ icr ∷ nicr ∷ iccs ∷ before) left))));
}

-- the console
set_bool : (b : Bool) → b ≡ is_set (from_bool b) 0
set_bool true = refl
set_bool false = refl

count_some : (request : Bool) (n : ℕ) → is_count request n ≡ (nat_le n 256 && (from_bool request == 0 || nat_lt 0 n))
count_some true n = refl
count_some false n = refl

abbrev waiting_field : SnapField
waiting_field = record { size = 256; may_be = λ before own. list_all (λ b. b == 0) (drop (slice_index before 0) own) }

abbrev count_field : SnapField
count_field = numeric_after 2 1 (λ request n. nat_le n 256 && (request == 0 || nat_lt 0 n))

abbrev console_fields : List SnapField
console_fields = flag_field ∷ flag_field ∷ request_field 0 1 ∷ request_field 0 1 ∷ count_field ∷ waiting_field ∷ []

follows_console : Follows console_reading console_fields
follows_console = record {
  follows = λ c more after at before bytes.
      ended_then c _ (flag either (rest_at at bytes))
      ∙ step_flag either (λ known n. nat_lt n 2) _ (flag_field ∷ request_field 0 1 ∷ request_field 0 1 ∷ count_field ∷ waiting_field ∷ more) at before bytes either_some (λ rx left.
      ended_then c _ (flag either (rest_at (at + 1) left))
      ∙ step_flag either (λ known n. nat_lt n 2) _ (request_field 0 1 ∷ request_field 0 1 ∷ count_field ∷ waiting_field ∷ more) (at + 1) (from_bool rx ∷ before) left either_some (λ tx left.
      ended_then c _ (flag (needs rx) (rest_at (at + 1 + 1) left))
      ∙ step_flag (needs rx) (λ known n. n == 0 || n == 1 && is_set (slice_index known 1) 0) _ (request_field 0 1 ∷ count_field ∷ waiting_field ∷ more) (at + 1 + 1) (from_bool tx ∷ from_bool rx ∷ before) left
      (λ n. needs_some rx n ∙ ap (λ b. n == 0 || n == 1 && b) (set_bool rx)) (λ rx_request left.
      ended_then c _ (flag (needs tx) (rest_at (at + 1 + 1 + 1) left))
      ∙ step_flag (needs tx) (λ known n. n == 0 || n == 1 && is_set (slice_index known 1) 0) _ (count_field ∷ waiting_field ∷ more) (at + 1 + 1 + 1) (from_bool rx_request ∷ from_bool tx ∷ from_bool rx ∷ before) left
      (λ n. needs_some tx n ∙ ap (λ b. n == 0 || n == 1 && b) (set_bool tx)) (λ tx_request left.
      ended_then c _ (two (is_count rx_request) (rest_at (at + 1 + 1 + 1 + 1) left))
      ∙ step_number 2 (λ b. word_at b 0) (is_count rx_request) (λ known n. nat_le n 256 && (slice_index known 1 == 0 || nat_lt 0 n)) _ (waiting_field ∷ more) (at + 1 + 1 + 1 + 1) (from_bool tx_request ∷ from_bool rx_request ∷ from_bool tx ∷ from_bool rx ∷ before) left two_number (count_some rx_request) (λ n left.
      ended_then c _ (field 256 (waiting_in n) (rest_at (at + 1 + 1 + 1 + 1 + 2) left))
      ∙ step 256 (waiting_in n) (λ known own. list_all (λ b. b == 0) (drop (slice_index known 0) own)) _ more (at + 1 + 1 + 1 + 1 + 2) (n ∷ from_bool tx_request ∷ from_bool rx_request ∷ from_bool tx ∷ from_bool rx ∷ before) left
      (λ own long. some_if (list_all (λ b. b == 0) (drop n own)) (take n own)) (λ waiting long is.
      after _ (at + 1 + 1 + 1 + 1 + 2 + 256) (field_number (take 256 left) ∷ n ∷ from_bool tx_request ∷ from_bool rx_request ∷ from_bool tx ∷ from_bool rx ∷ before) (drop 256 left)))))));
}

-- packets: where i places are read, `left` packets are left of the count that was read before them
back : (v : ℕ) (before : List ℕ) (i : ℕ) → slice_index (v ∷ before) (i + 1) ≡ slice_index before i
back v before i = let more : i + 1 ≡ suc i = omega arith in rw more refl

step_packets : (size left places : ℕ) (c : Next (List ℕ)) (more : List SnapField) (i at : ℕ) (before bytes : List ℕ)
    → ((ps : List ℕ) (at : ℕ) (before left : List ℕ) → c ps at left ≡ misfit_from at before more left)
    → slice_index before i - i ≡ left
    → ended c (packets_in size left places (rest_at at bytes)) ≡ misfit_from at before (map (packet_field size) (range_with_len i places) ++ more) bytes
step_packets size left zero c more i at before bytes after count = after [] at before bytes
step_packets size zero (suc places) c more i at before bytes after count =
    ended_then c _ (four (λ v. v == 0) (rest_at at bytes))
    ∙ step_number 4 (λ b. long_at b 0) (λ v. v == 0) (λ known p. cond (nat_lt i (slice_index known i)) (is_packet size p) (p == 0)) _ (map (packet_field size) (range_with_len (i + 1) places) ++ more) at before bytes four_number
    (λ n. let none : nat_lt i (slice_index before i) ≡ false = le-ltb i (slice_index before i) (omega (arith, count)) in rw none refl)
    (λ v rest. step_packets size zero places c more (i + 1) (at + 4) (v ∷ before) rest after (omega (arith, count, back v before i)))
step_packets size (suc left) (suc places) c more i at before bytes after count =
    ended_then c _ (four (is_packet size) (rest_at at bytes))
    ∙ step_number 4 (λ b. long_at b 0) (is_packet size) (λ known p. cond (nat_lt i (slice_index known i)) (is_packet size p) (p == 0)) _ (map (packet_field size) (range_with_len (i + 1) places) ++ more) at before bytes four_number
    (λ n. let some : nat_lt i (slice_index before i) ≡ true = lt-ltb i (slice_index before i) (omega (arith, count)) in rw some refl)
    (λ p rest.
    ended_then c (λ ps. done (p ∷ ps)) (packets_in size left places (rest_at (at + 4) rest))
    ∙ step_packets size left places (λ ps k l. c (p ∷ ps) k l) more (i + 1) (at + 4) (p ∷ before) rest (λ ps k known l. after (p ∷ ps) k known l) (omega (arith, count, back p before i)))

abbrev queue_fields : ℕ → List SnapField
queue_fields size = flag_field ∷ numeric 1 (λ n. nat_le n 8) ∷ map (packet_field size) (range_with_len 0 8)

follows_queue : (size : ℕ) → Follows (queue_in size) (queue_fields size)
follows_queue size = record {
  follows = λ c more after at before bytes.
      ended_then c _ (flag either (rest_at at bytes))
      ∙ step_flag either (λ known n. nat_lt n 2) _ (numeric 1 (λ n. nat_le n 8) ∷ map (packet_field size) (range_with_len 0 8) ++ more) at before bytes either_some (λ due left.
      ended_then c _ (one (λ n. nat_le n 8) (rest_at (at + 1) left))
      ∙ step_number 1 (λ b. slice_index b 0) (λ n. nat_le n 8) (λ known n. nat_le n 8) _ (map (packet_field size) (range_with_len 0 8) ++ more) (at + 1) (from_bool due ∷ before) left one_number (λ n. refl) (λ n left.
      ended_then c _ (packets_in size n 8 (rest_at (at + 1 + 1) left))
      ∙ step_packets size n 8 _ more 0 (at + 1 + 1) (n ∷ from_bool due ∷ before) left (λ ps k known l. after _ k known l) (omega arith)));
}

-- the end
halt_some : (n : ℕ) (is_none stops : Bool) → is_some (cond is_none (Some None) (cond stops (Some (Some n)) None)) ≡ (is_none || stops)
halt_some n true stops = refl
halt_some n false true = refl
halt_some n false false = refl

abbrev end_fields : List SnapField
end_fields = flag_field ∷ numeric 1 (λ n. n == 255 || is_stop_code n) ∷ numeric 4 any ∷ []

follows_halt : Follows (field 1 halt_in) (numeric 1 (λ n. n == 255 || is_stop_code n) ∷ [])
follows_halt = follows_field 1 halt_in (λ before own. field_number own == 255 || is_stop_code (field_number own)) (λ before own long.
    halt_some (slice_index own 0) (slice_index own 0 == 255) (is_stop_code (slice_index own 0)) ∙ ap (λ n. n == 255 || is_stop_code n) (sym (one_number own long)))

follows_end : Follows end_in end_fields
follows_end =
    follows_next (flag either) _ _ _ follows_flag (λ waiting.
    follows_next (field 1 halt_in) _ _ _ follows_halt (λ halt.
    follows_last (four any) _ _ (follows_four any)))

-- a guest
abbrev record_fields : ℕ → List SnapField
record_fields size = register_fields ++ (base_fields ++ (level_fields ++ (clock_fields ++ (console_fields ++ (queue_fields size ++ end_fields)))))

follows_record : (size : ℕ) (modify_faults : Bool) → Follows (record_in size modify_faults) (record_fields size)
unfolding record_in
follows_record size modify_faults =
    follows_then registers_in _ register_fields (base_fields ++ (level_fields ++ (clock_fields ++ (console_fields ++ (queue_fields size ++ end_fields))))) follows_registers (λ a.
    follows_then bases_in _ base_fields (level_fields ++ (clock_fields ++ (console_fields ++ (queue_fields size ++ end_fields)))) follows_bases (λ b.
    follows_then levels_in _ level_fields (clock_fields ++ (console_fields ++ (queue_fields size ++ end_fields))) follows_levels (λ l.
    follows_then clock_in _ clock_fields (console_fields ++ (queue_fields size ++ end_fields)) follows_clock (λ clock.
    follows_then console_reading _ console_fields (queue_fields size ++ end_fields) follows_console (λ console.
    follows_then (queue_in size) _ (queue_fields size) end_fields (follows_queue size) (λ q.
    follows_last end_in _ end_fields follows_end))))))

follows_guest : (row : GuestRow) → Follows (guest_reading row) (guest_fields (512 * row.pages))
unfolding guest_reading guest_fields
follows_guest row =
    follows_then (record_in (512 * row.pages) row.modify_faults) _ (record_fields (512 * row.pages)) (numeric (512 * row.pages) any ∷ []) (follows_record (512 * row.pages) row.modify_faults) (λ state.
    follows_last (field (512 * row.pages) all_bytes) _ (numeric (512 * row.pages) any ∷ []) (follows_field (512 * row.pages) all_bytes (λ before own. any (field_number own)) (λ before own long. refl)))

-- mounts, seats and volumes
pair_by : (volumes : List VolumeRow) (class : AccessClass) (v w : ℕ) (none : Bool)
    → is_some (cond none (cond (w == 0) (Some None) None) (cond (w == 0) (mount_if volumes class (Some (record { volume = v; write = false }))) (cond (w == 1) (mount_if volumes class (Some (record { volume = v; write = true }))) None)))
    ≡ cond none (w == 0) (nat_lt w 2 && may_mount volumes class (Some (record { volume = v; write = w == 1 })))
pair_by volumes class v zero true = refl
pair_by volumes class v (suc zero) true = refl
pair_by volumes class v (suc (suc w)) true = rw (not_zero w) refl
pair_by volumes class v zero false = some_if (may_mount volumes class (Some (record { volume = v; write = false }))) (Some (record { volume = v; write = false }))
pair_by volumes class v (suc zero) false = some_if (may_mount volumes class (Some (record { volume = v; write = true }))) (Some (record { volume = v; write = true }))
pair_by volumes class v (suc (suc w)) false = rw (not_zero w) (rw (not_one w) (rw (not_flag w) refl))

pair_some : (volumes : List VolumeRow) (class : AccessClass) (before own : List ℕ) → length own ≡ 2 → is_some (pair_in volumes class own) ≡ (mount_field volumes class).may_be before own
pair_some volumes class before [] long = absurd (omega (arith, long))
pair_some volumes class before (v ∷ []) long = absurd (omega (arith, long))
pair_some volumes class before (v ∷ w ∷ []) long = pair_by volumes class v w (v == 255)
pair_some volumes class before (v ∷ w ∷ x ∷ own) long = absurd (omega (arith, long))

follows_units : (volumes : List VolumeRow) (row : GuestRow) → Follows (units_in volumes row) (replicate 4 (mount_field volumes row.class))
follows_units volumes row = follows_times 4 (field 2 (pair_in volumes row.class)) (mount_field volumes row.class) (follows_field 2 (pair_in volumes row.class) ((mount_field volumes row.class).may_be) (pair_some volumes row.class))

follows_seats : (c : Config) → Follows (field 32 (seats_in c)) (seats_field c ∷ [])
follows_seats c = follows_field 32 (seats_in c) ((seats_field c).may_be) (λ before own long.
    some_if (may_all_sit c.guests c.terminals (map seated_guest (take (length c.terminals) own)) && list_all (λ b. b == 255) (drop (length c.terminals) own)) (map seated_guest (take (length c.terminals) own)))

follows_volume : (row : VolumeRow) → Follows (volume_in row) (numeric (512 * row.blocks) any ∷ [])
follows_volume row = follows_field (512 * row.blocks) (λ bytes. Some (cut_blocks row.blocks bytes)) (λ before own. any (field_number own)) (λ before own long. refl)

abbrev state_fields : Config → List SnapField
state_fields c = seats_field c ∷ flat_map (λ row. replicate 4 (mount_field c.volumes row.class)) c.guests ++ flat_map (λ row. guest_fields (512 * row.pages)) c.guests ++ map (λ row. numeric (512 * row.blocks) any) c.volumes

follows_state : (c : Config) → Follows (state_in c) (state_fields c)
unfolding state_in
follows_state c =
    let volumes : List SnapField = map (λ (row : VolumeRow). numeric (512 * row.blocks) any) c.volumes in
    let guests : List SnapField = flat_map (λ (row : GuestRow). guest_fields (512 * row.pages)) c.guests in
    let mounts : List SnapField = flat_map (λ (row : GuestRow). replicate 4 (mount_field c.volumes row.class)) c.guests in
    subst (λ fields. Follows (state_in c) (seats_field c ∷ fields)) (sym (append_assoc mounts guests volumes))
    (follows_next (field 32 (seats_in c)) _ (seats_field c) (mounts ++ (guests ++ volumes)) (follows_seats c) (λ connected.
    follows_then (each (units_in c.volumes) c.guests) _ mounts (guests ++ volumes) (follows_each (units_in c.volumes) (λ row. replicate 4 (mount_field c.volumes row.class)) (follows_units c.volumes) c.guests) (λ units.
    follows_then (each guest_reading c.guests) _ guests volumes (follows_each guest_reading (λ row. guest_fields (512 * row.pages)) follows_guest c.guests) (λ states.
    follows_last (each volume_in c.volumes) _ volumes (follows_each_one volume_in (λ row. numeric (512 * row.blocks) any) follows_volume c.volumes)))))

-- the whole
abbrev none_after : Next Moment
none_after m at left = None

end_misfits : (m : Moment) (at : ℕ) (before left : List ℕ) → ended none_after (continued_by (λ end. done m) (nothing left at)) ≡ misfit_from at before [] left
end_misfits m at before [] = refl
end_misfits m at before (b ∷ left) = refl

abbrev after_text : Config → Reading Moment
after_text c = four (λ n. nat_le n 1000000) >>= λ made. state_in c >>= λ state. at_end >>= λ end. done (record { config = c; made = made; state = state })

rest_misfits : (c : Config) (at : ℕ) (before left : List ℕ) → ended none_after (after_text c (rest_at at left)) ≡ misfit_from at before (fields_after_text c) left
unfolding fields_after_text
rest_misfits c at before left =
    ended_then none_after _ (four (λ n. nat_le n 1000000) (rest_at at left))
    ∙ step_number 4 (λ b. long_at b 0) (λ n. nat_le n 1000000) (λ known n. nat_le n 1000000) _ (state_fields c) at before left four_number (λ n. refl) (λ made rest.
    ended_then none_after _ (state_in c (rest_at (at + 4) rest))
    ∙ (follows_state c).follows _ [] (λ state k known l. end_misfits (record { config = c; made = made; state = state }) k known l) (at + 4) (made ∷ before) rest
    ∙ ap (λ fields. misfit_from (at + 4) (made ∷ before) fields rest) (append-nil (state_fields c)))

config_some : (q : Result Config ConfigFault) → is_some (accepted_config q) ≡ is_ok q
config_some (Ok c) = refl
config_some (Err fault) = refl

config_fields : (q : Result Config ConfigFault) (c : Config) → accepted_config q ≡ Some c → elim (q) [ Ok d ↦ fields_after_text d | Err fault ↦ [] ] ≡ fields_after_text c
config_fields (Ok d) c is = ap (λ o. elim (o) [ Some e ↦ fields_after_text e | None ↦ [] ]) is
config_fields (Err fault) c is = absurd (false≢true (ap is_some is))

head_some : (before own : List ℕ) → is_some (head_in own) ≡ bytes_eq own snap_head
head_some before own = some_if (bytes_eq own snap_head) tt

abbrev place_of_fault : Result Moment SnapFault → Option ℕ
place_of_fault (Ok m) = None
place_of_fault (Err fault) = Some (fault.place)

place_ended : (q : Result (Got Moment) SnapFault) → place_of_fault (moment_got q) ≡ ended none_after q
place_ended (Ok g) = refl
place_ended (Err fault) = refl

misfits_are : (bytes : List ℕ) → place_of_fault (snap_in bytes) ≡ misfit_in bytes
unfolding snap_in moment_in misfit_in
misfits_are bytes =
    let left : List ℕ = drop 8 bytes in
    let size : ℕ = field_number (take 4 (drop 8 bytes)) in
    let text : List ℕ = take (field_number (take 4 (drop 8 bytes))) (drop 4 (drop 8 bytes)) in
    let more : List SnapField = elim (config_of (take (field_number (take 4 (drop 8 bytes))) (drop 4 (drop 8 bytes)))) [ Ok c ↦ fields_after_text c | Err fault ↦ [] ] in
    let text_field : SnapField = record { size = field_number (take 4 (drop 8 bytes)); may_be = λ before own. is_ok (config_of (take (field_number (take 4 (drop 8 bytes))) (drop 4 (drop 8 bytes)))) } in
    place_ended (moment_in (rest_at 0 bytes))
    ∙ ended_then none_after _ (field 8 head_in (rest_at 0 bytes))
    ∙ step 8 head_in (λ before own. bytes_eq own snap_head) _ (numeric 4 (λ n. nat_le n 262144) ∷ text_field ∷ more) 0 [] bytes (λ own long. head_some [] own) (λ head long is.
    ended_then none_after _ (four (λ n. nat_le n 262144) (rest_at 8 left))
    ∙ step 4 (λ b. number_if (λ n. nat_le n 262144) (long_at b 0)) (λ before own. nat_le (field_number own) 262144) _ (text_field ∷ more) 8 (field_number (take 8 bytes) ∷ []) left
    (λ own four. some_if (nat_le (long_at own 0) 262144) (long_at own 0) ∙ ap (λ n. nat_le n 262144) (sym (four_number own four))) (λ n four is.
    subst (λ k. ended none_after ((field k (λ text. accepted_config (config_of text)) >>= after_text) (rest_at 12 (drop 4 left))) ≡ misfit_from 12 (size ∷ field_number (take 8 bytes) ∷ []) (text_field ∷ more) (drop 4 left))
    (four_number (take 4 left) four ∙ value_if (nat_le (long_at (take 4 left) 0) 262144) (long_at (take 4 left) 0) n is)
    (ended_then none_after _ (field size (λ text. accepted_config (config_of text)) (rest_at 12 (drop 4 left)))
    ∙ step_at size (λ text. accepted_config (config_of text)) (λ before own. is_ok (config_of text)) _ more 12 (size ∷ field_number (take 8 bytes) ∷ []) (drop 4 left) (λ long. config_some (config_of text))
    (λ c long is.
    rest_misfits c (12 + size) (field_number text ∷ size ∷ field_number (take 8 bytes) ∷ []) (drop size (drop 4 left))
    ∙ ap (λ fields. misfit_from (12 + size) (field_number text ∷ size ∷ field_number (take 8 bytes) ∷ []) fields (drop size (drop 4 left))) (sym (config_fields (config_of text) c is))))))

-- a fault's place is where the bytes misfit
pub fault_place : (bytes : List ℕ) (fault : SnapFault) → snap_in bytes ≡ Err fault → misfit_in bytes ≡ Some (fault.place)
fault_place bytes fault refused = sym (misfits_are bytes) ∙ ap place_of_fault refused

-- what misfits is a snapshot of nothing
pub refused_are_none : RefusedAreNone
refused_are_none bytes place misfits m is = false≢true (ap is_some (ap place_of_fault (sym (reads_each_snapshot bytes m is)) ∙ misfits_are bytes ∙ misfits))
