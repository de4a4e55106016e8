-- A class, or the place of the fault: what reading a text answers.
use Rattle.std.proofs.Common.{◌≡◌, ◌≢◌, ℕ, suc, ◌+◌, ◌-◌, ◌<◌, ◌≤◌, ◌^◌, ◌==◌, true, false, ◌&&◌, List, [], ◌∷◌, ◌++◌, length, take, drop, codes, decimal, Option, Some, None, Result, Ok, Err, IfOk, IfErr, OnErr, option_and_then, refl, sym, ap, ◌∙◌, arith, subst, append_assoc, append-nil, length-append, inl, inr, take_all, take_at, get_or}
use Rattle.std.proofs.lemmas.Bool.{cases_lt, and_parts, eqb-true, cond_both, true≢false}
use Rattle.std.proofs.lemmas.Fmt.{length-decimal-le}
use Rattle.std.proofs.Math.Seq.{take-append-add}
use Rattle.vv_class.specs.declared.class.AccessClass.{AccessClass}
use Rattle.vv_class.specs.declared.text.ClassFault.{ClassFault}
use Rattle.vv_class.specs.declared.scan.Half.{Half}
use Rattle.vv_class.specs.Class.{IsClass}
use Rattle.vv_class.specs.Scan.{Part, start_of, step_of, part_of, is_whole, fault_before, class_of_halves, at_the_end, second_of, class_of}
use Rattle.vv_class.specs.Text.{categories_below, listed, half_text, class_text, BeginsText, IsLongestStart}
use Rattle.vv_class.proofs.Sets.{length-listed}
use Rattle.vv_class.proofs.Runs.{runs, runs_on, half_runs, end_of, Stuck, ends, part_on, read_to, stops_at}
use Rattle.vv_class.proofs.Spelled.{Fits, Good, written, step_good, BeginsHalf, begins, start_fits, whole_half}

-- a half is read as far as it goes
record Reads (bytes : List ℕ) (part : Part) : Type 0 where
  fits : Fits part.half
  split : bytes ≡ written part.half ++ part.rest
  ran : runs start_of (written part.half) ≡ Some part.half
  stuck : Stuck part.half part.rest

reads_on : (s : Half) (b : ℕ) (bytes : List ℕ) (o : Option Half) → Fits s → runs start_of (written s) ≡ Some s → step_of s b ≡ o → Good (written s) b o
    → ((n : Half) → Fits n → runs start_of (written n) ≡ Some n → Reads (written n ++ bytes) (part_of n bytes)) → Reads (written s ++ b ∷ bytes) (part_on s b bytes o)
reads_on s b bytes None fits ran stuck good more = record { fits = fits; split = refl; ran = ran; stuck = stuck }
reads_on s b bytes (Some n) fits ran on good more =
    let onward : runs start_of (written n) ≡ Some n = ap (runs start_of) good.1 ∙ runs_on start_of s (written s) (b ∷ []) ran ∙ ap (option_and_then (λ (t : Half). Some t)) on in
    subst (λ xs. Reads xs (part_of n bytes)) (ap (λ (xs : List ℕ). xs ++ bytes) good.1 ∙ append_assoc (written s) (b ∷ []) bytes) (more n good.0 onward)

reads : (bytes : List ℕ) (s : Half) → Fits s → runs start_of (written s) ≡ Some s → Reads (written s ++ bytes) (part_of s bytes)
reads [] s fits ran = record { fits = fits; split = refl; ran = ran; stuck = tt }
reads (b ∷ bytes) s fits ran =
    reads_on s b bytes (step_of s b) fits ran refl (step_good s b fits) (λ n fits ran. reads bytes n fits ran)

half_reads : (bytes : List ℕ) → Reads bytes (part_of start_of bytes)
half_reads bytes = subst (λ xs. Reads (xs ++ bytes) (part_of start_of bytes)) start_fits.1 (reads bytes start_of start_fits.0 (ap (runs start_of) start_fits.1))

-- a text parts in one way
one_split : (xs ys us vs : List ℕ) (s t : Half) → runs start_of xs ≡ Some s → Stuck s us → runs start_of ys ≡ Some t → Stuck t vs → xs ++ us ≡ ys ++ vs → read_to s us ≡ read_to t vs
one_split xs ys us vs s t one stuck two other e = sym (stops_at xs us start_of s one stuck) ∙ ap (part_of start_of) e ∙ stops_at ys vs start_of t two other

-- what begins a class text: what begins a half, and a half with its semicolon and what begins one
first_begins : (part : List ℕ) → BeginsHalf part → BeginsText part
unfolding class_text
first_begins part (level, cats, rest, low, below, e) = (
  record { secrecy = level; secrecy_cats = cats; integrity = 0; integrity_cats = 0 },
  rest ++ (codes ";" ++ half_text 0 0),
  record { secrecy = low; secrecy_cats = below; integrity = omega arith; integrity_cats = omega arith },
  append_assoc (half_text level cats) (codes ";") (half_text 0 0) ∙ ap (λ (xs : List ℕ). xs ++ (codes ";" ++ half_text 0 0)) e ∙ append_assoc part rest (codes ";" ++ half_text 0 0),
)

second_begins : (secrecy secrecy_cats : ℕ) (part : List ℕ) → secrecy < 256 → secrecy_cats < 2 ^ 64 → BeginsHalf part → BeginsText (half_text secrecy secrecy_cats ++ 59 ∷ part)
unfolding class_text
second_begins secrecy secrecy_cats part in_range fits (level, cats, rest, low, below, e) = (
  record { secrecy = secrecy; secrecy_cats = secrecy_cats; integrity = level; integrity_cats = cats },
  rest,
  record { secrecy = in_range; secrecy_cats = fits; integrity = low; integrity_cats = below },
  append_assoc (half_text secrecy secrecy_cats) (codes ";") (half_text level cats) ∙ ap (λ (xs : List ℕ). half_text secrecy secrecy_cats ++ 59 ∷ xs) e ∙ sym (append_assoc (half_text secrecy secrecy_cats) (59 ∷ part) rest),
)

-- no class text goes on so
abbrev Bars : List ℕ → List ℕ → Type 0
Bars read [] = Unit {0}
Bars read (b ∷ rest) = (more : List ℕ) → BeginsText (read ++ b ∷ more) → ⊥

bars_first : (one : Half) (b : ℕ) → runs start_of (written one) ≡ Some one → step_of one b ≡ None → (is_whole one && b == 59) ≡ false → (more : List ℕ) → BeginsText (written one ++ b ∷ more) → ⊥
unfolding class_text
bars_first one b ran stuck neither more (c, after, is, e) =
    let run = half_runs c.secrecy c.secrecy_cats is.secrecy is.secrecy_cats in
    let a : List ℕ = half_text c.secrecy c.secrecy_cats in
    let d : List ℕ = half_text c.integrity c.integrity_cats in
    let text : a ++ 59 ∷ d ≡ written one ++ b ∷ (more ++ after) = sym (append_assoc a (codes ";") d) ∙ e ∙ append_assoc (written one) (b ∷ more) after in
    let parts = one_split a (written one) (59 ∷ d) (b ∷ (more ++ after)) (end_of c.secrecy run.0 c.secrecy_cats) one run.1 (ends c.secrecy run.0 c.secrecy_cats (59 ∷ d)) ran stuck text in
    true≢false (ap (λ (p : Part). is_whole p.half && get_or p.rest 0 0 == 59) parts ∙ neither)

bars_second : (one two : Half) (b : ℕ) → runs start_of (written one) ≡ Some one → step_of one 59 ≡ None → runs start_of (written two) ≡ Some two → step_of two b ≡ None
    → (more : List ℕ) → BeginsText ((written one ++ 59 ∷ written two) ++ b ∷ more) → ⊥
unfolding class_text
bars_second one two b ran stuck ran_two stuck_two more (c, after, is, e) =
    let run = half_runs c.secrecy c.secrecy_cats is.secrecy is.secrecy_cats in
    let last = half_runs c.integrity c.integrity_cats is.integrity is.integrity_cats in
    let a : List ℕ = half_text c.secrecy c.secrecy_cats in
    let d : List ℕ = half_text c.integrity c.integrity_cats in
    let rest : List ℕ = written two ++ b ∷ (more ++ after) in
    let text : a ++ 59 ∷ d ≡ written one ++ 59 ∷ rest =
    sym (append_assoc a (codes ";") d) ∙ e ∙ append_assoc (written one ++ 59 ∷ written two) (b ∷ more) after ∙ append_assoc (written one) (59 ∷ written two) (b ∷ (more ++ after)) in
    let parts = one_split a (written one) (59 ∷ d) (59 ∷ rest) (end_of c.secrecy run.0 c.secrecy_cats) one run.1 (ends c.secrecy run.0 c.secrecy_cats (59 ∷ d)) ran stuck text in
    let later : d ++ [] ≡ rest = append-nil d ∙ ap (λ (p : Part). drop 1 p.rest) parts in
    let none = one_split d (written two) [] (b ∷ (more ++ after)) (end_of c.integrity last.0 c.integrity_cats) two last.1 tt ran_two stuck_two later in
    let short : 0 ≡ suc (length (more ++ after)) = ap (λ (p : Part). length p.rest) none in
    omega arith

-- a fault after what begins a class text
faulty : (bytes read rest : List ℕ) → bytes ≡ read ++ rest → BeginsText read → Bars read rest → IsLongestStart bytes (length bytes - length rest)
faulty bytes read [] split start bars =
    let whole : bytes ≡ read = split ∙ append-nil read in
    record {
      within = omega arith;
      begins = subst BeginsText (sym (take_all (length bytes - 0) bytes (omega arith) ∙ whole)) start;
      longest = λ n le h. omega arith;
    }
faulty bytes read (b ∷ rest) split start bars =
    let size : length bytes ≡ length read + suc (length rest) = ap length split ∙ length-append read (b ∷ rest) in
    let place : length bytes - suc (length rest) ≡ length read = omega arith in
    record {
      within = omega arith;
      begins = subst BeginsText (sym (ap (take (length bytes - suc (length rest))) split ∙ take_at read (b ∷ rest) (length bytes - suc (length rest)) (sym place))) start;
      longest = λ n le h. elim (cases_lt (length read) n) [
        | inl far ↦
            let m : ℕ = n - suc (length read) in
            let to : n ≡ length read + suc m = omega arith in
            let same : take n bytes ≡ read ++ b ∷ take m rest = ap (take n) split ∙ ap (λ k. take k (read ++ b ∷ rest)) to ∙ take-append-add read (b ∷ rest) (suc m) in
            absurd (bars (take m rest) (subst BeginsText same h))
        | inr near ↦ omega (arith, near, place)
      ];
    }

-- a class has the text; a fault has the place of its longest start
abbrev pub Tells : List ℕ → Result AccessClass ClassFault → Type 0
Tells bytes (Ok c) = IsClass c × (bytes ≡ class_text c)
Tells bytes (Err fault) = IsLongestStart bytes fault.place

both_begin : (one two : Half) → Fits one → is_whole one ≡ true → Fits two → BeginsText (written one ++ 59 ∷ written two)
both_begin one two fits whole fits_two =
    let half = whole_half one fits whole in
    let same : half_text one.level one.cats ++ 59 ∷ written two ≡ written one ++ 59 ∷ written two = ap (λ (xs : List ℕ). xs ++ 59 ∷ written two) (sym half.2) in
    subst BeginsText same (second_begins one.level one.cats (written two) half.0 half.1 (begins two fits_two))

ended_tells : (bytes rest : List ℕ) (one two : Half) → Fits one → is_whole one ≡ true → runs start_of (written one) ≡ Some one → step_of one 59 ≡ None
    → Fits two → runs start_of (written two) ≡ Some two → Stuck two rest → bytes ≡ (written one ++ 59 ∷ written two) ++ rest → Tells bytes (at_the_end bytes one two rest)
unfolding class_text
ended_tells bytes [] one two fits whole ran stuck fits_two ran_two end split =
    cond_both (is_whole two) (Ok (class_of_halves one two)) (fault_before bytes []) (Tells bytes)
    (λ is.
    let half = whole_half one fits whole in
    let last = whole_half two fits_two is in (
      record { secrecy = half.0; secrecy_cats = half.1; integrity = last.0; integrity_cats = last.1 },
      split ∙ append-nil (written one ++ 59 ∷ written two) ∙ (λ i. half.2 i ++ 59 ∷ last.2 i) ∙ sym (append_assoc (half_text one.level one.cats) (codes ";") (half_text two.level two.cats)),
    ))
    (λ other. faulty bytes (written one ++ 59 ∷ written two) [] split (both_begin one two fits whole fits_two) tt)
ended_tells bytes (b ∷ rest) one two fits whole ran stuck fits_two ran_two end split =
    faulty bytes (written one ++ 59 ∷ written two) (b ∷ rest) split (both_begin one two fits whole fits_two) (bars_second one two b ran stuck ran_two end)

second_tells : (bytes rest : List ℕ) (one : Half) → Fits one → bytes ≡ written one ++ rest → runs start_of (written one) ≡ Some one → Stuck one rest → Tells bytes (second_of bytes one rest)
second_tells bytes [] one fits split ran stuck = faulty bytes (written one) [] split (first_begins (written one) (begins one fits)) tt
second_tells bytes (b ∷ rest) one fits split ran stuck =
    let two : Part = part_of start_of rest in
    cond_both (is_whole one && b == 59) (at_the_end bytes one two.half two.rest) (fault_before bytes (b ∷ rest)) (Tells bytes)
    (λ is.
    let both = and_parts (is_whole one) (b == 59) is in
    let middle : b ≡ 59 = eqb-true b 59 both.1 in
    let next = half_reads rest in
    ended_tells bytes two.rest one two.half fits both.0 ran (subst (λ c. step_of one c ≡ None) middle stuck) next.fits next.ran next.stuck
    (split ∙ (λ i. written one ++ middle i ∷ next.split i) ∙ sym (append_assoc (written one) (59 ∷ written two.half) two.rest)))
    (λ other. faulty bytes (written one) (b ∷ rest) split (first_begins (written one) (begins one fits)) (bars_first one b ran stuck other))

pub reading_tells : (bytes : List ℕ) → Tells bytes (class_of bytes)
unfolding class_of
reading_tells bytes =
    let one : Part = part_of start_of bytes in
    let first = half_reads bytes in
    second_tells bytes one.rest one.half first.fits first.split first.ran first.stuck

pub written_is_read : (c : AccessClass) → IsClass c → class_of (class_text c) ≡ Ok c
unfolding class_of class_text
written_is_read c is =
    let run = half_runs c.secrecy c.secrecy_cats is.secrecy is.secrecy_cats in
    let last = half_runs c.integrity c.integrity_cats is.integrity is.integrity_cats in
    let a : List ℕ = half_text c.secrecy c.secrecy_cats in
    let d : List ℕ = half_text c.integrity c.integrity_cats in
    let first : Half = end_of c.secrecy run.0 c.secrecy_cats in
    let one : part_of start_of (class_text c) ≡ read_to first (59 ∷ d) =
    ap (part_of start_of) (append_assoc a (codes ";") d) ∙ stops_at a (59 ∷ d) start_of first run.1 (ends c.secrecy run.0 c.secrecy_cats (59 ∷ d)) in
    let two : part_of start_of d ≡ read_to (end_of c.integrity last.0 c.integrity_cats) [] =
    ap (part_of start_of) (sym (append-nil d)) ∙ stops_at d [] start_of (end_of c.integrity last.0 c.integrity_cats) last.1 tt in
    ap (λ (p : Part). second_of (class_text c) p.half p.rest) one ∙ ap (λ (p : Part). at_the_end (class_text c) first p.half p.rest) two

-- the length of a class text
half_length : (level cats : ℕ) → level < 256 → length (half_text level cats) ≤ 197
half_length level cats low =
    let digits : length (decimal level) ≤ 3 = length-decimal-le 3 level (omega arith) (omega arith) (omega arith) in
    let set : length (listed (categories_below 64 cats)) ≤ 192 = length-listed 64 cats (omega arith) in
    let whole : length (half_text level cats) ≡ length (decimal level ++ codes "{" ++ listed (categories_below 64 cats)) + 1 = length-append (decimal level ++ codes "{" ++ listed (categories_below 64 cats)) (codes "}") in
    let most : length (decimal level ++ codes "{" ++ listed (categories_below 64 cats)) ≡ length (decimal level ++ codes "{") + length (listed (categories_below 64 cats)) = length-append (decimal level ++ codes "{") (listed (categories_below 64 cats)) in
    let some : length (decimal level ++ codes "{") ≡ length (decimal level) + 1 = length-append (decimal level) (codes "{") in
    omega arith

pub text_length : (c : AccessClass) → IsClass c → length (class_text c) ≤ 395
unfolding class_text
text_length c is =
    let one : length (half_text c.secrecy c.secrecy_cats) ≤ 197 = half_length c.secrecy c.secrecy_cats is.secrecy in
    let two : length (half_text c.integrity c.integrity_cats) ≤ 197 = half_length c.integrity c.integrity_cats is.integrity in
    let whole : length (half_text c.secrecy c.secrecy_cats ++ codes ";" ++ half_text c.integrity c.integrity_cats) ≡ length (half_text c.secrecy c.secrecy_cats ++ codes ";") + length (half_text c.integrity c.integrity_cats) =
    length-append (half_text c.secrecy c.secrecy_cats ++ codes ";") (half_text c.integrity c.integrity_cats) in
    let some : length (half_text c.secrecy c.secrecy_cats ++ codes ";") ≡ length (half_text c.secrecy c.secrecy_cats) + 1 = length-append (half_text c.secrecy c.secrecy_cats) (codes ";") in
    omega arith

-- no more bytes go on with a half than it has
pub part_short : (bytes : List ℕ) → length bytes ≤ length (part_of start_of bytes).rest + 197
part_short bytes =
    let one : Part = part_of start_of bytes in
    let first = half_reads bytes in
    let half = begins one.half first.fits in
    let size : length bytes ≡ length (written one.half) + length one.rest = ap length first.split ∙ length-append (written one.half) one.rest in
    let text : length (half_text half.0 half.1) ≡ length (written one.half) + length half.2 = ap length half.5 ∙ length-append (written one.half) half.2 in
    omega (arith, half_length half.0 half.1 half.3, size, text)

-- what the promises of reading give
pub reads_text : (bytes : List ℕ) (r : Result AccessClass ClassFault) → r ≡ class_of bytes → IfOk r (λ c. IsClass c × (bytes ≡ class_text c))
reads_text bytes (Ok c) is = subst (Tells bytes) (sym is) (reading_tells bytes)
reads_text bytes (Err fault) is = tt

pub faults_at : (bytes : List ℕ) (r : Result AccessClass ClassFault) → r ≡ class_of bytes → IfErr r (λ fault. IsLongestStart bytes fault.place)
faults_at bytes (Ok c) is = tt
faults_at bytes (Err fault) is = subst (Tells bytes) (sym is) (reading_tells bytes)

pub each_is_read : (bytes : List ℕ) (r : Result AccessClass ClassFault) → r ≡ class_of bytes → (c : AccessClass) → IsClass c → bytes ≡ class_text c → r ≡ Ok c
each_is_read bytes r is c in_range e = is ∙ ap class_of e ∙ written_is_read c in_range

pub one_class : (c d : AccessClass) → IsClass c → IsClass d → class_text c ≡ class_text d → c ≡ d
one_class c d in_c in_d e =
    let same : Ok c ≡ Ok d = sym (written_is_read c in_c) ∙ ap class_of e ∙ written_is_read d in_d in
    cc

pub refuses_others : (bytes : List ℕ) (r : Result AccessClass ClassFault) → r ≡ class_of bytes → OnErr r ((c : AccessClass) → IsClass c → bytes ≢ class_text c)
refuses_others bytes (Ok c) is = tt
refuses_others bytes (Err fault) is = λ c in_range e. (let read : Err fault ≡ Ok c = each_is_read bytes (Err fault) is c in_range e in cc)
