-- The text of a list of events is read as these events.
use Rattle.std.proofs.Common.{◌≡◌, ◌≢◌, ◌≤◌, ◌<◌, ◌+◌, ◌-◌, ◌^◌, ◌==◌, decimal, ℕ, List, [], ◌∷◌, ◌++◌, length, take, drop, get_or, Bool, true, false, ◌&&◌, ◌||◌, nat_le, Option, Some, Ok, refl, sym, ◌∙◌, ap, arith, rules, lit<, lit≤, ◌⊎◌, inl, inr}
use Rattle.std.proofs.lemmas.Bool.{leb-true, le-leb}
use Rattle.std.proofs.lemmas.Bool.Decides.{nat_tests}
use Rattle.std.proofs.lemmas.Fmt.{digits_decimal, digits_value-decimal, first_decimal, decimal_nonempty}
use Rattle.std.proofs.lemmas.Grind.{common_steps}
use Rattle.std.proofs.lemmas.List.{take_at, drop_at, append_assoc, get_or_append_left, get_or_at, length_push}
use Rattle.std.proofs.lemmas.List.Elements.{All-from_get_or, All-from_recursion, recursion_from_All}
use Rattle.std.proofs.lemmas.List.Splits.{length-slice_split, slice_split_at}
use Rattle.std.proofs.lemmas.List.Sums.{position_or_len_is}
use Rattle.std.proofs.lemmas.Str.Parse.{IsNumeralModel, numerals_by_fold}
use Rattle.std.specs.List.{AllByRecursion as ByRecursion, list_all, position_or_len, slice_split}
use Rattle.std.specs.Str.Lines.{lines, strip_carriage_return}
use Rattle.vv_base.specs.Digits.{decimal_from, is_decimal, is_digit}
use Rattle.vv_base.specs.Names.{is_letter, is_name_character, is_object_name, tested}
use Rattle.sys_script.specs.Events.{AreEvents, IsEvent, NeverFalls}
use Rattle.sys_script.specs.EventLine.{◌>>=◌, after_blank, event_in, front, is_allowed, or_kind, round_in, what_in, when}
use Rattle.sys_script.specs.Script.{events_from, is_passed_over, script_of}
use Rattle.sys_script.specs.Texts.{is_text_character}
use Rattle.sys_script.specs.Written.{line_text, script_text, what_text}
use Rattle.sys_script.specs.declared.event.Event.{Event}
use Rattle.sys_script.specs.declared.event.ScriptKind.TheVariants.{BadRound, BadName, BadEvent, BadText, RoundFalls}
use Rattle.sys_script.specs.declared.event.Typed.{Typed}
use Rattle.sys_script.specs.declared.event.Typed.TheVariants.{Break, Line}
use Rattle.vv_base.proofs.FirstLines.{first_part}

-- Bytes that are not below a bound.
abbrev pub AreFrom : ℕ → List ℕ → Type 0
AreFrom least bytes = ByRecursion (λ b. least ≤ b) bytes

pub both : (a b : Bool) → (a && b) ≡ true → (a ≡ true) × (b ≡ true)
both true b is = (refl, is)
both false b is = (cc, cc)

pub from_test : (test : ℕ → Bool) (least : ℕ) → ((b : ℕ) → test b ≡ true → least ≤ b) → (bytes : List ℕ) → list_all test bytes ≡ true → AreFrom least bytes
from_test test least bound [] is = tt
from_test test least bound (b ∷ bytes) is =
    let parts : (test b ≡ true) × (list_all test bytes ≡ true) = both (test b) (list_all test bytes) is in
    (bound b parts.0, from_test test least bound bytes parts.1)

pub joined : (least : ℕ) (xs ys : List ℕ) → AreFrom least xs → AreFrom least ys → AreFrom least (xs ++ ys)
joined least [] ys first second = second
joined least (x ∷ xs) ys first second = (first.0, joined least xs ys first.1 second)

pub lower : (more less : ℕ) (xs : List ℕ) → less ≤ more → AreFrom more xs → AreFrom less xs
lower more less [] below all = tt
lower more less (x ∷ xs) below all = (omega (arith, below, all.0), lower more less xs below all.1)

pub other : (least b c : ℕ) → c < least → least ≤ b → (b == c) ≡ false
other least b c below from = let ne : b ≢ c = omega (arith, below, from) in grind (arith, nat_tests)

lacks : (least c : ℕ) (xs : List ℕ) → c < least → AreFrom least xs → (i : ℕ) → i < length xs → (get_or xs i 0 == c) ≡ false
lacks least c xs below all i within = other least (get_or xs i 0) c below (All-from_recursion (λ b. least ≤ b) xs all i 0 within)

-- Cut at the first blank.
same : (c : ℕ) → (c == c) ≡ true
same c = grind (arith, nat_tests)

position_at : (least c : ℕ) (xs ys : List ℕ) → c < least → AreFrom least xs → position_or_len (λ b. b == c) (xs ++ c ∷ ys) ≡ length xs
position_at least c xs ys below all =
    position_or_len_is (λ b. b == c) (xs ++ c ∷ ys) (length xs) 0 (grind (arith, common_steps))
    (λ k within. rw get_or_append_left (lacks least c xs below all k within)) (λ _. rw (get_or_at xs c ys 0 (length xs) refl) (same c))

pub front_at : (xs ys : List ℕ) → AreFrom 33 xs → front (xs ++ 32 ∷ ys) ≡ xs
front_at xs ys all = ap (λ n. take n (xs ++ 32 ∷ ys)) (position_at 33 32 xs ys (lit< tt) all) ∙ take_at xs (32 ∷ ys) (length xs) refl

pub after_at : (xs ys : List ℕ) → AreFrom 33 xs → after_blank (xs ++ 32 ∷ ys) ≡ ys
after_at xs ys all =
    ap (λ n. drop (n + 1) (xs ++ 32 ∷ ys)) (position_at 33 32 xs ys (lit< tt) all)
    ∙ ap (drop (length xs + 1)) (sym (append_assoc xs (32 ∷ []) ys)) ∙ drop_at (xs ++ 32 ∷ []) ys (length xs + 1) (length_push xs 32)

-- A line with its end.
no_return : (line : List ℕ) → AreFrom 32 line → strip_carriage_return line ≡ line
no_return [] all = refl
no_return (b ∷ line) all = rw (lacks 32 13 (b ∷ line) (lit< tt) all (length (b ∷ line) - 1) (grind (arith, common_steps)))

pub lines_at : (line rest : List ℕ) → AreFrom 32 line → lines (line ++ 10 ∷ rest) ≡ line ∷ lines rest
lines_at line rest all =
    let cut : slice_split (λ b. b == 10) (line ++ 10 ∷ rest) ≡ line ∷ slice_split (λ b. b == 10) rest =
    slice_split_at (λ b. b == 10) line 10 rest (All-from_get_or (λ b. (b == 10) ≡ false) line 0 (λ i within. lacks 32 10 line (lit< tt) all i within)) refl in
    rw (cut, first_part line (slice_split (λ b. b == 10) rest) _ (length-slice_split (λ b. b == 10) rest), no_return line all)

-- The parts of a line.
own : IsNumeralModel (λ digits. list_all is_digit digits ≡ true) (decimal_from 0)
own = numerals_by_fold (λ digits. list_all is_digit digits ≡ true) (search rules) decimal_from (search rules)

is_a_number : (digits : List ℕ) → list_all is_digit digits ≡ true → 48 < get_or digits 0 0 → is_decimal digits ≡ true
is_a_number [] all first = grind arith
is_a_number (d ∷ []) all first = (both (is_digit d) true all).0
is_a_number (d ∷ e ∷ digits) all first = rw (other 49 d 48 (lit< tt) (omega (arith, first)), all)

pub round_read : (n : ℕ) → 1 ≤ n → n ≤ 1000000 → round_in (decimal n) ≡ Some n
round_read n from to =
    let small : n < 2 ^ 64 = omega (arith, to) in
    let all : list_all is_digit (decimal n) ≡ true = digits_decimal own n small in
    let value : decimal_from 0 (decimal n) ≡ n = digits_value-decimal own n small in
    rw (is_a_number (decimal n) all (first_decimal n from small), value, le-leb n 1000000 to, le-leb 1 n from)

digits_from : (b : ℕ) → is_digit b ≡ true → 48 ≤ b
digits_from b is = leb-true 48 b (both (nat_le 48 b) (nat_le b 57) is).0

pub shown_from : (b : ℕ) → is_text_character b ≡ true → 32 ≤ b
shown_from b is = leb-true 32 b (both (nat_le 32 b) (nat_le b 126) is).0

letters_from : (b : ℕ) → is_letter b ≡ true → 65 ≤ b
letters_from b is = leb-true 65 b (both (nat_le 65 b) (nat_le b 90) is).0

either : (first second : Bool) → (first || second) ≡ true → (first ≡ true) ⊎ (second ≡ true)
either true second is = inl refl
either false second is = inr is

characters_from : (b : ℕ) → is_name_character b ≡ true → 48 ≤ b
characters_from b is = elim (either (is_letter b) (nat_le 48 b && nat_le b 57) is) [ inl letter ↦ omega (arith, letters_from b letter) | inr digit ↦ leb-true 48 b (both (nat_le 48 b) (nat_le b 57) digit).0 ]

pub decimal_from_48 : (n : ℕ) → n < 2 ^ 64 → AreFrom 48 (decimal n)
decimal_from_48 n small = from_test is_digit 48 digits_from (decimal n) (digits_decimal own n small)

pub name_from_48 : (name : List ℕ) → is_object_name name ≡ true → AreFrom 48 name
name_from_48 [] is = tt
name_from_48 (b ∷ name) is =
    let outer : (is_letter b && list_all is_name_character name ≡ true) × (nat_le (length name) 7 ≡ true) = both (is_letter b && list_all is_name_character name) (nat_le (length name) 7) is in
    let inner : (is_letter b ≡ true) × (list_all is_name_character name ≡ true) = both (is_letter b) (list_all is_name_character name) outer.0 in
    (omega (arith, letters_from b inner.0), from_test is_name_character 48 characters_from name inner.1)

what_from_32 : (what : Typed) → is_allowed what ≡ true → AreFrom 32 (what_text what)
what_from_32 Break is = (lit≤ tt, (lit≤ tt, (lit≤ tt, (lit≤ tt, (lit≤ tt, tt)))))
what_from_32 (Line text) is = (lit≤ tt, (lit≤ tt, from_test is_text_character 32 shown_from text (both (nat_le (length text) 1000) (list_all is_text_character text) is).1))

what_read : (what : Typed) → what_in (what_text what) ≡ Some what
what_read Break = refl
what_read (Line []) = refl
what_read (Line (b ∷ text)) = refl

-- A line that was written.
line_from_32 : (event : Event) → IsEvent event → AreFrom 32 (line_text event)
line_from_32 event is =
    let number : AreFrom 32 (decimal event.round) = lower 48 32 (decimal event.round) (lit≤ tt) (decimal_from_48 event.round (omega (arith, is.to))) in
    let name : AreFrom 32 event.terminal = lower 48 32 event.terminal (lit≤ tt) (name_from_48 event.terminal is.terminal) in
    let what : AreFrom 32 (what_text event.what) = what_from_32 event.what is.what in
    joined 32 (decimal event.round) (32 ∷ (event.terminal ++ 32 ∷ what_text event.what)) number (lit≤ tt, joined 32 event.terminal (32 ∷ what_text event.what) name (lit≤ tt, what))

passed : (last : ℕ) (round : Option ℕ) (name : Option (List ℕ)) (what : Option Typed) (event : Event)
    → round ≡ Some event.round → name ≡ Some event.terminal → what ≡ Some event.what → is_allowed event.what ≡ true → nat_le last event.round ≡ true
    → (or_kind BadRound round >>= λ r. or_kind BadName name >>= λ n. or_kind BadEvent what >>= λ w. when BadText (is_allowed w) >>= λ _. when RoundFalls (nat_le last r) >>= λ _. Ok (record { round = r; terminal = n; what = w })) ≡ Ok event
passed last round name what event number named asked allowed rises = rw (number, named, asked, allowed, rises)

line_read : (last : ℕ) (event : Event) → IsEvent event → last ≤ event.round → event_in last (line_text event) ≡ Ok event
unfolding event_in
line_read last event is rises =
    let small : event.round < 2 ^ 64 = omega (arith, is.to) in
    let number : AreFrom 33 (decimal event.round) = lower 48 33 (decimal event.round) (lit≤ tt) (decimal_from_48 event.round small) in
    let name : AreFrom 33 event.terminal = lower 48 33 event.terminal (lit≤ tt) (name_from_48 event.terminal is.terminal) in
    let after : after_blank (line_text event) ≡ event.terminal ++ 32 ∷ what_text event.what = after_at (decimal event.round) (event.terminal ++ 32 ∷ what_text event.what) number in
    let round : round_in (front (line_text event)) ≡ Some event.round =
    rw (front_at (decimal event.round) (event.terminal ++ 32 ∷ what_text event.what) number, round_read event.round is.from is.to) in
    let terminal : tested is_object_name (front (after_blank (line_text event))) ≡ Some event.terminal =
    rw (after, front_at event.terminal (what_text event.what) name, is.terminal) in
    let what : what_in (after_blank (after_blank (line_text event))) ≡ Some event.what =
    rw (after, after_at event.terminal (what_text event.what) name, what_read event.what) in
    passed last _ _ _ event round terminal what is.what (le-leb last event.round rises)

-- it is no comment
pub is_read : (number rest : List ℕ) → AreFrom 48 number → 0 < length number → is_passed_over (number ++ rest) ≡ false
is_read [] rest all some = grind arith
is_read (b ∷ number) rest all some = other 48 b 35 (lit< tt) all.0

all_again : (number last : ℕ) (events : List Event) → ByRecursion IsEvent events → NeverFalls last events → events_from number last (lines (script_text events)) ≡ Ok events
all_again number last [] each order = refl
all_again number last (event ∷ more) each order =
    let small : event.round < 2 ^ 64 = omega (arith, each.0.to) in
    rw (
      lines_at (line_text event) (script_text more) (line_from_32 event each.0),
      is_read (decimal event.round) (32 ∷ (event.terminal ++ 32 ∷ what_text event.what)) (decimal_from_48 event.round small) (decimal_nonempty event.round small),
      line_read last event each.0 order.0,
      all_again (number + 1) event.round more each.1 order.1,
    )

pub written_is_read : (events : List Event) → AreEvents events → script_of (script_text events) ≡ Ok events
unfolding script_of
written_is_read events are = all_again 1 0 events (recursion_from_All IsEvent events are.each) are.order
