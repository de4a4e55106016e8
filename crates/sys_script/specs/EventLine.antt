-- What one line of a script says (profile): `ROUND NAME > TEXT`, `ROUND NAME >` for an empty text, or
-- `ROUND NAME break`, with single blanks.
use Rattle.std.specs.Option.{option_and_then}
use Rattle.std.specs.List.{after_first, before_first}
use Rattle.std.specs.Prelude.{ℕ, List, [], codes, take, drop, Bool, true, false, ◌==◌, nat_le, if◌then◌else◌, Option, Some, None, Result, Ok, Err, bytes_eq}
use Rattle.vv_base.specs.Digits.{decimal_of}
use Rattle.vv_base.specs.Names.{is_object_name, tested}
use Rattle.sys_script.specs.Texts.{is_text}
use Rattle.sys_script.specs.declared.event.Event.{Event}
use Rattle.sys_script.specs.declared.event.ScriptKind.{ScriptKind}
use Rattle.sys_script.specs.declared.event.ScriptKind.TheVariants.{BadRound, BadName, BadEvent, BadText, RoundFalls}
use Rattle.sys_script.specs.declared.event.Typed.{Typed}
use Rattle.sys_script.specs.declared.event.Typed.TheVariants.{Break, Line}

-- up to the first blank (32), and after it; with no blank that is all, and nothing
abbrev pub front : List ℕ → List ℕ
front text = before_first (λ b. b == 32) text

abbrev pub after_blank : List ℕ → List ℕ
after_blank text = after_first (λ b. b == 32) text

-- a round: a number from 1 to 1,000,000
abbrev pub round_in : List ℕ → Option ℕ
round_in text = option_and_then (λ n. if nat_le 1 n then Some n else None) (decimal_of text 1000000)

-- what happens at the terminal: a break, or a line typed after the sign
abbrev pub what_in : List ℕ → Option Typed
what_in text =
    if bytes_eq text (codes "break") then Some Break else
    if bytes_eq text (codes ">") then Some (Line []) else
    if bytes_eq (take 2 text) (codes "> ") then Some (Line (drop 2 text)) else None

abbrev pub is_allowed : Typed → Bool
is_allowed Break = true
is_allowed (Line text) = is_text text

-- the steps of a test that fails with a kind
infixl 10 ◌>>=◌
abbrev pub ◌>>=◌ : {A B E : Type 0} → Result A E → (A → Result B E) → Result B E
(Ok x) >>= f = f x
(Err e) >>= f = Err e

abbrev pub or_kind : {A : Type 0} → ScriptKind → Option A → Result A ScriptKind
or_kind kind (Some x) = Ok x
or_kind kind None = Err kind

abbrev pub when : ScriptKind → Bool → Result (Unit {0}) ScriptKind
when kind true = Ok tt
when kind false = Err kind

-- the event that a line says, where the event before it is of the round `last`; the first test that fails gives the kind
unfoldable pub event_in : ℕ → List ℕ → Result Event ScriptKind
event_in last line =
    or_kind BadRound (round_in (front line)) >>= λ round.
    or_kind BadName (tested is_object_name (front (after_blank line))) >>= λ name.
    or_kind BadEvent (what_in (after_blank (after_blank line))) >>= λ what.
    when BadText (is_allowed what) >>= λ _.
    when RoundFalls (nat_le last round) >>= λ _.
    Ok (record { round = round; terminal = name; what = what })
