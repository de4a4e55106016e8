-- Worked examples of lines and scripts, checked by computation.
use Rattle.std.specs.Prelude.{◌≡◌, ℕ, ◌+◌, ◌^◌, [], ◌∷◌, ◌++◌, codes, false, Ok, Err, refl}
use Rattle.std.specs.Fmt.{digits}
use Rattle.std.specs.Str.Lines.{lines}
use Rattle.sys_script.specs.EventLine.{event_in}
use Rattle.sys_script.specs.Script.{reported_fault, script_of}
use Rattle.sys_script.specs.Typed.{events_typed, refusal_messages, rounds_typed, script_typed, typed_in}
use Rattle.sys_script.specs.Written.{script_text}
use Rattle.sys_script.specs.declared.event.ScriptKind.TheVariants.{BadRound, BadName, BadEvent, BadText, RoundFalls}
use Rattle.sys_script.specs.declared.event.Typed.TheVariants.{Break, Line}

-- 13 and 10 are a carriage return and a line feed
both_ends : lines (codes "a" ++ 13 ∷ 10 ∷ [] ++ codes "b" ++ 10 ∷ []) ≡ codes "a" ∷ codes "b" ∷ []
both_ends = refl

the_last_keeps_its_return : lines (codes "a" ++ 13 ∷ 10 ∷ [] ++ codes "b" ++ 13 ∷ []) ≡ codes "a" ∷ (codes "b" ++ 13 ∷ []) ∷ []
the_last_keeps_its_return = refl

one_return_is_lost : lines (codes "a" ++ 13 ∷ 13 ∷ 10 ∷ []) ≡ (codes "a" ++ 13 ∷ []) ∷ []
one_return_is_lost = refl

pub no_events : script_of [] ≡ Ok []
unfolding script_of
no_events = refl

pub events_in_order : script_of (codes "# comment\n\n3 T1 > SHOW\n3 T2 break\n") ≡ Ok (record { round = 3; terminal = codes "T1"; what = Line (codes "SHOW") } ∷ record { round = 3; terminal = codes "T2"; what = Break } ∷ [])
unfolding script_of event_in
events_in_order = refl

-- with and without a blank after the sign
pub empty_texts : script_of (codes "1 T1 >\n1 T1 > \n") ≡ Ok (record { round = 1; terminal = codes "T1"; what = Line [] } ∷ record { round = 1; terminal = codes "T1"; what = Line [] } ∷ [])
unfolding script_of event_in
empty_texts = refl

-- the blanks after the first are part of the text
pub blanks_are_typed : script_of (codes "1 T1 >  A ") ≡ Ok (record { round = 1; terminal = codes "T1"; what = Line (codes " A ") } ∷ [])
unfolding script_of event_in
blanks_are_typed = refl

pub a_round_falls : script_of (codes "3 T1 > A\n2 T1 > B\n") ≡ Err (record { line = 2; kind = RoundFalls })
unfolding script_of event_in
a_round_falls = refl

-- passed-over lines count
pub the_fourth_line : script_of (codes "#\n\n1 T1 break\n0 T1 break\n") ≡ Err (record { line = 4; kind = BadRound })
unfolding script_of event_in
the_fourth_line = refl

pub no_comment : script_of (codes " #\n") ≡ Err (record { line = 1; kind = BadRound })
unfolding script_of event_in
no_comment = refl

pub two_blanks : script_of (codes "1  T1 break") ≡ Err (record { line = 1; kind = BadName })
unfolding script_of event_in
two_blanks = refl

pub nothing_after_a_break : script_of (codes "1 T1 break now") ≡ Err (record { line = 1; kind = BadEvent })
unfolding script_of event_in
nothing_after_a_break = refl

pub a_return_is_no_text : script_of (codes "1 T1 > A" ++ 13 ∷ []) ≡ Err (record { line = 1; kind = BadText })
unfolding script_of event_in
a_return_is_no_text = refl

-- a line's number as far as 32 bits hold it
a_number_is_told : reported_fault {A = ℕ} (Err (record { line = 70000; kind = BadName })) ≡ Err (record { line = 70000; kind = BadName })
a_number_is_told = refl

the_greatest_number : reported_fault {A = ℕ} (Err (record { line = 2 ^ 32 + 5; kind = BadName })) ≡ Err (record { line = 4294967295; kind = BadName })
the_greatest_number = refl

pub written : script_text (record { round = 12; terminal = codes "T1"; what = Line (codes "SHOW") } ∷ record { round = 1000000; terminal = codes "T1"; what = Break } ∷ []) ≡ codes "12 T1 > SHOW\n1000000 T1 break\n"
unfolding digits
written = refl

-- the second round has no event, and the third has one after a comment and a line that is refused
pub script_of_lines : script_typed 1 (codes "T1 > A" ∷ [] ∷ [] ∷ codes "# no" ∷ codes "T1 brake" ∷ codes "T1 break" ∷ []) ≡ codes "1 T1 > A\n3 T1 break\n"
unfolding typed_in digits
script_of_lines = refl

pub rounds_of_lines : rounds_typed false (codes "T1 > A" ∷ [] ∷ [] ∷ codes "T1 brake" ∷ codes "T1 break" ∷ []) ≡ 3
unfolding typed_in
rounds_of_lines = refl

-- what is refused begins no round
pub no_round_of_a_refused_line : rounds_typed false (codes "T1 > A" ∷ [] ∷ codes "T1 brake" ∷ []) ≡ 1
unfolding typed_in
no_round_of_a_refused_line = refl

pub nothing_typed : rounds_typed false [] ≡ 0
nothing_typed = refl

pub typed_events : events_typed 1 ([] ∷ codes "T1 break" ∷ []) ≡ record { round = 2; terminal = codes "T1"; what = Break } ∷ []
unfolding typed_in
typed_events = refl

-- empty lines and comments count
pub told_of_the_fourth : refusal_messages 1 ([] ∷ codes "# no" ∷ codes "T1 break" ∷ codes "T1 brake" ∷ []) ≡ codes "vvmm: typed line 4 BadEvent\n"
unfolding typed_in digits
told_of_the_fourth = refl
