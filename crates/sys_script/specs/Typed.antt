-- What is typed while a run goes on (profile): lines of a script without their round. An empty line ends the round; a line that
-- begins with `#` is passed over; a line that says no event changes nothing.
use Rattle.std.specs.Prelude.{ℕ, ◌≡◌, ◌+◌, ◌≤◌, List, [], ◌∷◌, ◌++◌, Bool, true, false, ◌||◌, codes, decimal, if◌then◌else◌, is_ok, Result, Ok, Err}
use Rattle.vv_base.specs.Names.{is_object_name, tested}
use Rattle.sys_script.specs.Kinds.{kind_text}
use Rattle.sys_script.specs.EventLine.{◌>>=◌, after_blank, event_in, front, is_allowed, or_kind, what_in, when}
use Rattle.sys_script.specs.Script.{is_passed_over, script_of}
use Rattle.sys_script.specs.declared.event.Event.{Event}
use Rattle.sys_script.specs.declared.event.ScriptKind.{ScriptKind}
use Rattle.sys_script.specs.declared.event.ScriptKind.TheVariants.{BadName, BadEvent, BadText}
use Rattle.sys_script.specs.declared.event.TypedError.{TypedError}
use Rattle.sys_script.specs.declared.event.TypedError.TheVariants.{Refused, NoMemory}

-- the event that a line says in a round, `NAME > TEXT` or `NAME break`; the first test that fails gives the kind
unfoldable pub typed_in : ℕ → List ℕ → Result Event ScriptKind
typed_in round line =
    or_kind BadName (tested is_object_name (front line)) >>= λ name.
    or_kind BadEvent (what_in (after_blank line)) >>= λ what.
    when BadText (is_allowed what) >>= λ _.
    Ok (record { round = round; terminal = name; what = what })

-- whether a line says an event, which is so in every round or in none
abbrev pub says_event : List ℕ → Bool
says_event line = is_ok (typed_in 1 line)

abbrev pub if_said : Result Event ScriptKind → List Event → List Event
if_said (Ok event) events = event ∷ events
if_said (Err kind) events = events

-- the events of lines that are typed from a round on, in their order
abbrev pub events_typed : ℕ → List (List ℕ) → List Event
events_typed round [] = []
events_typed round ([] ∷ more) = events_typed (round + 1) more
events_typed round ((b ∷ line) ∷ more) = if_said (typed_in round (b ∷ line)) (events_typed round more)

-- how many rounds lines end: one for each line that is empty
abbrev pub rounds_ended : List (List ℕ) → ℕ
rounds_ended [] = 0
rounds_ended ([] ∷ more) = 1 + rounds_ended more
rounds_ended ((b ∷ line) ∷ more) = rounds_ended more

-- how many rounds lines make: those that they end, and one more where an event was said since (or before the first, `is_begun`)
abbrev pub rounds_typed : Bool → List (List ℕ) → ℕ
rounds_typed is_begun [] = if is_begun then 1 else 0
rounds_typed is_begun ([] ∷ more) = 1 + rounds_typed false more
rounds_typed is_begun ((b ∷ line) ∷ more) = rounds_typed (is_begun || says_event (b ∷ line)) more

-- the script of such lines: each that says an event, with the number of its round in front. 32 is a blank, and 10 a line feed
abbrev pub script_typed : ℕ → List (List ℕ) → List ℕ
script_typed round [] = []
script_typed round ([] ∷ more) = script_typed (round + 1) more
script_typed round ((b ∷ line) ∷ more) =
    if says_event (b ∷ line) then decimal round ++ 32 ∷ ((b ∷ line) ++ 10 ∷ script_typed round more) else script_typed round more

-- what is reported of a line: nothing where it is passed over or says an event, or else its number and why not
abbrev pub why_not : ℕ → Result Event ScriptKind → List ℕ
why_not number (Ok event) = []
why_not number (Err kind) = (codes "vvmm: typed line " ++ decimal number) ++ 32 ∷ (kind_text kind ++ 10 ∷ [])

abbrev pub refusal_message : ℕ → List ℕ → List ℕ
refusal_message number line = if is_passed_over line then [] else why_not number (typed_in 1 line)

-- what is reported of lines that are numbered from `number` on
abbrev pub refusal_messages : ℕ → List (List ℕ) → List ℕ
refusal_messages number [] = []
refusal_messages number (line ∷ more) = refusal_message number line ++ refusal_messages (number + 1) more

-- a line says in a round what the script's line says that has the round's number in front
abbrev pub SaysWithRound : Type 0
SaysWithRound = (round : ℕ) (line : List ℕ) → 1 ≤ round → round ≤ 1000000 → event_in round (decimal round ++ 32 ∷ line) ≡ typed_in round line

-- the events of lines are the meaning of their script, where they make at most 1,000,000 rounds
abbrev pub MeansTyped : Type 0
MeansTyped = (lines : List (List ℕ)) → rounds_typed false lines ≤ 1000000 → script_of (script_typed 1 lines) ≡ Ok (events_typed 1 lines)

-- what reading a line may answer; memory runs out only for one that says an event
abbrev pub ReadsTyped : Result Event ScriptKind → Result Event TypedError → Type 0
ReadsTyped said (Ok event) = said ≡ Ok event
ReadsTyped said (Err (Refused kind)) = said ≡ Err kind
ReadsTyped said (Err NoMemory) = is_ok said ≡ true
