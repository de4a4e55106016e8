-- What is typed where it may not flow changes nothing: two typings that are alike to a class have one purge to it, and a line more
-- is such a typing.
use Rattle.std.proofs.Common.{◌≡◌, ◌≢◌, ◌≤◌, ◌+◌, ℕ, List, [], ◌∷◌, ◌++◌, Bool, false, ◌||◌, Result, Ok, Err, refl, ap, arith}
use Rattle.vv_base.specs.Names.{is_object_name, tested}
use Rattle.vv_class.specs.declared.class.AccessClass.{AccessClass}
use Rattle.sys_objects.specs.declared.records.Config.{Config}
use Rattle.sys_purge.proofs.Depends.{devices_depend, volumes_depend}
use Rattle.sys_purge.specs.Events.{is_kept_event, purge_events}
use Rattle.sys_purge.specs.Input.{purge_images, purge_volumes, purged}
use Rattle.sys_purge.specs.Purge.{purge_config}
use Rattle.sys_state.proofs.Places.{both}
use Rattle.sys_script.specs.EventLine.{◌>>=◌, after_blank, front, is_allowed, or_kind, what_in, when}
use Rattle.sys_script.specs.Typed.{events_typed, if_said, rounds_ended, rounds_typed, says_event, typed_in}
use Rattle.sys_script.specs.declared.event.Event.{Event}
use Rattle.sys_script.specs.declared.event.ScriptKind.{ScriptKind}
use Rattle.sys_script.specs.declared.event.ScriptKind.TheVariants.{BadName, BadEvent, BadText}
use Rattle.sys_script.specs.declared.event.Typed.{Typed}
use Rattle.vvmm_laws.specs.Live.{ALineMoreIsAlike, AreAlikeTo, TypingKeepsDrives, TypingKeepsLines, input_typed}

one_purge : (c : Config) (images : List (List ℕ)) (volumes : List (List (List ℕ))) (typed typed' : List (List ℕ)) (to : AccessClass) → AreAlikeTo c to typed typed' → purged (input_typed c images volumes typed) to ≡ purged (input_typed c images volumes typed') to
one_purge c images volumes typed typed' to alike =
    λ i. record {
      config = purge_config c to;
      images = purge_images c.guests images to;
      volumes = purge_volumes c.volumes volumes to;
      events = alike.events i;
      rounds = alike.rounds i;
    }

pub typing_keeps_lines : TypingKeepsLines
typing_keeps_lines c images volumes typed typed' to is alike = devices_depend (input_typed c images volumes typed) (input_typed c images volumes typed') to is is (one_purge c images volumes typed typed' to alike)

pub typing_keeps_drives : TypingKeepsDrives
typing_keeps_drives c images volumes typed typed' to is alike = volumes_depend (input_typed c images volumes typed) (input_typed c images volumes typed') to is is (one_purge c images volumes typed typed' to alike)

-- an event is kept in every round or in none
abbrev said : ℕ → Result (List ℕ) ScriptKind → Result Typed ScriptKind → (Typed → Result (Unit {0}) ScriptKind) → Result Event ScriptKind
said round name what allows = name >>= λ n. what >>= λ w. allows w >>= λ _. Ok (record { round = round; terminal = n; what = w })

module _ (c : Config) (to : AccessClass) where
  one_unkept : (round : ℕ) (n : List ℕ) (w : Typed) (allowed : Result (Unit {0}) ScriptKind) (es : List Event)
      → purge_events c (if_said (allowed >>= λ _. Ok (record { round = 1; terminal = n; what = w })) []) to ≡ [] → purge_events c (if_said (allowed >>= λ _. Ok (record { round = round; terminal = n; what = w })) es) to ≡ purge_events c es to
  one_unkept round n w (Err kind) es none = refl
  one_unkept round n w (Ok _) es none =
      let event : Event = record { round = round; terminal = n; what = w } in
      both (is_kept_event c to event) (λ is. absurd (let there = rw is at none in cc)) (λ isnt. rw isnt refl)

  said_unkept : (round : ℕ) (name : Result (List ℕ) ScriptKind) (what : Result Typed ScriptKind) (allows : Typed → Result (Unit {0}) ScriptKind) (es : List Event) → purge_events c (if_said (said 1 name what allows) []) to ≡ []
      → purge_events c (if_said (said round name what allows) es) to ≡ purge_events c es to
  said_unkept round (Err kind) what allows es none = refl
  said_unkept round (Ok n) (Err kind) allows es none = refl
  said_unkept round (Ok n) (Ok w) allows es none = one_unkept round n w (allows w) es none

  line_unkept : (round : ℕ) (line : List ℕ) (es : List Event) → purge_events c (if_said (typed_in 1 line) []) to ≡ [] → purge_events c (if_said (typed_in round line) es) to ≡ purge_events c es to
  unfolding typed_in
  line_unkept round line es none = said_unkept round (or_kind BadName (tested is_object_name (front line))) (or_kind BadEvent (what_in (after_blank line))) (λ w. when BadText (is_allowed w)) es none

  -- the same said before the same
  same_said : (says : Result Event ScriptKind) (es fs : List Event) → purge_events c es to ≡ purge_events c fs to → purge_events c (if_said says es) to ≡ purge_events c (if_said says fs) to
  same_said (Err kind) es fs same = same
  same_said (Ok event) es fs same = both (is_kept_event c to event) (λ is. rw is (ap (λ (gs : List Event). event ∷ gs) same)) (λ isnt. rw isnt same)

  more_events : (round : ℕ) (before after : List (List ℕ)) (line : List ℕ) → line ≢ [] → purge_events c (events_typed 1 (line ∷ [])) to ≡ [] → purge_events c (events_typed round (before ++ line ∷ after)) to ≡ purge_events c (events_typed round (before ++ after)) to
  more_events round [] after [] some none = absurd (some refl)
  more_events round [] after (b ∷ line) some none = line_unkept round (b ∷ line) (events_typed round after) none
  more_events round ([] ∷ before) after line some none = more_events (round + 1) before after line some none
  more_events round ((b ∷ first) ∷ before) after line some none = same_said (typed_in round (b ∷ first)) (events_typed round (before ++ line ∷ after)) (events_typed round (before ++ after)) (more_events round before after line some none)

-- where an empty line comes, it doesn't matter what was said before it
begun_or_not : (begun begun' : Bool) (after : List (List ℕ)) → 1 ≤ rounds_ended after → rounds_typed begun after ≡ rounds_typed begun' after
begun_or_not begun begun' [] ends = absurd (omega arith)
begun_or_not begun begun' ([] ∷ after) ends = refl
begun_or_not begun begun' ((b ∷ line) ∷ after) ends = begun_or_not (begun || says_event (b ∷ line)) (begun' || says_event (b ∷ line)) after ends

more_rounds : (begun : Bool) (before after : List (List ℕ)) (line : List ℕ) → line ≢ [] → 1 ≤ rounds_ended after → rounds_typed begun (before ++ line ∷ after) ≡ rounds_typed begun (before ++ after)
more_rounds begun [] after [] some ends = absurd (some refl)
more_rounds begun [] after (b ∷ line) some ends = begun_or_not (begun || says_event (b ∷ line)) begun after ends
more_rounds begun ([] ∷ before) after line some ends = ap (λ (n : ℕ). 1 + n) (more_rounds false before after line some ends)
more_rounds begun ((b ∷ first) ∷ before) after line some ends = more_rounds (begun || says_event (b ∷ first)) before after line some ends

pub line_more_is_alike : ALineMoreIsAlike
line_more_is_alike c to before after line some none ends = record {
  events = more_events c to 1 before after line some none;
  rounds = more_rounds false before after line some ends;
}
