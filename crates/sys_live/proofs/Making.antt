-- Rounds that are made as their lines are typed: what is between two of them.
use Rattle.std.proofs.Common.{ℕ, suc, ◌≡◌, ◌≢◌, ◌<◌, ◌≤◌, ◌+◌, ◌==◌, List, [], ◌∷◌, ◌++◌, length, take, slice_index_or, refl, sym, ◌∙◌, ap, subst, arith, append_assoc, append-nil, length-append, All, IfOk, Bool, true, false, true≢false, Option, Some, None, Result, inl, inr}
use Rattle.std.proofs.lemmas.Bool.{eqb-true}
use Rattle.std.proofs.lemmas.List.{take-append-le}
use Rattle.std.proofs.lemmas.List.Elements.{All-append}
use Rattle.std.specs.Result.{is_err}
use Rattle.vax_hw.specs.Machine.{Machine}
use Rattle.vv_io.specs.Keys.{Keys, Took}
use Rattle.vv_io.specs.Lines.{Seen, unseen}
use Rattle.sys_devices.specs.Rounds.{echo_all, echo_rounds, taken_next}
use Rattle.sys_devices.specs.Screens.{AreSameScreens, AreScreens, AreWithin, Echoes, IsLineKnown, more_on, new_on}
use Rattle.sys_devices.specs.declared.screen.Screen.{Screen}
use Rattle.sys_devices.proofs.Puts.{joined, shows_nothing, still}
use Rattle.sys_devices.specs.ShownSince.{ShownSince}
use Rattle.sys_devices.specs.Shows.{Shows}
use Rattle.sys_state.specs.Bytes.{shown_from}
use Rattle.sys_state.specs.Run.{Moment}
use Rattle.sys_runs.proofs.SavedRuns.{where_whole}
use Rattle.sys_runs.proofs.Many.{none_made}
use Rattle.sys_runs.specs.Rounds.{MakesRounds}
use Rattle.sys_script.specs.Typed.{events_typed, refusal_messages, rounds_ended, rounds_typed}
use Rattle.sys_script.specs.declared.event.Event.{Event}
use Rattle.sys_system.specs.Calls.{AreOf}
use Rattle.sys_system.specs.System.{IsInMachine, IsSystem, System, moment_of}
use Rattle.sys_live.proofs.Asking.{ended_within, next_in_order, none_in_order, still_in_order, still_known}
use Rattle.sys_live.proofs.Echoing.{AreCurrent, current_after, current_first, echo_earlier, news_are, same_there, screens_there, screens_told, screens_within, seen_earlier}
use Rattle.sys_live.proofs.Joining.{AreAlike, AreUpTo, alike_before, then_made, up_to_later}
use Rattle.sys_live.proofs.Lines.{AreWhole, Texts, broke_off, lost_line, ended_append, events_append, events_ended, none_ended, none_typed, rounds_append, some_typed, told_append, told_ended, told_then, took_well}
use Rattle.sys_live.specs.Lives.{AreSeen}
use Rattle.sys_live.specs.Made.{GoesOnShowing, MakesTyped, ShowsNews}
use Rattle.sys_live.specs.Operator.{Operator}
use Rattle.sys_live.specs.Order.{AsksInOrder, HasShown, asks_for}
use Rattle.sys_live.specs.Typing.{EndsTypedRound, EndsTypedRun, EndsWithEmptyLine, TookWell, TypesRound}
use Rattle.sys_live.specs.declared.session.Went.{Went}
use Rattle.sys_live.specs.declared.typing.Count.{Count}
use Rattle.sys_live.specs.declared.typing.TypedRound.{TypedRound}
use Rattle.sys_live.specs.declared.typing.Typing.{Typing}
use Rattle.sys_live.specs.declared.typing.Typing.TheVariants.{GoesOn, Over, Broken, Lost}

-- the news were put where nothing was cut before
pub news_shown : {T E : Type 0} (cut cut' : Bool) (lines lines' : List Seen) (screens screens' : List Screen) (out out' : Seen) (r : Result T E) → cut ≡ false → cut' ≡ is_err r → lines' ≡ lines
    → Echoes (is_err r) lines screens out out' → AreSameScreens screens screens' → IfOk r (λ _. All (λ screen. IsLineKnown (slice_index_or lines screen.line unseen) → new_on lines screen ≡ []) screens') → (AreWithin lines screens → AreWithin lines screens')
    → GoesOnShowing cut cut' lines' screens screens' out out'
news_shown cut cut' lines lines' screens screens' out out' r whole is stays echoes same seen within =
    let news : ShowsNews (is_err r) lines screens screens' out out' = record {
      echoes = echoes;
      same = same;
      seen = λ all. where_whole (All (λ screen. IsLineKnown (slice_index_or lines screen.line unseen) → new_on lines screen ≡ []) screens') r seen all;
      within = within;
    } in
    subst (λ b. GoesOnShowing b cut' lines' screens screens' out out') (sym whole)
    (subst (λ b. ShowsNews b lines' screens screens' out out') (sym is) (subst (λ (ls : List Seen). ShowsNews (is_err r) ls screens screens' out out') (sym stays) news))

-- what rounds with these events are to show, given what the lines have shown after them
abbrev pub echoes : Machine → System → List Seen → List Seen → List Event → ℕ → List ℕ
echoes m s lines lines1 es = echo_rounds (more_on lines lines1) (moment_of m.memory s) es

-- n rounds were made with these events, and what was to be shown of them was shown.
pub record IsSofar (n : ℕ) (es : List Event) (cut : Bool) (m m1 : Machine) (s s1 : System) (lines lines1 : List Seen) (screens : List Screen) (out out1 : Seen) : Type 0 where
  pub makes : MakesRounds n es m s lines m1 s1 lines1
  pub up_to : AreUpTo n es
  pub shown : HasShown cut (AreSeen s.config.terminals lines1) (echoes m s lines lines1 es n) out out1
  pub there : All (λ q. q.line < 32) screens
  pub current : cut ≡ false → AreCurrent lines1 s.config.terminals screens

-- none at first
pub none_sofar : (m : Machine) (s : System) (lines : List Seen) (screens : List Screen) (out : Seen) → s.turns.is_begun ≡ false → IsSystem s → IsInMachine m.memory s → AreScreens lines s.config.terminals screens → IsSofar 0 [] false m m s s lines lines screens out out
none_sofar m s lines screens out rests holds stands are = record {
  makes = none_made [] m s lines rests holds.trail stands;
  up_to = λ k d within. absurd (omega (arith, within));
  shown = record { echoed = []; shown = shows_nothing out; exact = λ seen. refl };
  there = screens_there lines s.config.terminals screens are (λ k d within. omega (arith, (holds.accepted.terminals k d within).line));
  current = λ whole. current_first lines s.config.terminals screens are;
}

module _ (n : ℕ) (es these : List Event) (m m1 m2 : Machine) (s s1 s2 : System) (lines lines1 lines2 : List Seen) (fresh : s.rounds ≡ 0) (are : AreOf (n + 1) these) (before : AreUpTo n es) (a : MakesRounds n es m s lines m1 s1 lines1) (b : MakesRounds 1 these m1 s1 lines1 m2 s2 lines2) where
  abbrev from : Moment
  from = moment_of m.memory s

  abbrev fs : List Event
  fs = es ++ these

  all : MakesRounds (n + 1) fs m s lines m2 s2 lines2
  all = then_made n es these m m1 m2 s s1 s2 lines lines1 lines2 fresh before are a b

  next : n + 1 ≡ suc n
  next = omega arith

  alike : AreAlike (s.rounds + 1) n es fs
  alike = let first : 1 ≡ s.rounds + 1 = omega (arith, fresh) in subst (λ k. AreAlike k n es fs) first (alike_before n es these before are)

  whole : Shows s.marks s2.marks lines lines2 (λ k. shown_from from fs (suc n) k)
  whole = subst (λ j. Shows s.marks s2.marks lines lines2 (λ k. shown_from from fs j k)) next all.goes.shows

  earlier : AreSeen s.config.terminals lines2 → AreSeen s.config.terminals lines1
  earlier = seen_earlier from es fs n s.marks s1.marks s2.marks lines lines1 lines2 _ alike a.goes.shows b.goes.shows s.config.terminals

  pub same_echo : (made : ℕ) → made ≤ n → AreSeen s.config.terminals lines2 → echo_rounds (more_on lines lines1) from es made ≡ echo_rounds (more_on lines lines2) from fs made
  same_echo made few told = echo_earlier from es fs n s.marks s1.marks s2.marks lines lines1 lines2 _ alike a.goes.shows b.goes.shows made few told

  -- lines that were asked for in order before the next round are so after it
  pub asked_before : (out : Seen) (typed : Texts) (keys keys1 : Keys) → rounds_ended typed ≡ n → AsksInOrder (AreSeen s.config.terminals lines1) (echoes m s lines lines1 es) out GoesOn typed keys keys1 → AsksInOrder (AreSeen s.config.terminals lines2) (echoes m s lines lines2 fs) out GoesOn typed keys keys1
  asked_before out typed keys keys1 ended asked =
      still_in_order (AreSeen s.config.terminals lines1) (AreSeen s.config.terminals lines2) (echoes m s lines lines1 es) (echoes m s lines lines2 fs) out GoesOn n typed keys keys1 earlier same_echo (omega (arith, ended)) asked

  pub shown_before : (cut : Bool) (out out1 : Seen) → HasShown cut (AreSeen s.config.terminals lines1) (echoes m s lines lines1 es n) out out1 → HasShown cut (AreSeen s.config.terminals lines2) (echoes m s lines lines2 fs n) out out1
  shown_before cut out out1 shows =
      still_known cut (AreSeen s.config.terminals lines1) (AreSeen s.config.terminals lines2) (echoes m s lines lines1 es n) (echoes m s lines lines2 fs n) out out1 earlier (same_echo n (omega arith)) shows

  -- the bytes of the next round
  abbrev last : List ℕ
  last = echo_all s.config.terminals (λ line. taken_next (more_on lines lines2 line) from fs n line)

  told_after : (echoed bytes : List ℕ) → (AreSeen s.config.terminals lines1 → echoed ≡ echo_rounds (more_on lines lines1) from es n) → (AreSeen s.config.terminals lines2 → bytes ≡ last) → AreSeen s.config.terminals lines2 → echoed ++ bytes ≡ echo_rounds (more_on lines lines2) from fs (n + 1)
  told_after echoed bytes first second told =
      let begun : echoed ≡ echo_rounds (more_on lines lines2) from fs n = first (earlier told) ∙ same_echo n (omega arith) told in
      let ended : bytes ≡ last = second told in
      (λ j. begun j ++ ended j) ∙ ap (echo_rounds (more_on lines lines2) from fs) (sym next)

  more_up_to : AreUpTo (n + 1) fs
  more_up_to = All-append (λ (e : Event). e.round ≤ n + 1) es these (up_to_later n es before) (λ k d within. omega (arith, are k d within))

  news_of : (screens : List Screen) → AreCurrent lines1 s.config.terminals screens → (bytes : List ℕ) (cut' : Bool) (out1 out2 : Seen) (e : Echoes cut' lines2 screens out1 out2) → AreSeen s.config.terminals lines2 → e.bytes ≡ last
  news_of screens current bytes cut' out1 out2 e told =
      e.exact (screens_told from es fs n s.marks s1.marks s2.marks lines lines1 lines2 _ alike a.goes.shows b.goes.shows s.config.terminals screens current told)
      ∙ news_are from es fs n s.marks s1.marks s2.marks lines lines1 lines2 _ alike a.goes.shows b.goes.shows whole s.config.terminals screens current told

-- one more
pub next_sofar : (n : ℕ) (es these : List Event) (cut cut' : Bool) (m m1 m2 : Machine) (s s1 s2 : System) (lines lines1 lines2 : List Seen) (screens screens' : List Screen) (out out1 out2 : Seen) → s.rounds ≡ 0 → AreOf (n + 1) these
    → IsSofar n es cut m m1 s s1 lines lines1 screens out out1 → MakesRounds 1 these m1 s1 lines1 m2 s2 lines2 → GoesOnShowing cut cut' lines2 screens screens' out1 out2 → IsSofar (n + 1) (es ++ these) cut' m m2 s s2 lines lines2 screens' out out2
next_sofar n es these true cut' m m1 m2 s s1 s2 lines lines1 lines2 screens screens' out out1 out2 fresh are sofar b (is, same, put) =
    let bytes : List ℕ = last n es these m m1 m2 s s1 s2 lines lines1 lines2 fresh are sofar.up_to sofar.makes b in
    record {
      makes = all n es these m m1 m2 s s1 s2 lines lines1 lines2 fresh are sofar.up_to sofar.makes b;
      up_to = more_up_to n es these m m1 m2 s s1 s2 lines lines1 lines2 fresh are sofar.up_to sofar.makes b;
      shown = record {
        echoed = sofar.shown.echoed ++ bytes;
        shown = subst (λ v. ShownSince v out out2 (sofar.shown.echoed ++ bytes)) (sym is) (subst (λ o. ShownSince true out o (sofar.shown.echoed ++ bytes)) (sym put) (still out out1 sofar.shown.echoed bytes sofar.shown.shown));
        exact = told_after n es these m m1 m2 s s1 s2 lines lines1 lines2 fresh are sofar.up_to sofar.makes b sofar.shown.echoed bytes sofar.shown.exact (λ told. refl);
      };
      there = subst (λ (qs : List Screen). All (λ q. q.line < 32) qs) (sym same) sofar.there;
      current = λ whole. absurd (true≢false (sym is ∙ whole));
    }
next_sofar n es these false cut' m m1 m2 s s1 s2 lines lines1 lines2 screens screens' out out1 out2 fresh are sofar b news =
    let current : AreCurrent lines1 s.config.terminals screens = sofar.current refl in
    let within : AreWithin lines2 screens' = news.within (screens_within (moment_of m.memory s) es (es ++ these) n s.marks s1.marks s2.marks lines lines1 lines2 _ (alike n es these m m1 m2 s s1 s2 lines lines1 lines2 fresh are sofar.up_to sofar.makes b) sofar.makes.goes.shows b.goes.shows s.config.terminals screens current) in
    record {
      makes = all n es these m m1 m2 s s1 s2 lines lines1 lines2 fresh are sofar.up_to sofar.makes b;
      up_to = more_up_to n es these m m1 m2 s s1 s2 lines lines1 lines2 fresh are sofar.up_to sofar.makes b;
      shown = record {
        echoed = sofar.shown.echoed ++ news.echoes.bytes;
        shown = joined cut' out out1 out2 sofar.shown.echoed news.echoes.bytes sofar.shown.shown news.echoes.shown;
        exact = told_after n es these m m1 m2 s s1 s2 lines lines1 lines2 fresh are sofar.up_to sofar.makes b sofar.shown.echoed news.echoes.bytes sofar.shown.exact (news_of n es these m m1 m2 s s1 s2 lines lines1 lines2 fresh are sofar.up_to sofar.makes b screens current news.echoes.bytes cut' out1 out2 news.echoes);
      };
      there = same_there screens screens' news.same sofar.there;
      current = λ whole. current_after lines1 lines2 s.config.terminals screens screens' current news.same within (news.seen whole);
    }

-- Lines were typed that end n rounds, and what was to be reported of them was reported.
pub record IsTyped (n : ℕ) (typed : Texts) (count : Count) (p : Operator) : Type 0 where
  pub took : TookWell typed p.keys p.keys'
  pub lines : count.lines ≡ length typed
  pub told : ShownSince count.is_cut p.errors p.errors' (refusal_messages 1 typed)
  pub ended : rounds_ended typed ≡ n
  pub whole : AreWhole typed

abbrev pub operator : Keys → Keys → Seen → Seen → Operator
operator keys keys' errors errors' = record { keys = keys; keys' = keys'; errors = errors; errors' = errors' }

none_took : (coming : Option Texts) → Took [] coming coming
none_took None = refl
none_took (Some coming) = ([], coming, refl, refl, refl)

pub none_typed_yet : (keys : Keys) (errors : Seen) → IsTyped 0 [] (record { lines = 0; is_cut = false }) (operator keys keys errors errors)
none_typed_yet keys errors = record {
  took = record { took = none_took keys.coming; faults = refl };
  lines = refl;
  told = shows_nothing errors;
  ended = refl;
  whole = inr refl;
}

module _ (n : ℕ) (typed : Texts) (before after : Count) (round : TypedRound) (keys keys1 keys2 : Keys) (errors errors1 errors2 : Seen) (first : IsTyped n typed before (operator keys keys1 errors errors1)) (out1 : Seen) (next : TypesRound (n + 1) out1 before after round (operator keys1 keys2 errors1 errors2)) where
  place : before.lines + 1 ≡ 1 + length typed
  place = omega (arith, first.lines)

  now : 1 + rounds_ended typed ≡ n + 1
  now = omega (arith, first.ended)

  -- the lines of the round are reported after those before
  told_all : ShownSince after.is_cut errors errors2 (refusal_messages 1 (typed ++ next.lines))
  told_all = subst (λ bytes. ShownSince after.is_cut errors errors2 bytes) (ap (λ k. refusal_messages 1 typed ++ refusal_messages k next.lines) place ∙ sym (told_append 1 typed next.lines)) (told_then before.is_cut after.is_cut errors errors1 errors2 (refusal_messages 1 typed) (refusal_messages (before.lines + 1) next.lines) first.told next.told)

  -- and its events come after those before
  pub events_all : events_typed 1 (typed ++ next.lines) ≡ events_typed 1 typed ++ round.events.items
  events_all = events_append 1 typed next.lines ∙ ap (λ k. events_typed 1 typed ++ events_typed k next.lines) now ∙ ap (λ es. events_typed 1 typed ++ es) (sym next.events)

  pub events_more : events_typed 1 (typed ++ (next.lines ++ [] ∷ [])) ≡ events_typed 1 typed ++ round.events.items
  events_more =
      events_append 1 typed (next.lines ++ [] ∷ []) ∙ ap (λ k. events_typed 1 typed ++ events_typed k (next.lines ++ [] ∷ [])) now
      ∙ ap (λ es. events_typed 1 typed ++ es) (events_ended (n + 1) next.lines ∙ sym next.events)

  -- an empty line ended the round
  pub typed_more : round.typing ≡ GoesOn → IsTyped (n + 1) (typed ++ (next.lines ++ [] ∷ [])) after (operator keys keys2 errors errors2)
  typed_more goes_on =
      let lines : Texts = next.lines ++ [] ∷ [] in
      let taken : TookWell lines keys1 keys2 = subst (λ t. EndsTypedRound t (before.lines + length next.lines) next.lines keys1 keys2) goes_on next.taken in
      let long : length (typed ++ lines) ≡ length typed + (length next.lines + 1) = length-append typed lines ∙ ap (λ k. length typed + k) (length-append next.lines ([] ∷ [])) in
      let own : rounds_ended lines ≡ 1 = ended_append next.lines ([] ∷ []) ∙ ap (λ k. k + 1) (none_ended next.lines next.none_is_empty) in
      record {
        took = took_well typed lines keys keys1 keys2 first.took taken;
        lines = omega (arith, (next.counts goes_on).0, first.lines, long);
        told = subst (λ bytes. ShownSince after.is_cut errors errors2 bytes) (sym (told_ended 1 (typed ++ next.lines)) ∙ ap (refusal_messages 1) (append_assoc typed next.lines ([] ∷ []))) told_all;
        ended = omega (arith, ended_append typed lines, own, first.ended);
        whole = inl (typed ++ next.lines, sym (append_assoc typed next.lines ([] ∷ [])));
      }

  ended_all : rounds_ended (typed ++ next.lines) ≡ n
  ended_all = omega (arith, ended_append typed next.lines, none_ended next.lines next.none_is_empty, first.ended)

  -- or it was the last
  ends_by : (most : ℕ) → n < most → (t : Typing) → (t ≡ GoesOn → ⊥) → EndsTypedRound t (before.lines + length next.lines) next.lines keys1 keys2 → EndsTypedRun t most (typed ++ next.lines) keys keys2
  ends_by most low GoesOn over taken = absurd (over refl)
  ends_by most low Over over (taken, out) = (took_well typed next.lines keys keys1 keys2 first.took taken, out, subst (λ k. k < most) (sym ended_all) low)
  ends_by most low Lost over taken = (lost_line typed next.lines keys keys1 keys2 first.took taken, subst (λ k. k < most) (sym ended_all) low)
  ends_by most low Broken over taken =
      let count : before.lines + length next.lines ≡ length typed + length next.lines = ap (λ k. k + length next.lines) first.lines in
      (broke_off typed next.lines keys keys1 keys2 first.took (subst (λ k. EndsTypedRound Broken k next.lines keys1 keys2) count taken), subst (λ k. k < most) (sym ended_all) low)

  pub ends_last : (most : ℕ) → n < most → (round.typing ≡ GoesOn → ⊥) → EndsTypedRun round.typing most (typed ++ next.lines) keys keys2
  ends_last most low over = ends_by most low round.typing over next.taken

  -- the round's lines were asked for in order
  one_more : round.typing ≡ GoesOn → next.asks ≡ length next.lines + 1
  one_more goes_on = let (is, fits) = next.counts goes_on in omega (arith, next.asks_are, is, fits)

  none_before : (j : ℕ) → rounds_ended (take j next.lines) ≡ 0
  none_before j = omega (arith, ended_within j next.lines, none_ended next.lines next.none_is_empty)

  counts_last : (t : Typing) → (t ≡ GoesOn → ⊥) → length typed + next.asks ≡ asks_for t (length (typed ++ next.lines))
  counts_last GoesOn over = absurd (over refl)
  counts_last Over over = omega (arith, next.asks_are, first.lines, length-append typed next.lines)
  counts_last Broken over = omega (arith, next.asks_are, first.lines, length-append typed next.lines)
  counts_last Lost over = omega (arith, next.asks_are, first.lines, length-append typed next.lines)

  module _ (known : Type 0) (echo : ℕ → List ℕ) (out : Seen) (cut : Bool) (asked : AsksInOrder known echo out GoesOn typed keys keys1) (shows : HasShown cut known (echo n) out out1) where
    pub in_order_more : round.typing ≡ GoesOn → AsksInOrder known echo out GoesOn (typed ++ (next.lines ++ [] ∷ [])) keys keys2
    in_order_more goes_on =
        let lines : Texts = next.lines ++ [] ∷ [] in
        let one = one_more goes_on in
        let none : (j : ℕ) → j < next.asks → rounds_ended (take j lines) ≡ 0 = λ j low. ap rounds_ended (take-append-le j next.lines ([] ∷ []) (omega (arith, low, one))) ∙ none_before j in
        next_in_order known echo out out1 cut n next.asks GoesOn typed lines keys keys1 keys2 asked shows first.ended next.asked none
        (omega (arith, one, length-append typed lines, length-append next.lines ([] ∷ [])))

    pub in_order_last : (round.typing ≡ GoesOn → ⊥) → AsksInOrder known echo out round.typing (typed ++ next.lines) keys keys2
    in_order_last over =
        next_in_order known echo out out1 cut n next.asks round.typing typed next.lines keys keys1 keys2 asked shows first.ended next.asked (λ j low. none_before j) (counts_last round.typing over)

  -- no round is begun where no event was said
  pub rounds_same : round.events.items ≡ [] → rounds_typed false (typed ++ next.lines) ≡ n
  rounds_same none =
      let nothing : rounds_typed false next.lines ≡ 0 = none_typed (n + 1) next.lines next.none_is_empty (sym next.events ∙ none) in
      omega (arith, rounds_append typed next.lines first.whole, nothing, first.ended)

  pub rounds_one : (round.events.items ≡ [] → ⊥) → rounds_typed false (typed ++ next.lines) ≡ n + 1
  rounds_one some =
      let one : rounds_typed false next.lines ≡ 1 = some_typed (n + 1) next.lines next.none_is_empty (λ none. some (next.events ∙ none)) in
      omega (arith, rounds_append typed next.lines first.whole, one, first.ended)

-- all rounds were ended
pub ends_all : (most : ℕ) (typed : Texts) (count : Count) (p : Operator) → 1 ≤ most → IsTyped most typed count p → EndsTypedRun GoesOn most typed p.keys p.keys'
ends_all most typed count p some t = (t.took, ends t.whole, t.ended)
  where
    ends : AreWhole typed → EndsWithEmptyLine typed
    ends (inl is) = is
    ends (inr none) = let zero_rounds : most ≡ 0 = sym t.ended ∙ ap rounds_ended none in absurd (omega (arith, some, zero_rounds))

pub rounds_all : (n : ℕ) (typed : Texts) (count : Count) (p : Operator) → IsTyped n typed count p → rounds_typed false typed ≡ n
rounds_all n typed count p t =
    ap (rounds_typed false) (sym (append-nil typed)) ∙ rounds_append typed [] t.whole ∙ omega (arith, t.ended)

-- what was typed was made
pub made_typed : (most n : ℕ) (went : Went) (typed : Texts) (p : Operator) (es : List Event) (m m1 : Machine) (s s1 : System) (lines lines1 : List Seen) (screens : List Screen) (out out1 : Seen) (cut : Bool) → IsSofar n es went.is_cut m m1 s s1 lines lines1 screens out out1
    → AsksInOrder (AreSeen s.config.terminals lines1) (echoes m s lines lines1 es) out went.typing typed p.keys p.keys'
    → EndsTypedRun went.typing most typed p.keys p.keys' → rounds_typed false typed ≡ n → n ≤ most → events_typed 1 typed ≡ es → ShownSince cut p.errors p.errors' (refusal_messages 1 typed) → MakesTyped most went p out out1 m s lines m1 s1 lines1
made_typed most n went typed p es m m1 s s1 lines lines1 screens out out1 cut sofar asked ends rounds few events told = record {
  typed = typed;
  ends = ends;
  few = omega (arith, rounds, few);
  makes = subst (λ k. MakesRounds k (events_typed 1 typed) m s lines m1 s1 lines1) (sym rounds) (subst (λ xs. MakesRounds n xs m s lines m1 s1 lines1) (sym events) sofar.makes);
  cut = cut;
  told = told;
  shown = subst (λ k. HasShown went.is_cut (AreSeen s.config.terminals lines1) (echoes m s lines lines1 (events_typed 1 typed) k) out out1) (sym rounds) (subst (λ xs. HasShown went.is_cut (AreSeen s.config.terminals lines1) (echoes m s lines lines1 xs n) out out1) (sym events) sofar.shown);
  asked = subst (λ xs. AsksInOrder (AreSeen s.config.terminals lines1) (echoes m s lines lines1 xs) out went.typing typed p.keys p.keys') (sym events) asked;
}

pub made_last : (most n : ℕ) (went : Went) (typed : Texts) (before after : Count) (round : TypedRound) (keys keys1 keys2 : Keys) (errors errors1 errors2 : Seen) (t : IsTyped n typed before (operator keys keys1 errors errors1)) (seen : Seen) (r : TypesRound (n + 1) seen before after round (operator keys1 keys2 errors1 errors2))
    (k : ℕ) (m m1 : Machine) (s s1 : System) (lines lines1 : List Seen) (screens : List Screen) (out out1 : Seen) → IsSofar k (events_typed 1 typed ++ round.events.items) went.is_cut m m1 s s1 lines lines1 screens out out1
    → AsksInOrder (AreSeen s.config.terminals lines1) (echoes m s lines lines1 (events_typed 1 typed ++ round.events.items)) out round.typing (typed ++ r.lines) keys keys2
    → n < most → k ≤ most → rounds_typed false (typed ++ r.lines) ≡ k → (round.typing ≡ GoesOn → ⊥) → went.typing ≡ round.typing
    → MakesTyped most went (operator keys keys2 errors errors2) out out1 m s lines m1 s1 lines1
made_last most n went typed before after round keys keys1 keys2 errors errors1 errors2 t seen r k m m1 s s1 lines lines1 screens out out1 sofar asked low few rounds over is =
    made_typed most k went (typed ++ r.lines) (operator keys keys2 errors errors2) (events_typed 1 typed ++ round.events.items) m m1 s s1 lines lines1 screens out out1 after.is_cut sofar
    (subst (λ u. AsksInOrder (AreSeen s.config.terminals lines1) (echoes m s lines lines1 (events_typed 1 typed ++ round.events.items)) out u (typed ++ r.lines) keys keys2) (sym is) asked)
    (subst (λ u. EndsTypedRun u most (typed ++ r.lines) keys keys2) (sym is) (ends_last n typed before after round keys keys1 keys2 errors errors1 errors2 t seen r most low over)) rounds few (events_all n typed before after round keys keys1 keys2 errors errors1 errors2 t seen r)
    (told_all n typed before after round keys keys1 keys2 errors errors1 errors2 t seen r)

nothing_in : (es : List Event) → (length es == 0) ≡ true → es ≡ []
nothing_in [] empty = refl
nothing_in (e ∷ es) empty = let none : length (e ∷ es) ≡ 0 = eqb-true (length (e ∷ es)) 0 empty in absurd (omega (arith, none))

-- What holds before a round's lines are typed: n rounds were made, of the lines that were typed.
pub record IsBetween (n : ℕ) (count : Count) (p : Operator) (cut : Bool) (m m1 : Machine) (s s1 : System) (lines lines1 : List Seen) (screens : List Screen) (out out1 : Seen) : Type 0 where
  pub typed : Texts
  pub types : IsTyped n typed count p
  pub sofar : IsSofar n (events_typed 1 typed) cut m m1 s s1 lines lines1 screens out out1
  pub asked : AsksInOrder (AreSeen s.config.terminals lines1) (echoes m s lines lines1 (events_typed 1 typed)) out GoesOn typed p.keys p.keys'

pub between_first : (keys : Keys) (errors : Seen) (m : Machine) (s : System) (lines : List Seen) (screens : List Screen) (out : Seen) → s.turns.is_begun ≡ false → IsSystem s → IsInMachine m.memory s → AreScreens lines s.config.terminals screens
    → IsBetween 0 (record { lines = 0; is_cut = false }) (operator keys keys errors errors) false m m s s lines lines screens out out
between_first keys errors m s lines screens out rests holds stands are = record {
  typed = [];
  types = none_typed_yet keys errors;
  sofar = none_sofar m s lines screens out rests holds stands are;
  asked = none_in_order (AreSeen s.config.terminals lines) (echoes m s lines lines []) out keys;
}

module _ (n : ℕ) (before after : Count) (round : TypedRound) (keys keys1 keys2 : Keys) (errors errors1 errors2 : Seen) (cut cut' : Bool) (m m1 m2 : Machine) (s s1 s2 : System) (lines lines1 lines2 : List Seen) (screens screens' : List Screen) (out out1 out2 : Seen) (fresh : s.rounds ≡ 0)
    (b : IsBetween n before (operator keys keys1 errors errors1) cut m m1 s s1 lines lines1 screens out out1) (r : TypesRound (n + 1) out1 before after round (operator keys1 keys2 errors1 errors2)) where
  module _ (are : AreOf (n + 1) round.events.items) (makes : MakesRounds 1 round.events.items m1 s1 lines1 m2 s2 lines2) where
    abbrev es : List Event
    es = events_typed 1 b.typed ++ round.events.items

    abbrev Known : Type 0
    Known = AreSeen s.config.terminals lines2

    asked_then : AsksInOrder Known (echoes m s lines lines2 es) out GoesOn b.typed keys keys1
    asked_then = asked_before n (events_typed 1 b.typed) round.events.items m m1 m2 s s1 s2 lines lines1 lines2 fresh are b.sofar.up_to b.sofar.makes makes out b.typed keys keys1 b.types.ended b.asked

    shown_then : HasShown cut Known (echoes m s lines lines2 es n) out out1
    shown_then = shown_before n (events_typed 1 b.typed) round.events.items m m1 m2 s s1 s2 lines lines1 lines2 fresh are b.sofar.up_to b.sofar.makes makes cut out out1 b.sofar.shown

    asked_more : round.typing ≡ GoesOn → AsksInOrder Known (echoes m s lines lines2 es) out GoesOn (b.typed ++ (r.lines ++ [] ∷ [])) keys keys2
    asked_more goes_on = in_order_more n b.typed before after round keys keys1 keys2 errors errors1 errors2 b.types out1 r Known (echoes m s lines lines2 es) out cut asked_then shown_then goes_on

    asked_last : (round.typing ≡ GoesOn → ⊥) → AsksInOrder Known (echoes m s lines lines2 es) out round.typing (b.typed ++ r.lines) keys keys2
    asked_last over = in_order_last n b.typed before after round keys keys1 keys2 errors errors1 errors2 b.types out1 r Known (echoes m s lines lines2 es) out cut asked_then shown_then over

  -- a round more was made
  pub between_next : (these : List Event) → these ≡ round.events.items → AreOf (n + 1) round.events.items → MakesRounds 1 these m1 s1 lines1 m2 s2 lines2 → GoesOnShowing cut cut' lines2 screens screens' out1 out2 → round.typing ≡ GoesOn
      → IsBetween (n + 1) after (operator keys keys2 errors errors2) cut' m m2 s s2 lines lines2 screens' out out2
  between_next these same are made shows goes_on =
      let makes : MakesRounds 1 round.events.items m1 s1 lines1 m2 s2 lines2 = subst (λ (es : List Event). MakesRounds 1 es m1 s1 lines1 m2 s2 lines2) same made in
      let more : IsSofar (n + 1) (events_typed 1 b.typed ++ round.events.items) cut' m m2 s s2 lines lines2 screens' out out2 = next_sofar n (events_typed 1 b.typed) round.events.items cut cut' m m1 m2 s s1 s2 lines lines1 lines2 screens screens' out out1 out2 fresh are b.sofar makes shows in
      let said = events_more n b.typed before after round keys keys1 keys2 errors errors1 errors2 b.types out1 r in
      record {
        typed = b.typed ++ (r.lines ++ [] ∷ []);
        types = typed_more n b.typed before after round keys keys1 keys2 errors errors1 errors2 b.types out1 r goes_on;
        sofar = subst (λ es. IsSofar (n + 1) es cut' m m2 s s2 lines lines2 screens' out out2) (sym said) more;
        asked = subst (λ xs. AsksInOrder (AreSeen s.config.terminals lines2) (echoes m s lines lines2 xs) out GoesOn (b.typed ++ (r.lines ++ [] ∷ [])) keys keys2) (sym said) (asked_more are makes goes_on);
      }

  -- the last round was made
  pub last_made : (most : ℕ) (these : List Event) → n < most → these ≡ round.events.items → AreOf (n + 1) round.events.items → MakesRounds 1 these m1 s1 lines1 m2 s2 lines2 → GoesOnShowing cut cut' lines2 screens screens' out1 out2
      → (length these == 0) ≡ false → (round.typing ≡ GoesOn → ⊥)
      → MakesTyped most (record { is_cut = cut'; typing = round.typing }) (operator keys keys2 errors errors2) out out2 m s lines m2 s2 lines2
  last_made most these low same are made shows filled over =
      let makes : MakesRounds 1 round.events.items m1 s1 lines1 m2 s2 lines2 = subst (λ (es : List Event). MakesRounds 1 es m1 s1 lines1 m2 s2 lines2) same made in
      let some : round.events.items ≡ [] → ⊥ = λ none. true≢false (ap (λ (es : List Event). length es == 0) (sym none ∙ sym same) ∙ filled) in
      made_last most n (record { is_cut = cut'; typing = round.typing }) b.typed before after round keys keys1 keys2 errors errors1 errors2 b.types out1 r (n + 1) m m2 s s2 lines lines2 screens' out out2
      (next_sofar n (events_typed 1 b.typed) round.events.items cut cut' m m1 m2 s s1 s2 lines lines1 lines2 screens screens' out out1 out2 fresh are b.sofar makes shows)
      (asked_last are makes over)
      low (omega (arith, low)) (rounds_one n b.typed before after round keys keys1 keys2 errors errors1 errors2 b.types out1 r some) over refl

-- no event was said for the last
pub none_made_more : (n : ℕ) (before after : Count) (round : TypedRound) (keys keys1 keys2 : Keys) (errors errors1 errors2 : Seen) (cut : Bool) (m m1 : Machine) (s s1 : System) (lines lines1 : List Seen) (screens : List Screen) (out out1 : Seen)
    → (b : IsBetween n before (operator keys keys1 errors errors1) cut m m1 s s1 lines lines1 screens out out1) → (r : TypesRound (n + 1) out1 before after round (operator keys1 keys2 errors1 errors2))
    → (most : ℕ) (these : List Event) → n < most → these ≡ round.events.items → (length these == 0) ≡ true → (round.typing ≡ GoesOn → ⊥)
    → MakesTyped most (record { is_cut = cut; typing = round.typing }) (operator keys keys2 errors errors2) out out1 m s lines m1 s1 lines1
none_made_more n before after round keys keys1 keys2 errors errors1 errors2 cut m m1 s s1 lines lines1 screens out out1 b r most these low whole empty over =
    let none : round.events.items ≡ [] = sym whole ∙ nothing_in these empty in
    let same : events_typed 1 b.typed ≡ events_typed 1 b.typed ++ round.events.items = sym (ap (λ es. events_typed 1 b.typed ++ es) none ∙ append-nil (events_typed 1 b.typed)) in
    made_last most n (record { is_cut = cut; typing = round.typing }) b.typed before after round keys keys1 keys2 errors errors1 errors2 b.types out1 r n m m1 s s1 lines lines1 screens out out1
    (subst (λ es. IsSofar n es cut m m1 s s1 lines lines1 screens out out1) same b.sofar)
    (subst (λ xs. AsksInOrder (AreSeen s.config.terminals lines1) (echoes m s lines lines1 xs) out round.typing (b.typed ++ r.lines) keys keys2) same
    (in_order_last n b.typed before after round keys keys1 keys2 errors errors1 errors2 b.types out1 r (AreSeen s.config.terminals lines1) (echoes m s lines lines1 (events_typed 1 b.typed)) out cut b.asked b.sofar.shown over))
    low (omega (arith, low)) (rounds_same n b.typed before after round keys keys1 keys2 errors errors1 errors2 b.types out1 r none) over refl

-- all rounds were made
pub all_made : (most n : ℕ) (count : Count) (p : Operator) (cut : Bool) (m m1 : Machine) (s s1 : System) (lines lines1 : List Seen) (screens : List Screen) (out out1 : Seen) → 1 ≤ most → n ≡ most → IsBetween n count p cut m m1 s s1 lines lines1 screens out out1
    → MakesTyped most (record { is_cut = cut; typing = GoesOn }) p out out1 m s lines m1 s1 lines1
all_made most n count p cut m m1 s s1 lines lines1 screens out out1 some same so_many =
    let b : IsBetween most count p cut m m1 s s1 lines lines1 screens out out1 = subst (λ k. IsBetween k count p cut m m1 s s1 lines lines1 screens out out1) same so_many in
    made_typed most most (record { is_cut = cut; typing = GoesOn }) b.typed p (events_typed 1 b.typed) m m1 s s1 lines lines1 screens out out1 count.is_cut b.sofar b.asked (ends_all most b.typed count p some b.types) (rounds_all most b.typed count p b.types) (omega arith) refl b.types.told
