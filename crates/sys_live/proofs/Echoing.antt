-- What an operator is shown of rounds, round by round.
use Rattle.std.proofs.Common.{ℕ, zero, suc, ◌≡◌, ◌<◌, ◌≤◌, ◌+◌, ◌-◌, ◌^◌, List, [], ◌∷◌, ◌++◌, length, take, drop, slice_index_or, refl, sym, ◌∙◌, ap, subst, arith, append-nil, length-append, All, Bool, true, false, true≢false, Option, Some, None}
use Rattle.std.proofs.Math.Seq.{drop-append-add, take-length}
use Rattle.std.proofs.lemmas.List.{length-drop, length-take-le, take_all}
use Rattle.std.proofs.lemmas.List.Elements.{All-cons, All-head, All-tail}
use Rattle.vv_io.specs.Lines.{Counts, Seen, shown_after, unseen}
use Rattle.sys_devices.specs.Echo.{echo_of}
use Rattle.sys_devices.specs.Rounds.{echo_all, echo_rounds, taken_next}
use Rattle.sys_devices.specs.Screens.{AreLinesKnown, AreSameScreens, AreScreens, AreWithin, IsLineKnown, more_on, new_on, news, shown_if_known}
use Rattle.sys_devices.specs.declared.screen.Screen.{Screen}
use Rattle.sys_devices.specs.Shows.{Shows, ShowsUnlessMarked}
use Rattle.sys_objects.specs.declared.records.Terminal.{Terminal}
use Rattle.sys_state.proofs.Consoles.{bytes_append}
use Rattle.sys_state.specs.Bytes.{shown_from}
use Rattle.sys_state.specs.Run.{Moment, round, rounds_from}
use Rattle.sys_state.specs.State.{SystemState, Went, bytes_on}
use Rattle.sys_runs.proofs.Many.{rounds_more}
use Rattle.sys_script.specs.declared.event.Event.{Event}
use Rattle.sys_live.proofs.Joining.{AreAlike, rounds_alike}
use Rattle.sys_live.specs.Lives.{AreSeen}

abbrev pub at : List Seen → ℕ → Seen
at lines k = slice_index_or lines k unseen

-- what a line has shown
abbrev pub text_of : Seen → List ℕ
text_of line = shown_if_known line.shown

-- how many bytes more
abbrev pub more : Seen → Seen → ℕ
more l l' = length (text_of l') - length (text_of l)

-- a line that is known was known before bytes were put on it
put_told : (o o' : Option (List ℕ)) (y : List ℕ) → o' ≡ shown_after o y → (shown : List ℕ) × (o' ≡ Some shown) × (length shown < 2 ^ 64)
    → ((before : List ℕ) × (o ≡ Some before) × (length before < 2 ^ 64)) × (shown_if_known o' ≡ shown_if_known o ++ y)
put_told None o' y is (shown, told, few) = let no : Some shown ≡ None = sym told ∙ is in absurd cc
put_told (Some before) o' y is (shown, told, few) =
    let same : Some shown ≡ Some (before ++ y) = sym told ∙ is in
    let text : shown ≡ before ++ y = ap shown_if_known same in
    let long : length shown ≡ length before + length y = ap length text ∙ length-append before y in
    ((before, refl, omega (arith, few, long)), ap shown_if_known is)

-- A line took `some` bytes of these.
pub record HasTaken (l l' : Seen) (x : List ℕ) : Type 0 where
  pub told : IsLineKnown l
  pub some : ℕ
  pub few : some ≤ length x
  pub is : text_of l' ≡ text_of l ++ take some x

taken_by : (l l' : Seen) (x : List ℕ) (n : ℕ) → n ≤ length x → l'.shown ≡ shown_after l.shown (take n x) → IsLineKnown l' → HasTaken l l' x
taken_by l l' x n few shown told =
    let (before, is) = put_told l.shown l'.shown (take n x) shown told in
    record { told = before; some = n; few = few; is = is }

all_taken : (l l' : Seen) (x : List ℕ) → l'.shown ≡ shown_after l.shown x → IsLineKnown l' → HasTaken l l' x
all_taken l l' x shown told = taken_by l l' x (length x) (omega arith) (shown ∙ ap (shown_after l.shown) (sym (take-length x))) told

has_taken : (b b' : Bool) (l l' : Seen) (x : List ℕ) → ShowsUnlessMarked b b' l l' x → IsLineKnown l' → HasTaken l l' x
has_taken true b' l l' x (marked, same) told = record { told = subst IsLineKnown same told; some = 0; few = omega arith; is = ap text_of same ∙ sym (append-nil (text_of l)) }
has_taken false false l l' x (count, shown) told = all_taken l l' x shown told
has_taken false true l l' x (rose, (n, few, shown)) told = taken_by l l' x n few shown told

longer : (l l' : Seen) (x : List ℕ) (h : HasTaken l l' x) → length (text_of l') ≡ length (text_of l) + h.some
longer l l' x h =
    let some : length (take h.some x) ≡ h.some = length-take-le h.some x h.few in
    ap length h.is ∙ length-append (text_of l) (take h.some x) ∙ ap (λ k. length (text_of l) + k) some

-- that many are its first more bytes
taken_more : (l l' : Seen) (x : List ℕ) → HasTaken l l' x → text_of l' ≡ text_of l ++ take (more l l') x
taken_more l l' x h =
    let some : h.some ≡ more l l' = omega (arith, longer l l' x h) in
    h.is ∙ ap (λ k. text_of l ++ take k x) some

-- Of a front of what it was shown it took the same as it has taken later.
still_taken : (b b1 b2 : Bool) (l l1 l2 : Seen) (x y z : List ℕ) → ShowsUnlessMarked b b1 l l1 x → ShowsUnlessMarked b1 b2 l1 l2 y → IsLineKnown l2 → length z ≤ length x → take (more l l2) z ≡ take (more l l1) z
still_taken b true b2 l l1 l2 x y z first (marked, same) told short = ap (λ (s : Seen). take (more l s) z) same
still_taken true false b2 l l1 l2 x y z (marked, same) second told short = absurd (true≢false (sym marked))
still_taken false false b2 l l1 l2 x y z (count, shown) second told short =
    let later : HasTaken l1 l2 y = has_taken false b2 l1 l2 y second told in
    let now : length (text_of l1) ≡ length (text_of l) + length x = ap length (put_told l.shown l1.shown x shown later.told).1 ∙ length-append (text_of l) x in
    let then : length (text_of l2) ≡ length (text_of l1) + later.some = longer l1 l2 y later in
    let long : length z ≤ more l l1 = omega (arith, short, now) in
    let longer : length z ≤ more l l2 = omega (arith, short, now, then) in
    take_all (more l l2) z longer ∙ sym (take_all (more l l1) z long)

-- more rounds show more
shown_more : (m : Moment) (es : List Event) (n line : ℕ) → (rest : List ℕ) × (shown_from m es (suc n) line ≡ shown_from m es n line ++ rest)
shown_more m es n line =
    let before : Went SystemState = rounds_from m es n in
    let last : Went SystemState = round m.config ((m.made + 1) + n) es before.now in
    (bytes_on line last.puts, ap (λ (w : Went SystemState). bytes_on line w.puts) (rounds_more m.config (m.made + 1) n es m.state) ∙ bytes_append line before.puts last.puts)

shown_longer : (m : Moment) (es : List Event) (line i j : ℕ) → length (shown_from m es i line) ≤ length (shown_from m es (i + j) line)
shown_longer m es line i zero = let same : i ≡ i + 0 = omega arith in subst (λ k. length (shown_from m es i line) ≤ length (shown_from m es k line)) same (omega arith)
shown_longer m es line i (suc j) =
    let same : suc (i + j) ≡ i + suc j = omega arith in
    let (rest, is) = shown_more m es (i + j) line in
    let long : length (shown_from m es (suc (i + j)) line) ≡ length (shown_from m es (i + j) line) + length rest = ap length is ∙ length-append (shown_from m es (i + j) line) rest in
    subst (λ k. length (shown_from m es i line) ≤ length (shown_from m es k line)) same (omega (arith, shown_longer m es line i j, long))

shown_within : (m : Moment) (es : List Event) (line i n : ℕ) → i ≤ n → length (shown_from m es i line) ≤ length (shown_from m es n line)
shown_within m es line i n low =
    let same : i + (n - i) ≡ n = omega (arith, low) in
    subst (λ k. length (shown_from m es i line) ≤ length (shown_from m es k line)) same (shown_longer m es line i (n - i))

-- the same on each terminal's line
all_alike : (ts : List Terminal) (f h : ℕ → List ℕ) → All (λ t. f t.line ≡ h t.line) ts → echo_all ts f ≡ echo_all ts h
all_alike [] f h same = refl
all_alike (t ∷ ts) f h same =
    let here : f t.line ≡ h t.line = All-head (λ (x : Terminal). f x.line ≡ h x.line) t ts same in
    let rest = all_alike ts f h (All-tail (λ (x : Terminal). f x.line ≡ h x.line) t ts same) in
    λ i. echo_of t.name (here i) ++ rest i

-- and so in each of the rounds
pub echo_alike : (all all' : ℕ → ℕ) (m : Moment) (es fs : List Event) (n : ℕ) → ((i : ℕ) → i < n → All (λ t. taken_next (all t.line) m es i t.line ≡ taken_next (all' t.line) m fs i t.line) m.config.terminals) → echo_rounds all m es n ≡ echo_rounds all' m fs n
echo_alike all all' m es fs zero same = refl
echo_alike all all' m es fs (suc n) same =
    let before = echo_alike all all' m es fs n (λ i low. same i (omega (arith, low))) in
    let last = all_alike m.config.terminals (λ line. taken_next (all line) m es n line) (λ line. taken_next (all' line) m fs n line) (same n (omega arith)) in
    λ i. before i ++ last i

-- A terminal's screen is of its name and line, and has seen all that the line has shown.
pub record IsCurrent (lines : List Seen) (t : Terminal) (q : Screen) : Type 0 where
  pub name : q.name ≡ t.name
  pub line : q.line ≡ t.line
  pub seen : IsLineKnown (at lines t.line) → q.seen ≡ length (text_of (at lines t.line))

abbrev pub AreCurrent : List Seen → List Terminal → List Screen → Type 0
AreCurrent lines [] [] = Unit {0}
AreCurrent lines [] (q ∷ qs) = ⊥
AreCurrent lines (t ∷ ts) [] = ⊥
AreCurrent lines (t ∷ ts) (q ∷ qs) = IsCurrent lines t q × AreCurrent lines ts qs

-- it is so at first
counts_all : (o : Option (List ℕ)) (seen : ℕ) → Counts o seen → (shown : List ℕ) × (o ≡ Some shown) × (length shown < 2 ^ 64) → seen ≡ length (shown_if_known o)
counts_all None seen counts (shown, told, few) = absurd cc
counts_all (Some text) seen counts (shown, told, few) =
    let same : length text ≡ length shown = ap (λ (o : Option (List ℕ)). length (shown_if_known o)) told in
    omega (arith, counts, few, same)

pub current_first : (lines : List Seen) (ts : List Terminal) (qs : List Screen) → AreScreens lines ts qs → AreCurrent lines ts qs
current_first lines [] [] are = tt
current_first lines [] (q ∷ qs) are = absurd are
current_first lines (t ∷ ts) [] are = absurd are
current_first lines (t ∷ ts) (q ∷ qs) are = (record { name = are.0.name; line = are.0.line; seen = counts_all (at lines t.line).shown q.seen are.0.seen }, current_first lines ts qs are.1)

-- the screens' lines are those of terminals
pub screens_there : (lines : List Seen) (ts : List Terminal) (qs : List Screen) → AreScreens lines ts qs → All (λ t. t.line < 32) ts → All (λ q. q.line < 32) qs
screens_there lines [] [] are there = λ k d within. absurd (omega (arith, within))
screens_there lines [] (q ∷ qs) are there = absurd are
screens_there lines (t ∷ ts) [] are there = absurd are
screens_there lines (t ∷ ts) (q ∷ qs) are there =
    All-cons (λ (x : Screen). x.line < 32) q qs (subst (λ n. n < 32) (sym are.0.line) (All-head (λ (x : Terminal). x.line < 32) t ts there))
    (screens_there lines ts qs are.1 (All-tail (λ (x : Terminal). x.line < 32) t ts there))

pub same_there : (qs qs' : List Screen) → AreSameScreens qs qs' → All (λ q. q.line < 32) qs → All (λ q. q.line < 32) qs'
same_there [] [] same there = λ k d within. absurd (omega (arith, within))
same_there [] (q' ∷ qs') same there = absurd same
same_there (q ∷ qs) [] same there = absurd same
same_there (q ∷ qs) (q' ∷ qs') same there =
    All-cons (λ (x : Screen). x.line < 32) q' qs' (subst (λ n. n < 32) (sym same.0.line) (All-head (λ (x : Screen). x.line < 32) q qs there))
    (same_there qs qs' same.1 (All-tail (λ (x : Screen). x.line < 32) q qs there))

-- Lines were shown what rounds show, and then more.
module _ (m : Moment) (es fs : List Event) (n : ℕ) (marks marks1 marks2 : List Bool) (lines lines1 lines2 : List Seen) (bytes : ℕ → List ℕ) (alike : AreAlike (m.made + 1) n es fs) (first : Shows marks marks1 lines lines1 (λ k. shown_from m es n k)) (second : Shows marks1 marks2 lines1 lines2 bytes) where
  told_earlier : (k : ℕ) → IsLineKnown (at lines2 k) → HasTaken (at lines1 k) (at lines2 k) (bytes k)
  told_earlier k told = has_taken (slice_index_or marks1 k false) (slice_index_or marks2 k false) (at lines1 k) (at lines2 k) (bytes k) (second.line k) told

  -- what is known was known before
  pub seen_earlier : (ts : List Terminal) → AreSeen ts lines2 → AreSeen ts lines1
  seen_earlier ts are = λ k d within. (told_earlier (slice_index_or ts k d).line (are k d within)).told

  abbrev now : ℕ → ℕ
  now k = more_on lines lines1 k

  abbrev later : ℕ → ℕ
  later k = more_on lines lines2 k

  same_shown : (k j : ℕ) → j ≤ n → shown_from m fs j k ≡ shown_from m es j k
  same_shown k j low = ap (λ (w : Went SystemState). bytes_on k w.puts) (sym (rounds_alike m.config (m.made + 1) j es fs m.state (λ i from to. alike i from (omega (arith, low, to)))))

  same_taken : (k j : ℕ) → IsLineKnown (at lines2 k) → j ≤ n → take (later k) (shown_from m fs j k) ≡ take (now k) (shown_from m es j k)
  same_taken k j told low =
      ap (take (later k)) (same_shown k j low)
      ∙ still_taken (slice_index_or marks k false) (slice_index_or marks1 k false) (slice_index_or marks2 k false) (at lines k) (at lines1 k) (at lines2 k) (shown_from m es n k) (bytes k) (shown_from m es j k) (first.line k) (second.line k) told (shown_within m es k j n low)

  -- what is shown of the first rounds is the same later
  pub echo_earlier : (made : ℕ) → made ≤ n → AreSeen m.config.terminals lines2 → echo_rounds now m es made ≡ echo_rounds later m fs made
  echo_earlier made few are = sym (echo_alike later now m fs es made (λ i low. λ k d within.
      let line = (slice_index_or m.config.terminals k d).line in
      let begun = same_taken line i (are k d within) (omega (arith, low, few)) in
      let ended = same_taken line (suc i) (are k d within) (omega (arith, low, few)) in
      λ j. drop (length (begun j)) (ended j)))

  module _ (whole : Shows marks marks2 lines lines2 (λ k. shown_from m fs (suc n) k)) where
    -- the bytes after those that were seen are those of the next round
    next_is : (k : ℕ) → IsLineKnown (at lines2 k) → drop (length (text_of (at lines1 k))) (text_of (at lines2 k)) ≡ taken_next (later k) m fs n k
    next_is k told =
        let l = at lines k in
        let l1 = at lines1 k in
        let l2 = at lines2 k in
        let begun : List ℕ = take (now k) (shown_from m es n k) in
        let ended : List ℕ = take (later k) (shown_from m fs (suc n) k) in
        let earlier : HasTaken l1 l2 (bytes k) = told_earlier k told in
        let first_part : text_of l1 ≡ text_of l ++ begun = taken_more l l1 (shown_from m es n k) (has_taken (slice_index_or marks k false) (slice_index_or marks1 k false) l l1 (shown_from m es n k) (first.line k) earlier.told) in
        let all : text_of l2 ≡ text_of l ++ ended = taken_more l l2 (shown_from m fs (suc n) k) (has_taken (slice_index_or marks k false) (slice_index_or marks2 k false) l l2 (shown_from m fs (suc n) k) (whole.line k) told) in
        let long : length (text_of l1) ≡ length (text_of l) + length begun = ap length first_part ∙ length-append (text_of l) begun in
        (λ j. drop (long j) (all j)) ∙ drop-append-add (text_of l) ended (length begun) ∙ ap (λ xs. drop (length xs) ended) (sym (same_taken k n told (omega arith)))

    -- the news of the screens are what the terminals took
    pub news_are : (ts : List Terminal) (qs : List Screen) → AreCurrent lines1 ts qs → AreSeen ts lines2 → news lines2 qs ≡ echo_all ts (λ line. taken_next (later line) m fs n line)
    news_are [] [] current are = refl
    news_are [] (q ∷ qs) current are = absurd current
    news_are (t ∷ ts) [] current are = absurd current
    news_are (t ∷ ts) (q ∷ qs) current are =
        let told : IsLineKnown (at lines2 t.line) = All-head (λ (x : Terminal). IsLineKnown (at lines2 x.line)) t ts are in
        let rest = news_are ts qs current.1 (All-tail (λ (x : Terminal). IsLineKnown (at lines2 x.line)) t ts are) in
        let seen : q.seen ≡ length (text_of (at lines1 t.line)) = current.0.seen (told_earlier t.line told).told in
        let here : new_on lines2 q ≡ taken_next (later t.line) m fs n t.line = (λ i. drop (seen i) (text_of (at lines2 (current.0.line i)))) ∙ next_is t.line told in
        λ i. echo_of (current.0.name i) (here i) ++ rest i

  -- and all of them are known
  pub screens_told : (ts : List Terminal) (qs : List Screen) → AreCurrent lines1 ts qs → AreSeen ts lines2 → AreLinesKnown lines2 qs
  screens_told [] [] current are = λ k d within. absurd (omega (arith, within))
  screens_told [] (q ∷ qs) current are = absurd current
  screens_told (t ∷ ts) [] current are = absurd current
  screens_told (t ∷ ts) (q ∷ qs) current are =
      All-cons (λ (x : Screen). IsLineKnown (at lines2 x.line)) q qs (subst (λ k. IsLineKnown (at lines2 k)) (sym current.0.line) (All-head (λ (x : Terminal). IsLineKnown (at lines2 x.line)) t ts are))
      (screens_told ts qs current.1 (All-tail (λ (x : Terminal). IsLineKnown (at lines2 x.line)) t ts are))

  -- no screen has seen more than its line has shown
  pub screens_within : (ts : List Terminal) (qs : List Screen) → AreCurrent lines1 ts qs → AreWithin lines2 qs
  screens_within [] [] current = λ k d within. absurd (omega (arith, within))
  screens_within [] (q ∷ qs) current = absurd current
  screens_within (t ∷ ts) [] current = absurd current
  screens_within (t ∷ ts) (q ∷ qs) current =
      All-cons (λ (x : Screen). IsLineKnown (at lines2 x.line) → x.seen ≤ length (text_of (at lines2 x.line))) q qs
      (λ told.
      let there : IsLineKnown (at lines2 t.line) = subst (λ k. IsLineKnown (at lines2 k)) current.0.line told in
      let taken : HasTaken (at lines1 t.line) (at lines2 t.line) (bytes t.line) = told_earlier t.line there in
      let seen : q.seen ≡ length (text_of (at lines1 t.line)) = current.0.seen taken.told in
      let long : length (text_of (at lines2 t.line)) ≡ length (text_of (at lines1 t.line)) + taken.some = longer (at lines1 t.line) (at lines2 t.line) (bytes t.line) taken in
      subst (λ k. q.seen ≤ length (text_of (at lines2 k))) (sym current.0.line) (omega (arith, seen, long)))
      (screens_within ts qs current.1)

-- a rest that is empty ends where the list does
no_rest : (n : ℕ) (xs : List ℕ) → n ≤ length xs → drop n xs ≡ [] → n ≡ length xs
no_rest n xs low none =
    let rest : length (drop n xs) ≡ 0 = ap length none in
    omega (arith, low, rest, length-drop n xs)

-- screens that were looked at have seen all
pub current_after : (lines lines2 : List Seen) (ts : List Terminal) (qs qs' : List Screen) → AreCurrent lines ts qs → AreSameScreens qs qs' → AreWithin lines2 qs' → All (λ screen. IsLineKnown (at lines2 screen.line) → new_on lines2 screen ≡ []) qs' → AreCurrent lines2 ts qs'
current_after lines lines2 [] [] [] current same within seen = tt
current_after lines lines2 [] [] (q' ∷ qs') current same within seen = absurd same
current_after lines lines2 [] (q ∷ qs) qs' current same within seen = absurd current
current_after lines lines2 (t ∷ ts) [] qs' current same within seen = absurd current
current_after lines lines2 (t ∷ ts) (q ∷ qs) [] current same within seen = absurd same
current_after lines lines2 (t ∷ ts) (q ∷ qs) (q' ∷ qs') current same within seen =
    let line : q'.line ≡ t.line = same.0.line ∙ current.0.line in (
      record {
        name = same.0.name ∙ current.0.name;
        line = line;
        seen = λ told.
            let there : IsLineKnown (at lines2 q'.line) = subst (λ k. IsLineKnown (at lines2 k)) (sym line) told in
            no_rest q'.seen (text_of (at lines2 q'.line)) (All-head (λ (x : Screen). IsLineKnown (at lines2 x.line) → x.seen ≤ length (text_of (at lines2 x.line))) q' qs' within there) (All-head (λ (x : Screen). IsLineKnown (at lines2 x.line) → new_on lines2 x ≡ []) q' qs' seen there)
            ∙ ap (λ k. length (text_of (at lines2 k))) line;
      },
      current_after lines lines2 ts qs qs' current.1 same.1 (All-tail (λ (x : Screen). IsLineKnown (at lines2 x.line) → x.seen ≤ length (text_of (at lines2 x.line))) q' qs' within) (All-tail (λ (x : Screen). IsLineKnown (at lines2 x.line) → new_on lines2 x ≡ []) q' qs' seen),
    )
