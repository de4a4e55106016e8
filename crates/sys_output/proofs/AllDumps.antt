-- The dumps of all guests, each on a line of its own.
use Rattle.std.proofs.Common.{ℕ, suc, ◌≡◌, ◌≢◌, ◌<◌, ◌≤◌, ◌+◌, ◌*◌, List, [], ◌∷◌, ◌++◌, length, map, take, drop, slice_index_or, slice_set, refl, sym, ◌∙◌, ap, subst, arith, append-nil, length-append, take-append-drop, Bool, true, false, true≢false, if◌then◌else◌, ◌==◌, Option, Some, None, All}
use Rattle.std.proofs.lemmas.Bool.{eqb-true}
use Rattle.std.proofs.lemmas.List.{get_or_append_left, get_or-append-add, get_or_at, length-map, length-take-le, take_more}
use Rattle.std.proofs.lemmas.List.Elements.{filter_map-append}
use Rattle.std.specs.List.{AllPairs, cons_option, filter_map}
use Rattle.vv_io.specs.Lines.{Seen}
use Rattle.sys_state.specs.Dump.{dump_of}
use Rattle.sys_objects.specs.Condition.{IsConfig}
use Rattle.sys_objects.specs.Rules.{audit_line}
use Rattle.sys_objects.specs.declared.records.Config.{Config}
use Rattle.sys_objects.specs.declared.records.GuestRow.{GuestRow}
use Rattle.sys_objects.specs.declared.records.PrinterRow.{PrinterRow}
use Rattle.sys_objects.specs.declared.records.Terminal.{Terminal}
use Rattle.sys_state.proofs.Places.{both}
use Rattle.sys_objects.specs.Places.{is_at}
use Rattle.sys_state.specs.Bytes.{dump_on}
use Rattle.sys_devices.proofs.Lists.{from_place}
use Rattle.sys_guests.proofs.Lists.{one_of_all}
use Rattle.sys_guests.proofs.Powering.{guests_more}
use Rattle.sys_devices.proofs.Showings.{shows_on, shows_same, shows_then}
use Rattle.sys_devices.specs.ShownSince.{ShownSinceOn}
use Rattle.sys_guests.specs.Layout.{guests_in}
use Rattle.sys_devices.specs.Shows.{Shows, only_on}
use Rattle.vm_guest.specs.Kept.{IsShadowedIn, Kept, guest_in}
use Rattle.vm_state.specs.State.{Guest}
use Rattle.vm_state.specs.Partition.{guest_of}
use Rattle.vm_state.specs.declared.guest_state.GuestState.{GuestState}

-- the lines on which rows dump
abbrev pub dumps : List GuestRow → List ℕ
dumps rows = filter_map (λ row. row.dump) rows

-- no two are the same
abbrev pub AreApart : List ℕ → Type 0
AreApart lines = AllPairs (λ x y. x ≢ y) lines

-- none before one of them is the same
before_one : (xs : List ℕ) (n : ℕ) (more : List ℕ) → AreApart (xs ++ n ∷ more) → All (λ x. x ≢ n) xs
before_one xs n more apart i d h e =
    apart i (length xs) d h (omega (arith, length-append xs (n ∷ more))) (get_or_append_left xs (n ∷ more) d i h ∙ e ∙ sym (get_or_at xs n more d (length xs) refl))

-- no row before another dumps on its line
new_line : (rows : List GuestRow) (k : ℕ) (row : GuestRow) → k < length rows → row ≡ slice_index_or rows k row → AreApart (dumps rows) → (line : ℕ) → is_at line row.dump ≡ true → All (λ n. n ≢ line) (dumps (take k rows))
new_line rows k row h read apart line at =
    let parted : dumps rows ≡ dumps (take k rows) ++ cons_option row.dump (dumps (drop (k + 1) rows)) = ap dumps (sym (take-append-drop k rows) ∙ ap (λ xs. take k rows ++ xs) (from_place rows k row h read)) ∙ filter_map-append (λ (r : GuestRow). r.dump) (take k rows) (row ∷ drop (k + 1) rows) in
    by (dumps (take k rows)) (dumps (drop (k + 1) rows)) row.dump (subst AreApart parted apart) at
  where
    by : (xs more : List ℕ) (o : Option ℕ) → AreApart (xs ++ cons_option o more) → is_at line o ≡ true → All (λ n. n ≢ line) xs
    by xs more None apart at = absurd (true≢false (sym at))
    by xs more (Some n) apart at = subst (λ m. All (λ x. x ≢ m) xs) (eqb-true n line at) (before_one xs n more apart)

-- the dump of one guest more, on a line where none before it dumps
dump_more : (line : ℕ) (rows : List GuestRow) (gs : List Guest) (row : GuestRow) (g : Guest) → length gs ≡ length rows → (is_at line row.dump ≡ true → All (λ n. n ≢ line) (dumps rows)) → dump_on line (rows ++ row ∷ []) (gs ++ g ∷ []) ≡ dump_on line rows gs ++ only_on row.dump (dump_of row.name g) line
dump_more line [] [] row g long new = refl
dump_more line [] (x ∷ gs) row g long new = absurd (omega (arith, long))
dump_more line (r ∷ rows) [] row g long new = absurd (omega (arith, long))
dump_more line (r ∷ rows) (x ∷ gs) row g long new = by r.dump new (dump_more line rows gs row g (omega (arith, long)))
  where
    by : (o : Option ℕ) → (is_at line row.dump ≡ true → All (λ n. n ≢ line) (cons_option o (dumps rows))) → ((is_at line row.dump ≡ true → All (λ n. n ≢ line) (dumps rows)) → dump_on line (rows ++ row ∷ []) (gs ++ g ∷ []) ≡ dump_on line rows gs ++ only_on row.dump (dump_of row.name g) line)
        → (if is_at line o then dump_of r.name x else dump_on line (rows ++ row ∷ []) (gs ++ g ∷ [])) ≡ (if is_at line o then dump_of r.name x else dump_on line rows gs) ++ only_on row.dump (dump_of row.name g) line
    by None new rest = rest new
    by (Some n) new rest =
        both (n == line) (λ e. rw e (both (is_at line row.dump) (λ f. absurd (new f 0 0 (omega arith) (eqb-true n line e))) (λ f. rw f (sym (append-nil (dump_of r.name x)))))) (λ e. rw e (rest (λ f i d h. new f (suc i) d (omega (arith, h)))))

-- what a line is shown of the first guests' dumps
abbrev pub first_dumps : List ℕ → List GuestRow → List Kept → ℕ → ℕ → List ℕ
first_dumps memory rows guests k line = dump_on line (take k rows) (guests_in memory (take k guests))

first_more : (memory : List ℕ) (gs : List Kept) (k : ℕ) (g : Kept) → k < length gs → g ≡ slice_index_or gs k g → guests_in memory (take (k + 1) gs) ≡ guests_in memory (take k gs) ++ guest_in memory g ∷ []
first_more memory gs k g h read = ap (guests_in memory) (take_more gs k g h ∙ ap (λ x. take k gs ++ x ∷ []) (sym read)) ∙ guests_more memory (take k gs) g

dumps_next : (memory : List ℕ) (rows : List GuestRow) (gs : List Kept) (k : ℕ) (row : GuestRow) (g : Kept) → k < length rows → length gs ≡ length rows → row ≡ slice_index_or rows k row → g ≡ slice_index_or gs k g → AreApart (dumps rows) → (line : ℕ) → first_dumps memory rows gs k line ++ only_on row.dump (dump_of row.name (guest_in memory g)) line ≡ first_dumps memory rows gs (k + 1) line
dumps_next memory rows gs k row g h long read read' apart line =
    let rows' : take (k + 1) rows ≡ take k rows ++ row ∷ [] = take_more rows k row h ∙ ap (λ x. take k rows ++ x ∷ []) (sym read) in
    let guests' : guests_in memory (take (k + 1) gs) ≡ guests_in memory (take k gs) ++ guest_in memory g ∷ [] = first_more memory gs k g (omega (arith, h, long)) read' in
    let size : length (guests_in memory (take k gs)) ≡ length (take k rows) = length-map (take k gs) (guest_in memory) ∙ length-take-le k gs (omega (arith, h, long)) ∙ sym (length-take-le k rows (omega (arith, h))) in
    sym ((λ i. dump_on line (rows' i) (guests' i)) ∙ dump_more line (take k rows) (guests_in memory (take k gs)) row (guest_in memory g) size (new_line rows k row h read apart line))

-- the dump of the next guest is shown
pub next_shown : {a b c : List Bool} {l m n : List Seen} (memory : List ℕ) (rows : List GuestRow) (guests : List Kept) (k : ℕ) (row : GuestRow) (g : Kept) (state : GuestState) → k < length rows → length guests ≡ length rows → row ≡ slice_index_or rows k row → g ≡ slice_index_or guests k g → state ≡ g.state → AreApart (dumps rows)
    → Shows a b l m (first_dumps memory rows guests k) → Shows b c m n (only_on row.dump (dump_of row.name (guest_of memory state))) → Shows a c l n (first_dumps memory rows guests (k + 1))
next_shown {a} {b} {c} {l} {m} {n} memory rows guests k row g state h long read read' is apart before now =
    let dump : GuestState → ℕ → List ℕ = λ s. only_on row.dump (dump_of row.name (guest_of memory s)) in
    let next : (line : ℕ) → first_dumps memory rows guests k line ++ dump state line ≡ first_dumps memory rows guests (k + 1) line = λ line. ap (λ s. first_dumps memory rows guests k line ++ dump s line) is ∙ dumps_next memory rows guests k row g h long read read' apart line in
    shows_same a c l n (λ line. first_dumps memory rows guests k line ++ dump state line) (first_dumps memory rows guests (k + 1)) next (shows_then before now)

-- of lists one after another
front_apart : (xs ys : List ℕ) → AreApart (xs ++ ys) → AreApart xs
front_apart xs ys apart i j d h within e =
    apart i j d h (omega (arith, within, length-append xs ys)) (get_or_append_left xs ys d i (omega (arith, h, within)) ∙ e ∙ sym (get_or_append_left xs ys d j within))

back_apart : (xs ys : List ℕ) → AreApart (xs ++ ys) → AreApart ys
back_apart xs ys apart i j d h within e =
    apart (length xs + i) (length xs + j) d (omega (arith, h)) (omega (arith, within, length-append xs ys)) (get_or-append-add xs ys i d ∙ e ∙ sym (get_or-append-add xs ys j d))

-- the guests of an accepted configuration dump on lines of their own
pub dumps_apart : (c : Config) → IsConfig c → AllPairs (λ x y. x ≢ y) (filter_map (λ row. row.dump) c.guests)
dumps_apart c h =
    let before : List ℕ = map (λ (t : Terminal). t.line) c.terminals ++ map (λ (p : PrinterRow). p.line) c.printers in
    back_apart before (dumps c.guests) (front_apart (before ++ dumps c.guests) (audit_line c.audit) h.lines)

-- a dump has bytes
dump_some : (name : List ℕ) (g : Guest) → dump_of name g ≡ [] → ⊥
unfolding dump_of
dump_some name g e = cc

-- a dump on a line that isn't marked
pub dump_shown : (marks : List Bool) (lines lines' : List Seen) (place : Option ℕ) (k : ℕ) (failed told : Bool) (name : List ℕ) (g : Guest) → place ≡ Some k → k < length marks → slice_index_or marks k false ≡ false → failed ≡ told → ShownSinceOn k told lines lines' (dump_of name g) → Shows marks (slice_set marks k failed) lines lines' (only_on place (dump_of name g))
dump_shown marks lines lines' place k failed told name g is there unmarked same shows =
    subst (λ o. Shows marks (slice_set marks k failed) lines lines' (only_on o (dump_of name g))) (sym is) (shows_on marks lines lines' k failed (dump_of name g) there unmarked (dump_some name g) (subst (λ b. ShownSinceOn k b lines lines' (dump_of name g)) (sym same) shows))

-- a guest that is in the machine lies within its memory
pub lies_within : (memory : List ℕ) (ks : List Kept) (i : ℕ) (k : Kept) → i < length ks → k ≡ slice_index_or ks i k → All (λ (y : Kept). IsShadowedIn memory y) ks → (512 * k.state.base + 512 * k.state.pages ≤ length memory) × (k.state.base + k.state.pages ≤ 65536)
lies_within memory ks i k h read all =
    let stands = one_of_all (λ (y : Kept). IsShadowedIn memory y) ks i k h read all in
    let f = stands.keeps.fits in
    (omega (arith, f.partition, stands.serves.base, stands.serves.pages), omega (arith, f.partition, f.few, stands.serves.base, stands.serves.pages))
