-- What is read back of a line that is known, piece by piece.
use Rattle.std.proofs.Common.{ℕ, ◌≡◌, ◌+◌, ◌-◌, ◌<◌, ◌≤◌, ◌^◌, List, ◌++◌, length, take, drop, min, slice_index_or, sym, ◌∙◌, ap, subst, arith, take-append-drop, Bool, Option}
use Rattle.std.proofs.lemmas.List.{drop_all, drop_min, drop-drop, length-take, length-drop, nil_from_length}
use Rattle.vv_io.specs.Lines.{Counts, ReadsBack, Seen, unseen}
use Rattle.sys_devices.specs.Pieces.{begun_after, echo_bytes, end_if}
use Rattle.sys_devices.specs.Screens.{IsLineKnown, shown_if_known}
use Rattle.sys_devices.proofs.Endings.{ending, ending_then}

-- all of what a known line has shown is counted
counted : (line : Seen) (count : ℕ) → IsLineKnown line → Counts line.shown count → count ≡ length (shown_if_known line.shown)
counted line count told counts =
    let is : count ≡ min (length told.0) (2 ^ 64 - 1) = subst (λ (s : Option (List ℕ)). Counts s count) told.1 counts in
    let few : length told.0 < 2 ^ 64 = told.2 in
    let long : count ≡ length told.0 = omega (arith, is, few) in
    long ∙ ap (λ (s : Option (List ℕ)). length (shown_if_known s)) (sym told.1)

-- the bytes from a place on are read
read_from : (line : Seen) (place n : ℕ) (into : List ℕ) → IsLineKnown line → ReadsBack line.shown place into n → (n ≤ 512) × (take n into ≡ take 512 (drop place (shown_if_known line.shown)))
read_from line place n into told reads =
    let back : (n ≤ 512) × (take n into ≡ take 512 (drop place told.0)) = subst (λ (s : Option (List ℕ)). ReadsBack s place into n) told.1 reads in
    (back.0, back.1 ∙ ap (λ (s : Option (List ℕ)). take 512 (drop place (shown_if_known s))) (sym told.1))

-- how many
read_count : (n : ℕ) (into rest : List ℕ) → n ≤ 512 → length into ≡ 512 → take n into ≡ take 512 rest → n ≡ min 512 (length rest)
read_count n into rest few long same = omega (arith, few, long, sym (length-take n into) ∙ ap length same ∙ length-take 512 rest)

-- a piece is what was left without what is left then
parted : (shown into : List ℕ) (place next n : ℕ) → place < length shown → length shown < 2 ^ 64 → n ≤ 512 → length into ≡ 512 → take n into ≡ take 512 (drop place shown) → next ≡ min (place + n) (2 ^ 64 - 1) → drop place shown ≡ take n into ++ drop next shown
parted shown into place next n before few within long same on =
    let count : n ≡ min 512 (length (drop place shown)) = read_count n into (drop place shown) within long same in
    let left : length (drop place shown) ≡ length shown - place = length-drop place shown in
    let further : next ≡ place + n = omega (arith, on, count, left, before, few) in
    let rest : drop next shown ≡ drop 512 (drop place shown) = ap (λ (k : ℕ). drop k shown) further ∙ sym (drop-drop n place shown) ∙ ap (λ (k : ℕ). drop k (drop place shown)) count ∙ drop_min 512 (drop place shown) in
    sym (take-append-drop 512 (drop place shown)) ∙ ap (λ (xs : List ℕ). xs ++ drop 512 (drop place shown)) (sym same) ∙ ap (λ (xs : List ℕ). take n into ++ xs) (sym rest)

few_told : (line : Seen) → IsLineKnown line → length (shown_if_known line.shown) < 2 ^ 64
few_told line told = subst (λ (s : Option (List ℕ)). length (shown_if_known s) < 2 ^ 64) (sym told.1) told.2

-- One of several lines is read, where all are as before.
pub record IsRead (lines now : List Seen) (k at place n : ℕ) (into : List ℕ) : Type 0 where
  pub stays : now ≡ lines
  pub same : k ≡ at
  pub back : ReadsBack (slice_index_or now k unseen).shown place into n

pub was_read : (lines now : List Seen) (k at place n : ℕ) (into : List ℕ) → now ≡ lines → k ≡ at → ReadsBack (slice_index_or now k unseen).shown place into n → IsRead lines now k at place n into
was_read lines now k at place n into stays same back = record { stays = stays; same = same; back = back }

read_line : {lines now : List Seen} {k at place n : ℕ} {into : List ℕ} → IsRead lines now k at place n into → ReadsBack (slice_index_or lines at unseen).shown place into n
read_line {lines} {now} {k} {at} {place} {n} {into} read =
    subst (λ (i : ℕ). ReadsBack (slice_index_or lines i unseen).shown place into n) read.same (subst (λ (xs : List Seen). ReadsBack (slice_index_or xs k unseen).shown place into n) read.stays read.back)

-- what is still to be shown is what is shown of a piece, and what is to be shown then
pub piece_shown : (lines now : List Seen) (k at place next n end : ℕ) (into piece name called : List ℕ) (b then_begun : Bool) → IsRead lines now k at place n into → Counts (slice_index_or lines k unseen).shown end → place < end → length into ≡ 512 → next ≡ min (place + n) (2 ^ 64 - 1) → piece ≡ take n into → called ≡ name → then_begun ≡ begun_after b piece → IsLineKnown (slice_index_or lines at unseen) → ending name b (drop place (shown_if_known (slice_index_or lines at unseen).shown)) ≡ echo_bytes called b piece ++ ending name then_begun (drop next (shown_if_known (slice_index_or lines at unseen).shown))
piece_shown lines now k at place next n end into piece name called b then_begun read counts before long on is name_is begun told =
    let line = slice_index_or lines at unseen in
    let shown = shown_if_known line.shown in
    let count : end ≡ length shown = counted line end told (subst (λ (i : ℕ). Counts (slice_index_or lines i unseen).shown end) read.same counts) in
    let back : (n ≤ 512) × (take n into ≡ take 512 (drop place shown)) = read_from line place n into told (read_line read) in
    let parts : drop place shown ≡ take n into ++ drop next shown = parted shown into place next n (omega (arith, before, count)) (few_told line told) back.0 long back.1 on in
    ap (ending name b) (parts ∙ ap (λ (xs : List ℕ). xs ++ drop next shown) (sym is)) ∙ ending_then name b piece (drop next shown) ∙ ap (λ (c : Bool). echo_bytes name b piece ++ ending name c (drop next shown)) (sym begun) ∙ ap (λ (xs : List ℕ). echo_bytes xs b piece ++ ending name then_begun (drop next shown)) (sym name_is)

-- no more was seen then than is shown
pub piece_within : (lines now : List Seen) (k at other place next n end : ℕ) (into : List ℕ) → IsRead lines now k at place n into → Counts (slice_index_or lines k unseen).shown end → place < end → length into ≡ 512 → next ≡ min (place + n) (2 ^ 64 - 1) → other ≡ at → IsLineKnown (slice_index_or lines other unseen) → next ≤ length (shown_if_known (slice_index_or lines other unseen).shown)
piece_within lines now k at other place next n end into read counts before long on moved told =
    let line = slice_index_or lines other unseen in
    let rest = drop place (shown_if_known line.shown) in
    let is : k ≡ other = read.same ∙ sym moved in
    let count : end ≡ length (shown_if_known line.shown) = counted line end told (subst (λ (i : ℕ). Counts (slice_index_or lines i unseen).shown end) is counts) in
    let back : (n ≤ 512) × (take n into ≡ take 512 rest) = read_from line place n into told (read_line (was_read lines now k other place n into read.stays is read.back)) in
    omega (arith, on, count, before, read_count n into rest back.0 long back.1, length-drop place (shown_if_known line.shown))

-- where nothing is read, no more is to be shown than a line's end
pub nothing_read : (lines now : List Seen) (k at place n : ℕ) (into name : List ℕ) (b : Bool) → IsRead lines now k at place n into → n ≡ 0 → length into ≡ 512 → IsLineKnown (slice_index_or lines at unseen) → ending name b (drop place (shown_if_known (slice_index_or lines at unseen).shown)) ≡ end_if b
nothing_read lines now k at place n into name b read none long told =
    let line = slice_index_or lines at unseen in
    let rest = drop place (shown_if_known line.shown) in
    let back : (n ≤ 512) × (take n into ≡ take 512 rest) = read_from line place n into told (read_line read) in
    let count : n ≡ min 512 (length rest) = read_count n into rest back.0 long back.1 in
    ap (ending name b) (nil_from_length rest (omega (arith, none, count)))

-- nor where all that is counted was seen
pub all_seen : (lines : List Seen) (k at place end : ℕ) (name : List ℕ) (b : Bool) → k ≡ at → Counts (slice_index_or lines k unseen).shown end → end ≤ place → IsLineKnown (slice_index_or lines at unseen) → ending name b (drop place (shown_if_known (slice_index_or lines at unseen).shown)) ≡ end_if b
all_seen lines k at place end name b same counts past told =
    let line = slice_index_or lines at unseen in
    let count : end ≡ length (shown_if_known line.shown) = counted line end told (subst (λ (i : ℕ). Counts (slice_index_or lines i unseen).shown end) same counts) in
    ap (ending name b) (drop_all place (shown_if_known line.shown) (omega (arith, past, count)))
