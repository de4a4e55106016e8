-- Guests that are laid out have memories and tables of their own.
use Rattle.std.proofs.Common.{ℕ, ◌≤◌, ◌+◌, ◌*◌, List, [], ◌∷◌, ◌++◌, map, length, arith}
use Rattle.std.proofs.lemmas.List.Elements.{All-cons}
use Rattle.std.proofs.lemmas.List.Kept.{AllPairs-cons}
use Rattle.std.proofs.lemmas.List.Sums.{sum_by-cons}
use Rattle.std.specs.List.{All, AllPairs, sum_by}
use Rattle.sys_objects.specs.declared.records.GuestRow.{GuestRow}
use Rattle.sys_guests.specs.Layout.{ArePlaced, LiesApart, Range, memory_of, ranges, tables_range}
use Rattle.vm_guest.specs.Kept.{Kept}

-- pages one after another, from a page on and up to a limit
abbrev Follow : (from limit : ℕ) → List Range → Type 0
Follow from limit [] = Unit {0}
Follow from limit (r ∷ rs) = (from ≤ r.from) × (r.from + r.pages ≤ limit) × Follow (r.from + r.pages) limit rs

all_after : (from to limit : ℕ) (rs : List Range) → from ≤ to → Follow to limit rs → All (λ r. from ≤ r.from) rs
all_after from to limit [] h f = λ k d l. absurd (omega (arith, l))
all_after from to limit (r ∷ rs) h f = All-cons (λ (r : Range). from ≤ r.from) r rs (omega (arith, h, f.0)) (all_after from (r.from + r.pages) limit rs (omega (arith, h, f.0)) f.2)

each_before : (from limit : ℕ) (rs : List Range) → Follow from limit rs → AllPairs (λ a b. a.from + a.pages ≤ b.from) rs
each_before from limit [] f = λ i j d l m. absurd (omega (arith, m))
each_before from limit (r ∷ rs) f = AllPairs-cons (λ (a b : Range). a.from + a.pages ≤ b.from) r rs (all_after (r.from + r.pages) (r.from + r.pages) limit rs (omega arith) f.2) (each_before (r.from + r.pages) limit rs f.2)

all_inside : (from limit : ℕ) (rs : List Range) → Follow from limit rs → All (λ a. a.from + a.pages ≤ limit) rs
all_inside from limit [] f = λ k d l. absurd (omega (arith, l))
all_inside from limit (r ∷ rs) f = All-cons (λ (a : Range). a.from + a.pages ≤ limit) r rs f.1 (all_inside (r.from + r.pages) limit rs f.2)

-- they may as well begin earlier
earlier : (from to limit : ℕ) (rs : List Range) → from ≤ to → Follow to limit rs → Follow from limit rs
earlier from to limit [] h f = tt
earlier from to limit (r ∷ rs) h f = (omega (arith, h, f.0), f.1, f.2)

tables_follow : (base tables limit : ℕ) (rows : List GuestRow) (gs : List Kept) → ArePlaced base tables rows gs → tables + 580 * length rows ≤ limit → Follow tables limit (map tables_range gs)
tables_follow base tables limit [] [] p h = tt
tables_follow base tables limit [] (g ∷ gs) p h = absurd p
tables_follow base tables limit (row ∷ rows) [] p h = tt
tables_follow base tables limit (row ∷ rows) (g ∷ gs) p h =
    let rest = tables_follow (base + row.pages) (tables + 580) limit rows gs p.1 (omega (arith, h)) in
    (omega (arith, p.0.tables), omega (arith, p.0.tables, h), earlier (g.shadow.at + 580) (tables + 580) limit (map tables_range gs) (omega (arith, p.0.tables)) rest)

memories_follow : (base tables limit : ℕ) (rows : List GuestRow) (gs : List Kept) (rs : List Range) → ArePlaced base tables rows gs → base + sum_by (λ r. r.pages) rows ≤ limit → Follow (base + sum_by (λ r. r.pages) rows) limit rs → Follow base limit (map memory_of gs ++ rs)
memories_follow base tables limit [] [] rs p h f = earlier base (base + sum_by (λ (r : GuestRow). r.pages) []) limit rs (omega arith) f
memories_follow base tables limit [] (g ∷ gs) rs p h f = absurd p
memories_follow base tables limit (row ∷ rows) [] rs p h f = absurd p
memories_follow base tables limit (row ∷ rows) (g ∷ gs) rs p h f =
    let all = sum_by-cons (λ (r : GuestRow). r.pages) row rows in
    let later = earlier ((base + row.pages) + sum_by (λ (r : GuestRow). r.pages) rows) (base + sum_by (λ (r : GuestRow). r.pages) (row ∷ rows)) limit rs (omega (arith, all)) f in
    let rest = memories_follow (base + row.pages) (tables + 580) limit rows gs rs p.1 (omega (arith, all, h)) later in
    (omega (arith, p.0.base), omega (arith, p.0.base, p.0.pages, all, h), earlier (g.state.base + g.state.pages) (base + row.pages) limit (map memory_of gs ++ rs) (omega (arith, p.0.base, p.0.pages)) rest)

pub lies_apart : LiesApart
lies_apart c gs accepted placed =
    let pages : ℕ = sum_by (λ (r : GuestRow). r.pages) c.guests in
    let few : pages ≤ 16384 = accepted.pages in
    let later : Follow pages 32768 (map tables_range gs) = tables_follow 0 pages 32768 c.guests gs placed (omega (arith, few, accepted.few_guests)) in
    let all : Follow 0 32768 (ranges gs) = memories_follow 0 pages 32768 c.guests gs (map tables_range gs) placed (omega (arith, few)) (earlier (0 + pages) pages 32768 (map tables_range gs) (omega arith) later) in
    (each_before 0 32768 (ranges gs) all, all_inside 0 32768 (ranges gs) all)
