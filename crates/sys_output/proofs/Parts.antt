-- A dump, part by part.
use Rattle.std.proofs.Common.{ℕ, ◌≡◌, ◌≤◌, ◌+◌, ◌*◌, ◌/◌, List, [], ◌∷◌, ◌++◌, length, refl, sym, ◌∙◌, ap, codes, Bool, true, false}
use Rattle.vv_base.specs.Digits.{hex_text}
use Rattle.vv_io.specs.Lines.{Seen}
use Rattle.vm_state.specs.Partition.{guest_of, part}
use Rattle.vm_state.specs.declared.guest_state.GuestState.{GuestState}
use Rattle.sys_state.specs.Dump.{dump_of, register_lines, row_lines, text_of_lines}
use Rattle.sys_devices.specs.ShownSince.{ShownSinceOn}
use Rattle.sys_output.proofs.Lines.{rows_in, text_first, text_joined}
use Rattle.sys_devices.proofs.OneLine.{IsButOn, begun_on, ends_there, goes_on_there, stops_there}

four_parts : (name psl : List ℕ) (registers rows : List (List ℕ)) → text_of_lines (name ∷ (registers ++ psl ∷ rows)) ≡ text_of_lines (name ∷ []) ++ (text_of_lines registers ++ (text_of_lines (psl ∷ []) ++ text_of_lines rows))
four_parts name psl registers rows =
    text_first name (registers ++ psl ∷ rows) ∙ ap (λ (t : List ℕ). text_of_lines (name ∷ []) ++ t) (text_joined registers (psl ∷ rows) ∙ ap (λ (t : List ℕ). text_of_lines registers ++ t) (text_first psl rows))

-- the rows of a guest's memory
abbrev rows_of : List ℕ → GuestState → List ℕ
rows_of memory g = text_of_lines (row_lines (32 * g.pages) 0 (part memory (512 * g.base) (512 * g.pages)))

abbrev registers_of : GuestState → List ℕ
registers_of g = text_of_lines (register_lines 0 g.r)

-- the two lines with words
record AreLines (name : List ℕ) (g : GuestState) (first psl : List ℕ) : Type 0 where
  pub first_is : first ≡ codes "VM " ++ name
  pub psl_is : psl ≡ codes "PSL " ++ hex_text 8 g.psl.0

parts : (memory name : List ℕ) (g : GuestState) (first psl : List ℕ) → 512 * g.base + 512 * g.pages ≤ length memory → AreLines name g first psl →
    dump_of name (guest_of memory g) ≡ text_of_lines (first ∷ []) ++ (registers_of g ++ (text_of_lines (psl ∷ []) ++ rows_of memory g))
unfolding dump_of
parts memory name g first psl inside are =
    let memory' = part memory (512 * g.base) (512 * g.pages) in
    four_parts (codes "VM " ++ name) (codes "PSL " ++ hex_text 8 g.psl.0) (register_lines 0 g.r) (row_lines (length memory' / 16) 0 memory')
    ∙ ap (λ (k : ℕ). text_of_lines ((codes "VM " ++ name) ∷ []) ++ (registers_of g ++ (text_of_lines ((codes "PSL " ++ hex_text 8 g.psl.0) ∷ []) ++ text_of_lines (row_lines k 0 memory')))) (rows_in memory (512 * g.base) g.pages inside)
    ∙ ap (λ (xs : List ℕ). text_of_lines (xs ∷ []) ++ (registers_of g ++ (text_of_lines ((codes "PSL " ++ hex_text 8 g.psl.0) ∷ []) ++ rows_of memory g))) (sym are.first_is)
    ∙ ap (λ (xs : List ℕ). text_of_lines (first ∷ []) ++ (registers_of g ++ (text_of_lines (xs ∷ []) ++ rows_of memory g))) (sym are.psl_is)

after_name : (memory name : List ℕ) (g : GuestState) (first psl : List ℕ) (k : ℕ) (start one : List Seen) → 512 * g.base + 512 * g.pages ≤ length memory → AreLines name g first psl → ShownSinceOn k false start one (text_of_lines (first ∷ [])) →
    IsButOn k start one (registers_of g ++ (text_of_lines (psl ∷ []) ++ rows_of memory g)) (dump_of name (guest_of memory g))
after_name memory name g first psl k start one inside are shown =
    let whole = dump_of name (guest_of memory g) in
    let (line, is, there, since) = shown in
    goes_on_there k start start one whole (text_of_lines (first ∷ [])) (registers_of g ++ (text_of_lines (psl ∷ []) ++ rows_of memory g)) whole (parts memory name g first psl inside are) (begun_on k start whole there) shown

after_registers : (memory name : List ℕ) (g : GuestState) (first psl : List ℕ) (k : ℕ) (start one two : List Seen) → 512 * g.base + 512 * g.pages ≤ length memory → AreLines name g first psl → ShownSinceOn k false start one (text_of_lines (first ∷ [])) → ShownSinceOn k false one two (registers_of g) →
    IsButOn k start two (text_of_lines (psl ∷ []) ++ rows_of memory g) (dump_of name (guest_of memory g))
after_registers memory name g first psl k start one two inside are shown more =
    goes_on_there k start one two (registers_of g ++ (text_of_lines (psl ∷ []) ++ rows_of memory g)) (registers_of g) (text_of_lines (psl ∷ []) ++ rows_of memory g) (dump_of name (guest_of memory g)) refl (after_name memory name g first psl k start one inside are shown) more

-- the name's line fails
pub name_fails : (failed : Bool) (memory name : List ℕ) (g : GuestState) (first : List ℕ) (k : ℕ) (start one : List Seen) → failed ≡ true → 512 * g.base + 512 * g.pages ≤ length memory → first ≡ codes "VM " ++ name →
    ShownSinceOn k true start one (text_of_lines (first ∷ [])) → ShownSinceOn k failed start one (dump_of name (guest_of memory g))
name_fails failed memory name g first k start one fault inside is shown =
    let whole = dump_of name (guest_of memory g) in
    let psl = codes "PSL " ++ hex_text 8 g.psl.0 in
    let (line, put, there, since) = shown in
    stops_there k failed start start one whole (text_of_lines (first ∷ [])) (registers_of g ++ (text_of_lines (psl ∷ []) ++ rows_of memory g)) whole fault (parts memory name g first psl inside (record { first_is = is; psl_is = refl })) (begun_on k start whole there) shown

-- a register's
pub registers_fail : (failed : Bool) (memory name : List ℕ) (g : GuestState) (first : List ℕ) (k : ℕ) (start one two : List Seen) → failed ≡ true → 512 * g.base + 512 * g.pages ≤ length memory → first ≡ codes "VM " ++ name →
    ShownSinceOn k false start one (text_of_lines (first ∷ [])) → ShownSinceOn k true one two (registers_of g) → ShownSinceOn k failed start two (dump_of name (guest_of memory g))
registers_fail failed memory name g first k start one two fault inside is shown more =
    let psl = codes "PSL " ++ hex_text 8 g.psl.0 in
    stops_there k failed start one two (registers_of g ++ (text_of_lines (psl ∷ []) ++ rows_of memory g)) (registers_of g) (text_of_lines (psl ∷ []) ++ rows_of memory g) (dump_of name (guest_of memory g)) fault refl (after_name memory name g first psl k start one inside (record { first_is = is; psl_is = refl }) shown) more

-- the PSL's
pub psl_fails : (failed : Bool) (memory name : List ℕ) (g : GuestState) (first psl : List ℕ) (k : ℕ) (start one two three : List Seen) → failed ≡ true → 512 * g.base + 512 * g.pages ≤ length memory → first ≡ codes "VM " ++ name → psl ≡ codes "PSL " ++ hex_text 8 g.psl.0 →
    ShownSinceOn k false start one (text_of_lines (first ∷ [])) → ShownSinceOn k false one two (registers_of g) → ShownSinceOn k true two three (text_of_lines (psl ∷ [])) → ShownSinceOn k failed start three (dump_of name (guest_of memory g))
psl_fails failed memory name g first psl k start one two three fault inside is psl_is shown more last =
    stops_there k failed start two three (text_of_lines (psl ∷ []) ++ rows_of memory g) (text_of_lines (psl ∷ [])) (rows_of memory g) (dump_of name (guest_of memory g)) fault refl (after_registers memory name g first psl k start one two inside (record { first_is = is; psl_is = psl_is }) shown more) last

-- the rows end it
pub rows_end : (failed : Bool) (memory name : List ℕ) (g : GuestState) (first psl : List ℕ) (k : ℕ) (start one two three four : List Seen) → 512 * g.base + 512 * g.pages ≤ length memory → first ≡ codes "VM " ++ name → psl ≡ codes "PSL " ++ hex_text 8 g.psl.0 →
    ShownSinceOn k false start one (text_of_lines (first ∷ [])) → ShownSinceOn k false one two (registers_of g) → ShownSinceOn k false two three (text_of_lines (psl ∷ [])) → ShownSinceOn k failed three four (text_of_lines (row_lines (32 * g.pages) 0 (part memory (512 * g.base) (512 * g.pages)))) → ShownSinceOn k failed start four (dump_of name (guest_of memory g))
rows_end failed memory name g first psl k start one two three four inside is psl_is shown more last rows =
    let whole = dump_of name (guest_of memory g) in
    ends_there k failed start three four (rows_of memory g) whole (goes_on_there k start two three (text_of_lines (psl ∷ []) ++ rows_of memory g) (text_of_lines (psl ∷ [])) (rows_of memory g) whole refl (after_registers memory name g first psl k start one two inside (record { first_is = is; psl_is = psl_is }) shown more) last) rows
