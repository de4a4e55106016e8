-- What is shown piece by piece, in all: line by line, each between two line feeds.
use Rattle.std.proofs.Common.{ℕ, zero, suc, ◌≡◌, ◌-◌, List, [], ◌∷◌, ◌++◌, map, length, take, filter, slice_index, not, refl, sym, ◌∙◌, ap, append_assoc, Bool, true, false, if◌then◌else◌, ◌==◌, cond, rules, tests}
use Rattle.std.specs.List.{flat_map, onto_first, slice_split}
use Rattle.std.specs.Str.Lines.{lines_of_parts, strip_carriage_return}
use Rattle.sys_devices.specs.Echo.{echo_line, echo_of, name_front, seen_byte}
use Rattle.sys_devices.specs.Pieces.{begun_after, echo_bytes, end_if, front_if}
use Rattle.sys_devices.proofs.Endings.{ending}

abbrev is_feed_byte : ℕ → Bool
is_feed_byte b = b == 10

abbrev is_kept : ℕ → Bool
is_kept b = not (b == 13)

-- no carriage return
abbrev IsClean : List ℕ → Type 0
IsClean [] = Unit {0}
IsClean (b ∷ bytes) = ((b == 13) ≡ false) × IsClean bytes

abbrev AreClean : List (List ℕ) → Type 0
AreClean [] = Unit {0}
AreClean (part ∷ parts) = IsClean part × AreClean parts

clean_at : (bytes : List ℕ) (k : ℕ) → IsClean bytes → (slice_index bytes k == 13) ≡ false
clean_at [] k clean = refl
clean_at (b ∷ bytes) zero clean = clean.0
clean_at (b ∷ bytes) (suc k) clean = clean_at bytes k clean.1

stripped : (part : List ℕ) → IsClean part → strip_carriage_return part ≡ part
stripped part clean = ap (λ (c : Bool). if c then take (length part - 1) part else part) (clean_at part (length part - 1) clean)

clean_kept : (b : ℕ) (rest : List ℕ) (is_return : Bool) → (b == 13) ≡ is_return → IsClean rest → IsClean (cond (not is_return) (b ∷ rest) rest)
clean_kept b rest true is clean = clean
clean_kept b rest false is clean = (is, clean)

clean_filtered : (bytes : List ℕ) → IsClean (filter is_kept bytes)
clean_filtered [] = tt
clean_filtered (b ∷ bytes) = clean_kept b (filter is_kept bytes) (b == 13) refl (clean_filtered bytes)

clean_onto : (b : ℕ) (parts : List (List ℕ)) (is_feed : Bool) → (b == 13) ≡ false → AreClean parts → AreClean (cond is_feed ([] ∷ parts) (onto_first b parts))
clean_onto b parts true is clean = (tt, clean)
clean_onto b [] false is clean = ((is, tt), tt)
clean_onto b (part ∷ parts) false is clean = ((is, clean.0), clean.1)

clean_split : (bytes : List ℕ) → IsClean bytes → AreClean (slice_split is_feed_byte bytes)
clean_split [] clean = (tt, tt)
clean_split (b ∷ bytes) clean = clean_onto b (slice_split is_feed_byte bytes) (b == 10) clean.0 (clean_split bytes clean.1)

-- the parts as lines: an empty last one is none
abbrev lines_in : List (List ℕ) → List (List ℕ)
lines_in [] = []
lines_in (part ∷ []) = if length part == 0 then [] else part ∷ []
lines_in (part ∷ next ∷ parts) = part ∷ lines_in (next ∷ parts)

as_lines : (parts : List (List ℕ)) → AreClean parts → lines_of_parts parts ≡ lines_in parts
as_lines [] clean = refl
as_lines (part ∷ []) clean = refl
as_lines (part ∷ next ∷ parts) clean = ap (λ (xs : List ℕ). xs ∷ lines_of_parts (next ∷ parts)) (stripped part clean.0) ∙ ap (λ (xs : List (List ℕ)). part ∷ xs) (as_lines (next ∷ parts) clean.1)

-- what is still to be shown of parts, after a line that is begun or isn't
abbrev shown_of : List ℕ → Bool → List (List ℕ) → List ℕ
shown_of name false parts = flat_map (echo_line name) (lines_in parts)
shown_of name true [] = 10 ∷ []
shown_of name true (part ∷ []) = map seen_byte part ++ 10 ∷ []
shown_of name true (part ∷ next ∷ parts) = map seen_byte part ++ 10 ∷ [] ++ flat_map (echo_line name) (lines_in (next ∷ parts))

-- a list of parts is never empty
has_part : (bytes : List ℕ) → (part : List ℕ) × (parts : List (List ℕ)) × (slice_split is_feed_byte bytes ≡ part ∷ parts)
has_part [] = ([], [], refl)
has_part (b ∷ bytes) = onto b (slice_split is_feed_byte bytes) (b == 10)
  where
    onto : (b : ℕ) (rest : List (List ℕ)) (is_feed : Bool) → (part : List ℕ) × (parts : List (List ℕ)) × (cond is_feed ([] ∷ rest) (onto_first b rest) ≡ part ∷ parts)
    onto b rest true = ([], rest, refl)
    onto b [] false = (b ∷ [], [], refl)
    onto b (part ∷ parts) false = (b ∷ part, parts, refl)

line_then : (front line rest : List ℕ) → front ++ line ++ 10 ∷ [] ++ rest ≡ front ++ (line ++ 10 ∷ rest)
line_then front line rest = append_assoc (front ++ line) (10 ∷ []) rest ∙ append_assoc front line (10 ∷ rest)

not_none : (n : ℕ) → (suc n == 0) ≡ false
not_none n = search (rules, tests)

-- one byte more of the first part
byte_of_part : (name : List ℕ) (b : Bool) (x : ℕ) (xs part : List ℕ) (parts : List (List ℕ)) → ending name true xs ≡ shown_of name true (part ∷ parts) → (front_if b name ++ seen_byte x ∷ echo_bytes name true xs) ++ end_if (begun_after true xs) ≡ shown_of name b ((x ∷ part) ∷ parts)
byte_of_part name true x xs part [] rest = ap (λ (ys : List ℕ). seen_byte x ∷ ys) rest
byte_of_part name true x xs part (next ∷ parts) rest = ap (λ (ys : List ℕ). seen_byte x ∷ ys) rest
byte_of_part name false x xs part [] rest =
    append_assoc (name_front name) (seen_byte x ∷ echo_bytes name true xs) (end_if (begun_after true xs)) ∙ ap (λ (ys : List ℕ). name_front name ++ seen_byte x ∷ ys) rest ∙ sym (line_then (name_front name) (seen_byte x ∷ map seen_byte part) []) ∙ ap (λ (none : Bool). flat_map (echo_line name) (if none then [] else (x ∷ part) ∷ [])) (sym (not_none (length part)))
byte_of_part name false x xs part (next ∷ parts) rest =
    let after = flat_map (echo_line name) (lines_in (next ∷ parts)) in
    append_assoc (name_front name) (seen_byte x ∷ echo_bytes name true xs) (end_if (begun_after true xs)) ∙ ap (λ (ys : List ℕ). name_front name ++ seen_byte x ∷ ys) (rest ∙ append_assoc (map seen_byte part) (10 ∷ []) after) ∙ sym (line_then (name_front name) (seen_byte x ∷ map seen_byte part) after)

-- a line feed ends a part
feed_of_part : (name : List ℕ) (b : Bool) (xs part : List ℕ) (parts : List (List ℕ)) → ending name false xs ≡ shown_of name false (part ∷ parts) → (front_if b name ++ 10 ∷ echo_bytes name false xs) ++ end_if (begun_after false xs) ≡ shown_of name b ([] ∷ part ∷ parts)
feed_of_part name true xs part parts rest = ap (λ (ys : List ℕ). 10 ∷ ys) rest
feed_of_part name false xs part parts rest =
    append_assoc (name_front name) (10 ∷ echo_bytes name false xs) (end_if (begun_after false xs)) ∙ ap (λ (ys : List ℕ). name_front name ++ 10 ∷ ys) rest ∙ sym (line_then (name_front name) [] (flat_map (echo_line name) (lines_in (part ∷ parts))))

-- by the byte's kind: a carriage return, a line feed, another
by_kind : (name : List ℕ) (b : Bool) (x : ℕ) (xs part : List ℕ) (parts : List (List ℕ)) (is_return is_feed : Bool) → ((c : Bool) → ending name c xs ≡ shown_of name c (part ∷ parts)) → (if is_return then echo_bytes name b xs else if is_feed then front_if b name ++ 10 ∷ echo_bytes name false xs else (front_if b name ++ seen_byte x ∷ echo_bytes name true xs)) ++ end_if (if is_return then begun_after b xs else if is_feed then begun_after false xs else begun_after true xs) ≡ shown_of name b (cond is_return (part ∷ parts) (cond is_feed ([] ∷ part ∷ parts) ((x ∷ part) ∷ parts)))
by_kind name b x xs part parts true is_feed rest = rest b
by_kind name b x xs part parts false true rest = feed_of_part name b xs part parts (rest false)
by_kind name b x xs part parts false false rest = byte_of_part name b x xs part parts (rest true)

split_more : (x : ℕ) (kept part : List ℕ) (parts : List (List ℕ)) (is_return : Bool) → slice_split is_feed_byte kept ≡ part ∷ parts → slice_split is_feed_byte (cond (not is_return) (x ∷ kept) kept) ≡ cond is_return (part ∷ parts) (cond (x == 10) ([] ∷ part ∷ parts) ((x ∷ part) ∷ parts))
split_more x kept part parts true is = is
split_more x kept part parts false is = ap (λ (ps : List (List ℕ)). cond (x == 10) ([] ∷ ps) (onto_first x ps)) is

part_by_part : (name : List ℕ) (b : Bool) (bytes : List ℕ) → ending name b bytes ≡ shown_of name b (slice_split is_feed_byte (filter is_kept bytes))
part_by_part name true [] = refl
part_by_part name false [] = refl
part_by_part name b (x ∷ xs) =
    let (part, parts, is) = has_part (filter is_kept xs) in
    by_kind name b x xs part parts (x == 13) (x == 10) (λ c. part_by_part name c xs ∙ ap (shown_of name c) is) ∙ ap (shown_of name b) (sym (split_more x (filter is_kept xs) part parts (x == 13) is))

pub all_pieces : (name bytes : List ℕ) → ending name false bytes ≡ echo_of name bytes
all_pieces name bytes =
    let kept = filter is_kept bytes in
    part_by_part name false bytes ∙ ap (flat_map (echo_line name)) (sym (as_lines (slice_split is_feed_byte kept) (clean_split kept (clean_filtered bytes))))
