-- The lines and the names that are listed so far.
use Rattle.std.specs.Str.Lines.{lines}
use Rattle.std.proofs.Common.{◌≡◌, ◌==◌, ℕ, ◌+◌, true, List, ◌∷◌, ◌++◌, length, take, drop, Option, refl, sym, ap, ◌∙◌, append_assoc, append-nil}
use Rattle.vasm_text.specs.Asm.{source_line_size}
use Rattle.vasm.specs.Listing.{said_in, listed_line, listed_lines, listed_name, listed_names}
use Rattle.vasm.proofs.WrittenLines.{nothing}

pub line_listed : (at size : ℕ) (bytes own later old new whole rest text : List ℕ) (others : List (List ℕ)) → old ++ listed_lines at bytes (lines rest) ≡ whole → lines rest ≡ text ∷ others
    → size ≡ source_line_size (said_in text) → own ≡ take size bytes → later ≡ drop size bytes → new ≡ old ++ listed_line at own text → new ++ listed_lines (at + size) later others ≡ whole
line_listed at size bytes own later old new whole rest text others is cut sized front back put =
    rw (put, front, back, sized)
    (append_assoc old (listed_line at (take (source_line_size (said_in text)) bytes) text) (listed_lines (at + source_line_size (said_in text)) (drop (source_line_size (said_in text)) bytes) others)
    ∙ ap (λ (ls : List (List ℕ)). old ++ listed_lines at bytes ls) (sym cut) ∙ is)

pub name_listed : (at size : ℕ) (old new whole rest text : List ℕ) (others : List (List ℕ)) (label : Option (List ℕ)) → old ++ listed_names at (lines rest) ≡ whole → lines rest ≡ text ∷ others
    → size ≡ source_line_size (said_in text) → label ≡ (said_in text).label → new ≡ old ++ listed_name at label → new ++ listed_names (at + size) others ≡ whole
name_listed at size old new whole rest text others label is cut sized labelled put =
    rw (put, labelled, sized)
    (append_assoc old (listed_name at (said_in text).label) (listed_names (at + source_line_size (said_in text)) others)
    ∙ ap (λ (ls : List (List ℕ)). old ++ listed_names at ls) (sym cut) ∙ is)

pub all_listed : (at : ℕ) (left shown names whole_lines whole_names rest : List ℕ) → true ≡ (length rest == 0) → shown ++ listed_lines at left (lines rest) ≡ whole_lines → names ++ listed_names at (lines rest) ≡ whole_names
    → shown ++ names ≡ whole_lines ++ whole_names
all_listed at left shown names whole_lines whole_names rest none lined named =
    let of_lines : shown ≡ whole_lines = sym (append-nil shown) ∙ ap (λ (r : List ℕ). shown ++ listed_lines at left (lines r)) (sym (nothing rest none)) ∙ lined in
    let of_names : names ≡ whole_names = sym (append-nil names) ∙ ap (λ (r : List ℕ). names ++ listed_names at (lines r)) (sym (nothing rest none)) ∙ named in
    rw (of_lines, of_names) refl
