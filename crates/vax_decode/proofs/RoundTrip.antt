-- Each answer of a decoder comes wherever it may.
use Rattle.std.proofs.Common.{◌≡◌, ℕ, ◌<◌, List, [], ◌++◌, length, refl, sym, ap, ◌∙◌, append_assoc, append-nil, arith, length-append}
use Rattle.vax_table.specs.Spelling.{view}
use Rattle.vax_table.proofs.OneSpelling.{rest_same}
use Rattle.vax_decode.specs.declared.outcome.Decode.TheVariants.{Done, NeedMore, Fault}
use Rattle.vax_decode.specs.declared.outcome.DecodeFault.TheVariants.{Opcode, Addressing}
use Rattle.vax_decode.specs.Decoding.{IsRoundTrip, WantsMore}

pub some_left : (xs ys : List ℕ) → 0 < length ys → xs ++ ys ≡ [] → ⊥
some_left xs ys some e = let none = ap (length {A = ℕ}) e in omega (arith, length-append {A = ℕ})

pub round_trip : IsRoundTrip
round_trip bytes rest d (Done e) p q =
    let same = rest_same q.0 bytes q.1 rest (view e) d q.3 p (sym q.2) in same.0
round_trip bytes rest d NeedMore p q =
    let same = rest_same bytes ((bytes ++ rest) ++ q.0) (rest ++ q.0) [] d q.1 p q.3 (sym (append-nil ((bytes ++ rest) ++ q.0) ∙ append_assoc bytes rest q.0)) in
    absurd (some_left rest q.0 q.2 same.1)
round_trip bytes rest d (Fault Opcode) p q = q.0.front bytes rest d refl p
round_trip bytes rest d (Fault Addressing) p q = q.0.front bytes rest d refl p

pub wants_more : WantsMore
wants_more b tail d (Done e) some p q =
    let same = rest_same q.0 (b ++ tail) (q.1 ++ tail) [] (view e) d q.3 p (sym (append-nil (b ++ tail) ∙ (ap (λ (ys : List ℕ). ys ++ tail) q.2 ∙ append_assoc q.0 q.1 tail))) in
    absurd (some_left q.1 tail some same.1)
wants_more b tail d NeedMore some p q = refl
wants_more b tail d (Fault Opcode) some p q = absurd (q.0.begin tail d p)
wants_more b tail d (Fault Addressing) some p q = absurd (q.0.begin tail d p)
