-- Whole instructions: reading is exact.
use Rattle.std.proofs.Common.{◌≡◌, ◌≢◌, ℕ, suc, ◌+◌, ◌-◌, ◌<◌, true, false, eqb, List, [], ◌∷◌, ◌++◌, length, take, Option, Some, None, IsSome, refl, sym, ap, ◌∙◌, subst, inl, ⊎_elim, eq-eqb, append-nil, arith, length-append}
use Rattle.std.proofs.lemmas.Bool.{ne_eqb}
use Rattle.vax_table.specs.declared.decoded.Spec.{Spec}
use Rattle.vax_table.specs.Rows.{OpcodeEntry, row_of}
use Rattle.vax_table.specs.Spelling.{AreBytes, Operands, Instruction, Spells, wait, of_row, SpellsNone}
use Rattle.vax_table.specs.Reading.{AtFront, Got, More, Bad, operands_at, Decoding, Whole, Unknown, Reserved, answer_of, by_row, wait_at, decoded_at, IsAnswerFor, IsExact}
use Rattle.vax_table.proofs.Tests.{if_both, eq_of, ne_of}
use Rattle.vax_table.proofs.Operands.{ReadsAll, operands_read, operands_again, operands_bad}

lengths : (all front rest : List ℕ) → all ≡ front ++ rest → length all - length rest ≡ length front
lengths all front rest e = let g : length all ≡ length (front ++ rest) = ap length e in omega (arith, length-append {A = ℕ})

pub spelled_again : (front rest : List ℕ) (d : Instruction) → Spells front d → decoded_at (front ++ rest) ≡ Whole d rest
unfolding decoded_at
spelled_again front rest d (wait e g) = rw (e, g)
spelled_again front rest d (of_row entry opcode bytes specs b n r o e g) =
    let other : eqb opcode 0xfd ≡ false = ne_eqb opcode 0xfd n in
    let read : operands_at entry.operands (bytes ++ rest) ≡ Got specs rest = operands_again entry.operands bytes specs rest o in
    let len : length (bytes ++ rest) - length rest ≡ length bytes = lengths (bytes ++ rest) bytes rest refl in
    let size : length front ≡ suc (length bytes) = ap length e in
    let size1 : length front ≡ 1 + length bytes = omega arith in
    rw (g, size1) (rw e (rw (other, r, read, len)))

spells_none : (b : List ℕ) (o : Decoding) → ((d : Instruction) (rest : List ℕ) → o ≢ Whole d rest) → ((ys : List ℕ) → decoded_at (b ++ ys) ≡ o) → SpellsNone b
spells_none b o n stays = record {
  front = λ front rest d e m. n d rest (sym (stays []) ∙ (ap decoded_at (append-nil b ∙ e) ∙ spelled_again front rest d m));
  begin = λ tail d m. n d [] (sym (stays tail) ∙ (ap decoded_at (sym (append-nil (b ++ tail))) ∙ spelled_again (b ++ tail) [] d m));
}

head_one : (c : ℕ) (xs : List ℕ) → c ∷ xs ≡ 1 ∷ [] → c ≡ 1
head_one c xs e = cc

none_some : (o : Option OpcodeEntry) → o ≡ None → IsSome o → ⊥
none_some None e k = cc
none_some (Some x) e k = cc

some_known : (o : Option OpcodeEntry) (e : OpcodeEntry) → o ≡ Some e → IsSome o
some_known None e r = cc
some_known (Some x) e r = refl

unknown_none : (b : List ℕ) → ((ys : List ℕ) → decoded_at (b ++ ys) ≡ Unknown) → SpellsNone b
unknown_none b stays = spells_none b Unknown (λ d rest e. cc) stays

reserved_none : (b : List ℕ) → ((ys : List ℕ) → decoded_at (b ++ ys) ≡ Reserved) → SpellsNone b
reserved_none b stays = spells_none b Reserved (λ d rest e. cc) stays

wait_tells : (b : ℕ) (bs : List ℕ) → b ≡ 0xfd → IsAnswerFor (b ∷ bs) (wait_at bs)
unfolding decoded_at
wait_tells b [] e = (1 ∷ [], record { opcode = 0xfd; wait = true; length = 2; specs = [] }, omega arith, wait (ap (λ c. c ∷ (1 ∷ [])) e) refl)
wait_tells b (c ∷ cs) e =
    if_both (IsAnswerFor (b ∷ (c ∷ cs))) (eqb c 1) _ _
    (λ t. let one : c ≡ 1 = eq_of _ _ t in (0xfd ∷ (1 ∷ []), rw (e, one), wait refl refl))
    (λ t. let yes : eqb b 0xfd ≡ true = eq-eqb b 0xfd e in let ne : c ≢ 1 = ne_of _ _ t in
    (unknown_none (b ∷ (c ∷ cs)) (λ ys. rw (yes, t)), λ k. ⊎_elim (λ p. p.0 e) (λ p. ne (head_one c (take 0 cs) p.1)) k))

operands_tell : (b : ℕ) (bs : List ℕ) → b < 256 → AreBytes bs → b ≢ 0xfd → (e : OpcodeEntry) → row_of b ≡ Some e → (o : AtFront (List Spec)) → operands_at e.operands bs ≡ o → IsAnswerFor (b ∷ bs) (answer_of b bs o)
unfolding decoded_at
operands_tell b bs below h n e r (Got ss rest) g =
    let m : (front : List ℕ) × (bs ≡ front ++ rest) × Operands e.operands front ss = subst (λ o. ReadsAll e.operands bs o) g (operands_read e.operands bs h) in
    let len : length bs - length rest ≡ length m.0 = lengths bs m.0 rest m.1 in
    let size : 1 + (length bs - length rest) ≡ length (b ∷ m.0) = omega arith in
    (b ∷ m.0, ap (λ xs. b ∷ xs) m.1, of_row e b m.0 ss below n r m.2 refl (ap (λ k. record { opcode = b; wait = false; length = k; specs = ss }) size))
operands_tell b bs below h n e r More g =
    let m : (tail : List ℕ) × (ss : List Spec) × (0 < length tail) × Operands e.operands (bs ++ tail) ss = subst (λ o. ReadsAll e.operands bs o) g (operands_read e.operands bs h) in
    (m.0, record { opcode = b; wait = false; length = length ((b ∷ bs) ++ m.0); specs = m.1 }, m.2, of_row e b (bs ++ m.0) m.1 below n r m.3 refl refl)
operands_tell b bs below h n e r Bad g =
    let other : eqb b 0xfd ≡ false = ne_eqb b 0xfd n in
    (reserved_none (b ∷ bs) (λ ys. rw (other, r, operands_bad e.operands bs ys h g)), inl (n, some_known (row_of b) e r))

row_tells : (b : ℕ) (bs : List ℕ) → b < 256 → AreBytes bs → b ≢ 0xfd → (o : Option OpcodeEntry) → row_of b ≡ o → IsAnswerFor (b ∷ bs) (by_row b bs o)
unfolding decoded_at
row_tells b bs below h n None r =
    let other : eqb b 0xfd ≡ false = ne_eqb b 0xfd n in
    (unknown_none (b ∷ bs) (λ ys. rw (other, r)), λ k. ⊎_elim (λ p. none_some (row_of b) r p.1) (λ p. n p.0) k)
row_tells b bs below h n (Some e) r = operands_tell b bs below h n e r (operands_at e.operands bs) refl

answer_tells : (b : List ℕ) → AreBytes b → IsAnswerFor b (decoded_at b)
unfolding decoded_at
answer_tells [] h = (0xfd ∷ (1 ∷ []), record { opcode = 0xfd; wait = true; length = 2; specs = [] }, omega arith, wait refl refl)
answer_tells (b ∷ bs) h =
    if_both (IsAnswerFor (b ∷ bs)) (eqb b 0xfd) _ _
    (λ t. wait_tells b bs (eq_of _ _ t))
    (λ t. row_tells b bs h.0 h.1 (ne_of _ _ t) (row_of b) refl)

pub reading_exact : IsExact
reading_exact = record { tells = answer_tells; reads = spelled_again }
