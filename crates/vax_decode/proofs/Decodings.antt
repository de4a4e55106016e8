-- From reading a list of bytes to what a decoder's answer says of them.
use Rattle.std.proofs.Common.{◌≡◌, ℕ, ◌+◌, ◌*◌, ◌≤◌, List, ◌++◌, length, ap, subst, arith, length-append}
use Rattle.vax_table.specs.declared.forms.Form.{Form}
use Rattle.vax_table.specs.declared.decoded.Spec.{Spec}
use Rattle.vax_table.specs.declared.decoded.Decoded.{Decoded}
use Rattle.vax_table.specs.Spelling.{AreBytes, Operands, view, Spells}
use Rattle.vax_table.specs.Reading.{operands_at, Got, Decoding, Whole, Short, Unknown, Reserved, decoded_at, IsAnswerFor}
use Rattle.vax_table.proofs.Operands.{ReadsAll, operands_read}
use Rattle.vax_table.proofs.Lengths.{operands_nine}
use Rattle.vax_table.proofs.Instructions.{reading_exact}
use Rattle.vax_decode.specs.declared.outcome.Decode.{Decode}
use Rattle.vax_decode.specs.declared.outcome.Decode.TheVariants.{Done, NeedMore, Fault}
use Rattle.vax_decode.specs.declared.outcome.DecodeFault.TheVariants.{Opcode, Addressing}
use Rattle.vax_decode.specs.Decoding.{Decodes, IsWhole, IsAnswer}

-- how many bytes the operands took
pub left_over : (fs : List Form) (bs : List ℕ) (ss : List Spec) (rest : List ℕ) → AreBytes bs → operands_at fs bs ≡ Got ss rest → (length rest ≤ length bs) × (length bs ≤ length rest + 9 * length fs)
left_over fs bs ss rest h e =
    let m : (front : List ℕ) × (bs ≡ front ++ rest) × Operands fs front ss = subst (λ o. ReadsAll fs bs o) e (operands_read fs bs h) in
    let whole : length bs ≡ length (m.0 ++ rest) = ap length m.1 in
    let short : length m.0 ≤ 9 * length fs = operands_nine fs m.0 ss m.2 in
    (omega (arith, length-append {A = ℕ}), omega (arith, length-append {A = ℕ}))

done_tells : (b : List ℕ) (d : Decoded) (a : Decoding) → IsAnswerFor b a → IsWhole d a → (front : List ℕ) × (rest : List ℕ) × (b ≡ front ++ rest) × Spells front (view d)
done_tells b d (Whole e rest) t w = (t.0, rest, t.1, subst (Spells t.0) w t.2)
done_tells b d Short t w = absurd w
done_tells b d Unknown t w = absurd w
done_tells b d Reserved t w = absurd w

-- who answers what reading does decodes
pub decodes : (b : List ℕ) (r : Decode) → AreBytes b → IsAnswer r (decoded_at b) → Decodes b r
decodes b (Done d) h a = done_tells b d (decoded_at b) (reading_exact.tells b h) a
decodes b NeedMore h a = subst (IsAnswerFor b) a (reading_exact.tells b h)
decodes b (Fault Opcode) h a = subst (IsAnswerFor b) a (reading_exact.tells b h)
decodes b (Fault Addressing) h a = subst (IsAnswerFor b) a (reading_exact.tells b h)
