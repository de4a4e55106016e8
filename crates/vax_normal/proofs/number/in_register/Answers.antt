use Rattle.std.proofs.Common.{◌≡◌, ◌≢◌, ◌-◌, ◌%◌, ◌^◌, ◌<◌, ℕ, List, bit_and, refl, ap, ◌∙◌, arith, slice_index}
use Rattle.std.proofs.lemmas.Nat.{and_mask}
use Rattle.vv_base.specs.Width.{bits_of}
use Rattle.vv_base.specs.declared.width.Width.{Width}
use Rattle.vv_base.specs.declared.width.Width.TheVariants.{Byte, Word, Long, Quad}
use Rattle.vax_table.specs.Operand.{plus, register_value}
use Rattle.vax_normal.specs.AtHand.{AreAlikeButPc}
use Rattle.vax_normal.proofs.number.in_register.Goals as goal

masked : (x k mask : ℕ) → mask ≡ 2 ^ k - 1 → bit_and x mask ≡ x % 2 ^ k
masked x k mask e = ap (bit_and x) e ∙ and_mask x k

low_number : (w : Width) (n mask : ℕ) (r q : List ℕ) → mask ≡ 2 ^ bits_of w - 1 → w ≢ Quad → n < 15 → AreAlikeButPc r q → register_value w q n % 2 ^ 32 ≡ plus (bit_and (slice_index r n) mask) 0
low_number Byte n mask r q e narrow low alike = let same : slice_index q n ≡ slice_index r n = alike n low in omega (arith, same, masked (slice_index r n) 8 mask e)
low_number Word n mask r q e narrow low alike = let same : slice_index q n ≡ slice_index r n = alike n low in omega (arith, same, masked (slice_index r n) 16 mask e)
low_number Long n mask r q e narrow low alike = let same : slice_index q n ≡ slice_index r n = alike n low in omega (arith, same, masked (slice_index r n) 32 mask e)
low_number Quad n mask r q e narrow low alike = absurd (narrow refl)

pub returns : goal.returns
returns c = λ r q alike. low_number c.args.width c.args.register c.in_ok-mask.mask r q c.in_ok-mask.ensures.0 c.in_ok-mask.ensures.1 c.requires alike
