use Rattle.std.proofs.Common.{◌≡◌, ◌∙◌, ◌+◌, ◌*◌, arith, sym}
use Rattle.vm_shadow.proofs.Storing.{long_from}
use Rattle.vm_exception.proofs.writes.long_of.Goals as goal

pub returns : goal.returns
returns c =
    let a = c.args.first in let b = c.args.second in let d = c.args.third in let e = c.args.fourth in
    let value : c.from_le_bytes.result ≡ a + 256 * b + 65536 * d + 16777216 * e = c.from_le_bytes.ensures ∙ sym (long_from a b d e) in
    (omega (arith, value, c.ranges.first.fits), omega (arith, value, c.ranges.first.fits, c.ranges.second.fits), omega (arith, value, c.ranges.first.fits, c.ranges.second.fits, c.ranges.third.fits), omega (arith, value, c.ranges.first.fits, c.ranges.second.fits, c.ranges.third.fits, c.ranges.fourth.fits))
