use Rattle.std.proofs.Common.{◌≡◌, ◌<◌, ◌≤◌, ◌^◌, ◌*◌, ◌+◌, ◌%◌, ℕ, arith, add-one, pow_mono}
use Rattle.std.proofs.Math.Nat.{mod-le, pow-suc}
use Rattle.vv_class.proofs.scan.Half.kept.Goals as goal

room : (cats least number shift : ℕ) → cats < 2 ^ least → least ≤ number → shift ≡ number → cats + 1 * 2 ^ shift % 2 ^ 64 < 2 ^ (number + 1)
room cats least number shift below at same =
    let bit : 2 ^ shift ≡ 2 ^ number = rw same in
    let up : 2 ^ (number + 1) ≡ 2 ^ number * 2 = rw (add-one number) (pow-suc 2 number) in
    let cut : 1 * 2 ^ shift % 2 ^ 64 ≤ 1 * 2 ^ shift = mod-le (1 * 2 ^ shift) (2 ^ 64) in
    omega (arith, pow_mono at, up, bit, cut, below)

pub returns-clause-room : goal.returns-clause-room
returns-clause-room c = room _ c.args.self.now.least c.args.self.now.number c.from.result c.requires.room c.requires.least (omega (arith, c.from.ensures))
