use Rattle.std.proofs.Common.{◌≡◌, length, Ok, ap, ◌∙◌, arith}
use Rattle.vax_table.specs.Effects.{Effect}
use Rattle.vax_normal.proofs.Storing.{found_is}
use Rattle.vax_normal.proofs.shape.InMemory.find.Goals as goal

pub returns-in-None : goal.returns-in-None
returns-in-None g c = λ d normal.
    let n = c.args.self.now in
    let r = c.args.r.now in
    let sixteen : length r ≡ 16 = omega (arith, c.told-r) in
    let v = c.in_ok-read.read in
    let u = c.args.claimed in
    normal (g.S.Space.space c.args.space.now) r c.args.psw v u sixteen c.in_ok-read.ensures c.requires
    ∙ ap (λ (e : Effect). Ok e) (found_is n v u r c.args.psw c.value-first.result c.value-second.result c.alu-x.result c.value-first.ensures c.value-second.ensures c.alu-x.ensures c.in-None.is)
