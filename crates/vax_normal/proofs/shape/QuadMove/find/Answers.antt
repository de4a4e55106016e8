use Rattle.std.proofs.Common.{◌≡◌, ℕ, length, Ok, ap, sym, ◌∙◌, arith}
use Rattle.vax_normal.specs.QuadMove.{quad_from, quad_moved}
use Rattle.vax_normal.specs.declared.shape.QuadSource.{QuadSource}
use Rattle.vax_normal.proofs.shape.QuadMove.find.Goals as goal

pub returns-in-Constant : goal.returns-in-Constant
returns-in-Constant g c = λ u psw claimed d normal.
    let n = c.args.self.now in
    let r = c.args.r.now in
    let sixteen : length r ≡ 16 = omega (arith, c.told-r) in
    let v = c.in_ok-read.read in
    normal (g.S.Space.space c.args.space.now) r psw v u sixteen c.in_ok-read.ensures claimed
    ∙ ap (λ (y : QuadSource). Ok (quad_moved n (quad_from y v r) r psw)) c.in-Constant.is

pub returns-in-Registers : goal.returns-in-Registers
returns-in-Registers g c = λ u psw claimed d normal.
    let n = c.args.self.now in
    let r = c.args.r.now in
    let sixteen : length r ≡ 16 = omega (arith, c.told-r) in
    let v = c.in_ok-read.read in
    normal (g.S.Space.space c.args.space.now) r psw v u sixteen c.in_ok-read.ensures claimed
    ∙ ap (λ (y : QuadSource). Ok (quad_moved n (quad_from y v r) r psw)) c.in-Registers.is
    ∙ ap (λ (x : ℕ). Ok (quad_moved n x r psw)) (sym c.value.ensures)

pub returns-in-Read : goal.returns-in-Read
returns-in-Read g c = λ u psw claimed d normal.
    let n = c.args.self.now in
    let r = c.args.r.now in
    let sixteen : length r ≡ 16 = omega (arith, c.told-r) in
    let v = c.in_ok-read.read in
    normal (g.S.Space.space c.args.space.now) r psw v u sixteen c.in_ok-read.ensures claimed
    ∙ ap (λ (y : QuadSource). Ok (quad_moved n (quad_from y v r) r psw)) c.in-Read.is
