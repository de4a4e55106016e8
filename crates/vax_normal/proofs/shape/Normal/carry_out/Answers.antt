use Rattle.std.proofs.Common.{◌≡◌, sum, take, ap, sym, subst}
use Rattle.std.specs.Prelude.{MatchOption}
use Rattle.vax_table.specs.Effects.{Effect}
use Rattle.vax_normal.specs.Normal.{computed_at_once, counted_down, done_at_once, done_by, quietly}
use Rattle.vax_normal.specs.declared.shape.Shape.{Shape}
use Rattle.vax_normal.proofs.shape.Normal.carry_out.Goals as goal

pub returns-in-Computes : goal.returns-in-Computes
unfolding done_at_once
returns-in-Computes c =
    let n = c.args.self.now in
    let r = c.args.r.now in
    let same : done_at_once n r c.args.psw ≡ computed_at_once c.in-Computes.c n.length r c.args.psw = ap (λ (s : Shape). done_by s n.length r c.args.psw) c.in-Computes.is in
    subst (λ (z : Effect). MatchOption c.carry_out.result (c.carry_out.new.r ≡ r) (λ x. (x.total ≡ sum (take 15 c.carry_out.new.r)) × (z ≡ quietly c.carry_out.new.r x.psw))) (sym same) c.carry_out.ensures

pub returns-in-CountsDown : goal.returns-in-CountsDown
unfolding done_at_once
returns-in-CountsDown c =
    let n = c.args.self.now in
    let r = c.args.r.now in
    let same : done_at_once n r c.args.psw ≡ counted_down c.in-CountsDown.c c.in-CountsDown.jump n.length r c.args.psw = ap (λ (s : Shape). done_by s n.length r c.args.psw) c.in-CountsDown.is in
    subst (λ (z : Effect). MatchOption c.carry_out-in-CountsDown.result (c.carry_out-in-CountsDown.new.r ≡ r) (λ x. (x.total ≡ sum (take 15 c.carry_out-in-CountsDown.new.r)) × (z ≡ quietly c.carry_out-in-CountsDown.new.r x.psw))) (sym same) c.carry_out-in-CountsDown.ensures
