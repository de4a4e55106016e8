use Rattle.std.proofs.Common.{◌≡◌, ◌^◌, not, eqb, false, pos, ◌<ℤ◌, ◌≤ℤ◌, FitsSigned, of_z, w32, arith, rules}
use Rattle.std.specs.Prelude.{unsigned_abs}
use Rattle.std.specs.Int.{int_div_euclid}
use Rattle.std.proofs.lemmas.Int.{to_z-of_z, ints}
use Rattle.vax_table.specs.Arithmetic.{exactly, shifted, valued}
use Rattle.vax_alu.proofs.Shifts.{shifted_down, shifted_up}
use Rattle.vax_alu.proofs.compute.shift.Goals as goal

pub returns-then-count-lt0 : goal.returns-then-count-lt0
returns-then-count-lt0 c =
    let below : c.args.count <ℤ pos 0 = omega (arith, ints) in
    let by : c.unsigned_abs-by.result ≡ unsigned_abs c.args.count = search (rules, ints, to_z-of_z) in
    let down : int_div_euclid c.signed-x.result (pos (2 ^ c.unsigned_abs-by.result)) ≡ shifted c.signed-x.result c.args.count = shifted_down c.signed-x.result c.args.count c.unsigned_abs-by.result below by in
    grind (arith, to_z-of_z)

pub returns-else-by-lt32 : goal.returns-else-by-lt32
returns-else-by-lt32 c =
    let fits : FitsSigned w32 c.signed-x.result = search rules in
    let above : pos 0 ≤ℤ c.args.count = omega (arith, ints) in
    let by : c.unsigned_abs-by.result ≡ unsigned_abs c.args.count = search (rules, ints, to_z-of_z) in
    let up : exactly c.args.w (shifted c.signed-x.result c.args.count) false ≡ valued c.args.w 0 (not (eqb (of_z w32 c.signed-x.result) 0)) false = shifted_up c.args.w c.signed-x.result c.args.count c.unsigned_abs-by.result c.requires fits above by c.if-by-lt32.false in
    grind (arith, to_z-of_z)
