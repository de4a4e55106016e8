use Rattle.std.proofs.Common.{◌≡◌, ℕ, List, Option, Some, None, IfSome, sym, subst}
use Rattle.vax_table.specs.Operations.{target_of}
use Rattle.vax_table.specs.declared.act.Dest.TheVariants.{Nowhere}
use Rattle.vax_table.specs.declared.meaning.Target.{Target}
use Rattle.vax_table.specs.declared.meaning.Target.TheVariants as targets
use Rattle.vax_operand.specs.declared.prepared.Operand.{Operand}
use Rattle.vax_normal.specs.Touched.{IsClaimedAt, IsPutIn, all_had}
use Rattle.vax_normal.specs.declared.shape.Reach.{Reach}
use Rattle.vax_normal.proofs.touches.put_by.Goals as goal

put_nowhere : (o : Option ℕ) (to : Target) (xs : List Operand) (w : Option Reach) → to ≡ targets.CodesOnly → IfSome o (λ n. (r : List ℕ) → IsPutIn n w Nowhere r) →
    IfSome o (λ n. (v u at : ℕ) (r q : List ℕ) → IsClaimedAt w r at → IsPutIn n w (target_of to (all_had v u at xs q)) r)
put_nowhere None to xs w is h = tt
put_nowhere (Some n) to xs w is h = λ v u at r q claimed. subst (λ (t : Target). IsPutIn n w (target_of t (all_had v u at xs q)) r) (sym is) (h r)

pub returns-in-CodesOnly : goal.returns-in-CodesOnly
returns-in-CodesOnly c = put_nowhere c.nowhere.result c.args.target c.args.operands.now c.args.writes.now c.in-CodesOnly.is c.nowhere.ensures
