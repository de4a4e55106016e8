use Rattle.std.proofs.Common.{◌≡◌, ◌<◌, ℕ, List, Option, Some, None, IfSome, get_or, length, sym, subst}
use Rattle.vax_table.specs.Effects.{dest_of}
use Rattle.vax_table.specs.declared.act.Dest.{Dest}
use Rattle.vax_operand.specs.declared.prepared.Operand.{Operand}
use Rattle.vax_normal.specs.Touched.{IsClaimedAt, IsPutIn, all_had, dest_had}
use Rattle.vax_normal.specs.declared.shape.Reach.{Reach}
use Rattle.vax_normal.proofs.Touching.{had_dest}
use Rattle.vax_normal.proofs.touches.put_at.Goals as goal

put_found : (o : Option ℕ) (x : Operand) (xs : List Operand) (i : ℕ) (w : Option Reach) → i < length xs → i < 4 → x ≡ get_or xs i x →
    IfSome o (λ n. (r : List ℕ) (at : ℕ) → IsClaimedAt w r at → IsPutIn n w (dest_had at x.kind x.spec.reg) r) →
    IfSome o (λ n. (v u at : ℕ) (r q : List ℕ) → IsClaimedAt w r at → IsPutIn n w (dest_of (all_had v u at xs q) i) r)
put_found None x xs i w low few is h = tt
put_found (Some n) x xs i w low few is h = λ v u at r q c. subst (λ (d : Dest). IsPutIn n w d r) (sym (had_dest q v u at i xs x low few is)) (h r at c)

pub returns : goal.returns
returns c = put_found c.put_of.result c.index-operands-i.result c.args.operands.now c.args.i c.args.writes.now c.if-i-operands.false c.requires c.index-operands-i.is c.put_of.ensures
