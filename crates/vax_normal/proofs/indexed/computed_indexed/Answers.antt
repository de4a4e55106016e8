use Rattle.std.proofs.Common.{ℕ, None, refl}
use Rattle.vax_normal.specs.Touched.{all_had}
use Rattle.vax_normal.specs.Indexed.{indexed_address}
use Rattle.vax_normal.proofs.Indexing.{computed_stored}
use Rattle.vax_normal.proofs.indexed.computed_indexed.Goals as goal

pub returns-clause-is : goal.returns-clause-is
returns-clause-is c = (
  c.in_ok-reach.ensures,
  λ m psw r q room moved gone.
      let at : ℕ = indexed_address c.in_ok-reach.reach r in
      let like = c.claimed_of.ensures at in
      let numbers = c.in_ok-first.ensures (record { reads = None; writes = None }) m m at r q (room, moved, gone) in
      computed_stored _ c.args.inputs c.args.target m r like.0 c.claimed_of.result (all_had m m at c.args.operands.now q) psw numbers.0 numbers.1 (c.in_ok-register.ensures m m at like.0 q like.1) like.2 (c.if-not-has_room.ensures refl) gone,
)
