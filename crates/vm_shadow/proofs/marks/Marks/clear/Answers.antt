use Rattle.std.proofs.Common.{◌≡◌, ℕ, arith, subst}
use Rattle.vm_shadow.proofs.Sets.{AreCleared, cleared, cleared_more, cleared_none}
use Rattle.vm_shadow.proofs.marks.Marks.clear.Goals as goal

pub loop-at-init : goal.loop-at-init
loop-at-init c = rw (← c.self.view_is) (cleared_none c.args.first c.self.inside.words.items)

pub loop-at-preserved : goal.loop-at-preserved
loop-at-preserved c = cleared_more c.args.first c.loop-at.at c.args.self.now c.loop-at.self-inside.words.items (omega (arith, c.requires.within, c.loop-at-test.true)) c.loop-at.invariant

pub returns : goal.returns
returns c =
    let end : c.loop-at.at ≡ c.args.end = omega (arith, c.requires.order, c.loop-at-test.false, c.loop-at.auto.at-end) in
    cleared c.args.first c.args.end c.args.self.now c.loop-at.self-inside.words.items (subst (λ (x : ℕ). AreCleared c.args.first x c.args.self.now c.loop-at.self-inside.words.items) end c.loop-at.invariant)
