use Rattle.std.proofs.Common.{◌≡◌, ◌<◌, ◌/◌, ◌*◌, ◌%◌, ◌^◌, ◌≤◌, ℕ, List, arith, length, slice_index, get_or, subst, ap, ◌∙◌}
use Rattle.std.proofs.Math.Nat.{div-le_self}
use Rattle.std.proofs.lemmas.List.{get_or_default}
use Rattle.vm_shadow.proofs.Sets.{free_more, free_none, next_here, next_none}
use Rattle.vm_shadow.proofs.marks.Marks.next.Goals as goal

word_is : (words now : List ℕ) (at end word : ℕ) → words ≡ now → at < end → end ≤ 64 * length now → word ≡ get_or words (at / 64) word → word ≡ slice_index now (at / 64)
word_is words now at end word e h k is = is ∙ get_or_default words (at / 64) word 0 (omega (arith, ap length e)) ∙ ap (λ (x : List ℕ). slice_index x (at / 64)) e

below : (w k : ℕ) → w < 2 ^ 64 → w / 2 ^ k < 2 ^ 64
below w k h = let l : w / 2 ^ k ≤ w = div-le_self w (2 ^ k) in omega arith

pub loop-at-init : goal.loop-at-init
loop-at-init c = free_none _ _

pub loop-at-preserved : goal.loop-at-preserved
loop-at-preserved c = free_more c.args.from c.loop-at.at _ c.args.self.now (ap (λ (w : ℕ). w / 2 ^ (c.loop-at.at % 64)) (word_is c.self.inside.words.items c.args.self.now c.loop-at.at c.args.end c.index.result.now c.self.view_is c.loop-at-test.true c.requires.within c.index.ensures)) c.if-rest-ne0.false c.loop-at.invariant

pub returns-then-rest-ne0 : goal.returns-then-rest-ne0
returns-then-rest-ne0 c =
    let word : c.index.result.now ≡ slice_index c.args.self.now (c.loop-at.at / 64) = word_is c.self.inside.words.items c.args.self.now c.loop-at.at c.args.end c.index.result.now c.self.view_is c.loop-at-test.true c.requires.within c.index.ensures in
    let small : c.index.result.now < 2 ^ 64 = omega arith in
    next_here c.args.from c.loop-at.at c.args.end _ c.min.result c.args.self.now (ap (λ (w : ℕ). w / 2 ^ (c.loop-at.at % 64)) word) c.if-rest-ne0.true (below c.index.result.now (c.loop-at.at % 64) small) (subst (λ x. x < 2 ^ 64) word small) c.loop-at-test.true c.min.ensures c.loop-at.invariant

pub returns : goal.returns
returns c = next_none c.args.from c.loop-at.at c.args.end c.args.self.now c.requires.order c.loop-at-test.false c.loop-at.invariant
