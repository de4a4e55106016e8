use Rattle.std.proofs.Common.{◌≡◌, ◌-◌, ◌^◌, ◌≤◌, refl, ◌∙◌, arith}
use Rattle.vv_base.specs.Width.{size_of}
use Rattle.vax_normal.proofs.Reaching.{decrement_reach, deferred_reach, displaced_reach, increment_reach}
use Rattle.vax_normal.proofs.reach.reach_by.Goals as goal

pub returns-in-Deferred-None : goal.returns-in-Deferred-None
returns-in-Deferred-None c = (refl, λ r. deferred_reach c.args.base (size_of c.args.width) c.args.spec.now r c.in-Deferred-None.is-0 c.in-Deferred-None.is-1)

pub returns-in-Decrement-None : goal.returns-in-Decrement-None
returns-in-Decrement-None c =
    let size = size_of c.args.width in
    let is : c.from-bytes.result ≡ size = c.from-bytes.ensures ∙ c.bytes.ensures.value in
    let some : 1 ≤ c.from-bytes.result = omega (arith, c.from-bytes.ensures, c.bytes.ensures.some) in
    let most : c.from-bytes.result ≤ 8 = omega (arith, c.from-bytes.ensures, c.bytes.ensures.most) in
    let below : 4294967295 - (c.from-bytes.result - 1) ≡ 2 ^ 32 - size = omega (arith, is, some, most) in
    let few : size ≤ 8 = omega (arith, is, most) in
    (refl, λ r. decrement_reach c.args.base size c.args.spec.now r (4294967295 - (c.from-bytes.result - 1)) c.in-Decrement-None.is-0 c.in-Decrement-None.is-1 below few)

pub returns-in-Increment-None : goal.returns-in-Increment-None
returns-in-Increment-None c =
    let size = size_of c.args.width in
    let is : c.from-bytes.result ≡ size = c.from-bytes.ensures ∙ c.bytes.ensures.value in
    let some : 1 ≤ size = omega (arith, is, c.from-bytes.ensures, c.bytes.ensures.some) in
    (refl, λ r. increment_reach c.args.base size c.args.spec.now r c.from-bytes.result c.in-Increment-None.is-0 c.in-Increment-None.is-1 is some)

pub returns-in-Displaced-None : goal.returns-in-Displaced-None
returns-in-Displaced-None c = (refl, λ r. displaced_reach c.args.base (size_of c.args.width) c.args.spec.now r c.in-Displaced-None.offset c.in-Displaced-None.is-0 c.in-Displaced-None.is-1 c.if-offset-ne0.true)
