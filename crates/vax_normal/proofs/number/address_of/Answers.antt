use Rattle.std.proofs.Common.{◌≡◌, ◌+◌, ◌%◌, ◌^◌, ℕ, List, Option, Some, None, IfSome, ap, ◌∙◌, arith, slice_index}
use Rattle.vv_base.specs.Width.{size_of}
use Rattle.vv_base.specs.declared.width.Width.{Width}
use Rattle.vax_table.specs.Operand.{indexed_by, place}
use Rattle.vax_table.specs.declared.decoded.Spec.{Spec}
use Rattle.vax_operand.specs.declared.kind.Base.{Base}
use Rattle.vax_operand.specs.declared.kind.Kind.TheVariants.{Address}
use Rattle.vax_normal.specs.AtHand.{AreAlikeButPc, base_at_hand, value_at_hand}
use Rattle.vax_normal.specs.Normal.{number_by}
use Rattle.vax_normal.specs.declared.shape.Number.{Number}
use Rattle.vax_normal.proofs.number.address_of.Goals as goal

-- without an index it is the base's
unindexed : (b : Base) (w : Width) (s : Spec) (q : List ℕ) → s.index ≡ None → value_at_hand (Address b) w s q ≡ base_at_hand b s.reg q
unindexed b w s q none = ap (λ (i : Option ℕ). (indexed_by (size_of w) i (place (base_at_hand b s.reg q) q)).at) none

by_offset : (o : Option Number) (b : Base) (w : Width) (s : Spec) (k : ℕ) → s.index ≡ None → ((q : List ℕ) → base_at_hand b s.reg q % 2 ^ 32 ≡ (slice_index q s.reg + k) % 2 ^ 32) →
    IfSome o (λ n. (r q : List ℕ) → AreAlikeButPc r q → (slice_index q s.reg + k) % 2 ^ 32 ≡ number_by n r) → IfSome o (λ n. (r q : List ℕ) → AreAlikeButPc r q → value_at_hand (Address b) w s q % 2 ^ 32 ≡ number_by n r)
by_offset None b w s k none is h = tt
by_offset (Some n) b w s k none is h = λ r q alike. ap (λ (m : ℕ). m % 2 ^ 32) (unindexed b w s q none) ∙ is q ∙ h r q alike

pub returns-in-Absolute-None : goal.returns-in-Absolute-None
returns-in-Absolute-None c = λ r q alike.
    let s = c.args.spec.now in
    let there : value_at_hand (Address c.args.base) c.args.width s q ≡ c.in-Absolute-None.address = unindexed c.args.base c.args.width s q c.in-Absolute-None.is-1 ∙ ap (λ (z : Base). base_at_hand z s.reg q) c.in-Absolute-None.is-0 in
    omega (arith, there, c.constant.ensures r)

pub returns-in-Deferred-None : goal.returns-in-Deferred-None
returns-in-Deferred-None c =
    let s = c.args.spec.now in
    by_offset c.offset_from.result c.args.base c.args.width s 0 c.in-Deferred-None.is-1
    (λ q. let is : base_at_hand c.args.base s.reg q ≡ slice_index q s.reg = ap (λ (z : Base). base_at_hand z s.reg q) c.in-Deferred-None.is-0 in omega (arith, is)) c.offset_from.ensures

pub returns-in-Displaced-None : goal.returns-in-Displaced-None
returns-in-Displaced-None c =
    let s = c.args.spec.now in
    let k = c.in-Displaced-None.offset in
    by_offset c.offset_from-in-Displaced-None.result c.args.base c.args.width s k c.in-Displaced-None.is-1
    (λ q. let is : base_at_hand c.args.base s.reg q ≡ (slice_index q s.reg + k) % 2 ^ 32 = ap (λ (z : Base). base_at_hand z s.reg q) c.in-Displaced-None.is-0 in omega (arith, is)) c.offset_from-in-Displaced-None.ensures
