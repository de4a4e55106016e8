use Rattle.std.proofs.Common.{◌≡◌, ℕ, ◌+◌, ◌*◌, ◌/◌, ◌%◌, ◌^◌, ◌<◌, ◌≤◌, Ok, refl, ap, subst, sym, ◌∙◌, arith}
use Rattle.vax_arch.specs.declared.mode.Intent.TheVariants.{Read}
use Rattle.vax_hw.specs.Machine.{Machine}
use Rattle.vax_paged.specs.Paged.{placed}
use Rattle.vax_cpu.proofs.state.State.place_here.Goals as goal

-- the place of a byte of an aligned page, by how far it is in it
offset_is : (start va offset end : ℕ) → start % 512 ≡ 0 → start < 2 ^ 32 → va ≡ (start + offset) % 2 ^ 32 → offset < end → end ≤ 512 → offset ≡ va % 512
offset_is start va offset end aligned low e inside most = omega (arith, aligned, low, e, inside, most)

start_is : (start va offset end : ℕ) → start % 512 ≡ 0 → start < 2 ^ 32 → va ≡ (start + offset) % 2 ^ 32 → offset < end → end ≤ 512 → start ≡ 512 * (va / 512)
start_is start va offset end aligned low e inside most = omega (arith, aligned, low, e, inside, most)

pub returns-in-Some-clause-is : goal.returns-in-Some-clause-is
returns-in-Some-clause-is c =
    let (size, some, most, known) = c.self.invariant in
    let memory = c.self.inside.memory.items in
    let w = c.self.inside.world in
    let h = c.self.inside.known.here in
    let (aligned, here) = (known memory (λ at g. refl)).here in
    let inside : c.in-Some.offset < c.args.end = c.in-Some.ensures.inside in
    let start : h.start ≡ 512 * (c.args.va / 512) = start_is h.start c.args.va c.in-Some.offset c.args.end aligned c.offset_here.ensures.low c.in-Some.ensures.offset inside c.requires in
    let offset : c.in-Some.offset ≡ c.args.va % 512 = offset_is h.start c.args.va c.in-Some.offset c.args.end aligned c.offset_here.ensures.low c.in-Some.ensures.offset inside c.requires in
    let is = here w.psl.0 c.args.va c.in-Some.ensures.high.1 (omega arith) start c.in-Some.ensures.high.0 in
    subst (λ (m : Machine). placed m.memory m.world Read c.args.va ≡ Ok (h.first + c.in-Some.offset)) c.self.view_is (is ∙ ap (λ (k : ℕ). Ok (h.first + k)) (sym offset))

pub returns-in-Some-clause-inside : goal.returns-in-Some-clause-inside
returns-in-Some-clause-inside c =
    let (size, some, most, known) = c.self.invariant in
    let h = c.self.inside.known.here in
    let (aligned, here) = (known c.self.inside.memory.items (λ at g. refl)).here in
    let offset : c.in-Some.offset ≡ c.args.va % 512 = offset_is h.start c.args.va c.in-Some.offset c.args.end aligned c.offset_here.ensures.low c.in-Some.ensures.offset c.in-Some.ensures.inside c.requires in
    omega (arith, offset, c.in-Some.ensures.inside)
