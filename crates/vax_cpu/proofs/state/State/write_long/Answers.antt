use Rattle.std.proofs.Common.{◌≡◌, ◌+◌, ◌*◌, ◌≤◌, ℕ, List, length, sym, ◌∙◌, subst, ap, arith}
use Rattle.std.proofs.lemmas.List.{with_items_is}
use Rattle.vv_base.specs.Bytes.{long_bytes, overwritten}
use Rattle.vax_hw.specs.Machine.{Machine, machine_tables}
use Rattle.vax_paged.specs.Known.{AreAllKnown, IsSameBut}
use Rattle.vax_paged.proofs.Watching.{written_elsewhere}
use Rattle.vax_cpu.proofs.state.State.write_long.Goals as goal

pub invariant_of-self : goal.invariant_of-self
invariant_of-self c =
    let (size, some, most, known) = c.self.invariant in
    let before = c.self.inside.memory.items in
    let after = c.put_u32.new.b in
    let place = c.args.place in
    let t = machine_tables c.self.inside.world in
    let long : length after ≡ c.self.inside.memory.len = c.put_u32.auto.b ∙ c.deref_mut.ensures.len in
    let seen : length before ≡ length c.args.self.now.memory = ap (λ (m : Machine). length m.memory) c.self.view_is in
    let room : place + 4 ≤ length before = omega (arith, seen, c.requires) in
    let written : after ≡ overwritten before place (long_bytes c.args.v) = c.put_u32.ensures ∙ ap (λ (xs : List ℕ). overwritten xs place (long_bytes c.args.v)) c.deref_mut.ensures.value in
    let same : IsSameBut place (place + 3) before after = subst (IsSameBut place (place + 3) before) (sym written) (written_elsewhere before place c.args.v room (omega arith)) in
    let all : AreAllKnown after t c.stored.new.self = c.stored.ensures before after t known same in
    let fits : length after ≡ 512 * c.self.inside.pages = c.put_u32.auto.b ∙ ap (length {A = ℕ}) c.deref_mut.ensures.value ∙ size in
    rw (with_items_is c.self.inside.memory after long) (fits, some, most, all)
