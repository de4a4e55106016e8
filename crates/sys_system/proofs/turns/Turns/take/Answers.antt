use Rattle.std.proofs.Common.{ℕ, ◌+◌, ◌-◌, ◌∙◌, List, slice_set, ap, arith}
use Rattle.sys_system.proofs.Lists.{set_changed_number}
use Rattle.sys_system.specs.System as systems
use Rattle.sys_system.proofs.turns.Turns.take.Goals as goal

pub returns : goal.returns
returns c =
    let left = c.args.self.now.left.items in
    let place = c.args.slice.guest in
    let steps = c.args.slice.steps in
    let t : List ℕ → systems.Turns = λ xs. record { left = xs; from = place + 1; is_begun = c.args.self.now.is_begun } in
    ap t (ap (λ n. slice_set left place (n - steps)) c.index_mut.ensures.value ∙ set_changed_number (λ n. n - steps) left place c.index_mut.result.now (omega (arith, c.requires.there)))
