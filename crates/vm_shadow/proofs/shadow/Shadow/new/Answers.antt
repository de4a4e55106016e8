use Rattle.std.proofs.Common.{arith, ◌≡◌, ◌∙◌, ◌*◌, ap, length, replicate, [], ◌∷◌, false}
use Rattle.vm_shadow.specs.Marks.{flags_of}
use Rattle.vm_shadow.proofs.Ways.{flags_size}
use Rattle.vm_shadow.proofs.Making.{makes, makes_told}
use Rattle.vm_slots.specs.Held.{Held, others_held}
use Rattle.vm_slots.specs.declared.context.Context.{Context}
use Rattle.vm_shadow.proofs.shadow.Shadow.new.Goals as goal

pub returns-clause-ok : goal.returns-clause-ok
returns-clause-ok g c =
    let before = g.H.Hardware.machine c.args.machine.now in
    let own_context = c.context_of-context.ensures in
    let consulted : c.in_ok-consulted.consulted.items ≡ replicate c.args.g.now.pages false = c.in_ok-consulted.ensures.items_if_clones_equal (λ y h. h) in
    let writable : length (flags_of c.in_ok-writable.writable) ≡ 576 * c.args.g.now.pages = flags_size c.in_ok-writable.writable ∙ omega (arith, c.in_ok-writable.ensures) in
    let first : c.take-taken.new.self ≡ (c.context_of-context.result, c.take-taken.result.slot) ∷ others_held c.context_of-context.result [] = c.take-taken.ensures.front ∙ ap (λ (h : Held). (c.context_of-context.result, c.take-taken.result.slot) ∷ others_held c.context_of-context.result h) c.new-held.ensures in
    makes_told c.args.g.now c.args.tables c.take-taken.result.slot c.context_of-context.result c.take-taken.new.self _ _ _ before _ own_context
    (makes c.args.g.now c.args.tables c.take-taken.result.slot c.take-taken.new.self c.in_ok-reads.reads c.in_ok-consulted.consulted.items (flags_of c.in_ok-writable.writable) before (g.H.Hardware.machine c.map_tables.new.machine) (g.H.Hardware.machine c.clear_entries.new.machine)
    (omega (arith, c.pages-all.ensures.all, c.pages-all.ensures.few)) c.requires.partition c.requires.room c.requires.apart c.requires.few c.requires.allowed c.in_ok-reads.ensures consulted writable
    (first ∙ ap (λ (x : Context). (x, c.take-taken.result.slot) ∷ []) own_context) c.take-taken.ensures.facts c.map_tables.ensures c.clear_entries.ensures)
