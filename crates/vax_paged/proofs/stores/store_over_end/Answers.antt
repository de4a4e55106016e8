use Rattle.std.proofs.Common.{◌-◌, ◌%◌, ℕ, ap, ◌∙◌}
use Rattle.vv_base.specs.Width.{size_of}
use Rattle.vax_hw.specs.Machine.{machine_tables}
use Rattle.vax_paged.specs.InPage.{stored_from}
use Rattle.vax_paged.proofs.Crossing.{over_end_elsewhere, over_end_stored}
use Rattle.vax_paged.proofs.stores.store_over_end.Goals as goal

pub returns-clause-memory : goal.returns-clause-memory
returns-clause-memory c =
    let middle = c.store_bytes-rest.new.memory in
    let first = 512 - c.args.store.now.va % 512 in
    over_end_stored c.args.memory.now middle c.store_bytes.new.memory c.args.world.now c.args.store.now c.in-Some.low c.in-Some.high c.in-Some.ensures c.store_bytes-rest.ensures.memory
    (c.store_bytes.ensures.memory
    ∙ ap (λ (n : ℕ). stored_from (n - first) c.in-Some.high c.store_bytes-rest.result middle) (c.from-bytes.ensures ∙ c.bytes.ensures.value)
    ∙ ap (λ (n : ℕ). stored_from (size_of c.args.store.now.width - first) c.in-Some.high n middle) c.store_bytes-rest.ensures.above)

pub returns-clause-known : goal.returns-clause-known
returns-clause-known c =
    let middle = c.store_bytes-rest.new.memory in
    let first = 512 - c.args.store.now.va % 512 in
    c.stored.ensures c.args.memory.now c.store_bytes.new.memory (machine_tables c.args.world.now) c.requires
    (over_end_elsewhere c.args.memory.now middle c.store_bytes.new.memory c.args.world.now c.args.store.now c.in-Some.low c.in-Some.high c.in-Some.ensures c.store_bytes-rest.ensures.memory
    (c.store_bytes.ensures.memory
    ∙ ap (λ (n : ℕ). stored_from (n - first) c.in-Some.high c.store_bytes-rest.result middle) (c.from-bytes.ensures ∙ c.bytes.ensures.value)
    ∙ ap (λ (n : ℕ). stored_from (size_of c.args.store.now.width - first) c.in-Some.high n middle) c.store_bytes-rest.ensures.above))
