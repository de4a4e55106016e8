use Rattle.std.proofs.Common.{◌*◌, ℕ, ap}
use Rattle.vax_paged.proofs.Knowing.{known_by}
use Rattle.vax_paged.proofs.entries.Paged.looked_up.Goals as goal

pub returns-clause-learned : goal.returns-clause-learned
returns-clause-learned c =
    known_by c.args.self.now.memory.now c.args.self.now.world.now c.args.page c.table_place-table.result c.in-Found.place c.long_in.result c.page_if.result c.page_if-2.result (512 * c.frame.result) c.current-mode.result
    c.is_open.result c.is_open_to_write.result c.in-Found.ensures.is c.table_place-table.ensures.is c.long_in.ensures c.current-mode.ensures c.is_open.ensures c.is_open_to_write.ensures.opens c.is_open_to_write.ensures.modified
    c.page_if.ensures c.page_if-2.ensures (ap (λ (n : ℕ). 512 * n) c.frame.ensures)
