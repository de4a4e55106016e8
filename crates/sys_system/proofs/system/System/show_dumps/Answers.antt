use Rattle.std.proofs.Common.{◌≢◌, List, ℕ, sym, subst}
use Rattle.std.specs.List.{AllPairs}
use Rattle.std.specs.Prelude.{filter_map}
use Rattle.sys_output.proofs.AllDumps.{dumps_apart}
use Rattle.sys_objects.specs.declared.records.GuestRow.{GuestRow}
use Rattle.sys_system.proofs.system.System.show_dumps.Goals as goal

pub dump_all-requires-clause-apart : goal.dump_all-requires-clause-apart
dump_all-requires-clause-apart g c = subst (λ (rows : List GuestRow). AllPairs (λ (x y : ℕ). x ≢ y) (filter_map (λ row. row.dump) rows)) (sym c.as_slice-rows.ensures) (dumps_apart c.self.inside.parts.kernel.config c.self.invariant.system.accepted)
