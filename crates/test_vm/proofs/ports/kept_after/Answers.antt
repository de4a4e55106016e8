use Rattle.std.proofs.Common.{◌≤◌, ◌++◌, length, arith, length-append}
use Rattle.vm_console.proofs.Composes.{Appends-append}
use Rattle.vm_console.proofs.Kept.{kept_state}
use Rattle.vm_console.specs.Kept.{MayKeep}
use Rattle.test_vm.proofs.ports.kept_after.Goals as goal

pub returns : goal.returns
returns g c =
    let fits : length (c.args.front.now ++ c.args.back.now) ≤ g.row.N = omega (arith, length-append c.args.front.now c.args.back.now) in
    kept_state g.row.N c.clear.new.self c.show_all-2.new.port (c.args.front.now ++ c.args.back.now) c.clear.ensures
    (Appends-append (MayKeep g.row.N) c.clear.new.self c.show_all.new.port c.show_all-2.new.port c.args.front.now c.args.back.now c.show_all.ensures c.show_all-2.ensures) fits
