use Rattle.vm_console.proofs.Kept.{kept_whole}
use Rattle.test_vm.proofs.ports.new_after.Goals as goal

pub returns : goal.returns
returns c = kept_whole 131072 c.in_ok-port.port c.show_all.new.port c.args.text.now c.in_ok-port.ensures c.show_all.ensures c.requires
