use Rattle.test_vm.proofs.Driving.{closed_again, opened_fits, opened_remembers, written_fits}
use Rattle.test_vm.proofs.driver.Bench.write_opened.Goals as goal
use Rattle.vax_arch.specs.Walk.{page_of}

pub store_byte-requires-clause-fits : goal.store_byte-requires-clause-fits
store_byte-requires-clause-fits c = opened_fits _ c.args.self.now.guest c.args.self.now.machine c.open_write.new.machine c.args.self.now.shadow c.open_write.new.self c.requires.stands c.open_write.ensures.is

pub store_byte-requires-clause-remembers : goal.store_byte-requires-clause-remembers
store_byte-requires-clause-remembers c = opened_remembers _ c.args.self.now.guest c.args.self.now.machine c.open_write.new.machine c.args.self.now.shadow c.open_write.new.self c.requires.stands c.open_write.ensures.is

pub close_write-requires-clause-fits : goal.close_write-requires-clause-fits
close_write-requires-clause-fits c = written_fits _ _ _ c.args.self.now.guest c.args.self.now.machine c.open_write.new.machine c.store_byte.new.machine c.args.self.now.shadow c.open_write.new.self c.store_byte.new.self c.requires.stands c.open_write.ensures.is c.store_byte.ensures

pub returns : goal.returns
returns c = closed_again (page_of c.args.va) _ _ c.args.self.now.guest c.args.self.now.machine c.open_write.new.machine c.store_byte.new.machine c.close_write.new.machine c.args.self.now.shadow c.open_write.new.self c.store_byte.new.self c.requires.stands c.open_write.ensures.is c.store_byte.ensures c.close_write.ensures
