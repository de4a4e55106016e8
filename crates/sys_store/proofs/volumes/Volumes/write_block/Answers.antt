use Rattle.sys_store.proofs.Stored.{has_block, kept, written}
use Rattle.sys_store.proofs.volumes.Volumes.write_block.Goals as goal

pub returns-clause-ok : goal.returns-clause-ok
returns-clause-ok c = written (λ v. v.items) c.self.inside.volumes.items c.from.result c.index_mut.result.now c.write_in.new.blocks c.args.self.now c.args.v c.args.block c.args.from.now c.write_in.result
    (record { place = c.from.ensures; within = c.requires; view = cc; read = c.index_mut.ensures.value }) c.write_in.ensures.ok

pub returns-clause-held : goal.returns-clause-held
returns-clause-held c = has_block (λ v. v.items) c.self.inside.volumes.items c.from.result c.index_mut.result.now c.args.self.now c.args.v c.args.block c.write_in.result
    (record { place = c.from.ensures; within = c.requires; view = cc; read = c.index_mut.ensures.value }) c.write_in.ensures.held

pub returns-clause-err : goal.returns-clause-err
returns-clause-err c = kept (λ v. v.items) c.self.inside.volumes.items c.from.result c.index_mut.result.now c.write_in.new.blocks c.args.self.now c.args.v c.args.block c.write_in.result
    (record { place = c.from.ensures; within = c.requires; view = cc; read = c.index_mut.ensures.value }) c.write_in.ensures.err
