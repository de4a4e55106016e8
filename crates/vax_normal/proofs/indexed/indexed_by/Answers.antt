use Rattle.vax_normal.proofs.Indexing.{modifies_indexed, reads_indexed, writes_indexed}
use Rattle.vax_normal.proofs.indexed.indexed_by.Goals as goal

pub returns-in_ok-reach_of-in-Read : goal.returns-in_ok-reach_of-in-Read
returns-in_ok-reach_of-in-Read c = reads_indexed c.in_ok-reach_of-in-Read.field-0 c.in-Read.base c.args.x.now c.in-Read.is c.in_ok-reach_of-in-Read.ensures

pub returns-in_ok-reach_of-in-Modify : goal.returns-in_ok-reach_of-in-Modify
returns-in_ok-reach_of-in-Modify c = modifies_indexed c.in_ok-reach_of-in-Modify.field-0 c.in-Modify.base c.args.x.now c.in-Modify.is c.in_ok-reach_of-in-Modify.ensures

pub returns-in_ok-reach_of-in-Write : goal.returns-in_ok-reach_of-in-Write
returns-in_ok-reach_of-in-Write c = writes_indexed c.in_ok-reach_of-in-Write.field-0 c.in-Write.base c.args.x.now c.in-Write.is c.in_ok-reach_of-in-Write.ensures
