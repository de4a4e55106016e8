use Rattle.vax_normal.proofs.Indexing.{deferred_offset, displaced_offset}
use Rattle.vax_normal.proofs.indexed.offset_of.Goals as goal

pub returns-in-Deferred : goal.returns-in-Deferred
returns-in-Deferred c = deferred_offset c.args.base c.in-Deferred.is

pub returns-in-Displaced : goal.returns-in-Displaced
returns-in-Displaced c = displaced_offset c.args.base c.in-Displaced.offset c.in-Displaced.is
