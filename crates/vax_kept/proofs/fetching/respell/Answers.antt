use Rattle.std.proofs.Common.{refl}
use Rattle.vax_table.specs.Spelling.{view}
use Rattle.vax_kept.proofs.Spelled.{spelled_front}
use Rattle.vax_kept.proofs.fetching.respell.Goals as goal

pub keep-requires-clause-spelled : goal.keep-requires-clause-spelled
keep-requires-clause-spelled c = let h = c.in-Done.ensures.spells in spelled_front c.args.bytes.now _ h.0 h.1 (view c.decode_into.new.decoded) refl h.2 h.3
