use Rattle.vasm.proofs.ReadLines.{label_added}
use Rattle.vasm.proofs.labels.add_label.Goals as goal

pub returns : goal.returns
returns c = rw c.in-Some.is ((cc c.address_of.ensures), label_added c.in-Some.name.now c.args.labels.now c.insert.new.self c.args.at c.in_ok-insert.ensures.updates)
