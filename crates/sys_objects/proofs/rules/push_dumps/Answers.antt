use Rattle.std.proofs.Common.{rules}
use Rattle.std.proofs.lemmas.Iterator.{YieldsList-from_slice}
use Rattle.std.proofs.lemmas.Iterator.Adapters.{items_from_extend}
use Rattle.std.proofs.lemmas.Iterator.Consumers.{YieldsList-from_filter_map}
use Rattle.sys_objects.specs.declared.records.GuestRow.{GuestRow}
use Rattle.sys_objects.proofs.rules.push_dumps.Goals as goal

pub returns : goal.returns
returns c =
    let pushed = items_from_extend c.extend.result c.extend.ensures.ran
    (YieldsList-from_filter_map _ (λ (g : GuestRow). g.dump) (YieldsList-from_slice c.args.rows.now cc) c.filter_map.ensures.closure (λ x r q k. search rules)) in
    search rules
