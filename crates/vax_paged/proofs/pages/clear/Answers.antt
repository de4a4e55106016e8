use Rattle.std.proofs.Common.{ap, replicate}
use Rattle.vax_paged.proofs.pages.clear.Goals as goal

pub returns : goal.returns
returns c = ap (replicate 2048) c.no_page-pages.ensures
