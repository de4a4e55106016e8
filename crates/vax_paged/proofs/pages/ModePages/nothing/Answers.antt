use Rattle.vax_paged.proofs.Tagging.{none_known, none_of}
use Rattle.vax_paged.proofs.pages.ModePages.nothing.Goals as goal

pub invariant_of-result : goal.invariant_of-result
invariant_of-result c = none_of 2048 c.no_page.result c.no_page.ensures

pub returns : goal.returns
returns c = λ memory t m. none_known memory t m 2048 c.no_page.result c.no_page.ensures
