use Rattle.std.proofs.Common.{subst, sym}
use Rattle.vax_paged.specs.Known.{AreKnownIn}
use Rattle.vax_paged.proofs.Tagging.{put_known, put_some}
use Rattle.vax_paged.proofs.pages.ModePages.put.Goals as goal

pub invariant_of-self : goal.invariant_of-self
invariant_of-self c = put_some c.self.inside.tag c.self.inside.has_some c.self.inside.pages c.args.at c.args.known c.with_tags.result c.with_tags.ensures c.self.invariant

pub returns : goal.returns
returns c = λ memory t m all known.
    put_known memory t m c.self.inside.tag c.self.inside.pages c.args.at c.args.known c.with_tags.result c.with_tags.ensures c.self.invariant.tagged.some (subst (AreKnownIn memory t m) (sym c.self.view_is) all) known
