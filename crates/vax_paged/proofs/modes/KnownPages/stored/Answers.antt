use Rattle.std.proofs.Common.{refl, sym, ◌∙◌}
use Rattle.vax_paged.proofs.Watching.{still_known}
use Rattle.vax_paged.proofs.modes.KnownPages.stored.Goals as goal

pub returns-then-not-watches-2 : goal.returns-then-not-watches-2
returns-then-not-watches-2 c = λ memory other t all same.
    still_known memory other t c.args.self.now c.args.self.now c.args.first c.args.last refl (sym c.watches.ensures ∙ c.if-not-watches.true)
    (sym c.watches-then-not-watches.ensures ∙ c.if-not-watches-2.true) all same

pub returns : goal.returns
returns c = λ memory other t all same. c.forget.ensures other t
