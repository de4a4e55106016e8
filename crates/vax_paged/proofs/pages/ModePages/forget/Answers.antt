use Rattle.std.proofs.Common.{◌+◌, List, false, subst, sym, refl, arith, map}
use Rattle.vax_paged.specs.Known.{AreKnownIn}
use Rattle.vax_paged.specs.Tagged.{MayHaveSome, at_present, no_page}
use Rattle.vax_paged.specs.declared.pages.Tagged.{Tagged}
use Rattle.vax_paged.proofs.Tagging.{all_forgotten, next_none, none_known, none_of}
use Rattle.vax_paged.proofs.pages.ModePages.forget.Goals as goal

pub invariant_of-self : goal.invariant_of-self
invariant_of-self c = next_none c.self.inside.tag c.self.inside.pages c.self.invariant.tagged (omega arith)

pub invariant_of-self-else-has_next : goal.invariant_of-self-else-has_next
invariant_of-self-else-has_next c = subst (MayHaveSome 8388608 false) (sym c.clear.ensures) (none_of 2048 no_page refl)

pub returns-then-has_next : goal.returns-then-has_next
returns-then-has_next c = λ memory t m. all_forgotten memory t m (c.self.inside.tag + 8388608) c.self.inside.pages c.self.invariant.tagged.before

pub returns-else-has_next : goal.returns-else-has_next
returns-else-has_next c = λ memory t m. subst (λ (ks : List Tagged). AreKnownIn memory t m (map (at_present 8388608) ks)) (sym c.clear.ensures) (none_known memory t m 2048 no_page refl)

pub returns-then-not-self : goal.returns-then-not-self
returns-then-not-self c = λ memory t m. subst (AreKnownIn memory t m) c.self.view_is (all_forgotten memory t m c.self.inside.tag c.self.inside.pages (c.self.invariant.none c.if-not-self.true))
