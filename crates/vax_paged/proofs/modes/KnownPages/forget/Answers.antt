use Rattle.vax_arch.specs.declared.mode.Mode.TheVariants.{Executive, Kernel, Supervisor, User}
use Rattle.vax_paged.proofs.Here.{nowhere_is}
use Rattle.vax_paged.proofs.modes.KnownPages.forget.Goals as goal

pub returns : goal.returns
returns c = λ memory t other agrees. record {
  kernel = c.forget.ensures other t Kernel;
  executive = c.forget-2.ensures other t Executive;
  supervisor = c.forget-3.ensures other t Supervisor;
  user = c.forget-4.ensures other t User;
  here = nowhere_is other t c.nowhere-self.result c.nowhere-self.ensures.start c.nowhere-self.ensures.high;
}
