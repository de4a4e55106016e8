use Rattle.vax_arch.specs.declared.mode.Mode.TheVariants.{Executive, Kernel, Supervisor, User}
use Rattle.vax_paged.proofs.Here.{nowhere_is}
use Rattle.vax_paged.proofs.modes.KnownPages.nothing.Goals as goal

pub returns : goal.returns
returns c = λ memory t other agrees. record {
  kernel = c.nothing.ensures other t Kernel;
  executive = c.nothing-2.ensures other t Executive;
  supervisor = c.nothing-3.ensures other t Supervisor;
  user = c.nothing-4.ensures other t User;
  here = nowhere_is other t c.nowhere.result c.nowhere.ensures.start c.nowhere.ensures.high;
}
