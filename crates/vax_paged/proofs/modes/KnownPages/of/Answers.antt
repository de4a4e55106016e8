use Rattle.std.proofs.Common.{refl}
use Rattle.vax_paged.proofs.modes.KnownPages.of.Goals as goal

pub returns-in-Kernel : goal.returns-in-Kernel
returns-in-Kernel c = λ memory t all k d small. rw c.in-Kernel.is ((all memory (λ at h. refl)).kernel k d small)

pub returns-in-Executive : goal.returns-in-Executive
returns-in-Executive c = λ memory t all k d small. rw c.in-Executive.is ((all memory (λ at h. refl)).executive k d small)

pub returns-in-Supervisor : goal.returns-in-Supervisor
returns-in-Supervisor c = λ memory t all k d small. rw c.in-Supervisor.is ((all memory (λ at h. refl)).supervisor k d small)

pub returns-in-User : goal.returns-in-User
returns-in-User c = λ memory t all k d small. rw c.in-User.is ((all memory (λ at h. refl)).user k d small)
