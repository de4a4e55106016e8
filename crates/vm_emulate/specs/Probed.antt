-- What PROBE finds, as the code has it.
use Rattle.vm_emulate.specs.declared.probing.Probed.{Probed}
use Rattle.vm_emulate.specs.declared.probing.Probed.TheVariants.{Answers, NotValid, PastMemory}
use Rattle.vm_state.specs.Probe as probes

abbrev pub probed_of : Probed → probes.Probed
probed_of (Answers is_accessible is_plain) = probes.Answers is_accessible is_plain
probed_of (NotValid f) = probes.NotValid f
probed_of PastMemory = probes.PastMemory
