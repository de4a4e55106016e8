use Rattle.std.proofs.Common.{ℕ, ◌+◌, ◌%◌, ◌∙◌, ap, refl}
use Rattle.sys_objects.specs.declared.records.Config.{Config}
use Rattle.vv_gen.specs.Config.{generated_config}
use Rattle.vv_gen.proofs.Making.{made, accepted_too}
use Rattle.vv_gen.proofs.generate.workload.Goals as goal

pub returns-clause-exact : goal.returns-clause-exact
returns-clause-exact c =
    let f : ℕ → Config = λ d. generated_config (1 + d % 1000) in
    made c.args.number _ _ _ _ c.drawn.ensures.goes c.in_ok-images.ensures.goes c.in_ok-volumes.ensures.goes
    (c.in_ok-config.ensures ∙ ap f c.drawn.ensures.value) c.in_ok-images.ensures.images c.in_ok-volumes.ensures.volumes c.in_ok-events.ensures refl

pub returns-clause-accepted : goal.returns-clause-accepted
returns-clause-accepted c = accepted_too c.args.number _ (returns-clause-exact c)
