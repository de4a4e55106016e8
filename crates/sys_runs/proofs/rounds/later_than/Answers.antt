use Rattle.std.proofs.Common.{◌∙◌, ap, drop}
use Rattle.sys_runs.proofs.rounds.later_than.Goals as goal

pub returns : goal.returns
returns c = c.split_at.ensures.back ∙ ap (λ k. drop k c.args.events.now) c.count_up_to-past.ensures
