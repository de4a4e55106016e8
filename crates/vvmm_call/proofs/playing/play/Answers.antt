use Rattle.vvmm_call.proofs.Counted.{few_in_run}
use Rattle.vvmm_call.proofs.playing.play.Goals as goal

pub answer-requires : goal.answer-requires
answer-requires g c = few_in_run _ _ _ c.args.rounds c.run-ran.result _ c.requires.few c.run-ran.ensures.runs
