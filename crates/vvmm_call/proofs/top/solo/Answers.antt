use Rattle.std.proofs.Common.{inr}
use Rattle.sys_runs.proofs.Stored.{touches_no_drive}
use Rattle.vvmm_call.proofs.Separate.{as_solo, solo_drives}
use Rattle.vvmm_files.specs.Words.{SoloWords}
use Rattle.vvmm_call.proofs.top.solo.Goals as goal

pub returns-in-Ok : goal.returns-in-Ok
returns-in-Ok g c =
    let a : SoloWords = record { image = c.args.order.image; steps = c.args.order.steps } in
    let (image, read, shelf, config, events, images) = c.in-Ok.ensures.fetches in
    let plays = as_solo a _ _ _ image _ _ _ _ config events images c.play.ensures in
    inr (record {
      image = image;
      read = read;
      shelf = shelf;
      plays = plays;
      drives = solo_drives touches_no_drive a image plays.result _ plays.runs;
    })
