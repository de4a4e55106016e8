use Rattle.std.proofs.Common.{◌∙◌}
use Rattle.sys_devices.proofs.Putting.{put_failed}
use Rattle.sys_devices.proofs.Puts.{hands_on}
use Rattle.sys_devices.proofs.piece.put_piece.Goals as goal

pub returns-in_err-put-clause-shown : goal.returns-in_err-put-clause-shown
returns-in_err-put-clause-shown g c =
    put_failed _ _ _ _ _ _ (hands_on _ c.from_residual.result c.from_residual.ensures.1) (c.bytes.ensures.value ∙ c.render-piece.ensures.piece) c.in_err-put.ensures
