use Rattle.std.proofs.lemmas.Result.{err_from_is_err_and}
use Rattle.vvmm_files.proofs.Stopping.{stops_extend}
use Rattle.vvmm_files.proofs.fetching.fetch_to_extend.Goals as goal

pub returns-in_err-inputs-clause-fetches : goal.returns-in_err-inputs-clause-fetches
returns-in_err-inputs-clause-fetches g c =
    let p = err_from_is_err_and c.from_residual.result c.from_residual.ensures.1 in
    rw (p.1, p.2) (stops_extend _ _ _ _ _ c.in_err-inputs.ensures.fetches)
