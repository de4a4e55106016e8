use Rattle.std.proofs.Common.{◌≡◌, false, ◌∙◌}
use Rattle.sys_live.proofs.Words.{tells_now}
use Rattle.sys_live.proofs.typing.tell.Goals as goal

pub returns-then-not-count-clause-tells : goal.returns-then-not-count-clause-tells
returns-then-not-count-clause-tells g c =
    let uncut : c.args.count.now.is_cut ≡ false = cc in
    tells_now c.args.count.now.is_cut c.is_err-count.result (g.E.Sink.printed c.args.errors.now) (g.E.Sink.printed c.put.new.self) c.bytes.result.now _ c.put.result uncut c.is_err-count.ensures.value (c.bytes.ensures.value ∙ c.why_not.ensures) c.put.ensures
