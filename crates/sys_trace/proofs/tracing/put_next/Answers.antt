use Rattle.std.proofs.Common.{◌++◌, false, sym, subst}
use Rattle.std.specs.Prelude.{is_err}
use Rattle.sys_devices.proofs.Puts.{joined, shows, still}
use Rattle.sys_devices.specs.ShownSince.{ShownSince}
use Rattle.sys_trace.proofs.tracing.put_next.Goals as goal

pub returns-then-is_cut : goal.returns-then-is_cut
returns-then-is_cut g c start before shown =
    let out = g.O.Sink.printed c.args.out.now in
    still start out before c.args.bytes.now (subst (λ b. ShownSince b start out before) c.if-is_cut.true shown)

pub returns : goal.returns
returns g c start before shown =
    let out = g.O.Sink.printed c.args.out.now in
    let after = g.O.Sink.printed c.put.new.self in
    let whole : ShownSince false start out before = subst (λ b. ShownSince b start out before) c.if-is_cut.false shown in
    subst (λ b. ShownSince b start after (before ++ c.args.bytes.now)) (sym c.is_err.ensures.value) (joined (is_err c.put.result) start out after before c.args.bytes.now whole (shows out after c.args.bytes.now c.put.result c.put.ensures))
