use Rattle.std.proofs.Common.{◌==◌, ◌∙◌, List, ℕ, length, ap, sym, arith, true≢false}
use Rattle.sys_devices.proofs.Showings.{whole_shown}
use Rattle.sys_devices.proofs.lines.show_whole.Goals as goal

pub returns-then-not-is_empty : goal.returns-then-not-is_empty
returns-then-not-is_empty g c =
    whole_shown c.args.marks.now _ c.args.line _ c.args.bytes.now _ c.is_err.result (omega arith) (omega (arith, g.met.L.Lines.count c.args.lines.now, c.requires)) c.if-not-marks-k.true
    (λ e. true≢false (sym (c.if-not-is_empty.ensures ∙ ap (λ (xs : List ℕ). length xs == 0) e))) c.is_err.ensures.value c.put_on.ensures
