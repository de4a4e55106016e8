use Rattle.std.proofs.Common.{◌++◌, length, refl}
use Rattle.vv_base.specs.Bytes.{long_bytes}
use Rattle.sys_devices.proofs.Puts.{begun, ends, goes_on, hands_on, stops}
use Rattle.sys_snap.specs.Written.{snap_head}
use Rattle.sys_output.specs.Parts.{head_bytes}
use Rattle.sys_output.proofs.head.put_head.Goals as goal

pub returns-in_err-put : goal.returns-in_err-put
returns-in_err-put g c =
    let text = c.args.text.now in
    let whole = head_bytes text c.args.made in
    let rest = long_bytes (length text) ++ (text ++ long_bytes c.args.made) in
    let start = g.O.Sink.printed c.args.out.now in
    stops _ start start _ whole snap_head rest whole (hands_on _ c.from_residual.result c.from_residual.ensures.1) refl (begun start whole) c.in_err-put.ensures

pub returns-in_err-put_long : goal.returns-in_err-put_long
returns-in_err-put_long g c =
    let text = c.args.text.now in
    let whole = head_bytes text c.args.made in
    let size = long_bytes (length text) in
    let rest = text ++ long_bytes c.args.made in
    let start = g.O.Sink.printed c.args.out.now in
    let one = g.O.Sink.printed c.put.new.out in
    stops _ start one _ (size ++ rest) size rest whole (hands_on _ c.from_residual-in_err-put_long.result c.from_residual-in_err-put_long.ensures.1) refl (goes_on start start one whole snap_head (size ++ rest) whole refl (begun start whole) c.in_ok-put.ensures) c.in_err-put_long.ensures

pub returns-in_err-put-2 : goal.returns-in_err-put-2
returns-in_err-put-2 g c =
    let text = c.args.text.now in
    let whole = head_bytes text c.args.made in
    let size = long_bytes (length text) in
    let last = long_bytes c.args.made in
    let start = g.O.Sink.printed c.args.out.now in
    let one = g.O.Sink.printed c.put.new.out in
    let two = g.O.Sink.printed c.put_long.new.out in
    let first = goes_on start start one whole snap_head (size ++ (text ++ last)) whole refl (begun start whole) c.in_ok-put.ensures in
    let second = goes_on start one two (size ++ (text ++ last)) size (text ++ last) whole refl first c.in_ok-put_long.ensures in
    stops _ start two _ (text ++ last) text last whole (hands_on _ c.from_residual-in_err-put-2.result c.from_residual-in_err-put-2.ensures.1) refl second c.in_err-put-2.ensures

pub returns : goal.returns
returns g c =
    let text = c.args.text.now in
    let whole = head_bytes text c.args.made in
    let size = long_bytes (length text) in
    let last = long_bytes c.args.made in
    let start = g.O.Sink.printed c.args.out.now in
    let one = g.O.Sink.printed c.put.new.out in
    let two = g.O.Sink.printed c.put_long.new.out in
    let three = g.O.Sink.printed c.put-2.new.out in
    let first = goes_on start start one whole snap_head (size ++ (text ++ last)) whole refl (begun start whole) c.in_ok-put.ensures in
    let second = goes_on start one two (size ++ (text ++ last)) size (text ++ last) whole refl first c.in_ok-put_long.ensures in
    let third = goes_on start two three (text ++ last) text last whole refl second c.in_ok-put-2.ensures in
    ends _ start three _ last whole third c.put_long-2.ensures
