use Rattle.std.proofs.Common.{◌≡◌, ◌+◌, ◌-◌, ◌++◌, ◌∙◌, None, get_or, length, map, replicate, take, refl, ap, arith}
use Rattle.std.proofs.lemmas.List.{take_all}
use Rattle.sys_snap.specs.Reader.{seated_guest}
use Rattle.sys_snap.proofs.Fills.{maps_more}
use Rattle.sys_snap.proofs.seats.seats_of.Goals as goal

pub loop-i-preserved : goal.loop-i-preserved
loop-i-preserved c =
    let i = c.loop-i.i in
    rw (c.seat_of.ensures, c.loop-i.invariant) (maps_more seated_guest c.args.bytes.now i (32 - i) (32 - (i + 1)) (get_or c.args.bytes.now i 0) 0 None c.loop-i-test.true refl (omega arith))

pub returns : goal.returns
returns c =
    let bytes = c.args.bytes.now in
    let all : c.loop-i.i ≡ length bytes = omega arith in
    c.loop-i.invariant ∙ ap (λ n. map seated_guest (take n bytes) ++ replicate (32 - n) None) all ∙ ap (λ bs. map seated_guest bs ++ replicate (32 - length bytes) None) (take_all (length bytes) bytes (omega arith))
