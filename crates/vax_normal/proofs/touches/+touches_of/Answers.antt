use Rattle.std.proofs.Common.{◌≡◌, ◌∷◌, sym, subst, arith}
use Rattle.vax_normal.specs.Touched.{AreTouched}
use Rattle.vax_normal.proofs.Touching.{after_first, rest_of, some_touched, touched_hand}
use Rattle.vax_normal.proofs.touches.+touches_of.Goals as goal

pub returns-in-Read : goal.returns-in-Read
returns-in-Read t c =
    let xs = c.args.operands.now in
    some_touched c.before_read.result c.in_ok-after.after c.x-item.result (after_first xs) xs (rest_of xs c.x-item.result (omega (arith, c.in-len1-up.len_at_least)) c.x-item.is) c.in_ok-after.ensures c.before_read.ensures

pub returns-in-Modify : goal.returns-in-Modify
returns-in-Modify t c =
    let xs = c.args.operands.now in
    some_touched c.before_modified.result c.in_ok-after.after c.x-item.result (after_first xs) xs (rest_of xs c.x-item.result (omega (arith, c.in-len1-up.len_at_least)) c.x-item.is) c.in_ok-after.ensures c.before_modified.ensures

pub returns-in-Write : goal.returns-in-Write
returns-in-Write t c =
    let xs = c.args.operands.now in
    some_touched c.before_written.result c.in_ok-after.after c.x-item.result (after_first xs) xs (rest_of xs c.x-item.result (omega (arith, c.in-len1-up.len_at_least)) c.x-item.is) c.in_ok-after.ensures c.before_written.ensures

pub returns-in_default-kind : goal.returns-in_default-kind
returns-in_default-kind t c =
    let xs = c.args.operands.now in
    let x = c.x-item.result in
    let all : xs ≡ x ∷ after_first xs = rest_of xs x (omega (arith, c.in-len1-up.len_at_least)) c.x-item.is in
    subst (AreTouched c.in_ok-after.after) (sym all) (touched_hand c.in_ok-after.after x (after_first xs) (sym c.if-is_at_hand.ensures) c.in_ok-after.ensures)
