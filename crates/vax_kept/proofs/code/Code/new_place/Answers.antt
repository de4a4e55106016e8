use Rattle.std.proofs.Common.{◌≡◌, vec_len, ap, arith}
use Rattle.vax_kept.specs.declared.code.Code.{Code}
use Rattle.vax_kept.proofs.code.Code.new_place.Goals.{then-len-ge-PLACES, else-len-ge-PLACES}
use Rattle.vax_kept.proofs.code.Code.new_place.Goals as goal

pub overflow_cast-place : goal.overflow_cast-place
overflow_cast-place c = elim c.if-len-ge-PLACES.branch [
  | then-len-ge-PLACES w ↦
      let same : vec_len c.if-len-ge-PLACES.self.places ≡ vec_len w.forget.new.self.places = ap (λ (s : Code). vec_len s.places) w.self-is in
      omega (arith, c.len-place.ensures, same, w.forget.ensures)
  | else-len-ge-PLACES w ↦
      let same : vec_len c.if-len-ge-PLACES.self.places ≡ vec_len c.args.self.now.places = ap (λ (s : Code). vec_len s.places) w.self-is in
      omega (arith, c.len-place.ensures, same, c.len.ensures, w.if-len-ge-PLACES.false)
]
