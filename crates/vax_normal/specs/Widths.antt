-- That something has a width, if it is there, has one proof at most.
use Rattle.std.specs.Prelude.{◌≡◌, Option, Some, None, IfSome}
use Rattle.std.specs.Coded.{Unit-prop}
use Rattle.std.proofs.Props.{props}
use Rattle.vv_base.specs.declared.width.Width.{Width}

pub width-prop : {A : Type 0} (width_of : A → Width) (x : Option A) (w : Width) → IsProp (IfSome x (λ a. width_of a ≡ w))
width-prop width_of None w = Unit-prop
width-prop width_of (Some a) w = hlevel props
