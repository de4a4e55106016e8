-- The operator's keyboard, and the sink for reports.
use Rattle.std.specs.Prelude.{◌≡◌}
use Rattle.vv_io.specs.Keys.{Keys}
use Rattle.vv_io.specs.Lines.{Seen}

-- The operator's keyboard before and after a call, and the sink on which lines that say no event are reported.
pub record Operator : Type 0 where
  pub keys : Keys
  pub keys' : Keys
  pub errors : Seen
  pub errors' : Seen

-- the keyboard is as before, and so is the sink for reports
pub record Untyped (p : Operator) : Type 0 where
  pub keys : p.keys' ≡ p.keys
  pub errors : p.errors' ≡ p.errors
