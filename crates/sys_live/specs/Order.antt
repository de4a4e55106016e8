-- In which order a run that is typed asks for lines and shows rounds.
use Rattle.std.specs.Prelude.{ℕ, ◌≡◌, ◌<◌, ◌+◌, ◌-◌, ◌^◌, List, ◌++◌, All, Bool, length, min, slice_index_or, take}
use Rattle.vv_io.specs.Keys.{Keys}
use Rattle.vv_io.specs.Lines.{Seen, unseen}
use Rattle.sys_devices.specs.ShownSince.{ShownSince}
use Rattle.sys_script.specs.Typed.{rounds_ended}
use Rattle.sys_live.specs.declared.typing.Typing.{Typing}
use Rattle.sys_live.specs.declared.typing.Typing.TheVariants.{GoesOn}

-- `count` lines were asked for, each while this was on the output.
pub record AsksWhile (count : ℕ) (out : Seen) (before after : Keys) : Type 0 where
  pub outputs : List Seen
  pub noted : after.outputs ≡ before.outputs ++ outputs
  pub count_is : length outputs ≡ count
  pub same : All (λ o. o ≡ out) outputs

-- What was shown is on the output, whole or cut, and nothing more. Where it is `known`, it is this echo.
pub record HasShown (cut : Bool) (known : Type 0) (echo : List ℕ) (out out' : Seen) : Type 0 where
  pub echoed : List ℕ
  pub shown : ShownSince cut out out' echoed
  pub exact : known → echoed ≡ echo

-- How many lines are asked for where this many are taken: one more, unless all rounds were ended or 32 bits count no more.
abbrev pub asks_for : Typing → ℕ → ℕ
asks_for GoesOn taken = taken
asks_for typing taken = min (taken + 1) (2 ^ 32 - 1)

-- Each line was asked for when the rounds that the lines before it end, and no others, were shown. `echo n` is that of n rounds.
pub record AsksInOrder (known : Type 0) (echo : ℕ → List ℕ) (out : Seen) (typing : Typing) (lines : List (List ℕ)) (before after : Keys) : Type 0 where
  pub outputs : List Seen
  pub noted : after.outputs ≡ before.outputs ++ outputs
  pub count_is : length outputs ≡ asks_for typing (length lines)
  pub each : (k : ℕ) → k < length outputs → (cut : Bool) × HasShown cut known (echo (rounds_ended (take k lines))) out (slice_index_or outputs k unseen)
