-- How lines are taken from a keyboard, and how that ends.
use Rattle.std.specs.Prelude.{ℕ, ◌≡◌, ◌≢◌, ◌<◌, ◌+◌, ◌-◌, ◌^◌, ◌⊎◌, List, [], ◌∷◌, ◌++◌, All, true, length, min}
use Rattle.vv_io.specs.Causes.{Rose}
use Rattle.vv_io.specs.Keys.{IsOut, Keys, Took}
use Rattle.vv_io.specs.Lines.{Seen}
use Rattle.sys_devices.specs.Shows.{ShowsUnlessMarked}
use Rattle.sys_script.specs.Typed.{events_typed, refusal_messages, rounds_ended, says_event}
use Rattle.sys_live.specs.Operator.{Operator}
use Rattle.sys_live.specs.Order.{AsksWhile}
use Rattle.sys_live.specs.declared.typing.Count.{Count}
use Rattle.sys_live.specs.declared.typing.TypedRound.{TypedRound}
use Rattle.sys_live.specs.declared.typing.Typing.{Typing}
use Rattle.sys_live.specs.declared.typing.Typing.TheVariants.{GoesOn, Over, Broken, Lost}

-- these lines were taken, and no call failed
pub record TookWell (lines : List (List ℕ)) (before after : Keys) : Type 0 where
  pub took : Took lines before.coming after.coming
  pub faults : after.faults ≡ before.faults

-- the keyboard failed after these lines; or they were taken, and 32 bits count no more
abbrev pub BreaksOff : ℕ → List (List ℕ) → Keys → Keys → Type 0
BreaksOff count lines before after =
    (Took lines before.coming after.coming × Rose before.faults after.faults)
    ⊎ (TookWell lines before after × (count ≡ 2 ^ 32 - 1))

-- one more line was taken, which says an event, and is lost
abbrev pub LosesLine : List (List ℕ) → Keys → Keys → Type 0
LosesLine lines before after = (lost : List ℕ) × (says_event lost ≡ true) × TookWell (lines ++ lost ∷ []) before after

-- How the lines of one round ended, `count` with those of the rounds before: an empty line was taken; or no more come; or it broke
-- off; or a line was lost.
abbrev pub EndsTypedRound : Typing → ℕ → List (List ℕ) → Keys → Keys → Type 0
EndsTypedRound GoesOn count lines before after = TookWell (lines ++ [] ∷ []) before after
EndsTypedRound Over count lines before after = TookWell lines before after × IsOut after.coming
EndsTypedRound Broken count lines before after = BreaksOff count lines before after
EndsTypedRound Lost count lines before after = LosesLine lines before after

-- The lines of one round were taken, of which none is empty, and their events are the round's. Those that say none were reported,
-- where nothing was cut before, by the numbers that follow those of the rounds before. Where an empty line ended the round it is
-- counted with them. Each was asked for while this was on the output, and one more was, if 32 bits count it.
pub record TypesRound (round : ℕ) (out : Seen) (before after : Count) (typed : TypedRound) (p : Operator) : Type 0 where
  pub lines : List (List ℕ)
  pub none_is_empty : All (λ line. line ≢ []) lines
  pub taken : EndsTypedRound typed.typing (before.lines + length lines) lines p.keys p.keys'
  pub counts : typed.typing ≡ GoesOn → (after.lines ≡ before.lines + length lines + 1) × (after.lines < 2 ^ 32)
  pub asks : ℕ
  pub asked : AsksWhile asks out p.keys p.keys'
  pub asks_are : before.lines + asks ≡ min (before.lines + length lines + 1) (2 ^ 32 - 1)
  pub events : typed.events.items ≡ events_typed round lines
  pub told : ShowsUnlessMarked before.is_cut after.is_cut p.errors p.errors' (refusal_messages (before.lines + 1) lines)

-- the last line is empty
abbrev pub EndsWithEmptyLine : List (List ℕ) → Type 0
EndsWithEmptyLine lines = (before : List (List ℕ)) × (lines ≡ before ++ [] ∷ [])

-- How the typing of a run of at most `most` rounds ended: all rounds were ended, and no line was taken after them; or, with
-- fewer, no more lines come, or it broke off, or a line was lost.
abbrev pub EndsTypedRun : Typing → ℕ → List (List ℕ) → Keys → Keys → Type 0
EndsTypedRun GoesOn most lines before after = TookWell lines before after × EndsWithEmptyLine lines × (rounds_ended lines ≡ most)
EndsTypedRun Over most lines before after = TookWell lines before after × IsOut after.coming × (rounds_ended lines < most)
EndsTypedRun Broken most lines before after = BreaksOff (length lines) lines before after × (rounds_ended lines < most)
EndsTypedRun Lost most lines before after = LosesLine lines before after × (rounds_ended lines < most)
