-- What a port with room for a number of bytes keeps of what it was shown.
use Rattle.std.proofs.Common.{◌≡◌, ℕ, ◌≤◌, false, List, [], length, arith, subst, sym, ◌∙◌, ap}
use Rattle.std.proofs.lemmas.Grind.{common_steps}
use Rattle.std.proofs.lemmas.List.{take_all}
use Rattle.vm_console.specs.Appends.{Appends}
use Rattle.vm_console.specs.Kept.{KeptOutput, MayKeep, empty}

-- an empty port may have been given nothing
pub kept_empty : (room : ℕ) → MayKeep room empty []
unfolding MayKeep
kept_empty room = (grind (arith, common_steps), grind (arith, common_steps))

-- where there is room for what it was given, all of it is kept
pub kept_all : (room : ℕ) (kept : KeptOutput) (given : List ℕ) → MayKeep room kept given → length given ≤ room → kept ≡ record { bytes = given; is_cut = false }
unfolding MayKeep
kept_all room kept given may fits =
    let front : kept.bytes ≡ given = may.0 ∙ take_all room given fits in
    let cut : kept.is_cut ≡ false = grind (arith, common_steps, may.1) in
    λ i. record { bytes = front i; is_cut = cut i }

-- the state of a port that was empty and was shown a text for which it has room
pub kept_state : (room : ℕ) (old new : KeptOutput) (text : List ℕ) → old ≡ empty → Appends (MayKeep room) old new text → length text ≤ room → new ≡ record { bytes = text; is_cut = false }
kept_state room old new text is_empty appends fits =
    kept_all room new text (appends [] (subst (λ (kept : KeptOutput). MayKeep room kept []) (sym is_empty) (kept_empty room))) fits

-- it keeps the text
pub kept_whole : (room : ℕ) (old new : KeptOutput) (text : List ℕ) → old ≡ empty → Appends (MayKeep room) old new text → length text ≤ room → new.bytes ≡ text
kept_whole room old new text is_empty appends fits = ap (λ (kept : KeptOutput). kept.bytes) (kept_state room old new text is_empty appends fits)
