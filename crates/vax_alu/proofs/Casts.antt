use Rattle.std.proofs.lemmas.Int.{to_z-of_z}

-- a signed number that is passed on is the number itself, where it fits
pub ruleset casts = (to_z-of_z)
