-- How showing composes.
use Rattle.std.proofs.Common.{ℕ, List, [], ◌++◌, append_assoc}
use Rattle.std.proofs.lemmas.List.{append-nil}
use Rattle.vm_console.specs.Appends.{Appends}

-- a port that stays was shown nothing
pub Appends-nil : {Port : Type 0} (may : Port → List ℕ → Type 0) (port : Port) → Appends may port port []
Appends-nil may port given given_so = rw append-nil given_so

-- what was shown in two turns was shown in one
pub Appends-append : {Port : Type 0} (may : Port → List ℕ → Type 0) (old middle new : Port) (front back : List ℕ) →
    Appends may old middle front → Appends may middle new back → Appends may old new (front ++ back)
Appends-append may old middle new front back first then given given_so =
    rw (← append_assoc) (then (given ++ front) (first given given_so))
