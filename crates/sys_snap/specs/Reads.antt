-- What a function that reads answers: what the reading gives, with what is left.
use Rattle.std.specs.Prelude.{◌≡◌}
use Rattle.std.specs.declared.result.Result.{Result}
use Rattle.std.specs.declared.result.Result.TheVariants.{Ok, Err}
use Rattle.std.specs.Prelude as results
use Rattle.sys_snap.specs.Reading.{Reading, Rest}
use Rattle.sys_snap.specs.declared.fault.SnapError.{SnapError}
use Rattle.sys_snap.specs.declared.fault.SnapError.TheVariants.{Fault, NoMemory}
use Rattle.sys_snap.specs.declared.fault.SnapFault.{SnapFault}

abbrev pub Reads : {A : Type 0} → Reading A → Rest → Rest → Result A SnapFault → Type 0
Reads p before after (Ok value) = p before ≡ results.Ok (record { value = value; rest = after })
Reads p before after (Err fault) = p before ≡ results.Err fault

-- what a function answers whose value clauses see as another
abbrev pub ReadsSeen : {A B : Type 0} → (B → A) → Reading A → Rest → Rest → Result B SnapFault → Type 0
ReadsSeen seen p before after (Ok value) = p before ≡ results.Ok (record { value = seen value; rest = after })
ReadsSeen seen p before after (Err fault) = p before ≡ results.Err fault

-- and where it takes memory, of which there may be too little
abbrev pub ReadsOrLacks : {A B : Type 0} → (B → A) → Reading A → Rest → Rest → Result B SnapError → Type 0
ReadsOrLacks seen p before after (Ok value) = p before ≡ results.Ok (record { value = seen value; rest = after })
ReadsOrLacks seen p before after (Err (Fault fault)) = p before ≡ results.Err fault
ReadsOrLacks seen p before after (Err NoMemory) = Unit {0}
