-- Rules that are tested in their order, and what a reader may answer: what the rules say, unless memory is lacking.
use Rattle.std.specs.Prelude.{◌≡◌, ℕ, Option, Some, None, Result, Ok, Err}
use Rattle.sys_objects.specs.declared.errors.ConfigFault.{ConfigFault}
use Rattle.sys_objects.specs.declared.errors.ConfigError.{ConfigError}
use Rattle.sys_objects.specs.declared.errors.ConfigError.TheVariants.{Fault, NoMemory}

-- the answer is what is defined; `seen` is what a clause sees of a value
abbrev pub IsConfigAnswer : {A B : Type 0} → (A → B) → Result A ConfigError → Result B ConfigFault → Type 0
IsConfigAnswer seen (Ok x) defined = defined ≡ Ok (seen x)
IsConfigAnswer seen (Err (Fault fault)) defined = defined ≡ Err fault
IsConfigAnswer seen (Err NoMemory) defined = Unit {0}

-- the first fault counts
infixl 10 ◌>>=◌
abbrev pub ◌>>=◌ : {A B : Type 0} → Result A ConfigFault → (A → Result B ConfigFault) → Result B ConfigFault
(Ok x) >>= f = f x
(Err fault) >>= f = Err fault

abbrev pub fault : ℕ → ℕ → ConfigFault
fault rule place = record { rule = rule; place = place }

-- a rule that asks for something: it fails at that place where there is none
abbrev pub by_rule : {A : Type 0} → ℕ → ℕ → Option A → Result A ConfigFault
by_rule rule place (Some x) = Ok x
by_rule rule place None = Err (fault rule place)

-- a rule that looks for a first place at which it fails
abbrev pub unless_at : ℕ → Option ℕ → Result (Unit {0}) ConfigFault
unless_at rule None = Ok tt
unless_at rule (Some place) = Err (fault rule place)
