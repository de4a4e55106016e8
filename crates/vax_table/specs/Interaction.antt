-- What an instruction does in order: accesses and tests, and then a result. An interaction is interpreted over a
-- space; from the one interaction follow the result, the first trouble, and the bytes that were asked for
-- (VAX Architecture Reference Manual: instruction execution, and the order of operand accesses).
use Rattle.std.specs.Prelude.{◌≡◌, ℕ, zero, suc, ◌+◌, ◌*◌, ◌%◌, ◌^◌, Bool, true, false, List, [], ◌∷◌, ◌++◌, ◌⊎◌, Result, Ok, Err}
use Rattle.vax_arch.specs.declared.mode.Intent.{Intent}
use Rattle.vax_table.specs.declared.act.Refusal.{Refusal}

-- why a space has no byte: not valid; refused by its code or by a length; beyond memory
pub data Cause : Type 0 where
  Absent Refusing Past : Cause

-- the cause of a fault, by whether it is of a page that isn't valid
abbrev pub cause_of : Bool → Cause
cause_of true = Absent
cause_of false = Refusing

-- what an interaction stops at: the first byte of a reference that has trouble, or a test that refuses the instruction
pub data Trouble : Type 0 where
  At : Cause → Intent → ℕ → Trouble
  Test : Refusal → Trouble

-- a space: the byte at an address, for reading or for writing, or why there is none
abbrev pub Space : Type 0
Space = Intent → ℕ → Result ℕ Cause

-- one byte more at the low end of a number; the first trouble counts
abbrev pub with_byte : Intent → ℕ → Result ℕ Cause → Result ℕ Trouble → Result ℕ Trouble
with_byte i a (Err c) rest = Err (At c i a)
with_byte i a (Ok b) (Err t) = Err t
with_byte i a (Ok b) (Ok n) = Ok (b + 256 * n)

-- the number of k bytes from an address, the lowest first, or the first trouble; addresses wrap at 32 bits
abbrev pub number_at : Space → Intent → ℕ → ℕ → Result ℕ Trouble
number_at s i zero a = Ok 0
number_at s i (suc k) a = with_byte i (a % 2 ^ 32) (s i (a % 2 ^ 32)) (number_at s i k (a + 1))

-- An interaction: it is done, it refuses, or it touches a number of bytes from an address on and goes on with their value.
pub data Interaction (A : Type 0) : Type 0 where
  Done : A → Interaction A
  Refuse : Refusal → Interaction A
  Touch : Intent → (at size : ℕ) → (ℕ → Interaction A) → Interaction A

-- one interaction and then another
infixl 10 ◌>>=◌
abbrev pub ◌>>=◌ : {A B : Type 0} → Interaction A → (A → Interaction B) → Interaction B
(Done a) >>= g = g a
(Refuse t) >>= g = Refuse t
(Touch i a k f) >>= g = Touch i a k (λ v. f v >>= g)

-- what follows a result: of its value, or of its error
abbrev pub by_result : {A E B : Type 0} → Result A E → (A → B) → (E → B) → B
by_result (Ok a) follows stops = follows a
by_result (Err e) follows stops = stops e

-- An interaction over a space: what it comes to where it is done, where it has its first trouble, and what a touch makes
-- of what follows it.
abbrev pub interpreted : {A B : Type 0} → Space → (A → B) → (Trouble → B) → (Intent → (at size : ℕ) → B → B) → Interaction A → B
interpreted s done stops touched (Done a) = done a
interpreted s done stops touched (Refuse t) = stops (Test t)
interpreted s done stops touched (Touch i a k f) = touched i a k (by_result (number_at s i k a) (λ v. interpreted s done stops touched (f v)) stops)

-- the outcome: the first trouble counts
abbrev pub outcome : {A : Type 0} → Space → Interaction A → Result A Trouble
outcome s m = interpreted s Ok Err (λ i a k rest. rest) m

-- Wherever the first space answers, the second answers alike.
abbrev pub Below : Space → Space → Type 0
Below s t = (i : Intent) (a b : ℕ) → s i a ≡ Ok b → t i a ≡ Ok b

-- An outcome over the second space, given one over the first: the same, but for an access at which the first is
-- silent; there the second has its own trouble, or goes on.
abbrev pub AsFar : {A : Type 0} → Space → Space → Result A Trouble → Result A Trouble → Type 0
AsFar s t (Ok x) r = r ≡ Ok x
AsFar s t (Err (Test k)) r = r ≡ Err (Test k)
AsFar s t (Err (At c i a)) r = (s i a ≡ Err c) × ((d : Cause) → t i a ≡ Err d → r ≡ Err (At d i a))

-- what touches give, up to and with the first that has trouble
abbrev pub gathered : {A : Type 0} → Space → (Intent → (at size : ℕ) → List ℕ) → Interaction A → List ℕ
gathered s bytes m = interpreted s (λ a. []) (λ t. []) (λ i a k rest. bytes i a k ++ rest) m

-- the bytes of a number that are asked for, up to and with the first that has trouble
abbrev pub asked : Space → Intent → ℕ → ℕ → List ℕ
asked s i zero a = []
asked s i (suc k) a = a % 2 ^ 32 ∷ by_result (s i (a % 2 ^ 32)) (λ b. asked s i k (a + 1)) (λ c. [])

-- the bytes that an interaction asks for, up to and with the first that has trouble
abbrev pub reached : {A : Type 0} → Space → Interaction A → List ℕ
reached s m = gathered s (λ i a k. asked s i k a) m

abbrev pub IsIn : ℕ → List ℕ → Type 0
IsIn x [] = ⊥
IsIn x (y ∷ ys) = (x ≡ y) ⊎ IsIn x ys
