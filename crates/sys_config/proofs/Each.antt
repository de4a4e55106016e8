-- Facts that hold of whatever a chain of steps gives.
use Rattle.std.proofs.Common.{◌≡◌, ℕ, Bool, true, false, List, [], ◌∷◌, ◌++◌, length, ◌+◌, suc, if◌then◌else◌, Option, Some, None, Result, Ok, Err, option_map, IfSome, IfOk, All, refl, arith, subst}
use Rattle.std.proofs.lemmas.List.Elements.{All-push}
use Rattle.std.proofs.Common.{length-append}
use Rattle.toml.specs.Data.{Data, Items, no_items, item, Members, as_table}
use Rattle.sys_objects.specs.declared.errors.ConfigFault.{ConfigFault}
use Rattle.sys_config.specs.Reads as reads
use Rattle.sys_config.specs.Reads.{if_some}
use Rattle.sys_objects.specs.Faults.{◌>>=◌, by_rule, unless_at}
use Rattle.sys_config.specs.Answers.{entry_from_table, entries_from}
use Rattle.sys_config.specs.Top.{count_of}

pub each : {A B : Type 0} (P : A → Type 0) (Q : B → Type 0) (o : Option A) (f : A → Option B) → IfSome o P → ((x : A) → P x → IfSome (f x) Q) → IfSome (reads.◌>>=◌ o f) Q
each P Q None f h k = tt
each P Q (Some x) f h k = k x h

pub guarded : {A : Type 0} (P : A → Type 0) (b : Bool) (o : Option A) → IfSome o P → IfSome (if b then o else None) P
guarded P true o h = h
guarded P false o h = tt

pub anything : {A : Type 0} (o : Option A) → IfSome o (λ x. Unit {0})
anything None = tt
anything (Some x) = tt

pub maybe : {A : Type 0} (P : A → Type 0) (read : Data → Option A) → ((d : Data) → IfSome (read d) P) → (o : Option Data) → IfSome (if_some read o) (λ o. IfSome o P)
maybe P read h None = tt
maybe P read h (Some d) = mapped (read d) (h d)
  where
    mapped : (o : Option _) → IfSome o P → IfSome (option_map Some o) (λ o. IfSome o P)
    mapped None h = tt
    mapped (Some x) h = h

pub each_ok : {A B : Type 0} (P : A → Type 0) (Q : B → Type 0) (r : Result A ConfigFault) (f : A → Result B ConfigFault) → IfOk r P → ((x : A) → P x → IfOk (f x) Q) → IfOk (r >>= f) Q
each_ok P Q (Err e) f h k = tt
each_ok P Q (Ok x) f h k = k x h

pub by : {A : Type 0} (P : A → Type 0) (rule place : ℕ) (o : Option A) → IfSome o P → IfOk (by_rule rule place o) P
by P rule place None h = tt
by P rule place (Some x) h = h

pub unless : (rule : ℕ) (o : Option ℕ) → IfOk (unless_at rule o) (λ _. o ≡ None)
unless rule None = refl
unless rule (Some place) = tt

entry : {A : Type 0} (P : A → Type 0) (read : Members → Option A) → ((t : Members) → IfSome (read t) P) → (d : Data) → IfSome (entry_from_table read d) P
entry P read h d = each (λ t. Unit {0}) P (as_table d) read (anything (as_table d)) (λ t _. h t)

-- the entries of a list
pub record AreRead {A : Type 0} (P : A → Type 0) (n : ℕ) (rows : List A) : Type 0 where
  pub each : All P rows
  pub count : length rows ≡ n

pub entries : {A : Type 0} (P : A → Type 0) (rule : ℕ) (read : Members → Option A) → ((t : Members) → IfSome (read t) P)
    → (ds : Items) (done : List A) → All P done → IfOk (entries_from rule read done ds) (AreRead P (length done + count_of ds))
entries P rule read h no_items done all = record { each = all; count = omega arith }
entries {A} P rule read h (item d ds) done all =
    each_ok P (AreRead P (length done + suc (count_of ds))) (by_rule rule (length done) (entry_from_table read d)) _ (by P rule (length done) (entry_from_table read d) (entry P read h d))
    (λ x is. moved x (entries P rule read h ds (done ++ x ∷ []) (All-push P done x all is)))
  where
    same : (x : A) → length (done ++ x ∷ []) + count_of ds ≡ length done + suc (count_of ds)
    same x = omega (arith, length-append done (x ∷ []))

    moved : (x : A) → IfOk (entries_from rule read (done ++ x ∷ []) ds) (AreRead P (length (done ++ x ∷ []) + count_of ds)) → IfOk (entries_from rule read (done ++ x ∷ []) ds) (AreRead P (length done + suc (count_of ds)))
    moved x h = subst (λ (n : ℕ). IfOk (entries_from rule read (done ++ x ∷ []) ds) (AreRead P n)) (same x) h
