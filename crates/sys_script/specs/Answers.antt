-- What reading may answer: what is defined, or that memory ran out.
use Rattle.std.specs.Prelude.{◌≡◌, Result, Ok, Err}
use Rattle.sys_script.specs.declared.event.ScriptError.{ScriptError}
use Rattle.sys_script.specs.declared.event.ScriptError.TheVariants.{Fault, NoMemory}
use Rattle.sys_script.specs.declared.event.ScriptFault.{ScriptFault}

abbrev pub IsScriptAnswer : {A B : Type 0} → (B → A) → Result A ScriptFault → Result B ScriptError → Type 0
IsScriptAnswer seen defined (Ok x) = defined ≡ Ok (seen x)
IsScriptAnswer seen defined (Err (Fault fault)) = defined ≡ Err fault
IsScriptAnswer seen defined (Err NoMemory) = Unit {0}
