-- What is read, with a list in front of it that was read before.
use Rattle.std.specs.Prelude.{List, ◌++◌, Result, Ok, Err}
use Rattle.sys_snap.specs.Reading.{Got}
use Rattle.sys_snap.specs.declared.fault.SnapFault.{SnapFault}

abbrev pub after_front : {A : Type 0} → List A → Result (Got (List A)) SnapFault → Result (Got (List A)) SnapFault
after_front front (Ok got) = Ok (record { value = front ++ got.value; rest = got.rest })
after_front front (Err fault) = Err fault
