-- What a line asks for, before its text is copied.
use Rattle.sys_script.specs.declared.event.Typed.{Typed}
use Rattle.sys_script.specs.declared.event.Typed.TheVariants as typed
use Rattle.sys_script.specs.declared.line.Asked.{Asked}
use Rattle.sys_script.specs.declared.line.Asked.TheVariants.{Break, Line}

abbrev pub typed_as_asked : Asked → Typed
typed_as_asked Break = typed.Break
typed_as_asked (Line text) = typed.Line text.now
