-- A command that was read of a line's bytes.
use Rattle.sys_audit_check.specs.Audited.{Entry}
use Rattle.sys_audit_check.specs.declared.reading.Entry.{Entry as Read}

abbrev pub entry_view : Read → Entry
entry_view e = record { round = e.round; terminal = e.terminal; text = e.text.now }
