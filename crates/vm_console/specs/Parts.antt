-- A console as plain data, as it is written out and read back.
use Rattle.vm_console.specs.declared.ConsoleParts.{ConsoleParts}
use Rattle.vm_console.specs.Console.{ConsoleState}

-- the parts of a console
abbrev pub parts_of_console : ConsoleState → ConsoleParts
parts_of_console console =
    record { rx_enable = console.rx_enable; tx_enable = console.tx_enable; rx_request = console.rx_request; tx_request = console.tx_request; waiting = console.waiting }

-- the console that has these parts
abbrev pub console_of_parts : ConsoleParts → ConsoleState
console_of_parts parts =
    record { waiting = parts.waiting; rx_enable = parts.rx_enable; rx_request = parts.rx_request; tx_enable = parts.tx_enable; tx_request = parts.tx_request }
