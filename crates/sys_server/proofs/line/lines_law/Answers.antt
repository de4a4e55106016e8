use Rattle.sys_server.proofs.Reading.{lines_are_read}
use Rattle.sys_server.proofs.Written.{lines_are_written}
use Rattle.sys_server.proofs.line.lines_law.Goals as goal

pub returns-clause-read : goal.returns-clause-read
returns-clause-read c = lines_are_read

pub returns-clause-written : goal.returns-clause-written
returns-clause-written c = lines_are_written
