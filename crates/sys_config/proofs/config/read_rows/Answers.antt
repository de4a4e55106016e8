use Rattle.std.proofs.Common.{arith}
use Rattle.sys_config.proofs.config.read_rows.Goals as goal

pub returns-clause-few : goal.returns-clause-few
returns-clause-few c = record {
  terminals = rw (c.new.ensures, c.in_ok-terminals.ensures.count) c.in-Some.ensures.most;
  volumes = rw (c.new-2.ensures, c.in_ok-volumes.ensures.count) c.in-Some-tables_at.ensures.most;
  printers = rw (c.new-3.ensures, c.in_ok-printers.ensures.count) c.in-Some-tables_at-2.ensures.most;
  guests = rw (c.new-4.ensures, c.in_ok-guests.ensures.count) (omega (arith, c.in-Some-tables_at-3.ensures.most, c.most_guests.ensures.most));
}
