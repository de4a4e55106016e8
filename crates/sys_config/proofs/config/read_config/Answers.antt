use Rattle.toml.specs.View.{table_view}
use Rattle.sys_config.proofs.Accepted.{read_is}
use Rattle.sys_config.proofs.config.read_config.Goals as goal

pub returns-clause-accepted : goal.returns-clause-accepted
returns-clause-accepted c = read_is c.of_table.result (table_view c.in_ok-table.table) c.of_table.ensures
