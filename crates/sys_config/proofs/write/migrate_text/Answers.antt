use Rattle.sys_config.proofs.PrintedAgain.{document_back, config_back, version_back}
use Rattle.sys_config.proofs.Shallow.{is_shallow}
use Rattle.sys_config.proofs.write.migrate_text.Goals as goal

pub returns-in-Ok-clause-same : goal.returns-in-Ok-clause-same
returns-in-Ok-clause-same c =
    rw c.into_bytes.ensures.value (config_back c.args.c.now c.requires _ (document_back c.args.c.now _ _ c.in_ok-table.ensures c.is_text.ensures c.in-Ok.ensures.reads_back (is_shallow c.args.c.now)))

pub returns-in-Ok-clause-version : goal.returns-in-Ok-clause-version
returns-in-Ok-clause-version c =
    rw c.into_bytes.ensures.value (version_back c.args.c.now _ (document_back c.args.c.now _ _ c.in_ok-table.ensures c.is_text.ensures c.in-Ok.ensures.reads_back (is_shallow c.args.c.now)))
