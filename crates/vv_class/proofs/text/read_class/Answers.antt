use Rattle.vv_class.proofs.Numbers.{class_read}
use Rattle.vv_class.proofs.Places.{reads_text, each_is_read, faults_at, refuses_others}
use Rattle.vv_class.proofs.text.read_class.Goals as goal

pub returns-clause-ok : goal.returns-clause-ok
returns-clause-ok c = reads_text c.args.b.now c.scan_text.result c.scan_text.ensures

pub returns-clause-each : goal.returns-clause-each
returns-clause-each c = each_is_read c.args.b.now c.scan_text.result c.scan_text.ensures

pub returns-clause-fault : goal.returns-clause-fault
returns-clause-fault c = faults_at c.args.b.now c.scan_text.result c.scan_text.ensures

pub returns-clause-refused : goal.returns-clause-refused
returns-clause-refused c = refuses_others c.args.b.now c.scan_text.result c.scan_text.ensures

pub returns-clause-class : goal.returns-clause-class
returns-clause-class c = class_read c.args.b.now c.scan_text.result c.scan_text.ensures
