use Rattle.std.proofs.Common.{refl}
use Rattle.vv_class.specs.Scan.{class_of}
use Rattle.vv_class.proofs.Numbers.{class_read}
use Rattle.vv_class.proofs.Places.{written_is_read, one_class, text_length, reads_text, faults_at}
use Rattle.vv_class.proofs.text.text_laws.Goals as goal

pub returns-clause-one_class : goal.returns-clause-one_class
returns-clause-one_class c = one_class

pub returns-clause-read : goal.returns-clause-read
returns-clause-read c = written_is_read

pub returns-clause-short : goal.returns-clause-short
returns-clause-short c = text_length

pub returns-clause-written : goal.returns-clause-written
returns-clause-written c = λ b. reads_text b (class_of b) refl

pub returns-clause-place : goal.returns-clause-place
returns-clause-place c = λ b. faults_at b (class_of b) refl

pub returns-clause-class : goal.returns-clause-class
returns-clause-class c = λ b. class_read b (class_of b) refl
