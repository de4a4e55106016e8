use Rattle.vax_arch.proofs.Compression.{compressed_code, compresses, shares_executive}
use Rattle.vax_arch.proofs.protection.compression_law.Goals as goal

pub returns-clause-modes : goal.returns-clause-modes
returns-clause-modes c = shares_executive

pub returns-clause-code : goal.returns-clause-code
returns-clause-code c = compressed_code

pub returns-clause-rights : goal.returns-clause-rights
returns-clause-rights c = compresses
