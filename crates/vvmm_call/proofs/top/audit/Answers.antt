use Rattle.std.proofs.Common.{ℕ, List, Err, inr, refl, subst}
use Rattle.sys_audit_check.specs.Lines.{Checks}
use Rattle.vvmm_call.proofs.top.audit.Goals as goal

pub returns : goal.returns
returns g c = inr (record {
  config = c.in-Ok.recorded.config;
  bytes = c.in-Ok.recorded.bytes.items;
  result = Err c.in-Err-check_audit.fault;
  has = c.in-Ok.ensures.fetches.0;
  read = c.in-Ok.ensures.fetches.1;
  shelf = c.in-Ok.ensures.fetches.2;
  checks = subst (λ (bytes : List ℕ). Checks c.in-Ok.recorded.config bytes (Err c.in-Err-check_audit.fault)) c.as_slice.ensures.value c.in-Err-check_audit.ensures;
  answers = (refl, refl);
})
