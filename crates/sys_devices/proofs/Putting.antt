-- One put of a text on a sink.
use Rattle.std.proofs.Common.{ℕ, ◌≡◌, List, sym, subst, Bool, true, Result}
use Rattle.std.specs.declared.result.Result.TheVariants.{Err}
use Rattle.vv_io.specs.Lines.{Seen, Puts}
use Rattle.sys_devices.proofs.Puts.{shows}
use Rattle.sys_devices.specs.ShownSince.{ShownSince}

-- it fails
pub put_failed : {U E : Type 0} (failed : Bool) (before after : Seen) (bytes text : List ℕ) (e : E) → failed ≡ true → bytes ≡ text → (let r : Result U E = Err e in Puts before after bytes r) → ShownSince failed before after text
put_failed {U} {E} failed before after bytes text e fault is puts =
    let r : Result U E = Err e in
    let cut : ShownSince true before after bytes = shows before after bytes r puts in
    subst (λ (b : Bool). ShownSince b before after text) (sym fault) (subst (ShownSince true before after) is cut)
