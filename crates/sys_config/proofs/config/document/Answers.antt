use Rattle.std.proofs.Common.{◌≡◌, ℕ, List, None, Err, inl, inr, IsUtf8, sym, ◌∙◌}
use Rattle.std.specs.Str.{is_utf8}
use Rattle.std.proofs.lemmas.Bool.{cases_Bool, false≢true}
use Rattle.std.proofs.lemmas.Str.{is_utf8-from_IsUtf8, IsUtf8-from_is_utf8}
use Rattle.toml.specs.Parse.{parse_document}
use Rattle.sys_objects.specs.Faults.{by_rule, fault}
use Rattle.sys_config.specs.Config.{document_of}
use Rattle.sys_config.proofs.config.document.Goals as goal

pub returns-in-Ok : goal.returns-in-Ok
returns-in-Ok c = rw (is_utf8-from_IsUtf8 _ c.in-Ok.ensures.ok.0, c.in-Ok.ensures.ok.1)

refused : (bs : List ℕ) → (IsUtf8 bs → parse_document bs ≡ None) → by_rule 0 0 (document_of bs) ≡ Err (fault 0 0)
refused bs h =
    elim (cases_Bool (is_utf8 bs)) [
      | inl same ↦ rw (same, h (IsUtf8-from_is_utf8 bs same))
      | inr other ↦ rw other
    ]

pub returns-else-is_memory : goal.returns-else-is_memory
returns-else-is_memory c = rw c.fault.ensures (refused _ (c.in-Err.ensures.refused (λ m. false≢true (sym c.if-is_memory.false ∙ c.is_memory.ensures.1 m))))
