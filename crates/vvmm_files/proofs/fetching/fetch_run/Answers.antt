use Rattle.std.proofs.Common.{◌∙◌, sym, ap, length}
use Rattle.std.proofs.lemmas.List.{length-map}
use Rattle.vvmm_files.proofs.Stopping.{as_many_images}
use Rattle.vvmm_files.proofs.fetching.fetch_run.Goals as goal

pub returns-clause-images : goal.returns-clause-images
returns-clause-images g c = sym (length-map c.in_ok-images.images.items (λ b. b.items)) ∙ as_many_images _ _ _ c.in_ok-images.ensures.fetches.0 ∙ ap length c.as_slice.ensures
