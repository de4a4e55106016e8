use Rattle.std.proofs.Common.{◌∙◌, List, Option, subst}
use Rattle.vv_io.specs.Shelf.{File}
use Rattle.vvmm_files.specs.Files.{HasScript}
use Rattle.vvmm_files.proofs.fetching.fetch_to_resume.Goals as goal

pub returns-clause-fetches : goal.returns-clause-fetches
returns-clause-fetches g c = (
  record {
    snap = c.in_ok-read.ensures.fetches.0;
    script = subst (λ (files : Option (List File)). HasScript files c.args.order.now.script c.in_ok-events.events.items) c.fetch_snap.ensures.files c.in_ok-events.ensures.fetches.0;
  },
  c.in_ok-read.ensures.fetches.1,
  c.in_ok-events.ensures.fetches.1 ∙ c.in_ok-read.ensures.fetches.2,
)
