use Rattle.std.proofs.Common.{◌∙◌, length, refl, subst, List, ℕ, map}
use Rattle.std.proofs.lemmas.List.{take_all}
use Rattle.std.proofs.lemmas.Option.{slice_get_read}
use Rattle.std.proofs.lemmas.Result.{err_from_is_err_and}
use Rattle.sys_objects.specs.declared.records.GuestRow.{GuestRow}
use Rattle.vvmm_files.proofs.Stopping.{fetch_stops, one_more_fetched}
use Rattle.vvmm_files.specs.Files.{AreImages}
use Rattle.vvmm_files.proofs.fetching.fetch_images.Goals as goal

pub returns-in_err-image-clause-fetches : goal.returns-in_err-image-clause-fetches
returns-in_err-image-clause-fetches g c =
    let p = err_from_is_err_and c.from_residual.result c.from_residual.ensures.1 in
    let rows : List GuestRow = c.args.guests.now in
    let row : GuestRow = c.guest-item.result in
    let held = c.loop-guest.invariant in
    rw (p.1, p.2) (fetch_stops (g.S.Shelf.files c.args.shelf.now) (g.S.Shelf.files c.loop-guest.shelf) rows (g.S.Shelf.faults c.args.shelf.now) (g.S.Shelf.faults c.loop-guest.shelf) (g.S.Shelf.faults c.fetch_file.new.shelf) c.loop-guest.guest-index row _ _
    held.files held.faults held.fetched (slice_get_read rows (length rows) c.loop-guest.guest-index row refl c.loop-guest-test.true c.guest-item.is) c.in_err-image.ensures.fetches)

pub returns-in_err-image-clause-files : goal.returns-in_err-image-clause-files
returns-in_err-image-clause-files g c = c.fetch_file.ensures.files ∙ c.loop-guest.invariant.files

pub returns-in_err-push-clause-files : goal.returns-in_err-push-clause-files
returns-in_err-push-clause-files g c = c.fetch_file.ensures.files ∙ c.loop-guest.invariant.files

pub loop-guest-preserved : goal.loop-guest-preserved
loop-guest-preserved g c =
    let rows : List GuestRow = c.args.guests.now in
    let row : GuestRow = c.guest-item.result in
    let held = c.loop-guest.invariant in
    record {
      fetched = one_more_fetched (g.S.Shelf.files c.args.shelf.now) (g.S.Shelf.files c.loop-guest.shelf) rows c.loop-guest.guest-index row c.loop-guest.images.items c.push.new.self.items c.in_ok-image.image held.files c.in_ok-push.ensures.items
          (slice_get_read rows (length rows) c.loop-guest.guest-index row refl c.loop-guest-test.true c.guest-item.is) held.fetched c.in_ok-image.ensures.fetches.0;
      files = c.fetch_file.ensures.files ∙ held.files;
      faults = c.in_ok-image.ensures.fetches.1 ∙ held.faults;
    }

pub returns-clause-fetches : goal.returns-clause-fetches
returns-clause-fetches g c =
    let rows : List GuestRow = c.args.guests.now in
    let images : List (List ℕ) = map (λ b. b.items) c.loop-guest.images.items in
    (subst (λ (rs : List GuestRow). AreImages (g.S.Shelf.files c.args.shelf.now) rs images) (take_all c.loop-guest.guest-index rows c.loop-guest-test.false) c.loop-guest.invariant.fetched, c.loop-guest.invariant.faults)

pub returns-clause-files : goal.returns-clause-files
returns-clause-files g c = c.loop-guest.invariant.files
