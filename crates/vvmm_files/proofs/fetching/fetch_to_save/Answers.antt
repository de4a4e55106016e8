use Rattle.std.proofs.Common.{ℕ, ◌∙◌, List, Option, ap, length, map, refl, subst, sym}
use Rattle.std.proofs.lemmas.Bool.{MatchBool-at_false, MatchBool-at_true}
use Rattle.std.proofs.lemmas.List.{length-map}
use Rattle.std.proofs.lemmas.Result.{err_from_is_err_and}
use Rattle.sys_objects.specs.declared.records.GuestRow.{GuestRow}
use Rattle.vv_io.specs.Shelf.{File}
use Rattle.vvmm_files.proofs.Stopping.{as_many_images, images_stop_save, script_stops_save}
use Rattle.vvmm_files.specs.Files.{AreImages, FitsSnap, HasConfig, HasScript, IsTooLarge}
use Rattle.vvmm_files.specs.Words.{RunWords}
use Rattle.vvmm_files.proofs.fetching.fetch_to_save.Goals as goal

pub returns-in_err-events-clause-fetches : goal.returns-in_err-events-clause-fetches
returns-in_err-events-clause-fetches g c =
    let p = err_from_is_err_and c.from_residual-in_err-events.result c.from_residual-in_err-events.ensures.1 in
    let a : RunWords = record { config = c.args.order.now.config; script = c.args.order.now.script; rounds = c.args.order.now.rounds } in
    let has : HasConfig (g.S.Shelf.files c.args.shelf.now) c.args.order.now.config c.in_ok-read.read.config = record { text = c.in_ok-read.read.text.items; read = c.in_ok-read.ensures.fetches.0; means = c.in_ok-read.ensures.fetches.1 } in
    rw (p.1, p.2) (script_stops_save (g.S.Shelf.files c.args.shelf.now) (g.S.Shelf.files c.fetch_text.new.shelf) a (g.S.Shelf.faults c.args.shelf.now) (g.S.Shelf.faults c.fetch_text.new.shelf) (g.S.Shelf.faults c.fetch_script.new.shelf) c.in_ok-read.read.config has
    c.fetch_text.ensures.files c.in_ok-read.ensures.fetches.2 _ c.in_err-events.ensures.fetches)

pub returns-then-not-fits_snap-clause-fetches : goal.returns-then-not-fits_snap-clause-fetches
returns-then-not-fits_snap-clause-fetches g c =
    let has : HasConfig (g.S.Shelf.files c.args.shelf.now) c.args.order.now.config c.in_ok-read.read.config = record { text = c.in_ok-read.read.text.items; read = c.in_ok-read.ensures.fetches.0; means = c.in_ok-read.ensures.fetches.1 } in (
      record {
        config = c.in_ok-read.read.config;
        events = c.in_ok-events.events.items;
        has_config = has;
        has_script = subst (λ (files : Option (List File)). HasScript files c.args.order.now.script c.in_ok-events.events.items) c.fetch_text.ensures.files c.in_ok-events.ensures.fetches.0;
        large = subst (λ (bytes : List ℕ). IsTooLarge bytes c.in_ok-read.read.config) c.as_slice.ensures.value (MatchBool-at_false _ _ c.if-not-fits_snap.true c.fits_snap.ensures);
      },
      c.in_ok-events.ensures.fetches.1 ∙ c.in_ok-read.ensures.fetches.2,
    )

pub returns-in_err-images-clause-fetches : goal.returns-in_err-images-clause-fetches
returns-in_err-images-clause-fetches g c =
    let p = err_from_is_err_and c.from_residual-in_err-images.result c.from_residual-in_err-images.ensures.1 in
    let a : RunWords = record { config = c.args.order.now.config; script = c.args.order.now.script; rounds = c.args.order.now.rounds } in
    let has : HasConfig (g.S.Shelf.files c.args.shelf.now) c.args.order.now.config c.in_ok-read.read.config = record { text = c.in_ok-read.read.text.items; read = c.in_ok-read.ensures.fetches.0; means = c.in_ok-read.ensures.fetches.1 } in
    let has_script = subst (λ (files : Option (List File)). HasScript files c.args.order.now.script c.in_ok-events.events.items) c.fetch_text.ensures.files c.in_ok-events.ensures.fetches.0 in
    let fits = subst (λ (bytes : List ℕ). FitsSnap bytes c.in_ok-read.read.config) c.as_slice.ensures.value (MatchBool-at_true _ _ c.if-not-fits_snap.false c.fits_snap.ensures) in
    rw (p.1, p.2) (images_stop_save (g.S.Shelf.files c.args.shelf.now) (g.S.Shelf.files c.fetch_script.new.shelf) a (g.S.Shelf.faults c.args.shelf.now) (g.S.Shelf.faults c.fetch_script.new.shelf) (g.S.Shelf.faults c.fetch_images.new.shelf) c.in_ok-read.read.config c.in_ok-events.events.items c.as_slice-2.result.now has has_script fits
    (c.fetch_script.ensures.files ∙ c.fetch_text.ensures.files) (c.in_ok-events.ensures.fetches.1 ∙ c.in_ok-read.ensures.fetches.2) c.as_slice-2.ensures _ c.in_err-images.ensures.fetches)

pub returns-clause-fetches : goal.returns-clause-fetches
returns-clause-fetches g c =
    let images : List (List ℕ) = map (λ b. b.items) c.in_ok-images.images.items in
    let has : HasConfig (g.S.Shelf.files c.args.shelf.now) c.args.order.now.config c.in_ok-read.read.config = record { text = c.in_ok-read.read.text.items; read = c.in_ok-read.ensures.fetches.0; means = c.in_ok-read.ensures.fetches.1 } in
    let fetched = subst (λ (files : Option (List File)). AreImages files c.as_slice-2.result.now images) (c.fetch_script.ensures.files ∙ c.fetch_text.ensures.files) c.in_ok-images.ensures.fetches.0 in (
      record {
        all = record {
          config = has;
          script = subst (λ (files : Option (List File)). HasScript files c.args.order.now.script c.in_ok-events.events.items) c.fetch_text.ensures.files c.in_ok-events.ensures.fetches.0;
          fetched = subst (λ (rows : List GuestRow). AreImages (g.S.Shelf.files c.args.shelf.now) rows images) c.as_slice-2.ensures fetched;
        };
        is = refl;
        fits = subst (λ (bytes : List ℕ). FitsSnap bytes c.in_ok-read.read.config) c.as_slice.ensures.value (MatchBool-at_true _ _ c.if-not-fits_snap.false c.fits_snap.ensures);
      },
      c.in_ok-images.ensures.fetches.1 ∙ c.in_ok-events.ensures.fetches.1 ∙ c.in_ok-read.ensures.fetches.2,
    )

pub returns-clause-images : goal.returns-clause-images
returns-clause-images g c = sym (length-map c.in_ok-images.images.items (λ b. b.items)) ∙ as_many_images _ _ _ c.in_ok-images.ensures.fetches.0 ∙ ap length c.as_slice-2.ensures
