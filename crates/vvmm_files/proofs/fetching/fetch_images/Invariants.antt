use Rattle.std.proofs.Common.{◌≡◌, map, take}
use Rattle.vvmm_files.specs.Files.{AreImages}
use Rattle.vvmm_files.proofs.fetching.fetch_images.Given as goal

abbrev pub invariant-loop-guest : goal.invariant-loop-guest
invariant-loop-guest g l = record {
  fetched : AreImages (g.S.Shelf.files l.fn.shelf) (take l.guest-index l.guests) (map (λ b. b.items) l.images.items);
  files : g.S.Shelf.files l.shelf ≡ g.S.Shelf.files l.fn.shelf;
  faults : g.S.Shelf.faults l.shelf ≡ g.S.Shelf.faults l.fn.shelf;
}
