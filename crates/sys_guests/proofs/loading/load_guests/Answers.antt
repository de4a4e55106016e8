use Rattle.std.proofs.Common.{◌∙◌, ◌+◌, ◌*◌, ◌≡◌, ◌≤◌, ℕ, List, length, map, refl, sym, subst, arith}
use Rattle.std.proofs.lemmas.List.{length-map}
use Rattle.std.specs.List.{All, sum_by}
use Rattle.sys_guests.proofs.Present.{first_present}
use Rattle.sys_guests.proofs.Entering.{ArePutIn, all_put_in, one_put_in}
use Rattle.sys_guests.proofs.Powering.{all_more, alone_then, beside_at, beside_long, each_fits, map_at}
use Rattle.sys_guests.specs.Loads.{HasFirst, LoadsGuest}
use Rattle.sys_state.specs.Guests.{powered}
use Rattle.sys_state.specs.Places.{beside_with}
use Rattle.vm_state.specs.State.{Guest}
use Rattle.sys_guests.proofs.loading.load_guests.Goals as goal

pub load_guest-requires-clause-fits : goal.load_guest-requires-clause-fits
load_guest-requires-clause-fits g c =
    let row = c.index-rows-place.result in
    let image = c.index-images-place.result in
    let k = c.loop-place.place in
    let images : List (List ℕ) = map (λ b. b.items) c.args.images.now in
    let long : length images ≡ length c.args.rows.now = length-map c.args.images.now (λ b. b.items) ∙ c.requires.images in
    let fits : row.load + length image.items ≤ 512 * row.pages = each_fits c.args.rows.now images k row image.items c.requires.fit c.loop-place-test.true long c.index-rows-place.is (map_at (λ b. b.items) c.args.images.now k image (omega (arith, c.requires.images)) c.index-images-place.is) in
    omega (arith, fits, c.deref.ensures.len)

pub loop-place-preserved : goal.loop-place-preserved
loop-place-preserved g c =
    let row = c.index-rows-place.result in
    let image = c.index-images-place.result in
    let k = c.loop-place.place in
    let images : List (List ℕ) = map (λ b. b.items) c.args.images.now in
    let long : length images ≡ length c.args.rows.now = length-map c.args.images.now (λ b. b.items) ∙ c.requires.images in
    let before = (g.H.Hardware.machine c.loop-place.machine).memory in
    let after = (g.H.Hardware.machine c.load_guest.new.machine).memory in
    let all = sum_by (λ r. r.pages) c.args.rows.now in
    let one : LoadsGuest row image.items c.loop-place.base c.loop-place.tables before after c.in_ok-load_guest.field-0 = subst (λ (bytes : List ℕ). LoadsGuest row bytes c.loop-place.base c.loop-place.tables before after c.in_ok-load_guest.field-0) c.deref.ensures.value c.in_ok-load_guest.ensures.ok in
    let read' = map_at (λ b. b.items) c.args.images.now k image (omega (arith, c.requires.images)) c.index-images-place.is in
    let hs : List Guest = beside_with powered c.args.rows.now images in
    let many : length hs ≡ length c.args.rows.now = beside_long powered c.args.rows.now images (sym long) in
    let here = beside_at powered c.args.rows.now images k row image.items c.loop-place-test.true (omega (arith, c.loop-place-test.true, long)) c.index-rows-place.is read' in
    record {
      loaded = subst (λ xs. ArePutIn c.args.rows.now hs all (k + 1) (c.loop-place.base + row.pages) (c.loop-place.tables + 580) xs after) (sym c.in_ok-push.ensures.items)
          (one_put_in c.args.rows.now hs all k c.loop-place.base c.loop-place.tables c.loop-place.guests.items before after row (powered row image.items) c.in_ok-load_guest.field-0 refl c.loop-place-test.true c.index-rows-place.is (omega (arith, c.loop-place-test.true, many)) here one c.loop-place.invariant.loaded);
      first = subst (λ xs. All HasFirst xs) (sym c.in_ok-push.ensures.items) (all_more HasFirst c.loop-place.guests.items c.in_ok-load_guest.field-0 c.loop-place.invariant.first c.in_ok-load_guest.ensures.present);
      alone = alone_then _ _ _ c.loop-place.invariant.alone c.load_guest.ensures.alone;
    }

pub returns-clause-present : goal.returns-clause-present
returns-clause-present g c = first_present c.loop-place.guests.items c.loop-place.invariant.first (g.H.Hardware.machine c.loop-place.machine).memory

pub returns-clause-guests : goal.returns-clause-guests
returns-clause-guests g c =
    let rows = c.args.rows.now in
    let images : List (List ℕ) = map (λ b. b.items) c.args.images.now in
    let long : length images ≡ length rows = length-map c.args.images.now (λ b. b.items) ∙ c.requires.images in
    let hs : List Guest = beside_with powered rows images in
    let many : length hs ≡ length rows = beside_long powered rows images (sym long) in
    (all_put_in rows hs (sum_by (λ r. r.pages) rows) c.loop-place.place c.loop-place.base c.loop-place.tables c.loop-place.guests.items (g.H.Hardware.machine c.loop-place.machine).memory refl c.loop-place-test.false many c.requires.few c.requires.some_pages c.loop-place.invariant.loaded).1
