use Rattle.std.proofs.Common.{◌≡◌, ◌≤◌, ◌∷◌, ◌++◌, [], ◌∙◌, ◌+◌, ◌*◌, ℕ, List, drop, length, length-append, map, refl, sym, subst, ap, arith}
use Rattle.std.proofs.lemmas.List.{length-map}
use Rattle.std.proofs.lemmas.List.Elements.{All-nil}
use Rattle.std.specs.List.{All}
use Rattle.sys_guests.proofs.Entering.{ArePutIn, all_put_in, none_put_in}
use Rattle.sys_guests.proofs.LaidOut.{pages_in}
use Rattle.sys_guests.proofs.Powering.{all_more, alone_still, alone_then}
use Rattle.sys_guests.proofs.Present.{first_present}
use Rattle.sys_guests.proofs.Resuming.{are_allowed, as_many_rows, few_pages, first_page, head_of, in_order, next_in, one_more, tables_fit, whole}
use Rattle.sys_guests.specs.Loads.{HasFirst, PutsIn}
use Rattle.sys_snap.specs.Held.{snapshot_guest}
use Rattle.vm_guest.specs.Kept.{Kept}
use Rattle.vm_state.specs.Start.{memory_with_image}
use Rattle.sys_guests.proofs.placing.place_guests.Goals as goal

pub place_guest-requires-clause-few : goal.place_guest-requires-clause-few
place_guest-requires-clause-few g c =
    let memory = (g.H.Hardware.machine c.loop-snap.machine).memory in
    let k = length c.loop-snap.guests.items in
    let next = next_in c.args.rows.now c.args.snaps.items k c.in-Some.snap c.next.new.self.rest.items (sym c.loop-snap.invariant.left ∙ c.in-Some.ensures.steps.0) c.requires.places c.requires.are c.requires.guests in
    few_pages c.args.rows.now c.args.snaps.items k c.loop-snap.tables c.loop-snap.guests.items memory c.in-Some.snap c.requires.few c.requires.some_pages c.loop-snap.invariant.put next

pub place_guest-requires-clause-order : goal.place_guest-requires-clause-order
place_guest-requires-clause-order g c =
    let memory = (g.H.Hardware.machine c.loop-snap.machine).memory in
    let k = length c.loop-snap.guests.items in
    let next = next_in c.args.rows.now c.args.snaps.items k c.in-Some.snap c.next.new.self.rest.items (sym c.loop-snap.invariant.left ∙ c.in-Some.ensures.steps.0) c.requires.places c.requires.are c.requires.guests in
    in_order c.args.rows.now c.args.snaps.items k c.loop-snap.tables c.loop-snap.guests.items memory c.in-Some.snap c.requires.few c.requires.some_pages c.loop-snap.invariant.put next

pub place_guest-requires-clause-tables : goal.place_guest-requires-clause-tables
place_guest-requires-clause-tables g c =
    let memory = (g.H.Hardware.machine c.loop-snap.machine).memory in
    let k = length c.loop-snap.guests.items in
    let next = next_in c.args.rows.now c.args.snaps.items k c.in-Some.snap c.next.new.self.rest.items (sym c.loop-snap.invariant.left ∙ c.in-Some.ensures.steps.0) c.requires.places c.requires.are c.requires.guests in
    tables_fit c.args.rows.now c.args.snaps.items k c.loop-snap.tables c.loop-snap.guests.items memory c.in-Some.snap c.requires.few c.requires.some_pages c.loop-snap.invariant.put next

pub place_guest-requires-clause-fits : goal.place_guest-requires-clause-fits
place_guest-requires-clause-fits g c =
    let memory = (g.H.Hardware.machine c.loop-snap.machine).memory in
    let k = length c.loop-snap.guests.items in
    let next = next_in c.args.rows.now c.args.snaps.items k c.in-Some.snap c.next.new.self.rest.items (sym c.loop-snap.invariant.left ∙ c.in-Some.ensures.steps.0) c.requires.places c.requires.are c.requires.guests in
    omega (arith, c.deref.ensures.len, whole c.args.rows.now c.args.snaps.items k c.loop-snap.tables c.loop-snap.guests.items memory c.in-Some.snap c.requires.few c.requires.some_pages c.loop-snap.invariant.put next)

pub place_guest-requires-clause-allowed : goal.place_guest-requires-clause-allowed
place_guest-requires-clause-allowed g c =
    let memory = (g.H.Hardware.machine c.loop-snap.machine).memory in
    let k = length c.loop-snap.guests.items in
    let next = next_in c.args.rows.now c.args.snaps.items k c.in-Some.snap c.next.new.self.rest.items (sym c.loop-snap.invariant.left ∙ c.in-Some.ensures.steps.0) c.requires.places c.requires.are c.requires.guests in
    are_allowed c.args.rows.now c.args.snaps.items k c.loop-snap.tables c.loop-snap.guests.items memory c.in-Some.snap c.requires.few c.requires.some_pages c.loop-snap.invariant.put next

pub place_guest-requires-clause-pages : goal.place_guest-requires-clause-pages
place_guest-requires-clause-pages g c =
    omega (arith, c.loop-snap.invariant.alone.size, c.requires.pages)

pub loop-snap-init : goal.loop-snap-init
loop-snap-init g c =
    let rows = c.args.rows.now in
    let snaps = c.args.snaps.items in
    let memory = (g.H.Hardware.machine c.args.machine.now).memory in
    let hs = map snapshot_guest snaps in
    let none = c.in_ok-guests.ensures.items in
    let first : ArePutIn rows hs (pages_in rows) 0 0 c.all_pages-tables.result [] memory = subst (λ t. ArePutIn rows hs (pages_in rows) 0 0 t [] memory) (sym c.all_pages-tables.ensures) (none_put_in rows hs (pages_in rows) memory) in
    record {
      put = subst (λ (ks : List Kept). ArePutIn rows hs (pages_in rows) (length ks) (first_page rows (length ks)) c.all_pages-tables.result ks memory) (sym none) first;
      left = c.into_iter-snap-iterator.ensures.into_iter_gives.0 ∙ ap (λ (ks : List Kept). drop (length ks) snaps) (sym none);
      many = omega (arith, c.into_iter-snap-iterator.ensures.into_iter_gives.1, ap (λ (ks : List Kept). length ks) none);
      first = subst (λ (ks : List Kept). All HasFirst ks) (sym none) (All-nil HasFirst);
      alone = alone_still (g.H.Hardware.machine c.args.machine.now);
    }

pub loop-snap-preserved : goal.loop-snap-preserved
loop-snap-preserved g c =
    let memory = (g.H.Hardware.machine c.loop-snap.machine).memory in
    let k = length c.loop-snap.guests.items in
    let next = next_in c.args.rows.now c.args.snaps.items k c.in-Some.snap c.next.new.self.rest.items (sym c.loop-snap.invariant.left ∙ c.in-Some.ensures.steps.0) c.requires.places c.requires.are c.requires.guests in
    let after = (g.H.Hardware.machine c.place_guest.new.machine).memory in
    let snap = c.in-Some.snap in
    let head = head_of c.args.snaps.items k snap c.next.new.self.rest.items (sym c.loop-snap.invariant.left ∙ c.in-Some.ensures.steps.0) in
    let l = c.in_ok-place_guest.field-0 in
    let one : PutsIn snap.state c.loop-snap.tables (memory_with_image (512 * snap.state.pages) 0 snap.memory.items) memory after l = subst (λ (bytes : List ℕ). PutsIn snap.state c.loop-snap.tables (memory_with_image (512 * snap.state.pages) 0 bytes) memory after l) c.deref.ensures.value c.in_ok-place_guest.ensures.ok in
    let pushed = c.in_ok-push.ensures.items in
    let more : length c.push.new.self.items ≡ k + 1 = ap (λ (xs : List Kept). length xs) pushed ∙ length-append c.loop-snap.guests.items (l ∷ []) in
    let put = one_more c.args.rows.now c.args.snaps.items k c.loop-snap.tables c.loop-snap.guests.items memory snap c.requires.few c.requires.some_pages c.loop-snap.invariant.put next after l head.there head.read one in
    record {
      put = subst (λ (ks : List Kept). ArePutIn c.args.rows.now (map snapshot_guest c.args.snaps.items) (pages_in c.args.rows.now) (length c.push.new.self.items) (first_page c.args.rows.now (length c.push.new.self.items)) (c.loop-snap.tables + 580) ks after) (sym pushed)
          (subst (λ n. ArePutIn c.args.rows.now (map snapshot_guest c.args.snaps.items) (pages_in c.args.rows.now) n (first_page c.args.rows.now n) (c.loop-snap.tables + 580) (c.loop-snap.guests.items ++ l ∷ []) after) (sym more) put);
      left = head.left ∙ ap (λ n. drop n c.args.snaps.items) (sym more);
      many = omega (arith, more, c.loop-snap.invariant.many, c.in-Some.ensures.steps.1);
      first = subst (λ (ks : List Kept). All HasFirst ks) (sym pushed) (all_more HasFirst c.loop-snap.guests.items l c.loop-snap.invariant.first c.in_ok-place_guest.ensures.present);
      alone = alone_then _ _ _ c.loop-snap.invariant.alone c.place_guest.ensures.alone;
    }

pub returns-in_err-place_guest-clause-alone : goal.returns-in_err-place_guest-clause-alone
returns-in_err-place_guest-clause-alone g c = alone_then _ _ _ c.loop-snap.invariant.alone c.place_guest.ensures.alone

pub returns-in_err-push-clause-alone : goal.returns-in_err-push-clause-alone
returns-in_err-push-clause-alone g c = alone_then _ _ _ c.loop-snap.invariant.alone c.place_guest.ensures.alone

pub returns-clause-placed : goal.returns-clause-placed
returns-clause-placed g c =
    let rows = c.args.rows.now in
    let snaps = c.args.snaps.items in
    let same : length snaps ≡ length rows = as_many_rows rows snaps 0 c.requires.places in
    let ends : length rows ≤ length c.loop-snap.guests.items = omega (arith, same, c.loop-snap.invariant.many, c.in-None.ensures.steps.0) in
    (all_put_in rows (map snapshot_guest snaps) (pages_in rows) (length c.loop-snap.guests.items) (first_page rows (length c.loop-snap.guests.items)) c.loop-snap.tables c.loop-snap.guests.items (g.H.Hardware.machine c.loop-snap.machine).memory refl ends (length-map snaps snapshot_guest ∙ same) c.requires.few c.requires.some_pages c.loop-snap.invariant.put).0

pub returns-clause-guests : goal.returns-clause-guests
returns-clause-guests g c =
    let rows = c.args.rows.now in
    let snaps = c.args.snaps.items in
    let same : length snaps ≡ length rows = as_many_rows rows snaps 0 c.requires.places in
    let ends : length rows ≤ length c.loop-snap.guests.items = omega (arith, same, c.loop-snap.invariant.many, c.in-None.ensures.steps.0) in
    (all_put_in rows (map snapshot_guest snaps) (pages_in rows) (length c.loop-snap.guests.items) (first_page rows (length c.loop-snap.guests.items)) c.loop-snap.tables c.loop-snap.guests.items (g.H.Hardware.machine c.loop-snap.machine).memory refl ends (length-map snaps snapshot_guest ∙ same) c.requires.few c.requires.some_pages c.loop-snap.invariant.put).1

pub returns-clause-present : goal.returns-clause-present
returns-clause-present g c = first_present c.loop-snap.guests.items c.loop-snap.invariant.first (g.H.Hardware.machine c.loop-snap.machine).memory

pub returns-clause-alone : goal.returns-clause-alone
returns-clause-alone g c = c.loop-snap.invariant.alone
