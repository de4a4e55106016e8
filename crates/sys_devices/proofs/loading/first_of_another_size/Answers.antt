use Rattle.std.proofs.Common.{map, sym, subst, ◌∙◌, ap, All}
use Rattle.std.proofs.lemmas.List.{take_all}
use Rattle.std.proofs.lemmas.List.Elements.{All-nil}
use Rattle.sys_devices.proofs.Places.{all_more, stands}
use Rattle.sys_devices.specs.Rows.{FitsDrive, drive_at}
use Rattle.sys_devices.proofs.loading.first_of_another_size.Goals as goal

pub loop-place-init : goal.loop-place-init
loop-place-init g c = All-nil (FitsDrive (map (λ b. (goal.Drive-dyn g (b.vtable, b.value)).kept b.value) c.args.drives.now.items))

pub returns-then-blocks_on-row : goal.returns-then-blocks_on-row
returns-then-blocks_on-row g c =
    let drives = map (λ b. (goal.Drive-dyn g (b.vtable, b.value)).kept b.value) c.args.drives.now.items in
    record {
      row = c.index-rows-place.result;
      stands = stands c.args.rows.now c.loop-place.place c.index-rows-place.result c.loop-place-test.true c.index-rows-place.is;
      differs = λ fits. c.if-blocks_on-row.true (c.blocks_on.ensures.size ∙ ap (λ d. (drive_at drives d).size) c.from.ensures ∙ fits);
      before = c.loop-place.invariant;
    }

pub loop-place-preserved : goal.loop-place-preserved
loop-place-preserved g c =
    let drives = map (λ b. (goal.Drive-dyn g (b.vtable, b.value)).kept b.value) c.args.drives.now.items in
    all_more (FitsDrive drives) c.args.rows.now c.loop-place.place c.index-rows-place.result c.loop-place-test.true c.index-rows-place.is c.loop-place.invariant
    (ap (λ d. (drive_at drives d).size) (sym c.from.ensures) ∙ sym c.blocks_on.ensures.size ∙ c.if-blocks_on-row.false)

pub returns : goal.returns
returns g c =
    let drives = map (λ b. (goal.Drive-dyn g (b.vtable, b.value)).kept b.value) c.args.drives.now.items in
    subst (All (FitsDrive drives)) (take_all c.loop-place.place c.args.rows.now c.loop-place-test.false) c.loop-place.invariant
