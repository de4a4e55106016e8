use Rattle.std.proofs.Common.{◌≤◌, List, arith, subst, sym}
use Rattle.std.specs.List.{sum_by}
use Rattle.sys_objects.specs.declared.records.GuestRow.{GuestRow}
use Rattle.sys_objects.specs.declared.records.VolumeRow.{VolumeRow}
use Rattle.vvmm_files.proofs.Sizes.{few_blocks}
use Rattle.vvmm_files.proofs.fetching.fits_snap.Goals as goal

pub all_blocks-blocks-requires : goal.all_blocks-blocks-requires
all_blocks-blocks-requires c = subst (λ (rows : List VolumeRow). sum_by (λ row. row.blocks) rows ≤ 32768) (sym c.as_slice-2.ensures) (few_blocks c.args.config.now c.requires)

pub overflow_add-pages : goal.overflow_add-pages
overflow_add-pages c =
    let pages = subst (λ (rows : List GuestRow). sum_by (λ row. row.pages) rows ≤ 16384) (sym c.as_slice.ensures) c.requires.pages in
    let blocks = subst (λ (rows : List VolumeRow). sum_by (λ row. row.blocks) rows ≤ 32768) (sym c.as_slice-2.ensures) (few_blocks c.args.config.now c.requires) in
    omega (arith, c.all_pages-pages.ensures, c.all_blocks-blocks.ensures, pages, blocks)

pub overflow_mul-pages : goal.overflow_mul-pages
overflow_mul-pages c =
    let pages = subst (λ (rows : List GuestRow). sum_by (λ row. row.pages) rows ≤ 16384) (sym c.as_slice.ensures) c.requires.pages in
    let blocks = subst (λ (rows : List VolumeRow). sum_by (λ row. row.blocks) rows ≤ 32768) (sym c.as_slice-2.ensures) (few_blocks c.args.config.now c.requires) in
    omega (arith, c.all_pages-pages.ensures, c.all_blocks-blocks.ensures, pages, blocks)
