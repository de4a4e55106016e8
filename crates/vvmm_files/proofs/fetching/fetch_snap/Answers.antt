use Rattle.std.proofs.Common.{ℕ, ◌∙◌, List, subst, sym}
use Rattle.std.proofs.lemmas.Result.{err_from_is_err_and}
use Rattle.sys_snap.specs.Held.{snapshot_moment}
use Rattle.sys_snap.specs.Snap.{IsSnap}
use Rattle.vvmm_files.proofs.SnapText.{one_text}
use Rattle.vvmm_files.proofs.Stopping.{stops_snap}
use Rattle.vvmm_files.proofs.fetching.fetch_snap.Goals as goal

pub returns-in_err-snap-clause-fetches : goal.returns-in_err-snap-clause-fetches
returns-in_err-snap-clause-fetches g c =
    let p = err_from_is_err_and c.from_residual-in_err-snap.result c.from_residual-in_err-snap.ensures.1 in
    rw (p.1, p.2) (stops_snap (g.S.Shelf.files c.args.shelf.now) c.args.name.now c.in_ok-bytes.bytes.items c.as_slice.result.now (g.S.Shelf.faults c.args.shelf.now) (g.S.Shelf.faults c.fetch_file.new.shelf) _ c.in_ok-bytes.ensures.fetches.0 c.in_ok-bytes.ensures.fetches.1
    c.as_slice.ensures.value c.in_err-snap.ensures.means)

pub text_of-requires : goal.text_of-requires
text_of-requires g c = (snapshot_moment c.in_ok-snap.snap, subst (λ (bytes : List ℕ). IsSnap bytes (snapshot_moment c.in_ok-snap.snap)) (c.as_slice.ensures.value ∙ sym c.as_slice-2.ensures.value) c.in_ok-snap.ensures.means)

pub returns-clause-fetches : goal.returns-clause-fetches
returns-clause-fetches g c =
    let m = snapshot_moment c.in_ok-snap.snap in
    let is : IsSnap c.in_ok-bytes.bytes.items m = subst (λ (bytes : List ℕ). IsSnap bytes m) c.as_slice.ensures.value c.in_ok-snap.ensures.means in
    let again : IsSnap c.as_slice-2.result.now m = subst (λ (bytes : List ℕ). IsSnap bytes m) (c.as_slice.ensures.value ∙ sym c.as_slice-2.ensures.value) c.in_ok-snap.ensures.means in
    let text = c.in_ok-text.ensures.items ∙ c.text_of.ensures m again ∙ one_text c.as_slice-2.result.now c.in_ok-bytes.bytes.items m m c.as_slice-2.ensures.value again is in
    (record { bytes = c.in_ok-bytes.bytes.items; read = c.in_ok-bytes.ensures.fetches.0; is = is }, text, c.in_ok-bytes.ensures.fetches.1)
