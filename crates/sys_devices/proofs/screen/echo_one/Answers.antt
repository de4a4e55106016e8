use Rattle.std.proofs.Common.{◌∙◌, drop, refl, slice_index_or}
use Rattle.vv_io.specs.Lines.{unseen}
use Rattle.sys_devices.proofs.Puts.{hands_on}
use Rattle.sys_devices.specs.Screens.{shown_if_known}
use Rattle.sys_devices.proofs.Parts.{part_begins, part_ends, part_goes_on, part_stops}
use Rattle.sys_devices.proofs.ReadingBytes.{all_seen, nothing_read, piece_shown, piece_within, was_read}
use Rattle.sys_devices.proofs.Shown.{one_echo}
use Rattle.sys_devices.proofs.Whole.{all_pieces}
use Rattle.sys_devices.proofs.screen.echo_one.Goals as goal
use Rattle.sys_devices.proofs.screen.echo_one.Goals.{else-loop-screen-test, then-loop-screen-test+then-count-eq0}

pub loop-screen-init : goal.loop-screen-init
loop-screen-init g c =
    let screen = c.args.screen.now in
    let line = slice_index_or (g.L.Lines.lines c.args.lines.now) screen.line unseen in
    record {
      same = record { name = refl; line = refl };
      put = part_begins _ _ _ _ (λ told. all_pieces screen.name (drop screen.seen (shown_if_known line.shown)));
      within = λ within. within;
      stays = refl;
    }

pub loop-screen-preserved : goal.loop-screen-preserved
loop-screen-preserved g c =
    let before = c.loop-screen.invariant in
    record {
      same = record { name = before.same.name; line = before.same.line };
      put = part_goes_on _ _ _ _ _ _ _ _ (piece_shown _ _ _ _ _ _ _ _ _ _ _ _ _ _ (was_read _ _ _ _ _ _ _ before.stays refl c.read_back_from-count.ensures.reads) c.shown_len_of-end.ensures c.loop-screen-test.true c.read_back_from-count.array_long c.saturating_add-screen.ensures refl before.same.name c.in_ok-is_begun.ensures.begun) before.put c.in_ok-is_begun.ensures.shown;
      within = λ _. piece_within _ _ _ _ _ _ _ _ _ _ (was_read _ _ _ _ _ _ _ before.stays refl c.read_back_from-count.ensures.reads) c.shown_len_of-end.ensures c.loop-screen-test.true c.read_back_from-count.array_long c.saturating_add-screen.ensures before.same.line;
      stays = c.read_back_from-count.ensures.stays ∙ before.stays;
    }

pub returns-in_err-is_begun-clause-echoes : goal.returns-in_err-is_begun-clause-echoes
returns-in_err-is_begun-clause-echoes g c =
    let before = c.loop-screen.invariant in
    one_echo _ _ _ _ _ (part_stops _ _ _ _ _ _ _ _ _ (hands_on _ c.from_residual.result c.from_residual.ensures.1) (piece_shown _ _ _ _ _ _ _ _ _ _ _ _ _ _ (was_read _ _ _ _ _ _ _ before.stays refl c.read_back_from-count.ensures.reads) c.shown_len_of-end.ensures c.loop-screen-test.true c.read_back_from-count.array_long c.saturating_add-screen.ensures refl before.same.name refl) before.put c.in_err-is_begun.ensures.shown)

pub returns-in_err-is_begun-clause-within : goal.returns-in_err-is_begun-clause-within
returns-in_err-is_begun-clause-within g c =
    let before = c.loop-screen.invariant in
    λ _. piece_within _ _ _ _ _ _ _ _ _ _ (was_read _ _ _ _ _ _ _ before.stays refl c.read_back_from-count.ensures.reads) c.shown_len_of-end.ensures c.loop-screen-test.true c.read_back_from-count.array_long c.saturating_add-screen.ensures before.same.line

pub returns-clause-echoes : goal.returns-clause-echoes
returns-clause-echoes g c =
    let before = c.loop-screen.invariant in
    elim c.loop-screen-test.branch [
      | else-loop-screen-test w ↦ one_echo _ _ _ _ _ (part_ends _ _ _ _ _ _ _ _ (all_seen (g.L.Lines.lines c.args.lines.now) c.args.screen.now.line c.args.screen.now.line _ _ c.args.screen.now.name c.loop-screen.is_begun refl c.shown_len_of-end.ensures w.loop-screen-test.false) before.put c.put_end.ensures)
      | then-loop-screen-test+then-count-eq0 w ↦ one_echo _ _ _ _ _ (part_ends _ _ _ _ _ _ _ _ (nothing_read _ _ _ _ _ _ _ c.args.screen.now.name c.loop-screen.is_begun (was_read _ _ _ _ _ _ _ before.stays refl w.read_back_from-count.ensures.reads) w.if-count-eq0.true w.read_back_from-count.array_long) before.put c.put_end.ensures)
    ]
