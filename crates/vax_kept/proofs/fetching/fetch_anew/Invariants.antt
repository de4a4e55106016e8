use Rattle.std.proofs.Common.{◌≡◌, ◌+◌}
use Rattle.arrayvec.specs.ArrayVec.{array_vec_len}
use Rattle.vax_paged.specs.Paged.{paged}
use Rattle.vax_table.specs.Fetch.{decided, fetched}
use Rattle.vax_table.specs.Interaction.{outcome}
use Rattle.vax_kept.proofs.fetching.fetch_anew.Given as goal

abbrev pub invariant-loop-looks : goal.invariant-loop-looks
invariant-loop-looks l = record {
  same : outcome (paged l.space.memory.now l.space.world.now) (decided l._looks l.pc l.bytes.items) ≡ outcome (paged l.space.memory.now l.space.world.now) (fetched l.pc);
  room : array_vec_len l.bytes + l._looks ≡ 22;
}
