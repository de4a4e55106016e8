use Rattle.std.proofs.Common.{◌<◌, ◌+◌, ◌≤◌, ◌%◌, ℕ, Ok, Result, ap, sym, arith}
use Rattle.vv_base.specs.Width.{size_of}
use Rattle.vax_arch.specs.declared.mode.Intent.TheVariants.{Write}
use Rattle.vax_table.specs.Interaction.{Trouble}
use Rattle.vax_paged.specs.Paged.{at_byte}
use Rattle.vax_paged.proofs.InPage.{number_known, one_store_clear}
use Rattle.vax_paged.proofs.Knowing.{known_clear, known_placed}
use Rattle.vax_paged.proofs.known.Mapped.open_place.Goals as goal

pub returns-in-Some-clause-open : goal.returns-in-Some-clause-open
returns-in-Some-clause-open c =
    let memory = c.args.self.now.memory.now in
    let w = c.args.world.now in
    let ks = c.args.self.now.known.now in
    let va = c.args.va in
    let n = size_of c.args.w in
    let place : Result ℕ Trouble = Ok c.in-Some.place in
    let some : 0 < n = omega arith in
    let in_page : va % 512 + n ≤ 512 = omega arith in
    record {
      whole = λ v. record {
        placed_at = known_placed memory w ks Write va c.in-Some.place c.requires (sym c.in-Some.ensures.is);
        small = omega arith;
        in_page = in_page;
        in_memory = omega arith;
      };
      claimed = sym (number_known memory ks Write n va place (omega arith) some in_page (ap (at_byte Write va) c.in-Some.ensures.is));
      modified = λ v. one_store_clear memory w n va (omega arith) in_page (known_clear memory w ks va c.in-Some.place c.requires (sym c.in-Some.ensures.is));
    }
