use Rattle.std.proofs.Common.{◌≡◌, ℕ, ◌/◌, Bool, true, false, List, Option, Some, None, refl, ap, sym, ◌∙◌}
use Rattle.vax_arch.specs.Walk.{Tables}
use Rattle.vax_arch.specs.declared.mode.Intent.{Intent}
use Rattle.vax_arch.specs.declared.mode.Mode.{Mode}
use Rattle.vax_hw.specs.Machine.{machine_tables}
use Rattle.vax_hw.specs.RealTables.{access_judged, access_judged_at, both_judged, real_look}
use Rattle.vax_cpu.proofs.probe.both_judged.Goals as goal

twice : (x : Option Bool) → x ≡ both_judged x x
twice (Some true) = refl
twice (Some false) = refl
twice None = refl

-- bytes of one page have one entry
one_entry : (memory : List ℕ) (t : Tables) (m : Mode) (i : Intent) (base last : ℕ) → last / 512 ≡ base / 512 →
    access_judged memory t m i base ≡ both_judged (access_judged memory t m i base) (access_judged memory t m i last)
unfolding access_judged
one_entry memory t m i base last same =
    twice (access_judged_at memory m i (real_look memory t (base / 512)))
    ∙ ap (λ (page : ℕ). both_judged (access_judged_at memory m i (real_look memory t (base / 512))) (access_judged_at memory m i (real_look memory t page))) (sym same)

pub returns-then-last-base : goal.returns-then-last-base
returns-then-last-base c =
    c.judged-first.ensures ∙ one_entry c.args.space.now.memory.now (machine_tables c.args.space.now.world.now) c.args.m c.args.i c.args.base c.args.last c.if-last-base.true
