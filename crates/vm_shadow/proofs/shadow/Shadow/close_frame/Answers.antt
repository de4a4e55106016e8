use Rattle.std.proofs.Common.{arith, refl, subst, sym, []}
use Rattle.vm_shadow.specs.Marks.{Frees}
use Rattle.vm_shadow.specs.Shadowed.{Keeps}
use Rattle.vm_shadow.proofs.Protecting.{frees_all, frees_none, frees_seen}
use Rattle.vm_shadow.proofs.Ways.{flags_size}
use Rattle.vm_shadow.proofs.shadow.Shadow.close_frame.Goals as goal

pub is_clear-requires-clause-within : goal.is_clear-requires-clause-within
is_clear-requires-clause-within g c =
    let k = subst (Keeps [] [] (g.H.Hardware.machine c.args.machine.now).memory) (sym c.self.view_is) c.requires in
    omega (arith, k.remembers.writable, flags_size c.self.inside.writable, c.if-frame-self.true)

pub close_entries-requires-clause-row : goal.close_entries-requires-clause-row
close_entries-requires-clause-row g c =
    let k = subst (Keeps [] [] (g.H.Hardware.machine c.args.machine.now).memory) (sym c.self.view_is) c.requires in
    omega (arith, k.remembers.writable, flags_size c.self.inside.writable, c.if-frame-self.true)

pub close_entries-requires-clause-rows : goal.close_entries-requires-clause-rows
close_entries-requires-clause-rows g c =
    let k = subst (Keeps [] [] (g.H.Hardware.machine c.args.machine.now).memory) (sym c.self.view_is) c.requires in
    omega (arith, k.remembers.writable, k.fits.small, flags_size c.self.inside.writable)

pub clear-requires-clause-within : goal.clear-requires-clause-within
clear-requires-clause-within g c =
    let k = subst (Keeps [] [] (g.H.Hardware.machine c.args.machine.now).memory) (sym c.self.view_is) c.requires in
    omega (arith, k.remembers.writable, flags_size c.self.inside.writable, c.if-frame-self.true)

pub returns-then-is_clear : goal.returns-then-is_clear
returns-then-is_clear g c =
    let before = g.H.Hardware.machine c.args.machine.now in
    frees_seen c.args.frame before before _ c.args.self.now _ c.self.view_is
    (subst (Frees c.args.frame before _ before) c.self.view_is
    (frees_none c.args.frame c.self.inside.writable before _ (subst (Keeps [] [] before.memory) (sym c.self.view_is) c.requires) refl (c.is_clear.ensures c.if-is_clear.true)))

pub returns-else-is_clear : goal.returns-else-is_clear
returns-else-is_clear g c =
    let before = g.H.Hardware.machine c.args.machine.now in
    let after = g.H.Hardware.machine c.close_entries.new.machine in
    rw c.close_entries.ensures.same (frees_seen c.args.frame before after _ c.args.self.now _ c.self.view_is
    (frees_all c.args.frame c.self.inside.writable c.clear.new.self before after _ (subst (Keeps [] [] before.memory) (sym c.self.view_is) c.requires) refl c.close_entries.ensures.shuts c.clear.ensures))
