use Rattle.std.proofs.Common.{◌≡◌, ap, sym, ◌∙◌, subst, false, set}
use Rattle.vm_shadow.specs.Shadowed.{Remembers, Shadowed, is_flagged}
use Rattle.vm_shadow.proofs.Noting.{note_all, note_none, notes_seen}
use Rattle.vm_shadow.proofs.shadow.Shadow.note_write.Goals as goal

pub returns-then-is_flagged : goal.returns-then-is_flagged
returns-then-is_flagged g c =
    let flags : c.set_flag.new.flags.items ≡ set c.self.inside.consulted.items c.args.frame false = c.set_flag.ensures in
    rw flags (notes_seen c.args.frame (g.H.Hardware.machine c.args.machine.now) (g.H.Hardware.machine c.drop_read_from.new.machine) _ c.args.self.now _ c.self.view_is
    (note_all (g.H.Hardware.machine c.args.machine.now) (g.H.Hardware.machine c.drop_read_from.new.machine) _ c.drop_read_from.new.self c.args.frame (subst Remembers (sym c.self.view_is) c.requires.remembers) c.drop_read_from.ensures))

pub returns-else-is_flagged : goal.returns-else-is_flagged
returns-else-is_flagged g c =
    let told : is_flagged c.args.frame c.args.self.now.consulted ≡ false = ap (λ (s : Shadowed). is_flagged c.args.frame s.consulted) (sym c.self.view_is) ∙ ap (is_flagged c.args.frame) (sym c.deref.ensures.value) ∙ sym c.is_flagged.ensures ∙ c.if-is_flagged.false in
    note_none (g.H.Hardware.machine c.args.machine.now) c.args.self.now c.args.frame c.requires.remembers told
