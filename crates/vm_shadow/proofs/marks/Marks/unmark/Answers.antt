use Rattle.std.proofs.Common.{◌<◌, ◌/◌, arith, length, sym, ap, ◌∙◌}
use Rattle.std.proofs.lemmas.List.{get_or_default}
use Rattle.vm_shadow.proofs.Sets.{unmarks}
use Rattle.vm_shadow.proofs.marks.Marks.unmark.Goals as goal

pub returns : goal.returns
returns c =
    let words = c.self.inside.words.items in
    let within : c.args.n / 64 < length words = omega (arith, c.requires, ap length c.self.view_is) in
    rw (← c.self.view_is) (unmarks words c.args.n c.index-word.result.now (omega (arith, c.requires, ap length c.self.view_is)) (sym (get_or_default words (c.args.n / 64) _ _ within ∙ sym c.index-word.ensures)))
