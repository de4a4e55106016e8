use Rattle.std.proofs.Common.{[], ap, ◌∷◌, ◌∙◌}
use Rattle.vm_console.specs.Console.{after_typed}
use Rattle.vm_guest.proofs.Becoming.{typed_more}
use Rattle.vm_guest.proofs.typing.type_line.Goals as goal

pub returns : goal.returns
returns c = c.type_byte.ensures.after ∙ ap (λ x. after_typed x 13) c.type_all.ensures ∙ typed_more c.args.text.now (13 ∷ []) c.args.console.now
