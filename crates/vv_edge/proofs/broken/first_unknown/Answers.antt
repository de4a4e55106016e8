use Rattle.std.proofs.Common.{◌∙◌, ◌≡◌, Some, None, option_map, string_bytes, sym, ap}
use Rattle.std.specs.Option.{option_copied}
use Rattle.vv_edge.proofs.Rows.{find_unknown}
use Rattle.vv_edge.proofs.broken.first_unknown.Goals as goal

pub returns-in-Some : goal.returns-in-Some
returns-in-Some c =
    ap Some c.as_str.ensures.value ∙ ap (λ o. option_map string_bytes (option_copied o)) (sym c.in-Some.is) ∙ ap (option_map string_bytes) c.find_unknown.ensures ∙ find_unknown c.args.needed.now c.args.more.now c.args.table.now.entries

pub returns-in-None : goal.returns-in-None
returns-in-None c = ap (λ o. option_map string_bytes (option_copied o)) (sym c.in-None.is) ∙ ap (option_map string_bytes) c.find_unknown.ensures ∙ find_unknown c.args.needed.now c.args.more.now c.args.table.now.entries
