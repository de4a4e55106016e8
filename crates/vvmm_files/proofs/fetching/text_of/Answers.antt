use Rattle.std.proofs.Common.{◌∙◌, ap, arith, drop, length, take}
use Rattle.std.proofs.lemmas.List.{length-drop}
use Rattle.vvmm_files.proofs.SnapText.{text_fits, text_is}
use Rattle.vvmm_files.proofs.fetching.text_of.Goals as goal

pub get_u32-length-requires : goal.get_u32-length-requires
get_u32-length-requires c = omega (arith, text_fits c.args.bytes.now c.requires.0 c.requires.1)

pub from_text-rest-requires : goal.from_text-rest-requires
from_text-rest-requires c = omega (arith, text_fits c.args.bytes.now c.requires.0 c.requires.1)

pub split_at-requires : goal.split_at-requires
split_at-requires c =
    let rest = ap length c.from_text-rest.ensures in
    omega (arith, text_fits c.args.bytes.now c.requires.0 c.requires.1, c.get_u32-length.ensures, rest, length-drop 12 c.args.bytes.now)

pub returns : goal.returns
returns c m is =
    c.split_at.ensures.front
    ∙ ap (take c.get_u32-length.result) c.from_text-rest.ensures
    ∙ ap (λ n. take n (drop 12 c.args.bytes.now)) c.get_u32-length.ensures
    ∙ text_is c.args.bytes.now m is
