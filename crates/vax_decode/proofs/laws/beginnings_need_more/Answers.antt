use Rattle.vax_decode.proofs.RoundTrip.{wants_more}
use Rattle.vax_decode.proofs.laws.beginnings_need_more.Goals as goal

pub returns : goal.returns
returns c = wants_more
