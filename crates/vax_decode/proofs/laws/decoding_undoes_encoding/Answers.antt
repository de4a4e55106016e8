use Rattle.vax_decode.proofs.RoundTrip.{round_trip}
use Rattle.vax_decode.proofs.laws.decoding_undoes_encoding.Goals as goal

pub returns : goal.returns
returns c = round_trip
