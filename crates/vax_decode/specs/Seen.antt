-- What the code's pieces say, in the words of reading.
use Rattle.std.specs.Prelude.{List}
use Rattle.vax_table.specs.declared.decoded.Decoded.{Decoded}
use Rattle.vax_table.specs.declared.decoded.Spec.{Spec}
use Rattle.vax_table.specs.Reading.{AtFront, Got, More, Bad}
use Rattle.vax_decode.specs.declared.read.Piece.{Piece}
use Rattle.vax_decode.specs.declared.read.Piece.TheVariants as pieces
use Rattle.vax_decode.specs.declared.scan.Pieces.{Pieces}
use Rattle.vax_decode.specs.declared.scan.Pieces.TheVariants as all
use Rattle.vax_decode.specs.declared.outcome.Decode.{Decode}
use Rattle.vax_decode.specs.declared.outcome.Decode.TheVariants.{Done, NeedMore, Fault}
use Rattle.vax_decode.specs.declared.outcome.Front.{Front}
use Rattle.vax_decode.specs.declared.outcome.Front.TheVariants as fronts

abbrev pub piece_view : Piece → AtFront Spec
piece_view (pieces.Got s rest) = Got s rest.now
piece_view pieces.More = More
piece_view pieces.Bad = Bad

-- with the operands that were read
abbrev pub all_pieces_view : List Spec → Pieces → AtFront (List Spec)
all_pieces_view specs (all.Got rest) = Got specs rest.now
all_pieces_view specs all.More = More
all_pieces_view specs all.Bad = Bad

-- an answer with the instruction that was read
abbrev pub answer_with : Decoded → Front → Decode
answer_with d fronts.Done = Done d
answer_with d fronts.NeedMore = NeedMore
answer_with d (fronts.Fault why) = Fault why
