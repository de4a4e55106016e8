use Rattle.sys_flow.proofs.Members.{drawn, edge_of_arrow, how_many_arrows, how_many_boxes}
use Rattle.sys_flow.proofs.laws.drawing_laws.Goals as goal

pub returns : goal.returns
returns c = record { boxes = how_many_boxes; arrows = how_many_arrows; edges = λ k a b. (edge_of_arrow k a b, drawn k a b) }
