use Rattle.io_edge.proofs.Gains.{gained_front_more}
use Rattle.top_call.specs.Piece.{piece_text, pieces_text}
use Rattle.top_call.proofs.WriteLaws.{front_then}
use Rattle.top_call.proofs.piece.+write_pieces.Goals as goal

pub returns-in-Ok-clause-front : goal.returns-in-Ok-clause-front
returns-in-Ok-clause-front g t c =
    rw c.in-Some.ensures.cases.0 (front_then c.write_pieces.result _ _ _ (piece_text c.in-Some.piece.now) (pieces_text c.in-Some.others.now) c.in-Ok.ensures.all c.write_pieces.ensures.front)

pub returns-in-Err-clause-front : goal.returns-in-Err-clause-front
returns-in-Err-clause-front g t c = rw c.in-Some.ensures.cases.0 (gained_front_more _ _ (piece_text c.in-Some.piece.now) (pieces_text c.in-Some.others.now) c.in-Err.ensures.front)
