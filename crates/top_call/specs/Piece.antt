-- The pieces of a line.
use Rattle.std.specs.Prelude.{ℕ, List, flat_map}
use Rattle.std.specs.Fmt.{decimal}
use Rattle.top_call.specs.declared.piece.Piece.{Piece}
use Rattle.top_call.specs.declared.piece.Piece.TheVariants.{Words, Number}

-- the bytes of a piece: its own, or a number in decimal
abbrev pub piece_text : Piece → List ℕ
piece_text (Words words) = words.now
piece_text (Number number) = decimal number

-- the bytes of some pieces, one after the other
abbrev pub pieces_text : List Piece → List ℕ
pieces_text pieces = flat_map piece_text pieces
