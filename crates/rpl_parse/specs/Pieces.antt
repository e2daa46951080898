-- Within the crate: what the scanner's code answers, seen as what the definitions speak of.
use Rattle.std.specs.Prelude.{◌≡◌, ◌≤◌, ◌<◌, ◌+◌, ℕ, pos, List, take, drop, length}
use Rattle.rpl_parse.specs.declared.front.Piece.{Piece}
use Rattle.rpl_parse.specs.declared.front.Piece.TheVariants as P
use Rattle.rpl_parse.specs.declared.scan.Found.{Found}
use Rattle.rpl_parse.specs.declared.scan.Found.TheVariants as F
use Rattle.rpl_parse.specs.Tokens.{mark, word, digits, text, token_seen}
use Rattle.rpl_parse.specs.Scan.{greatest, Front, gap, token, bad}

-- what stands at the front of some bytes
abbrev pub piece_seen : List ℕ → Piece → Front
piece_seen bs (P.Gap n) = gap n
piece_seen bs (P.Mark m n) = token (mark m) n
piece_seen bs (P.Name n) = token (word (take n bs)) n
piece_seen bs (P.Number v n) = token (digits (pos v)) n
piece_seen bs (P.Text n) = token (text (take n (drop 1 bs))) (n + 2)
piece_seen bs P.Bad = bad

-- it is at least one byte, and no more than there are
abbrev pub fits_piece : ℕ → Piece → Type 0
fits_piece most (P.Gap n) = (0 < n) × (n ≤ most)
fits_piece most (P.Mark m n) = (0 < n) × (n ≤ most)
fits_piece most (P.Name n) = (0 < n) × (n ≤ most)
fits_piece most (P.Number v n) = (v ≤ greatest) × (0 < n) × (n ≤ most)
fits_piece most (P.Text n) = n + 2 ≤ most
fits_piece most P.Bad = Unit {0}

-- what is found at a place of a text: as the bytes from there on say, and within the text
abbrev pub IsFound : List ℕ → ℕ → Found → Front → Type 0
IsFound source at (F.Gap n) f = (f ≡ gap n) × (0 < n) × (at + n ≤ length source)
IsFound source at (F.Token t n) f = (f ≡ token (token_seen source t) n) × (0 < n) × (at + n ≤ length source)
IsFound source at F.Bad f = f ≡ bad
