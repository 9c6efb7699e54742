-- A text without its comments. It is cut into pieces; each is a comment or one byte outside comments.
use Rattle.std.specs.Prelude.{◌≡◌, ℕ, zero, suc, Bool, false, ◌<◌, ◌++◌, List, [], ◌∷◌, drop, length, map, max, take}
use Rattle.std.specs.Prelude.{if◌then◌else◌}
use Rattle.cs_base.specs.{Comments.comment_len, Lines.space}

-- a space for each byte
abbrev pub spaces : List ℕ → List ℕ
spaces bytes = map (λ _. space) bytes

-- the plain form of a text's first piece; `len` is the length of the comment that begins the text, or 0
abbrev pub plain_piece : ℕ → List ℕ → List ℕ
plain_piece zero text = take 1 text
plain_piece (suc len) text = spaces (take (suc len) text)

-- the first n pieces in plain form
abbrev pub plain_pieces : ℕ → List ℕ → List ℕ
plain_pieces zero text = []
plain_pieces (suc n) text =
    plain_piece (comment_len text) text ++ plain_pieces n (drop (max 1 (comment_len text)) text)

-- a text with a space instead of each byte of a comment; it has at most as many pieces as bytes
abbrev pub plain_of : List ℕ → List ℕ
plain_of text = plain_pieces (length text) text

-- a piece of a text: a comment, or one byte
pub record CommentOrByte : Type 0 where
  pub is_comment : Bool
  pub bytes : List ℕ

-- the text made of the pieces
abbrev pub text_of : List CommentOrByte → List ℕ
text_of [] = []
text_of (p ∷ ps) = p.bytes ++ text_of ps

-- the plain form of the pieces
abbrev pub plain_by : List CommentOrByte → List ℕ
plain_by [] = []
plain_by (p ∷ ps) = (if p.is_comment then spaces p.bytes else p.bytes) ++ plain_by ps

-- a piece fits before the rest of a text: it is the comment that begins there, or a byte that begins no
-- comment
pub record Fits (p : CommentOrByte) (rest : List ℕ) : Type 0 where
  pub some : 0 < length p.bytes
  pub comment : comment_len (p.bytes ++ rest) ≡ (if p.is_comment then length p.bytes else 0)
  pub byte : p.is_comment ≡ false → length p.bytes ≡ 1

-- each piece fits before the pieces after it
abbrev pub AllFit : List CommentOrByte → Type 0
AllFit [] = Unit {0}
AllFit (p ∷ ps) = Fits p (text_of ps) × AllFit ps
