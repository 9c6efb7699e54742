-- The comments of both languages: from `;` or `//` to the end of the line, and from `/*` to the next `*/`.
use Rattle.std.specs.Prelude.{ℕ, Bool, List, [], ◌∷◌, ◌+◌, ◌&&◌, ◌||◌, not, length, drop, codes, if◌then◌else◌}
use Rattle.std.specs.List.{list_any, position_or_len, prefix_len}
use Rattle.cs_base.specs.Lines.{begins_with, is_line_byte}

-- all nonempty suffixes of a text, the longest first
abbrev pub tails : List ℕ → List (List ℕ)
tails [] = []
tails (b ∷ rest) = (b ∷ rest) ∷ tails rest

-- whether a text begins with `*/`
abbrev pub closes : List ℕ → Bool
closes text = begins_with (codes "*/") text

-- the index of the first `*/` in a text, or the text's length if there is none
abbrev pub close_of : List ℕ → ℕ
close_of text = position_or_len closes (tails text)

-- whether a text begins with `;` or `//`
abbrev pub begins_line_comment : List ℕ → Bool
begins_line_comment text = begins_with (codes ";") text || begins_with (codes "//") text

-- whether a text begins with `/*`
abbrev pub begins_block_comment : List ℕ → Bool
begins_block_comment text = begins_with (codes "/*") text

-- whether a text begins with a comment
abbrev pub begins_comment : List ℕ → Bool
begins_comment text = begins_line_comment text || begins_block_comment text

-- whether a text begins with a `/*` that is never closed by a `*/`
abbrev pub is_open_comment : List ℕ → Bool
is_open_comment text = begins_block_comment text && not (list_any closes (tails (drop 2 text)))

-- the length of the comment at the start of a text: 0 if there is none, the rest of the line, everything
-- through the next `*/`, or the entire text
abbrev pub comment_len : List ℕ → ℕ
comment_len text =
    if begins_line_comment text then prefix_len is_line_byte text
    else if is_open_comment text then length text
    else if begins_block_comment text then close_of (drop 2 text) + 4
    else 0
