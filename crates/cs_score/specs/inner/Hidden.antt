-- The bytes of comments, found byte after byte.
use Rattle.std.specs.Prelude.{ℕ, ◌==◌, List, if◌then◌else◌}
use Rattle.cs_base.specs.Comments.{comment_len}

-- the number of bytes from here on that are a comment; `hidden` of them belong to a comment that began
-- earlier
abbrev pub hidden_here : ℕ → List ℕ → ℕ
hidden_here hidden text = if hidden == 0 then comment_len text else hidden
