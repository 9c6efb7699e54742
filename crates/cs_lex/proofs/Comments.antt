-- The length of a comment.
use Rattle.std.proofs.lemmas.{Grind.common_steps, Bool.false≢true, Bool.and_parts, Bool.Decides.nat_tests}
use Rattle.std.proofs.lemmas.{List.length-append, List.length-drop, List.Sums.prefix_len-le-length}
use Rattle.std.proofs.Common.{◌≡◌, ◌+◌, ◌<◌, ◌≤◌, ℕ, Bool, true, false, ◌&&◌, ◌||◌, not, List, length, drop, arith, sym}
use Rattle.std.proofs.Common.{◌∙◌, refl, codes, nat_lt, if◌then◌else◌}
use Rattle.std.specs.List.{list_any, prefix_len}
use Rattle.cs_base.specs.{Lines.is_line_byte, Comments.is_open_comment, Comments.comment_len}
use Rattle.cs_base.specs.Comments.{tails, closes, close_of, begins_line_comment, begins_block_comment, begins_comment}
use Rattle.cs_base.proofs.{Tests.by_test, Texts.front_is, Closings.close_fits, Closings.close_is_there}

pick_within : (line left_open block : Bool) (a b c n : ℕ) → a ≤ n → b ≤ n → (left_open ≡ false → block ≡ true → c ≤ n)
    → (if line then a else if left_open then b else if block then c else 0) ≤ n
pick_within true left_open block a b c n h k l = h
pick_within false true block a b c n h k l = k
pick_within false false true a b c n h k l = l refl refl
pick_within false false false a b c n h k l = omega arith

pick_some : (line left_open block : Bool) (a b c : ℕ) → (line || block) ≡ true → (line ≡ true → 0 < a)
    → (left_open ≡ true → 0 < b) → 0 < c → 0 < (if line then a else if left_open then b else if block then c else 0)
pick_some true left_open block a b c e h k l = h refl
pick_some false true block a b c e h k l = k refl
pick_some false false true a b c e h k l = l
pick_some false false false a b c e h k l = absurd (false≢true e)

not_and : (a b : Bool) → (a && not b) ≡ false → a ≡ true → b ≡ true
not_and true true h k = refl
not_and true false h k = absurd (false≢true (sym h))
not_and false b h k = absurd (false≢true k)

two_bytes : (text : List ℕ) → begins_block_comment text ≡ true → 2 ≤ length text
two_bytes text h = grind (arith, common_steps, codes, front_is, length-append)

closed_within : (text : List ℕ) → is_open_comment text ≡ false → begins_block_comment text ≡ true
    → close_of (drop 2 text) + 4 ≤ length text
closed_within text h k =
    let some = not_and (begins_block_comment text) (list_any closes (tails (drop 2 text))) h k in
    let there : nat_lt (close_of (drop 2 text)) (length (drop 2 text)) ≡ true = close_is_there (drop 2 text) ∙ some in
    let inside : close_of (drop 2 text) < length (drop 2 text) = grind (arith, nat_tests, there) in
    omega (arith, close_fits (drop 2 text) inside, length-drop 2 text, two_bytes text k)

-- a comment is at most as long as its text
pub comment_within : (text : List ℕ) → comment_len text ≤ length text
comment_within text = grind (arith, common_steps, closed_within, pick_within, prefix_len-le-length)

line_some : (text : List ℕ) → begins_line_comment text ≡ true → 0 < prefix_len is_line_byte text
line_some text h = grind (arith, common_steps, by_test, codes, front_is)

open_some : (text : List ℕ) → is_open_comment text ≡ true → 0 < length text
open_some text h = grind (arith, common_steps, and_parts, not, two_bytes)

-- a comment has at least one byte
pub comment_some : (text : List ℕ) → begins_comment text ≡ true → 0 < comment_len text
comment_some text h = grind (arith, common_steps, line_some, open_some, pick_some)

-- an open comment is a comment
pub open_begins : (text : List ℕ) → is_open_comment text ≡ true → begins_comment text ≡ true
open_begins text h = grind (arith, common_steps, and_parts, not)
