-- The text without its comments: byte by byte, as the code reads it, and piece by piece.
use Rattle.std.proofs.Common.{◌≡◌, ℕ, zero, suc, ◌+◌, ◌-◌, ◌<◌, ◌≤◌, ◌==◌, max, Bool, true, false, List, [], ◌∷◌, ◌++◌}
use Rattle.std.proofs.Common.{length, drop, take, get_or, arith, refl, ap, sym, ◌∙◌, append_assoc, append-nil}
use Rattle.std.proofs.{Common.if◌then◌else◌, Math.Seq.drop-nil, Math.Seq.drop-append_seam, Math.Seq.take-append_seam}
use Rattle.std.proofs.lemmas.Bool.Decides.{nat_tests}
use Rattle.std.proofs.lemmas.List.{drop_more, drop_all, length-append, length-drop, length-map, length-take}
use Rattle.cs_base.specs.{Comments.comment_len, Lines.space}
use Rattle.cs_score.specs.Plain.{AllFit, CommentOrByte, plain_by, plain_of, plain_piece, plain_pieces, spaces, text_of}
use Rattle.cs_score.specs.inner.Hidden.{hidden_here}

at_least_one : (n : ℕ) → max 1 (suc n) ≡ suc n
at_least_one n = omega arith

not_none : (n : ℕ) → (suc n == 0) ≡ false
not_none n = grind (arith, nat_tests)

one_less : (n : ℕ) → suc n - 1 ≡ n
one_less n = omega arith

shorter : (c n : ℕ) (text : List ℕ) → length text ≤ suc n → length (drop (max 1 c) text) ≤ n
shorter c n text l = omega (arith, length-drop (max 1 c) text)

no_piece : (c : ℕ) → plain_piece c [] ≡ []
no_piece zero = refl
no_piece (suc c) = refl

no_pieces : (n : ℕ) → plain_pieces n [] ≡ []
no_pieces zero = refl
no_pieces (suc n) =
    ap (λ t. t ++ plain_pieces n (drop (max 1 (comment_len [])) [])) (no_piece (comment_len []))
    ∙ ap (plain_pieces n) (drop-nil (max 1 (comment_len []))) ∙ no_pieces n

-- as many pieces as there are bytes cover the complete text
enough : (n m : ℕ) (text : List ℕ) → length text ≤ n → length text ≤ m → plain_pieces n text ≡ plain_pieces m text
enough zero m [] l k = sym (no_pieces m)
enough zero m (b ∷ rest) l k = absurd (omega arith)
enough (suc n) zero [] l k = no_pieces (suc n)
enough (suc n) zero (b ∷ rest) l k = absurd (omega arith)
enough (suc n) (suc m) text l k =
    ap (λ t. plain_piece (comment_len text) text ++ t)
    (enough n m (drop (max 1 (comment_len text)) text) (shorter (comment_len text) n text l)
    (shorter (comment_len text) m text k))

-- the rest of the plain form, if the first `hidden` bytes belong to a comment that began earlier
abbrev pub behind : ℕ → List ℕ → List ℕ
behind hidden text = spaces (take hidden text) ++ plain_of (drop hidden text)

hidden_byte : (c b : ℕ) (rest : List ℕ)
    → (if suc c == 0 then b else space) ∷ behind (suc c - 1) rest ≡ space ∷ behind c rest
hidden_byte c b rest = rw (not_none c, one_less c) refl

still_hidden : (hidden : ℕ) (text : List ℕ) → hidden_here (suc hidden) text ≡ suc hidden
still_hidden hidden text = rw (not_none hidden) refl

first_byte : (c b : ℕ) (rest : List ℕ)
    → plain_piece c (b ∷ rest) ++ plain_pieces (length rest) (drop (max 1 c) (b ∷ rest))
    ≡ (if c == 0 then b else space) ∷ behind (c - 1) rest
first_byte zero b rest = refl
first_byte (suc c) b rest =
    ap (λ n. plain_piece (suc c) (b ∷ rest) ++ plain_pieces (length rest) (drop n (b ∷ rest))) (at_least_one c)
    ∙ ap (λ t. space ∷ (spaces (take c rest) ++ t))
    (enough (length rest) (length (drop c rest)) (drop c rest) (omega (arith, length-drop c rest)) (omega arith))
    ∙ sym (hidden_byte c b rest)

next_byte : (hidden b : ℕ) (rest : List ℕ) → behind hidden (b ∷ rest)
    ≡ (if hidden_here hidden (b ∷ rest) == 0 then b else space) ∷ behind (hidden_here hidden (b ∷ rest) - 1) rest
next_byte zero b rest = first_byte (comment_len (b ∷ rest)) b rest
next_byte (suc hidden) b rest =
    sym (ap (λ n. (if n == 0 then b else space) ∷ behind (n - 1) rest) (still_hidden hidden (b ∷ rest))
    ∙ hidden_byte hidden b rest)

pub byte_read : (text plain plain' whole : List ℕ) (at hidden here hidden' b : ℕ) → at < length text
    → here ≡ hidden_here hidden (drop at text) → b ≡ (if here == 0 then get_or text at 0 else space)
    → plain' ≡ plain ++ b ∷ [] → hidden' ≡ here - 1 → plain ++ behind hidden (drop at text) ≡ whole
    → plain' ++ behind hidden' (drop (at + 1) text) ≡ whole
byte_read text plain plain' whole at hidden here hidden' b l e is more less read =
    let split = drop_more text at 0 l in
    let first = get_or text at 0 in
    let rest = drop (at + 1) text in
    let now : here ≡ hidden_here hidden (first ∷ rest) = e ∙ ap (hidden_here hidden) split in
    let next : behind hidden (drop at text) ≡ b ∷ behind (here - 1) rest =
    ap (behind hidden) split ∙ next_byte hidden first rest
    ∙ ap (λ n. (if n == 0 then first else space) ∷ behind (n - 1) rest) (sym now)
    ∙ ap (λ x. x ∷ behind (here - 1) rest) (sym is) in
    ap (λ p. p ++ behind hidden' rest) more ∙ ap (λ n. (plain ++ b ∷ []) ++ behind n rest) less
    ∙ append_assoc plain (b ∷ []) (behind (here - 1) rest) ∙ ap (λ t. plain ++ t) (sym next) ∙ read

none_behind : (hidden : ℕ) → behind hidden [] ≡ []
none_behind zero = refl
none_behind (suc hidden) = refl

pub bytes_read : (text plain whole : List ℕ) (at hidden : ℕ) → length text ≤ at
    → plain ++ behind hidden (drop at text) ≡ whole → plain ≡ whole
bytes_read text plain whole at hidden all read =
    sym (append-nil plain) ∙ ap (λ t. plain ++ t) (sym (ap (behind hidden) (drop_all at text all) ∙ none_behind hidden))
    ∙ read

-- the text without its comments has the same length
length-piece : (c : ℕ) (text : List ℕ) → length (plain_piece c text) + length (drop (max 1 c) text) ≡ length text
length-piece zero text = omega (arith, length-take 1 text, length-drop 1 text)
length-piece (suc c) text =
    omega (
      arith,
      length-map (take (suc c) text) (λ _. space),
      length-take (suc c) text,
      length-drop (max 1 (suc c)) text,
      at_least_one c,
    )

piece_and_rest : (n c : ℕ) (text : List ℕ)
    → length (plain_pieces n (drop (max 1 c) text)) ≡ length (drop (max 1 c) text)
    → length (plain_piece c text ++ plain_pieces n (drop (max 1 c) text)) ≡ length text
piece_and_rest n c text rest =
    omega (arith, length-append (plain_piece c text) (plain_pieces n (drop (max 1 c) text)), length-piece c text, rest)

length-pieces : (n : ℕ) (text : List ℕ) → length text ≤ n → length (plain_pieces n text) ≡ length text
length-pieces zero [] l = refl
length-pieces zero (b ∷ rest) l = absurd (omega arith)
length-pieces (suc n) text l =
    piece_and_rest n (comment_len text) text
    (length-pieces n (drop (max 1 (comment_len text)) text) (shorter (comment_len text) n text l))

pub length-plain : (text : List ℕ) → length (plain_of text) ≡ length text
length-plain text = length-pieces (length text) text (omega arith)

-- the plain form of the first piece
module _ (plain : List ℕ → List ℕ) (rest : List ℕ) where
  piece_first : (comment : Bool) (bytes : List ℕ) → 0 < length bytes → (comment ≡ false → length bytes ≡ 1)
      → plain_piece (if comment then length bytes else 0) (bytes ++ rest)
      ++ plain (drop (max 1 (if comment then length bytes else 0)) (bytes ++ rest))
      ≡ (if comment then spaces bytes else bytes) ++ plain rest
  piece_first comment [] some one = absurd (omega arith)
  piece_first true (b ∷ bytes) some one =
      ap (λ n. plain_piece (suc (length bytes)) (b ∷ bytes ++ rest) ++ plain (drop n (b ∷ bytes ++ rest)))
      (at_least_one (length bytes))
      ∙ ap (λ t. plain_piece (suc (length bytes)) (b ∷ bytes ++ rest) ++ plain t) (drop-append_seam bytes rest)
      ∙ ap (λ t. (space ∷ spaces t) ++ plain rest) (take-append_seam bytes rest)
  piece_first false (b ∷ []) some one = refl
  piece_first false (b ∷ c ∷ bytes) some one = absurd (omega (arith, one refl))

all_pieces : (n : ℕ) (pieces : List CommentOrByte) → AllFit pieces → length (text_of pieces) ≤ n
    → plain_pieces n (text_of pieces) ≡ plain_by pieces
all_pieces n [] fit l = no_pieces n
all_pieces zero (p ∷ ps) fit l = absurd (omega (arith, length-append p.bytes (text_of ps), fit.0.some))
all_pieces (suc n) (p ∷ ps) fit l =
    let text = p.bytes ++ text_of ps in
    let fewer : length (text_of ps) ≤ n = omega (arith, length-append p.bytes (text_of ps), fit.0.some) in
    ap (λ c. plain_piece c text ++ plain_pieces n (drop (max 1 c) text)) fit.0.comment
    ∙ piece_first (plain_pieces n) (text_of ps) p.is_comment p.bytes fit.0.some fit.0.byte
    ∙ ap (λ t. (if p.is_comment then spaces p.bytes else p.bytes) ++ t) (all_pieces n ps fit.1 fewer)

pub by_pieces : (pieces : List CommentOrByte) → AllFit pieces → plain_of (text_of pieces) ≡ plain_by pieces
by_pieces pieces fit = all_pieces (length (text_of pieces)) pieces fit (omega arith)
